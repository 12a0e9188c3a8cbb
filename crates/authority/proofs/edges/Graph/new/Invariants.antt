use Rattle.std.proofs.Common.{◌≡◌, ◌++◌, map}
use Rattle.authority.specs.Shown.{edge_of}
use Rattle.authority.specs.Glue.EdgePlaces.{place_edge}
use Rattle.authority.proofs.edges.Graph.new.Given as goal

abbrev pub invariant-loop-vat : goal.invariant-loop-vat
invariant-loop-vat l = map edge_of l.edges.items ++ map place_edge l.vat-iterator ≡ map place_edge l.fn.table.entries
