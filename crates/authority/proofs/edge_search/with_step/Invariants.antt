use Rattle.std.proofs.Common.{reverse, take}
use Rattle.authority.specs.Glue.EdgeTables.{IsFound}
use Rattle.authority.proofs.Stepping.{IsPartly}
use Rattle.authority.proofs.edge_search.with_step.Given as goal

abbrev pub invariant-loop-place : goal.invariant-loop-place
invariant-loop-place l = IsFound (IsPartly (reverse (take l.index l.steps)) l.vat l.number l.cap-items l.place) l.found
