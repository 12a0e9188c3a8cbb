use Rattle.decoded_records.specs.Borrowed.{as_view}
use Rattle.vat_view.specs.Glue.TurnTables.{turns_of}
use Rattle.vat_view.proofs.Hopping.{Walked}
use Rattle.vat_view.proofs.walks.hops.last.Given as goal

abbrev pub invariant-loop-hop : goal.invariant-loop-hop
invariant-loop-hop l = Walked (turns_of l.turns l.bound) l.hop (as_view l.fn.view) (as_view l.at) (as_view l.mark)
