use Rattle.std.proofs.Common.{◌≡◌}
use Rattle.std.specs.Prelude.{Some}
use Rattle.decoded_records.specs.Borrowed.{as_view}
use Rattle.vat_view.specs.Glue.TurnTables.{turns_of, after_turns}
use Rattle.vat_view.proofs.walks.hops.nth.Given as goal

abbrev pub invariant-loop-left : goal.invariant-loop-left
invariant-loop-left l = after_turns (turns_of l.turns l.bound) l.left (Some (as_view l.at)) ≡ after_turns (turns_of l.turns l.bound) l.fn.count (Some (as_view l.fn.view))

abbrev pub decreases-loop-left : goal.decreases-loop-left
decreases-loop-left l = l.left
