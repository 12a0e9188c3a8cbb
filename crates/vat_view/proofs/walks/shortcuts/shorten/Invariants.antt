use Rattle.std.proofs.Common.{◌≡◌, ℕ, Some}
use Rattle.vat_view.specs.Glue.Tables.{bound_at}
use Rattle.vat_view.specs.Glue.TurnTables.{HaveAhead, onward_by}
use Rattle.vat_view.proofs.walks.shortcuts.shorten.Given as goal

abbrev pub invariant-loop-step : goal.invariant-loop-step
invariant-loop-step l = record {
  views : (r : ℕ) → bound_at l.bound r ≡ bound_at l.initial.bound r;
  ahead : HaveAhead l.turns l.bound;
  lands : onward_by l.turns l.bound l.reference ≡ Some l.next;
}
