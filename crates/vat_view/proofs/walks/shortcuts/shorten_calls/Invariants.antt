use Rattle.vat_view.specs.Glue.TurnTables.{SaysSameTurns, HaveAhead}
use Rattle.vat_view.proofs.walks.shortcuts.shorten_calls.Given as goal

abbrev pub invariant-loop-step : goal.invariant-loop-step
invariant-loop-step l = record {
  same : SaysSameTurns l.initial.turns l.turns;
  ahead : HaveAhead l.turns l.bound;
}
