use Rattle.std.proofs.Common.{◌≡◌, ◌<◌}
use Rattle.std.specs.Prelude.{Some, ◌^◌}
use Rattle.decoded_records.specs.Borrowed.{as_view}
use Rattle.vat_view.specs.Glue.TurnTables.{turns_of, after_turns}
use Rattle.vat_view.proofs.walks.hops.remaining.Given as goal

abbrev pub invariant-loop-hops : goal.invariant-loop-hops
invariant-loop-hops l = record {
  here : after_turns (turns_of l.turns l.bound) l.made (Some (as_view l.fn.view)) ≡ Some (as_view l.at);
  fits : l.made < 2 ^ 64;
}
