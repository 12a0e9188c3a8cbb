use Rattle.std.proofs.Common.{◌≡◌, ◌≤◌, take}
use Rattle.std.specs.Prelude.{count_by}
use Rattle.vat_rules.specs.Telling.{is_delivery}
use Rattle.vat_rules.proofs.audit.deliveries.Given as goal

abbrev pub invariant-loop-event : goal.invariant-loop-event
invariant-loop-event l = record {
  count : l.delivered ≡ count_by is_delivery (take l.event-index l.events);
  small : l.delivered ≤ l.event-index;
}
