use Rattle.std.proofs.Common.{◌≡◌, drop, length}
use Rattle.call_trace.specs.Glue.Ledgers.{naming_by_tables, caps_from, caps_said, gathered_behind}
use Rattle.call_trace.proofs.records.saying.caps_said.Given as goal

abbrev pub invariant-loop-descriptor : goal.invariant-loop-descriptor
invariant-loop-descriptor l = record {
  at : length l.caps.items ≡ l.descriptor-index;
  rest : gathered_behind l.caps.items (caps_from (naming_by_tables l.steps l.ledger) l.views (length l.caps.items) (drop l.descriptor-index l.descriptors)) ≡ caps_said (naming_by_tables l.steps l.ledger) l.views l.descriptors;
}
