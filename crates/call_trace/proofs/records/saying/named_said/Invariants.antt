use Rattle.std.proofs.Common.{◌≡◌, drop, map, option_and_then}
use Rattle.call_trace.specs.Glue.Ledgers.{naming_by_tables, named_said, gathered_behind}
use Rattle.call_trace.proofs.records.saying.named_said.Given as goal

abbrev pub invariant-loop-view : goal.invariant-loop-view
invariant-loop-view l =
    gathered_behind l.caps.items (map (option_and_then (naming_by_tables l.steps l.ledger).cap) (drop l.view-index l.views)) ≡ named_said (naming_by_tables l.steps l.ledger) l.views
