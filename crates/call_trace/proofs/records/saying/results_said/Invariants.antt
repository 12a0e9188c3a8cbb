use Rattle.std.proofs.Common.{◌≡◌, drop, length}
use Rattle.call_trace.specs.Glue.Ledgers.{naming_by_tables, results_from, results_said, gathered_behind}
use Rattle.call_trace.proofs.records.saying.results_said.Given as goal

abbrev pub invariant-loop-path : goal.invariant-loop-path
invariant-loop-path l = record {
  at : length l.said.items ≡ l.path-index;
  rest : gathered_behind l.said.items (results_from (naming_by_tables l.steps l.ledger) l.facts.references (length l.said.items) (drop l.path-index l.results)) ≡ results_said (naming_by_tables l.steps l.ledger) l.facts.references l.results;
}
