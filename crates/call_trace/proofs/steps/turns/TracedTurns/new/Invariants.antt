use Rattle.std.specs.Prelude.{All, take}
use Rattle.std.proofs.Common.{[]}
use Rattle.vat_rules.specs.Audit.{Found, IsTrueOf}
use Rattle.call_trace.specs.Glue.Turns.{AreKept}
use Rattle.call_trace.proofs.steps.turns.TracedTurns.new.Given as goal

abbrev pub invariant-loop-finding : goal.invariant-loop-finding
invariant-loop-finding l = record {
  kept : AreKept [] [] (take l.finding-index l.findings) l.ledgers.items;
  outcomes : All (λ (finding : Found). IsTrueOf finding.log finding.limits finding.outcome) (take l.finding-index l.findings);
}
