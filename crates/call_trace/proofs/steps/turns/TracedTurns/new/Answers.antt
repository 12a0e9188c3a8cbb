use Rattle.std.proofs.Common.{◌+◌, [], sym, subst, take}
use Rattle.std.proofs.lemmas.List.Elements.{All-more}
use Rattle.vat_rules.specs.Audit.{Found, IsTrueOf}
use Rattle.call_trace.specs.Glue.Turns.{AreKept}
use Rattle.call_trace.proofs.Reaching.{kept_more}
use Rattle.call_trace.proofs.steps.turns.TracedTurns.new.Goals as goal

pub loop-finding-preserved : goal.loop-finding-preserved
loop-finding-preserved c =
    let findings = c.args.findings.now in
    let at = c.loop-finding.finding-index in
    let finding = c.finding-item.result in
    record {
      kept =
          subst (AreKept [] [] (take (at + 1) findings)) (sym c.in_ok-push.ensures.items)
          (kept_more findings c.loop-finding.ledgers.items at finding c.in_ok-new.field-0 c.loop-finding-test.true c.finding-item.is c.loop-finding.invariant.kept c.in_ok-new.ensures.kept);
      outcomes =
          All-more (λ (x : Found). IsTrueOf x.log x.limits x.outcome) findings at finding c.loop-finding-test.true c.loop-finding.invariant.outcomes
          (subst (λ (x : Found). IsTrueOf x.log x.limits x.outcome) c.finding-item.is c.new.ensures.of_the_log);
    }
