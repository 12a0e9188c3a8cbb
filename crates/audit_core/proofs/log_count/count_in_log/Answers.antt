use Rattle.std.proofs.Common.{◌≡◌, ℕ, ap, ◌∙◌}
use Rattle.vat_rules.specs.Audit.{Found, IsTrueOf}
use Rattle.vat_rules.specs.LogFacts.{Told}
use Rattle.vat_rules.specs.Slim.{outcome_in}
use Rattle.vat_rules.specs.declared.outcome.Outcome.TheVariants.{Good}
use Rattle.vat_rules.specs.declared.slim.finding.SlimOutcome.{SlimOutcome}
use Rattle.vat_rules.specs.declared.slim.finding.SlimOutcome.TheVariants as slim
use Rattle.audit_core.specs.Glue.{delivered_by}
use Rattle.audit_core.specs.Report.{IsGoodFinding}
use Rattle.audit_core.proofs.Counting.{delivered_is}
use Rattle.audit_core.proofs.FirstLine.{good_finding}
use Rattle.audit_core.proofs.log_count.count_in_log.Goals as goal

good_told : (found : Found) (outcome : SlimOutcome) (story : Told) (delivered : ℕ) → outcome_in outcome ≡ found.outcome → IsTrueOf found.log found.limits (outcome_in outcome)
    → outcome ≡ slim.Good story → delivered ≡ story.delivered → IsGoodFinding found × (delivered ≡ delivered_by found)
good_told found outcome story delivered same true is counts =
    let good : outcome_in outcome ≡ Good story = ap outcome_in is in
    (good_finding found (outcome_in outcome) story same true good, counts ∙ delivered_is found.log found.limits (outcome_in outcome) story true good)

pub returns-in-Good : goal.returns-in-Good
returns-in-Good c =
    good_told c.args.found.now c.outcome.result.now c.in-Good.story c.delivered.result c.outcome.ensures.value c.outcome.ensures.of_the_log c.in-Good.is c.delivered.ensures
