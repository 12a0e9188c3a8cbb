-- What an audit finds that keeps no record.
use Rattle.vat_rules.specs.declared.outcome.Outcome.{Outcome}
use Rattle.vat_rules.specs.declared.outcome.Outcome.TheVariants as whole
use Rattle.vat_rules.specs.declared.slim.finding.SlimOutcome.{SlimOutcome}
use Rattle.vat_rules.specs.declared.slim.finding.SlimOutcome.TheVariants as slim

-- the outcome, as an audit finds it that keeps the records
abbrev pub outcome_in : SlimOutcome → Outcome
outcome_in (slim.Good story) = whole.Good story
outcome_in (slim.Broken at rule) = whole.Broken at rule
outcome_in (slim.Outside at why) = whole.Outside at why
