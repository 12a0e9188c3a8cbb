use Rattle.std.proofs.Common.{sym, subst}
use Rattle.vat_rules.specs.declared.outcome.Outcome.TheVariants.{Good}
use Rattle.vat_rules.specs.First.{IsFirst}
use Rattle.vat_rules.specs.LogFacts.{Told}
use Rattle.vat_rules.proofs.Auditing.{good_all}
use Rattle.vat_rules.proofs.slim.vat_audit.outcome_of.Goals as goal

pub returns-in-None : goal.returns-in-None
returns-in-None c =
    λ edition read log so.
    subst (λ (story : Told). IsFirst edition read log (Good story)) (sym c.into_story.ensures) (good_all edition read log c.args.good (rw c.in-None.is at so))
