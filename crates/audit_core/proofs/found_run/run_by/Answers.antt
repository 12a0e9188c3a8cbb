use Rattle.std.proofs.Common.{List, sym, subst}
use Rattle.vat_log.specs.Log.{Log}
use Rattle.vat_rules.specs.Audit.{Found}
use Rattle.merge_order.specs.Fits.{IsFitting}
use Rattle.call_trace.specs.Findings.{MayBeNamed}
use Rattle.call_trace.specs.Named.{IsRunOf}
use Rattle.std.proofs.lemmas.Result.{IfOk-weaker}
use Rattle.audit_core.proofs.Explaining.{explains}
use Rattle.audit_core.proofs.Naming.{may_be_named}
use Rattle.audit_core.proofs.Whole.{logs_are}
use Rattle.audit_core.proofs.found_run.run_by.Goals as goal

pub name_run-requires : goal.name_run-requires
name_run-requires c =
    let fits = subst (λ (logs : List Log). IsFitting logs c.args.order.now) (sym (logs_are c.args.findings.now c.requires.good.whole)) c.requires.fits in
    subst (λ (vats : List Found). MayBeNamed vats c.args.order.now) (sym c.vats.ensures.lent) (may_be_named c.args.findings.now c.args.order.now c.requires.good fits)

pub returns : goal.returns
returns c =
    IfOk-weaker c.name_run.result _ _
    (λ run is. (
      c.args.order.now,
      c.requires.fits,
      explains c.args.findings.now c.requires.good.whole c.args.order.now run (subst (λ (vats : List Found). IsRunOf vats c.args.order.now run) c.vats.ensures.lent is),
    )) c.name_run.ensures
