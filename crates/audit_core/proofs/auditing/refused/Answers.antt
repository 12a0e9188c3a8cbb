use Rattle.std.proofs.Common.{Some, sym, ap, ◌∙◌}
use Rattle.std.specs.Option.{option_map}
use Rattle.case_book.specs.declared.ties.TieFault.{TieFault}
use Rattle.audit_core.specs.Refusals.{tie_refusal}
use Rattle.audit_core.proofs.Refusing.{no_workers, too_many, by_ties}
use Rattle.audit_core.proofs.auditing.refused.Goals as goal

pub returns-then-workers-eq0 : goal.returns-then-workers-eq0
returns-then-workers-eq0 c = no_workers c.args.case.now c.args.workers c.if-workers-eq0.true

pub returns-then-workers-gt-MAX_WORKERS : goal.returns-then-workers-gt-MAX_WORKERS
returns-then-workers-gt-MAX_WORKERS c = too_many c.args.case.now c.args.workers c.if-workers-eq0.false c.if-workers-gt-MAX_WORKERS.true

pub returns-in-Some-MissingLog : goal.returns-in-Some-MissingLog
returns-in-Some-MissingLog c =
    ap (λ (fault : TieFault). Some (tie_refusal fault)) (sym c.in-Some-MissingLog.field-0-is)
    ∙ ap (option_map tie_refusal) (sym c.in-Some-MissingLog.is)
    ∙ by_ties c.args.case.now c.args.workers c.tie_fault.result c.if-workers-eq0.false c.if-workers-gt-MAX_WORKERS.false c.tie_fault.ensures

pub returns-in-Some-SameEnds : goal.returns-in-Some-SameEnds
returns-in-Some-SameEnds c =
    ap (λ (fault : TieFault). Some (tie_refusal fault)) (sym c.in-Some-SameEnds.field-0-is)
    ∙ ap (option_map tie_refusal) (sym c.in-Some-SameEnds.is)
    ∙ by_ties c.args.case.now c.args.workers c.tie_fault.result c.if-workers-eq0.false c.if-workers-gt-MAX_WORKERS.false c.tie_fault.ensures

pub returns-in-None : goal.returns-in-None
returns-in-None c =
    ap (option_map tie_refusal) (sym c.in-None.is)
    ∙ by_ties c.args.case.now c.args.workers c.tie_fault.result c.if-workers-eq0.false c.if-workers-gt-MAX_WORKERS.false c.tie_fault.ensures
