use Rattle.std.proofs.Common.{◌∙◌, refl, sym}
use Rattle.vat_rules.specs.Audit.{edition_of}
use Rattle.picture.specs.Endings.{ends_call}
use Rattle.picture.proofs.Stepping.{passed, passed_not}
use Rattle.picture.proofs.passing.endings.is_ended.Goals as goal

pub returns-then-branch : goal.returns-then-branch
returns-then-branch c =
    sym (passed (ends_call (edition_of c.args.log.now) c.args.begun) c.args.log.now.records c.loop-at.at _ c.in_ok-ends_at.field-0 c.loop-at.invariant c.in_ok-ends_at.ensures c.if-branch.true)

pub loop-at-preserved : goal.loop-at-preserved
loop-at-preserved c =
    c.loop-at.invariant
    ∙ passed_not (ends_call (edition_of c.args.log.now) c.args.begun) c.args.log.now.records c.loop-at.at _ c.in_ok-ends_at.field-0 refl c.in_ok-ends_at.ensures c.if-branch.false
