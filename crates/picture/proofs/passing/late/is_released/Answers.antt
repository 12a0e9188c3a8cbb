use Rattle.std.proofs.Common.{◌∙◌, ◌-◌, None, Some, arith, refl, sym}
use Rattle.vat_rules.specs.Audit.{edition_of}
use Rattle.picture.proofs.Released.{turned}
use Rattle.picture.proofs.passing.late.is_released.Goals as goal

pub returns-in-Some : goal.returns-in-Some
returns-in-Some c =
    sym (c.loop-at.invariant
    ∙ turned (edition_of c.args.log.now) c.args.question.asks c.args.question.connection c.args.question.number c.args.log.now.records c.loop-at.at (c.loop-at.at - 1) (Some c.in-Some.released)
    (λ none. absurd (omega (arith, none, c.loop-at-test.true))) refl (sym c.in-Some.is ∙ c.in_ok-released.ensures))

pub loop-at-preserved : goal.loop-at-preserved
loop-at-preserved c =
    c.loop-at.invariant
    ∙ turned (edition_of c.args.log.now) c.args.question.asks c.args.question.connection c.args.question.number c.args.log.now.records c.loop-at.at (c.loop-at.at - 1) None
    (λ none. absurd (omega (arith, none, c.loop-at-test.true))) refl (sym c.in-None.is ∙ c.in_ok-released.ensures)
