use Rattle.std.proofs.Common.{◌≡◌, refl, sym, ◌∙◌, [], ◌==◌, Bool, true, false, Option, if◌then◌else◌, arith}
use Rattle.decoded_records.specs.declared.origin.Origin.{Origin}
use Rattle.number_tables.specs.Glue.LifeTables.{held_count_at, origin_at}
use Rattle.vat_view.proofs.Learning.{introduces_none, begins_none}
use Rattle.vat_view.proofs.Stepping.{three_ok, three_err, tabled_open, tabled_close, tabled_same}
use Rattle.vat_view.proofs.apply.tables.count_plain.Goals as goal

pub returns-in-Some-clause-ok : goal.returns-in-Some-clause-ok
returns-in-Some-clause-ok c = three_ok c.apply_opening.result
    (λ put counts births before tabled uses gives.
    tabled_open before c.args.event.now c.args.questions.now c.apply_opening.new.questions c.args.lives.now c.apply_opening.new.lives tabled uses gives c.none-none.result
    (c.none-none.ensures ∙ introduces_none before c.args.event.now c.requires) [] (begins_none before c.args.event.now c.requires)
    births c.in-Some.question (sym c.in-Some.ensures) put counts)
    c.apply_opening.ensures.known c.apply_opening.ensures.counted c.apply_opening.ensures.born

-- what isn't raised keeps where its life began
raised_none : (none : Bool) (origin : Option Origin) → origin ≡ (if none then origin else origin)
raised_none true origin = refl
raised_none false origin = refl

pub returns-in-None-clause-ok : goal.returns-in-None-clause-ok
returns-in-None-clause-ok c = λ before tabled uses gives.
    tabled_close before c.args.event.now c.args.questions.now c.give_back_and_note.new.questions c.args.lives.now c.give_back_and_note.new.lives tabled uses gives c.none-none.result
    (c.none-none.ensures ∙ introduces_none before c.args.event.now c.requires) [] (begins_none before c.args.event.now c.requires)
    (λ i. c.give_back_and_note.ensures.born i ∙ raised_none (held_count_at c.args.lives.now i == 0) (origin_at c.args.lives.now i)) (sym c.in-None.ensures) c.give_back_and_note.ensures.known
    (λ i. let counted = c.give_back_and_note.ensures.counted i in omega (arith, counted))

pub returns-in-Some-clause-err : goal.returns-in-Some-clause-err
returns-in-Some-clause-err c = three_err c.apply_opening.result
    (λ known counted born before tabled. tabled_same before c.args.questions.now c.apply_opening.new.questions c.args.lives.now c.apply_opening.new.lives known counted born tabled)
    c.apply_opening.ensures.same_known c.apply_opening.ensures.same_counted c.apply_opening.ensures.same_born
