use Rattle.std.proofs.Common.{refl, sym, ◌∙◌, ap}
use Rattle.vat_view.specs.Glue.Tables.{bound_at}
use Rattle.number_tables.specs.Glue.QuestionTables.{question_at, late_by, opening_call_in}
use Rattle.vat_view.specs.Glue.Asking.{targeted_by, taken_from_by}
use Rattle.vat_view.specs.Glue.CallTables.{Nothing, Moves, moves_of}
use Rattle.vat_view.proofs.Keeping.{fits}
use Rattle.vat_view.proofs.Called.{kept_after}
use Rattle.vat_view.proofs.Parting.{step_alone}
use Rattle.vat_view.proofs.apply.apply_record.apply_following.Goals as goal

pub returns-in-Some-clause-ok : goal.returns-in-Some-clause-ok
returns-in-Some-clause-ok c = λ before place kept sound.
    kept_after before c.args.questions.now c.args.lives.now c.args.bound.now c.args.calls.now kept c.args.event.now sound (Moves c.in-Some.call c.in-Some.change)
    (ap (λ o. moves_of o) (sym c.in-Some.is ∙ c.step_of-step.ensures)
    ∙ step_alone (bound_at c.args.bound.now) (targeted_by (bound_at c.args.bound.now) c.args.lives.now (question_at c.args.questions.now) c.args.event.now)
    (late_by (question_at c.args.questions.now) c.args.event.now) (taken_from_by (question_at c.args.questions.now) c.args.event.now)
    (λ q. opening_call_in (question_at c.args.questions.now q)) c.args.event.now c.requires)
    c.bind_and_count.new.questions c.bind_and_count.new.lives c.bind_and_count.new.bound c.note.new.self
    (c.in_ok-bind_and_count.ensures.ok before place kept.tabled (fits before c.args.event.now sound)) c.note.ensures

pub returns-in-None-clause-ok : goal.returns-in-None-clause-ok
returns-in-None-clause-ok c = λ before place kept sound.
    kept_after before c.args.questions.now c.args.lives.now c.args.bound.now c.args.calls.now kept c.args.event.now sound Nothing
    (ap (λ o. moves_of o) (sym c.in-None.is ∙ c.step_of-step.ensures)
    ∙ step_alone (bound_at c.args.bound.now) (targeted_by (bound_at c.args.bound.now) c.args.lives.now (question_at c.args.questions.now) c.args.event.now)
    (late_by (question_at c.args.questions.now) c.args.event.now) (taken_from_by (question_at c.args.questions.now) c.args.event.now)
    (λ q. opening_call_in (question_at c.args.questions.now q)) c.args.event.now c.requires)
    c.bind_and_count.new.questions c.bind_and_count.new.lives c.bind_and_count.new.bound c.args.calls.now
    (c.in_ok-bind_and_count.ensures.ok before place kept.tabled (fits before c.args.event.now sound)) (λ d. refl)
