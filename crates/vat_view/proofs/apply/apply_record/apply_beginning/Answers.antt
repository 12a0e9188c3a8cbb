use Rattle.std.proofs.Common.{refl, sym, ◌∙◌, ap}
use Rattle.vat_view.specs.Glue.Tables.{bound_at}
use Rattle.number_tables.specs.Glue.QuestionTables.{question_at, late_by, opening_call_in}
use Rattle.vat_view.specs.Glue.Asking.{targeted_by, taken_from_by}
use Rattle.vat_view.specs.Glue.CallTables.{Begins, begins_of}
use Rattle.number_tables.proofs.Raising.{ok_gives}
use Rattle.vat_view.proofs.Learning.{err_gives}
use Rattle.vat_view.proofs.Keeping.{fits}
use Rattle.vat_view.proofs.Called.{kept_after, forgotten}
use Rattle.vat_view.proofs.Parting.{begun_alone}
use Rattle.vat_view.proofs.apply.apply_record.apply_beginning.Goals as goal

pub returns-else-is_err-clause-ok : goal.returns-else-is_err-clause-ok
returns-else-is_err-clause-ok c = λ before place kept sound.
    kept_after before c.args.questions.now c.args.lives.now c.args.bound.now c.args.calls.now kept c.args.event.now sound (Begins c.in-Some.call c.in-Some.progress)
    (ap (λ o. begins_of o) (sym c.in-Some.is ∙ c.in_ok-call.ensures)
    ∙ begun_alone (bound_at c.args.bound.now) (targeted_by (bound_at c.args.bound.now) c.args.lives.now (question_at c.args.questions.now) c.args.event.now)
    (late_by (question_at c.args.questions.now) c.args.event.now) (taken_from_by (question_at c.args.questions.now) c.args.event.now)
    (λ q. opening_call_in (question_at c.args.questions.now q)) c.args.event.now c.requires)
    c.bind_and_count.new.questions c.bind_and_count.new.lives c.bind_and_count.new.bound c.begin.new.self
    (ok_gives c.bind_and_count.result (sym c.is_err.ensures.value ∙ c.if-is_err.false) c.bind_and_count.ensures.ok before place kept.tabled (fits before c.args.event.now sound))
    c.in_ok-begin-in-Some.ensures.ok

pub returns-then-is_err-clause-err : goal.returns-then-is_err-clause-err
returns-then-is_err-clause-err c = λ before place kept sound.
    forgotten before c.args.questions.now c.args.lives.now c.args.bound.now c.args.calls.now kept c.args.event.now sound (Begins c.in-Some.call c.in-Some.progress)
    (ap (λ o. begins_of o) (sym c.in-Some.is ∙ c.in_ok-call.ensures)
    ∙ begun_alone (bound_at c.args.bound.now) (targeted_by (bound_at c.args.bound.now) c.args.lives.now (question_at c.args.questions.now) c.args.event.now)
    (late_by (question_at c.args.questions.now) c.args.event.now) (taken_from_by (question_at c.args.questions.now) c.args.event.now)
    (λ q. opening_call_in (question_at c.args.questions.now q)) c.args.event.now c.requires)
    c.bind_and_count.new.questions c.bind_and_count.new.lives c.bind_and_count.new.bound c.begin.new.self c.forget.new.self
    c.in-Some.call c.in-Some.progress refl
    (err_gives c.bind_and_count.result (sym c.is_err.ensures.value ∙ c.if-is_err.true) c.bind_and_count.ensures.err before place kept.tabled (fits before c.args.event.now sound))
    c.in_ok-begin-in-Some.ensures.ok c.forget.ensures.states
