use Rattle.std.proofs.Common.{sym, ◌∙◌}
use Rattle.number_tables.proofs.Raising.{ok_gives}
use Rattle.vat_view.specs.Glue.Tables.{bound_at}
use Rattle.number_tables.specs.Glue.QuestionTables.{question_at}
use Rattle.vat_view.proofs.Learning.{err_gives, begun_now, received_all, learned, unlearned, refused, bound_apart_from}
use Rattle.vat_view.proofs.apply.tables.bind_described.Goals as goal

pub returns-then-is_err-clause-err : goal.returns-then-is_err-clause-err
returns-then-is_err-clause-err c = λ before place kept fit.
    unlearned before c.args.event.now c.args.questions.now c.args.lives.now c.in_ok-begun.begun c.args.bound.now kept fit
    (begun_now before c.args.event.now c.args.questions.now c.args.lives.now c.in_ok-begun.begun c.is_late-late.result c.args.number kept.tabled fit.uses c.is_late-late.ensures place c.in_ok-begun.ensures)
    c.in_ok-list.list (c.in_ok-list.ensures ∙ received_all (bound_at c.args.bound.now) c.args.lives.now c.in_ok-begun.begun (question_at c.args.questions.now) c.args.event.now c.requires)
    c.args.questions.now c.args.lives.now c.bind_each.new.self c.unbind_each.new.self c.new_references.result.now c.new_references.ensures kept.tabled c.unbind_each.ensures.views
    (refused before c.args.event.now c.args.questions.now c.args.lives.now c.in_ok-begun.begun c.args.bound.now kept fit
    (begun_now before c.args.event.now c.args.questions.now c.args.lives.now c.in_ok-begun.begun c.is_late-late.result c.args.number kept.tabled fit.uses c.is_late-late.ensures place c.in_ok-begun.ensures)
    c.in_ok-list.list (c.in_ok-list.ensures ∙ received_all (bound_at c.args.bound.now) c.args.lives.now c.in_ok-begun.begun (question_at c.args.questions.now) c.args.event.now c.requires)
    c.bind_each.new.self (err_gives c.bind_each.result (sym c.is_err.ensures.value ∙ c.if-is_err.true) c.bind_each.ensures.err))

pub returns-then-is_err-2-clause-err : goal.returns-then-is_err-2-clause-err
returns-then-is_err-2-clause-err c = λ before place kept fit.
    unlearned before c.args.event.now c.args.questions.now c.args.lives.now c.in_ok-begun.begun c.args.bound.now kept fit
    (begun_now before c.args.event.now c.args.questions.now c.args.lives.now c.in_ok-begun.begun c.is_late-late.result c.args.number kept.tabled fit.uses c.is_late-late.ensures place c.in_ok-begun.ensures)
    c.in_ok-list.list (c.in_ok-list.ensures ∙ received_all (bound_at c.args.bound.now) c.args.lives.now c.in_ok-begun.begun (question_at c.args.questions.now) c.args.event.now c.requires)
    c.count_numbers.new.questions c.count_numbers.new.lives c.bind_each.new.self c.unbind_each-then-is_err-2.new.self c.new_references-then-is_err-2.result.now c.new_references-then-is_err-2.ensures
    (err_gives c.count_numbers.result (sym c.is_err-2.ensures.value ∙ c.if-is_err-2.true) c.count_numbers.ensures.err before kept.tabled) c.unbind_each-then-is_err-2.ensures.views
    (bound_apart_from before c.args.event.now c.args.questions.now c.args.lives.now c.in_ok-begun.begun c.args.bound.now kept fit
    (begun_now before c.args.event.now c.args.questions.now c.args.lives.now c.in_ok-begun.begun c.is_late-late.result c.args.number kept.tabled fit.uses c.is_late-late.ensures place c.in_ok-begun.ensures)
    c.in_ok-list.list (c.in_ok-list.ensures ∙ received_all (bound_at c.args.bound.now) c.args.lives.now c.in_ok-begun.begun (question_at c.args.questions.now) c.args.event.now c.requires)
    c.bind_each.new.self (ok_gives c.bind_each.result (sym c.is_err.ensures.value ∙ c.if-is_err.false) c.bind_each.ensures.ok))

pub returns-clause-ok : goal.returns-clause-ok
returns-clause-ok c = λ before place kept fit.
    learned before c.args.event.now c.args.questions.now c.args.lives.now c.in_ok-begun.begun c.args.bound.now kept fit
    (begun_now before c.args.event.now c.args.questions.now c.args.lives.now c.in_ok-begun.begun c.is_late-late.result c.args.number kept.tabled fit.uses c.is_late-late.ensures place c.in_ok-begun.ensures)
    c.in_ok-list.list (c.in_ok-list.ensures ∙ received_all (bound_at c.args.bound.now) c.args.lives.now c.in_ok-begun.begun (question_at c.args.questions.now) c.args.event.now c.requires)
    c.count_numbers.new.questions c.count_numbers.new.lives c.bind_each.new.self
    (ok_gives c.count_numbers.result (sym c.is_err-2.ensures.value ∙ c.if-is_err-2.false) c.count_numbers.ensures.ok before place kept.tabled fit.uses fit.gives)
    (ok_gives c.bind_each.result (sym c.is_err.ensures.value ∙ c.if-is_err.false) c.bind_each.ensures.ok)
