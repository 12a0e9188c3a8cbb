use Rattle.std.proofs.Common.{◌≡◌, sym, ◌∙◌, []}
use Rattle.std.specs.Prelude.{Result, Ok, Err, OnOk, OnErr}
use Rattle.decoded_records.specs.Lives.{descriptors}
use Rattle.vat_view.proofs.Learning.{own_learned, plain_learned, none_below}
use Rattle.vat_view.proofs.apply.tables.bind_and_count.Goals as goal

-- what is so where it is done, and where it is refused
ok_then : {T E P Q : Type 0} (r : Result T E) → (P → Q) → OnOk r P → OnOk r Q
ok_then (Ok x) f p = f p
ok_then (Err e) f p = p

err_then : {T E P Q : Type 0} (r : Result T E) → (P → Q) → OnErr r P → OnErr r Q
err_then (Ok x) f p = p
err_then (Err e) f p = f p

pub returns-then-not-has_message-clause-ok : goal.returns-then-not-has_message-clause-ok
returns-then-not-has_message-clause-ok c = ok_then c.bind_own.result
    (λ bind before place kept fit. own_learned before c.args.event.now c.args.questions.now c.args.lives.now c.args.bound.now c.bind_own.new.bound (sym c.if-not-has_message.ensures) kept fit bind)
    c.bind_own.ensures.ok

pub returns-then-not-has_message-clause-err : goal.returns-then-not-has_message-clause-err
returns-then-not-has_message-clause-err c = err_then c.bind_own.result
    (λ same before place kept fit. record { tabled = kept.tabled; bounds = λ q. same q ∙ kept.bounds q })
    c.bind_own.ensures.err

pub returns-in-empty-clause-ok : goal.returns-in-empty-clause-ok
returns-in-empty-clause-ok c = ok_then c.count_plain.result
    (λ tabled before place kept fit.
    let plain : descriptors c.args.event.now ≡ [] = sym c.descriptors.ensures ∙ none_below c.descriptors.result.now c.in-empty.len_below in
    plain_learned before c.args.event.now c.args.questions.now c.args.lives.now c.args.bound.now (sym c.if-not-has_message.ensures) plain kept fit c.count_plain.new.questions c.count_plain.new.lives
    (tabled before kept.tabled fit.uses fit.gives))
    c.count_plain.ensures.ok

pub returns-in-empty-clause-err : goal.returns-in-empty-clause-err
returns-in-empty-clause-err c = err_then c.count_plain.result
    (λ tabled before place kept fit. record { tabled = tabled before kept.tabled; bounds = kept.bounds })
    c.count_plain.ensures.err
