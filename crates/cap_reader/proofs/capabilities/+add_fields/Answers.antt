use Rattle.std.proofs.Common.{◌≡◌, ◌+◌, ◌++◌, ◌∷◌, [], ℕ, List, refl, sym, Ok, Err, ◌∙◌, ap, arith}
use Rattle.std.proofs.lemmas.Result.{err_from_is_err_and}
use Rattle.cap_reader.specs.declared.pointee.Pointee.{Pointee}
use Rattle.cap_reader.specs.declared.pointee.Pointee.TheVariants as leads
use Rattle.cap_reader.specs.Pointers.{pointee_at}
use Rattle.cap_reader.specs.Places.{sections_at}
use Rattle.cap_reader.proofs.Adding.{structure_found, unfollowed_refuses, null_adds, capability_adds, reserved_adds, list_adds, struct_refuses, struct_begins, field_ends, field_goes_on, field_done}
use Rattle.cap_reader.proofs.Kept.{struct_paid, field_paid, field_costs}
use Rattle.cap_reader.proofs.Visited.{refusal_is_free}
use Rattle.cap_reader.proofs.Near.{null_word}
use Rattle.cap_reader.proofs.capabilities.+add_fields.Goals as goal

pub returns-in_err-follow_near-clause-value : goal.returns-in_err-follow_near-clause-value
returns-in_err-follow_near-clause-value t c =
    let p = err_from_is_err_and c.from_residual.result c.from_residual.ensures.1 in
    let e : pointee_at c.args.frame.now c.args.segment c.args.at ≡ Err c.in_err-follow_near.field-0.0 = sym c.in_err-follow_near.ensures in
    rw (p.1, p.2) (unfollowed_refuses c.args.found.now.items c.args.path.now c.args.depth c.args.frame.now c.args.segment c.args.at c.args.limits.now.words c.in_err-follow_near.field-0.0 e)

pub returns-in_err-content-in-Struct-clause-value : goal.returns-in_err-content-in-Struct-clause-value
returns-in_err-content-in-Struct-clause-value t c =
    let p = err_from_is_err_and c.from_residual-in_err-content-in-Struct.result c.from_residual-in_err-content-in-Struct.ensures.1 in
    let e : pointee_at c.args.frame.now c.args.segment c.args.at ≡ Ok (leads.Struct c.in-Struct.segment c.in-Struct.start c.in-Struct.data_words c.in-Struct.pointer_count) = sym c.in_ok-follow_near.ensures ∙ ap (λ (p : Pointee). Ok p) c.in-Struct.is in
    rw (p.1, p.2) (struct_refuses c.args.found.now.items c.args.path.now c.args.depth c.args.frame.now c.args.segment c.args.at c.args.limits.now.words c.in-Struct.segment c.in-Struct.start c.in-Struct.data_words c.in-Struct.pointer_count e c.in_err-content-in-Struct.field-0.0 c.enter.new.limits.words c.in_err-content-in-Struct.ensures.value)

pub loop-number-init : goal.loop-number-init
loop-number-init t c =
    let e : pointee_at c.args.frame.now c.args.segment c.args.at ≡ Ok (leads.Struct c.in-Struct.segment c.in-Struct.start c.in-Struct.data_words c.in-Struct.pointer_count) = sym c.in_ok-follow_near.ensures ∙ ap (λ (p : Pointee). Ok p) c.in-Struct.is in
    record {
      so_far = struct_begins c.args.found.now.items c.args.path.now c.args.depth c.args.frame.now c.args.segment c.args.at c.args.limits.now.words c.in-Struct.segment c.in-Struct.start c.in-Struct.data_words c.in-Struct.pointer_count e (sections_at c.args.frame.now c.in_ok-content-in-Struct.content) c.enter.new.limits.words c.in_ok-content-in-Struct.ensures.value;
      paid = struct_paid c.args.path.now c.args.depth c.args.frame.now c.args.segment c.args.at c.args.limits.now.words c.in-Struct.segment c.in-Struct.start c.in-Struct.data_words c.in-Struct.pointer_count e (sections_at c.args.frame.now c.in_ok-content-in-Struct.content) c.enter.new.limits.words c.in_ok-content-in-Struct.ensures.value;
      fewer_words = c.in_ok-content-in-Struct.ensures.words;
      same_depth = c.in_ok-content-in-Struct.ensures.depth;
    }

pub returns-in_err-add_fields-in-Struct-clause-value : goal.returns-in_err-add_fields-in-Struct-clause-value
returns-in_err-add_fields-in-Struct-clause-value t c =
    let p = err_from_is_err_and c.from_residual-in_err-add_fields-in-Struct.result c.from_residual-in_err-add_fields-in-Struct.ensures.1 in
    let same = c.in_ok-path-in-Struct.ensures in
    let there : c.from.result + c.from-in-Struct.result + c.from-in-loop-number.result ≡ c.in_ok-content-in-Struct.content.start + c.in_ok-content-in-Struct.content.data_words + c.loop-number.number = rw (c.from.ensures, c.from-in-Struct.ensures, c.from-in-loop-number.ensures) refl in
    rw (p.1, p.2) (field_ends c.args.path.now c.args.frame.now c.in_ok-content-in-Struct.content c.in_err-add_fields-in-Struct.field-0.0 c.loop-number.found.items c.in_ok-path-in-Struct.path c.loop-number.number (c.from.result + c.from-in-Struct.result + c.from-in-loop-number.result) c.loop-number.limits.words c.add_fields.new.limits.words _ c.loop-number-test.true same there c.in_err-add_fields-in-Struct.ensures.value c.loop-number.invariant.so_far)

pub returns-in_err-content-in-Struct-clause-kept : goal.returns-in_err-content-in-Struct-clause-kept
returns-in_err-content-in-Struct-clause-kept t c =
    let free = refusal_is_free (structure_found c.args.depth c.args.frame.now c.in-Struct.segment c.in-Struct.start c.in-Struct.data_words c.in-Struct.pointer_count) c.args.limits.now.words c.enter.new.limits.words c.in_err-content-in-Struct.field-0.0 c.in_err-content-in-Struct.ensures.value in
    omega (arith, free)

pub returns-in_err-add_fields-in-Struct-clause-kept : goal.returns-in_err-add_fields-in-Struct-clause-kept
returns-in_err-add_fields-in-Struct-clause-kept t c =
    let same = c.in_ok-path-in-Struct.ensures in
    let there : c.from.result + c.from-in-Struct.result + c.from-in-loop-number.result ≡ c.in_ok-content-in-Struct.content.start + c.in_ok-content-in-Struct.content.data_words + c.loop-number.number = rw (c.from.ensures, c.from-in-Struct.ensures, c.from-in-loop-number.ensures) refl in
    let first = field_costs c.args.path.now c.args.frame.now c.in_ok-content-in-Struct.content c.in_ok-path-in-Struct.path c.loop-number.number (c.from.result + c.from-in-Struct.result + c.from-in-loop-number.result) c.loop-number-test.true same there in
    omega (arith, first, c.in_err-add_fields-in-Struct.ensures.kept, c.loop-number.invariant.paid)

pub loop-number-preserved : goal.loop-number-preserved
loop-number-preserved t c =
    let same = c.in_ok-path-in-Struct.ensures in
    let there : c.from.result + c.from-in-Struct.result + c.from-in-loop-number.result ≡ c.in_ok-content-in-Struct.content.start + c.in_ok-content-in-Struct.content.data_words + c.loop-number.number = rw (c.from.ensures, c.from-in-Struct.ensures, c.from-in-loop-number.ensures) refl in
    record {
      so_far = field_goes_on c.args.path.now c.args.frame.now c.in_ok-content-in-Struct.content c.loop-number.found.items c.add_fields.new.found.items c.in_ok-path-in-Struct.path c.loop-number.number (c.from.result + c.from-in-Struct.result + c.from-in-loop-number.result) c.loop-number.limits.words c.add_fields.new.limits.words _ c.loop-number-test.true same there c.in_ok-add_fields-in-Struct.ensures.value c.loop-number.invariant.so_far;
      paid =
          let more = field_paid c.args.path.now c.args.frame.now c.in_ok-content-in-Struct.content c.loop-number.found.items c.add_fields.new.found.items c.in_ok-path-in-Struct.path c.loop-number.number (c.from.result + c.from-in-Struct.result + c.from-in-loop-number.result) c.loop-number.limits.words c.add_fields.new.limits.words c.loop-number-test.true same there c.in_ok-add_fields-in-Struct.ensures.value in
          omega (arith, more, c.loop-number.invariant.paid);
      fewer_words = omega (arith, c.in_ok-add_fields-in-Struct.ensures.words, c.loop-number.invariant.fewer_words);
      same_depth = c.in_ok-add_fields-in-Struct.ensures.depth ∙ c.loop-number.invariant.same_depth;
    }

pub returns-in-Null-clause-value : goal.returns-in-Null-clause-value
returns-in-Null-clause-value t c =
    let e : pointee_at c.args.frame.now c.args.segment c.args.at ≡ Ok leads.Null = sym c.in_ok-follow_near.ensures ∙ ap (λ (p : Pointee). Ok p) c.in-Null.is in
    null_adds c.args.found.now.items c.args.path.now c.args.depth c.args.frame.now c.args.segment c.args.at c.args.limits.now.words e

pub returns-in_ok-put-in-Capability-clause-value : goal.returns-in_ok-put-in-Capability-clause-value
returns-in_ok-put-in-Capability-clause-value t c =
    let e : pointee_at c.args.frame.now c.args.segment c.args.at ≡ Ok (leads.Capability c.in-Capability.index) = sym c.in_ok-follow_near.ensures ∙ ap (λ (p : Pointee). Ok p) c.in-Capability.is in
    let added : c.args.found.now.items ++ (c.args.path.now, c.in-Capability.index) ∷ [] ≡ c.put.new.found.items = rw (c.in_ok-put-in-Capability.ensures, c.in_ok-copy-in-Capability.ensures) refl in
    capability_adds c.args.found.now.items c.args.path.now c.args.depth c.args.frame.now c.args.segment c.args.at c.args.limits.now.words c.in-Capability.index e ∙ ap (λ (all : List (List ℕ × ℕ)). (Ok all, c.args.limits.now.words)) added

pub returns-in-List-clause-value : goal.returns-in-List-clause-value
returns-in-List-clause-value t c =
    let e : pointee_at c.args.frame.now c.args.segment c.args.at ≡ Ok (leads.List c.in-List.segment c.in-List.start c.in-List.element_size c.in-List.count) = sym c.in_ok-follow_near.ensures ∙ ap (λ (p : Pointee). Ok p) c.in-List.is in
    list_adds c.args.found.now.items c.args.path.now c.args.depth c.args.frame.now c.args.segment c.args.at c.args.limits.now.words c.in-List.segment c.in-List.start c.in-List.element_size c.in-List.count e c.judge_list.result (c.judge_list.ensures c.args.path.now)

pub returns-after-loop-number-clause-value : goal.returns-after-loop-number-clause-value
returns-after-loop-number-clause-value t c =
    field_done c.args.path.now c.args.frame.now c.in_ok-content-in-Struct.content c.loop-number.found.items c.loop-number.number c.loop-number.limits.words _ c.loop-number-test.false c.loop-number.invariant.so_far

pub returns-in-Reserved-clause-value : goal.returns-in-Reserved-clause-value
returns-in-Reserved-clause-value t c =
    let e : pointee_at c.args.frame.now c.args.segment c.args.at ≡ Ok leads.Reserved = sym c.in_ok-follow_near.ensures ∙ ap (λ (p : Pointee). Ok p) c.in-Reserved.is in
    reserved_adds c.args.found.now.items c.args.path.now c.args.depth c.args.frame.now c.args.segment c.args.at c.args.limits.now.words e

pub returns-then-word_or_zero-eq0-clause-value : goal.returns-then-word_or_zero-eq0-clause-value
returns-then-word_or_zero-eq0-clause-value t c =
    let e : pointee_at c.args.frame.now c.args.segment c.args.at ≡ Ok leads.Null = null_word c.args.frame.now c.args.segment c.args.at (sym c.word_or_zero.ensures ∙ c.if-word_or_zero-eq0.true) in
    null_adds c.args.found.now.items c.args.path.now c.args.depth c.args.frame.now c.args.segment c.args.at c.args.limits.now.words e
