use Rattle.std.proofs.Common.{◌≡◌, sym, ◌∙◌, ap, ℕ, take, get_or, false}
use Rattle.std.proofs.lemmas.List.{take_more}
use Rattle.std.proofs.lemmas.Bool.{not-true}
use Rattle.decoded_records.specs.Bindings.{contains, is_distinct}
use Rattle.vat_view.specs.Glue.Seen.{has_in}
use Rattle.vat_view.proofs.Distinct.{met_more, distinct_more, distinct_none, not_false, short_distinct}
use Rattle.vat_view.proofs.preconditions.references.is_distinct.Goals as goal

pub returns-then-not-branch : goal.returns-then-not-branch
returns-then-not-branch c =
    let xs = c.args.references.now in
    let k : ℕ = c.loop-reference.reference-index in
    let x : ℕ = get_or xs k 0 in
    sym (distinct_none xs k x (take_more xs k 0 c.loop-reference-test.true)
    (sym (c.loop-reference.invariant.met x) ∙ not_false _ (sym c.in_ok-meet.ensures.first ∙ c.if-not-branch.true)))

pub loop-reference-preserved : goal.loop-reference-preserved
loop-reference-preserved c =
    let xs = c.args.references.now in
    let k : ℕ = c.loop-reference.reference-index in
    let x : ℕ = get_or xs k 0 in
    let more = take_more xs k 0 c.loop-reference-test.true in
    let new : contains x (take k xs) ≡ false = sym (c.loop-reference.invariant.met x) ∙ not-true _ (sym c.in_ok-meet.ensures.first ∙ c.if-not-branch.false) in
    record {
      met = λ q. met_more q x (take k xs) (has_in c.loop-reference.seen q) (has_in c.meet.new.self q) (c.loop-reference.invariant.met q) (c.in_ok-meet.ensures.met q) ∙ ap (contains q) (sym more);
      distinct = ap is_distinct more ∙ distinct_more x (take k xs) c.loop-reference.invariant.distinct new;
    }

pub returns-then-references-le1 : goal.returns-then-references-le1
returns-then-references-le1 c = sym (short_distinct c.args.references.now c.if-references-le1.true)
