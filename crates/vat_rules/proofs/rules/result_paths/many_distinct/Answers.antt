use Rattle.std.proofs.Common.{◌≡◌, ◌+◌, sym, ◌∙◌, ap, ap₂, ℕ, List, [], ◌∷◌, ◌++◌, take, true, if◌then◌else◌}
use Rattle.std.specs.Prelude.{not, ◌&&◌}
use Rattle.std.proofs.lemmas.List.{take_more}
use Rattle.std.proofs.lemmas.Map.Text.{is_eq-slice_cmp}
use Rattle.std.specs.Str.{bytes_eq as same_path}
use Rattle.vat_rules.specs.OfCalls.{distinct_paths}
use Rattle.vat_rules.proofs.Twice.{stands, distinct_more, twice_here, stands_more, was_there}
use Rattle.vat_rules.proofs.rules.result_paths.many_distinct.Goals as goal

pub returns-then-not-branch : goal.returns-then-not-branch
returns-then-not-branch c =
    let all : List (ℕ × List ℕ) = c.args.results.now in
    let k : ℕ = c.loop-path.path-index in
    let x : ℕ × List ℕ = c.loop-path-item.result in
    let more : take (k + 1) all ≡ take k all ++ x ∷ [] = take_more all k x c.loop-path-test.true ∙ ap (λ y. take k all ++ y ∷ []) (sym c.loop-path-item.is) in
    twice_here all k x more (ap (λ p. stands p (take k all)) (sym c.as_slice.ensures) ∙ sym (c.loop-path.invariant.seen c.as_slice.result) ∙ was_there _ c.in_ok-insert.field-0 c.in_ok-insert.ensures.added c.if-not-branch.true)

pub loop-path-preserved : goal.loop-path-preserved
loop-path-preserved c =
    let all : List (ℕ × List ℕ) = c.args.results.now in
    let k : ℕ = c.loop-path.path-index in
    let x : ℕ × List ℕ = c.loop-path-item.result in
    let more : take (k + 1) all ≡ take k all ++ x ∷ [] = take_more all k x c.loop-path-test.true ∙ ap (λ y. take k all ++ y ∷ []) (sym c.loop-path-item.is) in
    record {
      distinct = ap distinct_paths more ∙ distinct_more (take k all) x ∙ ap₂ (λ b s. b && not s) c.loop-path.invariant.distinct (ap (λ p. stands p (take k all)) (sym c.as_slice.ensures) ∙ sym (c.loop-path.invariant.seen c.as_slice.result)) ∙ sym c.in_ok-insert.ensures.added ∙ c.if-not-branch.false;
      seen = λ q. c.in_ok-insert.ensures.updates.0 q
          ∙ ap₂ (λ b s. if b then true else s) (is_eq-slice_cmp c.as_slice.result.now q.now ∙ ap (λ p. same_path p q.now) c.as_slice.ensures) (c.loop-path.invariant.seen q)
          ∙ sym (stands_more (take k all) x q.now) ∙ sym (ap (λ l. stands q.now l) more);
    }
