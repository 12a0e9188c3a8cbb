use Rattle.std.proofs.Common.{◌≡◌, ◌+◌, sym, ◌∙◌, ap, ap₂, ℕ, List, [], ◌∷◌, ◌++◌, take, map, Some}
use Rattle.std.proofs.lemmas.List.{take_more, map-append}
use Rattle.vat_view.specs.Glue.TurnTables.{answer_target}
use Rattle.vat_view.proofs.lookups.turning.answered_fields.Goals as goal

pub loop-reference-preserved : goal.loop-reference-preserved
loop-reference-preserved c =
    let all : List (ℕ × List ℕ) = c.args.results.now in
    let k : ℕ = c.loop-reference.reference-index in
    let x : ℕ × List ℕ = c.loop-reference-item.result in
    let more : take (k + 1) all ≡ take k all ++ x ∷ [] = take_more all k x c.loop-reference-test.true ∙ ap (λ y. take k all ++ y ∷ []) (sym c.loop-reference-item.is) in
    c.in_ok-push.ensures.items ∙ ap₂ (λ l y. l ++ y ∷ []) c.loop-reference.invariant (ap (λ p. (Some x.0, p)) c.in_ok-copy.ensures)
    ∙ sym (map-append answer_target (take k all) (x ∷ [])) ∙ ap (λ l. map answer_target l) (sym more)
