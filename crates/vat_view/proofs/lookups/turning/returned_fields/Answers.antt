use Rattle.std.proofs.Common.{◌≡◌, ◌+◌, sym, ◌∙◌, ap, ap₂, ℕ, List, [], ◌∷◌, ◌++◌, take, map, Option, Some, None, option_and_then, arith}
use Rattle.std.specs.Prelude.{slice_get}
use Rattle.std.proofs.lemmas.Grind.{common_steps}
use Rattle.std.proofs.lemmas.Option.{gets}
use Rattle.std.proofs.lemmas.List.{take_more, map-append}
use Rattle.vat_view.specs.Glue.TurnTables.{reference_at, field_target}
use Rattle.vat_view.proofs.lookups.turning.returned_fields.Goals as goal
use Rattle.vat_view.proofs.lookups.turning.returned_fields.Goals.{in-Some, in-None}

noted : (items : List (Option ℕ)) (place : ℕ) (o : Option (Option ℕ)) (r known : Option ℕ) → slice_get items place ≡ o → option_and_then (λ n. n) (slice_get items place) ≡ known → r ≡ option_and_then (λ n. n) o → r ≡ known
noted items place o r known found is so = so ∙ ap (λ x. option_and_then (λ n. n) x) (sym found) ∙ is

pub loop-path-preserved : goal.loop-path-preserved
loop-path-preserved c =
    let all : List (List ℕ × ℕ) = c.args.results.now in
    let k : ℕ = c.loop-path.path-index in
    let x : List ℕ × ℕ = c.loop-path-item.result in
    let more : take (k + 1) all ≡ take k all ++ x ∷ [] = take_more all k x c.loop-path-test.true ∙ ap (λ y. take k all ++ y ∷ []) (sym c.loop-path-item.is) in
    let reference : c.match-get.reference ≡ reference_at c.args.event.now x.1 = elim c.match-get.branch [
      | in-Some w ↦ noted c.in_ok-noted.noted.items x.1 (Some w.in-Some.reference.now) c.match-get.reference (reference_at c.args.event.now x.1) (grind (arith, common_steps, gets)) (c.in_ok-noted.ensures x.1) w.reference-is
      | in-None w ↦ noted c.in_ok-noted.noted.items x.1 None c.match-get.reference (reference_at c.args.event.now x.1) (grind (arith, common_steps, gets)) (c.in_ok-noted.ensures x.1) w.reference-is
    ] in
    c.in_ok-push.ensures.items ∙ ap₂ (λ l y. l ++ y ∷ []) c.loop-path.invariant (ap₂ (λ r p. (r, p)) reference c.in_ok-copy.ensures)
    ∙ sym (map-append (field_target (reference_at c.args.event.now)) (take k all) (x ∷ [])) ∙ ap (λ l. map (field_target (reference_at c.args.event.now)) l) (sym more)
