use Rattle.std.proofs.Common.{◌≡◌, ◌+◌, sym, ◌∙◌, ap, ap₂, ℕ, List, [], ◌∷◌, ◌++◌, take, map, Bool, arith}
use Rattle.std.specs.Prelude.{slice_get}
use Rattle.std.proofs.lemmas.Grind.{common_steps}
use Rattle.std.proofs.lemmas.Option.{gets}
use Rattle.std.proofs.lemmas.List.{take_more, map-append}
use Rattle.vat_view.specs.Types.{Descriptor}
use Rattle.vat_view.specs.Connections.{names_back}
use Rattle.vat_view.specs.Glue.ArrivalTables.{field_back}
use Rattle.vat_view.proofs.tables.arrivals.fields_back.Goals as goal

pub loop-path-preserved : goal.loop-path-preserved
loop-path-preserved c =
    let ds : List Descriptor = c.args.payload.now.descriptors in
    let all : List (List ℕ × ℕ) = c.as_slice-path-items.result.now in
    let k : ℕ = c.loop-path.path-index in
    let x : List ℕ × ℕ = c.loop-path-item.result in
    let more : take (k + 1) all ≡ take k all ++ x ∷ [] = take_more all k x c.loop-path-test.true ∙ ap (λ y. take k all ++ y ∷ []) (sym c.loop-path-item.is) in
    let named : c.names_back.result ≡ names_back (slice_get ds x.1) = grind (arith, common_steps, gets) in
    c.in_ok-push.ensures.items ∙ ap₂ (λ l y. l ++ y ∷ []) c.loop-path.invariant (ap₂ (λ (b : Bool) (p : List ℕ). (b, p)) named c.in_ok-copy.ensures)
    ∙ sym (map-append (field_back ds) (take k all) (x ∷ [])) ∙ ap (λ l. map (field_back ds) l) (sym more)
