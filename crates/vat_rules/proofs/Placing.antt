-- Places of descriptors, at one descriptor more.
use Rattle.std.proofs.Common.{◌≡◌, ◌<◌, ℕ, ◌+◌, List, [], ◌∷◌, ◌++◌, length, take, get_or, refl, sym, ◌∙◌, ap, arith}
use Rattle.std.proofs.lemmas.List.{take_more, length-take-le, append-nil}
use Rattle.vat_rules.specs.Types.{Descriptor, NoCap}
use Rattle.decoded_records.specs.Views.{places_from}

-- the places of two tables, one after the other
places_both : (k : ℕ) (xs ys : List Descriptor) → places_from k (xs ++ ys) ≡ (places_from k xs ++ places_from (k + length xs) ys)
places_both k [] ys = let same : k ≡ k + 0 = omega arith in ap (λ n. places_from n ys) same
places_both k (NoCap ∷ xs) ys = let same : (k + 1) + length xs ≡ k + length (NoCap ∷ xs) = omega arith in
    places_both (k + 1) xs ys ∙ ap (λ n. places_from (k + 1) xs ++ places_from n ys) same
places_both k (d ∷ xs) ys = let same : (k + 1) + length xs ≡ k + length (d ∷ xs) = omega arith in
    ap (λ r. k ∷ r) (places_both (k + 1) xs ys ∙ ap (λ n. places_from (k + 1) xs ++ places_from n ys) same)

places_more : (ds : List Descriptor) (i : ℕ) (z d : Descriptor) → i < length ds → get_or ds i z ≡ d → places_from 0 (take (i + 1) ds) ≡ (places_from 0 (take i ds) ++ places_from i (d ∷ []))
places_more ds i z d lt is =
    let size : 0 + length (take i ds) ≡ i = let e = length-take-le i ds (omega arith) in omega arith in
    ap (λ xs. places_from 0 xs) (take_more ds i z lt ∙ ap (λ x. take i ds ++ (x ∷ [])) is)
    ∙ places_both 0 (take i ds) (d ∷ []) ∙ ap (λ n. places_from 0 (take i ds) ++ places_from n (d ∷ [])) size

-- none takes no place
pub place_none : (xs ds : List Descriptor) (i : ℕ) (z : Descriptor) → xs ≡ ds → i < length xs → get_or xs i z ≡ NoCap → places_from 0 (take i ds) ≡ places_from 0 (take (i + 1) ds)
place_none xs ds i z same lt none =
    sym (ap (λ ys. places_from 0 (take (i + 1) ys)) (sym same) ∙ places_more xs i z NoCap lt none ∙ append-nil (places_from 0 (take i xs)) ∙ ap (λ ys. places_from 0 (take i ys)) same)

-- any other takes its own
own_place : (i : ℕ) (d : Descriptor) → (d ≡ NoCap → ⊥) → places_from i (d ∷ []) ≡ i ∷ []
own_place i NoCap other = absurd (other refl)
own_place i _ other = refl

pub place_some : (xs ds : List Descriptor) (i : ℕ) (z : Descriptor) → xs ≡ ds → i < length xs → (get_or xs i z ≡ NoCap → ⊥) →
    (places_from 0 (take i ds) ++ (i ∷ [])) ≡ places_from 0 (take (i + 1) ds)
place_some xs ds i z same lt other =
    sym (ap (λ ys. places_from 0 (take (i + 1) ys)) (sym same) ∙ places_more xs i z (get_or xs i z) lt refl
    ∙ ap (λ ps. places_from 0 (take i xs) ++ ps) (own_place i (get_or xs i z) other) ∙ ap (λ ys. places_from 0 (take i ys) ++ (i ∷ [])) same)
