-- Where a search by vat numbers ends, and which vats a progress has.
use Rattle.std.proofs.Common.{◌≡◌, ℕ, suc, ◌<◌, ◌≤◌, Bool, true, false, cond, List, [], ◌∷◌, length, get_or, drop, Option, Some, None, Result, Ok, Err, refl, sym, ap, subst, ◌∙◌, inl, inr, arith}
use Rattle.std.specs.Prelude.{◌≢◌, ◌==◌, ◌||◌, map, is_some, MatchOption, slice_index_or}
use Rattle.std.specs.List.Sorted.{IsStrictlyIncreasing, IsSearchInRange, IsBinarySearchResult, IsNonDecreasingBy}
use Rattle.std.specs.Ordering.{nat_cmp, ordering_index}
use Rattle.std.specs.Result.{result_ok}
use Rattle.std.proofs.lemmas.Bool.{cases_lt, cases_eq}
use Rattle.std.proofs.lemmas.Bool.Decides.{nat_tests}
use Rattle.std.proofs.lemmas.Cmp.{ranked}
use Rattle.std.proofs.lemmas.List.{drop_all, get_or-map, length-map}
use Rattle.std.proofs.lemmas.Map.Keys.{sorted_from_strictly_increasing, below_from_sorted}
use Rattle.merge_order.specs.Fits.{Part, part_of}
use Rattle.merge_order.proofs.Greedy.{eqb_apart}
use Rattle.merge_order.proofs.Totals.{part_at}

-- ---- the search

-- no part is the vat's where no part has its number
part_none : (v : ℕ) (ps : List Part) → ((k : ℕ) → k < length ps → (d : Part) → (get_or ps k d).log.vat ≢ v) → part_of v ps ≡ None
part_none v [] apart = refl
part_none v (p ∷ ps) apart = rw (eqb_apart p.log.vat v (apart 0 (omega arith) p)) (part_none v ps (λ k lt d. apart (suc k) (omega arith) d))

vats_rise : (ps : List Part) (i j : ℕ) (d : Part) → IsStrictlyIncreasing (map (λ q. q.log.vat) ps) → i < j → j < length ps → (get_or ps i d).log.vat < (get_or ps j d).log.vat
vats_rise ps i j d rising lt within =
    let vat = λ (q : Part). q.log.vat in
    let fits : j < length (map vat ps) = omega (arith, length-map ps vat, within) in
    let below = below_from_sorted (map vat ps) i j 0 (sorted_from_strictly_increasing (map vat ps) rising) lt fits in
    omega (arith, below, get_or-map vat ps i d 0 (omega arith), get_or-map vat ps j d 0 within)

index_rises : (a b n : ℕ) → a ≤ b → ordering_index (nat_cmp a n) ≤ ordering_index (nat_cmp b n)
index_rises a b n le = grind (arith, nat_tests)

comparisons_rise : (v : ℕ) (ps : List Part) → IsStrictlyIncreasing (map (λ q. q.log.vat) ps) → IsNonDecreasingBy (λ (q : Part). ordering_index (nat_cmp q.log.vat v)) ps
comparisons_rise v ps rising i j d le within =
    elim (cases_eq i j) [
      | inl same ↦ index_rises _ _ v (omega (arith, ap (λ (k : ℕ). (get_or ps k d).log.vat) same))
      | inr apart ↦ index_rises _ _ v (let lt = vats_rise ps i j d rising (omega arith) within in omega (arith, lt))
    ]

-- a search among vat numbers that rise ends at the vat's part, or it has none
pub placed : (v : ℕ) (ps : List Part) (r : Result ℕ ℕ) → IsStrictlyIncreasing (map (λ q. q.log.vat) ps) → IsSearchInRange r (length ps) → IsBinarySearchResult (λ (q : Part). nat_cmp q.log.vat v) ps r
    → MatchOption (result_ok r) (part_of v ps ≡ None) (λ at. (at < length ps) × ((d : Part) → (slice_index_or ps at d).log.vat ≡ v))
placed v ps (Ok at) rising within equal = (within, λ d. ranked _ v _ (sym (equal d)))
placed v ps (Err at) rising within parted =
    let sides = parted (comparisons_rise v ps rising) in
    part_none v ps (λ k lt d same.
    elim (cases_lt k at) [
      | inl before ↦ (let small : (get_or ps k d).log.vat < v = ranked _ v _ (sym (sides.0 k d (omega arith) before)) in omega (arith, small, same))
      | inr behind ↦ (let large : v < (get_or ps k d).log.vat = ranked _ v _ (sym (sides.1 k d behind lt)) in omega (arith, large, same))
    ])

-- the part at the place
pub found_part : (v : ℕ) (ps now : List Part) (i : ℕ) (p : Part) → ps ≡ now → IsStrictlyIncreasing (map (λ q. q.log.vat) ps) → (i < length now) × ((d : Part) → (slice_index_or now i d).log.vat ≡ v) → p ≡ get_or ps i p → Some p ≡ part_of v now
found_part v ps now i p view rising place is =
    let lt : i < length ps = subst (λ (l : List Part). i < length l) (sym view) place.0 in
    let vat : p.log.vat ≡ v = ap (λ (q : Part). q.log.vat) is ∙ ap (λ (l : List Part). (get_or l i p).log.vat) view ∙ place.1 p in
    sym (ap (λ (u : ℕ). part_of u now) (sym vat) ∙ ap (part_of p.log.vat) (sym view) ∙ part_at ps i p rising lt is)

-- ---- all vats

or_false : (b : Bool) → (b || false) ≡ b
or_false true = refl
or_false false = refl

one_of : (t : Bool) (p : Part) (now : Bool) (o : Option Part) → (now || is_some (cond t (Some p) o)) ≡ (cond t true now || is_some o)
one_of true p true o = refl
one_of true p false o = refl
one_of false p now o = refl

pub vats_more : (v : ℕ) (p : Part) (from rest : List Part) (x : ℕ) (all now later : Bool) → from ≡ p ∷ rest → x ≡ p.log.vat → later ≡ cond (x == v) true now → all ≡ (now || is_some (part_of v from)) → all ≡ (later || is_some (part_of v rest))
vats_more v p from rest x all now later front is more so_far =
    so_far ∙ ap (λ (l : List Part). now || is_some (part_of v l)) front ∙ one_of (p.log.vat == v) p now (part_of v rest)
    ∙ ap (λ (b : Bool). b || is_some (part_of v rest)) (sym (more ∙ ap (λ (n : ℕ). cond (n == v) true now) is))

pub vats_all : (v : ℕ) (ps : List Part) (n : ℕ) (ready : Bool) → length ps ≤ n → is_some (part_of v ps) ≡ (ready || is_some (part_of v (drop n ps))) → ready ≡ is_some (part_of v ps)
vats_all v ps n ready le so_far =
    sym (so_far ∙ ap (λ (l : List Part). ready || is_some (part_of v l)) (drop_all n ps le) ∙ or_false ready)
