-- Numbers that are counted in turn.
use Rattle.std.proofs.Common.{◌≡◌, ◌+◌, ◌<◌, ◌≤◌, inl, inr, sym, ◌∙◌, ap, subst, ℕ, List, [], ◌∷◌, ◌++◌, take, count_by, cond, if◌then◌else◌, arith}
use Rattle.std.proofs.lemmas.Bool.{cases_Bool}
use Rattle.std.proofs.lemmas.List.Sums.{sum_by-append, sum_by-cons, sum_by-take-le}
use Rattle.vat_view.specs.Types.{TableKey}
use Rattle.decoded_records.specs.Past.{same_id}
use Rattle.decoded_records.proofs.Naming.{same_id_is, same_id_self}

-- one more at the end
pub count_more : (i n : TableKey) (xs : List TableKey) → count_by (same_id i) (xs ++ n ∷ []) ≡ count_by (same_id i) xs + (if same_id i n then 1 else 0)
count_more i n xs =
    let sum = sum_by-append (λ x. cond (same_id i x) 1 0) xs (n ∷ []) in
    let one = sum_by-cons (λ x. cond (same_id i x) 1 0) n [] in omega (arith, sum, one)

-- no more of each are held with one more, where so many of it aren't too many
pub still_held : (count : TableKey → ℕ) (n : TableKey) (xs : List TableKey) → ((i : TableKey) → count_by (same_id i) xs ≤ count i) → count_by (same_id n) xs + 1 ≤ count n →
    (i : TableKey) → count_by (same_id i) (xs ++ n ∷ []) ≤ count i
still_held count n xs before now i = elim (cases_Bool (same_id i n)) [
  | inl same ↦ subst (λ x. count_by (same_id x) (xs ++ n ∷ []) ≤ count x) (sym (same_id_is i n same))
      (let more = count_more n n xs in let self : cond {A = ℕ} (same_id n n) 1 0 ≡ 1 = ap (λ b. cond b 1 0) (same_id_self n) in omega (arith, more, self, now))
  | inr apart ↦ let more = count_more i n xs in let none : cond {A = ℕ} (same_id i n) 1 0 ≡ 0 = ap (λ b. cond b 1 0) apart in let was = before i in omega (arith, more, none, was)
]

-- one that is one too many is so in the whole list
pub too_many : (count : TableKey → ℕ) (n : TableKey) (xs : List TableKey) (k : ℕ) → count n < count_by (same_id n) (take k xs) + 1 → take (k + 1) xs ≡ take k xs ++ n ∷ [] → count_by (same_id n) xs ≤ count n → ⊥
too_many count n xs k over more all =
    let part = sum_by-take-le (λ x. cond (same_id n x) 1 0) xs (k + 1) in
    let here : count_by (same_id n) (take (k + 1) xs) ≡ count_by (same_id n) (take k xs) + cond {A = ℕ} (same_id n n) 1 0 = ap (λ l. count_by (same_id n) l) more ∙ count_more n n (take k xs) in
    let self : cond {A = ℕ} (same_id n n) 1 0 ≡ 1 = ap (λ b. cond b 1 0) (same_id_self n) in omega (arith, over, part, here, self, all)
