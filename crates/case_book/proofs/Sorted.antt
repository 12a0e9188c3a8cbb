-- In a list whose numbers don't fall, those that stand more than once stand side by side.
use Rattle.std.proofs.Common.{◌≡◌, ℕ, zero, suc, ◌<◌, ◌≤◌, Bool, false, cond, List, [], ◌∷◌, length, map, Option, Some, None, refl, ap, subst, ◌∙◌, inl, inr, add-one, arith}
use Rattle.std.specs.Prelude.{◌⊎◌, ◌==◌, slice_index, nat_lt}
use Rattle.std.specs.List.Sorted.{IsPermutation, IsNonDecreasingBy, IsStrictlyIncreasing}
use Rattle.std.proofs.lemmas.Bool.{eqb-true, eq-eqb, cases_eq}
use Rattle.std.proofs.lemmas.List.Elements.{recursion_from_All, All-map}
use Rattle.std.proofs.lemmas.List.Sorted.{sum_by-IsPermutation}
use Rattle.case_book.specs.Least.{least_repeated}
use Rattle.case_book.specs.Glue.{first_same}
use Rattle.case_book.proofs.Numbers.{not_below, bool_cases, times, AreFrom, first_or_rest, none_below, repeated_none, repeated_some}

-- no number is smaller than one before it
abbrev pub Rises : List ℕ → Type 0
Rises [] = Unit {0}
Rises (n ∷ ns) = AreFrom n ns × Rises ns

pub rises : {X : Type 0} (f : X → ℕ) (xs : List X) → IsNonDecreasingBy f xs → Rises (map f xs)
rises f [] h = tt
rises f (x ∷ xs) h =
    (recursion_from_All (λ n. f x ≤ n) (map f xs) (All-map (λ n. f x ≤ n) f xs (λ k d lt. h 0 (suc k) d (omega arith) (omega arith))), rises f xs (λ i j d le lt. h (suc i) (suc j) d (omega arith) (omega arith)))

map_twice : {Y X : Type 0} (g : Y → X) (f : X → ℕ) (ys : List Y) → map (λ y. f (g y)) ys ≡ map f (map g ys)
map_twice g f [] = refl
map_twice g f (y ∷ ys) = ap (λ ns. f (g y) ∷ ns) (map_twice g f ys)

pub rises_under : {Y X : Type 0} (g : Y → X) (f : X → ℕ) (ys : List Y) → IsNonDecreasingBy (λ y. f (g y)) ys → Rises (map f (map g ys))
rises_under g f ys h = let P : List ℕ → Type 0 = λ ns. Rises ns in subst P (map_twice g f ys) (rises (λ y. f (g y)) ys h)

-- no two neighbours are the same
next_none : (m n : ℕ) (ns : List ℕ) → first_same (Some m) (n ∷ ns) ≡ None → ((m == n) ≡ false) × (first_same (Some n) ns ≡ None)
next_none m n ns none =
    elim (bool_cases (m == n)) [
      | inl same ↦ absurd (let e = rw same at none in cc)
      | inr other ↦ (other, rw other at none)
    ]

next_some : (m n k : ℕ) (ns : List ℕ) → first_same (Some m) (n ∷ ns) ≡ Some k → ((m ≡ n) × (n ≡ k)) ⊎ (((m == n) ≡ false) × (first_same (Some n) ns ≡ Some k))
next_some m n k ns some =
    elim (bool_cases (m == n)) [
      | inl same ↦ inl (eqb-true m n same, let e = rw same at some in cc)
      | inr other ↦ inr (other, rw other at some)
    ]

less : (m n : ℕ) → m ≤ n → (m == n) ≡ false → m < n
less m n le other =
    elim (cases_eq m n) [
      | inl same ↦ absurd (let e = eq-eqb m n same in cc)
      | inr differs ↦ omega (arith, differs)
    ]

from_itself : (n : ℕ) (ns : List ℕ) → AreFrom n ns → AreFrom n (n ∷ ns)
from_itself n ns from = (omega arith, from)

two_first : (m x n : ℕ) (ns : List ℕ) → m ≡ x → x ≡ n → 1 < times n (m ∷ x ∷ ns)
two_first m x n ns e f =
    elim (first_or_rest m n (x ∷ ns)) [
      | inl first ↦ elim (first_or_rest x n ns) [
        | inl second ↦ let a = first.1 in let b = second.1 in omega arith
        | inr rest ↦ absurd (let g = eq-eqb x n f in let h = rest.0 in cc)
      ]
      | inr rest ↦ absurd (let g = eq-eqb m n (e ∙ f) in let h = rest.0 in cc)
    ]

at_least : (m n : ℕ) (ns : List ℕ) → 1 < times n ns → 1 < times n (m ∷ ns)
at_least m n ns twice =
    elim (first_or_rest m n ns) [
      | inl first ↦ let e = first.1 in omega arith
      | inr rest ↦ let e = rest.1 in omega arith
    ]

one_more : (m x k : ℕ) (ns : List ℕ) → m < x → AreFrom x ns → times k (x ∷ ns) ≤ 1 → times k (m ∷ x ∷ ns) ≤ 1
one_more m x k ns lt from once =
    elim (first_or_rest m k (x ∷ ns)) [
      | inl first ↦ let e = first.1 in let here = first.0 in let none_left = none_below x k (x ∷ ns) (from_itself x ns from) (omega arith) in omega arith
      | inr rest ↦ let e = rest.1 in omega arith
    ]

once_each : (m : ℕ) (ns : List ℕ) → Rises (m ∷ ns) → first_same (Some m) ns ≡ None → (n : ℕ) → times n (m ∷ ns) ≤ 1
once_each m [] rising none n =
    elim (first_or_rest m n []) [
      | inl first ↦ let e = first.1 in omega arith
      | inr rest ↦ let e = rest.1 in omega arith
    ]
once_each m (k ∷ ns) rising none n =
    let next = next_none m k ns none in
    let lt = less m k rising.0.0 next.0 in
    let rest = once_each k ns rising.1 next.1 n in
    elim (first_or_rest m n (k ∷ ns)) [
      | inl first ↦ let e = first.1 in let here = first.0 in let none_left = none_below k n (k ∷ ns) (from_itself k ns rising.1.0) (omega arith) in omega arith
      | inr later ↦ let e = later.1 in omega arith
    ]

twice_one : (m : ℕ) (ns : List ℕ) (n : ℕ) → Rises (m ∷ ns) → first_same (Some m) ns ≡ Some n → (1 < times n (m ∷ ns)) × ((k : ℕ) → k < n → times k (m ∷ ns) ≤ 1)
twice_one m [] n rising some = absurd cc
twice_one m (x ∷ ns) n rising some =
    elim (next_some m x n ns some) [
      | inl same ↦ (two_first m x n ns same.0 same.1, λ k lt. let e = same.0 in let f = same.1 in let none_left = none_below m k (m ∷ x ∷ ns) (from_itself m (x ∷ ns) rising.0) (omega arith) in omega arith)
      | inr next ↦
          let later = twice_one x ns n rising.1 next.1 in
          (at_least m n (x ∷ ns) later.0, λ k lt. one_more m x k ns (less m x rising.0.0 next.0) rising.1.0 (later.1 k lt))
    ]

-- ---- what was found in the sorted list, said of the list as it came

times_same : (ns ks : List ℕ) → IsPermutation ns ks → (n : ℕ) → times n ks ≡ times n ns
times_same ns ks moved n = sum_by-IsPermutation (λ other. cond (other == n) 1 0) ns ks moved

once_in : (ks : List ℕ) → Rises ks → first_same None ks ≡ None → (n : ℕ) → times n ks ≤ 1
once_in [] rising none n = omega arith
once_in (m ∷ ks) rising none n = once_each m ks rising none n

twice_in : (ks : List ℕ) (n : ℕ) → Rises ks → first_same None ks ≡ Some n → (1 < times n ks) × ((k : ℕ) → k < n → times k ks ≤ 1)
twice_in [] n rising some = absurd cc
twice_in (m ∷ ks) n rising some = twice_one m ks n rising some

pub none_found : (ns ks : List ℕ) → IsPermutation ns ks → Rises ks → first_same None ks ≡ None → least_repeated ns ≡ None
none_found ns ks moved rising none =
    repeated_none ns (λ n. let once = once_in ks rising none n in let same = times_same ns ks moved n in omega arith)

pub some_found : (ns ks : List ℕ) (n : ℕ) → IsPermutation ns ks → Rises ks → first_same None ks ≡ Some n → least_repeated ns ≡ Some n
some_found ns ks n moved rising some =
    let twice = twice_in ks n rising some in
    let same = times_same ns ks moved n in
    repeated_some ns n (let h = twice.0 in omega arith) (λ m lt. let once = twice.1 m lt in let as_often = times_same ns ks moved m in omega arith)

-- ---- and then the list rises

steps_up : (m : ℕ) (ns : List ℕ) → Rises (m ∷ ns) → first_same (Some m) ns ≡ None → (k : ℕ) → suc k < length (m ∷ ns) → slice_index (m ∷ ns) k < slice_index (m ∷ ns) (suc k)
steps_up m [] rising none k lt = absurd (omega arith)
steps_up m (n ∷ ns) rising none zero lt = less m n rising.0.0 (next_none m n ns none).0
steps_up m (n ∷ ns) rising none (suc k) lt = steps_up n ns rising.1 (next_none m n ns none).1 k (omega arith)

goes_up : (ks : List ℕ) → Rises ks → first_same None ks ≡ None → (k : ℕ) → suc k < length ks → slice_index ks k < slice_index ks (suc k)
goes_up [] rising none k lt = absurd (omega arith)
goes_up (m ∷ ks) rising none k lt = steps_up m ks rising none k lt

pub strictly : (ks : List ℕ) → Rises ks → first_same None ks ≡ None → IsStrictlyIncreasing ks
strictly ks rising none k lt = rw (add-one k) (goes_up ks rising none k (omega arith))

-- ---- the fault that is found

pub few_enough : {F : Type 0} (limit n : ℕ) (fault : F) (other : Option F) → n ≤ limit → cond (nat_lt limit n) (Some fault) other ≡ other
few_enough limit n fault other le = ap (λ (b : Bool). cond b (Some fault) other) (not_below limit n le)
