-- What a reading of capabilities pays: the price of each struct that it visits.
use Rattle.std.proofs.Common.{◌≡◌, ℕ, zero, suc, ◌+◌, ◌-◌, ◌≤◌, List, [], ◌∷◌, ◌++◌, Result, Ok, refl, ap, arith, inl, inr}
use Rattle.std.proofs.lemmas.List.Sums.{sum_by-cons}
use Rattle.std.specs.List.{range_with_len, sum_by}
use Rattle.std.proofs.lemmas.Bool.{cases_lt, lt-ltb, le-ltb}
use Rattle.cap_reader.specs.declared.read_error.ReadError.{ReadError}
use Rattle.cap_reader.specs.declared.read_error.ReadError.TheVariants as errors
use Rattle.cap_reader.specs.Tree.{Tree, nothing, structure, bad_structure, composite, bad_composite, plain, bad_plain, capability, reserved, unfollowed}
use Rattle.cap_reader.specs.Reading.{Reading, done, fault, visit, and_then, pay_for, run, price, ending, each, cost_of}
use Rattle.cap_reader.specs.Fields.{fields_in}
use Rattle.cap_reader.specs.Laws.{over_structs, struct_words}
use Rattle.cap_reader.proofs.Prices.{err_ok, ends_so}
use Rattle.cap_reader.proofs.Paths.{Entry, Listing, no_ok, ending_then}

-- what was paid for is gone
paid : {E A : Type 0} (too_much : E) (reading : Reading E A) (words left : ℕ) (value : A) → pay_for too_much reading words ≡ (Ok value, left) → left + price reading ≡ words
unfolding pay_for price
paid {E} {A} too_much (done v) words left value e = let same : words ≡ left = ap (λ (r : Result A E × ℕ). r.1) e in omega arith
paid too_much (fault d) words left value e = absurd (err_ok d value words left e)
paid too_much (visit cost rest) words left value e =
    elim (cases_lt words cost) [
      | inl few ↦ absurd (err_ok too_much value words left (rw (lt-ltb words cost few) at e))
      | inr enough ↦ (let h : left + price rest ≡ words - cost = paid too_much rest (words - cost) left value (rw (le-ltb words cost enough) at e) in omega arith)
    ]

price_then : {A B : Type 0} (reading : Reading ReadError A) (next : A → Reading ReadError B) (x : A) → ending reading ≡ Ok x → price (and_then reading next) ≡ price reading + price (next x)
unfolding ending and_then price
price_then {A} {B} (done value) next x e = let same : value ≡ x = cc in let h : price (next value) ≡ price (next x) = ap (λ (y : A). price (next y)) same in omega (arith, h)
price_then (fault d) next x e = absurd cc
price_then (visit cost rest) next x e = let h = price_then rest next x e in omega (arith, h)

module _ (f : ℕ → Listing) (weight : ℕ → ℕ) (one : (n : ℕ) (found : List Entry) → ending (f n) ≡ Ok found → price (f n) ≡ weight n) where
  each_price : (n from : ℕ) (found : List Entry) → ending (each f from n) ≡ Ok found → price (each f from n) ≡ sum_by weight (range_with_len from n)
  unfolding each ending price
  each_price zero from found e = refl
  each_price (suc n) from found e =
      let a = ending_then (f from) (λ first. and_then (each f (from + 1) n) (λ others. done (first ++ others))) found e in
      let b = ending_then (each f (from + 1) n) (λ others. done (a.0 ++ others)) found a.2 in
      let p = price_then (f from) (λ first. and_then (each f (from + 1) n) (λ others. done (first ++ others))) a.0 a.1 in
      let q = price_then (each f (from + 1) n) (λ others. done (a.0 ++ others)) b.0 b.1 in
      omega (arith, p, q, one from a.0 a.1, each_price n (from + 1) b.0 b.1, sum_by-cons weight from (range_with_len (from + 1) n))

fields_price : (tree : Tree) (front : List ℕ) (found : List Entry) → ending (fields_in front tree) ≡ Ok found → price (fields_in front tree) ≡ over_structs cost_of tree
unfolding fields_in ending price over_structs
fields_price nothing front found e = refl
fields_price (structure data_words word pointer_count child) front found e =
    ap (λ (rest : ℕ). cost_of (data_words + pointer_count) + rest)
    (each_price (λ n. fields_in (front ++ n ∷ []) (child n)) (λ n. over_structs cost_of (child n)) (λ n. fields_price (child n) (front ++ n ∷ [])) pointer_count 0 found e)
fields_price (bad_structure d) front found e = absurd (no_ok d found e)
fields_price (composite n g) front found e = refl
fields_price (bad_composite d) front found e = absurd (no_ok d found e)
fields_price (plain element_size count word) front found e = refl
fields_price (bad_plain element_size d) front found e = absurd (no_ok d found e)
fields_price (capability index) front found e = refl
fields_price reserved front found e = absurd (no_ok _ found e)
fields_price (unfollowed d) front found e = absurd (no_ok d found e)

-- ---- a smaller weight has a smaller sum

sum_le : (f g : ℕ → ℕ) → ((n : ℕ) → f n ≤ g n) → (ns : List ℕ) → sum_by f ns ≤ sum_by g ns
sum_le f g le [] = omega arith
sum_le f g le (n ∷ ns) = omega (arith, le n, sum_le f g le ns, sum_by-cons f n ns, sum_by-cons g n ns)

module _ (light heavy : ℕ → ℕ) (le : (size : ℕ) → light size ≤ heavy size) where
  over_le : (tree : Tree) → over_structs light tree ≤ over_structs heavy tree
  unfolding over_structs
  over_le nothing = omega arith
  over_le (structure data_words word pointer_count child) =
      omega (arith, le (data_words + pointer_count), sum_le (λ n. over_structs light (child n)) (λ n. over_structs heavy (child n)) (λ n. over_le (child n)) (range_with_len 0 pointer_count))
  over_le (bad_structure d) = omega arith
  over_le (composite n g) = omega arith
  over_le (bad_composite d) = omega arith
  over_le (plain element_size count word) = omega arith
  over_le (bad_plain element_size d) = omega arith
  over_le (capability index) = omega arith
  over_le reserved = omega arith
  over_le (unfollowed d) = omega arith

pub paid_exactly : (tree : Tree) (words left : ℕ) (found : List Entry) → run (fields_in [] tree) words ≡ (Ok found, left) → left + over_structs cost_of tree ≡ words
paid_exactly tree words left found e =
    let ends = ends_so errors.TooMuch (fields_in [] tree) words left found e in
    omega (arith, paid errors.TooMuch (fields_in [] tree) words left found e, fields_price tree [] found ends)

size_le : (size : ℕ) → size ≤ cost_of size
size_le size = omega arith

pub words_are_paid : (tree : Tree) (words left : ℕ) (found : List Entry) → run (fields_in [] tree) words ≡ (Ok found, left) → left + struct_words tree ≤ words
words_are_paid tree words left found e =
    omega (arith, paid_exactly tree words left found e, over_le (λ size. size) cost_of size_le tree)
