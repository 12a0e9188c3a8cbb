-- What one introduction more does to the table of lives.
use Rattle.std.proofs.Common.{◌≡◌, ◌≢◌, ◌+◌, ◌<◌, inl, inr, refl, sym, ◌∙◌, ap, subst, ℕ, ◌==◌, List, [], ◌∷◌, ◌++◌, zero-add, count_by, cond, Bool, true, false, ◌&&◌, Option, Some, None, if◌then◌else◌, option_map, arith}
use Rattle.std.specs.Prelude.{unwrap_or, find, is_none, Result, Ok, Err, OnOk, is_err}
use Rattle.std.specs.Option.{option_or}
use Rattle.std.proofs.lemmas.Bool.{cases_Bool, false≢true, ne_eqb, eqb-true, eqb-false}
use Rattle.std.proofs.lemmas.List.Sums.{sum_by-cons}
use Rattle.number_tables.specs.declared.life.NumberLife.{NumberLife}
use Rattle.decoded_records.specs.declared.origin.Origin.{Origin}
use Rattle.number_tables.specs.Types.{TableKey}
use Rattle.decoded_records.specs.Past.{same_id}
use Rattle.number_tables.specs.Glue.LifeTables.{raised_origin}
use Rattle.decoded_records.proofs.Naming.{same_id_is, same_id_self}

abbrev pub count_in : Option NumberLife → ℕ
count_in o = unwrap_or (option_map (λ life. life.count) o) 0

pub apart_sym : (a b : TableKey) → same_id a b ≡ false → same_id b a ≡ false
apart_sym a b e = elim (cases_Bool (same_id b a)) [
  | inl same ↦ absurd (false≢true (sym e ∙ subst (λ x. same_id a x ≡ true) (sym (same_id_is b a same)) (same_id_self a)))
  | inr apart ↦ apart
]

-- where a number had a life, what is written in its place is put there
pub put_written : (old : TableKey → Option NumberLife) (n : TableKey) (life w : NumberLife) → Some life ≡ old n → (i : TableKey) →
    (if same_id n i then option_map (λ _. w) (old i) else old i) ≡ (if same_id n i then Some w else old i)
put_written old n life w had i = at (same_id n i) refl
  where
    at : (b : Bool) → same_id n i ≡ b → (if b then option_map (λ _. w) (old i) else old i) ≡ (if b then Some w else old i)
    at true same = ap (λ o. option_map (λ _. w) o) (ap (λ x. old x) (sym (same_id_is n i same)) ∙ sym had)
    at false other = refl

pub if_ok : {A E P Q : Type 0} (r : Result A E) → OnOk r P → (P → Q) → OnOk r Q
if_ok (Ok x) p f = f p
if_ok (Err e) p f = tt

module _ (old new : TableKey → Option NumberLife) (n : TableKey) (w : NumberLife)
    (put : (i : TableKey) → new i ≡ (if same_id n i then Some w else old i)) (count_is : w.count ≡ count_in (old n) + 1) where
  at_it : new n ≡ Some w
  at_it = put n ∙ ap (λ b. if b then Some w else old n) (same_id_self n)

  at_other : (i : TableKey) → same_id i n ≡ false → new i ≡ old i
  at_other i apart = put i ∙ ap (λ b. if b then Some w else old i) (apart_sym i n apart)

  pub raised_count : (i : TableKey) → count_in (new i) ≡ count_in (old i) + (if same_id i n then 1 else 0)
  raised_count i = elim (cases_Bool (same_id i n)) [
    | inl same ↦ subst (λ x. count_in (new x) ≡ count_in (old x) + (if same_id x n then 1 else 0)) (sym (same_id_is i n same))
        (ap (λ o. count_in o) at_it ∙ count_is ∙ ap (λ b. count_in (old n) + (if b then 1 else 0)) (sym (same_id_self n)))
    | inr apart ↦ let here : count_in (new i) ≡ count_in (old i) = ap (λ o. count_in o) (at_other i apart) in rw apart (omega (arith, here))
  ]

-- ---- one introduction more in a list

find_more : {A : Type 0} (test : A → Bool) (xs : List A) (x : A) → find test (xs ++ x ∷ []) ≡ option_or (find test xs) (if test x then Some x else None)
find_more test [] x = refl
find_more test (y ∷ xs) x = first (test y) (find_more test xs x)
  where
    first : (b : Bool) → find test (xs ++ x ∷ []) ≡ option_or (find test xs) (if test x then Some x else None) →
        (if b then Some y else find test (xs ++ x ∷ [])) ≡ option_or (if b then Some y else find test xs) (if test x then Some x else None)
    first true e = refl
    first false e = e

pub positive : (m : ℕ) → 0 < m → (m == 0) ≡ false
positive m lt = ne_eqb m 0 (λ e. let no : ⊥ = omega (arith, lt, e) in no)

pub none_counted : {A : Type 0} (test : A → Bool) (xs : List A) → (count_by test xs == 0) ≡ is_none (find test xs)
none_counted test [] = refl
none_counted test (y ∷ xs) = ap (λ n. n == 0) (sum_by-cons (λ x. cond (test x) 1 0) y xs) ∙ first (test y) (count_by test xs) (none_counted test xs)
  where
    first : (b : Bool) (n : ℕ) → (n == 0) ≡ is_none (find test xs) → ((cond b 1 0) + n == 0) ≡ is_none (if b then Some y else find test xs)
    first true n e = positive (1 + n) (omega arith)
    first false n e = ap (λ m. m == 0) (zero-add n) ∙ e

module _ (i : TableKey) (first : Option Origin) where
  raised_zero : (o : Option (TableKey × Origin)) (x : TableKey × Origin) (b : Bool) →
      option_or (option_map (λ x. x.1) (option_or o (if b then Some x else None))) first ≡ (if b && is_none o then Some x.1 else option_or (option_map (λ x. x.1) o) first)
  raised_zero None x true = refl
  raised_zero None x false = refl
  raised_zero (Some y) x true = refl
  raised_zero (Some y) x false = refl

  from_zero : (xs : List (TableKey × Origin)) (x : TableKey × Origin) → raised_origin 0 first i (xs ++ x ∷ [])
      ≡ (if same_id i x.0 && (0 + count_by (λ y. same_id i y.0) xs == 0) then Some x.1 else raised_origin 0 first i xs)
  from_zero xs x =
      ap (λ o. option_or (option_map (λ x. x.1) o) first) (find_more (λ y. same_id i y.0) xs x)
      ∙ raised_zero (find (λ y. same_id i y.0) xs) x (same_id i x.0)
      ∙ ap (λ b. if same_id i x.0 && b then Some x.1 else option_or (option_map (λ x. x.1) (find (λ y. same_id i y.0) xs)) first)
      (sym (none_counted (λ y. same_id i y.0) xs) ∙ ap (λ n. n == 0) (sym (zero-add (count_by (λ y. same_id i y.0) xs))))

  pub held_on : (count : ℕ) → (count == 0) ≡ false → (xs : List (TableKey × Origin)) → raised_origin count first i xs ≡ first
  held_on count e xs = ap (λ b. if b then option_or (option_map (λ x. x.1) (find (λ x. same_id i x.0) xs)) first else first) e

  never : (b c : Bool) (o : Option Origin) (x : Origin) → c ≡ false → o ≡ (if b && c then Some x else o)
  never true false o x e = refl
  never false c o x e = refl
  never true true o x e = absurd (false≢true (sym e))

  pub raised_more : (count : ℕ) (xs : List (TableKey × Origin)) (x : TableKey × Origin) → raised_origin count first i (xs ++ x ∷ [])
      ≡ (if same_id i x.0 && (count + count_by (λ y. same_id i y.0) xs == 0) then Some x.1 else raised_origin count first i xs)
  raised_more count xs x = elim (cases_Bool (count == 0)) [
    | inl none ↦ subst (λ n. raised_origin n first i (xs ++ x ∷ []) ≡ (if same_id i x.0 && (n + count_by (λ y. same_id i y.0) xs == 0) then Some x.1 else raised_origin n first i xs))
        (sym (eqb-true count 0 none)) (from_zero xs x)
    | inr some ↦
        let more : (count + count_by (λ y. same_id i y.0) xs == 0) ≡ false =
        positive (count + count_by (λ y. same_id i y.0) xs) (let apart : count ≢ 0 = eqb-false count 0 some in grind (arith, apart)) in
        held_on count some (xs ++ x ∷ []) ∙ sym (held_on count some xs)
        ∙ never (same_id i x.0) (count + count_by (λ y. same_id i y.0) xs == 0) (raised_origin count first i xs) x.1 more
  ]

pub ok_gives : {T E P : Type 0} (r : Result T E) → is_err r ≡ false → OnOk r P → P
ok_gives (Ok x) e p = p
ok_gives (Err x) e p = absurd (false≢true (sym e))
