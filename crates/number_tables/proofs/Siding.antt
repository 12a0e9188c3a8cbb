-- What a change in the table of one side does to the tables of all sides.
use Rattle.std.proofs.Common.{◌≡◌, ◌+◌, ◌*◌, inl, inr, refl, sym, ◌∙◌, ap, ap₂, ℕ, ◌==◌, List, Bool, true, false, ◌&&◌, Option, Some, if◌then◌else◌, arith}
use Rattle.std.specs.Prelude.{option_and_then, option_map}
use Rattle.std.specs.Bool.{beq}
use Rattle.std.proofs.lemmas.Bool.{cases_Bool, eqb-true}
use Rattle.std.proofs.lemmas.Bool.Decides.{nat_tests}
use Rattle.rising_table.specs.Entries.{entry_at}
use Rattle.number_tables.specs.Types.{TableKey}
use Rattle.decoded_records.specs.Past.{same_id}
use Rattle.number_tables.specs.Glue.Sides.{side_of}

sides : (k j : ℕ) (s t : Bool) → (k * 2 + (if s then 1 else 0) == j * 2 + (if t then 1 else 0)) ≡ ((k == j) && beq s t)
sides k j true true = grind (arith, nat_tests)
sides k j true false = grind (arith, nat_tests)
sides k j false true = grind (arith, nat_tests)
sides k j false false = grind (arith, nat_tests)

one_number : (a b : TableKey) → ((side_of a == side_of b) && (a.number == b.number)) ≡ same_id a b
one_number a b = ap (λ x. x && (a.number == b.number)) (sides a.connection b.connection a.ours b.ours)

-- what a side's table, if there is one, has of a number
abbrev pub look : {V : Type 0} → Option (List (ℕ × V)) → ℕ → Option V
look table k = option_and_then (λ values. entry_at values k) table

-- what a change of one side's table does to each number
module _ {V : Type 0} (old new : ℕ → Option (List (ℕ × V))) (n : TableKey) (was now : List (ℕ × V)) (change : Option V → Option V)
    (side : (s : ℕ) → new s ≡ (if side_of n == s then Some now else old s))
    (had : (k : ℕ) → look (old (side_of n)) k ≡ entry_at was k)
    (entries : (k : ℕ) → entry_at now k ≡ (if n.number == k then change (entry_at was k) else entry_at was k)) where
  pub changed_value : (i : TableKey) → look (new (side_of i)) i.number ≡ (if same_id n i then change (look (old (side_of i)) i.number) else look (old (side_of i)) i.number)
  changed_value i =
      elim (cases_Bool (side_of n == side_of i)) [
        | inl here ↦
            let before : look (old (side_of i)) i.number ≡ entry_at was i.number =
            ap (λ s. look (old s) i.number) (sym (eqb-true (side_of n) (side_of i) here)) ∙ had i.number in
            let same : (n.number == i.number) ≡ same_id n i = sym (ap (λ b. b && (n.number == i.number)) here) ∙ one_number n i in
            ap (λ o. look o i.number) (side (side_of i) ∙ ap (λ b. if b then Some now else old (side_of i)) here)
            ∙ entries i.number ∙ ap₂ (λ b x. if b then change x else x) same (sym before)
        | inr apart ↦
            let other : same_id n i ≡ false = sym (one_number n i) ∙ ap (λ b. b && (n.number == i.number)) apart in
            ap (λ o. look o i.number) (side (side_of i) ∙ ap (λ b. if b then Some now else old (side_of i)) apart)
            ∙ ap (λ b. if b then change (look (old (side_of i)) i.number) else look (old (side_of i)) i.number) (sym other)
      ]

-- what was written to a side's table that was there is that table
module _ {V : Type 0} (old : ℕ → Option (List (ℕ × V))) (n : ℕ) (was now : List (ℕ × V)) (had : Some was ≡ old n) where
  pub written_side : (s : ℕ) → (if n == s then option_map (λ _. now) (old s) else old s) ≡ (if n == s then Some now else old s)
  written_side s = at (n == s) refl
    where
      at : (b : Bool) → (n == s) ≡ b → (if b then option_map (λ _. now) (old s) else old s) ≡ (if b then Some now else old s)
      at true same = ap (λ o. option_map (λ _. now) o) (ap (λ j. old j) (sym (eqb-true n s same)) ∙ sym had)
      at false other = refl

  -- and where that is the table as it was, nothing is changed
  pub same_side : now ≡ was → (s : ℕ) → (if n == s then option_map (λ _. now) (old s) else old s) ≡ old s
  same_side same s = written_side s ∙ at (n == s) refl
    where
      at : (b : Bool) → (n == s) ≡ b → (if b then Some now else old s) ≡ old s
      at true here = ap (λ t. Some t) same ∙ had ∙ ap (λ j. old j) (eqb-true n s here)
      at false other = refl
