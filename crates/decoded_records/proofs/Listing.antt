-- What a record introduces, as the code lists it: one descriptor more.
use Rattle.std.proofs.Common.{◌≡◌, ◌+◌, refl, sym, ◌∙◌, ap, ap₂, ℕ, List, [], ◌∷◌, ◌++◌, length, add-zero, count_by, cond, Option, Some, None, if◌then◌else◌, arith}
use Rattle.std.specs.List.{cons_option}
use Rattle.std.specs.Option.{option_to_list}
use Rattle.std.proofs.lemmas.List.Sums.{sum_by-cons}
use Rattle.decoded_records.specs.declared.origin.Origin.{Origin}
use Rattle.decoded_records.specs.Types.{Descriptor, DecodedRecord, TableKey}
use Rattle.decoded_records.specs.Glue.Origins.{is_cap, origin_by, origins_from}

pub cons_append : {A : Type 0} (o : Option A) (xs ys : List A) → cons_option o (xs ++ ys) ≡ cons_option o xs ++ ys
cons_append None xs ys = refl
cons_append (Some x) xs ys = refl

module _ (n : ℕ) (e : DecodedRecord) where
  pub origins_more : (ds : List Descriptor) (p b : ℕ) (d : Descriptor) →
      origins_from n e p b (ds ++ d ∷ []) ≡ origins_from n e p b ds ++ option_to_list (origin_by n e (p + length ds) (b + count_by is_cap ds) d)
  origins_more [] p b d = alone (origin_by n e p b d) ∙ ap₂ (λ x y. option_to_list (origin_by n e x y d)) (sym (add-zero p)) (sym (add-zero b))
    where
      alone : (o : Option (TableKey × Origin)) → cons_option o [] ≡ option_to_list o
      alone None = refl
      alone (Some x) = refl
  origins_more (x ∷ ds) p b d =
      let counted = sum_by-cons (λ d. cond (is_cap d) 1 0) x ds in
      let place : p + 1 + length ds ≡ p + length (x ∷ ds) = omega arith in
      let noted : b + cond (is_cap x) 1 0 + count_by is_cap ds ≡ b + count_by is_cap (x ∷ ds) = omega (arith, counted) in
      ap (λ xs. cons_option (origin_by n e p b x) xs)
      (origins_more ds (p + 1) (b + (if is_cap x then 1 else 0)) d ∙ ap₂ (λ y z. origins_from n e (p + 1) (b + (if is_cap x then 1 else 0)) ds ++ option_to_list (origin_by n e y z d)) place noted)
      ∙ cons_append (origin_by n e p b x) (origins_from n e (p + 1) (b + (if is_cap x then 1 else 0)) ds) (option_to_list (origin_by n e (p + length (x ∷ ds)) (b + count_by is_cap (x ∷ ds)) d))
