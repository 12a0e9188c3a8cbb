-- What a loop over the records of a log has left, one record further.
use Rattle.std.proofs.Common.{◌≡◌, ℕ, zero, suc, ◌+◌, Bool, true, false, cond, List, [], ◌∷◌, drop, Option, Some, None, fold, refl, sym, ap, ◌∙◌, add-one}
use Rattle.std.specs.Prelude.{option_and_then, slice_get, filter}
use Rattle.std.specs.List.{filter_map, cons_option}
use Rattle.case_book.specs.Least.{lower}

rest_at_suc : {X Y : Type 0} (h : X → Option Y) (xs : List X) (i : ℕ) → filter_map h (drop i xs) ≡ cons_option (option_and_then h (slice_get xs i)) (filter_map h (drop (suc i) xs))
rest_at_suc h [] zero = refl
rest_at_suc h [] (suc i) = refl
rest_at_suc h (y ∷ xs) zero = refl
rest_at_suc h (y ∷ xs) (suc i) = rest_at_suc h xs i

rest_at : {X Y : Type 0} (h : X → Option Y) (xs : List X) (i : ℕ) → filter_map h (drop i xs) ≡ cons_option (option_and_then h (slice_get xs i)) (filter_map h (drop (i + 1) xs))
rest_at h xs i = rw (add-one i) (rest_at_suc h xs i)

none_of : (o : Option ℕ) → ((n : ℕ) → o ≡ Some n → ⊥) → o ≡ None
none_of None not_some = refl
none_of (Some n) not_some = absurd (not_some n refl)

-- the lowest of what is left, from the one found
abbrev left : {X : Type 0} → (ℕ → Bool) → (X → Option ℕ) → List X → ℕ → Option ℕ → Option ℕ
left q h xs i found = fold lower found (filter q (filter_map h (drop i xs)))

step : {X : Type 0} (q : ℕ → Bool) (h : X → Option ℕ) (xs : List X) (i : ℕ) (total found o : Option ℕ) → total ≡ left q h xs i found → o ≡ option_and_then h (slice_get xs i)
    → total ≡ fold lower found (filter q (cons_option o (filter_map h (drop (i + 1) xs))))
step q h xs i total found o so_far e =
    so_far ∙ ap (λ ns. fold lower found (filter q ns)) (rest_at h xs i) ∙ ap (λ p. fold lower found (filter q (cons_option p (filter_map h (drop (i + 1) xs))))) (sym e)

-- the next record gives nothing
pub nothing : {X : Type 0} (q : ℕ → Bool) (h : X → Option ℕ) (xs : List X) (i : ℕ) (total found o next : Option ℕ) → total ≡ left q h xs i found → o ≡ option_and_then h (slice_get xs i)
    → ((n : ℕ) → o ≡ Some n → ⊥) → next ≡ found → total ≡ left q h xs (i + 1) next
nothing q h xs i total found o next so_far e none same =
    step q h xs i total found o so_far e ∙ ap (λ p. fold lower found (filter q (cons_option p (filter_map h (drop (i + 1) xs))))) (none_of o none) ∙ ap (left q h xs (i + 1)) (sym same)

-- the next record gives one that passes
pub passing : {X : Type 0} (q : ℕ → Bool) (h : X → Option ℕ) (xs : List X) (i : ℕ) (total found o next : Option ℕ) (n : ℕ) → total ≡ left q h xs i found → o ≡ option_and_then h (slice_get xs i)
    → o ≡ Some n → q n ≡ true → next ≡ lower found n → total ≡ left q h xs (i + 1) next
passing q h xs i total found o next n so_far e some passes same =
    let rest = filter_map h (drop (i + 1) xs) in
    step q h xs i total found o so_far e ∙ ap (λ p. fold lower found (filter q (cons_option p rest))) some ∙ ap (λ (b : Bool). fold lower found (cond b (n ∷ filter q rest) (filter q rest))) passes ∙ ap (left q h xs (i + 1)) (sym same)

-- the next record gives one that doesn't pass
pub failing : {X : Type 0} (q : ℕ → Bool) (h : X → Option ℕ) (xs : List X) (i : ℕ) (total found o next : Option ℕ) (n : ℕ) → total ≡ left q h xs i found → o ≡ option_and_then h (slice_get xs i)
    → o ≡ Some n → q n ≡ false → next ≡ found → total ≡ left q h xs (i + 1) next
failing q h xs i total found o next n so_far e some fails same =
    let rest = filter_map h (drop (i + 1) xs) in
    step q h xs i total found o so_far e ∙ ap (λ p. fold lower found (filter q (cons_option p rest))) some ∙ ap (λ (b : Bool). fold lower found (cond b (n ∷ filter q rest) (filter q rest))) fails ∙ ap (left q h xs (i + 1)) (sym same)
