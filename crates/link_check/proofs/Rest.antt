-- The frames of a list of records, one record further.
use Rattle.std.proofs.Common.{◌≡◌, ℕ, zero, suc, ◌+◌, ◌≤◌, Bool, true, false, cond, List, [], ◌∷◌, length, take, drop, Option, Some, None, refl, sym, ap, ◌∙◌, add-one, arith}
use Rattle.std.specs.Prelude.{option_and_then, slice_get, is_some}
use Rattle.std.specs.List.{filter_map, cons_option}
use Rattle.std.specs.Option.{option_copied}
use denote.Ref.{Bor}

rest_at_suc : {X Y : Type 0} (h : X → Option Y) (xs : List X) (i : ℕ) → filter_map h (drop i xs) ≡ cons_option (option_and_then h (slice_get xs i)) (filter_map h (drop (suc i) xs))
rest_at_suc h [] zero = refl
rest_at_suc h [] (suc i) = refl
rest_at_suc h (y ∷ xs) zero = refl
rest_at_suc h (y ∷ xs) (suc i) = rest_at_suc h xs i

-- what is left before a record, and after it
pub rest_at : {X Y : Type 0} (h : X → Option Y) (xs : List X) (i : ℕ) → filter_map h (drop i xs) ≡ cons_option (option_and_then h (slice_get xs i)) (filter_map h (drop (i + 1) xs))
rest_at h xs i = rw (add-one i) (rest_at_suc h xs i)

one_more : {X Y : Type 0} (h : X → Option Y) (xs : List X) (o : Option Y) → length (cons_option o (filter_map h xs)) ≡ length (filter_map h xs) + cond (is_some o) 1 0
one_more h xs None = omega arith
one_more h xs (Some z) = omega arith

front_at_suc : {X Y : Type 0} (h : X → Option Y) (xs : List X) (i : ℕ) → length (filter_map h (take (suc i) xs)) ≡ length (filter_map h (take i xs)) + cond (is_some (option_and_then h (slice_get xs i))) 1 0
front_at_suc h [] zero = refl
front_at_suc h [] (suc i) = refl
front_at_suc h (y ∷ xs) zero = one_more h [] (h y)
front_at_suc h (y ∷ xs) (suc i) =
    let later = one_more h (take (suc i) xs) (h y) in
    let now = one_more h (take i xs) (h y) in
    omega (arith, front_at_suc h xs i, later, now)

-- how many came before the next record, and with it
pub front_at : {X Y : Type 0} (h : X → Option Y) (xs : List X) (i : ℕ) → length (filter_map h (take (i + 1) xs)) ≡ length (filter_map h (take i xs)) + cond (is_some (option_and_then h (slice_get xs i))) 1 0
front_at h xs i = rw (add-one i) (front_at_suc h xs i)

copied_some : {Y : Type 0} (r : Option (Bor Y)) (o : Option Y) → option_copied r ≡ o → is_some o ≡ is_some r
copied_some None o e = ap is_some (sym e)
copied_some (Some y) o e = ap is_some (sym e)

-- a count, where the next record counts
pub counted : {X Y : Type 0} (h : X → Option Y) (xs : List X) (i n : ℕ) (r : Option (Bor Y)) (b : Bool) → n ≡ length (filter_map h (take i xs)) → n ≤ i
    → option_copied r ≡ option_and_then h (slice_get xs i) → b ≡ is_some r → b ≡ true → (n + 1 ≡ length (filter_map h (take (i + 1) xs))) × (n + 1 ≤ i + 1)
counted h xs i n r b count le e is holds =
    let some = copied_some r _ e ∙ sym is ∙ holds in
    let more = front_at h xs i ∙ ap (λ t. length (filter_map h (take i xs)) + cond t 1 0) some in
    (omega (arith, count, more), omega arith)

-- a count, where the next record doesn't count
pub not_counted : {X Y : Type 0} (h : X → Option Y) (xs : List X) (i n : ℕ) (r : Option (Bor Y)) (b : Bool) → n ≡ length (filter_map h (take i xs)) → n ≤ i
    → option_copied r ≡ option_and_then h (slice_get xs i) → b ≡ is_some r → b ≡ false → (n ≡ length (filter_map h (take (i + 1) xs))) × (n ≤ i + 1)
not_counted h xs i n r b count le e is fails =
    let none = copied_some r _ e ∙ sym is ∙ fails in
    let more = front_at h xs i ∙ ap (λ t. length (filter_map h (take i xs)) + cond t 1 0) none in
    (omega (arith, count, more), omega arith)

-- the next record has a frame
pub found : {X Y : Type 0} (h : X → Option Y) (xs : List X) (from i : ℕ) (y : Y) → filter_map h (drop from xs) ≡ filter_map h (drop i xs) → Some y ≡ option_and_then h (slice_get xs i)
    → filter_map h (drop from xs) ≡ y ∷ filter_map h (drop (i + 1) xs)
found h xs from i y so_far e = so_far ∙ rest_at h xs i ∙ ap (λ o. cons_option o (filter_map h (drop (i + 1) xs))) (sym e)

-- the next record has none
pub passed : {X Y : Type 0} (h : X → Option Y) (xs : List X) (from i : ℕ) → filter_map h (drop from xs) ≡ filter_map h (drop i xs) → None ≡ option_and_then h (slice_get xs i)
    → filter_map h (drop from xs) ≡ filter_map h (drop (i + 1) xs)
passed h xs from i so_far e = so_far ∙ rest_at h xs i ∙ ap (λ o. cons_option o (filter_map h (drop (i + 1) xs))) (sym e)
