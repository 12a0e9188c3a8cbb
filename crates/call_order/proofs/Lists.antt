-- Lists of what passes on a connection, and of who uses it.
use Rattle.std.proofs.Common.{◌≡◌, refl, sym, ◌∙◌, ap, subst, ℕ, zero, suc, ◌≤◌, ◌==◌, List, [], ◌∷◌, ◌++◌, length, drop, reverse, Bool, true, false, ◌||◌, Option, Some, None, slice_get, arith, eqb-true}
use Rattle.std.specs.List.{cons_option, filter_map, list_any, list_all}
use Rattle.std.proofs.lemmas.List.{reverse-append}
use Rattle.std.proofs.lemmas.List.Elements.{filter_map-append}
use Rattle.std.proofs.lemmas.Bool.{and_parts, or_right, false≢true}
use Rattle.run_model.specs.Links.{are_one}

-- ---- what is left of a list behind some of its elements

pub drop_some : {A : Type 0} (xs : List A) (n : ℕ) (x : A) → slice_get xs n ≡ Some x → drop n xs ≡ x ∷ drop (suc n) xs
drop_some [] n x h = absurd (let no : ⊥ = cc in no)
drop_some (y ∷ xs) zero x h = ap (λ z. z ∷ xs) (let same : y ≡ x = cc in same)
drop_some (y ∷ xs) (suc n) x h = drop_some xs n x h

pub drop_with : {A : Type 0} (xs ys : List A) (n : ℕ) → n ≤ length xs → drop n (xs ++ ys) ≡ drop n xs ++ ys
drop_with xs ys zero within = refl
drop_with [] ys (suc n) within = absurd (omega (arith, within))
drop_with (x ∷ xs) ys (suc n) within = drop_with xs ys n (omega (arith, within))

-- what one more element gives, the newest first
pub kept_last : {A B : Type 0} (f : A → Option B) (x : A) (xs : List A) → filter_map f (reverse (x ∷ xs)) ≡ filter_map f (reverse xs) ++ cons_option (f x) []
kept_last f x xs = ap (filter_map f) (reverse-append (x ∷ []) xs) ∙ filter_map-append f (reverse xs) (x ∷ [])

-- ---- numbers that are all one

all_same : (a b : ℕ) (xs : List ℕ) → (a == b) ≡ true → list_all (λ m. m == b) xs ≡ true → list_all (λ m. m == a) xs ≡ true
all_same a b xs same h = subst (λ c. list_all (λ m. m == c) xs ≡ true) (sym (eqb-true a b same)) h

pub are_one_less : (o : Option ℕ) (xs : List ℕ) → are_one (cons_option o xs) ≡ true → are_one xs ≡ true
are_one_less None xs h = h
are_one_less (Some n) [] h = refl
are_one_less (Some n) (m ∷ xs) h = let parts = and_parts (m == n) (list_all (λ i. i == n) xs) h in all_same m n xs parts.0 parts.1

-- one of them is that one
pub is_that : (n m : ℕ) (xs : List ℕ) → list_all (λ i. i == n) xs ≡ true → list_any (λ i. i == m) xs ≡ true → n ≡ m
is_that n m [] all any = absurd (false≢true any)
is_that n m (x ∷ xs) all any = at (x == m) refl any (is_that n m xs parts.1)
  where
    parts : ((x == n) ≡ true) × (list_all (λ i. i == n) xs ≡ true)
    parts = and_parts (x == n) (list_all (λ i. i == n) xs) all

    at : (b : Bool) → (x == m) ≡ b → (b || list_any (λ i. i == m) xs) ≡ true → (list_any (λ i. i == m) xs ≡ true → n ≡ m) → n ≡ m
    at true same h rest = sym (eqb-true x n parts.0) ∙ eqb-true x m same
    at false apart h rest = rest h

pub any_more : (n : ℕ) (o : Option ℕ) (xs : List ℕ) → list_any (λ m. m == n) xs ≡ true → list_any (λ m. m == n) (cons_option o xs) ≡ true
any_more n None xs h = h
any_more n (Some m) xs h = or_right (m == n) (list_any (λ m. m == n) xs) h
