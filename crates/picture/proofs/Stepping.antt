-- What a loop over a list has counted, or has left to look for, one item further.
use Rattle.std.proofs.Common.{◌≡◌, ◌≢◌, ◌∙◌, ℕ, zero, suc, ◌+◌, ◌-◌, ◌≤◌, Bool, true, false, cond, List, [], ◌∷◌, length, take, drop, Option, Some, None, fold, refl, sym, ap, add-one, arith}
use Rattle.std.specs.Prelude.{count_by, slice_get, ◌||◌}
use Rattle.std.specs.List.{list_any}
use Rattle.picture.specs.Places.{passes_in, positions_from}

folded_suc : {X Y : Type 0} (f : Y → X → Y) (g : Y → Option X → Y) (xs : List X) (i : ℕ) (start : Y) → ((y : Y) → g y None ≡ y) → ((y : Y) (x : X) → g y (Some x) ≡ f y x)
    → fold f start (take (suc i) xs) ≡ g (fold f start (take i xs)) (slice_get xs i)
folded_suc f g [] zero start none some = sym (none start)
folded_suc f g [] (suc i) start none some = sym (none start)
folded_suc f g (x ∷ xs) zero start none some = sym (some start x)
folded_suc f g (x ∷ xs) (suc i) start none some = folded_suc f g xs i (f start x) none some

-- one item more
pub folded : {X Y : Type 0} (f : Y → X → Y) (g : Y → Option X → Y) (xs : List X) (i : ℕ) (start : Y) → ((y : Y) → g y None ≡ y) → ((y : Y) (x : X) → g y (Some x) ≡ f y x)
    → fold f start (take (i + 1) xs) ≡ g (fold f start (take i xs)) (slice_get xs i)
folded f g xs i start none some = rw (add-one i) (folded_suc f g xs i start none some)

plus_none : (a : ℕ) → a + 0 ≡ a
plus_none a = omega arith

pub counted : {X : Type 0} (p : X → Bool) (xs : List X) (i : ℕ) → count_by p (take (i + 1) xs) ≡ count_by p (take i xs) + cond (passes_in p (slice_get xs i)) 1 0
counted p xs i = folded (λ a x. a + cond (p x) 1 0) (λ a o. a + cond (passes_in p o) 1 0) xs i 0 (λ a. plus_none a) (λ a x. refl)

-- a count, where the next item counts
pub counts : {X : Type 0} (p : X → Bool) (xs : List X) (i n : ℕ) (b : Bool) → n ≡ count_by p (take i xs) → n ≤ i → b ≡ passes_in p (slice_get xs i) → b ≡ true
    → (n + 1 ≡ count_by p (take (i + 1) xs)) × (n + 1 ≤ i + 1)
counts p xs i n b so_far few is holds =
    let more = counted p xs i ∙ ap (λ t. count_by p (take i xs) + cond t 1 0) (sym is ∙ holds) in
    (omega (arith, so_far, more), omega arith)

-- a count, where it doesn't
pub counts_not : {X : Type 0} (p : X → Bool) (xs : List X) (i n : ℕ) (b : Bool) → n ≡ count_by p (take i xs) → n ≤ i → b ≡ passes_in p (slice_get xs i) → b ≡ false
    → (n ≡ count_by p (take (i + 1) xs)) × (n ≤ i + 1)
counts_not p xs i n b so_far few is fails =
    let more = counted p xs i ∙ ap (λ t. count_by p (take i xs) + cond t 1 0) (sym is ∙ fails) in
    (omega (arith, so_far, more), omega arith)

-- the places from an item on
places_suc : {X : Type 0} (p : X → Bool) (xs : List X) (i at : ℕ)
    → positions_from p at (drop i xs) ≡ cond (passes_in p (slice_get xs i)) (at ∷ positions_from p (at + 1) (drop (suc i) xs)) (positions_from p (at + 1) (drop (suc i) xs))
places_suc p [] zero at = refl
places_suc p [] (suc i) at = refl
places_suc p (x ∷ xs) zero at = refl
places_suc p (x ∷ xs) (suc i) at = places_suc p xs i at

places_at : {X : Type 0} (p : X → Bool) (xs : List X) (i : ℕ)
    → positions_from p i (drop i xs) ≡ cond (passes_in p (slice_get xs i)) (i ∷ positions_from p (i + 1) (drop (i + 1) xs)) (positions_from p (i + 1) (drop (i + 1) xs))
places_at p xs i = places_suc p xs i i ∙ ap (λ k. cond (passes_in p (slice_get xs i)) (i ∷ positions_from p (i + 1) (drop k xs)) (positions_from p (i + 1) (drop k xs))) (sym (add-one i))

first_is : {X : Type 0} (x : X) (xs : List X) (n : ℕ) → n ≡ 0 → slice_get (x ∷ xs) n ≡ Some x
first_is x xs zero is = refl
first_is x xs (suc n) is = absurd (omega arith)

later_is : {X : Type 0} (x : X) (xs : List X) (n : ℕ) → n ≢ 0 → slice_get (x ∷ xs) n ≡ slice_get xs (n - 1)
later_is x xs zero not = absurd (not refl)
later_is x xs (suc n) not = let e : suc n - 1 ≡ n = omega arith in rw e refl

-- the place that is looked for is this one
pub found : {X : Type 0} (p : X → Bool) (xs : List X) (i left : ℕ) (total : Option ℕ) (b : Bool) → total ≡ slice_get (positions_from p i (drop i xs)) left
    → b ≡ passes_in p (slice_get xs i) → b ≡ true → left ≡ 0 → total ≡ Some i
found p xs i left total b so_far is holds none =
    so_far ∙ ap (λ l. slice_get l left) (places_at p xs i ∙ ap (λ t. cond t (i ∷ positions_from p (i + 1) (drop (i + 1) xs)) (positions_from p (i + 1) (drop (i + 1) xs))) (sym is ∙ holds)) ∙ first_is _ _ left none

-- an item passes, and another is looked for
pub goes_by : {X : Type 0} (p : X → Bool) (xs : List X) (i left : ℕ) (total : Option ℕ) (b : Bool) → total ≡ slice_get (positions_from p i (drop i xs)) left
    → b ≡ passes_in p (slice_get xs i) → b ≡ true → left ≢ 0 → total ≡ slice_get (positions_from p (i + 1) (drop (i + 1) xs)) (left - 1)
goes_by p xs i left total b so_far is holds some =
    so_far ∙ ap (λ l. slice_get l left) (places_at p xs i ∙ ap (λ t. cond t (i ∷ positions_from p (i + 1) (drop (i + 1) xs)) (positions_from p (i + 1) (drop (i + 1) xs))) (sym is ∙ holds)) ∙ later_is _ _ left some

-- an item doesn't pass
pub passes_by : {X : Type 0} (p : X → Bool) (xs : List X) (i left : ℕ) (total : Option ℕ) (b : Bool) → total ≡ slice_get (positions_from p i (drop i xs)) left
    → b ≡ passes_in p (slice_get xs i) → b ≡ false → total ≡ slice_get (positions_from p (i + 1) (drop (i + 1) xs)) left
passes_by p xs i left total b so_far is fails =
    so_far ∙ ap (λ l. slice_get l left) (places_at p xs i ∙ ap (λ t. cond t (i ∷ positions_from p (i + 1) (drop (i + 1) xs)) (positions_from p (i + 1) (drop (i + 1) xs))) (sym is ∙ fails))

nothing : (n : ℕ) → slice_get {X = ℕ} [] n ≡ None
nothing zero = refl
nothing (suc n) = refl

dropped : {X : Type 0} (xs : List X) (i : ℕ) → length xs ≤ i → drop i xs ≡ []
dropped [] zero all = refl
dropped [] (suc i) all = refl
dropped (x ∷ xs) zero all = absurd (omega arith)
dropped (x ∷ xs) (suc i) all = dropped xs i (omega arith)

-- behind the last item there is none
pub found_none : {X : Type 0} (p : X → Bool) (xs : List X) (i left : ℕ) (total : Option ℕ) → total ≡ slice_get (positions_from p i (drop i xs)) left → length xs ≤ i → total ≡ None
found_none p xs i left total so_far all = so_far ∙ ap (λ l. slice_get (positions_from p i l) left) (dropped xs i all) ∙ nothing left

any_suc : {X : Type 0} (p : X → Bool) (xs : List X) (i : ℕ) → list_any p (drop i xs) ≡ (passes_in p (slice_get xs i) || list_any p (drop (suc i) xs))
any_suc p [] zero = refl
any_suc p [] (suc i) = refl
any_suc p (x ∷ xs) zero = refl
any_suc p (x ∷ xs) (suc i) = any_suc p xs i

-- this item passes
pub passed : {X : Type 0} (p : X → Bool) (xs : List X) (i : ℕ) (total b : Bool) → total ≡ list_any p (drop i xs) → b ≡ passes_in p (slice_get xs i) → b ≡ true → total ≡ true
passed p xs i total b so_far is holds = so_far ∙ any_suc p xs i ∙ ap (λ t. t || list_any p (drop (suc i) xs)) (sym is ∙ holds)

-- it doesn't, so one behind it has to
pub passed_not : {X : Type 0} (p : X → Bool) (xs : List X) (i : ℕ) (total b : Bool) → total ≡ list_any p (drop i xs) → b ≡ passes_in p (slice_get xs i) → b ≡ false
    → total ≡ list_any p (drop (i + 1) xs)
passed_not p xs i total b so_far is fails =
    so_far ∙ any_suc p xs i ∙ ap (λ t. t || list_any p (drop (suc i) xs)) (sym is ∙ fails) ∙ ap (λ k. list_any p (drop k xs)) (sym (add-one i))
