-- Lists that are made item by item.
use Rattle.std.proofs.Common.{◌≡◌, ◌∙◌, ℕ, zero, suc, ◌+◌, ◌<◌, List, [], ◌∷◌, ◌++◌, length, take, drop, get_or, Option, Some, None, refl, sym, ap, add-one, arith, append_assoc}
use Rattle.std.specs.Prelude.{map, replicate}
use Rattle.std.specs.List.{filter_map, cons_option, flat_map, range_with_len}
use Rattle.std.specs.Option.{option_to_list}
use Rattle.std.proofs.lemmas.List.{at_drop_more, take_more}

cons_more : {X : Type 0} (o : Option X) (xs ys : List X) → cons_option o (xs ++ ys) ≡ cons_option o xs ++ ys
cons_more None xs ys = refl
cons_more (Some x) xs ys = refl

one : {Y : Type 0} (o : Option Y) → cons_option o [] ≡ option_to_list o
one None = refl
one (Some y) = refl

mapped_more : {X Y : Type 0} (f : X → Option Y) (xs : List X) (x : X) → filter_map f (xs ++ x ∷ []) ≡ filter_map f xs ++ option_to_list (f x)
mapped_more f [] x = one (f x)
mapped_more f (y ∷ ys) x = ap (cons_option (f y)) (mapped_more f ys x) ∙ cons_more (f y) (filter_map f ys) (option_to_list (f x))

ranged_suc : (a n : ℕ) → range_with_len a (suc n) ≡ range_with_len a n ++ (a + n) ∷ []
ranged_suc a zero = let e : a ≡ a + 0 = omega arith in ap (λ k. k ∷ []) e
ranged_suc a (suc n) = let e : a + 1 + n ≡ a + suc n = omega arith in ap (λ l. a ∷ l) (ranged_suc (a + 1) n ∙ ap (λ k. range_with_len (a + 1) n ++ k ∷ []) e)

-- one number more
pub ranged : {Y : Type 0} (f : ℕ → Option Y) (n : ℕ) (ys zs : List Y) → ys ≡ filter_map f (range_with_len 0 n) → zs ≡ ys ++ option_to_list (f n) → zs ≡ filter_map f (range_with_len 0 (n + 1))
ranged f n ys zs so_far more =
    let e : 0 + n ≡ n = omega arith in
    more ∙ ap (λ l. l ++ option_to_list (f n)) so_far ∙ sym (mapped_more f (range_with_len 0 n) n) ∙ ap (λ k. filter_map f (range_with_len 0 n ++ k ∷ [])) (sym e)
    ∙ ap (filter_map f) (sym (ranged_suc 0 n) ∙ ap (range_with_len 0) (sym (add-one n)))

-- one item more
pub filtered : {X Y : Type 0} (f : X → Option Y) (xs : List X) (i : ℕ) (d : X) (ys zs : List Y) → i < length xs → ys ≡ filter_map f (take i xs) → zs ≡ ys ++ option_to_list (f (get_or xs i d))
    → zs ≡ filter_map f (take (i + 1) xs)
filtered f xs i d ys zs lt so_far more =
    more ∙ ap (λ l. l ++ option_to_list (f (get_or xs i d))) so_far ∙ sym (mapped_more f (take i xs) (get_or xs i d)) ∙ ap (filter_map f) (sym (take_more xs i d lt))

repeated_suc : {X : Type 0} (v : X) (n : ℕ) → replicate n v ++ v ∷ [] ≡ replicate (suc n) v
repeated_suc v zero = refl
repeated_suc v (suc n) = ap (λ l. v ∷ l) (repeated_suc v n)

repeated : {X : Type 0} (v : X) (n : ℕ) → replicate n v ++ v ∷ [] ≡ replicate (n + 1) v
repeated v n = rw (add-one n) (repeated_suc v n)

-- one item more of the same
pub replicated : {X : Type 0} (v : X) (xs : List X) (n : ℕ) (ys zs : List X) → ys ≡ xs ++ replicate n v → zs ≡ ys ++ v ∷ [] → zs ≡ xs ++ replicate (n + 1) v
replicated v xs n ys zs so_far more =
    more ∙ ap (λ l. l ++ v ∷ []) so_far ∙ append_assoc xs (replicate n v) (v ∷ []) ∙ ap (λ l. xs ++ l) (repeated v n)

-- what is left of a list, of which each item gives several
pub several_more : {X Y Z : Type 0} (f : Y → List Z) (g : X → Y) (xs : List X) (i : ℕ) (x d : X) (y : Y) (zs more total : List Z) → i < length xs → x ≡ get_or xs i d → y ≡ g x
    → more ≡ zs ++ f y → zs ++ flat_map f (map g (drop i xs)) ≡ total → more ++ flat_map f (map g (drop (i + 1) xs)) ≡ total
several_more f g xs i x d y zs more total lt at is longer so_far =
    let rest = flat_map f (map g (drop (i + 1) xs)) in
    let next : flat_map f (map g (drop i xs)) ≡ f y ++ rest = at_drop_more (λ l. flat_map f (map g l)) xs i d lt ∙ ap (λ z. f z ++ rest) (sym (is ∙ ap g at)) in
    ap (λ l. l ++ rest) longer ∙ append_assoc zs (f y) rest ∙ ap (λ l. zs ++ l) (sym next) ∙ so_far

-- the same, where each gives one
pub one_more : {X Y Z : Type 0} (f : Y → Z) (g : X → Y) (xs : List X) (i : ℕ) (x d : X) (y : Y) (z : Z) (zs more total : List Z) → i < length xs → x ≡ get_or xs i d → y ≡ g x
    → z ≡ f y → more ≡ zs ++ z ∷ [] → zs ++ map f (map g (drop i xs)) ≡ total → more ++ map f (map g (drop (i + 1) xs)) ≡ total
one_more f g xs i x d y z zs more total lt at is made longer so_far =
    let rest = map f (map g (drop (i + 1) xs)) in
    let next : map f (map g (drop i xs)) ≡ z ∷ rest = at_drop_more (λ l. map f (map g l)) xs i d lt ∙ ap (λ t. t ∷ rest) (sym (made ∙ ap f (is ∙ ap g at))) in
    ap (λ l. l ++ rest) longer ∙ append_assoc zs (z ∷ []) rest ∙ ap (λ l. zs ++ l) (sym next) ∙ so_far
