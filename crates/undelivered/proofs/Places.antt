-- Places, and the least of some.
use Rattle.std.proofs.Common.{◌≡◌, ℕ, ◌<◌, ◌≤◌, Bool, true, false, eqb, List, [], ◌∷◌, ◌++◌, Option, Some, None, refl, sym, ap, subst, ◌∙◌, arith, inl, inr, ◌⊎◌}
use Rattle.std.specs.Prelude.{◌&&◌}
use Rattle.std.specs.List.{AllByRecursion, list_any}
use Rattle.std.proofs.lemmas.Bool.{cases_lt, eq-eqb}
use Rattle.std.proofs.lemmas.Bool.Decides.{nat_tests}
use Rattle.run_model.specs.Early.{IsAtMost}
use Rattle.run_model.specs.Steps.{OneOf}
use Rattle.undelivered.specs.Places.{is_at_most, has_at_most, lesser, least_place}
use Rattle.undelivered.specs.Order.{PastCalls, tells_delivery, places_of}
use Rattle.undelivered.specs.declared.moment.Moment.TheVariants.{Made, Delivered}

abbrev pub Place : Type 0
Place = ℕ × ℕ

pub split : (b : Bool) → (b ≡ true) ⊎ (b ≡ false)
split true = inl refl
split false = inr refl

pub option_split : {A : Type 0} (u : Option A) → (u ≡ None) ⊎ ((x : A) × (u ≡ Some x))
option_split None = inl refl
option_split (Some x) = inr (x, refl)

pub and_first : (a b : Bool) → (a && b) ≡ true → a ≡ true
and_first true b h = refl
and_first false b h = absurd cc

pub and_second : (a b : Bool) → (a && b) ≡ true → b ≡ true
and_second true b h = h
and_second false b h = absurd cc

-- ---- the order of places

at_most_itself : (a : Place) → is_at_most a a ≡ true
unfolding is_at_most
at_most_itself a = grind (arith, nat_tests)

at_most_trans : (a b c : Place) → is_at_most a b ≡ true → is_at_most b c ≡ true → is_at_most a c ≡ true
unfolding is_at_most
at_most_trans a b c h k = grind (arith, nat_tests)

above_trans : (a b c : Place) → is_at_most a b ≡ false → is_at_most b c ≡ false → is_at_most a c ≡ false
unfolding is_at_most
above_trans a b c h k = grind (arith, nat_tests)

at_most_total : (a b : Place) → is_at_most a b ≡ false → is_at_most b a ≡ true
unfolding is_at_most
at_most_total a b h = grind (arith, nat_tests)

first_same : (a b : Place) → is_at_most a b ≡ true → is_at_most b a ≡ true → a.0 ≡ b.0
unfolding is_at_most
first_same a b h k = grind (arith, nat_tests)

second_same : (a b : Place) → is_at_most a b ≡ true → is_at_most b a ≡ true → a.1 ≡ b.1
unfolding is_at_most
second_same a b h k = grind (arith, nat_tests)

abbrev place : ℕ → ℕ → Place
place a b = (a, b)

pair_is : (a b c d : ℕ) → a ≡ c → b ≡ d → place a b ≡ place c d
pair_is a b c d e f = cc

at_most_both : (a b : Place) → is_at_most a b ≡ true → is_at_most b a ≡ true → a ≡ b
at_most_both a b h k = pair_is a.0 a.1 b.0 b.1 (first_same a b h k) (second_same a b h k)

at_most_cases : (a b : Place) → is_at_most a b ≡ true → (a.0 < b.0) ⊎ ((a.0 ≡ b.0) × (a.1 ≤ b.1))
unfolding is_at_most
at_most_cases a b h =
    elim (cases_lt a.0 b.0) [
      | inl lt ↦ inl lt
      | inr le ↦ inr (grind (arith, nat_tests), grind (arith, nat_tests))
    ]

at_most_means : (a b : Place) → is_at_most a b ≡ true → IsAtMost a b
unfolding is_at_most
at_most_means a b h =
    elim (at_most_cases a b h) [
      | inl lt ↦ inl lt
      | inr both ↦ inr both
    ]

-- ---- the lesser of two

abbrev some : Place → Option Place
some p = Some p

takes_first : (a b : Place) → is_at_most a b ≡ true → lesser (Some a) (Some b) ≡ some a
takes_first a b h = rw h refl

takes_second : (a b : Place) → is_at_most a b ≡ false → lesser (Some a) (Some b) ≡ some b
takes_second a b h = rw h refl

pub lesser_none : (u : Option Place) → lesser u None ≡ u
lesser_none None = refl
lesser_none (Some a) = refl

pub lesser_itself : (u : Option Place) → lesser u u ≡ u
lesser_itself None = refl
lesser_itself (Some a) = takes_first a a (at_most_itself a)

pub lesser_swap : (u w : Option Place) → lesser u w ≡ lesser w u
lesser_swap None w = sym (lesser_none w)
lesser_swap (Some a) None = refl
lesser_swap (Some a) (Some b) =
    elim (split (is_at_most a b)) [
      | inl h ↦ elim (split (is_at_most b a)) [
        | inl k ↦ rw (h, k) (ap some (at_most_both a b h k))
        | inr k ↦ rw (h, k) refl
      ]
      | inr h ↦ let k = at_most_total a b h in rw (h, k) refl
    ]

pub lesser_regroup : (u w x : Option Place) → lesser (lesser u w) x ≡ lesser u (lesser w x)
lesser_regroup None w x = refl
lesser_regroup (Some a) None x = refl
lesser_regroup (Some a) (Some b) None = lesser_none (lesser (Some a) (Some b))
lesser_regroup (Some a) (Some b) (Some c) =
    elim (split (is_at_most a b)) [
      | inl h ↦ elim (split (is_at_most b c)) [
        | inl k ↦ let l = at_most_trans a b c h k in ap (λ u. lesser u (Some c)) (takes_first a b h) ∙ takes_first a c l ∙ sym (takes_first a b h) ∙ ap (λ u. lesser (Some a) u) (sym (takes_first b c k))
        | inr k ↦ ap (λ u. lesser u (Some c)) (takes_first a b h) ∙ ap (λ u. lesser (Some a) u) (sym (takes_second b c k))
      ]
      | inr h ↦ elim (split (is_at_most b c)) [
        | inl k ↦ ap (λ u. lesser u (Some c)) (takes_second a b h) ∙ takes_first b c k ∙ sym (takes_second a b h) ∙ ap (λ u. lesser (Some a) u) (sym (takes_first b c k))
        | inr k ↦ let l = above_trans a b c h k in ap (λ u. lesser u (Some c)) (takes_second a b h) ∙ takes_second b c k ∙ sym (takes_second a c l) ∙ ap (λ u. lesser (Some a) u) (sym (takes_second b c k))
      ]
    ]

-- at most one that is at most a third
pub lesser_chain : (u w x : Option Place) → lesser u w ≡ u → lesser w x ≡ w → lesser u x ≡ u
lesser_chain u w x h k = ap (λ v. lesser v x) (sym h) ∙ lesser_regroup u w x ∙ ap (λ v. lesser u v) k ∙ h

pub has_means : (u : Option Place) (p : Place) → has_at_most u p ≡ true → lesser u (Some p) ≡ u
has_means None p h = absurd cc
has_means (Some a) p h = takes_first a p h

pub has_not_means : (u : Option Place) (p : Place) → has_at_most u p ≡ false → lesser u (Some p) ≡ Some p
has_not_means None p h = refl
has_not_means (Some a) p h = takes_second a p h

-- ---- the least

pub least_append : (xs ys : List Place) → least_place (xs ++ ys) ≡ lesser (least_place xs) (least_place ys)
least_append [] ys = refl
least_append (x ∷ xs) ys = ap (λ u. lesser (Some x) u) (least_append xs ys) ∙ sym (lesser_regroup (Some x) (least_place xs) (least_place ys))

lesser_some : (p : Place) (u : Option Place) → (x : Place) × (lesser (Some p) u ≡ Some x)
lesser_some p None = (p, refl)
lesser_some p (Some q) =
    elim (split (is_at_most p q)) [
      | inl h ↦ (p, takes_first p q h)
      | inr h ↦ (q, takes_second p q h)
    ]

pub none_least : (ps : List Place) → least_place ps ≡ None → ps ≡ []
none_least [] e = refl
none_least (p ∷ ps) e = let some = (lesser_some p (least_place ps)).1 in absurd cc

all_at_most : (a b : Place) (ps : List Place) → is_at_most a b ≡ true → AllByRecursion (λ p. is_at_most b p ≡ true) ps → AllByRecursion (λ p. is_at_most a p ≡ true) ps
all_at_most a b [] h all = tt
all_at_most a b (p ∷ ps) h all = (at_most_trans a b p h all.0, all_at_most a b ps h all.1)

mean_at_most : (a : Place) (ps : List Place) → AllByRecursion (λ p. is_at_most a p ≡ true) ps → AllByRecursion (IsAtMost a) ps
mean_at_most a [] all = tt
mean_at_most a (p ∷ ps) all = (at_most_means a p all.0, mean_at_most a ps all.1)

abbrev IsLeast : List Place → Place → Type 0
IsLeast ps place = OneOf (λ p. p ≡ place) ps × AllByRecursion (λ p. is_at_most place p ≡ true) ps

is_least : (ps : List Place) (place : Place) → least_place ps ≡ Some place → IsLeast ps place
is_least [] place e = absurd cc
is_least (p ∷ ps) place e =
    elim (option_split (least_place ps)) [
      | inl none ↦
          let empty : ps ≡ [] = none_least ps none in
          let step : lesser (Some p) (least_place ps) ≡ some p = rw none refl in
          let same : p ≡ place = cc (step, e) in
          subst (λ (xs : List Place). IsLeast (p ∷ xs) place) (sym empty) (inl same, (subst (λ (q : Place). is_at_most q p ≡ true) same (at_most_itself p), tt))
      | inr found ↦
          let below = is_least ps found.0 found.1 in
          elim (split (is_at_most p found.0)) [
            | inl h ↦
                let step : lesser (Some p) (least_place ps) ≡ some p = ap (λ u. lesser (Some p) u) found.1 ∙ takes_first p found.0 h in
                let same : p ≡ place = cc (step, e) in
                subst (λ (q : Place). IsLeast (p ∷ ps) q) same (inl refl, (at_most_itself p, all_at_most p found.0 ps h below.1))
            | inr h ↦
                let step : lesser (Some p) (least_place ps) ≡ some found.0 = ap (λ u. lesser (Some p) u) found.1 ∙ takes_second p found.0 h in
                let same : found.0 ≡ place = cc (step, e) in
                subst (λ (q : Place). IsLeast (p ∷ ps) q) same (inr below.0, (at_most_total p found.0 h, below.1))
          ]
    ]

pub least_means : (ps : List Place) (place : Place) → least_place ps ≡ Some place → OneOf (λ p. p ≡ place) ps × AllByRecursion (IsAtMost place) ps
least_means ps place e = let l = is_least ps place e in (l.0, mean_at_most place ps l.1)

-- ---- the places of some deliveries

same_number : (n : ℕ) → eqb n n ≡ true
same_number n = eq-eqb n n refl

pub delivered_more : (c n : ℕ) (p : Place) (before : PastCalls) → list_any (tells_delivery c) before ≡ true → list_any (tells_delivery c) (Delivered n p ∷ before) ≡ true
delivered_more c n p before h =
    elim (split (eqb n c)) [
      | inl k ↦ rw k refl
      | inr k ↦ rw (k, h) refl
    ]

pub delivered_here : (n : ℕ) (p : Place) (before : PastCalls) → list_any (tells_delivery n) (Delivered n p ∷ before) ≡ true
delivered_here n p before = rw (same_number n) refl

pub places_same : (f g : ℕ → Bool) (past : PastCalls) → ((c : ℕ) → list_any (tells_delivery c) past ≡ true → f c ≡ g c) → places_of f past ≡ places_of g past
places_same f g [] same = refl
places_same f g (Made n r ∷ before) same = places_same f g before same
places_same f g (Delivered n p ∷ before) same =
    let here : f n ≡ g n = same n (delivered_here n p before) in
    let rest : places_of f before ≡ places_of g before = places_same f g before (λ c h. same c (delivered_more c n p before h)) in
    rw (here, rest) refl

pub places_none : (f : ℕ → Bool) (past : PastCalls) → ((c : ℕ) → list_any (tells_delivery c) past ≡ true → f c ≡ false) → places_of f past ≡ []
places_none f [] none = refl
places_none f (Made n r ∷ before) none = places_none f before none
places_none f (Delivered n p ∷ before) none =
    let here : f n ≡ false = none n (delivered_here n p before) in
    rw here (places_none f before (λ c h. none c (delivered_more c n p before h)))

-- among more places the least is at most as great
pub least_of_more : (f g : ℕ → Bool) (past : PastCalls) → ((c : ℕ) → g c ≡ true → f c ≡ true) → lesser (least_place (places_of f past)) (least_place (places_of g past)) ≡ least_place (places_of f past)
least_of_more f g [] more = refl
least_of_more f g (Made n r ∷ before) more = least_of_more f g before more
least_of_more f g (Delivered n p ∷ before) more =
    let F = least_place (places_of f before) in
    let G = least_place (places_of g before) in
    let rest : lesser F G ≡ F = least_of_more f g before more in
    elim (split (g n)) [
      | inl h ↦
          let k : f n ≡ true = more n h in
          let step : lesser (lesser (Some p) F) (lesser (Some p) G) ≡ lesser (Some p) F =
          ap (λ u. lesser u (lesser (Some p) G)) (lesser_swap (Some p) F) ∙ lesser_regroup F (Some p) (lesser (Some p) G)
          ∙ ap (λ u. lesser F u) (sym (lesser_regroup (Some p) (Some p) G) ∙ ap (λ u. lesser u G) (lesser_itself (Some p)))
          ∙ sym (lesser_regroup F (Some p) G) ∙ ap (λ u. lesser u G) (lesser_swap F (Some p)) ∙ lesser_regroup (Some p) F G ∙ ap (λ u. lesser (Some p) u) rest in
          rw (h, k) step
      | inr h ↦ elim (split (f n)) [
        | inl k ↦
            let step : lesser (lesser (Some p) F) G ≡ lesser (Some p) F = lesser_regroup (Some p) F G ∙ ap (λ u. lesser (Some p) u) rest in
            rw (h, k) step
        | inr k ↦ rw (h, k) rest
      ]
    ]
