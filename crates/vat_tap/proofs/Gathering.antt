-- Lanes whose records were taken, one after another.
use Rattle.std.proofs.Common.{◌≡◌, ◌≢◌, ℕ, zero, suc, ◌+◌, ◌*◌, ◌<◌, suc-mul, length-append, List, [], ◌∷◌, ◌++◌, map, length, get_or, set, take, All, Some, Result, Ok, Err, OnOk, IfOk, refl, sym, ap, ◌∙◌, subst, arith, inl, inr}
use Rattle.std.specs.List.{flat_map}
use Rattle.std.specs.Prelude.{slice_get}
use Rattle.std.proofs.lemmas.Bool.{cases_lt}
use Rattle.std.proofs.lemmas.List.{length-take, get_or-take, take_more, append-nil, get_or_default, get_or_push, get_or_append_left}
use Rattle.std.proofs.lemmas.Grind.{flat_map-append}
use Rattle.vat_tap.specs.Tickets.{Ticketed, Ring, LaneView, AreDifferent}
use Rattle.vat_tap.specs.Glue.Taps.{HaveRings, AreTaken}
use Rattle.vat_tap.proofs.Placing.{get_set, get_set_else}

pub on_ok_map : {A E : Type 0} {P Q : Type 0} (r : Result A E) → (P → Q) → OnOk r P → OnOk r Q
on_ok_map (Ok x) f p = f p
on_ok_map (Err e) f p = p

module _ {X : Type 0} where
  pub get_within : (xs : List X) (i : ℕ) (x : X) → slice_get xs i ≡ Some x → i < length xs
  get_within [] i x e = absurd cc
  get_within (y ∷ ys) zero x e = omega arith
  get_within (y ∷ ys) (suc i) x e = let h = get_within ys i x e in omega (arith, h)

  pub get_of_map : {Y : Type 0} (f : X → Y) (xs : List X) (i : ℕ) (x : X) → i < length xs → get_or xs i x ≡ x → slice_get (map f xs) i ≡ Some (f x)
  get_of_map f [] i x lt e = absurd (omega arith)
  get_of_map f (y ∷ ys) zero x lt e = ap (λ z. Some (f z)) e
  get_of_map f (y ∷ ys) (suc i) x lt e = get_of_map f ys i x (omega (arith, lt)) e

  -- what a function gives of the element at a place
  pub got_of : {Y : Type 0} (f : X → Y) (xs : List X) (i : ℕ) (d : X) (y : Y) → slice_get (map f xs) i ≡ Some y → f (get_or xs i d) ≡ y
  got_of f [] i d y e = absurd cc
  got_of f (x ∷ xs) zero d y e = cc
  got_of f (x ∷ xs) (suc i) d y e = got_of f xs i d y e

  pub flat_more : {Y : Type 0} (f : X → List Y) (xs : List X) (i : ℕ) (x : X) → i < length xs → x ≡ get_or xs i x → flat_map f (take (i + 1) xs) ≡ flat_map f (take i xs) ++ f x
  flat_more f xs i x lt is =
      ap (flat_map f) (take_more xs i x lt ∙ ap (λ y. take i xs ++ y ∷ []) (sym is)) ∙ flat_map-append f (take i xs) (x ∷ [])
      ∙ ap (λ l. flat_map f (take i xs) ++ l) (append-nil (f x))

pub gather_more : (taken : List (List Ticketed)) (rings : List Ring) (lanes : List LaneView) (i : ℕ) (lane : LaneView) → AreDifferent lanes → HaveRings rings lanes → length taken ≡ length rings
    → i < length lanes → lane ≡ get_or lanes i lane → AreTaken taken (take i lanes) → AreTaken (set taken lane.number lane.recorded) (take (i + 1) lanes)
gather_more taken rings lanes i lane different have same lt is before k d within =
    let now = set taken lane.number lane.recorded in
    let here : k < i + 1 = omega (arith, length-take (i + 1) lanes, within) in
    let at : get_or (take (i + 1) lanes) k d ≡ get_or lanes k d = get_or-take (i + 1) lanes k d here in
    elim (cases_lt k i) [
      | inl less ↦ (
          let old = get_or lanes k d in
          let was : get_or (take i lanes) k d ≡ old = get_or-take i lanes k d less in
          let kept : slice_get taken old.number ≡ Some old.recorded = subst (λ (l : LaneView). slice_get taken l.number ≡ Some l.recorded) was (before k d (omega (arith, length-take i lanes, lt, less))) in
          let apart : lane.number ≢ old.number = λ e. clash k (different i k d lt (omega arith) (ap (λ (l : LaneView). l.number) (sym (other_default lane is)) ∙ e)) less in
          subst (λ (l : LaneView). slice_get now l.number ≡ Some l.recorded) (sym at) (get_set_else taken lane.number old.number lane.recorded apart ∙ kept))
      | inr past ↦ (
          let end : k ≡ i = omega (arith, here, past) in
          let now_is : get_or lanes k d ≡ lane = ap (λ (n : ℕ). get_or lanes n d) end ∙ sym (other_default lane is) in
          let fits : lane.number < length taken = omega (arith, get_within rings lane.number lane.ring (subst (λ (l : LaneView). slice_get rings l.number ≡ Some l.ring) (sym is) (have i lane lt)), same) in
          subst (λ (l : LaneView). slice_get now l.number ≡ Some l.recorded) (sym (at ∙ now_is)) (get_set taken lane.number lane.recorded fits))
    ]
  where
    clash : (k : ℕ) → i ≡ k → k < i → ⊥
    clash k e less = absurd (omega arith)

    other_default : (l : LaneView) → l ≡ get_or lanes i l → l ≡ get_or lanes i d
    other_default l e = e ∙ get_or_default lanes i l d lt

module _ {X : Type 0} where
  pub All_last : (P : X → Type 0) (xs : List X) (x : X) → All P (xs ++ x ∷ []) → P x
  All_last P xs x all = subst P (get_or_push xs x x (length xs) refl) (all (length xs) x (omega (arith, length-append xs (x ∷ []))))

  pub All_front : (P : X → Type 0) (xs ys : List X) → All P (xs ++ ys) → All P xs
  All_front P xs ys all k d lt = subst P (get_or_append_left xs ys d k lt) (all k d (omega (arith, length-append xs ys, lt)))

pub more_times : (n s : ℕ) → (n + 1) * s ≡ n * s + s
more_times n s = let on : n + 1 ≡ suc n = omega arith in ap (λ (k : ℕ). k * s) on ∙ suc-mul n s

pub All_more : {X : Type 0} (P : X → Type 0) (xs : List X) (i : ℕ) (x : X) → i < length xs → x ≡ get_or xs i x → All P (take i xs) → P x → All P (take (i + 1) xs)
All_more P xs i x lt is before here k d within =
    let inside : k < i + 1 = omega (arith, length-take (i + 1) xs, within) in
    let at : get_or (take (i + 1) xs) k d ≡ get_or xs k d = get_or-take (i + 1) xs k d inside in
    elim (cases_lt k i) [
      | inl less ↦ subst P (get_or-take i xs k d less ∙ sym at) (before k d (omega (arith, length-take i xs, lt, less)))
      | inr past ↦ (
          let end : k ≡ i = omega (arith, inside, past) in
          subst P (is ∙ get_or_default xs i x d lt ∙ ap (λ (n : ℕ). get_or xs n d) (sym end) ∙ sym at) here)
    ]

pub if_ok_of : {A E : Type 0} {P : Type 0} (r : Result A E) → P → IfOk r (λ _. P)
if_ok_of (Ok x) p = p
if_ok_of (Err e) p = tt
