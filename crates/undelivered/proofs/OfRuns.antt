-- A run breaks the order of calls just where it does by what it tells of one of its vats.
use Rattle.std.proofs.Common.{◌≡◌, ◌↔◌, ℕ, suc, Bool, true, false, eqb, List, [], ◌∷◌, ◌++◌, refl, sym, ap, subst, ◌∙◌, inl, inr, ◌⊎◌}
use Rattle.std.specs.Prelude.{◌&&◌, ◌||◌, ◌==◌, if◌then◌else◌, is_some, ⊤}
use Rattle.std.specs.List.{list_any}
use Rattle.std.proofs.lemmas.Bool.{eqb-true, eq-eqb, or_left, or_right, or_parts, and_from, false_from_ne_true}
use Rattle.run_model.specs.Early.{early_from, overtakes}
use Rattle.run_model.specs.Legal.{IsLegal, begins_call, delivers_call}
use Rattle.run_model.specs.Links.{IsLinked}
use Rattle.run_model.specs.Right.{request_in_make, makes_through, is_made_before, ReachesObject}
use Rattle.run_model.specs.Steps.{PastSteps, call, vat_of, is_same_call, OneOf, EachStep, count_steps}
use Rattle.run_model.specs.declared.name.Name.{Name}
use Rattle.run_model.specs.declared.step.Step.{Step}
use Rattle.run_model.specs.declared.step.Step.TheVariants.{Host, Make, Deliver}
use Rattle.run_model.proofs.Once.{names_same}
use Rattle.run_model.proofs.Reaching.{each_reaches_object}
use Rattle.run_model.proofs.Turning.{same_to_itself, clash}
use Rattle.undelivered.specs.OfRuns.{moments_of}
use Rattle.undelivered.specs.Order as told
use Rattle.undelivered.specs.Order.{PastCalls, AreOnce, places_of}
use Rattle.undelivered.proofs.Places.{Place, split}

abbrev In : Place → List Place → Type 0
In p ps = OneOf (λ q. q ≡ p) ps

in_parts : (p : Place) (xs ys : List Place) → In p (xs ++ ys) → In p xs ⊎ In p ys
in_parts p [] ys h = inr h
in_parts p (x ∷ xs) ys (inl here) = inl (inl here)
in_parts p (x ∷ xs) ys (inr there) =
    elim (in_parts p xs ys there) [
      | inl left ↦ inl (inr left)
      | inr right ↦ inr right
    ]

in_first : (p : Place) (xs ys : List Place) → In p xs → In p (xs ++ ys)
in_first p [] ys h = absurd h
in_first p (x ∷ xs) ys (inl here) = inl here
in_first p (x ∷ xs) ys (inr there) = inr (in_first p xs ys there)

in_second : (p : Place) (xs ys : List Place) → In p ys → In p (xs ++ ys)
in_second p [] ys h = h
in_second p (x ∷ xs) ys h = inr (in_second p xs ys h)

-- ---- where calls are delivered in a run

abbrev place_at : ℕ → PastSteps → Place
place_at w before = (w, count_steps (λ t. vat_of t == w) before)

abbrev spot : (Name → Bool) → PastSteps → Step → List Place → List Place
spot f before (Deliver w c o) rest = if f c then place_at w before ∷ rest else rest
spot f before _ rest = rest

-- where the calls are delivered that pass a test
abbrev spots : (Name → Bool) → PastSteps → List Place
spots f [] = []
spots f (s ∷ before) = spot f before s (spots f before)

abbrev overtaken : PastSteps → PastSteps → Step → List Place → List Place
overtaken whole before (Deliver w d o) rest = spots (λ c. is_made_before d c whole) before ++ rest
overtaken whole before _ rest = rest

-- where calls are delivered that a later delivery overtakes
abbrev found : PastSteps → PastSteps → List Place
found whole [] = []
found whole (s ∷ before) = overtaken whole before s (found whole before)

keep_spot : (p : Place) (f : Name → Bool) (before : PastSteps) (w : ℕ) (c : Name) → In p (spots f before) → In p (if f c then place_at w before ∷ spots f before else spots f before)
keep_spot p f before w c h =
    elim (split (f c)) [
      | inl k ↦ rw k (inr h)
      | inr k ↦ rw k h
    ]

either_step : (p : Place) (f g : Name → Bool) (before : PastSteps) (s : Step) → (In p (spots (λ c. f c || g c) before) → In p (spots f before) ⊎ In p (spots g before))
    → In p (spots (λ c. f c || g c) (s ∷ before)) → In p (spots f (s ∷ before)) ⊎ In p (spots g (s ∷ before))
either_step p f g before (Deliver w c o) rest h =
    elim (split (f c)) [
      | inl k ↦ elim (rw k at h) [
        | inl here ↦ inl (rw k (inl here))
        | inr there ↦ elim (rest there) [
          | inl x ↦ inl (keep_spot p f before w c x)
          | inr x ↦ inr (keep_spot p g before w c x)
        ]
      ]
      | inr k ↦ elim (split (g c)) [
        | inl l ↦ elim (rw (k, l) at h) [
          | inl here ↦ inr (rw l (inl here))
          | inr there ↦ elim (rest there) [
            | inl x ↦ inl (keep_spot p f before w c x)
            | inr x ↦ inr (keep_spot p g before w c x)
          ]
        ]
        | inr l ↦ elim (rest (rw (k, l) at h)) [
          | inl x ↦ inl (keep_spot p f before w c x)
          | inr x ↦ inr (keep_spot p g before w c x)
        ]
      ]
    ]
either_step p f g before (Host v o) rest h = rest h
either_step p f g before _ rest h = rest h

either_spot : (p : Place) (f g : Name → Bool) (past : PastSteps) → In p (spots (λ c. f c || g c) past) → In p (spots f past) ⊎ In p (spots g past)
either_spot p f g [] h = absurd h
either_spot p f g (s ∷ before) h = either_step p f g before s (either_spot p f g before) h

more_step : (p : Place) (f g : Name → Bool) (before : PastSteps) (s : Step) → ((c : Name) → f c ≡ true → g c ≡ true) → (In p (spots f before) → In p (spots g before)) → In p (spots f (s ∷ before)) → In p (spots g (s ∷ before))
more_step p f g before (Deliver w c o) more rest h =
    elim (split (f c)) [
      | inl k ↦ let l = more c k in elim (rw k at h) [
        | inl here ↦ rw l (inl here)
        | inr there ↦ keep_spot p g before w c (rest there)
      ]
      | inr k ↦ keep_spot p g before w c (rest (rw k at h))
    ]
more_step p f g before (Host v o) more rest h = rest h
more_step p f g before _ more rest h = rest h

more_spots : (p : Place) (f g : Name → Bool) (past : PastSteps) → ((c : Name) → f c ≡ true → g c ≡ true) → In p (spots f past) → In p (spots g past)
more_spots p f g [] more h = h
more_spots p f g (s ∷ before) more h = more_step p f g before s more (more_spots p f g before more) h

abbrev late_of : PastSteps → List Step → Name → Bool
late_of whole later c = list_any (overtakes whole c) later

abbrev Told : PastSteps → List Step → PastSteps → Place → Type 0
Told whole later past p = In p (found whole past) ⊎ In p (spots (late_of whole later) past)

told_next : (whole : PastSteps) (later : List Step) (before : PastSteps) (p : Place) (w : ℕ) (d : Name) (o : ℕ) → Told whole (Deliver w d o ∷ later) before p → Told whole later (Deliver w d o ∷ before) p
told_next whole later before p w d o (inl h) = inl (in_second p (spots (λ c. is_made_before d c whole) before) (found whole before) h)
told_next whole later before p w d o (inr h) =
    elim (either_spot p (λ c. is_made_before d c whole) (late_of whole later) before h) [
      | inl x ↦ inl (in_first p (spots (λ c. is_made_before d c whole) before) (found whole before) x)
      | inr x ↦ inr (keep_spot p (late_of whole later) before w d x)
    ]

early_step : (whole : PastSteps) (later : List Step) (before : PastSteps) (p : Place) (s : Step) → (In p (early_from whole (s ∷ later) before) → Told whole (s ∷ later) before p)
    → In p (early_from whole later (s ∷ before)) → Told whole later (s ∷ before) p
early_step whole later before p (Deliver w d o) rest h =
    elim (split (late_of whole later d)) [
      | inl k ↦ elim (rw k at h) [
        | inl here ↦ inr (rw k (inl here))
        | inr there ↦ told_next whole later before p w d o (rest there)
      ]
      | inr k ↦ told_next whole later before p w d o (rest (rw k at h))
    ]
early_step whole later before p (Host v o) rest h = rest h
early_step whole later before p _ rest h = rest h

early_is_found : (whole : PastSteps) (later : List Step) (past : PastSteps) (p : Place) → In p (early_from whole later past) → Told whole later past p
early_is_found whole later [] p h = absurd h
early_is_found whole later (s ∷ before) p h = early_step whole later before p s (early_is_found whole (s ∷ later) before p) h

keep_early : (p : Place) (b : Bool) (x : Place) (xs : List Place) → In p xs → In p (if b then x ∷ xs else xs)
keep_early p true x xs h = inr h
keep_early p false x xs h = h

found_step : (whole : PastSteps) (later : List Step) (before : PastSteps) (p : Place) (s : Step) → (Told whole (s ∷ later) before p → In p (early_from whole (s ∷ later) before))
    → Told whole later (s ∷ before) p → In p (early_from whole later (s ∷ before))
found_step whole later before p (Deliver w d o) rest (inl h) =
    let more = λ (t : Told whole (Deliver w d o ∷ later) before p). keep_early p (late_of whole later d) (place_at w before) (early_from whole (Deliver w d o ∷ later) before) (rest t) in
    elim (in_parts p (spots (λ c. is_made_before d c whole) before) (found whole before) h) [
      | inl x ↦ more (inr (more_spots p (λ c. is_made_before d c whole) (late_of whole (Deliver w d o ∷ later)) before (λ c e. or_left _ _ e) x))
      | inr x ↦ more (inl x)
    ]
found_step whole later before p (Deliver w d o) rest (inr h) =
    let more = λ (x : In p (spots (late_of whole later) before)). rest (inr (more_spots p (late_of whole later) (late_of whole (Deliver w d o ∷ later)) before (λ c e. or_right _ _ e) x)) in
    elim (split (late_of whole later d)) [
      | inl k ↦ elim (rw k at h) [
        | inl here ↦ rw k (inl here)
        | inr there ↦ rw k (inr (more there))
      ]
      | inr k ↦ rw k (more (rw k at h))
    ]
found_step whole later before p (Host v o) rest h = rest h
found_step whole later before p _ rest h = rest h

found_is_early : (whole : PastSteps) (later : List Step) (past : PastSteps) (p : Place) → Told whole later past p → In p (early_from whole later past)
found_is_early whole later [] p (inl h) = absurd h
found_is_early whole later [] p (inr h) = absurd h
found_is_early whole later (s ∷ before) p h = found_step whole later before p s (found_is_early whole (s ∷ later) before p) h

-- ---- calls come once

-- a call that is made wasn't delivered before
abbrev NotYet : PastSteps → Step → Type 0
NotYet before (Make v number cap reference interface method) = list_any (delivers_call (call v number)) before ≡ false
NotYet before _ = ⊤

begun_at : (c : Name) (s : Step) → is_some (request_in_make c s) ≡ true → begins_call c s ≡ true
begun_at c (Make v number cap reference interface method) h =
    elim (split (is_same_call (call v number) c)) [
      | inl k ↦ k
      | inr k ↦ absurd (let none : false ≡ true = rw k at h in cc)
    ]
begun_at c (Host v o) h = absurd cc
begun_at c _ h = absurd cc

counted_begun : (c : Name) (past : PastSteps) (n : ℕ) → count_steps (λ s. is_some (request_in_make c s)) past ≡ suc n → list_any (begins_call c) past ≡ true
counted_begun c [] n e = absurd cc
counted_begun c (s ∷ before) n e =
    elim (split (is_some (request_in_make c s))) [
      | inl k ↦ or_left _ _ (begun_at c s k)
      | inr k ↦ or_right _ _ (counted_begun c before n (rw k at e))
    ]

begins_more : (c : Name) (s : Step) (before : PastSteps) → list_any (begins_call c) before ≡ true → list_any (begins_call c) (s ∷ before) ≡ true
begins_more c s before h = or_right (begins_call c s) (list_any (begins_call c) before) h

delivered_begun_step : (c : Name) (before : PastSteps) (s : Step) → ReachesObject before s → (list_any (delivers_call c) before ≡ true → list_any (begins_call c) before ≡ true)
    → list_any (delivers_call c) (s ∷ before) ≡ true → list_any (begins_call c) (s ∷ before) ≡ true
delivered_begun_step c before (Deliver w d o) reaches rest h =
    elim (split (is_same_call d c)) [
      | inl k ↦ subst (λ (n : Name). list_any (begins_call n) before ≡ true) (names_same d c k) (counted_begun d before 0 reaches.0)
      | inr k ↦ rest (rw k at h)
    ]
delivered_begun_step c before (Host v o) reaches rest h = rest h
delivered_begun_step c before s reaches rest h = begins_more c s before (rest h)

delivered_begun : (c : Name) (past : PastSteps) → EachStep ReachesObject past → list_any (delivers_call c) past ≡ true → list_any (begins_call c) past ≡ true
delivered_begun c [] each h = absurd cc
delivered_begun c (s ∷ before) each h = delivered_begun_step c before s each.0 (delivered_begun c before each.1) h

not_yet_at : (before : PastSteps) (s : Step) → EachStep ReachesObject before → IsLegal before s → NotYet before s
not_yet_at before (Make v number cap reference interface method) each legal =
    false_from_ne_true (list_any (delivers_call (call v number)) before) (λ h. clash (delivered_begun (call v number) before each h) legal.1)
not_yet_at before (Host v o) each legal = tt
not_yet_at before _ each legal = tt

not_yet : (past : PastSteps) → EachStep ReachesObject past → EachStep IsLegal past → EachStep NotYet past
not_yet [] each legal = tt
not_yet (s ∷ before) each legal = (not_yet_at before s each.1 legal.0, not_yet before each.1 legal.1)

-- ---- what is told of a vat's calls

-- what is delivered was told
told_delivered_step : (v n : ℕ) (before : PastSteps) (s : Step) → (list_any (delivers_call (call v n)) before ≡ false → list_any (told.tells_delivery n) (moments_of v before) ≡ false)
    → list_any (delivers_call (call v n)) (s ∷ before) ≡ false → list_any (told.tells_delivery n) (moments_of v (s ∷ before)) ≡ false
told_delivered_step v n before (Deliver w d o) rest h =
    let parts = or_parts (is_same_call d (call v n)) (list_any (delivers_call (call v n)) before) h in
    elim (split (eqb d.maker v)) [
      | inl k ↦ let other : eqb d.number n ≡ false = (rw k at parts.0) in rw (k, other) (rest parts.1)
      | inr k ↦ rw k (rest parts.1)
    ]
told_delivered_step v n before (Make w m cap r i t) rest h =
    elim (split (eqb w v)) [
      | inl k ↦ rw k (rest h)
      | inr k ↦ rw k (rest h)
    ]
told_delivered_step v n before (Host w o) rest h = rest h
told_delivered_step v n before _ rest h = rest h

told_delivered : (v n : ℕ) (past : PastSteps) → list_any (delivers_call (call v n)) past ≡ false → list_any (told.tells_delivery n) (moments_of v past) ≡ false
told_delivered v n [] h = refl
told_delivered v n (s ∷ before) h = told_delivered_step v n before s (told_delivered v n before) h

told_made_step : (v n : ℕ) (before : PastSteps) (s : Step) → (list_any (begins_call (call v n)) before ≡ false → list_any (told.makes n) (moments_of v before) ≡ false)
    → list_any (begins_call (call v n)) (s ∷ before) ≡ false → list_any (told.makes n) (moments_of v (s ∷ before)) ≡ false
told_made_step v n before (Make w m cap r i t) rest h =
    let parts = or_parts (is_same_call (call w m) (call v n)) (list_any (begins_call (call v n)) before) h in
    elim (split (eqb w v)) [
      | inl k ↦ let other : eqb m n ≡ false = (rw k at parts.0) in rw (k, other) (rest parts.1)
      | inr k ↦ rw k (rest parts.1)
    ]
told_made_step v n before (Deliver w d o) rest h =
    elim (split (eqb d.maker v)) [
      | inl k ↦ rw k (rest h)
      | inr k ↦ rw k (rest h)
    ]
told_made_step v n before (Host w o) rest h = rest h
told_made_step v n before s rest h = rest (or_parts (begins_call (call v n) s) (list_any (begins_call (call v n)) before) h).1

told_made : (v n : ℕ) (past : PastSteps) → list_any (begins_call (call v n)) past ≡ false → list_any (told.makes n) (moments_of v past) ≡ false
told_made v n [] h = refl
told_made v n (s ∷ before) h = told_made_step v n before s (told_made v n before) h

-- what was made was told
asked_told_step : (v n : ℕ) (before : PastSteps) (s : Step) (k : ℕ) → ((j : ℕ) → count_steps (λ t. is_some (request_in_make (call v n) t)) before ≡ suc j → list_any (told.makes n) (moments_of v before) ≡ true)
    → count_steps (λ t. is_some (request_in_make (call v n) t)) (s ∷ before) ≡ suc k → list_any (told.makes n) (moments_of v (s ∷ before)) ≡ true
asked_told_step v n before (Make w m cap r i t) k rest e =
    elim (split (eqb w v)) [
      | inl x ↦ elim (split (eqb m n)) [
        | inl y ↦ rw (x, y) refl
        | inr y ↦ rw (x, y) (rest k (rw (x, y) at e))
      ]
      | inr x ↦ rw x (rest k (rw x at e))
    ]
asked_told_step v n before (Deliver w d o) k rest e =
    elim (split (eqb d.maker v)) [
      | inl x ↦ rw x (rest k e)
      | inr x ↦ rw x (rest k e)
    ]
asked_told_step v n before (Host w o) k rest e = rest k e
asked_told_step v n before _ k rest e = rest k e

asked_told : (v n : ℕ) (past : PastSteps) (k : ℕ) → count_steps (λ t. is_some (request_in_make (call v n) t)) past ≡ suc k → list_any (told.makes n) (moments_of v past) ≡ true
asked_told v n [] k e = absurd cc
asked_told v n (s ∷ before) k e = asked_told_step v n before s k (asked_told v n before) e

once_step : (v : ℕ) (before : PastSteps) (s : Step) → IsLegal before s → ReachesObject before s → AreOnce (moments_of v before) → AreOnce (moments_of v (s ∷ before))
once_step v before (Make w m cap r i t) legal reaches once =
    elim (split (eqb w v)) [
      | inl k ↦
          let here : list_any (begins_call (call v m)) before ≡ false = subst (λ (x : ℕ). list_any (begins_call (call x m)) before ≡ false) (eqb-true w v k) legal.1 in
          rw k (told_made v m before here, once)
      | inr k ↦ rw k once
    ]
once_step v before (Deliver w d o) legal reaches once =
    elim (split (eqb d.maker v)) [
      | inl k ↦
          let same : d.maker ≡ v = eqb-true d.maker v k in
          let asked : count_steps (λ t. is_some (request_in_make (call v d.number) t)) before ≡ 1 = subst (λ (x : ℕ). count_steps (λ t. is_some (request_in_make (call x d.number) t)) before ≡ 1) same reaches.0 in
          let waits : list_any (delivers_call (call v d.number)) before ≡ false = subst (λ (x : ℕ). list_any (delivers_call (call x d.number)) before ≡ false) same reaches.2 in
          rw k (asked_told v d.number before 0 asked, told_delivered v d.number before waits, once)
      | inr k ↦ rw k once
    ]
once_step v before (Host w o) legal reaches once = once
once_step v before _ legal reaches once = once

once_told : (v : ℕ) (past : PastSteps) → EachStep IsLegal past → EachStep ReachesObject past → AreOnce (moments_of v past)
once_told v [] legal reaches = tt
once_told v (s ∷ before) legal reaches = once_step v before s legal.0 reaches.0 (once_told v before legal.1 reaches.1)

pub told_once : (past : PastSteps) → EachStep IsLegal past → EachStep IsLinked past → (v : ℕ) → AreOnce (moments_of v past)
told_once past legal linked v = once_told v past legal (each_reaches_object past legal linked)

-- ---- made before, as it is told

swap : (a b : ℕ) → eqb a b ≡ eqb b a
swap a b =
    elim (split (eqb a b)) [
      | inl h ↦ h ∙ sym (eq-eqb b a (sym (eqb-true a b h)))
      | inr h ↦ h ∙ sym (false_from_ne_true (eqb b a) (λ k. clash (eq-eqb a b (sym (eqb-true b a k))) h))
    ]

and_no : (a : Bool) → (a && false) ≡ false
and_no true = refl
and_no false = refl

through_step : (v r : ℕ) (c : Name) (before : PastSteps) (s : Step) → list_any (makes_through v r c) before ≡ (eqb v c.maker && list_any (told.tells_making_through r c.number) (moments_of c.maker before))
    → list_any (makes_through v r c) (s ∷ before) ≡ (eqb v c.maker && list_any (told.tells_making_through r c.number) (moments_of c.maker (s ∷ before)))
through_step v r c before (Make w m cap q i t) rest =
    elim (split (eqb w c.maker)) [
      | inl k ↦ elim (split (eqb v c.maker)) [
        | inl l ↦
            let same : eqb w v ≡ true = eq-eqb w v (eqb-true w c.maker k ∙ sym (eqb-true v c.maker l)) in
            rw (k, l, same) (ap (λ (b : Bool). (eqb q r && eqb m c.number) || b) (rw l at rest))
        | inr l ↦
            let other : eqb w v ≡ false = false_from_ne_true (eqb w v) (λ e. clash (eq-eqb v c.maker (sym (eqb-true w v e) ∙ eqb-true w c.maker k)) l) in
            rw (l, other) (rw l at rest)
      ]
      | inr k ↦
          let first : makes_through v r c (Make w m cap q i t) ≡ false = rw k (and_no (eqb w v && eqb q r)) in
          let here : list_any (makes_through v r c) (Make w m cap q i t ∷ before) ≡ list_any (makes_through v r c) before = ap (λ (b : Bool). b || list_any (makes_through v r c) before) first in
          let same : moments_of c.maker (Make w m cap q i t ∷ before) ≡ moments_of c.maker before = rw k refl in
          here ∙ rest ∙ ap (λ (past : PastCalls). eqb v c.maker && list_any (told.tells_making_through r c.number) past) (sym same)
    ]
through_step v r c before (Deliver w d o) rest =
    elim (split (eqb d.maker c.maker)) [
      | inl k ↦ rw k rest
      | inr k ↦ rw k rest
    ]
through_step v r c before (Host w o) rest = rest
through_step v r c before _ rest = rest

through : (v r : ℕ) (c : Name) (past : PastSteps) → list_any (makes_through v r c) past ≡ (eqb v c.maker && list_any (told.tells_making_through r c.number) (moments_of c.maker past))
through v r c [] = sym (and_no (eqb v c.maker))
through v r c (s ∷ before) = through_step v r c before s (through v r c before)

-- of two calls of one vat, which is told to be made first; those of two vats are never told so
abbrev TellsFirst : Name → Name → PastSteps → Type 0
TellsFirst d c past = is_made_before d c past ≡ (eqb c.maker d.maker && told.is_made_earlier d.number c.number (moments_of d.maker past))

spread : (e n l t : Bool) → (((e && n) && l) || (e && t)) ≡ (e && ((n && l) || t))
spread true true true t = refl
spread true true false t = refl
spread true false l t = refl
spread false n l t = refl

first_step : (d c : Name) (before : PastSteps) (s : Step) → TellsFirst d c before → TellsFirst d c (s ∷ before)
first_step d c before (Make w m cap r i t) rest =
    let behind = through w r d before in
    elim (split (eqb w d.maker)) [
      | inl k ↦
          let maker : eqb w c.maker ≡ eqb c.maker d.maker = ap (λ (x : ℕ). eqb x c.maker) (eqb-true w d.maker k) ∙ swap d.maker c.maker in
          rw (behind, k, rest, maker) (spread (eqb c.maker d.maker) (eqb m c.number) (list_any (told.tells_making_through r d.number) (moments_of d.maker before)) (told.is_made_earlier d.number c.number (moments_of d.maker before)))
      | inr k ↦ rw (behind, k, and_no (is_same_call (call w m) c)) rest
    ]
first_step d c before (Deliver w x o) rest =
    elim (split (eqb x.maker d.maker)) [
      | inl k ↦ rw k rest
      | inr k ↦ rw k rest
    ]
first_step d c before (Host w o) rest = rest
first_step d c before _ rest = rest

tells_first : (d c : Name) (past : PastSteps) → TellsFirst d c past
tells_first d c [] = sym (and_no (eqb c.maker d.maker))
tells_first d c (s ∷ before) = first_step d c before s (tells_first d c before)

-- ---- where calls are delivered, as it is told

abbrev Tells : ℕ → (Name → Bool) → (ℕ → Bool) → PastSteps → Type 0
Tells v f g past = (c : Name) → list_any (delivers_call c) past ≡ true → f c ≡ (eqb c.maker v && g c.number)

spots_step : (v : ℕ) (f : Name → Bool) (g : ℕ → Bool) (before : PastSteps) (s : Step) → Tells v f g (s ∷ before) → spots f before ≡ places_of g (moments_of v before) → spots f (s ∷ before) ≡ places_of g (moments_of v (s ∷ before))
spots_step v f g before (Deliver w c o) tells rest =
    let here : f c ≡ (eqb c.maker v && g c.number) = tells c (or_left (is_same_call c c) (list_any (delivers_call c) before) (same_to_itself c)) in
    elim (split (eqb c.maker v)) [
      | inl k ↦ elim (split (g c.number)) [
        | inl l ↦ let one : f c ≡ true = here ∙ and_from _ _ k l in rw (one, k, l) (ap (λ (ps : List Place). place_at w before ∷ ps) rest)
        | inr l ↦ let one : f c ≡ false = here ∙ rw (k, l) refl in rw (one, k, l) rest
      ]
      | inr k ↦ let one : f c ≡ false = here ∙ rw k refl in rw (one, k) rest
    ]
spots_step v f g before (Make w m cap r i t) tells rest =
    elim (split (eqb w v)) [
      | inl k ↦ rw k rest
      | inr k ↦ rw k rest
    ]
spots_step v f g before (Host w o) tells rest = rest
spots_step v f g before _ tells rest = rest

spots_told : (v : ℕ) (f : Name → Bool) (g : ℕ → Bool) (past : PastSteps) → Tells v f g past → spots f past ≡ places_of g (moments_of v past)
spots_told v f g [] tells = refl
spots_told v f g (s ∷ before) tells = spots_step v f g before s tells (spots_told v f g before (λ c h. tells c (or_right (delivers_call c s) (list_any (delivers_call c) before) h)))

-- of a call that was delivered, what was made before it doesn't change
abbrev Settles : PastSteps → PastSteps → Type 0
Settles whole past = (c d : Name) → list_any (delivers_call c) past ≡ true → is_made_before d c whole ≡ is_made_before d c past

settles_at : (before : PastSteps) (s : Step) (c d : Name) → NotYet before s → list_any (delivers_call c) before ≡ true → is_made_before d c (s ∷ before) ≡ is_made_before d c before
settles_at before (Make w m cap r i t) c d not h =
    let other : is_same_call (call w m) c ≡ false = false_from_ne_true (is_same_call (call w m) c) (λ e. clash h (subst (λ (n : Name). list_any (delivers_call n) before ≡ false) (names_same (call w m) c e) not)) in
    rw other refl
settles_at before (Host w o) c d not h = refl
settles_at before _ c d not h = refl

settles_before : (whole : PastSteps) (s : Step) (before : PastSteps) → NotYet before s → Settles whole (s ∷ before) → Settles whole before
settles_before whole s before not settles = λ c d h. settles c d (or_right (delivers_call c s) (list_any (delivers_call c) before) h) ∙ settles_at before s c d not h

-- early by what is told of some vat
abbrev ByVat : PastSteps → Place → Type 0
ByVat past p = (v : ℕ) × In p (told.early (moments_of v past))

told_here : (whole before : PastSteps) (d : Name) → Settles whole before → spots (λ c. is_made_before d c whole) before ≡ places_of (λ n. told.is_made_earlier d.number n (moments_of d.maker before)) (moments_of d.maker before)
told_here whole before d settles =
    spots_told d.maker (λ c. is_made_before d c whole) (λ n. told.is_made_earlier d.number n (moments_of d.maker before)) before (λ c h. settles c d h ∙ tells_first d c before)

-- what was early stays so
by_vat_more : (before : PastSteps) (s : Step) (p : Place) → ByVat before p → ByVat (s ∷ before) p
by_vat_more before (Deliver w d o) p both =
    elim (split (eqb d.maker both.0)) [
      | inl k ↦ (both.0, rw k (in_second p (places_of (λ n. told.is_made_earlier d.number n (moments_of both.0 before)) (moments_of both.0 before)) (told.early (moments_of both.0 before)) both.1))
      | inr k ↦ (both.0, rw k both.1)
    ]
by_vat_more before (Make w m cap r i t) p both =
    elim (split (eqb w both.0)) [
      | inl k ↦ (both.0, rw k both.1)
      | inr k ↦ (both.0, rw k both.1)
    ]
by_vat_more before (Host w o) p h = h
by_vat_more before _ p h = h

found_told_step : (whole before : PastSteps) (s : Step) (p : Place) → Settles whole before → (In p (found whole before) → ByVat before p) → In p (found whole (s ∷ before)) → ByVat (s ∷ before) p
found_told_step whole before (Deliver w d o) p settles rest h =
    let same = told_here whole before d settles in
    elim (in_parts p (spots (λ c. is_made_before d c whole) before) (found whole before) h) [
      | inl x ↦
          let own : eqb d.maker d.maker ≡ true = eq-eqb d.maker d.maker refl in
          let here : In p (places_of (λ n. told.is_made_earlier d.number n (moments_of d.maker before)) (moments_of d.maker before)) = subst (In p) same x in
          (d.maker, rw own (in_first p (places_of (λ n. told.is_made_earlier d.number n (moments_of d.maker before)) (moments_of d.maker before)) (told.early (moments_of d.maker before)) here))
      | inr x ↦ by_vat_more before (Deliver w d o) p (rest x)
    ]
found_told_step whole before (Make w m cap r i t) p settles rest h = by_vat_more before (Make w m cap r i t) p (rest h)
found_told_step whole before (Host w o) p settles rest h = rest h
found_told_step whole before _ p settles rest h = rest h

found_told : (whole past : PastSteps) (p : Place) → EachStep NotYet past → Settles whole past → In p (found whole past) → ByVat past p
found_told whole [] p not settles h = absurd h
found_told whole (s ∷ before) p not settles h =
    let earlier = settles_before whole s before not.0 settles in
    found_told_step whole before s p earlier (found_told whole before p not.1 earlier) h

told_found_step : (whole before : PastSteps) (s : Step) (p : Place) → Settles whole before → (ByVat before p → In p (found whole before)) → ByVat (s ∷ before) p → In p (found whole (s ∷ before))
told_found_step whole before (Deliver w d o) p settles rest both =
    let all = λ (x : In p (found whole before)). in_second p (spots (λ c. is_made_before d c whole) before) (found whole before) x in
    elim (split (eqb d.maker both.0)) [
      | inl k ↦
          let maker : d.maker ≡ both.0 = eqb-true d.maker both.0 k in
          let mine : List Place = places_of (λ n. told.is_made_earlier d.number n (moments_of both.0 before)) (moments_of both.0 before) in
          let same : spots (λ c. is_made_before d c whole) before ≡ mine = subst (λ (x : ℕ). spots (λ c. is_made_before d c whole) before ≡ places_of (λ n. told.is_made_earlier d.number n (moments_of x before)) (moments_of x before)) maker (told_here whole before d settles) in
          elim (in_parts p mine (told.early (moments_of both.0 before)) (rw k at both.1)) [
            | inl x ↦ in_first p (spots (λ c. is_made_before d c whole) before) (found whole before) (subst (In p) (sym same) x)
            | inr x ↦ all (rest (both.0, x))
          ]
      | inr k ↦ all (rest (both.0, rw k at both.1))
    ]
told_found_step whole before (Make w m cap r i t) p settles rest both =
    elim (split (eqb w both.0)) [
      | inl k ↦ rest (both.0, rw k at both.1)
      | inr k ↦ rest (both.0, rw k at both.1)
    ]
told_found_step whole before (Host w o) p settles rest h = rest h
told_found_step whole before _ p settles rest h = rest h

told_found : (whole past : PastSteps) (p : Place) → EachStep NotYet past → Settles whole past → ByVat past p → In p (found whole past)
told_found whole [] p not settles both = absurd both.1
told_found whole (s ∷ before) p not settles h =
    let earlier = settles_before whole s before not.0 settles in
    told_found_step whole before s p earlier (told_found whole before p not.1 earlier) h

none_late_step : (p : Place) (before : PastSteps) (s : Step) → (In p (spots (λ c. false) before) → ⊥) → In p (spots (λ c. false) (s ∷ before)) → ⊥
none_late_step p before (Deliver w c o) rest h = rest h
none_late_step p before (Host w o) rest h = rest h
none_late_step p before _ rest h = rest h

none_late : (p : Place) (past : PastSteps) → In p (spots (λ c. false) past) → ⊥
none_late p [] h = h
none_late p (s ∷ before) h = none_late_step p before s (none_late p before) h

pub told_early : (past : PastSteps) → EachStep IsLegal past → EachStep IsLinked past → (p : Place) → In p (early_from past [] past) ↔ ByVat past p
told_early past legal linked p =
    let each = each_reaches_object past legal linked in
    let not = not_yet past each legal in (
      λ h. elim (early_is_found past [] past p h) [
        | inl x ↦ found_told past past p not (λ c d e. refl) x
        | inr x ↦ absurd (none_late p past x)
      ],
      λ h. found_is_early past [] past p (inl (told_found past past p not (λ c d e. refl) h)),
    )
