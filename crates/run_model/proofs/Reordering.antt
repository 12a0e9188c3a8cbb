-- Another order of the same steps: the same steps are early, and vats came to the same caps.
use Rattle.std.proofs.Common.{◌≡◌, ◌⊎◌, inl, inr, refl, sym, ◌∙◌, ap, ap₂, subst, ℕ, zero, suc, ◌==◌, List, [], ◌∷◌, ◌++◌, length, reverse, Bool, true, false, ◌&&◌, ◌||◌, Option, Some, None, if◌then◌else◌, IsSomeAnd, eqb-true, slice_get, arith}
use Rattle.std.specs.Prelude.{Contains}
use Rattle.std.specs.List.{list_any, AllByRecursion, AllPairs}
use Rattle.std.specs.Option.{option_or}
use Rattle.std.proofs.lemmas.Bool.{and_from, and_parts, eq-eqb, or_left, or_right, false≢true, cases_Bool}
use Rattle.std.proofs.lemmas.List.{reverse-append, append-nil}
use Rattle.std.proofs.lemmas.List.Elements.{filter-append}
use Rattle.run_model.specs.Types.{Name, Cap, Object, Step, Host, Make, Deliver}
use Rattle.run_model.proofs.Growing.{leads_grow}
use Rattle.run_model.proofs.Once.{or_either, names_same, begun_once}
use Rattle.run_model.proofs.Order.{overtaken, overtaker, ordered_unless_early}
use Rattle.run_model.proofs.Reaching.{each_reaches_object}
use Rattle.run_model.proofs.Turning.{clash, leads_to_one_object, same_to_itself}
use Rattle.run_model.specs.Early.{early, early_from, is_early, IsAtMost, IsOrderFault}
use Rattle.run_model.specs.Edges.{Edge, IsBefore, IsBound, IsEarlier, IsWitness, AreEdges}
use Rattle.run_model.specs.Leads.{Leads}
use Rattle.run_model.specs.Legal.{IsLegal, IsLegalRun, begins_call, delivers_call}
use Rattle.run_model.specs.Links.{IsLinked, IsLinkedRun}
use Rattle.run_model.specs.Places.{Asked, asked_by_parts}
use Rattle.run_model.specs.Reordered.{HaveSameSteps, MakesThrough, KeepsReferences}
use Rattle.run_model.specs.Right.{ReachesObject, is_made_before, request_in_make, makes_through}
use Rattle.run_model.specs.Steps.{EachStep, OneOf, PastSteps, call, count_steps, is_same_call, last_step_answer, steps_of, vat_of}

-- ---- a vat's steps among those of all

no_cons : {A : Type 0} {x : A} {xs : List A} → [] ≡ (x ∷ xs) → ⊥
no_cons e = cc

heads : {A : Type 0} {x y : A} {xs ys : List A} → (x ∷ xs) ≡ (y ∷ ys) → x ≡ y
heads e = cc

tails : {A : Type 0} {x y : A} {xs ys : List A} → (x ∷ xs) ≡ (y ∷ ys) → xs ≡ ys
tails e = cc

pub steps_turned : (v : ℕ) (run : List Step) → steps_of v (reverse run) ≡ reverse (steps_of v run)
steps_turned v [] = refl
steps_turned v (s ∷ run) =
    ap (steps_of v) (reverse-append (s ∷ []) run) ∙ filter-append (λ s. vat_of s == v) (reverse run) (s ∷ []) ∙ at (vat_of s == v) (steps_turned v run)
  where
    at : (b : Bool) → steps_of v (reverse run) ≡ reverse (steps_of v run) → steps_of v (reverse run) ++ (if b then s ∷ [] else []) ≡ reverse (if b then s ∷ steps_of v run else steps_of v run)
    at true h = ap (λ l. l ++ s ∷ []) h ∙ sym (reverse-append (s ∷ []) (steps_of v run))
    at false h = append-nil (steps_of v (reverse run)) ∙ h

own_step : (v : ℕ) (s : Step) (past : PastSteps) → vat_of s ≡ v → steps_of v (s ∷ past) ≡ s ∷ steps_of v past
own_step v s past own = ap (λ b. if b then s ∷ steps_of v past else steps_of v past) (eq-eqb (vat_of s) v own)

other_step : (v : ℕ) (s : Step) (past : PastSteps) → (vat_of s == v) ≡ false → steps_of v (s ∷ past) ≡ steps_of v past
other_step v s past apart = ap (λ b. if b then s ∷ steps_of v past else steps_of v past) apart

own_steps : (v : ℕ) (later before : PastSteps) (s : Step) → vat_of s ≡ v → steps_of v (later ++ s ∷ before) ≡ steps_of v later ++ s ∷ steps_of v before
own_steps v later before s own = filter-append (λ s. vat_of s == v) later (s ∷ before) ∙ ap (λ l. steps_of v later ++ l) (own_step v s before own)

-- how many steps of a vat stand before
counted : (v : ℕ) (past : PastSteps) → count_steps (λ s. vat_of s == v) past ≡ length (steps_of v past)
counted v [] = refl
counted v (s ∷ past) = at (vat_of s == v) (counted v past)
  where
    at : (b : Bool) → count_steps (λ s. vat_of s == v) past ≡ length (steps_of v past) →
        (if b then suc (count_steps (λ s. vat_of s == v) past) else count_steps (λ s. vat_of s == v) past) ≡ length (if b then s ∷ steps_of v past else steps_of v past)
    at true h = ap suc h
    at false h = h

-- a step of a vat, with the vat's steps before and after it, stands so among all steps
record IsAmong (v : ℕ) (past xs ys : PastSteps) (s : Step) : Type 0 where
  pub later : PastSteps
  pub before : PastSteps
  pub split : past ≡ later ++ s ∷ before
  pub own_later : steps_of v later ≡ xs
  pub own_before : steps_of v before ≡ ys

among : (v : ℕ) (past xs ys : PastSteps) (s : Step) → steps_of v past ≡ xs ++ s ∷ ys → IsAmong v past xs ys s
among v [] [] ys s h = absurd (no_cons h)
among v [] (x ∷ xs) ys s h = absurd (no_cons h)
among v (t ∷ past) xs ys s h = elim (cases_Bool (vat_of t == v)) [
  | inl own ↦ at (eqb-true (vat_of t) v own) xs (sym (own_step v t past (eqb-true (vat_of t) v own)) ∙ h) (λ xs. among v past xs ys s)
  | inr apart ↦
      let r = among v past xs ys s (sym (other_step v t past apart) ∙ h) in
      record { later = t ∷ r.later; before = r.before; split = ap (λ l. t ∷ l) r.split; own_later = other_step v t r.later apart ∙ r.own_later; own_before = r.own_before }
]
  where
    at : vat_of t ≡ v → (xs : PastSteps) → t ∷ steps_of v past ≡ xs ++ s ∷ ys → ((xs : PastSteps) → steps_of v past ≡ xs ++ s ∷ ys → IsAmong v past xs ys s) → IsAmong v (t ∷ past) xs ys s
    at own [] h rest = record { later = []; before = past; split = ap (λ x. x ∷ past) (heads h); own_later = refl; own_before = tails h }
    at own (x ∷ xs) h rest =
        let r = rest xs (tails h) in
        record {
          later = t ∷ r.later;
          before = r.before;
          split = ap (λ l. t ∷ l) r.split;
          own_later = own_step v t r.later own ∙ ap₂ (λ y l. y ∷ l) (heads h) r.own_later;
          own_before = r.own_before;
        }

any_there : (test : Step → Bool) (later before : PastSteps) (s : Step) → test s ≡ true → list_any test (later ++ s ∷ before) ≡ true
any_there test [] before s h = or_left (test s) (list_any test before) h
any_there test (t ∷ later) before s h = or_right (test t) (list_any test (later ++ s ∷ before)) (any_there test later before s h)

-- what one of a vat's steps passes, one of all steps does; and the other way, where only a step of that vat can
any_of_all : (v : ℕ) (test : Step → Bool) (past : PastSteps) → list_any test (steps_of v past) ≡ true → list_any test past ≡ true
any_of_all v test [] h = h
any_of_all v test (s ∷ past) h = at (vat_of s == v) h (any_of_all v test past)
  where
    at : (b : Bool) → list_any test (if b then s ∷ steps_of v past else steps_of v past) ≡ true → (list_any test (steps_of v past) ≡ true → list_any test past ≡ true) → list_any test (s ∷ past) ≡ true
    at false h rest = or_right (test s) (list_any test past) (rest h)
    at true h rest = elim (or_either (test s) (list_any test (steps_of v past)) h) [
      | inl here ↦ or_left (test s) (list_any test past) here
      | inr there ↦ or_right (test s) (list_any test past) (rest there)
    ]

any_of_own : (v : ℕ) (test : Step → Bool) → ((s : Step) → test s ≡ true → vat_of s ≡ v) → (past : PastSteps) → list_any test past ≡ true → list_any test (steps_of v past) ≡ true
any_of_own v test own [] h = h
any_of_own v test own (s ∷ past) h = elim (or_either (test s) (list_any test past) h) [
  | inl here ↦ subst (λ l. list_any test l ≡ true) (sym (own_step v s past (own s here))) (or_left (test s) (list_any test (steps_of v past)) here)
  | inr there ↦ at (vat_of s == v) (any_of_own v test own past there)
]
  where
    at : (b : Bool) → list_any test (steps_of v past) ≡ true → list_any test (if b then s ∷ steps_of v past else steps_of v past) ≡ true
    at true h = or_right (test s) (list_any test (steps_of v past)) h
    at false h = h

-- ---- a call that is delivered

record IsDelivered (c : Name) (past : PastSteps) : Type 0 where
  pub vat : ℕ
  pub object : ℕ
  pub later : PastSteps
  pub before : PastSteps
  pub split : past ≡ later ++ Deliver vat c object ∷ before

delivered_now : (c : Name) (s : Step) (past : PastSteps) → delivers_call c s ≡ true → IsDelivered c (s ∷ past)
delivered_now c (Deliver v d o) past h = record { vat = v; object = o; later = []; before = past; split = ap (λ n. Deliver v n o ∷ past) (names_same d c h) }
delivered_now c (Host v o) past h = absurd (false≢true h)
delivered_now c _ past h = absurd (false≢true h)

delivered : (c : Name) (past : PastSteps) → list_any (delivers_call c) past ≡ true → IsDelivered c past
delivered c [] h = absurd (false≢true h)
delivered c (s ∷ past) h = elim (or_either (delivers_call c s) (list_any (delivers_call c) past) h) [
  | inl here ↦ delivered_now c s past here
  | inr there ↦ let r = delivered c past there in record { vat = r.vat; object = r.object; later = s ∷ r.later; before = r.before; split = ap (λ l. s ∷ l) r.split }
]

-- ---- the early steps

-- a step delivers a call after which another is delivered that was made before it
record IsEarlyAt (whole : PastSteps) (later : List Step) (past : PastSteps) (place : ℕ × ℕ) : Type 0 where
  pub vat : ℕ
  pub object : ℕ
  pub call : Name
  pub first : Name
  pub added : PastSteps
  pub before : PastSteps
  pub split : past ≡ added ++ Deliver vat call object ∷ before
  pub at_place : (vat, count_steps (λ s. vat_of s == vat) before) ≡ place
  pub made : is_made_before first call whole ≡ true
  pub overtaken : (list_any (delivers_call first) added || list_any (delivers_call first) later) ≡ true

early_now : (whole : PastSteps) (later : List Step) (s : Step) (past : PastSteps) (place : ℕ × ℕ) → is_early whole s later ≡ true → (vat_of s, count_steps (λ t. vat_of t == vat_of s) past) ≡ place →
    IsEarlyAt whole later (s ∷ past) place
early_now whole later (Deliver v c o) past place early at_place =
    let r = overtaker whole c later early in
    record { vat = v; object = o; call = c; first = r.0; added = []; before = past; split = refl; at_place = at_place; made = r.1; overtaken = r.2 }
early_now whole later (Host v o) past place early at_place = absurd (false≢true early)
early_now whole later _ past place early at_place = absurd (false≢true early)

or_passed : (a b c : Bool) → (a || (b || c)) ≡ true → ((b || a) || c) ≡ true
or_passed true true c h = refl
or_passed true false c h = refl
or_passed false true c h = refl
or_passed false false c h = h

or_passed_back : (a b c : Bool) → ((b || a) || c) ≡ true → (a || (b || c)) ≡ true
or_passed_back true b c h = refl
or_passed_back false true c h = refl
or_passed_back false false c h = h

early_past : (whole : PastSteps) (later : List Step) (s : Step) (past : PastSteps) (place : ℕ × ℕ) → IsEarlyAt whole (s ∷ later) past place → IsEarlyAt whole later (s ∷ past) place
early_past whole later s past place r = record {
  vat = r.vat;
  object = r.object;
  call = r.call;
  first = r.first;
  added = s ∷ r.added;
  before = r.before;
  split = ap (λ l. s ∷ l) r.split;
  at_place = r.at_place;
  made = r.made;
  overtaken = or_passed (list_any (delivers_call r.first) r.added) (delivers_call r.first s) (list_any (delivers_call r.first) later) r.overtaken;
}

early_at : (whole : PastSteps) (later : List Step) (past : PastSteps) (place : ℕ × ℕ) → OneOf (λ p. p ≡ place) (early_from whole later past) → IsEarlyAt whole later past place
early_at whole later [] place h = absurd h
early_at whole later (s ∷ past) place h = at (is_early whole s later) refl h (early_at whole (s ∷ later) past place)
  where
    at : (b : Bool) → is_early whole s later ≡ b →
        OneOf (λ p. p ≡ place) (if b then (vat_of s, count_steps (λ t. vat_of t == vat_of s) past) ∷ early_from whole (s ∷ later) past else early_from whole (s ∷ later) past) →
        (OneOf (λ p. p ≡ place) (early_from whole (s ∷ later) past) → IsEarlyAt whole (s ∷ later) past place) → IsEarlyAt whole later (s ∷ past) place
    at true early (inl here) rest = early_now whole later s past place early here
    at true early (inr there) rest = early_past whole later s past place (rest there)
    at false early there rest = early_past whole later s past place (rest there)

one_if : {A : Type 0} (P : A → Type 0) (b : Bool) (x : A) (xs : List A) → b ≡ true → P x → OneOf P (if b then x ∷ xs else xs)
one_if P true x xs h p = inl p
one_if P false x xs h p = absurd (false≢true h)

one_of_rest : {A : Type 0} (P : A → Type 0) (b : Bool) (x : A) (xs : List A) → OneOf P xs → OneOf P (if b then x ∷ xs else xs)
one_of_rest P true x xs h = inr h
one_of_rest P false x xs h = h

early_there : (whole : PastSteps) (later : List Step) (added before : PastSteps) (v o : ℕ) (c first : Name) → is_made_before first c whole ≡ true →
    (list_any (delivers_call first) added || list_any (delivers_call first) later) ≡ true →
    OneOf (λ p. p ≡ (v, count_steps (λ s. vat_of s == v) before)) (early_from whole later (added ++ Deliver v c o ∷ before))
early_there whole later [] before v o c first made h =
    one_if _ (is_early whole (Deliver v c o) later) _ (early_from whole (Deliver v c o ∷ later) before) (overtaken whole c first later made h) refl
early_there whole later (s ∷ added) before v o c first made h =
    one_of_rest _ (is_early whole s later) _ (early_from whole (s ∷ later) (added ++ Deliver v c o ∷ before))
    (early_there whole (s ∷ later) added before v o c first made (or_passed_back (list_any (delivers_call first) added) (delivers_call first s) (list_any (delivers_call first) later) h))

-- ---- two calls made through one reference

record IsMadeBefore (c d : Name) (past : PastSteps) : Type 0 where
  pub vat : ℕ
  pub number : ℕ
  pub cap : Cap
  pub reference : ℕ
  pub interface : ℕ
  pub method : ℕ
  pub later : PastSteps
  pub before : PastSteps
  pub split : past ≡ later ++ Make vat number cap reference interface method ∷ before
  pub second : is_same_call (call vat number) d ≡ true
  pub first : list_any (makes_through vat reference c) before ≡ true

made_past : (c d : Name) (s : Step) (past : PastSteps) → IsMadeBefore c d past → IsMadeBefore c d (s ∷ past)
made_past c d s past r = record {
  vat = r.vat;
  number = r.number;
  cap = r.cap;
  reference = r.reference;
  interface = r.interface;
  method = r.method;
  later = s ∷ r.later;
  before = r.before;
  split = ap (λ l. s ∷ l) r.split;
  second = r.second;
  first = r.first;
}

made_at : (c d : Name) (past : PastSteps) → is_made_before c d past ≡ true → IsMadeBefore c d past
made_at c d [] h = absurd (false≢true h)
made_at c d (Make v n cap r i m ∷ past) h = elim (or_either (is_same_call (call v n) d && list_any (makes_through v r c) past) (is_made_before c d past) h) [
  | inl now ↦
      let parts = and_parts (is_same_call (call v n) d) (list_any (makes_through v r c) past) now in
      record { vat = v; number = n; cap = cap; reference = r; interface = i; method = m; later = []; before = past; split = refl; second = parts.0; first = parts.1 }
  | inr old ↦ made_past c d (Make v n cap r i m) past (made_at c d past old)
]
made_at c d (Host v o ∷ past) h = made_past c d (Host v o) past (made_at c d past h)
made_at c d (s ∷ past) h = made_past c d s past (made_at c d past h)

made_later : (c d : Name) (s : Step) (past : PastSteps) → is_made_before c d past ≡ true → is_made_before c d (s ∷ past) ≡ true
made_later c d (Make v n cap r i m) past h = or_right (is_same_call (call v n) d && list_any (makes_through v r c) past) (is_made_before c d past) h
made_later c d (Host v o) past h = h
made_later c d s past h = h

made_there : (c d : Name) (later before : PastSteps) (v n : ℕ) (cap : Cap) (r i m : ℕ) → is_same_call (call v n) d ≡ true → list_any (makes_through v r c) before ≡ true →
    is_made_before c d (later ++ Make v n cap r i m ∷ before) ≡ true
made_there c d [] before v n cap r i m second first =
    or_left (is_same_call (call v n) d && list_any (makes_through v r c) before) (is_made_before c d before) (and_from (is_same_call (call v n) d) (list_any (makes_through v r c) before) second first)
made_there c d (s ∷ later) before v n cap r i m second first = made_later c d s (later ++ Make v n cap r i m ∷ before) (made_there c d later before v n cap r i m second first)

own_make : (v r : ℕ) (c : Name) (s : Step) → makes_through v r c s ≡ true → vat_of s ≡ v
own_make v r c (Make w n a reference i m) h = eqb-true w v (and_parts (w == v) (reference == r) (and_parts ((w == v) && (reference == r)) (is_same_call (call w n) c) h).0).0
own_make v r c (Host w o) h = absurd (false≢true h)
own_make v r c _ h = absurd (false≢true h)

-- what was made before is so in each order of the same steps
module _ (c d : Name) (a b : PastSteps) (same : (v : ℕ) → steps_of v a ≡ steps_of v b) where
  abbrev IsAt : IsMadeBefore c d a → Type 0
  IsAt r = IsAmong r.vat b (steps_of r.vat r.later) (steps_of r.vat r.before) (Make r.vat r.number r.cap r.reference r.interface r.method)

  made_among : (r : IsMadeBefore c d a) → IsAt r
  made_among r =
      among r.vat b (steps_of r.vat r.later) (steps_of r.vat r.before) (Make r.vat r.number r.cap r.reference r.interface r.method)
      (sym (same r.vat) ∙ ap (steps_of r.vat) r.split ∙ own_steps r.vat r.later r.before (Make r.vat r.number r.cap r.reference r.interface r.method) refl)

  first_there : (r : IsMadeBefore c d a) (p : IsAt r) → list_any (makes_through r.vat r.reference c) p.before ≡ true
  first_there r p =
      any_of_all r.vat (makes_through r.vat r.reference c) p.before
      (subst (λ l. list_any (makes_through r.vat r.reference c) l ≡ true) (sym p.own_before)
      (any_of_own r.vat (makes_through r.vat r.reference c) (own_make r.vat r.reference c) r.before r.first))

  made_so : (r : IsMadeBefore c d a) → IsAt r → is_made_before c d b ≡ true
  made_so r p =
      subst (λ l. is_made_before c d l ≡ true) (sym p.split)
      (made_there c d p.later p.before r.vat r.number r.cap r.reference r.interface r.method r.second (first_there r p))

  made_too : is_made_before c d a ≡ true → is_made_before c d b ≡ true
  made_too h = let r = made_at c d a h in made_so r (made_among r)

-- ---- both are delivered at one vat

-- a step makes the call through this cap
abbrev Makes : Name → Cap → Step → Type 0
Makes c a (Make w number cap reference interface method) = (call w number ≡ c) × (cap ≡ a)
Makes c a _ = ⊥

one_of_later : {A : Type 0} (P : A → Type 0) (front xs : List A) → OneOf P xs → OneOf P (front ++ xs)
one_of_later P [] xs h = h
one_of_later P (x ∷ front) xs h = inr (one_of_later P front xs h)

begun_by : (c : Name) (a : Cap) (s : Step) → Makes c a s → begins_call c s ≡ true
begun_by c a (Make w n cap r i m) h = subst (λ x. is_same_call (call w n) x ≡ true) h.0 (same_to_itself (call w n))
begun_by c a (Host w o) h = absurd h
begun_by c a _ h = absurd h

begun_in : (c : Name) (a : Cap) (past : PastSteps) → OneOf (Makes c a) past → list_any (begins_call c) past ≡ true
begun_in c a [] h = absurd h
begun_in c a (s ∷ past) (inl now) = or_left (begins_call c s) (list_any (begins_call c) past) (begun_by c a s now)
begun_in c a (s ∷ past) (inr old) = or_right (begins_call c s) (list_any (begins_call c) past) (begun_in c a past old)

by_one : (c : Name) (a b : Cap) (s : Step) → Makes c a s → Makes c b s → a ≡ b
by_one c a b (Make w n cap r i m) h k = sym h.1 ∙ k.1
by_one c a b (Host w o) h k = absurd h
by_one c a b _ h k = absurd h

made_through_one : (past : PastSteps) → EachStep IsLegal past → (c : Name) (a b : Cap) → OneOf (Makes c a) past → OneOf (Makes c b) past → a ≡ b
made_through_one [] legal c a b h k = absurd h
made_through_one (s ∷ past) legal c a b (inl h) (inl k) = by_one c a b s h k
made_through_one (s ∷ past) legal c a b (inl h) (inr k) = absurd (clash (begun_in c b past k) (begun_once c past s legal.0 (begun_by c a s h)))
made_through_one (s ∷ past) legal c a b (inr h) (inl k) = absurd (clash (begun_in c a past h) (begun_once c past s legal.0 (begun_by c b s k)))
made_through_one (s ∷ past) legal c a b (inr h) (inr k) = made_through_one past legal.1 c a b h k

-- the cap through which a call was made
abbrev MadeTo : Name → PastSteps → (Cap → Type 0) → Type 0
MadeTo c past P = (a : Cap) × OneOf (Makes c a) past × P a

makes_it : (c : Name) (s : Step) (asked : Asked) → request_in_make c s ≡ Some asked → Makes c asked.goal s
makes_it c (Make v n cap r i m) asked h = at (is_same_call (call v n) c) refl h
  where
    at : (b : Bool) → is_same_call (call v n) c ≡ b → (if b then Some (asked_by_parts cap i m) else None) ≡ Some asked → Makes c asked.goal (Make v n cap r i m)
    at true same h = let it : asked_by_parts cap i m ≡ asked = cc in (names_same (call v n) c same, ap (λ x. x.goal) it)
    at false same h = absurd (let no : ⊥ = cc in no)
makes_it c (Host v o) asked h = absurd (let no : ⊥ = cc in no)
makes_it c _ asked h = absurd (let no : ⊥ = cc in no)

made_to : (c : Name) (past : PastSteps) (P : Cap → Type 0) → IsSomeAnd (last_step_answer (request_in_make c) past) (λ asked. P asked.goal) → MadeTo c past P
made_to c [] P h = absurd h
made_to c (s ∷ past) P h = at (request_in_make c s) refl h (made_to c past P)
  where
    at : (o : Option Asked) → request_in_make c s ≡ o → IsSomeAnd (option_or o (last_step_answer (request_in_make c) past)) (λ asked. P asked.goal) →
        (IsSomeAnd (last_step_answer (request_in_make c) past) (λ asked. P asked.goal) → MadeTo c past P) → MadeTo c (s ∷ past) P
    at (Some asked) now h rest = (asked.goal, inl (makes_it c s asked now), h)
    at None now h rest = let r = rest h in (r.0, inr r.1, r.2)

each_there : (P : PastSteps → Step → Type 0) (later before : PastSteps) (s : Step) → EachStep P (later ++ s ∷ before) → P before s
each_there P [] before s h = h.0
each_there P (t ∷ later) before s h = each_there P later before s h.1

-- the cap through which a delivered call was made leads to its object
led : (past : PastSteps) → EachStep IsLegal past → EachStep IsLinked past → (later before : PastSteps) (v o : ℕ) (c : Name) → past ≡ later ++ Deliver v c o ∷ before →
    MadeTo c past (λ a. Leads past a (Object v o))
led past legal linked later before v o c split =
    let reached = each_there ReachesObject later before (Deliver v c o) (subst (EachStep ReachesObject) split (each_reaches_object past legal linked)) in
    let r = made_to c before (λ a. Leads before a (Object v o)) reached.1 in
    subst (λ l. MadeTo c l (λ a. Leads l a (Object v o))) (sym split) (
      r.0,
      one_of_later (Makes c r.0) later (Deliver v c o ∷ before) (inr r.1),
      leads_grow later (Deliver v c o ∷ before) r.0 (Object v o) (leads_grow (Deliver v c o ∷ []) before r.0 (Object v o) r.2),
    )

-- the cap of a call that was made through a reference
abbrev MadeThrough : ℕ → ℕ → Name → PastSteps → Type 0
MadeThrough v r c past = (a : Cap) × OneOf (MakesThrough v r a) past × OneOf (Makes c a) past

through_now : (v r : ℕ) (c : Name) (s : Step) (past : PastSteps) → makes_through v r c s ≡ true → MadeThrough v r c (s ∷ past)
through_now v r c (Make w n a reference i m) past h =
    let parts = and_parts ((w == v) && (reference == r)) (is_same_call (call w n) c) h in
    let by = and_parts (w == v) (reference == r) parts.0 in
    (a, inl (eqb-true w v by.0, eqb-true reference r by.1, refl), inl (names_same (call w n) c parts.1, refl))
through_now v r c (Host w o) past h = absurd (false≢true h)
through_now v r c _ past h = absurd (false≢true h)

through : (v r : ℕ) (c : Name) (past : PastSteps) → list_any (makes_through v r c) past ≡ true → MadeThrough v r c past
through v r c [] h = absurd (false≢true h)
through v r c (s ∷ past) h = elim (or_either (makes_through v r c s) (list_any (makes_through v r c) past) h) [
  | inl now ↦ through_now v r c s past now
  | inr old ↦ let t = through v r c past old in (t.0, inr t.1, inr t.2)
]

one_cap_at : (past : PastSteps) → EachStep IsLegal past → KeepsReferences past → (c d : Name) (a b : Cap) (r : IsMadeBefore c d past) → MadeThrough r.vat r.reference c r.before → OneOf (Makes c a) past →
    OneOf (Makes d b) past → a ≡ b
one_cap_at past legal keeps c d a b r t is_a is_b =
    made_through_one past legal c a t.0 is_a (there (Makes c t.0) (inr t.2)) ∙ same
    ∙ made_through_one past legal d r.cap b (there (Makes d r.cap) (inl (names_same (call r.vat r.number) d r.second, refl))) is_b
  where
    there : (P : Step → Type 0) → OneOf P (Make r.vat r.number r.cap r.reference r.interface r.method ∷ r.before) → OneOf P past
    there P one = subst (OneOf P) (sym r.split) (one_of_later P r.later (Make r.vat r.number r.cap r.reference r.interface r.method ∷ r.before) one)

    same : t.0 ≡ r.cap
    same = keeps r.vat r.reference t.0 r.cap (there (MakesThrough r.vat r.reference t.0) (inr t.1)) (there (MakesThrough r.vat r.reference r.cap) (inl (refl, refl, refl)))

one_cap : (past : PastSteps) → EachStep IsLegal past → KeepsReferences past → (c d : Name) (a b : Cap) → is_made_before c d past ≡ true → OneOf (Makes c a) past → OneOf (Makes d b) past → a ≡ b
one_cap past legal keeps c d a b h = let r = made_at c d past h in one_cap_at past legal keeps c d a b r (through r.vat r.reference c r.before r.first)

one_vat : (past : PastSteps) → EachStep IsLegal past → EachStep IsLinked past → KeepsReferences past → (c d : Name) (later earlier later_d before : PastSteps) (v o w p : ℕ) → is_made_before d c past ≡ true →
    past ≡ later ++ Deliver v c o ∷ earlier → past ≡ later_d ++ Deliver w d p ∷ before → w ≡ v
one_vat past legal linked keeps c d later earlier later_d before v o w p h at_c at_d =
    let one = led past legal linked later earlier v o c at_c in
    let other = led past legal linked later_d before w p d at_d in
    let same : other.0 ≡ one.0 = one_cap past legal keeps d c other.0 one.0 h other.1 one.1 in
    (leads_to_one_object past legal one.0 w p v o (subst (λ a. Leads past a (Object w p)) same other.2) one.2).0

-- ---- the same steps are early

append_three : (x y z : PastSteps) → (x ++ y) ++ z ≡ x ++ (y ++ z)
append_three [] y z = refl
append_three (s ∷ x) y z = ap (λ l. s ∷ l) (append_three x y z)

module _ (a b : PastSteps) (legal : EachStep IsLegal a) (linked : EachStep IsLinked a) (keeps : KeepsReferences a) (same : (v : ℕ) → steps_of v a ≡ steps_of v b) (place : ℕ × ℕ) where
  abbrev IsEarlyIn : IsEarlyAt a [] a place → Type 0
  IsEarlyIn r = IsAmong r.vat b (steps_of r.vat r.added) (steps_of r.vat r.before) (Deliver r.vat r.call r.object)

  early_among : (r : IsEarlyAt a [] a place) → IsEarlyIn r
  early_among r =
      among r.vat b (steps_of r.vat r.added) (steps_of r.vat r.before) (Deliver r.vat r.call r.object)
      (sym (same r.vat) ∙ ap (steps_of r.vat) r.split ∙ own_steps r.vat r.added r.before (Deliver r.vat r.call r.object) refl)

  -- the first of the calls was delivered by the same vat
  first_is_own : (r : IsEarlyAt a [] a place) → IsDelivered r.first r.added → list_any (delivers_call r.first) (steps_of r.vat r.added) ≡ true
  first_is_own r d =
      subst (λ l. list_any (delivers_call r.first) l ≡ true) (sym (ap (steps_of r.vat) d.split ∙ own_steps r.vat d.later d.before (Deliver d.vat r.first d.object) here))
      (any_there (delivers_call r.first) (steps_of r.vat d.later) (steps_of r.vat d.before) (Deliver d.vat r.first d.object) (same_to_itself r.first))
    where
      split : a ≡ d.later ++ Deliver d.vat r.first d.object ∷ (d.before ++ Deliver r.vat r.call r.object ∷ r.before)
      split =
          r.split ∙ ap (λ l. l ++ Deliver r.vat r.call r.object ∷ r.before) d.split
          ∙ append_three d.later (Deliver d.vat r.first d.object ∷ d.before) (Deliver r.vat r.call r.object ∷ r.before)

      here : d.vat ≡ r.vat
      here = one_vat a legal linked keeps r.call r.first r.added r.before d.later (d.before ++ Deliver r.vat r.call r.object ∷ r.before) r.vat r.object d.vat d.object r.made r.split split

  overtaking : (x : Bool) → (x || false) ≡ true → x ≡ true
  overtaking true h = refl
  overtaking false h = h

  early_so : (r : IsEarlyAt a [] a place) → IsEarlyIn r → list_any (delivers_call r.first) (steps_of r.vat r.added) ≡ true → OneOf (λ p. p ≡ place) (early_from b [] b)
  early_so r p own =
      subst (λ q. OneOf (λ p. p ≡ q) (early_from b [] b)) (ap (λ n. (r.vat, n)) number ∙ r.at_place)
      (subst (λ l. OneOf (λ q. q ≡ (r.vat, count_steps (λ s. vat_of s == r.vat) p.before)) (early_from b [] l)) (sym p.split)
      (early_there b [] p.later p.before r.vat r.object r.call r.first (made_too r.first r.call a b same r.made) (or_left (list_any (delivers_call r.first) p.later) false overtaken_there)))
    where
      number : count_steps (λ s. vat_of s == r.vat) p.before ≡ count_steps (λ s. vat_of s == r.vat) r.before
      number = counted r.vat p.before ∙ ap length p.own_before ∙ sym (counted r.vat r.before)

      overtaken_there : list_any (delivers_call r.first) p.later ≡ true
      overtaken_there = any_of_all r.vat (delivers_call r.first) p.later (subst (λ l. list_any (delivers_call r.first) l ≡ true) (sym p.own_later) own)

  early_in_past : OneOf (λ p. p ≡ place) (early_from a [] a) → OneOf (λ p. p ≡ place) (early_from b [] b)
  early_in_past h =
      let r = early_at a [] a place h in
      early_so r (early_among r) (first_is_own r (delivered r.first r.added (overtaking (list_any (delivers_call r.first) r.added) r.overtaken)))

-- ---- so of runs

one_of_split : {A : Type 0} (P : A → Type 0) (xs ys : List A) → OneOf P (xs ++ ys) → OneOf P xs ⊎ OneOf P ys
one_of_split P [] ys h = inr h
one_of_split P (x ∷ xs) ys (inl h) = inl (inl h)
one_of_split P (x ∷ xs) ys (inr h) = at (one_of_split P xs ys h)
  where
    at : OneOf P xs ⊎ OneOf P ys → OneOf P (x ∷ xs) ⊎ OneOf P ys
    at (inl h) = inl (inr h)
    at (inr h) = inr h

one_of_turned : {A : Type 0} (P : A → Type 0) (xs : List A) → OneOf P (reverse xs) → OneOf P xs
one_of_turned P [] h = h
one_of_turned P (x ∷ xs) h = at (one_of_split P (reverse xs) (x ∷ []) (subst (OneOf P) (reverse-append (x ∷ []) xs) h)) (one_of_turned P xs)
  where
    at : OneOf P (reverse xs) ⊎ OneOf P (x ∷ []) → (OneOf P (reverse xs) → OneOf P xs) → OneOf P (x ∷ xs)
    at (inl h) rest = inr (rest h)
    at (inr (inl h)) rest = inl h
    at (inr (inr h)) rest = absurd h

pub one_of_own : (v : ℕ) (P : Step → Type 0) → ((s : Step) → P s → vat_of s ≡ v) → (past : PastSteps) → OneOf P past → OneOf P (steps_of v past)
one_of_own v P own [] h = h
one_of_own v P own (s ∷ past) (inl h) = subst (OneOf P) (sym (own_step v s past (own s h))) (inl h)
one_of_own v P own (s ∷ past) (inr h) = one_of_rest P (vat_of s == v) s (steps_of v past) (one_of_own v P own past h)

one_of_all : (v : ℕ) (P : Step → Type 0) (past : PastSteps) → OneOf P (steps_of v past) → OneOf P past
one_of_all v P [] h = h
one_of_all v P (s ∷ past) h = at (vat_of s == v) h (one_of_all v P past)
  where
    at : (b : Bool) → OneOf P (if b then s ∷ steps_of v past else steps_of v past) → (OneOf P (steps_of v past) → OneOf P past) → OneOf P (s ∷ past)
    at true (inl h) rest = inl h
    at true (inr h) rest = inr (rest h)
    at false h rest = inr (rest h)

pub own_through : (v r : ℕ) (a : Cap) (s : Step) → MakesThrough v r a s → vat_of s ≡ v
own_through v r a (Make w n b reference i m) h = h.0
own_through v r a (Host w o) h = absurd h
own_through v r a _ h = absurd h

keeps_too : (run other : List Step) → HaveSameSteps run other → KeepsReferences run → KeepsReferences other
keeps_too run other same keeps v r a b h k = keeps v r a b (back a h) (back b k)
  where
    back : (c : Cap) → OneOf (MakesThrough v r c) other → OneOf (MakesThrough v r c) run
    back c h = one_of_all v (MakesThrough v r c) run (subst (OneOf (MakesThrough v r c)) (sym (same v)) (one_of_own v (MakesThrough v r c) (own_through v r c) other h))

pub keeps_turned : (run : List Step) → KeepsReferences run → KeepsReferences (reverse run)
keeps_turned run keeps v r a b h k = keeps v r a b (one_of_turned (MakesThrough v r a) run h) (one_of_turned (MakesThrough v r b) run k)

pub same_early : (run other : List Step) → IsLegalRun run → IsLinkedRun run → KeepsReferences run → HaveSameSteps run other → (place : ℕ × ℕ) → OneOf (λ p. p ≡ place) (early run) →
    OneOf (λ p. p ≡ place) (early other)
same_early run other legal linked keeps same place =
    early_in_past (reverse run) (reverse other) legal linked (keeps_turned run keeps) (λ v. steps_turned v run ∙ ap reverse (same v) ∙ sym (steps_turned v other)) place

all_of : {A : Type 0} (P : A → Type 0) (xs : List A) → ((x : A) → OneOf (λ y. y ≡ x) xs → P x) → AllByRecursion P xs
all_of P [] h = tt
all_of P (x ∷ xs) h = (h x (inl refl), all_of P xs (λ y there. h y (inr there)))

all_at : {A : Type 0} (P : A → Type 0) (xs : List A) → AllByRecursion P xs → (x : A) → OneOf (λ y. y ≡ x) xs → P x
all_at P [] all x h = absurd h
all_at P (y ∷ xs) all x (inl h) = subst P h all.0
all_at P (y ∷ xs) all x (inr h) = all_at P xs all.1 x h

none_left : {A : Type 0} (xs : List A) → ((x : A) → OneOf (λ y. y ≡ x) xs → ⊥) → xs ≡ []
none_left [] none = refl
none_left (x ∷ xs) none = absurd (none x (inl refl))

not_of_none : {A : Type 0} (P : A → Type 0) (xs : List A) → xs ≡ [] → OneOf P xs → ⊥
not_of_none P xs none h = subst (OneOf P) none h

pub same_fault : (run other : List Step) → IsLegalRun run → IsLinkedRun run → IsLegalRun other → IsLinkedRun other → KeepsReferences run → HaveSameSteps run other → (place : Option (ℕ × ℕ)) →
    IsOrderFault run place → IsOrderFault other place
same_fault run other legal linked legal_too linked_too keeps same = at
  where
    back : (place : ℕ × ℕ) → OneOf (λ p. p ≡ place) (early other) → OneOf (λ p. p ≡ place) (early run)
    back = same_early other run legal_too linked_too (keeps_too run other same keeps) (λ v. sym (same v))

    at : (place : Option (ℕ × ℕ)) → IsOrderFault run place → IsOrderFault other place
    at None ordered =
        (ordered_unless_early other).0 (none_left (early other) (λ place h. not_of_none (λ p. p ≡ place) (early run) ((ordered_unless_early run).1 ordered) (back place h)))
    at (Some place) fault = (
      same_early run other legal linked keeps same place fault.0,
      all_of (IsAtMost place) (early other) (λ p h. all_at (IsAtMost place) (early run) fault.1 p (back p h)),
    )

-- ---- a run has one fault

at_one_place : (a b : ℕ × ℕ) → IsAtMost a b → IsAtMost b a → a ≡ b
at_one_place a b (inl h) (inl k) = absurd (omega (arith, h, k))
at_one_place a b (inl h) (inr k) = absurd (omega (arith, h, k.0))
at_one_place a b (inr h) (inl k) = absurd (omega (arith, h.0, k))
at_one_place a b (inr h) (inr k) = let low = h.1 in let high = k.1 in let number : a.1 ≡ b.1 = omega (arith, low, high) in ap₂ (λ x y. (x, y)) h.0 number

pub one_fault : (run : List Step) (a b : Option (ℕ × ℕ)) → IsOrderFault run a → IsOrderFault run b → a ≡ b
one_fault run None None h k = refl
one_fault run None (Some b) h k = absurd (not_of_none (λ p. p ≡ b) (early run) ((ordered_unless_early run).1 h) k.0)
one_fault run (Some a) None h k = absurd (not_of_none (λ p. p ≡ a) (early run) ((ordered_unless_early run).1 k) h.0)
one_fault run (Some a) (Some b) h k =
    ap (λ p. Some p) (at_one_place a b (all_at (IsAtMost a) (early run) h.1 b k.0) (all_at (IsAtMost b) (early run) k.1 a h.0))

-- ---- the same edges

pub same_edges : (run other : List Step) → HaveSameSteps run other → (edges : List Edge) → AreEdges run edges → AreEdges other edges
same_edges run other same edges are = record {
  exact = λ e. ((λ there. witness run other same e ((are.exact e).0 there)), (λ w. (are.exact e).1 (witness other run (λ v. sym (same v)) e w)));
  ordered = are.ordered;
}
  where
    bound : (one two : List Step) → HaveSameSteps one two → (v : ℕ) (c : Cap) (i place : ℕ) → IsBound one v c i place → IsBound two v c i place
    bound one two same v c i place b =
        record { connection = b.connection; message = b.message; bound = b.bound; step = ap (λ l. slice_get l i) (sym (same v)) ∙ b.step; cap_bound = b.cap_bound }

    witness : (one two : List Step) → HaveSameSteps one two → (e : Edge) → IsWitness one e.vat e.cap e.at_record e.bound_index → IsWitness two e.vat e.cap e.at_record e.bound_index
    witness one two same e w = record {
      foreign = w.foreign;
      bound = bound one two same e.vat e.cap e.at_record e.bound_index w.bound;
      first = λ j place earlier b. w.first j place earlier (bound two one (λ v. sym (same v)) e.vat e.cap j place b);
    }

-- ---- a run has one list of edges

module _ {A : Type 0} (R : A → A → Type 0) (one_way : (x y : A) → R x y → R y x → ⊥) where
  pairs_of_rest : (x : A) (xs : List A) → AllPairs R (x ∷ xs) → AllPairs R xs
  pairs_of_rest x xs pairs i j d less within = pairs (suc i) (suc j) d (omega (arith, less)) (omega (arith, within))

  first_of_pairs : (x y : A) (xs : List A) → AllPairs R (x ∷ xs) → Contains xs y → R x y
  first_of_pairs x y xs pairs there = subst (λ z. R x z) there.2 (pairs 0 (suc there.0) y (omega arith) (omega (arith, there.1)))

  in_rest : (x y : A) (xs : List A) → Contains (x ∷ xs) y → (x ≡ y) ⊎ Contains xs y
  in_rest x y xs (zero, less, same) = inl same
  in_rest x y xs (suc i, less, same) = inr (i, omega (arith, less), same)

  in_longer : (x y : A) (xs : List A) → Contains xs y → Contains (x ∷ xs) y
  in_longer x y xs there = (suc there.0, omega (arith, there.1), there.2)

  nothing_in : (x : A) → Contains [] x → ⊥
  nothing_in x there = let less = there.1 in omega (arith, less)

  one_first : (x y : A) (xs ys : List A) → AllPairs R (x ∷ xs) → AllPairs R (y ∷ ys) → (y ≡ x) ⊎ Contains ys x → (x ≡ y) ⊎ Contains xs y → x ≡ y
  one_first x y xs ys pairs pairs_too (inl same) at_y = sym same
  one_first x y xs ys pairs pairs_too (inr x_there) (inl same) = same
  one_first x y xs ys pairs pairs_too (inr x_there) (inr y_there) = absurd (one_way x y (first_of_pairs x y xs pairs y_there) (first_of_pairs y x ys pairs_too x_there))

  -- what stands in a list whose first is the first of another stands in the rest of the other
  rest_in_rest : (x y z : A) (xs ys : List A) → x ≡ y → AllPairs R (x ∷ xs) → Contains xs z → (y ≡ z) ⊎ Contains ys z → Contains ys z
  rest_in_rest x y z xs ys same pairs there (inl first) =
      let again : R z z = subst (λ w. R w z) (same ∙ first) (first_of_pairs x z xs pairs there) in absurd (one_way z z again again)
  rest_in_rest x y z xs ys same pairs there (inr later) = later

  pub one_list : (xs ys : List A) → AllPairs R xs → AllPairs R ys → ((x : A) → Contains xs x → Contains ys x) → ((x : A) → Contains ys x → Contains xs x) → xs ≡ ys
  one_list [] [] pairs pairs_too to back = refl
  one_list [] (y ∷ ys) pairs pairs_too to back = absurd (nothing_in y (back y (0, omega arith, refl)))
  one_list (x ∷ xs) [] pairs pairs_too to back = absurd (nothing_in x (to x (0, omega arith, refl)))
  one_list (x ∷ xs) (y ∷ ys) pairs pairs_too to back =
      let same : x ≡ y = one_first x y xs ys pairs pairs_too (in_rest y x ys (to x (0, omega arith, refl))) (in_rest x y xs (back y (0, omega arith, refl))) in
      ap₂ (λ z zs. z ∷ zs) same
      (one_list xs ys (pairs_of_rest x xs pairs) (pairs_of_rest y ys pairs_too)
      (λ z there. rest_in_rest x y z xs ys same pairs there (in_rest y z ys (to z (in_longer x z xs there))))
      (λ z there. rest_in_rest y x z ys xs (sym same) pairs_too there (in_rest x z xs (back z (in_longer y z ys there)))))

earlier_one_way : (i p j q : ℕ) → IsEarlier i p j q → IsEarlier j q i p → ⊥
earlier_one_way i p j q (inl h) (inl k) = omega (arith, h, k)
earlier_one_way i p j q (inl h) (inr k) = omega (arith, h, k.0)
earlier_one_way i p j q (inr h) (inl k) = omega (arith, h.0, k)
earlier_one_way i p j q (inr h) (inr k) = let low = h.1 in let high = k.1 in omega (arith, low, high)

before_one_way : (e f : Edge) → IsBefore e f → IsBefore f e → ⊥
before_one_way e f (inl h) (inl k) = omega (arith, h, k)
before_one_way e f (inl h) (inr k) = omega (arith, h, k.0)
before_one_way e f (inr h) (inl k) = omega (arith, h.0, k)
before_one_way e f (inr h) (inr k) = earlier_one_way e.at_record e.bound_index f.at_record f.bound_index h.1 k.1

pub one_graph : (run : List Step) (edges others : List Edge) → AreEdges run edges → AreEdges run others → edges ≡ others
one_graph run edges others are are_too =
    one_list IsBefore before_one_way edges others are.ordered are_too.ordered (λ e there. (are_too.exact e).1 ((are.exact e).0 there)) (λ e there. (are.exact e).1 ((are_too.exact e).0 there))
