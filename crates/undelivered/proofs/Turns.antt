-- Calls and their turns: of calls that are made and delivered once, each has one turn and each turn one call.
use Rattle.std.proofs.Common.{◌≡◌, ℕ, ◌<◌, ◌≤◌, Bool, true, false, eqb, ltb, [], ◌∷◌, length, Option, Some, None, refl, sym, ap, subst, ◌∙◌, arith, inl, inr}
use Rattle.std.specs.Prelude.{◌&&◌, ◌||◌}
use Rattle.std.specs.List.{list_any}
use Rattle.std.proofs.lemmas.Bool.{eqb-true, eq-eqb, lt-ltb, le-ltb}
use Rattle.undelivered.specs.Glue.{turn_of, call_made_at, is_behind}
use Rattle.undelivered.specs.Order.{PastCalls, AreOnce, makes, tells_making_through, tells_delivery, is_made_earlier}
use Rattle.undelivered.specs.declared.moment.Moment.TheVariants.{Made, Delivered}
use Rattle.undelivered.proofs.Places.{split}

abbrev pub some_turn : ℕ → ℕ → Option (ℕ × ℕ)
some_turn r t = Some (r, t)

abbrev turned : ℕ × ℕ → Option (ℕ × ℕ)
turned x = Some x

same_turn : (x y : ℕ × ℕ) → turned x ≡ turned y → x ≡ y
same_turn x y e = cc

pub turn_first : (q s r t : ℕ) → some_turn q s ≡ some_turn r t → q ≡ r
turn_first q s r t e = ap (λ (p : ℕ × ℕ). p.0) (same_turn (q, s) (r, t) e)

pub turn_second : (q s r t : ℕ) → some_turn q s ≡ some_turn r t → s ≡ t
turn_second q s r t e = ap (λ (p : ℕ × ℕ). p.1) (same_turn (q, s) (r, t) e)

abbrev some_call : ℕ → Option ℕ
some_call c = Some c

apart : (n c : ℕ) → (n ≡ c → ⊥) → eqb n c ≡ false
apart n c ne =
    elim (split (eqb n c)) [
      | inl h ↦ absurd (ne (eqb-true n c h))
      | inr h ↦ h
    ]

pub same_number : (n : ℕ) → eqb n n ≡ true
same_number n = eq-eqb n n refl

clash : (b : Bool) → b ≡ true → b ≡ false → ⊥
clash b h k = cc

-- a test of two that fails: both of them
or_false_first : (b c : Bool) → (b || c) ≡ false → b ≡ false
or_false_first true c h = absurd cc
or_false_first false c h = refl

or_false_second : (b c : Bool) → (b || c) ≡ false → c ≡ false
or_false_second true c h = absurd cc
or_false_second false c h = h

-- what was made before another is made, is not it
pub other_than_new : (n c : ℕ) (before : PastCalls) → list_any (makes n) before ≡ false → list_any (makes c) before ≡ true → eqb n c ≡ false
other_than_new n c before new old = apart n c (λ same. clash (list_any (makes n) before) (subst (λ (m : ℕ). list_any (makes m) before ≡ true) (sym same) old) new)

pub no_turn : (c : ℕ) (past : PastCalls) → list_any (makes c) past ≡ false → turn_of c past ≡ None
no_turn c [] h = refl
no_turn c (Made n r ∷ before) h =
    let here : eqb n c ≡ false = or_false_first (eqb n c) (list_any (makes c) before) h in
    rw here (no_turn c before (or_false_second (eqb n c) (list_any (makes c) before) h))
no_turn c (Delivered n p ∷ before) h = no_turn c before h

pub has_turn : (c : ℕ) (past : PastCalls) → list_any (makes c) past ≡ true → (r : ℕ) × (t : ℕ) × (turn_of c past ≡ Some (r, t))
has_turn c [] h = absurd cc
has_turn c (Made n r ∷ before) h =
    elim (split (eqb n c)) [
      | inl k ↦ (r, length before, rw k refl)
      | inr k ↦ let rest = has_turn c before (rw k at h) in (rest.0, rest.1, rw k rest.2)
    ]
has_turn c (Delivered n p ∷ before) h = has_turn c before h

pub turn_below : (c : ℕ) (past : PastCalls) (r t : ℕ) → turn_of c past ≡ Some (r, t) → t < length past
turn_below c [] r t e = absurd cc
turn_below c (Made n q ∷ before) r t e =
    elim (split (eqb n c)) [
      | inl k ↦ let here : some_turn q (length before) ≡ some_turn r t = rw k at e in let same : length before ≡ t = turn_second q (length before) r t here in omega arith
      | inr k ↦ let below = turn_below c before r t (rw k at e) in omega arith
    ]
turn_below c (Delivered n p ∷ before) r t e = let below = turn_below c before r t e in omega arith

-- it is the call that is made here, or one that was made before
abbrev is_here : ℕ → ℕ → ℕ → ℕ → Bool
is_here q r at t = eqb q r && eqb at t

here_means : (q r at t : ℕ) → is_here q r at t ≡ true → (q ≡ r) × (at ≡ t)
here_means q r at t h =
    elim (split (eqb q r)) [
      | inl k ↦ (eqb-true q r k, eqb-true at t (rw k at h))
      | inr k ↦ absurd (let none : false ≡ true = rw k at h in cc)
    ]

here_is : (q r at t : ℕ) → q ≡ r → at ≡ t → is_here q r at t ≡ true
here_is q r at t e f =
    let k : eqb q r ≡ true = eq-eqb q r e in
    let l : eqb at t ≡ true = eq-eqb at t f in
    rw (k, l) refl

not_here : (q r at t : ℕ) → t < at → is_here q r at t ≡ false
not_here q r at t lt =
    let l : eqb at t ≡ false = apart at t (λ same. omega arith) in
    elim (split (eqb q r)) [
      | inl k ↦ rw (k, l) refl
      | inr k ↦ rw k refl
    ]

pub call_below : (r t : ℕ) (past : PastCalls) (c : ℕ) → call_made_at r t past ≡ Some c → t < length past
call_below r t [] c e = absurd cc
call_below r t (Made n q ∷ before) c e =
    elim (split (is_here q r (length before) t)) [
      | inl k ↦ let at : length before ≡ t = (here_means q r (length before) t k).1 in omega arith
      | inr k ↦ let below = call_below r t before c (rw k at e) in omega arith
    ]
call_below r t (Delivered n p ∷ before) c e = let below = call_below r t before c e in omega arith

pub call_is_made : (r t : ℕ) (past : PastCalls) (c : ℕ) → call_made_at r t past ≡ Some c → list_any (makes c) past ≡ true
call_is_made r t [] c e = absurd cc
call_is_made r t (Made n q ∷ before) c e =
    elim (split (is_here q r (length before) t)) [
      | inl k ↦ let here : some_call n ≡ some_call c = rw k at e in let same : n ≡ c = cc here in let l : eqb n c ≡ true = eq-eqb n c same in rw l refl
      | inr k ↦
          let rest = call_is_made r t before c (rw k at e) in
          elim (split (eqb n c)) [
            | inl l ↦ rw l refl
            | inr l ↦ rw (l, rest) refl
          ]
    ]
call_is_made r t (Delivered n p ∷ before) c e = call_is_made r t before c e

pub call_of_turn : (c : ℕ) (past : PastCalls) (r t : ℕ) → turn_of c past ≡ Some (r, t) → call_made_at r t past ≡ Some c
call_of_turn c [] r t e = absurd cc
call_of_turn c (Made n q ∷ before) r t e =
    elim (split (eqb n c)) [
      | inl k ↦
          let here : some_turn q (length before) ≡ some_turn r t = rw k at e in
          let l = here_is q r (length before) t (turn_first q (length before) r t here) (turn_second q (length before) r t here) in
          rw l (ap some_call (eqb-true n c k))
      | inr k ↦
          let old : turn_of c before ≡ Some (r, t) = rw k at e in
          let l = not_here q r (length before) t (turn_below c before r t old) in
          rw l (call_of_turn c before r t old)
    ]
call_of_turn c (Delivered n p ∷ before) r t e = call_of_turn c before r t e

pair_turn : (q s r t : ℕ) → q ≡ r → s ≡ t → some_turn q s ≡ some_turn r t
pair_turn q s r t e f = cc

pub turn_of_call : (r t : ℕ) (past : PastCalls) (c : ℕ) → AreOnce past → call_made_at r t past ≡ Some c → turn_of c past ≡ Some (r, t)
turn_of_call r t [] c once e = absurd cc
turn_of_call r t (Made n q ∷ before) c once e =
    elim (split (is_here q r (length before) t)) [
      | inl k ↦
          let here : some_call n ≡ some_call c = rw k at e in
          let same : eqb n c ≡ true = eq-eqb n c (cc here) in
          let place = here_means q r (length before) t k in
          rw same (pair_turn q (length before) r t place.0 place.1)
      | inr k ↦
          let old : call_made_at r t before ≡ Some c = rw k at e in
          let l = other_than_new n c before once.0 (call_is_made r t before c old) in
          rw l (turn_of_call r t before c once.1 old)
    ]
turn_of_call r t (Delivered n p ∷ before) c once e = turn_of_call r t before c once.2 e

pub delivered_is_made : (c : ℕ) (past : PastCalls) → AreOnce past → list_any (tells_delivery c) past ≡ true → list_any (makes c) past ≡ true
delivered_is_made c [] once h = absurd cc
delivered_is_made c (Made n r ∷ before) once h =
    let rest = delivered_is_made c before once.1 h in
    elim (split (eqb n c)) [
      | inl k ↦ rw k refl
      | inr k ↦ rw (k, rest) refl
    ]
delivered_is_made c (Delivered n p ∷ before) once h =
    elim (split (eqb n c)) [
      | inl k ↦ subst (λ (m : ℕ). list_any (makes m) before ≡ true) (eqb-true n c k) once.0
      | inr k ↦ delivered_is_made c before once.2 (rw k at h)
    ]

-- ---- made before, by turns

never_made : (c d : ℕ) (past : PastCalls) → list_any (makes d) past ≡ false → is_made_earlier c d past ≡ false
never_made c d [] h = refl
never_made c d (Made n r ∷ before) h =
    let here : eqb n d ≡ false = or_false_first (eqb n d) (list_any (makes d) before) h in
    rw here (never_made c d before (or_false_second (eqb n d) (list_any (makes d) before) h))
never_made c d (Delivered n p ∷ before) h = never_made c d before h

nothing_before : (c d : ℕ) (past : PastCalls) → list_any (makes c) past ≡ false → (r : ℕ) → list_any (tells_making_through r c) past ≡ false
nothing_before c d [] h r = refl
nothing_before c d (Made n q ∷ before) h r =
    let here : eqb n c ≡ false = or_false_first (eqb n c) (list_any (makes c) before) h in
    let rest = nothing_before c d before (or_false_second (eqb n c) (list_any (makes c) before) h) r in
    elim (split (eqb q r)) [
      | inl k ↦ rw (k, here) rest
      | inr k ↦ rw k rest
    ]
nothing_before c d (Delivered n p ∷ before) h r = nothing_before c d before h r

none_before : (c d : ℕ) (past : PastCalls) → list_any (makes c) past ≡ false → is_made_earlier c d past ≡ false
none_before c d [] h = refl
none_before c d (Made n q ∷ before) h =
    let here : eqb n c ≡ false = or_false_first (eqb n c) (list_any (makes c) before) h in
    let old = or_false_second (eqb n c) (list_any (makes c) before) h in
    let rest = none_before c d before old in
    let through = nothing_before c d before old q in
    elim (split (eqb n d)) [
      | inl k ↦ rw (k, through) rest
      | inr k ↦ rw k rest
    ]
none_before c d (Delivered n p ∷ before) h = none_before c d before h

-- a call with a turn was made through that reference alone
made_through : (c : ℕ) (past : PastCalls) (r t q : ℕ) → AreOnce past → turn_of c past ≡ Some (r, t) → list_any (tells_making_through q c) past ≡ eqb q r
made_through c [] r t q once e = absurd cc
made_through c (Made n s ∷ before) r t q once e =
    elim (split (eqb n c)) [
      | inl k ↦
          let here : some_turn s (length before) ≡ some_turn r t = rw k at e in
          let same : s ≡ r = turn_first s (length before) r t here in
          let gone = nothing_before c c before (subst (λ (m : ℕ). list_any (makes m) before ≡ false) (eqb-true n c k) once.0) q in
          elim (split (eqb q r)) [
            | inl l ↦ let m : eqb s q ≡ true = eq-eqb s q (same ∙ sym (eqb-true q r l)) in rw (l, m, k) refl
            | inr l ↦ let m : eqb s q ≡ false = apart s q (λ (e : s ≡ q). clash (eqb q r) (eq-eqb q r (sym e ∙ same)) l) in rw (l, m, gone) refl
          ]
      | inr k ↦
          let rest = made_through c before r t q once.1 (rw k at e) in
          elim (split (eqb s q)) [
            | inl l ↦ rw (l, k) rest
            | inr l ↦ rw l rest
          ]
    ]
made_through c (Delivered n p ∷ before) r t q once e = made_through c before r t q once.2 e

-- no call of a past has a turn at its end
pub not_behind : (r t c : ℕ) (past : PastCalls) → length past ≤ t → is_behind r t (turn_of c past) ≡ false
not_behind r t c past le =
    elim (split (list_any (makes c) past)) [
      | inl h ↦
          let made = has_turn c past h in
          let late : ltb t made.1 ≡ false = le-ltb _ _ (let below = turn_below c past made.0 made.1 made.2 in omega arith) in
          elim (split (eqb made.0 r)) [
            | inl k ↦ rw (made.2, k, late) refl
            | inr k ↦ rw (made.2, k) refl
          ]
      | inr h ↦ let none = no_turn c past h in rw none refl
    ]

pub before_is_behind : (d c : ℕ) (past : PastCalls) (r t : ℕ) → AreOnce past → turn_of d past ≡ Some (r, t) → is_made_earlier d c past ≡ is_behind r t (turn_of c past)
before_is_behind d c [] r t once e = absurd cc
before_is_behind d c (Made n q ∷ before) r t once e =
    elim (split (eqb n c)) [
      | inl k ↦
          let gone : list_any (makes c) before ≡ false = subst (λ (m : ℕ). list_any (makes m) before ≡ false) (eqb-true n c k) once.0 in
          elim (split (eqb n d)) [
            | inl l ↦
                let here : some_turn q (length before) ≡ some_turn r t = rw l at e in
                let same : d ≡ c = sym (eqb-true n d l) ∙ eqb-true n c k in
                let gone_too : list_any (makes d) before ≡ false = subst (λ (m : ℕ). list_any (makes m) before ≡ false) (sym same) gone in
                let through = nothing_before d d before gone_too q in
                let none = never_made d c before gone in
                let late : ltb t (length before) ≡ false = le-ltb _ _ (let at : length before ≡ t = turn_second q (length before) r t here in omega arith) in
                elim (split (eqb q r)) [
                  | inl m ↦ rw (k, through, none, m, late) refl
                  | inr m ↦ rw (k, through, none, m) refl
                ]
            | inr l ↦
                let old : turn_of d before ≡ Some (r, t) = rw l at e in
                let through = made_through d before r t q once.1 old in
                let none = never_made d c before gone in
                let late : ltb t (length before) ≡ true = lt-ltb _ _ (turn_below d before r t old) in
                elim (split (eqb q r)) [
                  | inl m ↦ rw (k, through, none, m, late) refl
                  | inr m ↦ rw (k, through, none, m) refl
                ]
          ]
      | inr k ↦ elim (split (eqb n d)) [
        | inl l ↦
            let here : some_turn q (length before) ≡ some_turn r t = rw l at e in
            let gone : list_any (makes d) before ≡ false = subst (λ (m : ℕ). list_any (makes m) before ≡ false) (eqb-true n d l) once.0 in
            let none = none_before d c before gone in
            let late : is_behind r t (turn_of c before) ≡ false = not_behind r t c before (let at : length before ≡ t = turn_second q (length before) r t here in omega arith) in
            rw (k, none, late) refl
        | inr l ↦ rw k (before_is_behind d c before r t once.1 (rw l at e))
      ]
    ]
before_is_behind d c (Delivered n p ∷ before) r t once e = before_is_behind d c before r t once.2 e
