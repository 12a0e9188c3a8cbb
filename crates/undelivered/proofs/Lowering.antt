-- Noting a place for all calls before a turn, from the last of them on.
use Rattle.std.proofs.Common.{◌≡◌, ℕ, ◌<◌, ◌≤◌, Bool, true, false, cond, eqb, ltb, Option, Some, None, refl, sym, ap, subst, ◌∙◌, arith, inl, inr}
use Rattle.std.specs.Prelude.{◌&&◌, not}
use Rattle.std.specs.BTreeMap.{get}
use Rattle.std.specs.Option.{option_map}
use Rattle.std.proofs.lemmas.Bool.{cases_lt, eqb-true, eq-eqb, lt-ltb, le-ltb}
use Rattle.undelivered.specs.Places.{lesser, has_at_most}
use Rattle.undelivered.specs.Glue.{key_cmp, Waits, IsLastBefore, AreWaitsRising}
use Rattle.undelivered.proofs.Places.{Place, split, option_split, has_means, has_not_means, lesser_chain}

abbrev Noted : Type 0
Noted = Option Place

abbrev lower : Place → Option Noted → Option Noted
lower place known = option_map (λ until. lesser until (Some place)) known

-- what is noted of a turn, once the place is noted for those of the reference from one turn on and before another
abbrev pub lowered_from : ℕ → ℕ → ℕ → Place → ℕ → ℕ → Option Noted → Option Noted
lowered_from reference below turn place r t known = cond (eqb r reference && (not (ltb t below) && ltb t turn)) (lower place known) known

-- from its own begin on, for all before the turn
abbrev lowered_all : ℕ → ℕ → Place → ℕ → ℕ → Option Noted → Option Noted
lowered_all reference turn place r t known = cond (eqb r reference && ltb t turn) (lower place known) known

outside : (reference below turn : ℕ) (place : Place) (r t : ℕ) (known : Option Noted) → t < below → lowered_from reference below turn place r t known ≡ known
outside reference below turn place r t known lt =
    let k : ltb t below ≡ true = lt-ltb t below lt in
    elim (split (eqb r reference)) [
      | inl h ↦ rw (h, k) refl
      | inr h ↦ rw h refl
    ]

elsewhere : (reference below turn : ℕ) (place : Place) (r t : ℕ) (known : Option Noted) → eqb r reference ≡ false → lowered_from reference below turn place r t known ≡ known
elsewhere reference below turn place r t known h = rw h refl

inside : (reference below turn : ℕ) (place : Place) (r t : ℕ) (known : Option Noted) → eqb r reference ≡ true → below ≤ t → lowered_from reference below turn place r t known ≡ cond (ltb t turn) (lower place known) known
inside reference below turn place r t known h le =
    let k : ltb t below ≡ false = le-ltb t below le in
    rw (h, k) refl

pub none_yet : (reference turn : ℕ) (place : Place) (r t : ℕ) (known : Option Noted) → known ≡ lowered_from reference turn turn place r t known
none_yet reference turn place r t known =
    elim (cases_lt t turn) [
      | inl lt ↦ sym (outside reference turn turn place r t known lt)
      | inr le ↦ elim (split (eqb r reference)) [
        | inl h ↦ let k : ltb t turn ≡ false = le-ltb t turn le in sym (inside reference turn turn place r t known h le ∙ rw k refl)
        | inr h ↦ sym (elsewhere reference turn turn place r t known h)
      ]
    ]

abbrev some_noted : Noted → Option Noted
some_noted u = Some u

abbrev nothing : Option Noted
nothing = None

pub nothing_lowered : (b : Bool) (place : Place) → cond b (lower place None) None ≡ nothing
nothing_lowered true place = refl
nothing_lowered false place = refl

after_it : (t earlier : ℕ) → earlier ≤ t → eqb t earlier ≡ false → earlier < t
after_it t earlier le k =
    elim (cases_lt earlier t) [
      | inl lt ↦ lt
      | inr back ↦ absurd (let same : t ≡ earlier = omega arith in let yes : eqb t earlier ≡ true = eq-eqb t earlier same in let none : true ≡ false = sym yes ∙ k in cc)
    ]

-- the table that is had while the place is noted, from what it had first
abbrev pub Lowers : ℕ → ℕ → ℕ → Place → Waits → Waits → Type 0
Lowers reference below turn place first waits = (r t : ℕ) → get key_cmp waits (r, t) ≡ lowered_from reference below turn place r t (get key_cmp first (r, t))

-- one more call before
pub one_more : (first waits more : Waits) (reference below turn earlier : ℕ) (place : Place) (until : Noted) → below ≤ turn → Lowers reference below turn place first waits
    → IsLastBefore waits reference below (Some (earlier, until)) → has_at_most until place ≡ false
    → ((r t : ℕ) → get key_cmp more (r, t) ≡ cond (eqb r reference && eqb t earlier) (Some (Some place)) (get key_cmp waits (r, t)))
    → Lowers reference earlier turn place first more
one_more first waits more reference below turn earlier place until within so_far last above noted = λ r t.
    elim (split (eqb r reference)) [
      | inr h ↦
          let stays : get key_cmp more (r, t) ≡ get key_cmp waits (r, t) = noted r t ∙ rw h refl in
          stays ∙ so_far r t ∙ elsewhere reference below turn place r t (get key_cmp first (r, t)) h ∙ sym (elsewhere reference earlier turn place r t (get key_cmp first (r, t)) h)
      | inl h ↦
          let known = get key_cmp first (r, t) in
          let same : r ≡ reference = eqb-true r reference h in
          elim (split (eqb t earlier)) [
            | inl k ↦
                let at : t ≡ earlier = eqb-true t earlier k in
                let early : t < below = omega (arith, last.0) in
                let had : get key_cmp waits (r, t) ≡ Some until = rw (same, at) last.1 in
                let was : known ≡ Some until = sym (outside reference below turn place r t known early) ∙ sym (so_far r t) ∙ had in
                let before : ltb t turn ≡ true = lt-ltb t turn (omega arith) in
                let here : lowered_from reference earlier turn place r t known ≡ Some (Some place) =
                inside reference earlier turn place r t known h (omega arith) ∙ rw (before, was) (ap some_noted (has_not_means until place above)) in
                let now : get key_cmp more (r, t) ≡ some_noted (Some place) = noted r t ∙ rw (h, k) refl in
                now ∙ sym here
            | inr k ↦
                let stays : get key_cmp more (r, t) ≡ get key_cmp waits (r, t) = noted r t ∙ rw (h, k) refl in
                elim (cases_lt t below) [
                  | inl lt ↦
                      let was : get key_cmp waits (r, t) ≡ known = so_far r t ∙ outside reference below turn place r t known lt in
                      elim (cases_lt t earlier) [
                        | inl less ↦ stays ∙ was ∙ sym (outside reference earlier turn place r t known less)
                        | inr more_or_same ↦
                            let after : earlier < t = after_it t earlier more_or_same k in
                            let none : get key_cmp waits (r, t) ≡ None = rw same (last.2 t after lt) in
                            let empty : known ≡ None = sym was ∙ none in
                            stays ∙ none ∙ sym (inside reference earlier turn place r t known h more_or_same ∙ rw empty (nothing_lowered (ltb t turn) place))
                      ]
                  | inr le ↦ stays ∙ so_far r t ∙ inside reference below turn place r t known h le ∙ sym (inside reference earlier turn place r t known h (omega (arith, last.0)))
                ]
          ]
    ]

-- none is left
pub all_lowered : (first waits : Waits) (reference below turn : ℕ) (place : Place) → below ≤ turn → Lowers reference below turn place first waits → IsLastBefore waits reference below None
    → (r t : ℕ) → get key_cmp waits (r, t) ≡ lowered_all reference turn place r t (get key_cmp first (r, t))
all_lowered first waits reference below turn place within so_far none r t =
    let known = get key_cmp first (r, t) in
    elim (split (eqb r reference)) [
      | inr h ↦ so_far r t ∙ elsewhere reference below turn place r t known h ∙ rw h refl
      | inl h ↦ elim (cases_lt t below) [
        | inl lt ↦
            let same : r ≡ reference = eqb-true r reference h in
            let was : get key_cmp waits (r, t) ≡ known = so_far r t ∙ outside reference below turn place r t known lt in
            let gone : get key_cmp waits (r, t) ≡ None = rw same (none t lt) in
            let empty : known ≡ None = sym was ∙ gone in
            gone ∙ sym (rw (h, empty) (nothing_lowered (ltb t turn) place))
        | inr le ↦ so_far r t ∙ inside reference below turn place r t known h le ∙ rw h refl
      ]
    ]

-- what has a place that is at most this one keeps it
kept_low : (u : Noted) (place : Place) → lesser u (Some place) ≡ u → (b : Bool) → cond b (lower place (Some u)) (Some u) ≡ some_noted u
kept_low u place h true = ap some_noted h
kept_low u place h false = refl

-- a place that is noted at a turn before is at most this one
is_low : (first waits : Waits) (reference below turn earlier : ℕ) (place : Place) (until : Noted) → AreWaitsRising first → Lowers reference below turn place first waits
    → IsLastBefore waits reference below (Some (earlier, until)) → has_at_most until place ≡ true → (r t : ℕ) (u : Noted) → r ≡ reference → t < below → get key_cmp first (r, t) ≡ Some u → lesser u (Some place) ≡ u
is_low first waits reference below turn earlier place until rising so_far last low r t u same lt found =
    let was : get key_cmp waits (r, t) ≡ Some u = so_far r t ∙ outside reference below turn place r t (get key_cmp first (r, t)) lt ∙ found in
    let here : get key_cmp waits (reference, t) ≡ Some u = subst (λ (n : ℕ). get key_cmp waits (n, t) ≡ Some u) same was in
    let first_last : get key_cmp first (reference, earlier) ≡ Some until =
    sym (outside reference below turn place reference earlier (get key_cmp first (reference, earlier)) last.0) ∙ sym (so_far reference earlier) ∙ last.1 in
    let first_here : get key_cmp first (reference, t) ≡ Some u = subst (λ (n : ℕ). get key_cmp first (n, t) ≡ Some u) same found in
    elim (cases_lt t earlier) [
      | inl less ↦ lesser_chain u until (Some place) (rising reference t earlier u until less first_here first_last) (has_means until place low)
      | inr le ↦ elim (cases_lt earlier t) [
        | inl after ↦ absurd (let none : get key_cmp waits (reference, t) ≡ None = last.2 t after lt in let clash : nothing ≡ some_noted u = sym none ∙ here in cc)
        | inr back ↦
            let at : t ≡ earlier = omega arith in
            let there : get key_cmp waits (reference, t) ≡ Some until = rw at last.1 in
            let one : some_noted u ≡ some_noted until = sym here ∙ there in
            let eq : u ≡ until = cc in
            rw eq (has_means until place low)
      ]
    ]

-- at a turn before: nothing is noted there, or a place that is at most this one
low_or_none : (first waits : Waits) (reference below turn earlier : ℕ) (place : Place) (until : Noted) → AreWaitsRising first → Lowers reference below turn place first waits
    → IsLastBefore waits reference below (Some (earlier, until)) → has_at_most until place ≡ true → (r t : ℕ) → r ≡ reference → t < below
    → get key_cmp first (r, t) ≡ cond (ltb t turn) (lower place (get key_cmp first (r, t))) (get key_cmp first (r, t))
low_or_none first waits reference below turn earlier place until rising so_far last low r t same lt =
    let known = get key_cmp first (r, t) in
    let was : get key_cmp waits (r, t) ≡ known = so_far r t ∙ outside reference below turn place r t known lt in
    elim (option_split known) [
      | inl none ↦ none ∙ sym (rw none (nothing_lowered (ltb t turn) place))
      | inr found ↦
          let u = found.0 in
          let under : lesser u (Some place) ≡ u = is_low first waits reference below turn earlier place until rising so_far last low r t u same lt found.1 in
          found.1 ∙ sym (rw found.1 (kept_low u place under (ltb t turn)))
    ]

-- the rest has lesser places
pub rest_is_low : (first waits : Waits) (reference below turn earlier : ℕ) (place : Place) (until : Noted) → AreWaitsRising first → below ≤ turn → Lowers reference below turn place first waits
    → IsLastBefore waits reference below (Some (earlier, until)) → has_at_most until place ≡ true → (r t : ℕ) → get key_cmp waits (r, t) ≡ lowered_all reference turn place r t (get key_cmp first (r, t))
rest_is_low first waits reference below turn earlier place until rising within so_far last low r t =
    let known = get key_cmp first (r, t) in
    elim (split (eqb r reference)) [
      | inr h ↦ so_far r t ∙ elsewhere reference below turn place r t known h ∙ rw h refl
      | inl h ↦ elim (cases_lt t below) [
        | inr le ↦ so_far r t ∙ inside reference below turn place r t known h le ∙ rw h refl
        | inl lt ↦
            let same : r ≡ reference = eqb-true r reference h in
            let was : get key_cmp waits (r, t) ≡ known = so_far r t ∙ outside reference below turn place r t known lt in
            let shown : known ≡ lowered_all reference turn place r t known = rw h (low_or_none first waits reference below turn earlier place until rising so_far last low r t same lt) in
            was ∙ shown
      ]
    ]
