-- The order is kept exactly where no step is early.
use Rattle.std.proofs.Common.{◌≡◌, ◌↔◌, ◌⊎◌, inl, inr, refl, sym, subst, ◌==◌, List, [], ◌∷◌, Bool, true, false, ◌&&◌, ◌||◌, if◌then◌else◌, reverse}
use Rattle.std.specs.List.{list_any}
use Rattle.std.proofs.lemmas.Bool.{or_from, or_left, or_right, or_parts, false≢true, false_from_ne_true}
use Rattle.run_model.specs.Types.{Name, Step, Host, Deliver}
use Rattle.run_model.proofs.Once.{names_same}
use Rattle.run_model.proofs.Turning.{same_to_itself, clash}
use Rattle.run_model.specs.Early.{early, early_from, is_early, overtakes}
use Rattle.run_model.specs.Legal.{delivers_call}
use Rattle.run_model.specs.Right.{IsOrdered, is_delivered_before, is_made_before}
use Rattle.run_model.specs.Steps.{PastSteps, count_steps, is_same_call, vat_of}

-- d was made before c, so of these steps none that delivers c stands before one that delivers d, here or later
abbrev pub Keeps : PastSteps → List Step → PastSteps → Type 0
Keeps whole later past = (c d : Name) → is_made_before d c whole ≡ true → (is_delivered_before c d past ≡ false) × (list_any (delivers_call d) later ≡ true → list_any (delivers_call c) past ≡ false)

-- a step that delivers d overtakes c
overtaken_at : (whole : PastSteps) (c d : Name) (t : Step) → is_made_before d c whole ≡ true → delivers_call d t ≡ true → overtakes whole c t ≡ true
overtaken_at whole c d (Deliver w n o) made e = subst (λ x. is_made_before x c whole ≡ true) (sym (names_same n d e)) made
overtaken_at whole c d (Host w o) made e = absurd (false≢true e)
overtaken_at whole c d _ made e = absurd (false≢true e)

or_either : (a b : Bool) → (a || b) ≡ true → (a ≡ true) ⊎ (b ≡ true)
or_either true b e = inl refl
or_either false b e = inr e

pub overtaken : (whole : PastSteps) (c d : Name) (later : List Step) → is_made_before d c whole ≡ true → list_any (delivers_call d) later ≡ true → list_any (overtakes whole c) later ≡ true
overtaken whole c d [] made e = absurd (false≢true e)
overtaken whole c d (t ∷ later) made e = elim (or_either (delivers_call d t) (list_any (delivers_call d) later) e) [
  | inl here ↦ or_left _ _ (overtaken_at whole c d t made here)
  | inr there ↦ or_right _ _ (overtaken whole c d later made there)
]

-- a step that isn't early delivers no call that another overtakes
not_delivered : (whole : PastSteps) (c d : Name) (s : Step) (later : List Step) → is_made_before d c whole ≡ true → is_early whole s later ≡ false → list_any (delivers_call d) later ≡ true →
    delivers_call c s ≡ true → ⊥
not_delivered whole c d (Deliver v n o) later made early there e =
    clash (overtaken whole c d later made there) (subst (λ x. list_any (overtakes whole x) later ≡ false) (names_same n c e) early)
not_delivered whole c d (Host v o) later made early there e = false≢true e
not_delivered whole c d _ later made early there e = false≢true e

no_cons : {A : Type 0} {x : A} {xs : List A} → (x ∷ xs) ≡ [] → ⊥
no_cons e = cc

none_of : {A : Type 0} (b : Bool) (x : A) (xs : List A) → (if b then x ∷ xs else xs) ≡ [] → (b ≡ false) × (xs ≡ [])
none_of true x xs e = absurd (no_cons e)
none_of false x xs e = (refl, e)

and_false : (a b : Bool) → (a ≡ true → b ≡ false) → (a && b) ≡ false
and_false true b e = e refl
and_false false b e = refl

keeps_more : (whole : PastSteps) (later : List Step) (s : Step) (before : PastSteps) → is_early whole s later ≡ false → Keeps whole (s ∷ later) before → Keeps whole later (s ∷ before)
keeps_more whole later s before early keeps c d made =
    let k = keeps c d made in (
      or_from (delivers_call d s && list_any (delivers_call c) before) (is_delivered_before c d before)
          (and_false (delivers_call d s) (list_any (delivers_call c) before) (λ here. k.1 (or_left (delivers_call d s) (list_any (delivers_call d) later) here))) k.0,
      λ there. or_from (delivers_call c s) (list_any (delivers_call c) before)
          (false_from_ne_true (delivers_call c s) (not_delivered whole c d s later made early there)) (k.1 (or_right (delivers_call d s) (list_any (delivers_call d) later) there)),
    )

kept : (whole : PastSteps) (later : List Step) (past : PastSteps) → early_from whole later past ≡ [] → Keeps whole later past
kept whole later [] e = λ c d made. (refl, λ there. refl)
kept whole later (s ∷ before) e =
    let parts = none_of (is_early whole s later) (vat_of s, count_steps (λ t. vat_of t == vat_of s) before) (early_from whole (s ∷ later) before) e in
    keeps_more whole later s before parts.0 (kept whole (s ∷ later) before parts.1)

-- and back
overtaker_at : (whole : PastSteps) (c : Name) (t : Step) → overtakes whole c t ≡ true → (d : Name) × (is_made_before d c whole ≡ true) × (delivers_call d t ≡ true)
overtaker_at whole c (Deliver w n o) e = (n, e, same_to_itself n)
overtaker_at whole c (Host w o) e = absurd (false≢true e)
overtaker_at whole c _ e = absurd (false≢true e)

pub overtaker : (whole : PastSteps) (c : Name) (later : List Step) → list_any (overtakes whole c) later ≡ true → (d : Name) × (is_made_before d c whole ≡ true) × (list_any (delivers_call d) later ≡ true)
overtaker whole c [] e = absurd (false≢true e)
overtaker whole c (t ∷ later) e = elim (or_either (overtakes whole c t) (list_any (overtakes whole c) later) e) [
  | inl here ↦ let r = overtaker_at whole c t here in (r.0, r.1, or_left _ _ r.2)
  | inr there ↦ let r = overtaker whole c later there in (r.0, r.1, or_right _ _ r.2)
]

not_early : (whole : PastSteps) (later : List Step) (s : Step) (before : PastSteps) → Keeps whole later (s ∷ before) → is_early whole s later ≡ true → ⊥
not_early whole later (Deliver v c o) before keeps e =
    let r = overtaker whole c later e in
    clash (same_to_itself c) (or_parts (is_same_call c c) (list_any (delivers_call c) before) ((keeps c r.0 r.1).1 r.2)).0
not_early whole later (Host v o) before keeps e = false≢true e
not_early whole later _ before keeps e = false≢true e

and_false_at : (a b : Bool) → (a && b) ≡ false → a ≡ true → b ≡ false
and_false_at true b e f = e
and_false_at false b e f = absurd (false≢true f)

fewer : (whole : PastSteps) (later : List Step) (s : Step) (before : PastSteps) → Keeps whole later (s ∷ before) → Keeps whole (s ∷ later) before
fewer whole later s before keeps c d made =
    let k = keeps c d made in
    let parts = or_parts (delivers_call d s && list_any (delivers_call c) before) (is_delivered_before c d before) k.0 in (
      parts.1,
      λ e. elim (or_either (delivers_call d s) (list_any (delivers_call d) later) e) [
        | inl here ↦ and_false_at (delivers_call d s) (list_any (delivers_call c) before) parts.0 here
        | inr there ↦ (or_parts (delivers_call c s) (list_any (delivers_call c) before) (k.1 there)).1
      ],
    )

none_from : {A : Type 0} (b : Bool) (x : A) (xs : List A) → (b ≡ true → ⊥) → xs ≡ [] → (if b then x ∷ xs else xs) ≡ []
none_from true x xs none e = absurd (none refl)
none_from false x xs none e = e

none_early : (whole : PastSteps) (later : List Step) (past : PastSteps) → Keeps whole later past → early_from whole later past ≡ []
none_early whole later [] keeps = refl
none_early whole later (s ∷ before) keeps =
    none_from (is_early whole s later) (vat_of s, count_steps (λ t. vat_of t == vat_of s) before) (early_from whole (s ∷ later) before)
    (not_early whole later s before keeps) (none_early whole (s ∷ later) before (fewer whole later s before keeps))

pub ordered_unless_early : (run : List Step) → (early run ≡ []) ↔ IsOrdered run
ordered_unless_early run = (
  (λ e d c made. (kept (reverse run) [] (reverse run) e c d made).0),
  λ ordered. none_early (reverse run) [] (reverse run) (λ c d made. (ordered d c made, λ no_later. absurd (false≢true no_later))),
)
