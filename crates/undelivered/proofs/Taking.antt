-- A call taken out of the tables, and the place noted for those before it.
use Rattle.std.proofs.Common.{◌≡◌, ℕ, Bool, true, false, cond, eqb, ltb, Option, Some, None, refl, sym, ap, subst, ◌∙◌, inl, inr}
use Rattle.std.specs.Prelude.{◌&&◌}
use Rattle.std.specs.BTreeMap.{get, Updates}
use Rattle.std.specs.Option.{option_map}
use Rattle.std.specs.Ordering.{nat_cmp}
use Rattle.undelivered.specs.Places.{lesser}
use Rattle.undelivered.specs.Glue.{key_cmp, Waits, made_of, wait_of, AreWaitsRising, lowered, IsTaken, IsDelivered}
use Rattle.undelivered.specs.declared.wait_tables.WaitTables.{WaitTables}
use Rattle.undelivered.proofs.Places.{Place, split}
use Rattle.undelivered.proofs.Keys.{turns_put, waits_put}
use Rattle.undelivered.proofs.Lowering.{nothing_lowered}

abbrev Noted : Type 0
Noted = Option Place

abbrev Key : Type 0
Key = ℕ × ℕ

abbrev is_noted : Option Noted → Bool
is_noted None = false
is_noted (Some u) = true

abbrev key_in : Option Key → Key
key_in None = (0, 0)
key_in (Some k) = k

abbrev noted_in : Option Noted → Noted
noted_in None = None
noted_in (Some u) = u

-- what is there after an entry was taken out was there before
still : (m n : Waits) (r t : ℕ) → Updates key_cmp m n (r, t) None → (q s : ℕ) (u : Noted) → get key_cmp n (q, s) ≡ Some u → get key_cmp m (q, s) ≡ Some u
still m n r t gone q s u there =
    let after = waits_put m n r t None gone q s in
    elim (split (eqb q r && eqb s t)) [
      | inl h ↦ absurd (
          let none : get key_cmp n (q, s) ≡ None = after ∙ rw h refl in
          let clash : is_noted None ≡ is_noted (Some u) = ap is_noted (sym none ∙ there) in
          cc)
      | inr h ↦
          let same : get key_cmp n (q, s) ≡ get key_cmp m (q, s) = after ∙ rw h refl in
          sym same ∙ there
    ]

rising_still : (m n : Waits) (r t : ℕ) → Updates key_cmp m n (r, t) None → AreWaitsRising m → AreWaitsRising n
rising_still m n r t gone rising = λ q a b u w lt first second. rising q a b u w lt (still m n r t gone q a u first) (still m n r t gone q b w second)

abbrev LowersBefore : ℕ → ℕ → Place → Waits → Waits → Type 0
LowersBefore r t p waits new = AreWaitsRising waits → (q s : ℕ) → get key_cmp new (q, s)
    ≡ cond (eqb q r && ltb s t) (option_map (λ until. lesser until (Some p)) (get key_cmp waits (q, s))) (get key_cmp waits (q, s))

all_lowered : (m n o : Waits) (r t : ℕ) (p : Place) → Updates key_cmp m n (r, t) None → LowersBefore r t p n o → AreWaitsRising m → (q s : ℕ) → get key_cmp o (q, s) ≡ lowered r t p q s (get key_cmp m (q, s))
all_lowered m n o r t p gone lower rising q s =
    let after = waits_put m n r t None gone q s in
    let low = lower (rising_still m n r t gone rising) q s in
    elim (split (eqb q r && eqb s t)) [
      | inl h ↦
          let none : get key_cmp n (q, s) ≡ None = after ∙ rw h refl in
          let empty : get key_cmp o (q, s) ≡ None = low ∙ rw none (nothing_lowered (eqb q r && ltb s t) p) in
          empty ∙ sym (rw h refl)
      | inr h ↦
          let same : get key_cmp n (q, s) ≡ get key_cmp m (q, s) = after ∙ rw h refl in
          low ∙ rw (same, h) refl
    ]

-- a call that waited was taken out, and the place noted
pub delivered_tables : (old new : WaitTables) (call : ℕ) (p : Place) (a b : ℕ) (u : Noted) (waits : Waits) → made_of old call ≡ Some (a, b) → wait_of old a b ≡ Some u
    → Updates nat_cmp old.turns new.turns call None → Updates key_cmp old.waiting waits (a, b) None → LowersBefore a b p waits new.waiting → new.fault ≡ lesser old.fault u → IsDelivered call p old new
delivered_tables old new call p a b u waits known there turns gone lower fault = λ r t until turn wait.
    let here : IsTaken call p a b u old new = record {
      turns = turns_put old.turns new.turns call None turns;
      waiting = all_lowered old.waiting waits new.waiting a b p gone lower;
      fault = fault;
    } in
    let same : (a, b) ≡ (r, t) = ap key_in (sym known ∙ turn) in
    let first : a ≡ r = ap (λ (k : Key). k.0) same in
    let second : b ≡ t = ap (λ (k : Key). k.1) same in
    let found : wait_of old r t ≡ Some u = rw (← first, ← second) there in
    let third : u ≡ until = ap noted_in (sym found ∙ wait) in
    let one = subst (λ (n : ℕ). IsTaken call p n b u old new) first here in
    let two = subst (λ (n : ℕ). IsTaken call p r n u old new) second one in
    subst (λ (w : Noted). IsTaken call p r t w old new) third two

-- a call of which nothing is noted didn't wait
pub none_delivered : (old new : WaitTables) (call : ℕ) (p : Place) (a b : ℕ) → made_of old call ≡ Some (a, b) → wait_of old a b ≡ None → IsDelivered call p old new
none_delivered old new call p a b known gone = λ r t until turn wait.
    let same : (a, b) ≡ (r, t) = ap key_in (sym known ∙ turn) in
    let first : a ≡ r = ap (λ (k : Key). k.0) same in
    let second : b ≡ t = ap (λ (k : Key). k.1) same in
    let found : wait_of old r t ≡ None = rw (← first, ← second) gone in
    absurd (let clash : false ≡ true = ap is_noted (sym found ∙ wait) in cc)
