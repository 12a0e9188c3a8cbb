-- Keys of the tables, and the last of some before a turn.
use Rattle.std.proofs.Common.{◌≡◌, ℕ, ◌<◌, ◌≤◌, Bool, true, false, cond, eqb, List, Option, Some, None, Result, Ok, Err, refl, sym, ap, subst, ◌∙◌, arith, inl, inr}
use Rattle.std.specs.Prelude.{◌&&◌, IsSome, OnOk, OnErr}
use Rattle.std.specs.Result.{is_err}
use Rattle.std.specs.Map.{lookup}
use Rattle.std.specs.BTreeMap.{BTreeMap, get, is_at, Updates}
use Rattle.std.specs.Ordering.{nat_cmp, is_eq, is_gt, is_lt}
use Rattle.std.specs.declared.cmp.Ordering.TheVariants.{Less}
use Rattle.std.proofs.lemmas.Bool.{eqb-true}
use Rattle.std.proofs.lemmas.Bool.Decides.{nat_tests}
use Rattle.undelivered.specs.Glue.{key_cmp, Waits, IsLastBefore}
use Rattle.undelivered.proofs.Places.{split, and_first, and_second}

abbrev Key : Type 0
Key = ℕ × ℕ

pub same_number_key : (k q : ℕ) → is_eq (nat_cmp k q) ≡ eqb q k
same_number_key k q = grind (arith, nat_tests)

pub same_key : (a b x y : ℕ) → is_eq (key_cmp (a, b) (x, y)) ≡ (eqb x a && eqb y b)
same_key a b x y = grind (arith, nat_tests)

pub no_step_back : (r t : ℕ) → is_gt (key_cmp (r, 0) (r, t)) ≡ false
no_step_back r t = grind (arith, nat_tests)

in_range : (r q t : ℕ) → q < t → (is_gt (key_cmp (r, 0) (r, q)) ≡ false) × (key_cmp (r, q) (r, t) ≡ Less)
in_range r q t lt = (no_step_back r q, grind (arith, nat_tests))

-- what is in the range is of that reference, and before that turn
range_reference : (r t : ℕ) (k : Key) → is_gt (key_cmp (r, 0) k) ≡ false → key_cmp k (r, t) ≡ Less → k.0 ≡ r
range_reference r t k low high = grind (arith, nat_tests)

range_turn : (r t : ℕ) (k : Key) → is_gt (key_cmp (r, 0) k) ≡ false → key_cmp k (r, t) ≡ Less → k.1 < t
range_turn r t k low high = grind (arith, nat_tests)

not_above : (r a q : ℕ) → is_lt (key_cmp (r, a) (r, q)) ≡ false → q ≤ a
not_above r a q h = grind (arith, nat_tests)

abbrev IsWithin : ℕ → ℕ → Key → Type 0
IsWithin r t k = (is_gt (key_cmp (r, 0) k) ≡ false) × (key_cmp k (r, t) ≡ Less)

abbrev Noted : Type 0
Noted = Option (ℕ × ℕ)

abbrev is_noted : Option Noted → Bool
is_noted None = false
is_noted (Some u) = true

none_or_some : (o : Option Noted) → (IsSome o → ⊥) → o ≡ None
none_or_some None absent = refl
none_or_some (Some u) absent = absurd (absent refl)

pub none_before : (m : Waits) (r t : ℕ) → ((k : Key) → IsWithin r t k → get key_cmp m k ≡ None) → IsLastBefore m r t None
none_before m r t none = λ q lt. none (r, q) (in_range r q t lt)

pub last_before : (m : Waits) (r t : ℕ) (k : Key) (u : Noted) → IsWithin r t k → get key_cmp m k ≡ Some u → ((q : Key) → IsWithin r t q → IsSome (get key_cmp m q) → is_lt (key_cmp k q) ≡ false) → IsLastBefore m r t (Some (k.1, u))
last_before m r t k u within found greatest =
    let reference : k.0 ≡ r = range_reference r t k within.0 within.1 in
    let here : get key_cmp m (r, k.1) ≡ Some u = subst (λ (n : ℕ). get key_cmp m (n, k.1) ≡ Some u) reference found in (
      range_turn r t k within.0 within.1,
      here,
      λ q above below. none_or_some (get key_cmp m (r, q)) (λ there.
          let first : is_lt (key_cmp (k.0, k.1) (r, q)) ≡ false = greatest (r, q) (in_range r q t below) there in
          let same : is_lt (key_cmp (r, k.1) (r, q)) ≡ false = subst (λ (n : ℕ). is_lt (key_cmp (n, k.1) (r, q)) ≡ false) reference first in
          let le : q ≤ k.1 = not_above r k.1 q same in
          omega arith),
    )

-- ---- what a table has after a change

-- at the key of a change there is what was put there, and elsewhere what was there before
pub turns_put : (m n : BTreeMap ℕ Key) (call : ℕ) (w : Option Key) → Updates nat_cmp m n call w → (q : ℕ) → get nat_cmp n q ≡ cond (eqb q call) w (get nat_cmp m q)
turns_put m n call w u q = u.0 q ∙ ap (λ (b : Bool). cond b w (get nat_cmp m q)) (same_number_key call q)

pub waits_put : (m n : Waits) (r t : ℕ) (w : Option Noted) → Updates key_cmp m n (r, t) w → (q s : ℕ) → get key_cmp n (q, s) ≡ cond (eqb q r && eqb s t) w (get key_cmp m (q, s))
waits_put m n r t w u q s = u.0 (q, s) ∙ ap (λ (b : Bool). cond b w (get key_cmp m (q, s))) (same_key r t q s)

-- what was put where nothing was, and taken out again
pub put_back : (m n o : Waits) (r t : ℕ) (w : Option Noted) → Updates key_cmp m n (r, t) w → Updates key_cmp n o (r, t) None → get key_cmp m (r, t) ≡ None → (q s : ℕ) → get key_cmp o (q, s) ≡ get key_cmp m (q, s)
put_back m n o r t w put taken none q s =
    let after = waits_put n o r t None taken q s in
    let between = waits_put m n r t w put q s in
    elim (split (eqb q r && eqb s t)) [
      | inl h ↦
          let first : q ≡ r = eqb-true q r (and_first (eqb q r) (eqb s t) h) in
          let second : s ≡ t = eqb-true s t (and_second (eqb q r) (eqb s t) h) in
          let here : get key_cmp m (q, s) ≡ None = rw (first, second) none in
          after ∙ rw h (sym here)
      | inr h ↦ after ∙ rw h (between ∙ rw h refl)
    ]

-- the same entries are the same table
pub same_turns : (m n : BTreeMap ℕ Key) → n.entries ≡ m.entries → (q : ℕ) → get nat_cmp n q ≡ get nat_cmp m q
same_turns m n e q = ap (λ (es : List (ℕ × Key)). lookup (is_at (nat_cmp q)) es) e

pub on_ok : {A E : Type 0} (r : Result A E) (P : Type 0) → is_err r ≡ false → OnOk r P → P
on_ok (Ok x) P h p = p
on_ok (Err e) P h p = absurd cc

pub on_err : {A E : Type 0} (r : Result A E) (P : Type 0) → is_err r ≡ true → OnErr r P → P
on_err (Ok x) P h p = absurd cc
on_err (Err e) P h p = p

-- a value put where one was
pub put_there : {A E : Type 0} (m n : Waits) (r t : ℕ) (w : Noted) (u : Noted) (result : Result A E) → OnOk result (Updates key_cmp m n (r, t) (Some w)) → OnErr result (get key_cmp m (r, t) ≡ None) → get key_cmp m (r, t) ≡ Some u
    → (q s : ℕ) → get key_cmp n (q, s) ≡ cond (eqb q r && eqb s t) (Some w) (get key_cmp m (q, s))
put_there m n r t w u (Ok x) put none there = waits_put m n r t (Some w) put
put_there m n r t w u (Err e) put none there = absurd (let clash : is_noted None ≡ is_noted (Some u) = ap is_noted (sym none ∙ there) in cc)
