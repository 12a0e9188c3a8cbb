-- Views that are one: walks that come to a common view.
use Rattle.std.proofs.Common.{◌≡◌, ◌⊎◌, ◌↔◌, ◌<◌, ◌≤◌, inl, inr, refl, sym, ◌∙◌, ap, subst, ℕ, zero, suc, ◌+◌, ◌-◌, Bool, true, Option, Some, None, IsTrue, arith}
use Rattle.std.specs.Prelude.{option_and_then}
use Rattle.std.proofs.lemmas.Bool.{cases_lt}
use Rattle.vat_view.specs.Types.{View}
use Rattle.decoded_records.specs.Past.{Past}
use Rattle.vat_view.specs.Walks.{Next, turns, stops, stays, next, turned_to, Leads, here, onward, LeadsByTurns, turned, AreOne, Became}
use Rattle.vat_view.specs.Glue.TurnTables.{after_turns, Reaches, ReachesByTurns, ReachOne, IsLast}
use Rattle.vat_view.proofs.Walking.{none_some, dead, reached_more, reached_at, reached_same, IsFew, within, step, leads_reach, reached_leads}
use Rattle.vat_view.proofs.Hopping.{on_from, Walked}

-- ---- what is reached at last

module _ {A : Type 0} (f : A → Option A) (a : A) where
  -- of two that are reached, the one by more turns is reached from the other
  reached_later : (v w : A) (n t : ℕ) → n ≤ t → after_turns f n (Some a) ≡ Some v → after_turns f t (Some a) ≡ Some w → Reaches f v w
  reached_later v w n t le e there =
      (t - n, ap (λ o. after_turns f (t - n) o) (sym e) ∙ sym (reached_at f n (t - n) t (Some a) (omega (arith, le))) ∙ there)

  -- what turns no more
  pub last_turned : (t : ℕ) (v : A) → after_turns f t (Some a) ≡ Some v → None ≡ f v → IsLast f a v
  last_turned t v there none = (
    (t, there),
    λ w h. elim (cases_lt t h.0) [
      | inl past ↦ absurd (dead f h.0 t (Some a) w h.1 past (reached_more f t (Some a) ∙ ap (λ o. option_and_then f o) there ∙ sym none))
      | inr le ↦ reached_later w v h.0 t le h.1 there
    ],
  )

  -- what is reached by more turns than a walk makes at most that doesn't go in a circle
  pub last_few : (index : A → ℕ) (r t : ℕ) (v : A) → IsFew f a index r → r ≤ t → after_turns f t (Some a) ≡ Some v → IsLast f a v
  last_few index r t v few long there = (
    (t, there),
    λ w h.
        let m : (m : ℕ) × (m ≤ r) × (after_turns f m (Some a) ≡ Some w) = within f a index r few w h.0 h.0 (omega arith) h.1 in
        let short = m.1 in reached_later w v m.0 t (omega (arith, short, long)) m.2 there,
  )

  -- what is reached once more
  again_reached : (fuel : ℕ) (v w : A) (k d n : ℕ) → n ≤ fuel → after_turns f k (Some a) ≡ Some v → after_turns f (k + suc d) (Some a) ≡ Some v → after_turns f n (Some a) ≡ Some w → Reaches f w v
  again_reached zero v w k d n small there again e = reached_later w v n (k + suc d) (omega (arith, small)) e again
  again_reached (suc fuel) v w k d n small there again e = elim (cases_lt n (k + suc d)) [
    | inl lt ↦ reached_later w v n (k + suc d) (omega (arith, lt)) e again
    | inr le ↦
        let rest : ℕ = n - (k + suc d) in
        let less : after_turns f (k + rest) (Some a) ≡ Some w =
        reached_at f k rest (k + rest) (Some a) refl ∙ ap (λ o. after_turns f rest o) (there ∙ sym again)
        ∙ sym (reached_at f (k + suc d) rest n (Some a) (omega (arith, le))) ∙ e in
        again_reached fuel v w k d (k + rest) (omega (arith, small, le)) there again less
  ]

  pub last_marked : (n : ℕ) (at mark b : A) → Walked f n a at mark → ReachesByTurns f at b → b ≡ mark → IsLast f a b
  last_marked n at mark b (m, k, low, behind, there, marked) hop same =
      let again : after_turns f (k + suc (m - k + hop.0)) (Some a) ≡ Some mark =
      reached_at f m (suc hop.0) (k + suc (m - k + hop.0)) (Some a) (omega (arith, behind)) ∙ ap (λ o. after_turns f (suc hop.0) o) there ∙ hop.1 ∙ ap (λ x. Some x) same in
      subst (λ x. IsLast f a x) (sym same) ((k, marked), λ w h. again_reached h.0 mark w k (m - k + hop.0) h.0 (omega arith) marked again h.1)

-- ---- what the code answers

pub one_by_last : {A : Type 0} (f : A → Option A) (a b last : A) (r s : Bool) → (IsTrue r ↔ Reaches f a b) → IsLast f b last → (IsTrue s ↔ Reaches f a last) → IsTrue s ↔ ReachOne f a b
one_by_last f a b last r s there is_last so = (
  (λ h. (last, so.0 h, is_last.0)),
  λ one. so.1 (on_from f a one.0 last one.1 (is_last.1 one.0 one.2)),
)

pub one_by_leading : {A : Type 0} (f : A → Option A) (a b : A) (r : Bool) → (IsTrue r ↔ Reaches f a b) → r ≡ true → IsTrue r ↔ ReachOne f a b
one_by_leading f a b r there led = ((λ h. (b, there.0 h, (0, refl))), λ one. led)

-- ---- walks by the table are walks by looking back

module _ (going : View → Next) (past : Past) (same : (v : View) → going v ≡ next past v) where
  abbrev by_table : View → Option View
  by_table v = turned_to (going v)

  same_step : (v : View) → by_table v ≡ step past v
  same_step v = ap (λ x. turned_to x) (same v)

  back : (v w : View) → Reaches by_table v w → Leads past v w
  back v w l = reached_leads past l.0 v w (sym (reached_same by_table (step past) same_step l.0 (Some v)) ∙ l.1)

  there : (v w : View) → Leads past v w → Reaches by_table v w
  there v w l = let r = leads_reach past v w l in (r.0, reached_same by_table (step past) same_step r.0 (Some v) ∙ r.1)

  pub one_known : (a b : View) (r : Bool) → (IsTrue r ↔ ReachOne by_table a b) → IsTrue r ↔ AreOne past a b
  one_known a b r h = (
    (λ t. let o = h.0 t in (o.0, back a o.0 o.1, back b o.0 o.2)),
    λ one. h.1 (one.0, there a one.0 one.1, there b one.0 one.2),
  )

-- ---- classes

module _ (past : Past) where
  leads_through : (a b c : View) → Leads past a b → Leads past b c → Leads past a c
  leads_through a b c here rest = rest
  leads_through a b c (onward {b = m} e more) rest = onward e (leads_through m b c more rest)

  same_turn : {v w : View} → turns v ≡ turns w → v ≡ w
  same_turn e = cc

  -- of two views to which one leads, one leads to the other
  forked : (a b c : View) → Leads past a b → Leads past a c → Leads past b c ⊎ Leads past c b
  forked a b c here other = inl other
  forked a b c (onward e rest) here = inr (onward e rest)
  forked a b c (onward {b = m} e rest) (onward {b = n} g others) = forked m b c rest (subst (λ x. Leads past x c) (sym (same_turn (sym e ∙ g))) others)

  pub one_itself : (a : View) → AreOne past a a
  one_itself a = (a, here, here)

  pub one_back : (a b : View) → AreOne past a b → AreOne past b a
  one_back a b one = (one.0, one.2, one.1)

  pub one_through : (a b c : View) → AreOne past a b → AreOne past b c → AreOne past a c
  one_through a b c first second = elim (forked b first.0 second.0 first.2 second.1) [
    | inl on ↦ (second.0, leads_through a first.0 second.0 first.1 on, second.2)
    | inr back ↦ (first.0, first.1, leads_through c second.0 first.0 second.2 back)
  ]

  pub led_one : (a b : View) → Leads past a b → AreOne past a b
  led_one a b led = (b, led, here)

  pub led_became : (a b : View) → LeadsByTurns past a b → Became past a b
  led_became a c (turned {b = b} e rest) = (b, e, led_one a c (onward e rest))
