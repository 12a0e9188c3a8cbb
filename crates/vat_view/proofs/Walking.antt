-- Walks by a function that may have no next value.
use Rattle.std.proofs.Common.{◌≡◌, ◌≢◌, ◌⊎◌, ℕ, zero, suc, ◌+◌, ◌-◌, ◌<◌, ◌≤◌, ◌==◌, refl, sym, ◌∙◌, ap, subst, arith, inl, inr}
use Rattle.std.specs.Prelude.{Option, Some, None, option_and_then, if◌then◌else◌}
use Rattle.std.proofs.lemmas.Bool.{cases_eq, cases_lt}
use Rattle.vat_view.specs.Types.{View}
use Rattle.decoded_records.specs.Past.{Past}
use Rattle.vat_view.specs.Walks.{Next, turns, stops, stays, next, Leads, here, onward, LeadsByTurns, turned, turned_to}
use Rattle.vat_view.specs.Glue.TurnTables.{after_turns, Reaches, ReachesByTurns}

pub some_same : {A : Type 0} (x y : A) → Some x ≡ Some y → x ≡ y
some_same x y e = cc

pub none_some : {A : Type 0} (x : A) → None ≡ Some x → ⊥
none_some x e = cc

pub reached_none : {A : Type 0} (f : A → Option A) (n : ℕ) → after_turns f n None ≡ None
reached_none f zero = refl
reached_none f (suc n) = reached_none f n

pub reached_more : {A : Type 0} (f : A → Option A) (n : ℕ) (a : Option A) → after_turns f (suc n) a ≡ option_and_then f (after_turns f n a)
reached_more f zero a = refl
reached_more f (suc n) a = reached_more f n (option_and_then f a)

reached_plus : {A : Type 0} (f : A → Option A) (m n : ℕ) (a : Option A) → after_turns f (m + n) a ≡ after_turns f n (after_turns f m a)
reached_plus f zero n a = let e : zero + n ≡ n = omega arith in rw e refl
reached_plus f (suc m) n a = let e : suc m + n ≡ suc (m + n) = omega arith in rw e (reached_plus f m n (option_and_then f a))

pub reached_at : {A : Type 0} (f : A → Option A) (m n k : ℕ) (a : Option A) → m + n ≡ k → after_turns f k a ≡ after_turns f n (after_turns f m a)
reached_at f m n k a e = rw (← e) (reached_plus f m n a)

-- whether one of the first n numbers is this
seek : (h : ℕ → ℕ) (x n : ℕ) → ((i : ℕ) × (i < n) × (h i ≡ x)) ⊎ ((i : ℕ) → i < n → h i ≢ x)
seek h x zero = inr (λ i lt. absurd (let no : ⊥ = omega arith in no))
seek h x (suc n) = elim (cases_eq (h n) x) [
  | inl same ↦ inl (n, omega arith, same)
  | inr apart ↦ elim (seek h x n) [
    | inl found ↦ inl (found.0, omega (arith, found.1), found.2)
    | inr none ↦ inr (λ i lt same. elim (cases_lt i n) [
      | inl below ↦ none i below same
      | inr past ↦ let e : i ≡ n = omega arith in apart (rw e at same)
    ])
  ]
]

-- r + 1 numbers below r aren't all different
pigeons : (r : ℕ) (h : ℕ → ℕ) → ((k : ℕ) → k ≤ r → h k < r) → (i : ℕ) × (j : ℕ) × (i < j) × (j ≤ r) × (h i ≡ h j)
pigeons zero h small = absurd (let few : h 0 < 0 = small 0 (omega arith) in omega (arith, few))
pigeons (suc r) h small = elim (seek h (h (suc r)) (suc r)) [
  | inl found ↦ (found.0, suc r, found.1, omega arith, found.2)
  | inr none ↦
      let g : ℕ → ℕ = λ k. if h k == r then h (suc r) else h k in
      let last : h (suc r) < suc r = small (suc r) (omega arith) in
      let p : (i : ℕ) × (j : ℕ) × (i < j) × (j ≤ r) × (g i ≡ g j) = pigeons r g (λ k le.
      let lt : k < suc r = omega arith in
      let not_last : h k ≢ h (suc r) = none k lt in
      let below : h k < suc r = small k (omega arith) in
      grind (arith, not_last, below, last)) in
      let fst : h p.0 ≢ h (suc r) = none p.0 (omega (arith, p.2, p.3)) in
      let snd : h p.1 ≢ h (suc r) = none p.1 (omega (arith, p.3)) in
      let same : g p.0 ≡ g p.1 = p.4 in
      (p.0, p.1, p.2, omega (arith, p.3), grind (arith, fst, snd, same))
]

abbrev index_at : {A : Type 0} → (A → ℕ) → Option A → ℕ
index_at index (Some v) = index v
index_at index None = 0

pub cases_option : {A : Type 0} (o : Option A) → (o ≡ None) ⊎ ((x : A) × (o ≡ Some x))
cases_option None = inl refl
cases_option (Some x) = inr (x, refl)

-- what is reached by more turns was turned to
pub dead : {A : Type 0} (f : A → Option A) (n k : ℕ) (a : Option A) (v : A) → after_turns f n a ≡ Some v → k < n → after_turns f (suc k) a ≡ None → ⊥
dead f n k a v e lt gone =
    none_some v (sym (reached_none f (n - suc k)) ∙ ap (λ o. after_turns f (n - suc k) o) (sym gone) ∙ sym (reached_at f (suc k) (n - suc k) n a (omega arith)) ∙ e)

-- each value before one that is reached turns to the next
before_reached : {A : Type 0} (f : A → Option A) (n k : ℕ) (a : Option A) (v : A) → after_turns f n a ≡ Some v → k < n →
    (x : A) × (y : A) × (after_turns f k a ≡ Some x) × (f x ≡ Some y) × (after_turns f (suc k) a ≡ Some y)
before_reached f n k a v e lt =
    elim (cases_option (after_turns f k a)) [
      | inl none ↦ absurd (dead f n k a v e lt (reached_more f k a ∙ ap (λ o. option_and_then f o) none))
      | inr x ↦ elim (cases_option (f x.0)) [
        | inl none ↦ absurd (dead f n k a v e lt (reached_more f k a ∙ ap (λ o. option_and_then f o) x.1 ∙ none))
        | inr y ↦ (x.0, y.0, x.1, y.1, reached_more f k a ∙ ap (λ o. option_and_then f o) x.1 ∙ y.1)
      ]
    ]

-- the turns of what is reached have numbers below r, and those of one number go to one value
pub record IsFew {A : Type 0} (f : A → Option A) (a : A) (index : A → ℕ) (r : ℕ) : Type 0 where
  pub below : (k : ℕ) (v w : A) → after_turns f k (Some a) ≡ Some v → f v ≡ Some w → index v < r
  pub one : (k l : ℕ) (v w x y : A) → after_turns f k (Some a) ≡ Some v → f v ≡ Some w → after_turns f l (Some a) ≡ Some x → f x ≡ Some y → index v ≡ index x → w ≡ y

-- then each value that is reached is reached by r turns at most
pub within : {A : Type 0} (f : A → Option A) (a : A) (index : A → ℕ) (r : ℕ) → IsFew f a index r →
    (v : A) (fuel n : ℕ) → n ≤ fuel → after_turns f n (Some a) ≡ Some v → (m : ℕ) × (m ≤ r) × (after_turns f m (Some a) ≡ Some v)
within f a index r few v zero n le e = (n, omega arith, e)
within f a index r few v (suc fuel) n le e = elim (cases_lt r n) [
  | inr short ↦ (n, short, e)
  | inl long ↦
      let h : ℕ → ℕ = λ k. index_at index (after_turns f k (Some a)) in
      let p : (i : ℕ) × (j : ℕ) × (i < j) × (j ≤ r) × (h i ≡ h j) = pigeons r h (λ k below.
      let b = before_reached f n k (Some a) v e (omega arith) in rw b.2 (few.below k b.0 b.1 b.2 b.3)) in
      let b = before_reached f n p.0 (Some a) v e (omega (arith, p.2, p.3)) in
      let c = before_reached f n p.1 (Some a) v e (omega (arith, p.3)) in
      let same : index b.0 ≡ index c.0 = sym (ap (λ o. index_at index o) b.2) ∙ p.4 ∙ ap (λ o. index_at index o) c.2 in
      let meet : Some b.1 ≡ Some c.1 = ap (λ x. Some x) (few.one p.0 p.1 b.0 b.1 c.0 c.1 b.2 b.3 c.2 c.3 same) in
      let here : after_turns f (suc p.0) (Some a) ≡ after_turns f (suc p.1) (Some a) = b.4 ∙ meet ∙ sym c.4 in
      let shorter : after_turns f (suc p.0 + (n - suc p.1)) (Some a) ≡ Some v =
      reached_plus f (suc p.0) (n - suc p.1) (Some a) ∙ ap (λ o. after_turns f (n - suc p.1) o) here
      ∙ sym (reached_at f (suc p.1) (n - suc p.1) n (Some a) (omega (arith, p.3))) ∙ e in
      within f a index r few v fuel (suc p.0 + (n - suc p.1)) (omega (arith, p.2, p.3)) shorter
]

-- a walk that ended leads nowhere else
pub ended : {A : Type 0} (f : A → Option A) (a v w : A) (t : ℕ) → after_turns f t (Some a) ≡ Some v → (v ≡ w → ⊥) → ((m : ℕ) → m < t → after_turns f m (Some a) ≡ Some w → ⊥) →
    f v ≡ None → (n : ℕ) → after_turns f n (Some a) ≡ Some w → ⊥
ended f a v w t there apart before none n e = elim (cases_lt n t) [
  | inl lt ↦ before n lt e
  | inr le ↦ elim (cases_lt t n) [
    | inl past ↦ dead f n t (Some a) w e past (reached_more f t (Some a) ∙ ap (λ o. option_and_then f o) there ∙ none)
    | inr back ↦ let same : n ≡ t = omega arith in apart (some_same v w (sym there ∙ (rw same at e)))
  ]
]

-- after r turns all has been met
pub met : {A : Type 0} (f : A → Option A) (a : A) (index : A → ℕ) (r : ℕ) → IsFew f a index r →
    (v w : A) (t : ℕ) → r ≤ t → t ≤ r → after_turns f t (Some a) ≡ Some v → ((m : ℕ) → m < t → after_turns f m (Some a) ≡ Some w → ⊥) →
    (n : ℕ) → after_turns f n (Some a) ≡ Some w → v ≡ w
met f a index r few v w t low high there before n e =
    let m : (m : ℕ) × (m ≤ r) × (after_turns f m (Some a) ≡ Some w) = within f a index r few w n n (omega arith) e in
    elim (cases_lt m.0 t) [
      | inl lt ↦ absurd (before m.0 lt m.2)
      | inr le ↦ let same : m.0 ≡ t = omega (arith, m.1) in some_same v w (sym there ∙ (rw same at m.2))
    ]

-- of two values that are reached and turn no more, one is the other
pub one_last : {A : Type 0} (f : A → Option A) (a v w : A) (t n : ℕ) → after_turns f t (Some a) ≡ Some v → f v ≡ None → after_turns f n (Some a) ≡ Some w → f w ≡ None → v ≡ w
one_last f a v w t n there none e last = elim (cases_lt n t) [
  | inl lt ↦ absurd (dead f t n (Some a) v there lt (reached_more f n (Some a) ∙ ap (λ o. option_and_then f o) e ∙ last))
  | inr le ↦ elim (cases_lt t n) [
    | inl past ↦ absurd (dead f n t (Some a) w e past (reached_more f t (Some a) ∙ ap (λ o. option_and_then f o) there ∙ none))
    | inr back ↦ let same : n ≡ t = omega arith in some_same v w (sym there ∙ (rw same at e))
  ]
]

-- a walk that goes on after r turns reaches nothing that turns no more
pub endless : {A : Type 0} (f : A → Option A) (a : A) (index : A → ℕ) (r : ℕ) → IsFew f a index r →
    (v w : A) (t : ℕ) → r < t → after_turns f t (Some a) ≡ Some v → (n : ℕ) → after_turns f n (Some a) ≡ Some w → f w ≡ None → ⊥
endless f a index r few v w t long there n e last =
    let m : (m : ℕ) × (m ≤ r) × (after_turns f m (Some a) ≡ Some w) = within f a index r few w n n (omega arith) e in
    let short = m.1 in
    dead f t m.0 (Some a) v there (omega (arith, short)) (reached_more f m.0 (Some a) ∙ ap (λ o. option_and_then f o) m.2 ∙ last)

-- ---- walks by two functions that are one

and_then_same : {A : Type 0} (f g : A → Option A) → ((v : A) → f v ≡ g v) → (o : Option A) → option_and_then f o ≡ option_and_then g o
and_then_same f g h (Some v) = h v
and_then_same f g h None = refl

pub reached_same : {A : Type 0} (f g : A → Option A) → ((v : A) → f v ≡ g v) → (n : ℕ) (o : Option A) → after_turns f n o ≡ after_turns g n o
reached_same f g h zero o = refl
reached_same f g h (suc n) o = reached_same f g h n (option_and_then f o) ∙ ap (λ x. after_turns g n x) (and_then_same f g h o)

-- ---- leading is reaching

module _ (past : Past) where
  -- the view to which a view turns
  abbrev pub step : View → Option View
  step v = turned_to (next past v)

  pub leads_reach : (a b : View) → Leads past a b → Reaches step a b
  leads_reach a b here = (0, refl)
  leads_reach a c (onward {b = b} e rest) = let r = leads_reach b c rest in (suc r.0, ap (λ x. after_turns step r.0 (turned_to x)) e ∙ r.1)

  after_step : (n : ℕ) (a b : View) (x : Next) → next past a ≡ x → ((m : View) → after_turns step n (Some m) ≡ Some b → Leads past m b) → after_turns step n (turned_to x) ≡ Some b → Leads past a b
  after_step n a b (turns m) same rest e = onward same (rest m e)
  after_step n a b stops same rest e = absurd (none_some b (sym (reached_none step n) ∙ e))
  after_step n a b stays same rest e = absurd (none_some b (sym (reached_none step n) ∙ e))

  pub reached_leads : (n : ℕ) (a b : View) → after_turns step n (Some a) ≡ Some b → Leads past a b
  reached_leads zero a b e = subst (λ x. Leads past a x) (some_same a b e) here
  reached_leads (suc n) a b e = after_step n a b (next past a) refl (λ m rest. reached_leads n m b rest) e

  pub by_turns_reach : (a b : View) → LeadsByTurns past a b → ReachesByTurns step a b
  by_turns_reach a c (turned {b = b} e rest) = let r = leads_reach b c rest in (r.0, ap (λ x. after_turns step r.0 (turned_to x)) e ∙ r.1)

  pub reached_by_turns : (n : ℕ) (a b : View) → after_turns step n (step a) ≡ Some b → LeadsByTurns past a b
  reached_by_turns n a b e = inner (next past a) refl e
    where
      inner : (x : Next) → next past a ≡ x → after_turns step n (turned_to x) ≡ Some b → LeadsByTurns past a b
      inner (turns m) same rest = turned same (reached_leads n m b rest)
      inner stops same rest = absurd (none_some b (sym (reached_none step n) ∙ rest))
      inner stays same rest = absurd (none_some b (sym (reached_none step n) ∙ rest))
