-- Hops to references ahead.
use Rattle.std.proofs.Common.{◌≡◌, ◌⊎◌, ◌<◌, ◌≤◌, refl, sym, ◌∙◌, ap, subst, ℕ, zero, suc, ◌+◌, ◌-◌, inl, inr, List, [], Option, Some, None, option_map, option_and_then, arith}
use Rattle.std.specs.Prelude.{unwrap_or}
use Rattle.std.proofs.lemmas.Bool.{cases_lt}
use Rattle.rising_table.specs.Entries.{entry_at}
use Rattle.vat_view.specs.declared.tables.turns.settlements.Settlements.{Settlements}
use Rattle.vat_view.specs.declared.tables.references.BoundReferences.{BoundReferences}
use Rattle.vat_view.specs.declared.tables.turns.handovers.Handovers.{Handovers}
use Rattle.vat_view.specs.declared.tables.references.Binding.{Binding}
use Rattle.vat_view.specs.declared.tables.references.Shortcut.{Shortcut}
use Rattle.vat_view.specs.declared.walks.landing.Landing.{Landing}
use Rattle.vat_view.specs.declared.walks.landing.Landing.TheVariants.{Reference as ToReference, Call as ToCall}
use Rattle.vat_view.specs.Types.{View, FieldOf}
use Rattle.vat_view.specs.Glue.Tables.{bound_at}
use Rattle.decoded_records.specs.Glue.Parts.{field_path}
use Rattle.vat_view.specs.Glue.TurnTables.{Turning, landing_of, landing_view, landed_reference, landed_call, landed_by, reference_by, call_onward_by, call_ahead_in, IsOwnOrOldCall, IsCallAhead, AreCallsAhead, turning_by, settled_with, by_handover, number_in, handover_at, target_in, turned_in, turns_of, after_turns, Reaches, TurnsAndThen, TurnsOn, ReachesByTurns, own_leap, ahead_in, ahead_at, onward_by, IsOwnOrOld, IsAhead, AreAhead, HaveAhead}
use Rattle.vat_view.proofs.Walking.{cases_option, none_some, some_same, dead, reached_more, reached_at, reached_none}
use Rattle.vat_view.proofs.Settled.{turn_landing}

-- ---- what is bound has a reference ahead, and no other

pub ahead_bound : (table : BoundReferences) (r : ℕ) (q : Shortcut) → ahead_at table r ≡ Some q → (a : View) × (bound_at table r ≡ Some a)
ahead_bound table r q some = inner (entry_at table.entries r) some
  where
    inner : (o : Option Binding) → option_map (λ binding. ahead_in table.dropped r binding) o ≡ Some q → (a : View) × (option_map (λ binding. binding.view) o ≡ Some a)
    inner None e = absurd (none_some q e)
    inner (Some b) e = (b.view, refl)

-- and what is bound has one
pub bound_ahead : (table : BoundReferences) (r : ℕ) (v : View) → bound_at table r ≡ Some v → (q : Shortcut) × (ahead_at table r ≡ Some q)
bound_ahead table r v some = inner (entry_at table.entries r) some
  where
    inner : (o : Option Binding) → option_map (λ binding. binding.view) o ≡ Some v → (q : Shortcut) × (option_map (λ binding. ahead_in table.dropped r binding) o ≡ Some q)
    inner None e = absurd (none_some v e)
    inner (Some b) e = (ahead_in table.dropped r b, refl)

-- a reference is ahead of itself
pub own_ahead : (turn : View → Option View) (table : BoundReferences) (r : ℕ) (q : Shortcut) → ahead_at table r ≡ Some q → q ≡ own_leap r → IsAhead turn table r q
own_ahead turn table r q some own =
    let it = ahead_bound table r q some in
    let here : IsAhead turn table r (own_leap r) = (it.0, it.0, it.1, it.1, refl) in subst (λ l. IsAhead turn table r l) (sym own) here

-- ---- turns and landings

module _ (table : Settlements) (bound : BoundReferences) where
  abbrev turnings : View → Option View
  turnings v = turns_of table bound v

  pub lands_turn : (v : View) → turnings v ≡ option_and_then (landing_view (bound_at bound) (field_path v)) (landed_by table v)
  lands_turn v = turn_landing (bound_at bound) (field_path v) (turning_by table v)

  lands_there : (o : Option Landing) (r : ℕ) → option_and_then landed_reference o ≡ Some r → o ≡ Some (ToReference r)
  lands_there (Some (ToReference s)) r h = ap (λ x. Some (ToReference x)) (some_same s r h)
  lands_there (Some (ToCall c)) r h = absurd (none_some r h)
  lands_there None r h = absurd (none_some r h)

  -- a view that lands on a reference turns to that one's view
  pub reference_turn : (v : View) (r : ℕ) → reference_by table v ≡ Some r → turnings v ≡ bound_at bound r
  reference_turn v r h = lands_turn v ∙ ap (λ o. option_and_then (landing_view (bound_at bound) (field_path v)) o) (lands_there (landed_by table v) r h)

-- ---- walks that hop

module _ {A : Type 0} (f : A → Option A) where
  -- a walk goes on from what it reached
  pub on_from : (a b c : A) → Reaches f a b → Reaches f b c → Reaches f a c
  on_from a b c first second = (first.0 + second.0, reached_at f first.0 second.0 (first.0 + second.0) (Some a) refl ∙ ap (λ o. after_turns f second.0 o) first.1 ∙ second.1)

  -- a walk of so many turns or more reached this view, and on its way, or at last, the marked one
  abbrev pub Walked : ℕ → A → A → A → Type 0
  Walked n a at mark = (m : ℕ) × (k : ℕ) × (n ≤ m) × (k ≤ m) × (after_turns f m (Some a) ≡ Some at) × (after_turns f k (Some a) ≡ Some mark)

  pub walked_none : (a : A) → Walked 0 a a a
  walked_none a = (0, 0, omega arith, omega arith, refl, refl)

  pub walked_on : (n : ℕ) (a at mark b : A) → Walked n a at mark → ReachesByTurns f at b → Walked (n + 1) a b mark
  walked_on n a at mark b (m, k, low, behind, there, marked) hop = (
    m + suc hop.0,
    k,
    omega (arith, low),
    omega (arith, behind),
    reached_at f m (suc hop.0) (m + suc hop.0) (Some a) refl ∙ ap (λ o. after_turns f (suc hop.0) o) there ∙ hop.1,
    marked,
  )

  pub walked_marked : (n : ℕ) (a at mark : A) → Walked n a at mark → Walked n a at at
  walked_marked n a at mark (m, k, low, behind, there, marked) = (m, m, low, omega arith, there, there)

  -- a walk that comes back has no end
  comes_back : (fuel : ℕ) (a v w : A) (k d n : ℕ) → n ≤ fuel → after_turns f k (Some a) ≡ Some v → after_turns f (k + suc d) (Some a) ≡ Some v →
      after_turns f n (Some a) ≡ Some w → f w ≡ None → ⊥
  comes_back zero a v w k d n small there again e last =
      dead f (k + suc d) n (Some a) v again (omega (arith, small)) (reached_more f n (Some a) ∙ ap (λ o. option_and_then f o) e ∙ last)
  comes_back (suc fuel) a v w k d n small there again e last = elim (cases_lt n (k + suc d)) [
    | inl lt ↦ dead f (k + suc d) n (Some a) v again lt (reached_more f n (Some a) ∙ ap (λ o. option_and_then f o) e ∙ last)
    | inr le ↦
        let rest : ℕ = n - (k + suc d) in
        let less : after_turns f (k + rest) (Some a) ≡ Some w =
        reached_at f k rest (k + rest) (Some a) refl ∙ ap (λ o. after_turns f rest o) (there ∙ sym again)
        ∙ sym (reached_at f (k + suc d) rest n (Some a) (omega (arith, le))) ∙ e in
        comes_back fuel a v w k d (k + rest) (omega (arith, small, le)) there again less last
  ]

  pub meets_mark : (n : ℕ) (a at mark b : A) → Walked n a at mark → ReachesByTurns f at b → b ≡ mark → (w : A) → Reaches f a w → f w ≡ None → ⊥
  meets_mark n a at mark b (m, k, low, behind, there, marked) hop same w ends last =
      comes_back ends.0 a mark w k (m - k + hop.0) ends.0 (omega arith) marked
      (reached_at f m (suc hop.0) (k + suc (m - k + hop.0)) (Some a) (omega (arith, behind)) ∙ ap (λ o. after_turns f (suc hop.0) o) there ∙ hop.1 ∙ ap (λ x. Some x) same)
      ends.1 last

-- what is ahead of the landing of the one ahead is further ahead, by the turns to it, the one of the landing and its own
pub further_ahead : (table : Settlements) (bound : BoundReferences) → HaveAhead table bound → (r next count : ℕ) (near far : Shortcut) →
    onward_by table bound r ≡ Some next → ahead_at bound r ≡ Some near → ahead_at bound next ≡ Some far → count ≡ near.turns + far.turns + 1 →
    IsAhead (turns_of table bound) bound r (record { to = far.to; turns = count })
further_ahead table bound ahead r next count near far lands is_near is_far sum =
    let f : View → Option View = λ v. turns_of table bound v in
    let first = ahead.0 r near is_near in
    let second = ahead.0 next far is_far in
    let v : View = first.1 in
    let landed : reference_by table v ≡ Some next =
    ap (λ o. option_and_then (reference_by table) o) (sym first.3) ∙ ap (λ o. option_and_then (reference_by table) (option_and_then (λ leap. bound_at bound leap.to) o)) (sym is_near) ∙ lands in
    let turn : f v ≡ Some second.0 = reference_turn table bound v next landed ∙ second.2 in (
      first.0,
      second.1,
      first.2,
      second.3,
      reached_at f near.turns (suc far.turns) count (Some first.0) (omega (arith, sum)) ∙ ap (λ o. after_turns f (suc far.turns) o) first.4
          ∙ ap (λ o. after_turns f far.turns o) turn ∙ second.4,
    )

-- where another reference's one ahead is remembered, the one ahead of this lands where it did
pub onward_kept : (table : Settlements) (old new : BoundReferences) (reference : ℕ) (leap : Shortcut) → ((r : ℕ) → bound_at new r ≡ bound_at old r) →
    ((r : ℕ) (q : Shortcut) → ahead_at new r ≡ Some q → (ahead_at old r ≡ Some q) ⊎ ((r ≡ reference) × (q ≡ leap))) → (r after : ℕ) → (r ≡ reference → ⊥) →
    onward_by table old r ≡ Some after → onward_by table new r ≡ Some after
onward_kept table old new reference leap views kept r after apart lands = elim (cases_option (ahead_at old r)) [
  | inl none ↦ absurd (none_some after (ap (λ o. option_and_then (reference_by table) (option_and_then (λ l. bound_at old l.to) o)) (sym none) ∙ lands))
  | inr near ↦
      let it = ahead_bound old r near.0 near.1 in
      let now = bound_ahead new r it.0 (views r ∙ it.1) in
      let same : ahead_at new r ≡ ahead_at old r = elim (kept r now.0 now.1) [
        | inl was ↦ now.1 ∙ sym was
        | inr here ↦ absurd (apart here.0)
      ] in
      ap (λ o. option_and_then (reference_by table) (option_and_then (λ l. bound_at new l.to) o)) (same ∙ near.1)
      ∙ ap (λ o. option_and_then (reference_by table) o) (views near.0.to)
      ∙ ap (λ o. option_and_then (reference_by table) (option_and_then (λ l. bound_at old l.to) o)) (sym near.1) ∙ lands
]

-- ---- counted walks

module _ {A : Type 0} (f : A → Option A) where
  -- walks to where it turns no more make one number of turns
  one_count : (a v w : A) (t n : ℕ) → after_turns f t (Some a) ≡ Some v → f v ≡ None → after_turns f n (Some a) ≡ Some w → f w ≡ None → t ≡ n
  one_count a v w t n there none e last = elim (cases_lt n t) [
    | inl lt ↦ absurd (dead f t n (Some a) v there lt (reached_more f n (Some a) ∙ ap (λ o. option_and_then f o) e ∙ last))
    | inr le ↦ elim (cases_lt t n) [
      | inl past ↦ absurd (dead f n t (Some a) w e past (reached_more f t (Some a) ∙ ap (λ o. option_and_then f o) there ∙ none))
      | inr back ↦ omega arith
    ]
  ]

  -- a walk goes on by one turn and then so many
  pub steps_on : (a at next : A) (made more total : ℕ) → after_turns f made (Some a) ≡ Some at → TurnsAndThen f at more next → total ≡ made + more + 1 → after_turns f total (Some a) ≡ Some next
  steps_on a at next made more total there on sum =
      reached_at f made (suc more) total (Some a) (omega (arith, sum)) ∙ ap (λ o. after_turns f (suc more) o) there ∙ on

  -- so many turns are left from there, where it goes on by some of them
  pub steps_left : (at next : A) (more left rest : ℕ) → TurnsAndThen f at more next → rest + (more + 1) ≡ left → after_turns f left (Some at) ≡ after_turns f rest (Some next)
  steps_left at next more left rest on sum = reached_at f (suc more) rest left (Some at) (omega (arith, sum)) ∙ ap (λ o. after_turns f rest o) on

  -- where turns are left and none is made, nothing is reached
  pub no_step : (at : A) (left : ℕ) → 0 < left → f at ≡ None → after_turns f left (Some at) ≡ None
  no_step at zero some none = absurd (let no : ⊥ = omega (arith, some) in no)
  no_step at (suc n) some none = ap (λ o. after_turns f n o) none ∙ reached_none f n

  -- a view that turns on further leads to none that makes more turns
  pub too_far : (a b last end : A) (most whole rest : ℕ) → TurnsOn f a most last whole → whole ≤ most → TurnsOn f b whole end rest → whole < rest → Reaches f a b → ⊥
  too_far a b last end most whole rest first fits second far l =
      dead f (l.0 + rest) whole (Some a) end (reached_at f l.0 rest (l.0 + rest) (Some a) refl ∙ ap (λ o. after_turns f rest o) l.1 ∙ second.0) (omega (arith, far))
      (reached_more f whole (Some a) ∙ ap (λ o. option_and_then f o) first.0 ∙ first.1 fits)

  -- one that leads to another does so by the turns that it makes more
  pub at_place : (a b last end : A) (most whole rest : ℕ) → TurnsOn f a most last whole → whole ≤ most → TurnsOn f b whole end rest → rest ≤ whole → Reaches f a b → after_turns f (whole - rest) (Some a) ≡ Some b
  at_place a b last end most whole rest first fits second near l =
      let count : l.0 + rest ≡ whole =
      one_count a end last (l.0 + rest) whole (reached_at f l.0 rest (l.0 + rest) (Some a) refl ∙ ap (λ o. after_turns f rest o) l.1 ∙ second.0) (second.1 near) first.0 (first.1 fits) in
      let place : whole - rest ≡ l.0 = omega (arith, count) in rw place l.1

  -- one that leads to another that makes no turn ends there
  pub at_end : (a b last end : A) (most whole rest : ℕ) → TurnsOn f a most last whole → whole ≤ most → TurnsOn f b whole end rest → rest ≡ 0 → Reaches f a b → last ≡ b
  at_end a b last end most whole rest first fits second none l =
      some_same last b
      (sym first.0 ∙ ap (λ n. after_turns f n (Some a)) (let same : whole ≡ whole - rest = omega (arith, none) in same)
      ∙ at_place a b last end most whole rest first fits second (omega (arith, none)) l)

-- ---- references ahead, where what they lead to is kept

more_reached : {A : Type 0} (f g : A → Option A) → ((v w : A) → f v ≡ Some w → g v ≡ Some w) → (n : ℕ) (a b : A) → after_turns f n (Some a) ≡ Some b → after_turns g n (Some a) ≡ Some b
more_reached f g more zero a b e = e
more_reached f g more (suc n) a b e = elim (cases_option (f a)) [
  | inl none ↦ absurd (none_some b (sym (reached_none f n) ∙ ap (λ o. after_turns f n o) (sym none) ∙ e))
  | inr x ↦ ap (λ o. after_turns g n o) (more a x.0 x.1) ∙ more_reached f g more n x.0 b (ap (λ o. after_turns f n o) (sym x.1) ∙ e)
]

landing_more : (named other : ℕ → Option View) → ((r : ℕ) (w : View) → named r ≡ Some w → other r ≡ Some w) → (path : List ℕ) (l : Landing) (w : View) →
    landing_view named path l ≡ Some w → landing_view other path l ≡ Some w
landing_more named other more path (ToReference r) w e = more r w e
landing_more named other more path (ToCall c) w e = e

-- where turns land as before, and bound references keep their views, views turn as before
pub turns_more : (table other : Settlements) (old new : BoundReferences) → ((r : ℕ) (w : View) → bound_at old r ≡ Some w → bound_at new r ≡ Some w) →
    ((v : View) (l : Landing) → landed_by table v ≡ Some l → landed_by other v ≡ Some l) →
    (v w : View) → turns_of table old v ≡ Some w → turns_of other new v ≡ Some w
turns_more table other old new named lands v w e = elim (cases_option (landed_by table v)) [
  | inl none ↦ absurd (none_some w (ap (λ o. option_and_then (landing_view (bound_at old) (field_path v)) o) (sym none) ∙ sym (lands_turn table old v) ∙ e))
  | inr l ↦
      lands_turn other new v ∙ ap (λ o. option_and_then (landing_view (bound_at new) (field_path v)) o) (lands v l.0 l.1)
      ∙ landing_more (bound_at old) (bound_at new) named (field_path v) l.0 w
      (ap (λ o. option_and_then (landing_view (bound_at old) (field_path v)) o) (sym l.1) ∙ sym (lands_turn table old v) ∙ e)
]

module _ (f g : View → Option View) (old new : BoundReferences) (more : (v w : View) → f v ≡ Some w → g v ≡ Some w)
    (named : (r : ℕ) (w : View) → bound_at old r ≡ Some w → bound_at new r ≡ Some w) where
  carried : (r : ℕ) (q : Shortcut) → IsAhead f old r q → IsAhead g new r q
  carried r q it = (it.0, it.1, named r it.0 it.2, named q.to it.1 it.3, more_reached f g more q.turns it.0 it.1 it.4)

  pub ahead_carried : IsOwnOrOld old new → AreAhead f old → AreAhead g new
  ahead_carried less ahead r q e = elim (less r q e) [
    | inl was ↦ carried r q (ahead r q was)
    | inr own ↦ own_ahead g new r q e own
  ]

  pub ahead_remembered : (reference : ℕ) (far : Shortcut) → ((r : ℕ) (q : Shortcut) → ahead_at new r ≡ Some q → (ahead_at old r ≡ Some q) ⊎ ((r ≡ reference) × (q ≡ far))) → IsAhead f old reference far → AreAhead f old → AreAhead g new
  ahead_remembered reference far less it ahead r q e = elim (less r q e) [
    | inl was ↦ carried r q (ahead r q was)
    | inr same ↦ rw same.0 (rw same.1 (carried reference far it))
  ]

-- ---- calls ahead, where what they lead to is kept

-- a call is ahead of itself
pub own_call : (turn : View → Option View) (c : ℕ) (q : Shortcut) → q ≡ own_leap c → IsCallAhead turn c q
own_call turn c q own path = subst (λ l. after_turns turn l.turns (Some (FieldOf c path)) ≡ Some (FieldOf l.to path)) (sym own) refl

-- what is ahead of a call, or itself where it wasn't answered by another
pub call_near : (turn : View → Option View) (table : Handovers) → AreCallsAhead turn table → (c : ℕ) → IsCallAhead turn c (unwrap_or (call_ahead_in table c) (own_leap c))
call_near turn table ahead c = inner (call_ahead_in table c) (ahead c)
  where
    inner : (o : Option Shortcut) → ((q : Shortcut) → o ≡ Some q → IsCallAhead turn c q) → IsCallAhead turn c (unwrap_or o (own_leap c))
    inner (Some q) there = there q refl
    inner None there = own_call turn c (own_leap c) refl

pub calls_then : (a b c : Handovers) → IsOwnOrOldCall a b → IsOwnOrOldCall b c → IsOwnOrOldCall a c
calls_then a b c first second n q e = elim (second n q e) [
  | inl was ↦ first n q was
  | inr own ↦ inr own
]

module _ (f g : View → Option View) (old new : Handovers) (more : (v w : View) → f v ≡ Some w → g v ≡ Some w) where
  pub calls_carried : IsOwnOrOldCall old new → AreCallsAhead f old → AreCallsAhead g new
  calls_carried less ahead c q e path = elim (less c q e) [
    | inl was ↦ more_reached f g more q.turns (FieldOf c path) (FieldOf q.to path) (ahead c q was path)
    | inr own ↦ own_call g c q own path
  ]

  pub calls_remembered : (call : ℕ) (far : Shortcut) → ((c : ℕ) (q : Shortcut) → call_ahead_in new c ≡ Some q → (call_ahead_in old c ≡ Some q) ⊎ ((c ≡ call) × (q ≡ far))) → IsCallAhead f call far →
      AreCallsAhead f old → AreCallsAhead g new
  calls_remembered call far less it ahead c q e path = elim (less c q e) [
    | inl was ↦ more_reached f g more q.turns (FieldOf c path) (FieldOf q.to path) (ahead c q was path)
    | inr same ↦ more_reached f g more q.turns (FieldOf c path) (FieldOf q.to path) (rw same.0 (rw same.1 (it path)))
  ]

-- a field lands on a call whatever its path
behind : (r s by : Option ℕ) (d : ℕ) → landing_of (r, by) ≡ Some (ToCall d) → landing_of (s, by) ≡ Some (ToCall d)
behind r s (Some c) d g = g
behind (Some r) s None d g = absurd (let no : ⊥ = cc in no)
behind None s None d g = absurd (none_some (ToCall d) g)

abbrev landing_at : Settlements → ℕ → List ℕ → Option ℕ → Option Landing
landing_at table x at o =
    option_and_then landing_of (option_map {U = Turning} (λ s. (s.1, by_handover s.0 (handover_at table x))) (settled_with (target_in at (turned_in table.turned x)) o))

lands_anyhow : (table : Settlements) (x d : ℕ) → landed_by table (FieldOf x []) ≡ Some (ToCall d) → (path : List ℕ) → landed_by table (FieldOf x path) ≡ Some (ToCall d)
lands_anyhow table x d h path = inner (number_in table.results x) h
  where
    inner : (o : Option ℕ) → landing_at table x [] o ≡ Some (ToCall d) → landing_at table x path o ≡ Some (ToCall d)
    inner None g = absurd (none_some (ToCall d) g)
    inner (Some number) g = behind (target_in [] (turned_in table.turned x)) (target_in path (turned_in table.turned x)) (by_handover number (handover_at table x)) d g

call_there : (o : Option Landing) (d : ℕ) → option_and_then landed_call o ≡ Some d → o ≡ Some (ToCall d)
call_there (Some (ToCall c)) d h = ap (λ x. Some (ToCall x)) (some_same c d h)
call_there (Some (ToReference r)) d h = absurd (none_some d h)
call_there None d h = absurd (none_some d h)

-- a field that lands on a call turns to that one's field
pub call_turn : (table : Settlements) (bound : BoundReferences) (v : View) (d : ℕ) → landed_by table v ≡ Some (ToCall d) →
    turns_of table bound v ≡ Some (FieldOf d (field_path v))
call_turn table bound v d h = lands_turn table bound v ∙ ap (λ o. option_and_then (landing_view (bound_at bound) (field_path v)) o) h

-- what is ahead of the call where the fields of the one ahead land is further ahead
pub further_call_ahead : (table : Settlements) (bound : BoundReferences) → HaveAhead table bound → (c next count : ℕ) (near far : Shortcut) →
    call_onward_by table c ≡ Some next → near ≡ unwrap_or (call_ahead_in table.handovers c) (own_leap c) → far ≡ unwrap_or (call_ahead_in table.handovers next) (own_leap next) →
    count ≡ near.turns + far.turns + 1 → IsCallAhead (turns_of table bound) c (record { to = far.to; turns = count })
further_call_ahead table bound ahead c next count near far lands is_near is_far sum path =
    let f : View → Option View = λ v. turns_of table bound v in
    let first : after_turns f near.turns (Some (FieldOf c path)) ≡ Some (FieldOf near.to path) =
    subst (λ l. after_turns f l.turns (Some (FieldOf c path)) ≡ Some (FieldOf l.to path)) (sym is_near) (call_near f table.handovers ahead.1 c path) in
    let second : after_turns f far.turns (Some (FieldOf next path)) ≡ Some (FieldOf far.to path) =
    subst (λ l. after_turns f l.turns (Some (FieldOf next path)) ≡ Some (FieldOf l.to path)) (sym is_far) (call_near f table.handovers ahead.1 next path) in
    let landed : landed_by table (FieldOf near.to []) ≡ Some (ToCall next) =
    call_there (landed_by table (FieldOf near.to [])) next (ap (λ l. option_and_then landed_call (landed_by table (FieldOf l.to []))) is_near ∙ lands) in
    let turn : f (FieldOf near.to path) ≡ Some (FieldOf next path) = call_turn table bound (FieldOf near.to path) next (lands_anyhow table near.to next landed path) in
    reached_at f near.turns (suc far.turns) count (Some (FieldOf c path)) (omega (arith, sum)) ∙ ap (λ o. after_turns f (suc far.turns) o) first ∙ ap (λ o. after_turns f far.turns o) turn ∙ second
