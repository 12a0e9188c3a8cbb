-- How many turns a walk makes at most that doesn't go in a circle.
use Rattle.std.proofs.Common.{◌≡◌, ◌<◌, refl, sym, ◌∙◌, ap, ap₂, subst, ℕ, zero, suc, ◌+◌, ◌*◌, ◌/◌, ◌%◌, ◌==◌, inl, inr, List, [], ◌∷◌, length, map, cond, Bool, true, false, Option, Some, None, if◌then◌else◌, option_map, option_and_then, arith}
use Rattle.std.specs.Prelude.{slice_get, ◌||◌}
use Rattle.std.specs.List.{list_any}
use Rattle.std.specs.Ordering.{nat_cmp, is_eq}
use Rattle.std.specs.Str.{bytes_eq as same_path}
use Rattle.std.proofs.lemmas.Bool.{false≢true, or_left, or_right}
use Rattle.std.proofs.lemmas.List.{length-map}
use Rattle.std.proofs.lemmas.Nat.{mul-add-lt, div-mul-add, mod-mul-add}
use Rattle.std.proofs.lemmas.Slice.Eq.{bytes_eq-Decides}
use Rattle.rising_table.specs.Entries.{entry_at}
use Rattle.vat_view.specs.declared.tables.turns.settlements.Settlements.{Settlements}
use Rattle.vat_view.specs.declared.tables.references.BoundReferences.{BoundReferences}
use Rattle.vat_view.specs.declared.tables.references.Binding.{Binding}
use Rattle.vat_view.specs.declared.tables.turns.handovers.Handover.{Handover}
use Rattle.vat_view.specs.declared.tables.turns.handovers.HandedCall.{HandedCall}
use Rattle.vat_view.specs.declared.walks.landing.Landing.{Landing}
use Rattle.vat_view.specs.declared.walks.landing.Landing.TheVariants.{Reference as ToReference, Call as ToCall}
use Rattle.vat_view.specs.Types.{View, Object, Promise, FieldOf, Import}
use Rattle.vat_view.specs.Glue.Tables.{bound_at}
use Rattle.decoded_records.specs.Glue.Parts.{field_path}
use Rattle.vat_view.specs.Glue.TurnTables.{Turning, landing_of, landing_view, settled_at, handover_at, by_handover, handovers_len, call_behind_by, turning_by, landed_by, bound_len, most_turns, turns_of, after_turns}
use Rattle.vat_view.proofs.Walking.{IsFew, cases_option, none_some, some_same, reached_more}
use Rattle.vat_view.proofs.Settled.{turn_landing}

-- ---- the place of a number in a table

abbrev spot : {X : Type 0} → ℕ → List (ℕ × X) → ℕ
spot r [] = 0
spot r (e ∷ es) = cond (is_eq (nat_cmp r e.0)) 0 (suc (spot r es))

abbrev value_there : {X : Type 0} → List (ℕ × X) → ℕ → Option X
value_there es k = option_map (λ e. e.1) (slice_get es k)

choose : {X : Type 0} (b : Bool) (e : ℕ × X) (es : List (ℕ × X)) (o : Option X) (s : ℕ) (x : X) → (o ≡ Some x → (s < length es) × (value_there es s ≡ Some x)) →
    cond b (Some e.1) o ≡ Some x → (cond b 0 (suc s) < length (e ∷ es)) × (value_there (e ∷ es) (cond b 0 (suc s)) ≡ Some x)
choose true e es o s x rest h = (omega arith, h)
choose false e es o s x rest h = (omega (arith, (rest h).0), (rest h).1)

found : {X : Type 0} (r : ℕ) (es : List (ℕ × X)) (x : X) → entry_at es r ≡ Some x → (spot r es < length es) × (value_there es (spot r es) ≡ Some x)
found r [] x h = absurd (none_some x h)
found r (e ∷ es) x h = choose (is_eq (nat_cmp r e.0)) e es (entry_at es r) (spot r es) x (found r es x) h

-- ---- the place of a path among others

abbrev path_spot : List ℕ → List (List ℕ) → ℕ
path_spot p [] = 0
path_spot p (q ∷ qs) = if same_path q p then 0 else suc (path_spot p qs)

abbrev has_path : List ℕ → List (List ℕ) → Bool
has_path p qs = list_any (λ q. same_path q p) qs

path_chosen : (b : Bool) (p q : List ℕ) (qs : List (List ℕ)) (s : ℕ) → (b ≡ true → q ≡ p) → (b ≡ false → (s < length qs) × (slice_get qs s ≡ Some p)) →
    ((if b then 0 else suc s) < length (q ∷ qs)) × (slice_get (q ∷ qs) (if b then 0 else suc s) ≡ Some p)
path_chosen true p q qs s here rest = (omega arith, ap (λ x. Some x) (here refl))
path_chosen false p q qs s here rest = (omega (arith, (rest refl).0), (rest refl).1)

path_found : (p : List ℕ) (qs : List (List ℕ)) → has_path p qs ≡ true → (path_spot p qs < length qs) × (slice_get qs (path_spot p qs) ≡ Some p)
path_found p [] h = absurd (false≢true h)
path_found p (q ∷ qs) h =
    path_chosen (same_path q p) p q qs (path_spot p qs) (λ same. (bytes_eq-Decides q p).0 same)
    (λ apart. path_found p qs (sym (ap (λ b. b || has_path p qs) apart) ∙ h))

itself : (p : List ℕ) (qs : List (List ℕ)) → has_path p (p ∷ qs) ≡ true
itself p qs = or_left (same_path p p) (has_path p qs) ((bytes_eq-Decides p p).1 refl)

-- the paths of the views of references
abbrev bound_paths : List (ℕ × Binding) → List (List ℕ)
bound_paths es = map (λ e. field_path e.1.view) es

bound_path : (r : ℕ) (es : List (ℕ × Binding)) (b : Binding) → entry_at es r ≡ Some b → has_path (field_path b.view) (bound_paths es) ≡ true
bound_path r [] b h = absurd (none_some b h)
bound_path r (e ∷ es) b h = inner (bound_path r es b) (is_eq (nat_cmp r e.0)) h
  where
    inner : (entry_at es r ≡ Some b → has_path (field_path b.view) (bound_paths es) ≡ true) → (c : Bool) → cond c (Some e.1) (entry_at es r) ≡ Some b → has_path (field_path b.view) (bound_paths (e ∷ es)) ≡ true
    inner rest true g =
        or_left (same_path (field_path e.1.view) (field_path b.view)) (has_path (field_path b.view) (bound_paths es))
        ((bytes_eq-Decides (field_path e.1.view) (field_path b.view)).1 (ap (λ x. field_path x.view) (some_same e.1 b g)))
    inner rest false g = or_right (same_path (field_path e.1.view) (field_path b.view)) (has_path (field_path b.view) (bound_paths es)) (rest g)

-- ---- where a view lands

-- what lands on a call has that call behind it
landing_call : (r by : Option ℕ) (d : ℕ) → landing_of (r, by) ≡ Some (ToCall d) → by ≡ Some d
landing_call r (Some by) d h = let same : by ≡ d = cc in ap (λ x. Some x) same
landing_call (Some r) None d h = let no : ⊥ = cc in absurd no
landing_call None None d h = absurd (none_some (ToCall d) h)

module _ (table : Settlements) where
  -- so the call behind the settling of a view is this one
  behind_call : (v : View) (d : ℕ) → landed_by table v ≡ Some (ToCall d) → (k : ℕ) × (call_behind_by table v k ≡ Some d)
  behind_call v d h = inner (settled_at table v) h
    where
      inner : (o : Option (ℕ × Option ℕ)) → option_and_then landing_of (option_map {U = Turning} (λ s. (s.1, call_behind_by table v s.0)) o) ≡ Some (ToCall d) → (k : ℕ) × (call_behind_by table v k ≡ Some d)
      inner None g = absurd (none_some (ToCall d) g)
      inner (Some s) g = (s.0, landing_call s.1 (call_behind_by table v s.0) d g)

  handed_so : (o : Option Handover) (k d : ℕ) → by_handover k o ≡ Some d → (h : Handover) × (o ≡ Some h) × (h.by ≡ d)
  handed_so None k d h = absurd (none_some d h)
  handed_so (Some x) k d h = inner (x.number == k) h
    where
      inner : (b : Bool) → (if b then Some x.by else None) ≡ Some d → (h : Handover) × (Some x ≡ Some h) × (h.by ≡ d)
      inner true g = (x, refl, some_same x.by d g)
      inner false g = absurd (none_some d g)

  abbrev IsHanded : View → ℕ → Type 0
  IsHanded v d = (c : ℕ) × (path : List ℕ) × (h : Handover) × (v ≡ FieldOf c path) × (handover_at table c ≡ Some h) × (h.by ≡ d)

  handed_over : (v : View) (d : ℕ) → landed_by table v ≡ Some (ToCall d) → IsHanded v d
  handed_over (Object object) d h = absurd (none_some (ToCall d) h)
  handed_over (Promise p) d h = let k = behind_call (Promise p) d h in absurd (none_some d k.1)
  handed_over (Import i place) d h = let k = behind_call (Import i place) d h in absurd (none_some d k.1)
  handed_over (FieldOf c path) d h =
      let k = behind_call (FieldOf c path) d h in
      let o = handed_so (handover_at table c) k.0 d k.1 in (c, path, o.0, refl, o.1, o.2)

-- the entry of a handed call
handed_entry : (es : List (ℕ × Option HandedCall)) (c : ℕ) (h : Handover) → option_map (λ handed. handed.handover) (option_and_then (λ handed. handed) (entry_at es c)) ≡ Some h →
    (x : HandedCall) × (entry_at es c ≡ Some (Some x)) × (x.handover ≡ h)
handed_entry es c h there = inner (entry_at es c) there
  where
    inner : (o : Option (Option HandedCall)) → option_map (λ handed. handed.handover) (option_and_then (λ handed. handed) o) ≡ Some h → (x : HandedCall) × (o ≡ Some (Some x)) × (x.handover ≡ h)
    inner (Some (Some x)) g = (x, refl, some_same x.handover h g)
    inner (Some None) g = absurd (none_some h g)
    inner None g = absurd (none_some h g)

bound_entry : (o : Option Binding) (w : View) → option_map (λ binding. binding.view) o ≡ Some w → (b : Binding) × (o ≡ Some b) × (b.view ≡ w)
bound_entry (Some b) w h = (b, refl, some_same b.view w h)
bound_entry None w h = absurd (none_some w h)

-- ---- the turns of a walk

module _ (table : Settlements) (bound : BoundReferences) (a : View) where
  abbrev turnings : View → Option View
  turnings v = turns_of table bound v

  abbrev paths : List (List ℕ)
  paths = field_path a ∷ bound_paths bound.entries

  abbrev calls : ℕ
  calls = handovers_len table.handovers

  paths_len : length paths ≡ bound_len bound + 1
  paths_len = let mapped = length-map bound.entries (λ e. field_path e.1.view) in omega (arith, mapped)

  lands_so : (v w : View) (l : Landing) → landed_by table v ≡ Some l → turnings v ≡ Some w → landing_view (bound_at bound) (field_path v) l ≡ Some w
  lands_so v w l lands e =
      sym (ap (λ o. option_and_then (landing_view (bound_at bound) (field_path v)) o) lands)
      ∙ sym (turn_landing (bound_at bound) (field_path v) (turning_by table v)) ∙ e

  lands_somewhere : (v w : View) → turnings v ≡ Some w → (l : Landing) × (landed_by table v ≡ Some l)
  lands_somewhere v w e = elim (cases_option (landed_by table v)) [
    | inl none ↦ absurd (none_some w
        (sym (ap (λ o. option_and_then (landing_view (bound_at bound) (field_path v)) o) none)
        ∙ sym (turn_landing (bound_at bound) (field_path v) (turning_by table v)) ∙ e))
    | inr l ↦ l
  ]

  -- each path on the way is that of the first view or of a reference
  path_on : (v w : View) (l : Landing) → landing_view (bound_at bound) (field_path v) l ≡ Some w → has_path (field_path v) paths ≡ true → has_path (field_path w) paths ≡ true
  path_on v w (ToReference r) e had =
      let b = bound_entry (entry_at bound.entries r) w e in
      or_right (same_path (field_path a) (field_path w)) (has_path (field_path w) (bound_paths bound.entries))
      (subst (λ x. has_path (field_path x) (bound_paths bound.entries) ≡ true) b.2 (bound_path r bound.entries b.0 b.1))
  path_on v w (ToCall d) e had =
      let same : FieldOf d (field_path v) ≡ w = some_same (FieldOf d (field_path v)) w e in subst (λ x. has_path (field_path x) paths ≡ true) same had

  path_met : (k : ℕ) (v : View) → after_turns turnings k (Some a) ≡ Some v → has_path (field_path v) paths ≡ true
  path_met zero v e = subst (λ x. has_path (field_path x) paths ≡ true) (some_same a v e) (itself (field_path a) (bound_paths bound.entries))
  path_met (suc k) v e = elim (cases_option (after_turns turnings k (Some a))) [
    | inl none ↦ absurd (none_some v (sym (reached_more turnings k (Some a) ∙ ap (λ o. option_and_then turnings o) none) ∙ e))
    | inr x ↦
        let turned : turnings x.0 ≡ Some v = sym (reached_more turnings k (Some a) ∙ ap (λ o. option_and_then turnings o) x.1) ∙ e in
        let l = lands_somewhere x.0 v turned in path_on x.0 v l.0 (lands_so x.0 v l.0 l.1 turned) (path_met k x.0 x.1)
  ]

  -- the number of a turn: those to references stand behind those to calls, which stand in a row for each path
  abbrev call_spot : View → ℕ
  call_spot (FieldOf c path) = spot c table.handovers.entries
  call_spot _ = 0

  abbrev numbered : View → Option Landing → ℕ
  numbered v (Some (ToReference r)) = calls * (bound_len bound + 1) + spot r bound.entries
  numbered v (Some (ToCall d)) = path_spot (field_path v) paths * calls + call_spot v
  numbered v None = 0

  abbrev pub turn_number : View → ℕ
  turn_number v = numbered v (landed_by table v)

  -- what stands at a reference's place
  to_reference : (r : ℕ) (w : View) → bound_at bound r ≡ Some w → (spot r bound.entries < bound_len bound) × (option_map (λ binding. binding.view) (value_there bound.entries (spot r bound.entries)) ≡ Some w)
  to_reference r w e =
      let b = bound_entry (entry_at bound.entries r) w e in
      let place = found r bound.entries b.0 b.1 in (place.0, ap (λ o. option_map (λ binding. binding.view) o) place.1 ∙ ap (λ x. Some x) b.2)

  -- what stands at a call's place
  to_call : (v : View) (d : ℕ) → landed_by table v ≡ Some (ToCall d) → (call_spot v < calls) × (option_and_then (λ o. option_map (λ handed. handed.handover.by) o) (value_there table.handovers.entries (call_spot v)) ≡ Some d)
  to_call v d lands =
      let it = handed_over table v d lands in
      let entry = handed_entry table.handovers.entries it.0 it.2 it.4 in
      let place = found it.0 table.handovers.entries (Some entry.0) entry.1 in
      subst (λ x. (call_spot x < calls) × (option_and_then (λ o. option_map (λ handed. handed.handover.by) o) (value_there table.handovers.entries (call_spot x)) ≡ Some d)) (sym it.3)
      (place.0, ap (λ o. option_and_then (λ x. option_map (λ handed. handed.handover.by) x) o) place.1 ∙ ap (λ n. Some n) (ap (λ x. x.by) entry.2 ∙ it.5))

  number_below : (v w : View) (l : Landing) → landed_by table v ≡ Some l → turnings v ≡ Some w → has_path (field_path v) paths ≡ true → numbered v (Some l) < most_turns table bound
  number_below v w (ToReference r) lands e had = let place = to_reference r w (lands_so v w (ToReference r) lands e) in let near = place.0 in omega (arith, near)
  number_below v w (ToCall d) lands e had =
      let place = to_call v d lands in
      let row = path_found (field_path v) paths had in
      let near : path_spot (field_path v) paths < bound_len bound + 1 = subst (λ n. path_spot (field_path v) paths < n) paths_len row.0 in
      let below = mul-add-lt (path_spot (field_path v) paths) calls (call_spot v) (bound_len bound + 1) near place.0 in omega (arith, below)

  one_call : (v w x y : View) (d g : ℕ) → landed_by table v ≡ Some (ToCall d) → turnings v ≡ Some w → has_path (field_path v) paths ≡ true →
      landed_by table x ≡ Some (ToCall g) → turnings x ≡ Some y → has_path (field_path x) paths ≡ true →
      path_spot (field_path v) paths * calls + call_spot v ≡ path_spot (field_path x) paths * calls + call_spot x → w ≡ y
  one_call v w x y d g lands e had others f has same =
      let place = to_call v d lands in
      let other = to_call x g others in
      let rows : path_spot (field_path v) paths ≡ path_spot (field_path x) paths =
      sym (div-mul-add (path_spot (field_path v) paths) calls (call_spot v) place.0) ∙ ap (λ n. n / calls) same ∙ div-mul-add (path_spot (field_path x) paths) calls (call_spot x) other.0 in
      let spots : call_spot v ≡ call_spot x =
      sym (mod-mul-add (path_spot (field_path v) paths) calls (call_spot v) place.0) ∙ ap (λ n. n % calls) same ∙ mod-mul-add (path_spot (field_path x) paths) calls (call_spot x) other.0 in
      let path : field_path v ≡ field_path x =
      some_same (field_path v) (field_path x) (sym (path_found (field_path v) paths had).1 ∙ ap (λ n. slice_get paths n) rows ∙ (path_found (field_path x) paths has).1) in
      let by : d ≡ g =
      some_same d g (sym place.1 ∙ ap (λ n. option_and_then (λ o. option_map (λ handed. handed.handover.by) o) (value_there table.handovers.entries n)) spots ∙ other.1) in
      some_same w y (sym (lands_so v w (ToCall d) lands e) ∙ ap₂ (λ c p. Some (FieldOf c p)) by path ∙ lands_so x y (ToCall g) others f)

  -- turns of one number go to one view
  one_turn : (v w x y : View) (l m : Landing) → landed_by table v ≡ Some l → turnings v ≡ Some w → has_path (field_path v) paths ≡ true →
      landed_by table x ≡ Some m → turnings x ≡ Some y → has_path (field_path x) paths ≡ true → numbered v (Some l) ≡ numbered x (Some m) → w ≡ y
  one_turn v w x y (ToReference r) (ToReference s) lands e had others f has same =
      let here = to_reference r w (lands_so v w (ToReference r) lands e) in
      let there = to_reference s y (lands_so x y (ToReference s) others f) in
      let spots : spot r bound.entries ≡ spot s bound.entries = omega (arith, same) in
      some_same w y (sym here.1 ∙ ap (λ n. option_map (λ binding. binding.view) (value_there bound.entries n)) spots ∙ there.1)
  one_turn v w x y (ToReference r) (ToCall g) lands e had others f has same =
      let place = to_call x g others in
      let near : path_spot (field_path x) paths < bound_len bound + 1 = subst (λ n. path_spot (field_path x) paths < n) paths_len (path_found (field_path x) paths has).0 in
      let below = mul-add-lt (path_spot (field_path x) paths) calls (call_spot x) (bound_len bound + 1) near place.0 in absurd (let no : ⊥ = omega (arith, below, same) in no)
  one_turn v w x y (ToCall d) (ToReference s) lands e had others f has same =
      let place = to_call v d lands in
      let near : path_spot (field_path v) paths < bound_len bound + 1 = subst (λ n. path_spot (field_path v) paths < n) paths_len (path_found (field_path v) paths had).0 in
      let below = mul-add-lt (path_spot (field_path v) paths) calls (call_spot v) (bound_len bound + 1) near place.0 in absurd (let no : ⊥ = omega (arith, below, same) in no)
  one_turn v w x y (ToCall d) (ToCall g) lands e had others f has same = one_call v w x y d g lands e had others f has same

  pub few : IsFew turnings a turn_number (most_turns table bound)
  few = record {
    below = λ k v w there e.
        let l = lands_somewhere v w e in subst (λ o. numbered v o < most_turns table bound) (sym l.1) (number_below v w l.0 l.1 e (path_met k v there));
    one = λ k n v w x y there e also f same.
        let l = lands_somewhere v w e in
        let m = lands_somewhere x y f in
        one_turn v w x y l.0 m.0 l.1 e (path_met k v there) m.1 f (path_met n x also) (sym (ap (λ o. numbered v o) l.1) ∙ same ∙ ap (λ o. numbered x o) m.1);
  }
