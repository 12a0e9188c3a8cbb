-- Each lane takes its turns, one lane after another.
use Rattle.std.proofs.Common.{◌≡◌, ℕ, suc, zero, ◌+◌, ◌<◌, ◌≤◌, Bool, true, false, List, [], ◌∷◌, ◌++◌, length, map, reverse, get_or, Option, Some, refl, sym, ap, subst, ◌∙◌, arith, inl, inr}
use Rattle.std.specs.Prelude.{◌≢◌, ◌⊎◌, Contains, option_map, slice_get, slice_set}
use Rattle.std.specs.List.{filter_map}
use Rattle.std.proofs.lemmas.Bool.{eq-eqb, cases_eq, cases_lt}
use Rattle.std.proofs.lemmas.List.{reverse-append, append_assoc, reverse-reverse}
use Rattle.std.proofs.lemmas.Option.{slice_get-map, slice_get-get_or}
use Rattle.std.proofs.lemmas.List.Elements.{filter_map-append, Contains-append_cases}
use Rattle.merge_order.proofs.Greedy.{eqb_apart}
use Rattle.byte_pieces.specs.Coming.{CameSoFar}
use Rattle.vat_log.specs.Log.{Log}
use Rattle.vat_log.specs.declared.body.Body.{Body}
use Rattle.turn_taking.specs.Turns.{Turns, records_taken, of_vat, AreInOrder}
use Rattle.turn_taking.specs.Lanes.{LaneSoFar}
use Rattle.turn_taking.specs.Turned.{Taken}
use Rattle.turn_taking.specs.Pass.{lane_vat, turns_with, IsLaneAt, AreInStep, IsLaneHeldUp, TookTurns, AreThere, IsRound}

-- ---- places of a list

pub set_there : {X : Type 0} (xs : List X) (i : ℕ) (x : X) → i < length xs → slice_get (slice_set xs i x) i ≡ Some x
set_there [] i x lt = absurd (omega arith)
set_there (y ∷ xs) zero x lt = refl
set_there (y ∷ xs) (suc i) x lt = set_there xs i x (omega arith)

pub set_other : {X : Type 0} (xs : List X) (i j : ℕ) (x : X) → i ≢ j → slice_get (slice_set xs i x) j ≡ slice_get xs j
set_other [] i j x apart = refl
set_other (y ∷ xs) zero zero x apart = absurd (apart refl)
set_other (y ∷ xs) zero (suc j) x apart = refl
set_other (y ∷ xs) (suc i) zero x apart = refl
set_other (y ∷ xs) (suc i) (suc j) x apart = set_other xs i j x (λ e. apart (ap suc e))

pub map_set : {X Y : Type 0} (f : X → Y) (xs : List X) (i : ℕ) (x : X) → map f (slice_set xs i x) ≡ slice_set (map f xs) i (f x)
map_set f [] i x = refl
map_set f (y ∷ xs) zero x = refl
map_set {Y = Y} f (y ∷ xs) (suc i) x = ap (λ (l : List Y). f y ∷ l) (map_set f xs i x)

-- ---- turns of one vat

own_turns : (v : ℕ) (bodies : List Body) → filter_map (of_vat v) (map (λ b. (v, b)) bodies) ≡ bodies
own_turns v [] = refl
own_turns v (b ∷ bodies) = rw (eq-eqb v v refl) (ap (λ (l : List Body). b ∷ l) (own_turns v bodies))

no_turns : (v w : ℕ) (bodies : List Body) → v ≢ w → filter_map (of_vat w) (map (λ b. (v, b)) bodies) ≡ []
no_turns v w [] apart = refl
no_turns v w (b ∷ bodies) apart = rw (eqb_apart v w apart) (no_turns v w bodies apart)

records_with_own : (v : ℕ) (bodies : List Body) (turns : Turns) → records_taken v (turns_with v bodies ++ turns) ≡ records_taken v turns ++ bodies
records_with_own v bodies turns =
    ap reverse (filter_map-append (of_vat v) (turns_with v bodies) turns ∙ ap (λ (l : List Body). l ++ filter_map (of_vat v) turns) (own_turns v (reverse bodies)))
    ∙ reverse-append (reverse bodies) (filter_map (of_vat v) turns) ∙ ap (λ (l : List Body). records_taken v turns ++ l) (reverse-reverse bodies)

records_with_other : (v w : ℕ) (bodies : List Body) (turns : Turns) → v ≢ w → records_taken w (turns_with v bodies ++ turns) ≡ records_taken w turns
records_with_other v w bodies turns apart =
    ap reverse (filter_map-append (of_vat w) (turns_with v bodies) turns ∙ ap (λ (l : List Body). l ++ filter_map (of_vat w) turns) (no_turns v w (reverse bodies) apart))

-- turns of a vat with these records
abbrev turns_in : ℕ → List Body → Turns
turns_in v bodies = map (λ b. (v, b)) bodies

turn_in : (v : ℕ) (bodies : List Body) (turn : ℕ × Body) (k : ℕ) → k < length (turns_in v bodies) → get_or (turns_in v bodies) k turn ≡ turn → v ≡ turn.0
turn_in v [] turn k lt e = absurd (omega arith)
turn_in v (b ∷ bodies) turn zero lt e = ap (λ (t : ℕ × Body). t.0) e
turn_in v (b ∷ bodies) turn (suc k) lt e = turn_in v bodies turn k (omega arith) e

turn_of : (v : ℕ) (bodies : List Body) (turns : Turns) (turn : ℕ × Body) → Contains (turns_with v bodies ++ turns) turn → (v ≡ turn.0) ⊎ Contains turns turn
turn_of v bodies turns turn there =
    elim (Contains-append_cases (turns_with v bodies) turns turn there) [
      | inl own ↦ inl (turn_in v (reverse bodies) turn own.0 own.1 own.2)
      | inr old ↦ inr old
    ]

-- ---- one lane of several takes its turns

pub within : {X : Type 0} (xs : List X) (i : ℕ) (x : X) → slice_get xs i ≡ Some x → i < length xs
within [] i x e = absurd cc
within (y ∷ xs) zero x e = omega arith
within (y ∷ xs) (suc i) x e = let lt = within xs i x e in omega arith

lane_is : (one other : LaneSoFar) → ◌≡◌ {A = Option (Option LaneSoFar)} (Some (Some one)) (Some (Some other)) → one ≡ other
lane_is one other e = cc

module _ (lanes : List (Option LaneSoFar)) (i : ℕ) (lane after : LaneSoFar) (there : IsLaneAt lanes i lane) (taken more : Taken) (count : ℕ) (took : TookTurns lane after taken more count) where
  abbrev later : List (Option LaneSoFar)
  later = slice_set lanes i (Some after)

  abbrev v : ℕ
  v = lane_vat lane

  same_vat : lane_vat after ≡ v
  same_vat = ap (λ (r : Log). r.vat) took.log

  -- the lane at a place is this one, or as it was
  at_place : (j : ℕ) (one : LaneSoFar) → IsLaneAt later j one → ((i ≡ j) × (after ≡ one)) ⊎ ((i ≢ j) × IsLaneAt lanes j one)
  at_place j one is =
      elim (cases_eq i j) [
        | inl same ↦ inl (same, lane_is after one (sym (set_there lanes i (Some after) (within lanes i (Some lane) there)) ∙ ap (slice_get later) same ∙ is))
        | inr apart ↦ inr (apart, sym (set_other lanes i j (Some after) apart) ∙ is)
      ]

  before_at : (j : ℕ) (one : LaneSoFar) → IsLaneAt later j one → (before : LaneSoFar) × IsLaneAt lanes j before × (one.log ≡ before.log) × (one.has_ended ≡ before.has_ended) × (one.came ≡ before.came)
  before_at j one is =
      elim (at_place j one is) [
        | inl own ↦ (lane, sym (ap (slice_get lanes) own.0) ∙ there, ap (λ (l : LaneSoFar). l.log) (sym own.1) ∙ took.log, ap (λ (l : LaneSoFar). l.has_ended) (sym own.1) ∙ took.ended, ap (λ (l : LaneSoFar). l.came) (sym own.1) ∙ took.came)
        | inr other ↦ (one, other.1, refl, refl, refl)
      ]

  later_at : (j : ℕ) (one : LaneSoFar) → IsLaneAt lanes j one → (now : LaneSoFar) × IsLaneAt later j now × (lane_vat now ≡ lane_vat one)
  later_at j one is =
      elim (cases_eq i j) [
        | inl same ↦
            let own : lane ≡ one = lane_is lane one (sym there ∙ ap (slice_get lanes) same ∙ is) in
            (after, ap (slice_get later) (sym same) ∙ set_there lanes i (Some after) (within lanes i (Some lane) there), same_vat ∙ ap lane_vat own)
        | inr apart ↦ (one, set_other lanes i j (Some after) apart ∙ is, refl)
      ]

  module _ (so : AreInStep lanes taken.all) where
    own_records : after.log.records ≡ records_taken v more.all ++ after.ahead
    own_records =
        ap (λ (r : Log). r.records) took.log ∙ so.each i lane there ∙ ap (λ (l : List Body). records_taken v taken.all ++ l) took.ahead
        ∙ sym (append_assoc (records_taken v taken.all) took.records after.ahead)
        ∙ ap (λ (l : List Body). l ++ after.ahead) (sym (records_with_own v took.records taken.all) ∙ ap (records_taken v) (sym took.all))

    each_now : (j : ℕ) (one : LaneSoFar) → IsLaneAt later j one → one.log.records ≡ records_taken (lane_vat one) more.all ++ one.ahead
    each_now j one is =
        elim (at_place j one is) [
          | inl own ↦ subst (λ (l : LaneSoFar). l.log.records ≡ records_taken (lane_vat l) more.all ++ l.ahead) own.1
              (own_records ∙ ap (λ (w : ℕ). records_taken w more.all ++ after.ahead) (sym same_vat))
          | inr other ↦
              let apart : v ≢ lane_vat one = λ e. other.0 (so.apart i j lane one there other.1 e) in
              so.each j one other.1 ∙ ap (λ (l : List Body). l ++ one.ahead) (sym (ap (records_taken (lane_vat one)) took.all ∙ records_with_other v (lane_vat one) took.records taken.all apart))
        ]

    known_now : (turn : ℕ × Body) → Contains more.all turn → (j : ℕ) × (one : LaneSoFar) × IsLaneAt later j one × (lane_vat one ≡ turn.0)
    known_now turn has =
        elim (turn_of v took.records taken.all turn (subst (λ (t : Turns). Contains t turn) took.all has)) [
          | inl own ↦ let now = later_at i lane there in (i, now.0, now.1, now.2 ∙ own)
          | inr old ↦ let at = so.known turn old in let now = later_at at.0 at.1 at.2 in (at.0, now.0, now.1, now.2 ∙ at.3)
        ]

    pub in_step_now : AreInStep later more.all
    in_step_now = record {
      each = each_now;
      apart = λ j k one other is is_too same. (
          let b = before_at j one is in
          let c = before_at k other is_too in
          so.apart j k b.0 c.0 b.1 c.1 (sym (ap (λ (r : Log). r.vat) b.2) ∙ same ∙ ap (λ (r : Log). r.vat) c.2)
          );
      known = known_now;
    }

-- ---- one lane after another

pub mapped_at : {X Y : Type 0} (f : X → Y) (xs : List X) (i : ℕ) (d : X) → i < length xs → slice_get (map f xs) i ≡ Some (f (get_or xs i d))
mapped_at f xs i d lt = slice_get-map f xs i ∙ ap (option_map f) (slice_get-get_or xs i d lt)

-- the lanes up to a place took their turns
pub record RoundSoFar (lanes now : List (Option LaneSoFar)) (taken more : Taken) (some : Bool) (place : ℕ) : Type 0 where
  pub there : AreThere now
  pub in_step : AreInStep lanes taken.all → AreInStep now more.all
  pub in_order : AreInOrder taken.in_order → AreInOrder more.in_order
  pub phase : more.is_stuck ≡ taken.is_stuck
  pub kept : taken.is_stuck ≡ true → more.in_order ≡ taken.in_order
  pub alike : taken.is_stuck ≡ false → taken.all ≡ taken.in_order → more.all ≡ more.in_order
  pub reads : (i : ℕ) (lane : LaneSoFar) → IsLaneAt now i lane → (before : LaneSoFar) × IsLaneAt lanes i before × (lane.log ≡ before.log) × (lane.has_ended ≡ before.has_ended) × (lane.came ≡ before.came)
  pub same : some ≡ false → (i : ℕ) (lane : LaneSoFar) → IsLaneAt now i lane → IsLaneAt lanes i lane
  pub still : some ≡ false → (i : ℕ) (lane : LaneSoFar) → i < place → IsLaneAt now i lane → IsLaneHeldUp more lane

pub round_begins : (lanes : List (Option LaneSoFar)) (taken : Taken) → AreThere lanes → RoundSoFar lanes lanes taken taken false 0
round_begins lanes taken there = record {
  there = there;
  in_step = λ so. so;
  in_order = λ so. so;
  phase = refl;
  kept = λ stuck. refl;
  alike = λ free same. same;
  reads = λ i lane is. (lane, is, refl, refl, refl);
  same = λ none i lane is. is;
  still = λ none i lane lt. absurd (omega arith);
}

pub length_set : {X : Type 0} (xs : List X) (i : ℕ) (x : X) → length (slice_set xs i x) ≡ length xs
length_set [] i x = refl
length_set (y ∷ xs) zero x = refl
length_set (y ∷ xs) (suc i) x = ap suc (length_set xs i x)

none_taken : (records ahead : List Body) → length records ≡ 0 → records ++ ahead ≡ ahead
none_taken [] ahead none = refl
none_taken (b ∷ records) ahead none = absurd (omega (arith, none))

same_lane : (a b : LaneSoFar) → b.came ≡ a.came → b.log ≡ a.log → b.has_ended ≡ a.has_ended → a.ahead ≡ b.ahead → a ≡ b
same_lane a b came log ended ahead =
    ap (λ (x : CameSoFar). let l : LaneSoFar = record { came = x; log = a.log; ahead = a.ahead; has_ended = a.has_ended } in l) (sym came)
    ∙ ap (λ (x : Log). let l : LaneSoFar = record { came = b.came; log = x; ahead = a.ahead; has_ended = a.has_ended } in l) (sym log)
    ∙ ap (λ (x : List Body). let l : LaneSoFar = record { came = b.came; log = b.log; ahead = x; has_ended = a.has_ended } in l) ahead
    ∙ ap (λ (x : Bool). let l : LaneSoFar = record { came = b.came; log = b.log; ahead = b.ahead; has_ended = x } in l) (sym ended)

no_turns_taken : (v : ℕ) (records : List Body) (turns : Turns) → length records ≡ 0 → turns_with v records ++ turns ≡ turns
no_turns_taken v [] turns none = refl
no_turns_taken v (b ∷ records) turns none = absurd (omega (arith, none))

in_order_same : (stuck : Bool) (before after : Turns) (v : ℕ) (records : List Body) → length records ≡ 0 → (stuck ≡ false → after ≡ turns_with v records ++ before) → (stuck ≡ true → after ≡ before) → after ≡ before
in_order_same true before after v records none free stuck = stuck refl
in_order_same false before after v records none free stuck = free refl ∙ no_turns_taken v records before none

same_turns : (a b : Taken) → a.in_order ≡ b.in_order → a.all ≡ b.all → a.is_stuck ≡ b.is_stuck → a ≡ b
same_turns a b in_order all phase =
    ap (λ (x : Turns). let t : Taken = record { in_order = x; all = a.all; is_stuck = a.is_stuck } in t) in_order
    ∙ ap (λ (x : Turns). let t : Taken = record { in_order = b.in_order; all = x; is_stuck = a.is_stuck } in t) all
    ∙ ap (λ (x : Bool). let t : Taken = record { in_order = b.in_order; all = b.all; is_stuck = x } in t) phase

-- where no record was taken, no turn was
unchanged_turns : (more next : Taken) (v : ℕ) (records : List Body) → length records ≡ 0 → next.is_stuck ≡ more.is_stuck → next.all ≡ turns_with v records ++ more.all
    → (more.is_stuck ≡ false → next.in_order ≡ turns_with v records ++ more.in_order) → (more.is_stuck ≡ true → next.in_order ≡ more.in_order) → next ≡ more
unchanged_turns more next v records none phase all free stuck =
    same_turns next more (in_order_same more.is_stuck more.in_order next.in_order v records none free stuck) (all ∙ no_turns_taken v records more.all none) phase

module _ (lanes now : List (Option LaneSoFar)) (taken more : Taken) (some : Bool) (place : ℕ) (so : RoundSoFar lanes now taken more some place) (lane after : LaneSoFar)
    (at : IsLaneAt now place lane) (next : Taken) (took : ℕ) (turned : TookTurns lane after more next took) where
  abbrev here : List (Option LaneSoFar)
  here = slice_set now place (Some after)

  there_now : AreThere here
  there_now i lt =
      let old = so.there i (let e = length_set now place (Some after) in omega (arith, e, lt)) in
      let found = later_at now place lane after at more next took turned i old.0 old.1 in
      (found.0, found.1)

  reads_now : (i : ℕ) (one : LaneSoFar) → IsLaneAt here i one → (before : LaneSoFar) × IsLaneAt lanes i before × (one.log ≡ before.log) × (one.has_ended ≡ before.has_ended) × (one.came ≡ before.came)
  reads_now i one is =
      let b = before_at now place lane after at more next took turned i one is in
      let first = so.reads i b.0 b.1 in
      (first.0, first.1, b.2 ∙ first.2, b.3 ∙ first.3, b.4 ∙ first.4)

  pub goes_on : (now_some : Bool) → (now_some ≡ false → (some ≡ false) × (took ≡ 0)) → (took ≡ 0 → IsLaneHeldUp next after) → RoundSoFar lanes here taken next now_some (place + 1)
  goes_on now_some none held = record {
    there = there_now;
    in_step = λ begun. in_step_now now place lane after at more next took turned (so.in_step begun);
    in_order = λ begun. turned.in_order (so.in_order begun);
    phase = turned.phase ∙ so.phase;
    kept = λ stuck. turned.kept (so.phase ∙ stuck) ∙ so.kept stuck;
    alike = λ free same.
        turned.all ∙ ap (λ (t : Turns). turns_with (lane_vat lane) turned.records ++ t) (so.alike free same) ∙ sym (turned.in_turn (so.phase ∙ free));
    reads = reads_now;
    same = λ nothing i one is. (
        let both = none nothing in
        elim (at_place now place lane after at more next took turned i one is) [
          | inl own ↦
              let unchanged : lane ≡ after = same_lane lane after turned.came turned.log turned.ended (turned.ahead ∙ none_taken turned.records after.ahead (turned.counted ∙ both.1)) in
              sym (ap (slice_get lanes) own.0) ∙ so.same both.0 place lane at ∙ ap (λ (l : LaneSoFar). Some (Some l)) (unchanged ∙ own.1)
          | inr other ↦ so.same both.0 i one other.1
        ]
        );
    still = λ nothing i one lt is. (
        let both = none nothing in
        elim (at_place now place lane after at more next took turned i one is) [
          | inl own ↦ subst (IsLaneHeldUp next) own.1 (held both.1)
          | inr other ↦
              subst (λ (t : Taken). IsLaneHeldUp t one) (sym (unchanged_turns more next (lane_vat lane) turned.records (turned.counted ∙ both.1) turned.phase turned.all turned.in_turn turned.kept))
              (so.still both.0 i one (let apart = λ (e : place ≡ i). other.0 e in before_place i lt apart) other.1)
        ]
        );
  }
    where
      before_place : (i : ℕ) → i < place + 1 → (place ≡ i → ⊥) → i < place
      before_place i lt apart = elim (cases_lt i place) [
        | inl less ↦ less
        | inr ge ↦ absurd (apart (omega (arith, lt, ge)))
      ]

pub round_ends : (lanes now : List (Option LaneSoFar)) (taken more : Taken) (some : Bool) (place : ℕ) → RoundSoFar lanes now taken more some place → length now ≤ place
    → AreThere now × IsRound lanes now taken more some
round_ends lanes now taken more some place so le = (
  so.there,
  record {
    in_step = so.in_step;
    in_order = so.in_order;
    phase = so.phase;
    kept = so.kept;
    alike = so.alike;
    reads = so.reads;
    same = so.same;
    still = λ none i lane is. so.still none i lane (let lt = within now i (Some lane) is in omega (arith, lt, le)) is;
  },
)

some_is : {X : Type 0} (x y : X) → Some x ≡ Some y → x ≡ y
some_is x y e = cc

-- what stands at a place that has a lane
pub lane_there : {X : Type 0} (f : X → Option LaneSoFar) (xs : List X) (i : ℕ) (d : X) (lane : LaneSoFar) → i < length xs → IsLaneAt (map f xs) i lane → f (get_or xs i d) ≡ Some lane
lane_there f xs i d lane lt at = some_is (f (get_or xs i d)) (Some lane) (sym (mapped_at f xs i d lt) ∙ at)
