-- Records are taken by an order.
use Rattle.std.proofs.Common.{◌≡◌, ℕ, suc, zero, ◌+◌, Bool, true, false, List, [], ◌∷◌, ◌++◌, length, take, map, get_or, if◌then◌else◌, Option, Some, None, refl, sym, ap, subst, ◌∙◌, arith, inl, inr}
use Rattle.std.specs.Prelude.{IfSome, is_none, option_map, slice_get, slice_set}
use Rattle.std.proofs.lemmas.Bool.{cases_eq}
use Rattle.std.proofs.lemmas.Option.{slice_get-get_or}
use Rattle.std.proofs.lemmas.List.{append-nil, append_assoc, reverse-append, take_more}
use Rattle.vat_log.specs.Log.{Log}
use Rattle.vat_log.specs.declared.body.Body.{Body}
use Rattle.turn_taking.specs.Turns.{Turns, order_of}
use Rattle.turn_taking.specs.Followed.{IsStep, IsVatHeldUp, AreFollowed, AreFollowedToTheEnd}
use Rattle.turn_taking.specs.Lanes.{LaneSoFar, GoesOn, HasNext, without_first}
use Rattle.turn_taking.specs.Turned.{Taken, may_be_next, with_turn}
use Rattle.turn_taking.specs.Pass.{lane_vat, turns_with, AreFurther, AreThere, IsLaneHeldUp, IsLaneAt, IsPass}
use Rattle.turn_taking.proofs.Sided.{set_there, set_other, within, RoundSoFar, goes_on, length_set}
use Rattle.byte_pieces.specs.Coming.{ComesOn}
use Rattle.byte_pieces.proofs.Coming.{comes_same}
use Rattle.turn_taking.proofs.Turned.{took_none, took_more}
use Rattle.turn_taking.proofs.Stepping.{AreGrown, grown_in_step, joined}

lane_is : (one other : LaneSoFar) → ◌≡◌ {A = Option (Option LaneSoFar)} (Some (Some one)) (Some (Some other)) → one ≡ other
lane_is one other e = cc

goes_on_itself : (lane : LaneSoFar) → GoesOn lane lane
goes_on_itself lane = record { on = comes_same lane.came; vat = refl; more = []; records = sym (append-nil lane.log.records); ahead = sym (append-nil lane.ahead); over = λ ended. (refl, ended) }

-- ---- one lane is read ahead

module _ (lanes : List (Option LaneSoFar)) (place : ℕ) (lane longer : LaneSoFar) (there : IsLaneAt lanes place lane) (grown : GoesOn lane longer) where
  abbrev grown_lanes : List (Option LaneSoFar)
  grown_lanes = slice_set lanes place (Some longer)

  own_place : IsLaneAt grown_lanes place longer
  own_place = set_there lanes place (Some longer) (within lanes place (Some lane) there)

  pub one_grown : AreGrown lanes grown_lanes
  one_grown = record {
    before = λ i one is. elim (cases_eq place i) [
      | inl same ↦
          let own : longer ≡ one = lane_is longer one (sym own_place ∙ ap (slice_get grown_lanes) same ∙ is) in
          (lane, sym (ap (slice_get lanes) same) ∙ there, subst (GoesOn lane) own grown)
      | inr apart ↦ (one, sym (set_other lanes place i (Some longer) apart) ∙ is, goes_on_itself one)
    ];
    now = λ i one is. elim (cases_eq place i) [
      | inl same ↦
          let own : lane ≡ one = lane_is lane one (sym there ∙ ap (slice_get lanes) same ∙ is) in
          (longer, ap (slice_get grown_lanes) (sym same) ∙ own_place, grown.vat ∙ ap lane_vat own)
      | inr apart ↦ (one, set_other lanes place i (Some longer) apart ∙ is, refl)
    ];
  }

  there_grown : AreThere lanes → AreThere grown_lanes
  there_grown all i lt =
      let old = all i (let e = length_set lanes place (Some longer) in omega (arith, e, lt)) in
      let now = one_grown.now i old.0 old.1 in
      (now.0, now.1)

  pass_grown : (taken : Taken) → IsPass lanes taken → IsPass grown_lanes taken
  pass_grown taken pass = record {
    there = there_grown pass.there;
    in_step = grown_in_step lanes grown_lanes taken.all one_grown pass.in_step;
    in_order = pass.in_order;
    alike = pass.alike;
  }

-- ---- one lane takes a turn

begins_at : (lanes : List (Option LaneSoFar)) (taken : Taken) (place : ℕ) → AreThere lanes → RoundSoFar lanes lanes taken taken true place
begins_at lanes taken place there = record {
  there = there;
  in_step = λ so. so;
  in_order = λ so. so;
  phase = refl;
  kept = λ stuck. refl;
  alike = λ free same. same;
  reads = λ i lane is. (lane, is, refl, refl, refl);
  same = λ none. absurd (no_true none);
  still = λ none. absurd (no_true none);
}
  where
    no_true : true ≡ false → ⊥
    no_true e = cc

one_turn : (records : List Body) → length records ≡ 1 → (b : Body) × (records ≡ b ∷ [])
one_turn [] e = absurd (omega (arith, e))
one_turn (b ∷ []) e = (b, refl)
one_turn (b ∷ c ∷ records) e = absurd (omega (arith, e))

-- the order of the turns, with one more
order_with : (v : ℕ) (b : Body) (turns : Turns) → order_of ((v, b) ∷ turns) ≡ order_of turns ++ v ∷ []
order_with v b turns = reverse-append (v ∷ []) (map (λ t. t.0) turns)

set_twice : {X : Type 0} (xs : List X) (i : ℕ) (x y : X) → slice_set (slice_set xs i x) i y ≡ slice_set xs i y
set_twice [] i x y = refl
set_twice (z ∷ xs) zero x y = refl
set_twice {X} (z ∷ xs) (suc i) x y = ap (λ (l : List X). z ∷ l) (set_twice xs i x y)

module _ (lanes : List (Option LaneSoFar)) (place : ℕ) (lane : LaneSoFar) (there : IsLaneAt lanes place lane) (taken : Taken) (pass : IsPass lanes taken) (now : Option LaneSoFar) (turns : Option Taken) (took : Bool)
    (step : IsStep lane taken now turns took) where
  abbrev read : List (Option LaneSoFar)
  read = slice_set lanes place (Some step.longer)

  abbrev stepped : List (Option LaneSoFar)
  stepped = slice_set lanes place now

  read_there : IsLaneAt read place step.longer
  read_there = set_there lanes place (Some step.longer) (within lanes place (Some lane) there)

  true_false : {P : Type 0} → true ≡ false → P
  true_false e = absurd cc

  round : RoundSoFar read (slice_set read place (Some step.after)) taken step.more true (place + 1)
  round = goes_on read read taken taken true place (begins_at read taken place (there_grown lanes place lane step.longer there step.grown pass.there)) step.longer step.after read_there step.more (if took then 1 else 0)
      step.turned true (λ e. true_false e) (λ none. (step.held (not_taken took none)).0)
    where
      not_taken : (b : Bool) → ◌≡◌ {A = ℕ} (if b then 1 else 0) 0 → b ≡ false
      not_taken false e = refl
      not_taken true e = absurd (omega (arith, e))

  same_lanes : slice_set read place (Some step.after) ≡ stepped
  same_lanes = set_twice lanes place (Some step.longer) (Some step.after) ∙ ap (slice_set lanes place) (sym step.lane_is)

  pub step_passes : IsPass stepped step.more
  step_passes = subst (λ (ls : List (Option LaneSoFar)). IsPass ls step.more) same_lanes (record {
    there = round.there;
    in_step = round.in_step (pass_grown lanes place lane step.longer there step.grown taken pass).in_step;
    in_order = round.in_order pass.in_order;
    alike = λ free. round.alike (sym round.phase ∙ free) (pass.alike (sym round.phase ∙ free));
  })

  pub step_further : AreFurther lanes stepped
  step_further i one is =
      let from = round.reads i one (subst (λ (ls : List (Option LaneSoFar)). IsLaneAt ls i one) (sym same_lanes) is) in
      let old = (one_grown lanes place lane step.longer there step.grown).before i from.0 from.1 in (
        old.0,
        old.1,
        record {
          on = subst (ComesOn old.0.came) (sym from.4) old.2.on;
          vat = ap (λ (r : Log). r.vat) from.2 ∙ old.2.vat;
          more = old.2.more;
          records = ap (λ (r : Log). r.records) from.2 ∙ old.2.records;
          over = λ ended. (let over = old.2.over ended in (over.0, from.3 ∙ over.1));
        },
      )

  -- the turn that was taken
  pub step_turn : taken.is_stuck ≡ false → took ≡ true → (b : Body) × (step.more.in_order ≡ (lane_vat lane, b) ∷ taken.in_order)
  step_turn free did =
      let counted : length step.turned.records ≡ 1 = step.turned.counted ∙ ap (λ (b : Bool). if b then 1 else 0) did in
      let one = one_turn step.turned.records counted in
      (one.0, step.turned.in_turn free ∙ ap (λ (l : List Body). turns_with (lane_vat step.longer) l ++ taken.in_order) one.1 ∙ ap (λ (v : ℕ). turns_with v (one.0 ∷ []) ++ taken.in_order) step.grown.vat)

  -- where none was taken, its vat is held up
  pub step_held : took ≡ false → (v : ℕ) → lane_vat lane ≡ v → IsVatHeldUp stepped step.more v
  step_held none v own i one is same =
      let held = step.held none in
      elim (cases_eq place i) [
        | inl here ↦
            let at : IsLaneAt stepped i step.after = ap (slice_get stepped) (sym here) ∙ set_there lanes place now (within lanes place (Some lane) there) ∙ ap (λ (o : Option LaneSoFar). Some o) step.lane_is in
            let is_own : step.after ≡ one = lane_is step.after one (sym at ∙ is) in
            subst (λ (l : LaneSoFar). IsLaneHeldUp step.more l × HasNext l) is_own held
        | inr apart ↦
            let old : IsLaneAt lanes i one = sym (set_other lanes place i now apart) ∙ is in
            absurd (apart (pass.in_step.apart place i lane one there old (own ∙ sym same)))
      ]

-- ---- what a lane answers

pub step_none : (lane : Option LaneSoFar) (turns : Option Taken) (before : LaneSoFar) (taken : Taken) → IfSome lane (λ longer. GoesOn before longer × HasNext longer) → is_none lane ≡ false → turns ≡ Some taken
    → IfSome lane (λ l. None ≡ slice_get l.ahead 0) → IsStep before taken lane turns false
step_none None turns before taken grown there kept first = absurd (let no : ⊥ = cc in no)
step_none (Some longer) turns before taken grown there kept first = record {
  longer = longer;
  after = longer;
  more = taken;
  grown = grown.0;
  lane_is = refl;
  turns_are = kept;
  turned = took_none longer taken;
  held = λ none. (λ next at. no_first next (first ∙ at), grown.1);
}
  where
    no_first : {P : Type 0} (next : Body) → ◌≡◌ {A = Option Body} None (Some next) → P
    no_first next e = absurd cc

pub step_refused : (lane : Option LaneSoFar) (turns : Option Taken) (before : LaneSoFar) (taken : Taken) (v : ℕ) (body : Body) → IfSome lane (λ longer. GoesOn before longer × HasNext longer) → is_none lane ≡ false
    → turns ≡ Some taken → IfSome lane (λ l. v ≡ l.log.vat) → IfSome lane (λ l. Some body ≡ slice_get l.ahead 0) → IfSome turns (λ t. false ≡ may_be_next t v body) → IsStep before taken lane turns false
step_refused None turns before taken v body grown there kept own first follows = absurd (let no : ⊥ = cc in no)
step_refused (Some longer) turns before taken v body grown there kept own first follows = record {
  longer = longer;
  after = longer;
  more = taken;
  grown = grown.0;
  lane_is = refl;
  turns_are = kept;
  turned = took_none longer taken;
  held = λ none. (
    λ next at. ap (may_be_next taken (lane_vat longer)) (same body next (first ∙ at)) ∙ ap (λ (w : ℕ). may_be_next taken w body) (sym own) ∙ sym (subst (λ o. IfSome o (λ t. false ≡ may_be_next t v body)) kept follows),
    grown.1,
  );
}
  where
    same : (body next : Body) → ◌≡◌ {A = Option Body} (Some body) (Some next) → next ≡ body
    same body next e = cc

pub step_taken : (lane : Option LaneSoFar) (turns : Option Taken) (before : LaneSoFar) (taken : Taken) (v : ℕ) (body : Body) → IfSome lane (λ longer. GoesOn before longer × HasNext longer) → is_none lane ≡ false
    → turns ≡ Some taken → IfSome lane (λ l. v ≡ l.log.vat) → IfSome lane (λ l. Some body ≡ slice_get l.ahead 0) → IfSome turns (λ t. true ≡ may_be_next t v body) → (lane_now : Option LaneSoFar) (turns_now : Option Taken)
    → turns_now ≡ option_map (with_turn (v, body)) turns → lane_now ≡ option_map without_first lane → IsStep before taken lane_now turns_now true
step_taken None turns before taken v body grown there kept own first follows lane_now turns_now took left = absurd (let no : ⊥ = cc in no)
step_taken (Some longer) turns before taken v body grown there kept own first follows lane_now turns_now took left = record {
  longer = longer;
  after = without_first longer;
  more = with_turn (lane_vat longer, body) taken;
  grown = grown.0;
  lane_is = left;
  turns_are = took ∙ ap (option_map (with_turn (v, body))) kept ∙ ap (λ (w : ℕ). Some (with_turn (w, body) taken)) own;
  turned = took_more longer longer taken taken 0 (took_none longer taken) body (sym first)
      (ap (λ (w : ℕ). may_be_next taken w body) (sym own) ∙ sym (subst (λ o. IfSome o (λ t. true ≡ may_be_next t v body)) kept follows));
  held = λ none. absurd (no_true none);
}
  where
    no_true : true ≡ false → ⊥
    no_true e = cc

-- ---- an order, step by step

same_number : (a b : ℕ) → ◌≡◌ {A = Option ℕ} (Some a) (Some b) → a ≡ b
same_number a b e = cc

take_more_at : (xs : List ℕ) (n x : ℕ) → slice_get xs n ≡ Some x → take (n + 1) xs ≡ take n xs ++ x ∷ []
take_more_at xs n x at =
    let lt = within xs n x at in
    take_more xs n x lt ∙ ap (λ (z : ℕ). take n xs ++ z ∷ []) (same_number (get_or xs n x) x (sym (slice_get-get_or xs n x lt) ∙ at))

pub further_on : (one two three : List (Option LaneSoFar)) → AreFurther one two → AreFurther two three → AreFurther one three
further_on one two three first second i lane is =
    let b = second i lane is in
    let a = first i b.0 b.1 in
    (a.0, a.1, joined a.0 b.0 lane a.2 b.2)

module _ (lanes now : List (Option LaneSoFar)) (taken more : Taken) (order : List ℕ) (count : ℕ) (free : taken.is_stuck ≡ false) (so : AreFollowed lanes now taken more order count) (v : ℕ) (next : slice_get order count ≡ Some v) where
  free_now : more.is_stuck ≡ false
  free_now = so.phase ∙ free

  module _ (place : ℕ) (lane : LaneSoFar) (there : IsLaneAt now place lane) (own : lane_vat lane ≡ v) (o : Option LaneSoFar) (turns : Option Taken) where
    pub one_followed : (step : IsStep lane more o turns true) → AreFollowed lanes (slice_set now place o) taken step.more order (count + 1)
    one_followed step =
        let turn = step_turn now place lane there more so.pass o turns true step free_now refl in
        record {
          pass = step_passes now place lane there more so.pass o turns true step;
          further = further_on lanes now (slice_set now place o) so.further (step_further now place lane there more so.pass o turns true step);
          phase = step.turned.phase ∙ so.phase;
          turns = ap order_of turn.1 ∙ order_with (lane_vat lane) turn.0 more.in_order ∙ ap (λ (w : ℕ). order_of more.in_order ++ w ∷ []) own ∙ ap (λ (l : List ℕ). l ++ v ∷ []) so.turns
              ∙ append_assoc (order_of taken.in_order) (take count order) (v ∷ []) ∙ ap (λ (l : List ℕ). order_of taken.in_order ++ l) (sym (take_more_at order count v next));
          counted = (let before = so.counted in let longer : length step.more.in_order ≡ suc (length more.in_order) = ap length turn.1 in omega (arith, before, longer));
        }

    pub stops_held : (step : IsStep lane more o turns false) → AreFollowedToTheEnd lanes (slice_set now place o) taken step.more order count
    stops_held step =
        let same = unchanged step.turned.records step.turned.counted (step.turned.in_turn free_now) in
        record {
          followed = record {
            pass = step_passes now place lane there more so.pass o turns false step;
            further = further_on lanes now (slice_set now place o) so.further (step_further now place lane there more so.pass o turns false step);
            phase = step.turned.phase ∙ so.phase;
            turns = ap order_of same ∙ so.turns;
            counted = ap length same ∙ so.counted;
          };
          few = (let lt = within order count v next in omega (arith, lt));
          stops = λ w at. step_held now place lane there more so.pass o turns false step refl w (own ∙ same_number v w (sym next ∙ at));
        }
      where
        unchanged : (records : List Body) → length records ≡ 0 → step.more.in_order ≡ turns_with (lane_vat step.longer) records ++ more.in_order → step.more.in_order ≡ more.in_order
        unchanged [] none is = is
        unchanged (b ∷ records) none is = absurd (omega (arith, none))

pub ends_followed : (lanes now : List (Option LaneSoFar)) (taken more : Taken) (order : List ℕ) (count : ℕ) → AreFollowed lanes now taken more order count → count ≡ length order → AreFollowedToTheEnd lanes now taken more order count
ends_followed lanes now taken more order count so all = record {
  followed = so;
  few = (omega (arith, all));
  stops = λ v at. absurd (let lt = within order count v at in omega (arith, lt, all));
}
