-- All records of whole logs are taken.
use Rattle.std.proofs.Common.{◌≡◌, ℕ, ◌+◌, ◌<◌, ◌≤◌, Bool, true, false, List, [], ◌∷◌, ◌++◌, length, take, drop, get_or, if◌then◌else◌, Option, Some, None, Bor, refl, sym, ap, subst, ◌∙◌, arith, inl, inr}
use Rattle.std.specs.Prelude.{◌≢◌, IfSome, is_some, slice_get}
use Rattle.std.proofs.lemmas.Bool.{cases_lt}
use Rattle.std.proofs.lemmas.List.{take_all, take-append-drop, drop_more}
use Rattle.std.proofs.lemmas.Option.{slice_get-get_or}
use Rattle.std.specs.Option.{option_copied}
use Rattle.vat_log.specs.declared.body.Body.{Body}
use Rattle.turn_taking.specs.Orders.{AreLeft, AreStuck}
use Rattle.merge_order.specs.declared.order_check.OrderFinding.TheVariants.{Fits, Fails}
use Rattle.turn_taking.specs.Turns.{Turns, order_of, AreAll, AreOf, may_follow}
use Rattle.turn_taking.specs.Lanes.{LaneSoFar, HasNext}
use Rattle.turn_taking.specs.Turned.{Taken, given_up}
use Rattle.turn_taking.specs.Followed.{AreFollowedToTheEnd}
use Rattle.turn_taking.specs.Pass.{lane_vat, logs_of, IsLaneAt, AreThere, AreEmpty, AreFilled, AreFurther, AreHeldUp, AreOver, IsLaneHeldUp, IsPass}
use Rattle.turn_taking.specs.WholeCase.{AreTaken, AreTakenBy, EndsBehind}
use Rattle.turn_taking.proofs.Ends.{took_all, are_of, are_stuck, are_left, is_held}
use Rattle.turn_taking.proofs.Ordered.{further_on}
use Rattle.turn_taking.proofs.Stepping.{are_grown, stays_in_step, has_next}

no_bool : {P : Type 0} → true ≡ false → P
no_bool e = absurd cc

-- ---- whether a record is ahead

copied_some : {A : Type 0} (o : Option (Bor A)) → is_some (option_copied o) ≡ is_some o
copied_some None = refl
copied_some (Some x) = refl

first_some : (ahead : List Body) → is_some (slice_get ahead 0) ≡ true → ahead ≢ []
first_some [] is_so e = no_bool (sym is_so)
first_some (b ∷ ahead) is_so e = absurd cc

first_none : (ahead : List Body) → is_some (slice_get ahead 0) ≡ false → ahead ≡ []
first_none [] isnt = refl
first_none (b ∷ ahead) isnt = no_bool isnt

-- what a lane says that its first record is
abbrev pub SaysFirst : Option LaneSoFar → Option (Bor Body) → Type 0
SaysFirst o first = IfSome o (λ lane. option_copied first ≡ slice_get lane.ahead 0)

ahead_is : (o : Option LaneSoFar) (first : Option (Bor Body)) (lane : LaneSoFar) → SaysFirst o first → o ≡ Some lane → is_some first ≡ is_some (slice_get lane.ahead 0)
ahead_is o first lane says is = sym (copied_some first) ∙ ap is_some (subst (λ p. SaysFirst p first) is says)

pub some_ahead : (o : Option LaneSoFar) (first : Option (Bor Body)) (lane : LaneSoFar) → SaysFirst o first → o ≡ Some lane → is_some first ≡ true → lane.ahead ≢ []
some_ahead o first lane says is is_so = first_some lane.ahead (sym (ahead_is o first lane says is) ∙ is_so)

pub none_ahead : (o : Option LaneSoFar) (first : Option (Bor Body)) (lane : LaneSoFar) → SaysFirst o first → o ≡ Some lane → is_some first ≡ false → lane.ahead ≡ []
none_ahead o first lane says is isnt = first_none lane.ahead (sym (ahead_is o first lane says is) ∙ isnt)

-- ---- nothing is ahead

-- no record is ahead of a lane that ended
over_empty : (lane : LaneSoFar) → lane.ahead ≡ [] → HasNext lane → (lane.ahead ≡ []) × (lane.has_ended ≡ true)
over_empty lane empty (inl some) = absurd (some empty)
over_empty lane empty (inr ended) = (empty, ended)

-- once no order fits, a lane is held up only where no record is ahead
empty_if_stuck : (taken : Taken) (lane : LaneSoFar) → taken.is_stuck ≡ true → IsLaneHeldUp taken lane → lane.ahead ≡ []
empty_if_stuck taken lane stuck held = at lane.ahead refl
  where
    at : (ahead : List Body) → lane.ahead ≡ ahead → lane.ahead ≡ []
    at [] is = is
    at (b ∷ ahead) is =
        let none = held b (ap (λ (l : List Body). slice_get l 0) is) in
        no_bool (sym (ap (λ (s : Bool). if s then true else may_follow taken.in_order (lane_vat lane) b) stuck) ∙ none)

pub over_if_stuck : (lanes : List (Option LaneSoFar)) (taken : Taken) → taken.is_stuck ≡ true → AreHeldUp lanes taken → AreOver lanes
over_if_stuck lanes taken stuck held i lane is = let h = held i lane is in over_empty lane (empty_if_stuck taken lane stuck h.0) h.1

pub over_if_empty : (lanes : List (Option LaneSoFar)) (taken : Taken) → AreEmpty lanes → AreHeldUp lanes taken → AreOver lanes
over_if_empty lanes taken empty held i lane is = over_empty lane (empty i lane is) (held i lane is).1

empty_of : (lanes : List (Option LaneSoFar)) → AreOver lanes → AreEmpty lanes
empty_of lanes over i lane is = (over i lane is).0

-- where all were taken in order
pub all_in_order : (lanes : List (Option LaneSoFar)) (taken : Taken) → taken.is_stuck ≡ false → IsPass lanes taken → AreHeldUp lanes taken → AreEmpty lanes → AreTaken lanes taken true
all_in_order lanes taken free pass held empty =
    let all = took_all lanes taken pass empty in
    record {
      pass = pass;
      over = over_if_empty lanes taken empty held;
      all = all;
      fits_all = λ is_so. subst (λ (t : Turns). AreAll (logs_of lanes) t) (pass.alike free) all;
      stuck = λ isnt. no_bool isnt;
    }

-- the order is given up
pub pass_given_up : (lanes : List (Option LaneSoFar)) (taken : Taken) → IsPass lanes taken → IsPass lanes (given_up taken)
pass_given_up lanes taken pass = record {
  there = pass.there;
  in_step = pass.in_step;
  in_order = pass.in_order;
  alike = λ free. no_bool free;
}

-- where no order fits
module _ (lanes later : List (Option LaneSoFar)) (taken more : Taken) (free : taken.is_stuck ≡ false) (pass : IsPass lanes taken) (held : AreHeldUp lanes taken)
    (long : length later ≡ length lanes) (further : AreFurther lanes later) (now : IsPass later more) (stuck : more.is_stuck ≡ true) (same : more.in_order ≡ taken.in_order) (held_now : AreHeldUp later more) where
  pub rest_is_left : (i : ℕ) (lane : LaneSoFar) → IsLaneAt lanes i lane → lane.ahead ≢ [] → AreTaken later more false
  rest_is_left i lane is some =
      let over = over_if_stuck later more stuck held_now in
      record {
        pass = now;
        over = over;
        all = took_all later more now (empty_of later over);
        fits_all = λ is_so. no_bool (sym is_so);
        stuck = λ isnt. (
          subst (λ (t : Turns). AreOf (logs_of later) t) (sym same) (are_of lanes later taken free pass long now.there further),
          subst (λ (t : Turns). AreStuck (logs_of later) t) (sym same) (are_stuck lanes later taken free pass long now.there further held),
          subst (λ (t : Turns). AreLeft (logs_of later) t) (sym same) (are_left lanes later taken free pass long now.there further i lane is some),
        );
      }

-- ---- by an order that is given

pub filled_pass : (lanes longer : List (Option LaneSoFar)) (taken : Taken) → IsPass lanes taken → AreFilled lanes longer → AreThere longer → IsPass longer taken
filled_pass lanes longer taken pass grown there = record {
  there = there;
  in_step = stays_in_step lanes longer grown pass.there taken.all pass.in_step there;
  in_order = pass.in_order;
  alike = pass.alike;
}

pub filled_further : (lanes longer : List (Option LaneSoFar)) (taken : Taken) → IsPass lanes taken → AreFilled lanes longer → AreThere longer → AreFurther lanes longer
filled_further lanes longer taken pass grown there i one is =
    let b = (are_grown lanes longer grown pass.there taken.all pass.in_step there).before i one is in
    (b.0, b.1, record { on = b.2.on; vat = b.2.vat; more = b.2.more; records = b.2.records; over = b.2.over })

module _ (lanes now longer : List (Option LaneSoFar)) (taken more : Taken) (order : List ℕ) (count : ℕ) (free : taken.is_stuck ≡ false) (none : taken.in_order ≡ []) (ended : AreFollowedToTheEnd lanes now taken more order count)
    (grown : AreFilled now longer) (there : AreThere longer) where
  free_now : more.is_stuck ≡ false
  free_now = ended.followed.phase ∙ free

  pub read_on : IsPass longer more
  read_on = filled_pass now longer more ended.followed.pass grown there

  -- the turns are those of the order, as far as they were taken
  followed_so : order_of more.in_order ≡ take count order
  followed_so = ended.followed.turns ∙ ap (λ (t : Turns). order_of t ++ take count order) none

  pub order_fits : count ≡ length order → AreEmpty longer → AreTakenBy longer more order Fits
  order_fits whole empty =
      let all = took_all longer more read_on empty in
      record {
        pass = read_on;
        over = λ i lane is. over_empty lane (empty i lane is) (has_next now longer grown ended.followed.pass.there more.all ended.followed.pass.in_step i lane is);
        all = all;
        fits_all = λ fits. (
          sym (followed_so ∙ take_all count order (omega (arith, whole))),
          subst (λ (t : Turns). AreAll (logs_of longer) t) (read_on.alike free_now) all,
        );
        fails = λ step e. absurd (not_both step e);
      }
    where
      not_both : (step : ℕ) → Fits ≡ Fails step → ⊥
      not_both step e = cc

  module _ (later : List (Option LaneSoFar)) (last : Taken) (long : length later ≡ length longer) (long_too : length longer ≡ length now) (further : AreFurther longer later) (pass : IsPass later last)
      (stuck : last.is_stuck ≡ true) (same : last.in_order ≡ more.in_order) (held : AreHeldUp later last) where
    over_now : AreOver later
    over_now = over_if_stuck later last stuck held

    same_step : (step : ℕ) → Fails count ≡ Fails step → step ≡ count
    same_step step e = cc

    is_no_fit : Fails count ≡ Fits → ⊥
    is_no_fit e = cc

    fails_so : EndsBehind (logs_of later) more.in_order order → AreTakenBy later last order (Fails count)
    fails_so behind = record {
      pass = pass;
      over = over_now;
      all = took_all later last pass (empty_of later over_now);
      fits_all = λ fits. absurd (is_no_fit fits);
      fails = λ step e. (
        (let counted = ended.followed.counted in let empty = ap (λ (t : Turns). length t) none in let own = ap (λ (t : Turns). length t) same in omega (arith, same_step step e, counted, empty, own)),
        subst (λ (t : Turns). AreOf (logs_of later) t) (sym same) (are_of longer later more free_now read_on long pass.there further),
        subst (λ (t : Turns). EndsBehind (logs_of later) t order) (sym same) behind,
      );
    }

    -- records are left where the order ends
    pub order_ends : count ≡ length order → (i : ℕ) (lane : LaneSoFar) → IsLaneAt longer i lane → lane.ahead ≢ [] → AreTakenBy later last order (Fails count)
    order_ends whole i lane is some =
        fails_so (inl (sym (followed_so ∙ take_all count order (omega (arith, whole))), are_left longer later more free_now read_on long pass.there further i lane is some))

    -- no record of its next vat may come
    pub order_stops : count ≢ length order → AreTakenBy later last order (Fails count)
    order_stops short =
        let few = ended.few in
        let lt : count < length order = cases_short few in
        let v = get_or order count 0 in
        let at : slice_get order count ≡ Some v = slice_get-get_or order count 0 lt in
        let whole_length : length later ≡ length now = long ∙ long_too in
        let goes = further_on now longer later (filled_further now longer more ended.followed.pass grown there) further in
        fails_so (inr (
          v,
          drop (count + 1) order,
          sym (take-append-drop count order) ∙ ap (λ (l : List ℕ). take count order ++ l) (drop_more order count 0 lt) ∙ ap (λ (l : List ℕ). l ++ v ∷ drop (count + 1) order) (sym followed_so),
          is_held now later more free_now ended.followed.pass whole_length pass.there goes v (ended.stops v at),
        ))
      where
        cases_short : count ≤ length order → count < length order
        cases_short le = elim (cases_lt count (length order)) [
          | inl lt ↦ lt
          | inr ge ↦ absurd (short (omega (arith, le, ge)))
        ]
