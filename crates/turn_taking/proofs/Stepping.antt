-- Lanes are read ahead, and then their vats take turns, again and again.
use Rattle.std.proofs.Common.{◌≡◌, ℕ, suc, zero, ◌<◌, Bool, true, false, ◌||◌, List, [], ◌∷◌, ◌++◌, length, map, get_or, Option, Some, None, refl, sym, ap, subst, ◌∙◌, arith}
use Rattle.std.specs.Prelude.{IfSome, is_none}
use Rattle.std.specs.List.{list_any}
use Rattle.std.proofs.lemmas.List.{append_assoc, append-nil, length-map}
use Rattle.vat_log.specs.Log.{Log}
use Rattle.vat_log.specs.declared.body.Body.{Body}
use Rattle.turn_taking.specs.Turns.{Turns, records_taken}
use Rattle.byte_pieces.specs.Coming.{ComesOn}
use Rattle.byte_pieces.proofs.Coming.{comes_same, comes_then}
use Rattle.turn_taking.specs.Lanes.{LaneSoFar, GoesOn, HasNext}
use Rattle.turn_taking.specs.Turned.{Taken}
use Rattle.turn_taking.specs.Pass.{lane_vat, IsLaneAt, AreThere, AreInStep, AreFilled, AreHeldUp, IsPass, IsRound, IsFurther, AreFurther}
use Rattle.turn_taking.proofs.Sided.{within, lane_there}

or_first : (a b : Bool) → (a || b) ≡ false → a ≡ false
or_first false b e = refl
or_first true b e = e

or_second : (a b : Bool) → (a || b) ≡ false → b ≡ false
or_second false b e = e
or_second true b e = absurd cc

has_one : (o : Option LaneSoFar) → is_none o ≡ false → (lane : LaneSoFar) × (Some o ≡ Some (Some lane))
has_one None e = absurd cc
has_one (Some lane) e = (lane, refl)

-- no lane is refused
pub none_refused : {X : Type 0} (f : X → Option LaneSoFar) (xs : List X) → list_any (λ x. is_none (f x)) xs ≡ false → AreThere (map f xs)
none_refused f [] e i lt = absurd (omega (arith, lt))
none_refused f (x ∷ xs) e zero lt = has_one (f x) (or_first (is_none (f x)) (list_any (λ y. is_none (f y)) xs) e)
none_refused f (x ∷ xs) e (suc i) lt = none_refused f xs (or_second (is_none (f x)) (list_any (λ y. is_none (f y)) xs) e) i (omega (arith, lt))

-- what stands at a place
element : {X : Type 0} (xs : List X) (i : ℕ) → i < length xs → X
element [] i lt = absurd (omega (arith, lt))
element (x ∷ xs) zero lt = x
element (x ∷ xs) (suc i) lt = element xs i (omega (arith, lt))

-- each lane was read ahead
pub filled : {X : Type 0} (f : X → Option LaneSoFar) (xs ys : List X) → length ys ≡ length xs
    → ((i : ℕ) (d : X) (before : LaneSoFar) → i < length xs → f (get_or xs i d) ≡ Some before → IfSome (f (get_or ys i d)) (λ longer. GoesOn before longer × HasNext longer))
    → AreFilled (map f xs) (map f ys)
filled f xs ys long each = record {
  long = length-map ys f ∙ long ∙ sym (length-map xs f);
  each = λ i lane one lane_at one_at. (
      let mapped : length (map f xs) ≡ length xs = length-map xs f in
      let inside : i < length (map f xs) = within (map f xs) i (Some lane) lane_at in
      let lt : i < length xs = omega (arith, mapped, inside) in
      let lt_too : i < length ys = omega (arith, long, lt) in
      let d = element xs i lt in
      subst (λ o. IfSome o (λ longer. GoesOn lane longer × HasNext longer)) (lane_there f ys i d one lt_too one_at) (each i d lane lt (lane_there f xs i d lane lt lane_at))
      );
}

-- ---- what was in step stays so

-- more was read ahead in some lanes
pub record AreGrown (lanes longer : List (Option LaneSoFar)) : Type 0 where
  pub before : (i : ℕ) (one : LaneSoFar) → IsLaneAt longer i one → (lane : LaneSoFar) × IsLaneAt lanes i lane × GoesOn lane one
  pub now : (i : ℕ) (lane : LaneSoFar) → IsLaneAt lanes i lane → (one : LaneSoFar) × IsLaneAt longer i one × (lane_vat one ≡ lane_vat lane)

pub grown_in_step : (lanes longer : List (Option LaneSoFar)) (turns : Turns) → AreGrown lanes longer → AreInStep lanes turns → AreInStep longer turns
grown_in_step lanes longer turns grown so = record {
  each = λ i one is. (
      let b = grown.before i one is in
      b.2.records ∙ ap (λ (l : List Body). l ++ b.2.more) (so.each i b.0 b.1) ∙ append_assoc (records_taken (lane_vat b.0) turns) b.0.ahead b.2.more
      ∙ ap (λ (l : List Body). records_taken (lane_vat b.0) turns ++ l) (sym b.2.ahead) ∙ ap (λ (v : ℕ). records_taken v turns ++ one.ahead) (sym b.2.vat)
      );
  apart = λ i j one other is is_too same. (
      let b = grown.before i one is in
      let c = grown.before j other is_too in
      so.apart i j b.0 c.0 b.1 c.1 (sym b.2.vat ∙ same ∙ c.2.vat)
      );
  known = λ turn has. (
      let old = so.known turn has in
      let now = grown.now old.0 old.1 old.2 in
      (old.0, now.0, now.1, now.2 ∙ old.3)
      );
}

module _ (lanes longer : List (Option LaneSoFar)) (more_read : AreFilled lanes longer) (there : AreThere lanes) (turns : Turns) (so : AreInStep lanes turns) where
  before : (i : ℕ) (one : LaneSoFar) → IsLaneAt longer i one → (lane : LaneSoFar) × IsLaneAt lanes i lane × GoesOn lane one × HasNext one
  before i one is =
      let long = more_read.long in
      let lt = within longer i (Some one) is in
      let old = there i (omega (arith, long, lt)) in
      let grown = more_read.each i old.0 one old.1 is in
      (old.0, old.1, grown.0, grown.1)

  pub are_grown : AreThere longer → AreGrown lanes longer
  are_grown there_now = record {
    before = λ i one is. (let b = before i one is in (b.0, b.1, b.2));
    now = λ i lane is. (
        let lt = within lanes i (Some lane) is in
        let long = more_read.long in
        let now = there_now i (omega (arith, long, lt)) in
        let grown = more_read.each i lane now.0 is now.1 in
        (now.0, now.1, grown.0.vat)
        );
  }

  pub stays_in_step : AreThere longer → AreInStep longer turns
  stays_in_step there_now = grown_in_step lanes longer turns (are_grown there_now) so

  pub has_next : (i : ℕ) (one : LaneSoFar) → IsLaneAt longer i one → HasNext one
  has_next i one is = (before i one is).3

-- ---- a round

pub round_keeps : (lanes longer after : List (Option LaneSoFar)) (taken more : Taken) (some : Bool) → IsPass lanes taken → AreFilled lanes longer → AreThere longer → AreThere after → IsRound longer after taken more some
    → IsPass after more
round_keeps lanes longer after taken more some so grown there there_now round = record {
  there = there_now;
  in_step = round.in_step (stays_in_step lanes longer grown so.there taken.all so.in_step there);
  in_order = round.in_order so.in_order;
  alike = λ free. round.alike (sym round.phase ∙ free) (so.alike (sym round.phase ∙ free));
}

pub round_held : (lanes longer after : List (Option LaneSoFar)) (taken more : Taken) (some : Bool) → IsPass lanes taken → AreFilled lanes longer → IsRound longer after taken more some → some ≡ false
    → AreHeldUp after more
round_held lanes longer after taken more some so grown round none i lane is =
    (round.still none i lane is, has_next lanes longer grown so.there taken.all so.in_step i lane (round.same none i lane is))

-- ---- lanes go on

pub as_far : (lanes : List (Option LaneSoFar)) → AreFurther lanes lanes
as_far lanes i one is = (one, is, record { on = comes_same one.came; vat = refl; more = []; records = sym (append-nil one.log.records); over = λ ended. (refl, ended) })

pub joined : (one two three : LaneSoFar) → IsFurther one two → IsFurther two three → IsFurther one three
joined one two three first then = record {
  on = comes_then one.came two.came three.came first.on then.on;
  vat = then.vat ∙ first.vat;
  more = first.more ++ then.more;
  records = then.records ∙ ap (λ (l : List Body). l ++ then.more) first.records ∙ append_assoc one.log.records first.more then.more;
  over = λ ended. (
      let own = first.over ended in
      let own_too = then.over own.1 in
      (ap (λ (l : List Body). l ++ then.more) own.0 ∙ own_too.0, own_too.1)
      );
}

pub round_further : (first lanes longer after : List (Option LaneSoFar)) (taken more : Taken) (some : Bool) → AreFurther first lanes → IsPass lanes taken → AreFilled lanes longer → IsRound longer after taken more some
    → AreFurther first after
round_further first lanes longer after taken more some so pass grown round i one is =
    let read = round.reads i one is in
    let b = before lanes longer grown pass.there taken.all pass.in_step i read.0 read.1 in
    let old = so i b.0 b.1 in
    let further : IsFurther b.0 one = record {
      on = subst (ComesOn b.0.came) (sym read.4) b.2.on;
      vat = ap (λ (r : Log). r.vat) read.2 ∙ b.2.vat;
      more = b.2.more;
      records = ap (λ (r : Log). r.records) read.2 ∙ b.2.records;
      over = λ ended. (let over = b.2.over ended in (over.0, read.3 ∙ over.1));
    } in
    (old.0, old.1, joined old.0 b.0 one old.2 further)
