use Rattle.std.proofs.Common.{◌≡◌, ◌+◌, ◌<◌, ℕ, List, length, map, get_or, Option, Some, refl, sym, ap, subst, ◌∙◌, arith}
use Rattle.std.specs.Prelude.{slice_get}
use Rattle.std.proofs.lemmas.List.{length-map}
use Rattle.std.proofs.lemmas.Option.{slice_get-get_or}
use Rattle.turn_taking.specs.Followed.{AreFollowed, AreFollowedToTheEnd, IsStep}
use Rattle.turn_taking.specs.Lanes.{LaneSoFar}
use Rattle.turn_taking.proofs.Ordered.{one_followed, stops_held, ends_followed}
use Rattle.turn_taking.proofs.Sided.{lane_there, map_set}
use Rattle.turn_taking.proofs.by_order.take_steps.Goals as goal

next_of : (items order : List ℕ) (count index : ℕ) → items ≡ order → count ≡ index → index < length items → slice_get order count ≡ Some (get_or items index 0)
next_of items order count index same at lt = subst (λ (l : List ℕ). slice_get l count ≡ Some (get_or items index 0)) same (ap (slice_get items) at ∙ slice_get-get_or items index 0 lt)

pub returns-then-not-branch-clause-taken : goal.returns-then-not-branch-clause-taken
returns-then-not-branch-clause-taken g c = λ taken kept free pass.
    let f = g.L.CaseLane.so_far in
    let first = map f c.args.lanes.now in
    let lanes = c.loop-vat.lanes in
    let place = c.in-Some.place in
    let so_far = c.loop-vat.invariant.1 taken kept free pass in
    let long : length (map f lanes) ≡ length lanes = length-map lanes f in
    let lt : place < length lanes = c.in-Some.ensures.some.0 in
    let at = so_far.2.pass.there place (omega (arith, long, lt)) in
    let item = get_or c.args.steps.now c.loop-vat.vat-index 0 in
    let next = next_of c.args.steps.now c.args.steps.now c.loop-vat.count c.loop-vat.vat-index refl c.loop-vat.invariant.0 c.loop-vat-test.true in
    let step = subst (IsStep at.0 so_far.0 (f c.take_next.new.lane) (g.T.Turns.taken c.take_next.new.turns)) c.if-not-branch.true
    (c.in_ok-take_next.ensures at.0 so_far.0 (lane_there f lanes place c.index-lanes-place.result at.0 lt at.1) so_far.1) in (
      step.more,
      step.turns_are,
      subst (λ (ls : List (Option LaneSoFar)). AreFollowedToTheEnd first ls taken step.more c.args.steps.now c.loop-vat.count) (sym (map_set f lanes place c.take_next.new.lane))
          (stops_held first (map f lanes) taken so_far.0 c.args.steps.now c.loop-vat.count free so_far.2 item next place at.0 at.1 (c.in-Some.ensures.some.1 at.0 at.1) (f c.take_next.new.lane) (g.T.Turns.taken c.take_next.new.turns) step),
    )

pub loop-vat-preserved : goal.loop-vat-preserved
loop-vat-preserved g c = (
  ap (λ (n : ℕ). n + 1) c.loop-vat.invariant.0,
  λ taken kept free pass. (
      let f = g.L.CaseLane.so_far in
      let first = map f c.args.lanes.now in
      let lanes = c.loop-vat.lanes in
      let place = c.in-Some.place in
      let so_far = c.loop-vat.invariant.1 taken kept free pass in
      let long : length (map f lanes) ≡ length lanes = length-map lanes f in
      let lt : place < length lanes = c.in-Some.ensures.some.0 in
      let at = so_far.2.pass.there place (omega (arith, long, lt)) in
      let item = get_or c.args.steps.now c.loop-vat.vat-index 0 in
      let next = next_of c.args.steps.now c.args.steps.now c.loop-vat.count c.loop-vat.vat-index refl c.loop-vat.invariant.0 c.loop-vat-test.true in
      let step = subst (IsStep at.0 so_far.0 (f c.take_next.new.lane) (g.T.Turns.taken c.take_next.new.turns)) c.if-not-branch.false
      (c.in_ok-take_next.ensures at.0 so_far.0 (lane_there f lanes place c.index-lanes-place.result at.0 lt at.1) so_far.1) in (
        step.more,
        step.turns_are,
        subst (λ (ls : List (Option LaneSoFar)). AreFollowed first ls taken step.more c.args.steps.now (c.loop-vat.count + 1)) (sym (map_set f lanes place c.take_next.new.lane))
            (one_followed first (map f lanes) taken so_far.0 c.args.steps.now c.loop-vat.count free so_far.2 item next place at.0 at.1 (c.in-Some.ensures.some.1 at.0 at.1) (f c.take_next.new.lane) (g.T.Turns.taken c.take_next.new.turns) step),
      )
      ),
)

pub returns-clause-taken : goal.returns-clause-taken
returns-clause-taken g c = λ taken kept free pass.
    let f = g.L.CaseLane.so_far in
    let so_far = c.loop-vat.invariant.1 taken kept free pass in
    let counted = c.loop-vat.invariant.0 in
    let over = c.loop-vat-test.false in
    let within = c.loop-vat.auto.vat-index-end in
    let all : c.loop-vat.count ≡ length c.args.steps.now = omega (arith, counted, over, within) in
    (so_far.0, so_far.1, ends_followed (map f c.args.lanes.now) (map f c.loop-vat.lanes) taken so_far.0 c.args.steps.now c.loop-vat.count so_far.2 all)
