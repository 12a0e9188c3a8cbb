use Rattle.std.proofs.Common.{◌≡◌, length, map, Some, sym, ap, subst, ◌∙◌, arith, inl, inr}
use Rattle.std.proofs.lemmas.Bool.{cases_lt}
use Rattle.std.proofs.lemmas.List.{length-map}
use Rattle.turn_taking.specs.Pass.{IsLaneAt}
use Rattle.turn_taking.proofs.Over.{some_ahead, none_ahead}
use Rattle.turn_taking.proofs.Sided.{lane_there, within}
use Rattle.turn_taking.proofs.whole.are_left.Goals as goal

pub returns-then-is_some-clause-some : goal.returns-then-is_some-clause-some
returns-then-is_some-clause-some g c = λ there is_so.
    let f = g.L.CaseLane.so_far in
    let lanes = c.args.lanes.now in
    let place = c.loop-place.place in
    let long : length (map f lanes) ≡ length lanes = length-map lanes f in
    let lt = c.loop-place-test.true in
    let at = there place (omega (arith, long, lt)) in (
      place,
      at.0,
      at.1,
      some_ahead (f c.index-lanes-place.result) c.first.result at.0 c.first.ensures
          (ap f c.index-lanes-place.is ∙ lane_there f lanes place c.index-lanes-place.result at.0 lt at.1) (sym c.is_some.ensures ∙ c.if-is_some.true),
    )

pub loop-place-preserved : goal.loop-place-preserved
loop-place-preserved g c = λ there i lane lt is.
    let f = g.L.CaseLane.so_far in
    let lanes = c.args.lanes.now in
    let place = c.loop-place.place in
    elim (cases_lt i place) [
      | inl less ↦ c.loop-place.invariant there i lane less is
      | inr ge ↦
          let same : i ≡ place = omega (arith, lt, ge) in
          let here = subst (λ k. IsLaneAt (map f lanes) k lane) same is in
          none_ahead (f c.index-lanes-place.result) c.first.result lane c.first.ensures
          (ap f c.index-lanes-place.is ∙ lane_there f lanes place c.index-lanes-place.result lane c.loop-place-test.true here) (sym c.is_some.ensures ∙ c.if-is_some.false)
    ]

pub returns-clause-none : goal.returns-clause-none
returns-clause-none g c = λ there isnt i lane is.
    let f = g.L.CaseLane.so_far in
    let long : length (map f c.args.lanes.now) ≡ length c.args.lanes.now = length-map c.args.lanes.now f in
    let lt = within (map f c.args.lanes.now) i (Some lane) is in
    let over = c.loop-place-test.false in
    c.loop-place.invariant there i lane (omega (arith, long, lt, over)) is
