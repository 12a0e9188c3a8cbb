use Rattle.std.proofs.Common.{◌≡◌, length, map, Some, ap, subst, ◌∙◌, arith, inl, inr}
use Rattle.std.specs.Prelude.{IfSome}
use Rattle.std.proofs.lemmas.Bool.{cases_lt}
use Rattle.std.proofs.lemmas.List.{length-map}
use Rattle.turn_taking.specs.Pass.{IsLaneAt}
use Rattle.turn_taking.proofs.Sided.{lane_there, within}
use Rattle.turn_taking.proofs.by_order.place_of.Goals as goal

pub loop-place-preserved : goal.loop-place-preserved
loop-place-preserved g c = λ i lane lt is own.
    let f = g.L.CaseLane.so_far in
    let lanes = c.args.lanes.now in
    let place = c.loop-place.place in
    elim (cases_lt i place) [
      | inl less ↦ c.loop-place.invariant i lane less is own
      | inr ge ↦
          let same : i ≡ place = omega (arith, lt, ge) in
          let here = subst (λ k. IsLaneAt (map f lanes) k lane) same is in
          let it = ap f c.index-lanes-place.is ∙ lane_there f lanes place c.index-lanes-place.result lane c.loop-place-test.true here in
          c.if-vat.false (subst (λ o. IfSome o (λ l. c.vat.result ≡ l.log.vat)) it c.vat.ensures ∙ own)
    ]

pub returns-clause-none : goal.returns-clause-none
returns-clause-none g c = λ i lane is.
    let long : length (map g.L.CaseLane.so_far c.args.lanes.now) ≡ length c.args.lanes.now = length-map c.args.lanes.now g.L.CaseLane.so_far in
    let lt = within (map g.L.CaseLane.so_far c.args.lanes.now) i (Some lane) is in
    let over = c.loop-place-test.false in
    c.loop-place.invariant i lane (omega (arith, long, lt, over)) is
