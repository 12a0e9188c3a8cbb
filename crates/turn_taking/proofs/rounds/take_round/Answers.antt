use Rattle.std.proofs.Common.{◌≡◌, ◌<◌, ◌+◌, Bool, true, false, List, length, map, Option, sym, ap, subst, ◌∙◌, arith}
use Rattle.std.proofs.lemmas.List.{length-map}
use Rattle.std.specs.Prelude.{slice_set}
use Rattle.turn_taking.specs.Lanes.{LaneSoFar}
use Rattle.turn_taking.proofs.Sided.{RoundSoFar, round_begins, goes_on, round_ends, map_set, lane_there}
use Rattle.turn_taking.proofs.rounds.take_round.Goals.{then-branch-gt0, else-branch-gt0}
use Rattle.turn_taking.proofs.rounds.take_round.Goals as goal

pub loop-place-init : goal.loop-place-init
loop-place-init g c = λ taken there kept. (taken, kept, round_begins (map g.L.CaseLane.so_far c.args.lanes.now) taken there)

true_not_false : {P : Type 0} (b : Bool) → b ≡ true → b ≡ false → P
true_not_false b is other = cc

pub loop-place-preserved : goal.loop-place-preserved
loop-place-preserved g c = λ taken there kept.
    let f = g.L.CaseLane.so_far in
    let lanes = c.loop-place.lanes in
    let place = c.loop-place.place in
    let inv = c.loop-place.invariant taken there kept in
    let long : length (map f lanes) ≡ length lanes = length-map lanes f in
    let same = c.loop-place.auto.lanes in
    let in_loop = c.loop-place-test.true in
    let lt : place < length lanes = omega (arith, same, in_loop) in
    let at = inv.2.there place (omega (arith, long, lt)) in
    let took = c.in_ok-take_from.ensures at.0 inv.0 (lane_there f lanes place c.index-lanes-place.result at.0 lt at.1) inv.1 in
    let none : c.if-branch-gt0.some ≡ false → (c.loop-place.some ≡ false) × (c.in_ok-take_from.field-0 ≡ 0) = λ nothing. elim c.if-branch-gt0.branch [
      | then-branch-gt0 w ↦ true_not_false c.if-branch-gt0.some w.some-is nothing
      | else-branch-gt0 w ↦ (sym w.some-is ∙ nothing, omega (arith, w.if-branch-gt0))
    ] in
    let next = goes_on (map f c.args.lanes.now) (map f lanes) taken inv.0 c.loop-place.some place inv.2 at.0 took.0 at.1 took.1 c.in_ok-take_from.field-0 took.4 c.if-branch-gt0.some none took.5 in (
      took.1,
      took.3,
      subst (λ (ls : List (Option LaneSoFar)). RoundSoFar (map f c.args.lanes.now) ls taken took.1 c.if-branch-gt0.some (place + 1))
          (ap (slice_set (map f lanes) place) (sym took.2) ∙ sym (map_set f lanes place c.take_from.new.lane)) next,
    )

pub returns : goal.returns
returns g c = λ taken there kept.
    let f = g.L.CaseLane.so_far in
    let inv = c.loop-place.invariant taken there kept in
    let long : length (map f c.loop-place.lanes) ≡ length c.loop-place.lanes = length-map c.loop-place.lanes f in
    let same = c.loop-place.auto.lanes in
    let over = c.loop-place-test.false in
    let ends = round_ends (map f c.args.lanes.now) (map f c.loop-place.lanes) taken inv.0 c.loop-place.some c.loop-place.place inv.2 (omega (arith, long, same, over)) in
    (inv.0, inv.1, ends.0, ends.1)
