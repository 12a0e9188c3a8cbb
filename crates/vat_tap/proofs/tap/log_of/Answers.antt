use Rattle.std.proofs.Common.{◌≡◌, All, arith, ◌++◌, map, take, Some, sym, ap, ◌∙◌, subst}
use Rattle.std.specs.Prelude.{slice_get}
use Rattle.std.specs.List.{flat_map}
use Rattle.std.specs.List.Sorted.{IsStrictlyIncreasing}
use Rattle.std.proofs.lemmas.List.{take_all}
use Rattle.vat_tap.specs.Tickets.{LaneView, tickets_of}
use Rattle.vat_tap.proofs.Gathering.{flat_more, got_of, All_more, if_ok_of}
use Rattle.vat_tap.proofs.tap.log_of.Goals as goal

pub loop-lane-preserved : goal.loop-lane-preserved
loop-lane-preserved c =
    let k = c.loop-lane.lane-index in
    let lane = c.lane-item.result in
    let lanes = c.args.lanes.now in
    let intake = c.index-intakes-lane.result in
    let all = map (λ it. it.taken.items) c.args.intakes.now in
    let held : slice_get all lane.number ≡ Some lane.recorded = subst (λ (l : LaneView). slice_get all l.number ≡ Some l.recorded) (sym c.lane-item.is) (c.requires k lane c.loop-lane-test.true) in
    let held' : slice_get all c.lane.inside.number ≡ Some lane.recorded = subst (λ n. slice_get all n ≡ Some lane.recorded) (sym (ap (λ (l : LaneView). l.number) c.lane.view_is)) held in
    let taken = got_of (λ it. it.taken.items) c.args.intakes.now c.lane.inside.number intake lane.recorded held' in
    let R = λ (it : LaneView). IsStrictlyIncreasing (tickets_of it.recorded) in
    let all = c.in_ok-lend.ensures ∙ ap (λ l. l ++ c.as_slice.result.now) c.loop-lane.invariant.all
    ∙ ap (λ l. flat_map (λ (it : LaneView). it.recorded) (take k lanes) ++ l) (c.as_slice.ensures.value ∙ taken)
    ∙ sym (flat_more (λ (it : LaneView). it.recorded) lanes k lane c.loop-lane-test.true c.lane-item.is) in
    let here : R lane = subst R c.lane.view_is c.lane.invariant.rising in
    record { all = all; rising = All_more R lanes k lane c.loop-lane-test.true c.lane-item.is c.loop-lane.invariant.rising here }

pub returns-clause-rising : goal.returns-clause-rising
returns-clause-rising c =
    let R = λ (it : LaneView). IsStrictlyIncreasing (tickets_of it.recorded) in
    let all : All R c.args.lanes.now = subst (All R) (take_all c.loop-lane.lane-index c.args.lanes.now (omega (arith, c.loop-lane-test.false))) c.loop-lane.invariant.rising in
    if_ok_of c.stored.result all
