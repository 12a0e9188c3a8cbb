use Rattle.std.proofs.Common.{◌≡◌, ◌+◌, List, map, take, set, length, get_or, arith, sym, ap, ◌∙◌, subst}
use Rattle.std.proofs.lemmas.List.{length-map, set-get_or, take_all}
use Rattle.vat_tap.specs.Glue.Taps.{ring_of, AreTaken}
use Rattle.vat_tap.specs.Tickets.{Ticketed, LaneView}
use Rattle.vat_tap.proofs.Draining.{takes_on}
use Rattle.vat_tap.proofs.Gathering.{gather_more}
use Rattle.vat_tap.proofs.tap.gather.Goals as goal

pub loop-index-preserved : goal.loop-index-preserved
loop-index-preserved c =
    let i = c.loop-index.invariant in
    let k = c.loop-index.index in
    let lane = c.index_mut.result.now in
    let lanes = c.args.lanes.now.items in
    let taken = map (λ intake. intake.taken.items) c.loop-index.intakes.items in
    let rings = map (λ intake. ring_of intake.ring) c.args.intakes.now.items in
    let lt = c.loop-index-test.true in
    let at : lane ≡ get_or lanes k lane = c.index_mut.ensures.value ∙ ap (λ ls. get_or ls k lane) i.lanes in
    let long : length taken ≡ length rings = omega (arith, length-map c.loop-index.intakes.items (λ intake. intake.taken.items), length-map c.loop-index.intakes.items (λ intake. ring_of intake.ring), ap length i.rings) in
    record {
      rings = c.take_one.ensures.rings ∙ i.rings;
      lanes = ap (λ l. set c.loop-index.lanes.items k l) (c.take_one.ensures.lane ∙ c.index_mut.ensures.value) ∙ set-get_or c.loop-index.lanes.items k lane ∙ i.lanes;
      longer = takes_on _ _ _ i.longer c.take_one.ensures.longer;
      taken = subst (λ (ts : List (List Ticketed)). AreTaken ts (take (k + 1) lanes)) (sym c.in_ok-take_one.ensures.ok)
          (gather_more taken rings lanes k lane c.requires.different c.requires.rings long (omega (arith, lt, c.len-index-end.ensures)) at i.taken);
    }

pub returns-in_err-take_one-clause-longer : goal.returns-in_err-take_one-clause-longer
returns-in_err-take_one-clause-longer c = takes_on _ _ _ c.loop-index.invariant.longer c.take_one.ensures.longer

pub returns-clause-ok : goal.returns-clause-ok
returns-clause-ok c =
    let lanes = c.args.lanes.now.items in
    subst (λ (ls : List LaneView). AreTaken (map (λ intake. intake.taken.items) c.loop-index.intakes.items) ls) (take_all c.loop-index.index lanes (omega (arith, c.loop-index-test.false, c.len-index-end.ensures))) c.loop-index.invariant.taken
