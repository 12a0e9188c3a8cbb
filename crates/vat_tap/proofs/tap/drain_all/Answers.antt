use Rattle.std.specs.Prelude.{slice_get}
use Rattle.std.proofs.Common.{◌≡◌, ◌+◌, ◌<◌, Some, List, [], map, set, length, get_or, arith, sym, ap, ◌∙◌, subst}
use Rattle.std.specs.List.{sum_by}
use Rattle.std.proofs.lemmas.List.{length-map, length-set, get_or-map, map-set}
use Rattle.std.proofs.Math.Seq.{map-set_same}
use Rattle.vat_tap.specs.Glue.Taps.{ring_of, Goes, TakesUpTo}
use Rattle.vat_tap.specs.Tickets.{Ticketed, Ring, TakesOn, TakesAtMost}
use Rattle.vat_tap.proofs.Draining.{takes_more, counts_more, up_to_more, at_most}
use Rattle.vat_tap.proofs.Gathering.{get_of_map}
use Rattle.vat_tap.proofs.tap.drain_all.Goals as goal

pub returns-in_err-count-clause-rings : goal.returns-in_err-count-clause-rings
returns-in_err-count-clause-rings c =
    map-set_same (λ intake. ring_of intake.ring) c.loop-index.intakes.items c.loop-index.index c.take.new.self c.index_mut.result.now
    (c.take.ensures.ring ∙ ap (λ intake. ring_of intake.ring) c.index_mut.ensures.value) ∙ c.loop-index.invariant.rings

pub returns-in_err-count-clause-longer : goal.returns-in_err-count-clause-longer
returns-in_err-count-clause-longer c =
    subst (λ (ts : List (List Ticketed)). TakesOn (map (λ intake. intake.taken.items) c.args.intakes.now.items) ts)
    (sym (map-set_same (λ intake. intake.taken.items) c.loop-index.intakes.items c.loop-index.index c.take.new.self c.index_mut.result.now
    (c.in_err-count.ensures.err ∙ ap (λ intake. intake.taken.items) c.index_mut.ensures.value)))
    c.loop-index.invariant.longer

pub returns-in_err-count-clause-most : goal.returns-in_err-count-clause-most
returns-in_err-count-clause-most c =
    subst (λ (ts : List (List Ticketed)). TakesAtMost (map (λ intake. ring_of intake.ring) c.args.intakes.now.items) (map (λ intake. intake.taken.items) c.args.intakes.now.items) ts)
    (sym (map-set_same (λ intake. intake.taken.items) c.loop-index.intakes.items c.loop-index.index c.take.new.self c.index_mut.result.now
    (c.in_err-count.ensures.err ∙ ap (λ intake. intake.taken.items) c.index_mut.ensures.value)))
    (at_most c.loop-index.index _ _ _ c.loop-index.invariant.most)

pub loop-index-preserved : goal.loop-index-preserved
loop-index-preserved c =
    let i = c.loop-index.invariant in
    let k = c.loop-index.index in
    let items = c.loop-index.intakes.items in
    let old = c.index_mut.result.now in
    let after = c.take.new.self.taken.items in
    let count = c.in_ok-count.field-0 in
    let taken = map (λ intake. intake.taken.items) items in
    let before = map (λ intake. intake.taken.items) c.args.intakes.now.items in
    let lt : k < length items = omega (arith, c.loop-index-test.true, c.len-index-end.ensures, i.same_length) in
    let lt' : k < length taken = omega (arith, lt, length-map items (λ intake. intake.taken.items)) in
    let was : get_or taken k [] ≡ old.taken.items = get_or-map (λ intake. intake.taken.items) items k old [] lt ∙ ap (λ intake. intake.taken.items) (sym c.index_mut.ensures.value) in
    let goes : Goes (get_or taken k []) after count = subst (λ (l : List Ticketed). Goes l after count) (sym was) c.in_ok-count.ensures.ok.0 in
    let rings = map (λ intake. ring_of intake.ring) c.args.intakes.now.items in
    let its = ring_of old.ring in
    let here : slice_get rings k ≡ Some its =
    ap (λ (rs : List Ring). slice_get rs k) (sym i.rings) ∙ get_of_map (λ intake. ring_of intake.ring) items k old lt (sym c.index_mut.ensures.value) in
    let now : map (λ intake. intake.taken.items) (set items k c.take.new.self) ≡ set taken k after = map-set (λ intake. intake.taken.items) items k c.take.new.self in
    record {
      rings = map-set_same (λ intake. ring_of intake.ring) items k c.take.new.self old (c.take.ensures.ring ∙ ap (λ intake. ring_of intake.ring) c.index_mut.ensures.value) ∙ i.rings;
      same_length = length-set items k c.take.new.self ∙ i.same_length;
      longer = subst (λ (ts : List (List Ticketed)). TakesOn before ts) (sym now) (takes_more before taken k after count lt' goes i.longer);
      most = subst (λ (ts : List (List Ticketed)). TakesUpTo (k + 1) rings before ts) (sym now) (up_to_more rings before taken k after count its here lt' goes c.in_ok-count.ensures.ok.1 i.most);
      counted = omega (arith, ap (λ (ts : List (List Ticketed)). sum_by length ts) now, counts_more taken k after count lt' goes, i.counted);
      small = omega (arith, i.small, c.in_ok-count.ensures.ok.2);
    }
