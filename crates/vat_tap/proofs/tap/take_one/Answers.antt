use Rattle.std.proofs.Common.{◌≡◌, ◌<◌, List, [], map, set, length, get_or, arith, sym, ap, ◌∙◌, subst}
use mathlib.Core.List.{IsPrefix}
use Rattle.std.proofs.lemmas.List.{length-map, get_or-map, map-set}
use Rattle.std.proofs.Math.Seq.{map-set_same}
use Rattle.vat_tap.specs.Glue.Taps.{ring_of}
use Rattle.vat_tap.specs.Tickets.{Ticketed, TakesOn}
use Rattle.vat_tap.proofs.Draining.{takes_nothing, takes_longer}
use Rattle.vat_tap.proofs.Gathering.{on_ok_map, get_within}
use Rattle.vat_tap.proofs.tap.take_one.Goals as goal

pub returns-clause-rings : goal.returns-clause-rings
returns-clause-rings c =
    map-set_same (λ intake. ring_of intake.ring) c.args.intakes.now.items c.lane.inside.number c.take_all.new.self c.index_mut-intake.result.now
    (c.take_all.ensures.ring ∙ ap (λ intake. ring_of intake.ring) c.index_mut-intake.ensures.value)

pub returns-clause-longer : goal.returns-clause-longer
returns-clause-longer c =
    let items = c.args.intakes.now.items in
    let k = c.lane.inside.number in
    let taken = map (λ intake. intake.taken.items) items in
    let old = c.index_mut-intake.result.now in
    let after = c.take_all.new.self.taken.items in
    let same : k ≡ c.args.lane.now.number = ap (λ lane. lane.number) c.lane.view_is in
    let lt : k < length items = omega (arith, same, get_within (map (λ intake. ring_of intake.ring) items) c.args.lane.now.number c.args.lane.now.ring c.requires, length-map items (λ intake. ring_of intake.ring)) in
    let lt' : k < length taken = omega (arith, lt, length-map items (λ intake. intake.taken.items)) in
    let was : get_or taken k [] ≡ old.taken.items = get_or-map (λ intake. intake.taken.items) items k old [] lt ∙ ap (λ intake. intake.taken.items) (sym c.index_mut-intake.ensures.value) in
    subst (λ (ts : List (List Ticketed)). TakesOn taken ts) (sym (map-set (λ intake. intake.taken.items) items k c.take_all.new.self))
    (takes_longer taken taken k after lt' (subst (λ (l : List Ticketed). IsPrefix l after) (sym was) c.take_all.ensures.longer) (takes_nothing taken))

pub returns-clause-ok : goal.returns-clause-ok
returns-clause-ok c =
    let all = map (λ intake. intake.taken.items) c.args.intakes.now.items in
    on_ok_map c.take_all.result
    (λ taken. map-set (λ intake. intake.taken.items) c.args.intakes.now.items c.lane.inside.number c.take_all.new.self
    ∙ ap (λ items. set all c.lane.inside.number items) taken ∙ ap (λ n. set all n c.args.lane.now.recorded) (ap (λ lane. lane.number) c.lane.view_is))
    c.take_all.ensures.ok
