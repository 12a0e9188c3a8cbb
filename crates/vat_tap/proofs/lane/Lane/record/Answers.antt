use Rattle.std.proofs.Common.{◌<◌, length, arith, sym, ap, ◌∙◌, ◌++◌, ◌∷◌, []}
use Rattle.rtrb.specs.Ring.{sent}
use Rattle.std.proofs.lemmas.List.{length-map}
use Rattle.vat_tap.specs.Glue.Rule.{view}
use Rattle.vat_tap.specs.Tickets.{tickets_of}
use Rattle.vat_tap.proofs.Lanes.{draws_as, lane_after}
use Rattle.vat_tap.proofs.lane.Lane.record.Goals as goal

pub fetch_add-number-requires : goal.fetch_add-number-requires
fetch_add-number-requires c =
    let i = c.self.invariant in
    let table = ap (λ t. t.shared.table_id) c.deref.ensures in
    let tickets = tickets_of (sent c.self.inside.ring) in
    let more : length tickets < c.self.inside.share = omega (arith, i.count, length-map (sent c.self.inside.ring) (λ item. item.0), c.if-self.false) in
    (i.at ∙ sym table, omega (arith, i.words, ap (λ t. t.words) (i.at ∙ sym table)), draws_as _ _ _ (view c.self.inside.share c.self.inside.share tickets) i.seat more)

pub invariant_of-self-2 : goal.invariant_of-self-2
invariant_of-self-2 c =
    let i = c.self.invariant in
    let f = c.fetch_add-number.ensures in
    let added = c.push_reserved.ensures.sent.0 ∙ ap (λ items. items ++ (c.fetch_add-number.result, c.args.entry) ∷ []) c.is_full.ensures.looked.1 in
    lane_after _ _ _ _ _ _ _ c.fetch_add-number.result c.args.entry c.self.inside.ring _ i f.0 f.2 added (omega (arith, c.if-self.false))
