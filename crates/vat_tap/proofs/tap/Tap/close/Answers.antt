use Rattle.std.proofs.Common.{◌≡◌, ℕ, List, length, map, arith, ap, subst}
use Rattle.std.specs.List.{sum_by}
use Rattle.std.proofs.lemmas.List.{length-map}
use Rattle.vat_tap.specs.Glue.Taps.{version_by, ring_of}
use Rattle.vat_tap.specs.Tickets.{LaneView, TapView, IsTaped, tickets_of, times, once_below}
use Rattle.vat_tap.proofs.Taped.{taped}
use Rattle.vat_tap.proofs.tap.Tap.close.Goals as goal

pub returns-in-Ok-clause-ok : goal.returns-in-Ok-clause-ok
returns-in-Ok-clause-ok c =
    let lanes = c.args.lanes.items in
    let rings : length (map (λ intake. ring_of intake.ring) c.tap.inside.intakes.items) ≡ length c.args.self.rings = ap (λ (t : TapView). length t.rings) c.tap.view_is in
    let Once = λ (ls : List LaneView). (ticket : ℕ) → sum_by (λ (lane : LaneView). times ticket (tickets_of lane.recorded)) ls ≡ once_below (sum_by (λ (lane : LaneView). length lane.recorded) ls) ticket in
    let once : Once lanes = subst Once c.taken_log.ensures.lanes c.close_ticket_word.ensures in (
      omega (arith, c.if-len.false, c.len.ensures, c.len-2.ensures, length-map c.tap.inside.intakes.items (λ intake. ring_of intake.ring), rings),
      subst (λ (t : TapView). IsTaped t.version t.vat lanes c.in-Ok.log) c.tap.view_is (taped (version_by c.tap.inside.later) c.tap.inside.vat lanes c.in-Ok.log c.in-Ok.ensures.log once c.in-Ok.ensures.rising),
    )
