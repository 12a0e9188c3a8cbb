use Rattle.std.proofs.Common.{All, ◌≡◌, ◌-◌, ◌/◌, List, [], ◌∷◌, ◌++◌, length, map, arith, refl, sym, ap, ◌∙◌, subst, length-append}
use Rattle.std.proofs.lemmas.List.{map-append, length-map}
use Rattle.std.proofs.lemmas.List.Elements.{All-push}
use Rattle.vat_tap.specs.Tickets.{Ticketed, Ring, LaneView}
use Rattle.vat_tap.specs.Glue.Taps.{ring_of, lane_view, AreNew}
use Rattle.vat_tap.proofs.Moves.{splits}
use Rattle.vat_tap.proofs.Gathering.{more_times}
use Rattle.vat_tap.proofs.NewLanes.{enough, same_ring, new_more}
use Rattle.vat_tap.proofs.tap.Tap.opened.Goals as goal

pub split_seat-theirs-requires : goal.split_seat-theirs-requires
split_seat-theirs-requires c =
    let i = c.loop-number.invariant in
    let table = ap (λ t. t.shared.table_id) c.deref.ensures in
    let words = ap (λ t. t.shared.table_id.words) (c.deref.ensures ∙ c.in_ok-word.ensures.ok) in (
      i.at ∙ sym table,
      omega (arith, words, c.in_ok-table.ensures.0),
      splits 1048576 _ c.loop-number.seat.me.0 (omega (arith, i.share, ap length i.tickets, i.room, enough c.loop-number.number c.args.lanes c.loop-number-test.true)),
    )

pub loop-number-preserved : goal.loop-number-preserved
loop-number-preserved c =
    let i = c.loop-number.invariant in
    let s = 1048576 / c.args.lanes in
    let t = c.split_seat-theirs.ensures in
    let rings = map (λ intake. ring_of intake.ring) c.loop-number.intakes.items in
    let lane = lane_view c.split_seat-theirs.result.table_id c.loop-number.number s c.in_ok-sending.sending in
    let ring = ring_of c.in_ok-sending.receiving in
    let pushed = c.in_ok-push-2.ensures.items in
    let made = c.in_ok-sending.ensures in
    let room : c.split_seat-theirs.new.seat.me.0.room ≡ c.loop-number.seat.me.0.room - c.loop-number.seat.me.0.share = ap (λ m. m.0.room) t.2 in
    let long : length rings ≡ c.loop-number.number = length-map c.loop-number.intakes.items (λ intake. ring_of intake.ring) ∙ i.count in
    let new = new_more c.loop-number.seat.table_id s c.args.ring rings c.loop-number.opened.items ring lane i.new t.3 refl made.producer.2 made.producer.0 (sym long) (same_ring c.in_ok-sending.sending c.in_ok-sending.receiving made.pair (made.consumer.2 ∙ sym made.producer.2)) in
    let grown : map (λ intake. ring_of intake.ring) c.push-in-loop-number.new.self.items ≡ rings ++ ring ∷ [] =
    ap (map (λ intake. ring_of intake.ring)) pushed ∙ map-append (λ intake. ring_of intake.ring) c.loop-number.intakes.items _ in
    record {
      at = t.0 ∙ i.at;
      room = omega (arith, room, i.share, i.room, enough c.loop-number.number c.args.lanes c.loop-number-test.true, more_times c.loop-number.number s);
      share = ap (λ m. m.0.share) t.2 ∙ i.share;
      tickets = ap (λ m. m.0.tickets) t.2 ∙ i.tickets;
      slots = ap (λ m. m.1) t.2 ∙ i.slots;
      count = omega (arith, length-map c.push-in-loop-number.new.self.items (λ intake. ring_of intake.ring), ap length grown, length-append rings (ring ∷ []), long);
      nothing = subst (All (λ (taken : List Ticketed). taken ≡ [])) (sym (ap (map (λ intake. intake.taken.items)) pushed ∙ map-append (λ intake. intake.taken.items) c.loop-number.intakes.items _))
          (All-push (λ (taken : List Ticketed). taken ≡ []) (map (λ intake. intake.taken.items) c.loop-number.intakes.items) c.new-in-loop-number-2.result.items i.nothing c.new-in-loop-number-2.ensures.items);
      new = subst (λ word. AreNew word s c.args.ring (map (λ intake. ring_of intake.ring) c.push-in-loop-number.new.self.items) c.push.new.self.items) (sym t.0)
          (subst (λ (rs : List Ring). AreNew c.loop-number.seat.table_id s c.args.ring rs c.push.new.self.items) (sym grown)
          (subst (λ (ls : List LaneView). AreNew c.loop-number.seat.table_id s c.args.ring (rings ++ ring ∷ []) ls) (sym c.in_ok-push.ensures.items) new));
    }
