use Rattle.std.proofs.Common.{◌≡◌, ℕ, ◌+◌, ◌*◌, ◌++◌, ◌∷◌, [], All, length, arith, sym, ap, ◌∙◌, subst, length-append}
use Rattle.std.specs.List.{sum_by}
use Rattle.std.proofs.lemmas.List.{length-map}
use Rattle.std.proofs.lemmas.List.Sums.{sum_by_push}
use Rattle.rtrb.specs.Ring.{sent}
use Rattle.vat_tap.specs.declared.ticket_word.SeatKnowledge.{SeatKnowledge}
use Rattle.vat_tap.specs.Glue.Rule.{view, together}
use Rattle.vat_tap.specs.Tickets.{LaneView, tickets_of, share_of, times}
use Rattle.vat_tap.proofs.Moves.{joins, times_append}
use Rattle.vat_tap.proofs.Lanes.{looks_as}
use Rattle.vat_tap.proofs.Gathering.{All_last, All_front, more_times}
use Rattle.vat_tap.proofs.tap.close_ticket_word.Goals as goal

pub join_seat-requires : goal.join_seat-requires
join_seat-requires c =
    let i = c.loop-lane.invariant in
    let t = c.requires.tap in
    let table = ap (λ it. it.shared.table_id) c.deref.ensures in
    let P = λ (l : LaneView). (l.word ≡ c.args.seat.table_id) × (l.share ≡ share_of (length c.args.lanes.items)) in
    let mine = All_last P c.pop.new.self.items c.in-Some.lane (subst (All P) c.in-Some.ensures.items i.mine) in (
      i.at ∙ t.at ∙ sym table,
      ap (λ (l : LaneView). l.word) c.lane.view_is ∙ mine.0 ∙ t.at ∙ sym table,
      ap (λ m. m.1) c.lane.invariant.seat,
      omega (arith, t.words, ap (λ it. it.words) (t.at ∙ sym table)),
      joins 1048576 _ _ _ _,
    )

pub loop-lane-preserved : goal.loop-lane-preserved
loop-lane-preserved c =
    let i = c.loop-lane.invariant in
    let j = c.join_seat.ensures in
    let rest = c.pop.new.self.items in
    let lane = c.in-Some.lane in
    let items = c.in-Some.ensures.items in
    let s = share_of (length c.args.lanes.items) in
    let P = λ (l : LaneView). (l.word ≡ c.args.seat.table_id) × (l.share ≡ share_of (length c.args.lanes.items)) in
    let all = subst (All P) items i.mine in
    let mine = All_last P rest lane all in
    let tickets = tickets_of (sent c.lane.inside.ring) in
    let full : c.join_seat.new.seat.me.0 ≡ together c.loop-lane.seat.me.0 (view c.lane.inside.share c.lane.inside.share tickets) =
    ap (λ m. m.0) j.2 ∙ ap (λ (m : SeatKnowledge). together c.loop-lane.seat.me.0 m) (ap (λ m. m.0) c.lane.invariant.seat) in
    let share : c.lane.inside.share ≡ s = ap (λ (l : LaneView). l.share) c.lane.view_is ∙ mine.1 in
    let room : c.join_seat.new.seat.me.0.room ≡ c.loop-lane.seat.me.0.room + c.lane.inside.share = ap (λ (v : SeatKnowledge). v.room) full in
    let drawn : c.join_seat.new.seat.me.0.tickets ≡ c.loop-lane.seat.me.0.tickets ++ tickets = ap (λ (v : SeatKnowledge). v.tickets) full in
    let said : tickets ≡ tickets_of lane.recorded = ap (λ (l : LaneView). tickets_of l.recorded) c.lane.view_is in
    let long : length tickets ≡ length lane.recorded = ap length said ∙ length-map lane.recorded (λ item. item.0) in
    let once : (ticket : ℕ) → times ticket c.join_seat.new.seat.me.0.tickets + sum_by (λ (l : LaneView). times ticket (tickets_of l.recorded)) rest ≡ sum_by (λ (l : LaneView). times ticket (tickets_of l.recorded)) c.args.lanes.items =
    λ ticket. omega (
      arith,
      i.once ticket,
      ap (times ticket) drawn,
      times_append ticket c.loop-lane.seat.me.0.tickets tickets,
      ap (times ticket) said,
      ap (sum_by (λ (l : LaneView). times ticket (tickets_of l.recorded))) items,
      sum_by_push (λ (l : LaneView). times ticket (tickets_of l.recorded)) rest lane,
    ) in
    record {
      at = j.0 ∙ i.at;
      room = omega (arith, i.room, room, share, ap (λ (n : ℕ). n * s) (ap length items ∙ length-append rest (lane ∷ [])), more_times (length rest) s);
      slots = ap (λ m. m.1) j.2 ∙ i.slots;
      once = once;
      drawn = omega (
        arith,
        i.drawn,
        ap length drawn,
        length-append c.loop-lane.seat.me.0.tickets tickets,
        long,
        ap (sum_by (λ (l : LaneView). length l.recorded)) items,
        sum_by_push (λ (l : LaneView). length l.recorded) rest lane,
      );
      mine = All_front P rest (lane ∷ []) all;
    }

pub load-requires : goal.load-requires
load-requires c =
    let i = c.loop-lane.invariant in
    let t = c.requires.tap in
    let table = ap (λ it. it.shared.table_id) c.deref-2.ensures in
    let s = share_of (length c.args.lanes.items) in
    let none : length c.loop-lane.lanes.items ≡ 0 = omega (arith, c.in_default.ensures.cases.0) in (
      i.at ∙ t.at ∙ sym table,
      omega (arith, t.words, ap (λ it. it.words) (t.at ∙ sym table)),
      looks_as _ _ _ i.slots (omega (arith, i.room, ap (λ (n : ℕ). n * s) none)),
    )
