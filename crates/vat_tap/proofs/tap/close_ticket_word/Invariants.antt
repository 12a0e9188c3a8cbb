use Rattle.std.proofs.Common.{◌≡◌, ℕ, ◌+◌, ◌*◌, [], length, All}
use Rattle.std.specs.List.{sum_by}
use Rattle.vat_tap.specs.Tickets.{tickets_of, share_of, times}
use Rattle.vat_tap.proofs.tap.close_ticket_word.Given as goal

abbrev pub invariant-loop-lane : goal.invariant-loop-lane
invariant-loop-lane l = record {
  at : l.seat.table_id ≡ l.initial.seat.table_id;
  room : l.seat.me.0.room + length l.lanes.items * share_of (length l.initial.lanes.items) ≡ 1048576;
  slots : l.seat.me.1 ≡ [];
  once : (ticket : ℕ) → times ticket l.seat.me.0.tickets + sum_by (λ lane. times ticket (tickets_of lane.recorded)) l.lanes.items ≡ sum_by (λ lane. times ticket (tickets_of lane.recorded)) l.initial.lanes.items;
  drawn : length l.seat.me.0.tickets + sum_by (λ lane. length lane.recorded) l.lanes.items ≡ sum_by (λ lane. length lane.recorded) l.initial.lanes.items;
  mine : All (λ lane. (lane.word ≡ l.initial.seat.table_id) × (lane.share ≡ share_of (length l.initial.lanes.items))) l.lanes.items;
}

abbrev pub decreases-loop-lane : goal.decreases-loop-lane
decreases-loop-lane l = length l.lanes.items
