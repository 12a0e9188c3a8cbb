use Rattle.std.proofs.Common.{◌≡◌, ◌+◌, ◌*◌, [], length, map, All}
use Rattle.std.specs.Arc.{arc_value}
use Rattle.vat_tap.specs.Glue.Taps.{ring_of, AreNew}
use Rattle.vat_tap.proofs.tap.Tap.opened.Given as goal

abbrev pub invariant-loop-number : goal.invariant-loop-number
invariant-loop-number l = record {
  at : l.seat.table_id ≡ (arc_value l.word).shared.table_id;
  room : l.seat.me.0.room + l.number * l.share ≡ 1048576;
  share : l.seat.me.0.share ≡ l.share;
  tickets : l.seat.me.0.tickets ≡ [];
  slots : l.seat.me.1 ≡ [];
  count : length l.intakes.items ≡ l.number;
  nothing : All (λ taken. taken ≡ []) (map (λ intake. intake.taken.items) l.intakes.items);
  new : AreNew l.seat.table_id l.share l.ring (map (λ intake. ring_of intake.ring) l.intakes.items) l.opened.items;
}
