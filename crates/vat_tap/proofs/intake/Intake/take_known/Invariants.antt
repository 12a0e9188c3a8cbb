use Rattle.std.proofs.Common.{◌≡◌, ◌+◌, ◌≤◌, ◌++◌, length}
use Rattle.std.specs.Prelude.{vec_len, vec_capacity}
use Rattle.rtrb.specs.Ring.{received, known_items, consumer_capacity}
use Rattle.vat_tap.specs.Glue.Taps.{ring_of}
use Rattle.vat_tap.proofs.intake.Intake.take_known.Given as goal

abbrev pub invariant-loop : goal.invariant-loop
invariant-loop l = record {
  whole : l.taken.items ++ known_items l.ring ≡ l.initial.taken.items ++ known_items l.initial.ring;
  same : l.taken.items ≡ received l.ring;
  ring : ring_of l.ring ≡ ring_of l.initial.ring;
  small : consumer_capacity l.ring ≤ 65536;
  left : length (known_items l.ring) + l.counter ≡ l.found;
  room : vec_len l.taken + length (known_items l.ring) ≤ vec_capacity l.taken;
}
