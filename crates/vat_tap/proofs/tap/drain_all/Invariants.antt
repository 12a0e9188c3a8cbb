use Rattle.std.proofs.Common.{◌≡◌, ◌+◌, ◌*◌, ◌≤◌, length, map}
use Rattle.std.specs.List.{sum_by}
use Rattle.vat_tap.specs.Glue.Taps.{ring_of, TakesUpTo}
use Rattle.vat_tap.specs.Tickets.{TakesOn}
use Rattle.vat_tap.proofs.tap.drain_all.Given as goal

abbrev pub invariant-loop-index : goal.invariant-loop-index
invariant-loop-index l = record {
  rings : map (λ intake. ring_of intake.ring) l.intakes.items ≡ map (λ intake. ring_of intake.ring) l.initial.intakes.items;
  same_length : length l.intakes.items ≡ length l.initial.intakes.items;
  longer : TakesOn (map (λ intake. intake.taken.items) l.initial.intakes.items) (map (λ intake. intake.taken.items) l.intakes.items);
  most : TakesUpTo l.index (map (λ intake. ring_of intake.ring) l.initial.intakes.items) (map (λ intake. intake.taken.items) l.initial.intakes.items) (map (λ intake. intake.taken.items) l.intakes.items);
  counted : sum_by length (map (λ intake. intake.taken.items) l.intakes.items) ≡ sum_by length (map (λ intake. intake.taken.items) l.initial.intakes.items) + l.count;
  small : l.count ≤ l.index * 65536;
}
