use Rattle.std.proofs.Common.{◌≡◌, take, map}
use Rattle.vat_tap.specs.Glue.Taps.{ring_of, AreTaken}
use Rattle.vat_tap.specs.Tickets.{TakesOn}
use Rattle.vat_tap.proofs.tap.gather.Given as goal

abbrev pub invariant-loop-index : goal.invariant-loop-index
invariant-loop-index l = record {
  rings : map (λ intake. ring_of intake.ring) l.intakes.items ≡ map (λ intake. ring_of intake.ring) l.initial.intakes.items;
  lanes : l.lanes.items ≡ l.initial.lanes.items;
  longer : TakesOn (map (λ intake. intake.taken.items) l.initial.intakes.items) (map (λ intake. intake.taken.items) l.intakes.items);
  taken : AreTaken (map (λ intake. intake.taken.items) l.intakes.items) (take l.index l.initial.lanes.items);
}
