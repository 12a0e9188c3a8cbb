use Rattle.std.proofs.Common.{◌≡◌, ◌-◌, ◌≤◌, length}
use Rattle.vat_log.specs.Reading.{nonzero_at, many_at}
use Rattle.vat_log.proofs.Loop.{with_front}
use Rattle.vat_log.proofs.spelling.fields.many_references.Given as goal

abbrev pub invariant-loop : goal.invariant-loop
invariant-loop l = record {
  within : l.place ≤ length l.bytes;
  so_far : with_front l.references.items (many_at (nonzero_at l.bytes) (l.count - l.counter) l.place) ≡ many_at (nonzero_at l.bytes) l.count l.at;
}
