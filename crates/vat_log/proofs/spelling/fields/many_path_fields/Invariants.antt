use Rattle.std.proofs.Common.{◌≡◌, ◌-◌, ◌≤◌, length}
use Rattle.std.specs.Int.{w16}
use Rattle.vat_log.specs.Reading.{number_at, many_at}
use Rattle.vat_log.proofs.Loop.{with_front}
use Rattle.vat_log.proofs.spelling.fields.many_path_fields.Given as goal

abbrev pub invariant-loop : goal.invariant-loop
invariant-loop l = record {
  within : l.place ≤ length l.bytes;
  so_far : with_front l.fields.items (many_at (number_at w16 l.bytes) (l.count - l.counter) l.place) ≡ many_at (number_at w16 l.bytes) l.count l.at;
}
