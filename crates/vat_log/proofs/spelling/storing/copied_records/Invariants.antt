use Rattle.std.proofs.Common.{◌≡◌, take, map}
use Rattle.vat_log.proofs.spelling.storing.copied_records.Given as goal

abbrev pub invariant-loop-entry : goal.invariant-loop-entry
invariant-loop-entry l = l.copied.items ≡ take l.entry-index (map (λ entry. entry.now) l.records)
