use Rattle.std.proofs.Common.{◌≡◌, take, map}
use Rattle.vat_log.proofs.spelling.storing.lend.Given as goal

abbrev pub invariant-loop-entry : goal.invariant-loop-entry
invariant-loop-entry l = map (λ entry. entry.now) l.lent.items ≡ take l.entry-index l.records
