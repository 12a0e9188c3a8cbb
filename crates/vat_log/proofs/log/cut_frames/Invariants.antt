use Rattle.std.proofs.Common.{◌≡◌}
use Rattle.vat_log.proofs.log.cut_frames.Given as goal

abbrev pub invariant-loop-index : goal.invariant-loop-index
invariant-loop-index l = l.records.items ≡ l.initial.records.items
