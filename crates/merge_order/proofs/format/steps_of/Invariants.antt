use Rattle.std.proofs.Common.{◌≡◌, ◌+◌, length}
use Rattle.merge_order.specs.Spelling.{steps_at}
use Rattle.merge_order.proofs.Reading.{with_front}
use Rattle.merge_order.proofs.format.steps_of.Given as goal

abbrev pub invariant-loop-rest : goal.invariant-loop-rest
invariant-loop-rest l = (with_front l.vats.items (steps_at l.at l.rest) ≡ steps_at 8 l.bytes) × (l.at + length l.rest ≡ 8 + length l.bytes)

abbrev pub decreases-loop-rest : goal.decreases-loop-rest
decreases-loop-rest l = length l.rest
