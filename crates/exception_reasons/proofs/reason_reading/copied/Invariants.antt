use Rattle.std.proofs.Common.{◌≡◌, take}
use Rattle.cap_reader.specs.Places.{text_at}
use Rattle.exception_reasons.proofs.reason_reading.copied.Given as goal

abbrev pub invariant-loop-i : goal.invariant-loop-i
invariant-loop-i l = l.bytes.items ≡ take l.i (text_at l.frame l.text)
