use Rattle.exception_reasons.specs.Printed.{byte_text}
use Rattle.exception_reasons.proofs.Writing.{Writes}
use Rattle.exception_reasons.proofs.printed.PrintedDisplay.fmt.Given as goal

abbrev pub invariant-loop-byte : goal.invariant-loop-byte
invariant-loop-byte g l = Writes g.W.Write.write_str_gives byte_text l.byte-items l.byte-index l.initial.f l.f
