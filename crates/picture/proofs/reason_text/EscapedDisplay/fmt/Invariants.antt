use Rattle.exception_reasons.specs.Printed.{byte_text}
use Rattle.picture.specs.ReasonText.{markup}
use Rattle.picture.proofs.Writing.{Writes}
use Rattle.picture.proofs.reason_text.EscapedDisplay.fmt.Given as goal

abbrev pub invariant-loop-byte : goal.invariant-loop-byte
invariant-loop-byte g l = Writes g.W.Write.write_str_gives (λ byte. markup (byte_text byte)) l.byte-items l.byte-index l.initial.f l.f
