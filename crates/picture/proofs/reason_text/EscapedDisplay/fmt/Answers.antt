use Rattle.std.proofs.Common.{◌∙◌, ap, sym, arith}
use Rattle.std.proofs.Output.{has_written_of_eq}
use Rattle.std.proofs.lemmas.List.{take_all}
use Rattle.std.specs.List.{flat_map}
use Rattle.exception_reasons.specs.Printed.{byte_text}
use Rattle.picture.specs.ReasonText.{letter_markup, markup}
use Rattle.picture.proofs.Writing.{each_of_each}
use Rattle.picture.proofs.reason_text.EscapedDisplay.fmt.Goals as goal

pub returns-clause-writes : goal.returns-clause-writes
returns-clause-writes g c plain ok =
    let bytes = c.args.self.now.0.now in
    has_written_of_eq g.W.Write.write_str_gives c.args.f.now _ _ c.loop-byte.f
    (ap (flat_map (λ byte. markup (byte_text byte))) (take_all c.loop-byte.byte-index bytes (omega (arith, c.loop-byte-test.false))) ∙ sym (each_of_each byte_text letter_markup bytes))
    (c.loop-byte.invariant.wrote plain)
