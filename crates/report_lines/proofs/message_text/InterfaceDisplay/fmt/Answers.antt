use Rattle.std.proofs.Common.{◌≡◌, ◌∙◌, ◌++◌, ◌-◌, ◌^◌, ap, arith, List, ℕ, [], false, Some, option_map, length, replicate, append-nil}
use Rattle.std.proofs.Output.{displays_on_ok_of_eq}
use Rattle.std.specs.Fmt.{char_count, digits, format_spec, padded_integral, styled_digits_output}
use Rattle.report_lines.specs.MessageText.{hexadecimal}
use Rattle.report_lines.proofs.message_text.InterfaceDisplay.fmt.Goals as goal

padded : (numeral : List ℕ) → padded_integral (format_spec 32 0 4 16 (2 ^ 64 - 1)) false [] numeral ≡ replicate (16 - length numeral) 48 ++ numeral
unfolding padded_integral char_count
padded numeral =
    let zeros : 16 - length numeral - 0 - 0 ≡ 16 - length numeral = omega arith in
    ap (λ n. replicate n 48 ++ (numeral ++ [])) zeros ∙ ap (λ t. replicate (16 - length numeral) 48 ++ t) (append-nil numeral)

pub returns-clause-writes : goal.returns-clause-writes
unfolding hexadecimal
returns-clause-writes g c =
    displays_on_ok_of_eq g.W.Write.write_str_gives c.args.f.now c.write.new.self c.write.result (styled_digits_output c.in_radix.result c.laid_out.result)
    (Some (hexadecimal c.args.self.now.0))
    (ap (λ s. styled_digits_output c.in_radix.result s) c.laid_out.ensures ∙ ap (option_map (padded_integral (format_spec 32 0 4 16 (2 ^ 64 - 1)) false [])) c.in_radix.ensures
    ∙ ap (λ t. Some t) (padded (digits 16 false c.args.self.now.0)))
    c.write.ensures.writes
