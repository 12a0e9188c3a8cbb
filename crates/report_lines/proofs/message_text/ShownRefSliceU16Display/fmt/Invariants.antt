use Rattle.std.proofs.Common.{codes}
use denote.Text.{Utf8}
use denote.Shadow.{shadow}
use Rattle.std.specs.Fmt.{decimal}
use Rattle.report_lines.proofs.Joined.{Joins}
use Rattle.report_lines.proofs.message_text.ShownRefSliceU16Display.fmt.Given as goal

abbrev pub invariant-loop-number : goal.invariant-loop-number
invariant-loop-number g l = shadow (Utf8 l.between) × Joins g.W.Write.write_str_gives decimal (codes ",") l.number-items l.number-index l.initial.f l.f l.between
