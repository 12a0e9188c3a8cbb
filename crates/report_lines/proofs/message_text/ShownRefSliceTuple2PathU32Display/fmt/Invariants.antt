use Rattle.std.proofs.Common.{codes}
use denote.Text.{Utf8}
use denote.Shadow.{shadow}
use Rattle.report_lines.specs.MessageText.{field_text}
use Rattle.report_lines.proofs.Joined.{Joins}
use Rattle.report_lines.proofs.message_text.ShownRefSliceTuple2PathU32Display.fmt.Given as goal

abbrev pub invariant-loop-path : goal.invariant-loop-path
invariant-loop-path g l = shadow (Utf8 l.between) × Joins g.W.Write.write_str_gives field_text (codes ";") l.path-items l.path-index l.initial.f l.f l.between
