use Rattle.std.proofs.Common.{codes}
use denote.Text.{Utf8}
use denote.Shadow.{shadow}
use Rattle.report_lines.specs.RecordText.{answered_text}
use Rattle.report_lines.proofs.Joined.{Joins}
use Rattle.report_lines.proofs.record_text.ShownRefSliceTuple2U64PathDisplay.fmt.Given as goal

abbrev pub invariant-loop-reference : goal.invariant-loop-reference
invariant-loop-reference g l = shadow (Utf8 l.between) × Joins g.W.Write.write_str_gives answered_text (codes ";") l.reference-items l.reference-index l.initial.f l.f l.between
