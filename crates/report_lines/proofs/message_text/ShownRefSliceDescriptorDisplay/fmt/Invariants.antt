use Rattle.std.proofs.Common.{codes}
use denote.Text.{Utf8}
use denote.Shadow.{shadow}
use Rattle.report_lines.specs.MessageText.{descriptor_text}
use Rattle.report_lines.proofs.Joined.{Joins}
use Rattle.report_lines.proofs.message_text.ShownRefSliceDescriptorDisplay.fmt.Given as goal

abbrev pub invariant-loop-descriptor : goal.invariant-loop-descriptor
invariant-loop-descriptor g l = shadow (Utf8 l.between) × Joins g.W.Write.write_str_gives descriptor_text (codes ";") l.descriptor-items l.descriptor-index l.initial.f l.f l.between
