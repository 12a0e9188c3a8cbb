-- The text of what is written as a line, without the line's end.
use Rattle.std.specs.Prelude.{ℕ, List}
use Rattle.authority.specs.Shown.{edge_of}
use Rattle.report_lines.specs.declared.shown_line.ShownLine.{ShownLine}
use Rattle.report_lines.specs.declared.shown_line.ShownLine.TheVariants.{Answer, Record, Step, Edge, DotEdge, DotBound}
use Rattle.report_lines.specs.DotText.{bound_text, dot_edge_text}
use Rattle.report_lines.specs.EdgeText.{edge_text}
use Rattle.report_lines.specs.Lines.{answer_text}
use Rattle.report_lines.specs.RecordText.{record_text}
use Rattle.report_lines.specs.StepText.{step_text}

-- the text of a line
abbrev pub shown_text : ShownLine → List ℕ
shown_text (Answer answer) = answer_text answer.now
shown_text (Record shown) = record_text shown.now.at shown.now.body.now shown.now.message
shown_text (Step shown) = step_text shown.at shown.«record» shown.step.now
shown_text (Edge edge) = edge_text (edge_of edge.0.now)
shown_text (DotEdge edge) = dot_edge_text (edge_of edge.0.now)
shown_text (DotBound bound) = bound_text bound
