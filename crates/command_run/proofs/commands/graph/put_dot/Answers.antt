use Rattle.std.proofs.Common.{◌++◌}
use Rattle.std.proofs.KnownBytes.{Appends-trans}
use Rattle.report_lines.specs.declared.dot_text.DotBound.TheVariants.{Head, End}
use Rattle.report_lines.specs.DotText.{bound_text}
use Rattle.report_lines.specs.Lines.{line}
use Rattle.command_run.specs.ReportAnswers.{dot_edge_lines}
use Rattle.command_run.proofs.commands.graph.put_dot.Goals as goal

pub returns-clause-lines : goal.returns-clause-lines
returns-clause-lines g c =
    let old = g.O.Output.contents c.args.out.now in
    let first = g.O.Output.contents c.write_line.new.self in
    let second = g.O.Output.contents c.put_dot_edges.new.out in
    let third = g.O.Output.contents c.write_line-2.new.self in
    let edges = dot_edge_lines c.args.graph.now in
    Appends-trans old first third (line (bound_text Head)) (edges ++ line (bound_text End)) c.in_ok-write_line.ensures.line
    (Appends-trans first second third edges (line (bound_text End)) c.in_ok-put_dot_edges.ensures.lines c.in_ok-write_line-2.ensures.line)
