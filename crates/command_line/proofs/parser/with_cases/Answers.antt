use Rattle.std.proofs.Common.{codes}
use Rattle.command_line.specs.Parser.{auditor, draw, graph, top, writer}
use Rattle.command_line.proofs.parser.with_cases.Goals as goal

pub returns : goal.returns
returns c =
    let checking = c.with_command-checking.ensures top (auditor (codes "check")) c.bare.ensures c.auditor_command-check.ensures in
    let ordering = c.with_command-ordering.ensures _ (writer (codes "order")) checking c.writer_command-order.ensures in
    let graphing = c.with_command-graphing.ensures _ graph ordering c.graph_command.ensures in
    let stepping = c.with_command-stepping.ensures _ (auditor (codes "run")) graphing c.auditor_command-run.ensures in
    c.with_command.ensures _ draw stepping c.draw_command.ensures
