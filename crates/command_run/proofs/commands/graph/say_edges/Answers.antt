use Rattle.std.proofs.Common.{◌⊎◌, refl, inl, inr}
use Rattle.std.proofs.KnownBytes.{Appends-kept}
use Rattle.report_lines.specs.declared.answer.Answer.TheVariants.{Fault}
use Rattle.report_lines.specs.declared.fault.Fault.TheVariants.{OutOfMemory}
use Rattle.command_run.specs.CommandAnswers.{IsOutOfMemory}
use Rattle.command_run.specs.ReportAnswers.{ShowsEdges, graph_lines}
use Rattle.command_run.specs.Runs.{Wrote}
use Rattle.command_run.proofs.Told.{told, torn}
use Rattle.command_run.proofs.commands.graph.say_edges.Goals as goal

pub returns-in_default : goal.returns-in_default
returns-in_default g c =
    told (λ text status. ShowsEdges c.args.dot c.args.run.now text status ⊎ IsOutOfMemory text status) (Wrote g.O.Output.contents g.O.Output.is_finished) c.args.out.now c.say.new.out
    (Fault OutOfMemory) c.say.result (inr (refl, refl)) c.say.ensures.status c.say.ensures.line

pub returns-in_err-put_graph : goal.returns-in_err-put_graph
returns-in_err-put_graph g c =
    torn _ (λ text status. ShowsEdges c.args.dot c.args.run.now text status ⊎ IsOutOfMemory text status) (Wrote g.O.Output.contents g.O.Output.is_finished) c.args.out.now c.put_graph.new.out
    c.from_residual.result (graph_lines c.args.dot c.in-Ok.graph) 0 (inl (c.in-Ok.graph, (c.in-Ok.ensures, refl, refl))) c.from_residual.ensures.1

pub returns-in_err-finish : goal.returns-in_err-finish
returns-in_err-finish g c =
    torn _ (λ text status. ShowsEdges c.args.dot c.args.run.now text status ⊎ IsOutOfMemory text status) (Wrote g.O.Output.contents g.O.Output.is_finished) c.args.out.now c.finish.new.self
    c.from_residual-in_err-finish.result (graph_lines c.args.dot c.in-Ok.graph) 0 (inl (c.in-Ok.graph, (c.in-Ok.ensures, refl, refl))) c.from_residual-in_err-finish.ensures.1

pub returns : goal.returns
returns g c =
    let lines = graph_lines c.args.dot c.in-Ok.graph in (
      lines,
      inl (c.in-Ok.graph, (c.in-Ok.ensures, refl, refl)),
      (
        Appends-kept (g.O.Output.contents c.args.out.now) (g.O.Output.contents c.put_graph.new.out) (g.O.Output.contents c.finish.new.self) lines c.in_ok-put_graph.ensures.lines
            c.in_ok-finish.ensures.bytes,
        c.in_ok-finish.ensures.finished,
      ),
    )
