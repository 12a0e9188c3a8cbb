use Rattle.std.proofs.Common.{map, take}
use Rattle.std.specs.Io.KnownBytes.{Appends}
use Rattle.authority.specs.Shown.{edge_of}
use Rattle.command_run.specs.ReportAnswers.{dot_edge_lines}
use Rattle.command_run.proofs.commands.graph.put_dot_edges.Given as goal

abbrev pub invariant-loop-edge : goal.invariant-loop-edge
invariant-loop-edge g l = Appends (g.O.Output.contents l.initial.out) (g.O.Output.contents l.out) (dot_edge_lines (map edge_of (take l.edge-index l.edge-items))) × g.O.Output.can_write l.out
