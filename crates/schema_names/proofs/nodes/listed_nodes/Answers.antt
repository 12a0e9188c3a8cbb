use Rattle.std.proofs.Common.{◌<◌, arith}
use Rattle.std.proofs.lemmas.List.{append-nil}
use Rattle.std.proofs.lemmas.Result.{err_from_is_err_and}
use Rattle.cap_reader.specs.Places.{element_at, elements_at}
use Rattle.schema_names.specs.Reading.{run_schema}
use Rattle.schema_names.specs.Glue.{optional}
use Rattle.schema_names.specs.Names.{node_in, each_node}
use Rattle.schema_names.proofs.Loops.{goes_on, ends, is_done}
use Rattle.schema_names.proofs.nodes.listed_nodes.Goals as goal
use Rattle.schema_names.proofs.nodes.listed_nodes.Goals.{in-Some+in_ok-push, in_default}

pub returns-in_err-interface : goal.returns-in_err-interface
returns-in_err-interface c =
    let p = err_from_is_err_and c.from_residual.result c.from_residual.ensures.1 in
    let lt : c.loop-i.i < c.args.list.now.count = omega arith in
    rw (p.1, p.2) (ends (λ i. node_in (element_at c.args.frame.now c.args.list.now i)) c.in_err-interface.field-0.0 c.loop-i.interfaces.items c.args.list.now.count c.loop-i.i c.loop-i.limits.words c.node.new.limits.words (run_schema (each_node (elements_at c.args.frame.now c.args.list.now)) c.args.limits.now.words) lt c.in_err-interface.ensures c.loop-i.invariant)

pub loop-i-preserved : goal.loop-i-preserved
loop-i-preserved c =
    let lt : c.loop-i.i < c.args.list.now.count = omega arith in
    let more = goes_on (λ i. node_in (element_at c.args.frame.now c.args.list.now i)) c.loop-i.interfaces.items (optional c.in_ok-interface.field-0) c.args.list.now.count c.loop-i.i c.loop-i.limits.words c.node.new.limits.words _ lt c.in_ok-interface.ensures c.loop-i.invariant in
    elim c.match-branch-2.branch [
      | in-Some+in_ok-push w ↦ rw (w.interfaces-is, w.in_ok-push.ensures.items) (rw w.in-Some.is at more)
      | in_default w ↦ rw w.interfaces-is (rw (w.in_default.is, append-nil) at more)
    ]

pub returns : goal.returns
returns c =
    rw c.new.ensures (is_done (λ i. node_in (element_at c.args.frame.now c.args.list.now i)) c.loop-i.interfaces.items c.args.list.now.count c.loop-i.i c.loop-i.limits.words _ (omega arith) c.loop-i.invariant)
