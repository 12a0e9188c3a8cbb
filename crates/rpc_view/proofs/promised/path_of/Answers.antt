use Rattle.std.proofs.Common.{◌<◌, arith}
use Rattle.std.proofs.lemmas.List.{append-nil}
use Rattle.std.proofs.lemmas.Result.{err_from_is_err_and}
use Rattle.cap_reader.specs.Places.{element_at, elements_at}
use Rattle.rpc_view.specs.Reading.{run}
use Rattle.rpc_view.specs.Glue.{optional_number}
use Rattle.rpc_view.specs.Message.{operation_in, operations_in}
use Rattle.rpc_view.proofs.Loops.{goes_on, ends, is_done}
use Rattle.rpc_view.proofs.promised.path_of.Goals as goal
use Rattle.rpc_view.proofs.promised.path_of.Goals.{in-Some+in_ok-push, in_default}

pub returns-in_err-number : goal.returns-in_err-number
returns-in_err-number c =
    let p = err_from_is_err_and c.from_residual.result c.from_residual.ensures.1 in
    let lt : c.loop-i.i < c.args.operations.now.count = omega arith in
    rw (p.1, p.2) (ends (λ i. operation_in (element_at c.args.frame.now c.args.operations.now i)) c.in_err-number.field-0.0 c.loop-i.numbers.items c.args.operations.now.count c.loop-i.i c.loop-i.limits.words c.operation.new.limits.words (run (operations_in (elements_at c.args.frame.now c.args.operations.now)) c.args.limits.now.words) lt c.in_err-number.ensures c.loop-i.invariant)

pub loop-i-preserved : goal.loop-i-preserved
loop-i-preserved c =
    let lt : c.loop-i.i < c.args.operations.now.count = omega arith in
    let more = goes_on (λ i. operation_in (element_at c.args.frame.now c.args.operations.now i)) c.loop-i.numbers.items (optional_number c.in_ok-number.field-0) c.args.operations.now.count c.loop-i.i c.loop-i.limits.words c.operation.new.limits.words _ lt c.in_ok-number.ensures c.loop-i.invariant in
    elim c.match-branch-2.branch [
      | in-Some+in_ok-push w ↦ rw (w.numbers-is, w.in_ok-push.ensures.items) (rw w.in-Some.is at more)
      | in_default w ↦ rw w.numbers-is (rw (w.in_default.is, append-nil) at more)
    ]

pub returns : goal.returns
returns c =
    rw c.in_ok-new.ensures (is_done (λ i. operation_in (element_at c.args.frame.now c.args.operations.now i)) c.loop-i.numbers.items c.args.operations.now.count c.loop-i.i c.loop-i.limits.words _ (omega arith) c.loop-i.invariant)
