use Rattle.call_trace.proofs.Behind.{delivered_more, delivered_same}
use Rattle.call_trace.proofs.overtaking.deliveries.Goals as goal
use Rattle.call_trace.proofs.overtaking.deliveries.Goals.{in-Deliver+in_ok-raise, in_default}

pub loop-index-preserved : goal.loop-index-preserved
loop-index-preserved c =
    let s = c.index-steps-index.result in
    elim c.match-step.branch [
      | in-Deliver+in_ok-raise w ↦
          rw w.latest-is (delivered_more c.args.steps.now c.loop-index.index s w.in-Deliver.vat w.in-Deliver.call w.in-Deliver.object c.loop-index.latest w.raise.new.self c.loop-index-test.true c.index-steps-index.is w.in-Deliver.is w.in_ok-raise.ensures c.loop-index.invariant)
      | in_default w ↦ rw w.latest-is (delivered_same c.args.steps.now c.loop-index.index s c.loop-index.latest c.loop-index-test.true c.index-steps-index.is w.in_default.not-Deliver c.loop-index.invariant)
    ]
