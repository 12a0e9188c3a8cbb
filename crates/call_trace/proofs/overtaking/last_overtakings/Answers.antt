use Rattle.std.proofs.Common.{subst}
use Rattle.call_trace.specs.Glue.Overtaking.{IsPlaceNoted}
use Rattle.call_trace.proofs.Behind.{reached_more, reached_same, all_reached}
use Rattle.call_trace.proofs.overtaking.last_overtakings.Goals as goal
use Rattle.call_trace.proofs.overtaking.last_overtakings.Goals.{in-Make+in_ok-raise+in_ok-raise-2, in_default}

pub loop-step-preserved : goal.loop-step-preserved
loop-step-preserved c =
    let run = c.args.steps.now in
    let at = c.loop-step.step-index in
    let s = c.step-item.result in
    elim c.match-step.branch [
      | in-Make+in_ok-raise+in_ok-raise-2 w ↦
          rw (w.through-is, w.until-is)
          (reached_more run at s w.in-Make.vat w.in-Make.number w.in-Make.cap w.in-Make.reference w.in-Make.interface w.in-Make.method
          c.in_ok-delivered.delivered c.loop-step.through c.loop-step.until w.raise-in-Make.new.self w.raise.new.self c.loop-step-test.true c.step-item.is w.in-Make.is c.in_ok-delivered.ensures
          (subst (λ n. IsPlaceNoted w.in-Make.vat w.in-Make.number n c.loop-step.until w.raise.new.self) w.of.ensures w.in_ok-raise.ensures)
          (subst (λ n. IsPlaceNoted w.in-Make.vat w.in-Make.reference n c.loop-step.through w.raise-in-Make.new.self) w.of-in-Make.ensures w.in_ok-raise-2.ensures)
          c.loop-step.invariant)
      | in_default w ↦ rw (w.through-is, w.until-is) (reached_same run at s c.loop-step.through c.loop-step.until c.loop-step-test.true c.step-item.is w.in_default.not-Make c.loop-step.invariant)
    ]

pub returns : goal.returns
returns c = all_reached c.args.steps.now c.loop-step.step-index c.loop-step.through c.loop-step.until c.loop-step-test.false c.loop-step.invariant
