use Rattle.std.proofs.Common.{◌≡◌, ◌+◌, sym, ◌∙◌, arith}
use Rattle.lock_step.specs.Directions.{BothWays}
use Rattle.link_check.proofs.Faults.{one_outcome}
use Rattle.lock_step.proofs.Outcomes.{at_first, at_neither, at_second, fewer_came, received_in, sent_in}
use Rattle.lock_step.proofs.link_queues.LinkQueues.outcome.Goals as goal

pub returns-in-Some-clause-meaning : goal.returns-in-Some-clause-meaning
returns-in-Some-clause-meaning c = λ link first second same. at_first link _ c.args.first c.in-Some.message first (same ∙ sym c.self.view_is) c.in-Some.ensures.exact

pub returns-in-Some-clause-only : goal.returns-in-Some-clause-only
returns-in-Some-clause-only c = λ link other first second same is. one_outcome link other _ is (returns-in-Some-clause-meaning c link first second same)

pub returns-in-Some-fault-clause-meaning : goal.returns-in-Some-fault-clause-meaning
returns-in-Some-fault-clause-meaning c = λ link first second same.
    at_second link _ c.args.second c.in-Some-fault.message second (same ∙ sym c.self.view_is) c.in_default.ensures.exact c.in-Some-fault.ensures.exact

pub returns-in-Some-fault-clause-only : goal.returns-in-Some-fault-clause-only
returns-in-Some-fault-clause-only c = λ link other first second same is. one_outcome link other _ is (returns-in-Some-fault-clause-meaning c link first second same)

pub returns-clause-meaning : goal.returns-clause-meaning
returns-clause-meaning c = λ link first second same.
    let ways : BothWays = record { to_first = c.self.inside.to_first; to_second = c.self.inside.to_second } in
    let sent : c.sent_count.result ≡ sent_in ways = rw (← c.self.view_is) at c.sent_count.ensures in
    let received : c.received_count.result + c.received_count-2.result ≡ received_in ways = omega arith in
    let fewer = fewer_came ways c.in_default.ensures.exact c.in_default-fault.ensures.exact in
    at_neither link ways _ _ (same ∙ sym c.self.view_is) c.in_default.ensures.exact c.in_default-fault.ensures.exact received (omega (arith, sent, received, fewer))

pub returns-clause-only : goal.returns-clause-only
returns-clause-only c = λ link other first second same is. one_outcome link other _ is (returns-clause-meaning c link first second same)
