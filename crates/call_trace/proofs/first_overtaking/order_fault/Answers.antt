use Rattle.std.proofs.Common.{arith, ◌∙◌, ◌<◌, List, None, sym, subst, length}
use Rattle.run_model.specs.Early.{IsOrderFault}
use Rattle.run_model.specs.Steps.{steps_of}
use Rattle.call_trace.specs.Types.{Step}
use Rattle.run_model.proofs.Numbers.{counted_within, numbered_more}
use Rattle.call_trace.proofs.Early.{room, fault_more, fault_same, fault_is}
use Rattle.call_trace.proofs.first_overtaking.order_fault.Goals as goal
use Rattle.call_trace.proofs.first_overtaking.order_fault.Goals.{then-is_early, else-is_early}

pub count-requires : goal.count-requires
count-requires c =
    let most = counted_within c.steps-steps.result.now c.loop-index.index c.vat_of-vat.result c.loop-index-test.true in
    let same = c.loop-index.invariant.0 c.vat_of-vat.result in
    omega (arith, most, same)

-- a vat's number of steps fits 32 bits
pub overflow_cast-number : goal.overflow_cast-number
overflow_cast-number c =
    let vat = c.vat_of-vat.result in
    let run = c.steps-steps.result.now in
    let few = subst (λ (l : List Step). length (steps_of vat l) < 4294967296) (sym c.steps-steps.ensures) (c.requires vat) in
    let left = room run c.loop-index.index c.index-steps-index.result vat 4294967296 c.loop-index-test.true c.index-steps-index.is c.vat_of-vat.ensures few in
    let same = c.in_ok-number.ensures.answer ∙ c.loop-index.invariant.0 vat in
    omega (arith, left, same)

pub loop-index-preserved : goal.loop-index-preserved
loop-index-preserved c =
    let vat = c.vat_of-vat.result in
    let run = c.steps-steps.result.now in
    let at = c.loop-index.index in
    let s = c.index-steps-index.result in
    let counted = c.in_ok-number.ensures in (
      numbered_more run at s vat c.loop-index.numbers c.count.new.self c.loop-index-test.true c.index-steps-index.is c.vat_of-vat.ensures counted.counts c.loop-index.invariant.0,
      elim c.if-is_early.branch [
        | then-is_early w ↦
            rw (w.fault-is, w.least.ensures)
            (fault_more run at s c.in_ok-until.until vat c.in_ok-number.number c.loop-index.fault c.loop-index-test.true c.index-steps-index.is c.in_ok-until.ensures c.vat_of-vat.ensures
            (counted.answer ∙ c.loop-index.invariant.0 vat) (sym c.is_early.ensures ∙ w.if-is_early.true) c.loop-index.invariant.1)
        | else-is_early w ↦
            rw w.fault-is
            (fault_same run at s c.in_ok-until.until c.loop-index.fault c.loop-index-test.true c.index-steps-index.is c.in_ok-until.ensures (sym c.is_early.ensures ∙ w.if-is_early.false) c.loop-index.invariant.1)
      ],
    )

pub returns-then-not-is_any_early : goal.returns-then-not-is_any_early
returns-then-not-is_any_early c = subst (λ (l : List Step). IsOrderFault l None) c.steps-steps.ensures (c.is_any_early.ensures c.if-not-is_any_early.true)

pub returns : goal.returns
returns c =
    subst (λ (l : List Step). IsOrderFault l c.loop-index.fault) c.steps-steps.ensures
    (fault_is c.steps-steps.result.now c.loop-index.index c.loop-index.fault c.loop-index-test.false c.loop-index.invariant.1)
