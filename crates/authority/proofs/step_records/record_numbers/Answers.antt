use Rattle.std.proofs.Common.{◌∙◌, arith}
use Rattle.run_model.proofs.Numbers.{counted_within, numbered_more}
use Rattle.authority.proofs.Recording.{recorded_more}
use Rattle.authority.proofs.step_records.record_numbers.Goals as goal

pub count-requires : goal.count-requires
count-requires c =
    let least = counted_within c.steps-step-items.result.now c.loop-step.step-index c.vat_of.result c.loop-step-test.true in
    let same = c.loop-step.invariant.0 c.vat_of.result in
    omega (arith, least, same)

pub loop-step-preserved : goal.loop-step-preserved
loop-step-preserved c =
    let run = c.steps-step-items.result.now in
    let i = c.loop-step.step-index in (
      numbered_more run i c.step-item.result c.vat_of.result c.loop-step.counts c.count.new.self c.loop-step-test.true c.step-item.is c.vat_of.ensures c.in_ok-count.ensures.counts c.loop-step.invariant.0,
      c.in_ok-push.ensures.items ∙ recorded_more run i c.in_ok-count.field-0 c.vat_of.result c.step-item.result c.loop-step.counts c.loop-step.numbers.items c.loop-step-test.true c.step-item.is
          c.vat_of.ensures c.loop-step.invariant.0 c.in_ok-count.ensures.answer c.loop-step.invariant.1,
    )
