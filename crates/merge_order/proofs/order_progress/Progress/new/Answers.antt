use Rattle.std.proofs.Common.{◌≡◌, ◌∙◌, ap, arith}
use Rattle.std.specs.Prelude.{map}
use Rattle.std.specs.Arc.{arc_value}
use Rattle.std.proofs.lemmas.List.{take_all}
use Rattle.merge_order.specs.Fits.{begin}
use Rattle.merge_order.proofs.Steps.{rising_begin}
use Rattle.merge_order.proofs.Totals.{totals_begin}
use Rattle.merge_order.proofs.order_progress.Progress.new.Goals as goal

pub invariant_of-result : goal.invariant_of-result
invariant_of-result c =
    let logs = map arc_value c.args.logs.now in
    let all = take_all c.loop-log.log-index c.args.logs.now (omega (arith, c.loop-log-test.false)) in
    let is : c.loop-log.cursors.items ≡ begin logs = c.loop-log.invariant ∙ ap (λ logs. begin (map arc_value logs)) all in
    record { rising = rising_begin logs c.loop-log.cursors.items is c.requires; sum = totals_begin logs c.loop-log.cursors.items c.new-2.result is c.new-2.ensures }
