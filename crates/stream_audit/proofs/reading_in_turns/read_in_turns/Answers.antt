use Rattle.std.proofs.Common.{true, false, ap}
use Rattle.std.specs.Option.{option_map}
use Rattle.merge_order.specs.declared.order_check.OrderFinding.TheVariants as findings
use Rattle.lock_step.specs.Taking.{turned}
use Rattle.stream_audit.specs.Glue.{so_far}
use Rattle.stream_audit.specs.declared.reading_in_turns.OrderFound.TheVariants.{Fits, Fails, NoOrder}
use Rattle.stream_audit.proofs.Taking.{taken_by_any, taken_by_one}
use Rattle.stream_audit.proofs.reading_in_turns.read_in_turns.Goals as goal

pub returns-then-branch : goal.returns-then-branch
returns-then-branch g c = λ taken is free none pass.
    let by = c.in_ok-take_all.ensures (turned taken) (ap (option_map turned) is) free pass in
    let so = taken_by_any (so_far c.take_all.new.lanes) c.take_all.new.turns c.args.order.now Fits c.in_ok-take_all.field-0 true c.in_default.is c.if-branch.true (λ t so. so)
    (by.0, by.1, by.2) in
    (so.0, so.1, so.2, by.3)

pub returns-in_default : goal.returns-in_default
returns-in_default g c = λ taken is free none pass.
    let by = c.in_ok-take_all.ensures (turned taken) (ap (option_map turned) is) free pass in
    let so = taken_by_any (so_far c.take_all.new.lanes) c.take_all.new.turns c.args.order.now NoOrder c.in_ok-take_all.field-0 false c.in_default.is c.if-branch.false (λ t so. so)
    (by.0, by.1, by.2) in
    (so.0, so.1, so.2, by.3)

pub returns-in-Fits : goal.returns-in-Fits
returns-in-Fits g c = λ taken is free none pass.
    let by = c.in_ok-take_by_order.ensures (turned taken) (ap (option_map turned) is) free none pass in
    let so = taken_by_one (so_far c.take_by_order.new.lanes) c.take_by_order.new.turns c.args.order.now c.in-Some.order Fits c.in_ok-take_by_order.field-0 findings.Fits c.in-Some.is c.in-Fits.is (λ t so. so)
    (by.0, by.1, by.2) in
    (so.0, so.1, so.2, by.3)

pub returns-in-Fails : goal.returns-in-Fails
returns-in-Fails g c = λ taken is free none pass.
    let by = c.in_ok-take_by_order.ensures (turned taken) (ap (option_map turned) is) free none pass in
    let so = taken_by_one (so_far c.take_by_order.new.lanes) c.take_by_order.new.turns c.args.order.now c.in-Some.order (Fails c.in-Fails.step) c.in_ok-take_by_order.field-0 (findings.Fails c.in-Fails.step) c.in-Some.is c.in-Fails.is (λ t so. so)
    (by.0, by.1, by.2) in
    (so.0, so.1, so.2, by.3)
