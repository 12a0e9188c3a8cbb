use Rattle.std.proofs.Common.{◌-◌, ◌+◌, sym, ◌∙◌, arith}
use Rattle.decoded_records.specs.Borrowed.{as_view}
use Rattle.vat_view.specs.Glue.TurnTables.{turns_of}
use Rattle.vat_view.proofs.Hopping.{steps_left, no_step}
use Rattle.vat_view.proofs.walks.hops.nth.Goals as goal

pub loop-left-preserved : goal.loop-left-preserved
loop-left-preserved c =
    let made = c.in-Some.ensures in
    sym (steps_left (turns_of c.args.turns.now c.args.bound.now) (as_view c.loop-left.at) (as_view c.in-Some.next) c.in-Some.more c.loop-left.left (c.loop-left.left - (c.in-Some.more + 1)) made.1
    (omega (arith, made.0)))
    ∙ c.loop-left.invariant

pub returns-in-None : goal.returns-in-None
returns-in-None c =
    sym (no_step (turns_of c.args.turns.now c.args.bound.now) (as_view c.loop-left.at) c.loop-left.left c.loop-left-test.true c.in-None.ensures) ∙ c.loop-left.invariant
