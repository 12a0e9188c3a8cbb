use Rattle.std.proofs.Common.{◌∙◌, sym, subst}
use Rattle.turn_taking.specs.Turns.{AreAll}
use Rattle.call_order.specs.Glue.Reached.{IsReached}
use Rattle.call_order.proofs.Finding.{turns_held, run_fault}
use Rattle.call_order.proofs.call_order.CallOrder.fault.Goals as goal

pub returns : goal.returns
returns c = λ logs turns now all findings run same true_all asked is.
    let calls = c.self.inside in
    let held = turns_held calls.is_refused calls.vats.items calls.records.items turns (c.self.view_is ∙ now) in
    let reached = subst (λ t. IsReached t calls.tables calls.counts) held.1 (c.self.invariant held.0) in
    run_fault findings turns run calls.tables (subst (λ l. AreAll l turns) (sym same) all) true_all asked is reached.steps c.fault.result c.fault.ensures
