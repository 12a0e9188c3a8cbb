use Rattle.std.proofs.Common.{sym, subst}
use Rattle.std.specs.Prelude.{reverse, take}
use Rattle.call_trace.specs.Findings.{MayBeNamed}
use Rattle.call_trace.specs.Named.{IsRunOf}
use Rattle.call_trace.specs.Glue.Turns.{IsReached}
use Rattle.call_trace.proofs.Reaching.{turn_more, may_turn, goes_on, run_named}
use Rattle.call_trace.proofs.steps.run_naming.name_run.Goals as goal

pub turn-requires-clause-may_turn : goal.turn-requires-clause-may_turn
turn-requires-clause-may_turn c =
    may_turn c.args.findings.now c.args.order.now c.in_ok-turns.ensures.outcomes c.requires (reverse (take c.loop-vat.vat-index c.as_slice-vats.result.now)) c.loop-vat.turns c.loop-vat.invariant

pub turn-requires-clause-goes_on : goal.turn-requires-clause-goes_on
turn-requires-clause-goes_on c =
    let findings = c.args.findings.now in
    let vats = c.as_slice-vats.result.now in
    let asked = subst (MayBeNamed findings) (sym c.as_slice-vats.ensures) c.requires in
    goes_on findings vats c.in_ok-turns.ensures.outcomes asked c.loop-vat.vat-index c.loop-vat.turns c.loop-vat-test.true c.loop-vat.invariant

pub loop-vat-preserved : goal.loop-vat-preserved
loop-vat-preserved c =
    let findings = c.args.findings.now in
    let vats = c.as_slice-vats.result.now in
    let i = c.loop-vat.vat-index in
    subst (λ turns. IsReached findings turns c.turn.new.self) (sym (turn_more vats i c.loop-vat-test.true)) (c.in_ok-turn.ensures (reverse (take i vats)) c.loop-vat.invariant)

pub returns : goal.returns
returns c =
    let findings = c.args.findings.now in
    let vats = c.as_slice-vats.result.now in
    let asked = subst (MayBeNamed findings) (sym c.as_slice-vats.ensures) c.requires in
    let named = run_named findings vats c.in_ok-turns.ensures.outcomes asked c.loop-vat.vat-index c.loop-vat.turns c.loop-vat-test.false c.loop-vat.invariant in
    subst (λ order. IsRunOf findings order c.into_run.result) c.as_slice-vats.ensures (subst (IsRunOf findings vats) (sym c.into_run.ensures) named)
