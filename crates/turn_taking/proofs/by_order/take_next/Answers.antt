use Rattle.std.proofs.Common.{◌≡◌, true, false, sym, subst, ◌∙◌}
use Rattle.std.specs.Prelude.{IfSome, option_map}
use Rattle.vat_log.specs.declared.body.Body.{Body}
use Rattle.turn_taking.specs.Turned.{may_be_next, with_turn}
use Rattle.turn_taking.proofs.Ordered.{step_none, step_refused, step_taken}
use Rattle.turn_taking.proofs.by_order.take_next.Goals as goal

pub returns-in_default : goal.returns-in_default
returns-in_default g c = λ before taken there kept.
    step_none (g.L.CaseLane.so_far c.fill.new.self) (g.T.Turns.taken c.args.turns.now) before taken (c.fill.ensures before there) (sym c.is_refused.ensures ∙ c.if-is_refused.false) kept c.in_default.ensures

pub returns-then-not-may_come : goal.returns-then-not-may_come
returns-then-not-may_come g c = λ before taken there kept.
    let turns = g.T.Turns.taken c.args.turns.now in
    step_refused (g.L.CaseLane.so_far c.fill.new.self) turns before taken c.vat-vat.result c.in-Some.record.now (c.fill.ensures before there) (sym c.is_refused.ensures ∙ c.if-is_refused.false) kept c.vat-vat.ensures
    c.in-Some.ensures (subst (λ (b : Body). IfSome turns (λ t. false ≡ may_be_next t c.vat-vat.result b)) c.body-body.ensures.value c.if-not-may_come.ensures)

pub returns : goal.returns
returns g c = λ before taken there kept.
    let turns = g.T.Turns.taken c.args.turns.now in
    let v = c.vat-vat.result in
    step_taken (g.L.CaseLane.so_far c.fill.new.self) turns before taken v c.in-Some.record.now (c.fill.ensures before there) (sym c.is_refused.ensures ∙ c.if-is_refused.false) kept c.vat-vat.ensures c.in-Some.ensures
    (subst (λ (b : Body). IfSome turns (λ t. true ≡ may_be_next t v b)) c.body-body.ensures.value c.if-not-may_come.ensures) (g.L.CaseLane.so_far c.leave.new.self) (g.T.Turns.taken c.take.new.self)
    (subst (λ (b : Body). g.T.Turns.taken c.take.new.self ≡ option_map (with_turn (v, b)) turns) c.body-body.ensures.value c.in_ok-take.ensures.ok) c.leave.ensures
