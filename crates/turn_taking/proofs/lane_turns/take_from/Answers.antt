use Rattle.std.proofs.Common.{◌+◌, arith, ◌≡◌, true, false, subst}
use Rattle.std.specs.Prelude.{IfSome, option_map}
use Rattle.vat_log.specs.declared.body.Body.{Body}
use Rattle.turn_taking.specs.Turned.{with_turn, may_be_next}
use Rattle.turn_taking.proofs.Turned.{took_none, one_more, held_by_none, held_by_first, held_by_count}
use Rattle.turn_taking.proofs.lane_turns.take_from.Goals as goal

pub loop-count-init : goal.loop-count-init
loop-count-init g c = λ before taken there kept. (before, taken, there, kept, took_none before taken, subst (λ o. IfSome o (λ lane. c.vat-vat.result ≡ lane.log.vat)) there c.vat-vat.ensures)

pub loop-count-preserved : goal.loop-count-preserved
loop-count-preserved g c =
    let lane = g.L.CaseLane.so_far c.loop-count.lane in
    let turns = g.T.Turns.taken c.loop-count.turns in
    let v = c.vat-vat.result in
    one_more (g.L.CaseLane.so_far c.args.lane.now) (g.T.Turns.taken c.args.turns.now) lane turns c.loop-count.count v c.loop-count.invariant c.in-Some.record.now c.in-Some.ensures
    (subst (λ (b : Body). IfSome turns (λ t. true ≡ may_be_next t v b)) c.body-body.ensures.value c.if-not-may_come.ensures) (g.L.CaseLane.so_far c.leave.new.self) (g.T.Turns.taken c.take.new.self)
    (subst (λ (b : Body). g.T.Turns.taken c.take.new.self ≡ option_map (with_turn (v, b)) turns) c.body-body.ensures.value c.in_ok-take.ensures.ok) c.leave.ensures

pub returns-after-loop-count : goal.returns-after-loop-count
returns-after-loop-count g c =
    held_by_count (g.L.CaseLane.so_far c.args.lane.now) (g.T.Turns.taken c.args.turns.now) (g.L.CaseLane.so_far c.loop-count.lane) (g.T.Turns.taken c.loop-count.turns) c.loop-count.count c.vat-vat.result c.args.most
    c.loop-count.invariant c.requires c.loop-count-test.false

pub returns-in_default : goal.returns-in_default
returns-in_default g c =
    held_by_none (g.L.CaseLane.so_far c.args.lane.now) (g.T.Turns.taken c.args.turns.now) (g.L.CaseLane.so_far c.loop-count.lane) (g.T.Turns.taken c.loop-count.turns) c.loop-count.count c.vat-vat.result
    c.loop-count.invariant c.in_default.ensures

pub returns-then-not-may_come : goal.returns-then-not-may_come
returns-then-not-may_come g c =
    held_by_first (g.L.CaseLane.so_far c.args.lane.now) (g.T.Turns.taken c.args.turns.now) (g.L.CaseLane.so_far c.loop-count.lane) (g.T.Turns.taken c.loop-count.turns) c.loop-count.count c.vat-vat.result
    c.loop-count.invariant c.in-Some.record.now c.in-Some.ensures
    (subst (λ (b : Body). IfSome (g.T.Turns.taken c.loop-count.turns) (λ t. false ≡ may_be_next t c.vat-vat.result b)) c.body-body.ensures.value c.if-not-may_come.ensures)

pub returns-then-is_crowded : goal.returns-then-is_crowded
returns-then-is_crowded g c =
    let lane = g.L.CaseLane.so_far c.loop-count.lane in
    let turns = g.T.Turns.taken c.loop-count.turns in
    let v = c.vat-vat.result in
    held_by_count (g.L.CaseLane.so_far c.args.lane.now) (g.T.Turns.taken c.args.turns.now) (g.L.CaseLane.so_far c.leave.new.self) (g.T.Turns.taken c.take.new.self) (c.loop-count.count + 1) v 1
    (one_more (g.L.CaseLane.so_far c.args.lane.now) (g.T.Turns.taken c.args.turns.now) lane turns c.loop-count.count v c.loop-count.invariant c.in-Some.record.now c.in-Some.ensures
    (subst (λ (b : Body). IfSome turns (λ t. true ≡ may_be_next t v b)) c.body-body.ensures.value c.if-not-may_come.ensures) (g.L.CaseLane.so_far c.leave.new.self) (g.T.Turns.taken c.take.new.self)
    (subst (λ (b : Body). g.T.Turns.taken c.take.new.self ≡ option_map (with_turn (v, b)) turns) c.body-body.ensures.value c.in_ok-take.ensures.ok) c.leave.ensures) (omega arith) (omega arith)
