use Rattle.std.proofs.Common.{map, refl, sym, ◌∙◌}
use Rattle.turn_taking.proofs.Stepping.{none_refused, filled, as_far, round_further, round_keeps, round_held}
use Rattle.turn_taking.proofs.steps.take_in_step.Goals as goal

pub loop-init : goal.loop-init
loop-init g c = λ taken kept so. (taken, kept, refl, λ stuck. refl, as_far (map g.L.CaseLane.so_far c.args.lanes.now), so)

pub returns-then-not-branch : goal.returns-then-not-branch
returns-then-not-branch g c = λ taken kept so.
    let f = g.L.CaseLane.so_far in
    let inv = c.loop.invariant taken kept so in
    let grown = filled f c.loop.lanes c.fill_round.new.lanes c.fill_round.auto.lanes c.fill_round.ensures in
    let there = none_refused f c.fill_round.new.lanes (sym c.are_refused.ensures ∙ c.if-are_refused.false) in
    let round = c.in_ok-take_rounds.ensures inv.0 there inv.1 in (
      round.0,
      round.1,
      round.3.phase ∙ inv.2,
      λ stuck. round.3.kept (inv.2 ∙ stuck) ∙ inv.3 stuck,
      round_further (map f c.args.lanes.now) (map f c.loop.lanes) (map f c.fill_round.new.lanes) (map f c.take_rounds.new.lanes) inv.0 round.0 c.in_ok-take_rounds.field-0 inv.4 inv.5 grown round.3,
      round_keeps (map f c.loop.lanes) (map f c.fill_round.new.lanes) (map f c.take_rounds.new.lanes) inv.0 round.0 c.in_ok-take_rounds.field-0 inv.5 grown there round.2 round.3,
      round_held (map f c.loop.lanes) (map f c.fill_round.new.lanes) (map f c.take_rounds.new.lanes) inv.0 round.0 c.in_ok-take_rounds.field-0 inv.5 grown round.3 c.if-not-branch.true,
    )

pub loop-preserved : goal.loop-preserved
loop-preserved g c = λ taken kept so.
    let f = g.L.CaseLane.so_far in
    let inv = c.loop.invariant taken kept so in
    let grown = filled f c.loop.lanes c.fill_round.new.lanes c.fill_round.auto.lanes c.fill_round.ensures in
    let there = none_refused f c.fill_round.new.lanes (sym c.are_refused.ensures ∙ c.if-are_refused.false) in
    let round = c.in_ok-take_rounds.ensures inv.0 there inv.1 in (
      round.0,
      round.1,
      round.3.phase ∙ inv.2,
      λ stuck. round.3.kept (inv.2 ∙ stuck) ∙ inv.3 stuck,
      round_further (map f c.args.lanes.now) (map f c.loop.lanes) (map f c.fill_round.new.lanes) (map f c.take_rounds.new.lanes) inv.0 round.0 c.in_ok-take_rounds.field-0 inv.4 inv.5 grown round.3,
      round_keeps (map f c.loop.lanes) (map f c.fill_round.new.lanes) (map f c.take_rounds.new.lanes) inv.0 round.0 c.in_ok-take_rounds.field-0 inv.5 grown there round.2 round.3,
    )
