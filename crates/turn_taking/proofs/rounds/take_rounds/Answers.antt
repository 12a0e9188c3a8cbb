use Rattle.std.proofs.Common.{map}
use Rattle.turn_taking.proofs.Joined.{rounds_begin, rounds_go_on, rounds_end}
use Rattle.turn_taking.proofs.rounds.take_rounds.Goals as goal

pub loop-init : goal.loop-init
loop-init g c = λ taken there kept. (taken, kept, rounds_begin (map g.L.CaseLane.so_far c.args.lanes.now) taken there)

pub returns-then-not-branch : goal.returns-then-not-branch
returns-then-not-branch g c = λ taken there kept.
    let f = g.L.CaseLane.so_far in
    let inv = c.loop.invariant taken there kept in
    let round = c.in_ok-take_round.ensures inv.0 inv.2.there inv.1 in (
      round.0,
      round.1,
      round.2,
      rounds_end (map f c.args.lanes.now) (map f c.loop.lanes) (map f c.take_round.new.lanes) taken inv.0 round.0 c.loop.some c.in_ok-take_round.field-0 inv.2 round.3 c.if-not-branch.true,
    )

pub loop-preserved : goal.loop-preserved
loop-preserved g c = λ taken there kept.
    let f = g.L.CaseLane.so_far in
    let inv = c.loop.invariant taken there kept in
    let round = c.in_ok-take_round.ensures inv.0 inv.2.there inv.1 in (
      round.0,
      round.1,
      rounds_go_on (map f c.args.lanes.now) (map f c.loop.lanes) (map f c.take_round.new.lanes) taken inv.0 round.0 c.loop.some c.in_ok-take_round.field-0 inv.2 round.2 round.3,
    )
