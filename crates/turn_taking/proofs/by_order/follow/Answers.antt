use Rattle.std.proofs.Common.{◌≡◌, ◌+◌, ℕ, List, take, drop, length, map, sym, ap, subst, ◌∙◌, arith}
use Rattle.std.proofs.lemmas.List.{length-drop, drop-drop}
use Rattle.turn_taking.specs.Followed.{AreFollowedToTheEnd}
use Rattle.turn_taking.proofs.Over.{filled_pass}
use Rattle.turn_taking.proofs.Portions.{portion_followed, portion_stops}
use Rattle.turn_taking.proofs.Stepping.{none_refused, filled}
use Rattle.turn_taking.proofs.by_order.follow.Goals as goal

pub returns-then-taken-steps : goal.returns-then-taken-steps
returns-then-taken-steps g c = λ taken kept free pass.
    let f = g.L.CaseLane.so_far in
    let order = c.args.order.now in
    let count = c.loop.count in
    let size = c.min.result in
    let n = c.in_ok-taken.taken in
    let within = c.loop.invariant.0 in
    let rest = c.loop.invariant.1 in
    let so_far = c.loop.invariant.2 taken kept free pass in
    let longer = map f c.fill_round.new.lanes in
    let after = map f c.take_steps.new.lanes in
    let grown = filled f c.loop.lanes c.fill_round.new.lanes c.fill_round.auto.lanes c.fill_round.ensures in
    let there = none_refused f c.fill_round.new.lanes (sym c.are_refused.ensures ∙ c.if-are_refused.false) in
    let portion = c.in_ok-taken.ensures.taken so_far.0 so_far.1 (so_far.2.phase ∙ free) (filled_pass (map f c.loop.lanes) longer so_far.0 so_far.2.pass grown there) in
    let few = c.in_ok-taken.ensures.few in
    let long = c.split_at.ensures.front_len in
    let parted = c.split_at.ensures.back_len in
    let left = ap length rest ∙ length-drop count order in
    let less = c.if-taken-steps.true in (
      portion.0,
      portion.1,
      portion_stops (map f c.args.lanes.now) (map f c.loop.lanes) longer after taken so_far.0 portion.0 order count size n so_far.2 grown there
          (subst (λ (l : List ℕ). AreFollowedToTheEnd longer after so_far.0 portion.0 l n) (c.split_at.ensures.front ∙ ap (take size) rest) portion.2) (omega (arith, few, long)) (omega (arith, less, long))
          (omega (arith, within, few, long, parted, left)),
    )

pub loop-preserved : goal.loop-preserved
loop-preserved g c =
    let f = g.L.CaseLane.so_far in
    let order = c.args.order.now in
    let count = c.loop.count in
    let size = c.min.result in
    let n = c.in_ok-taken.taken in
    let within = c.loop.invariant.0 in
    let rest = c.loop.invariant.1 in
    let few = c.in_ok-taken.ensures.few in
    let long = c.split_at.ensures.front_len in
    let parted = c.split_at.ensures.back_len in
    let left = ap length rest ∙ length-drop count order in
    let all = c.if-taken-steps.false in
    let whole : n ≡ size = omega (arith, few, long, all) in (
      omega (arith, within, few, long, parted, left),
      c.split_at.ensures.back ∙ ap (drop size) rest ∙ drop-drop size count order ∙ ap (λ (k : ℕ). drop (count + k) order) (sym whole),
      λ taken kept free pass. (
          let so_far = c.loop.invariant.2 taken kept free pass in
          let longer = map f c.fill_round.new.lanes in
          let after = map f c.take_steps.new.lanes in
          let grown = filled f c.loop.lanes c.fill_round.new.lanes c.fill_round.auto.lanes c.fill_round.ensures in
          let there = none_refused f c.fill_round.new.lanes (sym c.are_refused.ensures ∙ c.if-are_refused.false) in
          let portion = c.in_ok-taken.ensures.taken so_far.0 so_far.1 (so_far.2.phase ∙ free) (filled_pass (map f c.loop.lanes) longer so_far.0 so_far.2.pass grown there) in (
            portion.0,
            portion.1,
            portion_followed (map f c.args.lanes.now) (map f c.loop.lanes) longer after taken so_far.0 portion.0 order count size n so_far.2 grown there
                (subst (λ (l : List ℕ). AreFollowedToTheEnd longer after so_far.0 portion.0 l n) (c.split_at.ensures.front ∙ ap (take size) rest) portion.2) (omega (arith, few, long)),
          )
          ),
    )
