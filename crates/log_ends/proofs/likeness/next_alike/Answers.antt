use Rattle.std.proofs.Common.{◌≤◌, ◌+◌, below_more}
use Rattle.std.proofs.lemmas.Bool.{both_ways}
use Rattle.log_ends.specs.Ends.{AreAlike}
use Rattle.log_ends.specs.Glue.{end_at}
use Rattle.log_ends.proofs.likeness.next_alike.Goals as goal

pub loop-other-preserved : goal.loop-other-preserved
loop-other-preserved c =
    λ k from lt. below_more (λ k. c.args.place + 1 ≤ k → AreAlike c.args.rows.now.logs.now (end_at c.args.rows.now c.args.place) (end_at c.args.rows.now k) → ⊥) c.loop-other.other (λ k lt from. c.loop-other.invariant k from lt)
    (λ from alike. both_ways c.are_alike.result c.if-are_alike.false (c.are_alike.ensures.1 alike)) k lt from
