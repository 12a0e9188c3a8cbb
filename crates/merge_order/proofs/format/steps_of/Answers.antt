use Rattle.std.proofs.Common.{◌∙◌, List, ℕ, ap, arith}
use Rattle.std.specs.Int.{w32, from_le_bytes}
use Rattle.merge_order.proofs.Reading.{reads_on, reads_cut, reads_end, some_left, none_left}
use Rattle.merge_order.proofs.format.steps_of.Goals as goal

pub returns-then-rest-lt4 : goal.returns-then-rest-lt4
returns-then-rest-lt4 c =
    reads_cut c.loop-rest.vats.items c.loop-rest.at c.loop-rest.rest.now _ (omega arith) (some_left _ _ c.is_empty.ensures c.loop-rest-test.true) c.loop-rest.invariant.0

pub loop-rest-preserved : goal.loop-rest-preserved
loop-rest-preserved c =
    let step = c.step_of.ensures ∙ ap (λ (l : List ℕ). from_le_bytes w32 l) c.split_at.ensures.front in
    (rw (c.in_ok-push.ensures.items, c.split_at.ensures.back) (reads_on c.loop-rest.vats.items c.loop-rest.at c.step_of.result c.loop-rest.rest.now _ (omega arith) step c.loop-rest.invariant.0), omega (arith, c.split_at.ensures.back_len, c.loop-rest.invariant.1))

pub returns : goal.returns
returns c = reads_end c.loop-rest.vats.items c.loop-rest.at c.loop-rest.rest.now _ (none_left _ _ c.is_empty.ensures c.loop-rest-test.false) c.loop-rest.invariant.0
