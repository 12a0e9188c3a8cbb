use Rattle.std.proofs.Common.{sym, ◌∙◌, arith}
use Rattle.lock_step.proofs.Comparing.{first_same, first_other, meets, parts, still_apart}
use Rattle.lock_step.proofs.comparison.Comparison.take.Goals as goal

pub returns-then-is_some-clause-ok : goal.returns-then-is_some-clause-ok
returns-then-is_some-clause-ok c = λ own other count others so.
    still_apart own other c.args.self.now.waiting c.args.frame.now c.args.self.now.difference (sym c.is_some.ensures ∙ c.if-is_some.true) so

pub returns-then-eq-clause-ok : goal.returns-then-eq-clause-ok
returns-then-eq-clause-ok c = λ own other count others so.
    rw c.leave.ensures (meets own other c.args.self.now.waiting c.args.frame.now c.args.self.now.difference (sym c.is_some.ensures ∙ c.if-is_some.false) (omega (arith, count, others, c.if-others-count.false))
    (first_same c.first.result c.args.self.now.waiting c.args.frame c.eq.result c.first.ensures c.eq.ensures c.if-eq.true) so)

pub returns-else-eq-clause-ok : goal.returns-else-eq-clause-ok
returns-else-eq-clause-ok c = λ own other count others so. (
  parts own other c.args.self.now.waiting c.args.frame.now c.args.self.now.difference c.args.count (sym c.is_some.ensures ∙ c.if-is_some.false) count (omega (arith, count, others, c.if-others-count.false))
      (first_other c.first.result c.args.self.now.waiting c.args.frame c.eq.result c.first.ensures c.eq.ensures c.if-eq.false) so,
  c.clear.ensures,
)
