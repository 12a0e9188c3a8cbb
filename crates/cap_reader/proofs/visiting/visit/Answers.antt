use Rattle.std.proofs.Common.{◌-◌, arith}
use Rattle.cap_reader.proofs.Visits.{visit_deep, visit_refused, visit_paid}
use Rattle.cap_reader.proofs.visiting.visit.Goals as goal

pub returns-then-depth-eq0-clause-value : goal.returns-then-depth-eq0-clause-value
returns-then-depth-eq0-clause-value c =
    visit_deep c.args.depth c.args.limits.now.words c.args.spot.segment c.args.spot.start c.args.spot.data_words c.args.spot.pointer_count (omega arith)

pub returns-then-limits-cost-clause-value : goal.returns-then-limits-cost-clause-value
returns-then-limits-cost-clause-value c =
    visit_refused c.args.depth c.args.limits.now.words c.max-cost.result c.args.spot.segment c.args.spot.start c.args.spot.data_words c.args.spot.pointer_count (omega arith) (omega arith) c.if-limits-cost.true

pub returns-clause-value : goal.returns-clause-value
returns-clause-value c =
    visit_paid c.args.depth c.args.limits.now.words c.max-cost.result (record { segment = c.args.spot.segment; start = c.args.spot.start; data_words = c.args.spot.data_words; pointer_count = c.args.spot.pointer_count; below = c.args.depth - 1 }) (omega arith) (omega arith) (omega arith) c.if-limits-cost.false
