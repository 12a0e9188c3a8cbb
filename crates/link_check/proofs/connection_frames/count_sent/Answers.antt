use Rattle.std.proofs.Common.{◌≡◌, ◌∙◌, ap, length, take, arith}
use Rattle.std.specs.List.{filter_map}
use Rattle.std.proofs.lemmas.List.{take_all}
use Rattle.link_check.proofs.Faults.{within}
use Rattle.vat_log.specs.Passages.{frame_sent}
use Rattle.link_check.proofs.Rest.{counted, not_counted}
use Rattle.link_check.proofs.connection_frames.count_sent.Goals as goal
use Rattle.link_check.proofs.connection_frames.count_sent.Goals.{then-is_some, else-is_some}

pub loop-index-preserved : goal.loop-index-preserved
loop-index-preserved c =
    elim c.if-is_some.branch [
      | then-is_some w ↦ rw w.count-is (counted (frame_sent c.args.connection) c.args.log.now.records c.loop-index.index c.loop-index.count c.sent_at.result c.is_some.result c.loop-index.invariant.0 c.loop-index.invariant.1 c.sent_at.ensures c.is_some.ensures w.if-is_some.true)
      | else-is_some w ↦ rw w.count-is (not_counted (frame_sent c.args.connection) c.args.log.now.records c.loop-index.index c.loop-index.count c.sent_at.result c.is_some.result c.loop-index.invariant.0 c.loop-index.invariant.1 c.sent_at.ensures c.is_some.ensures w.if-is_some.false)
    ]

pub returns-clause-fits : goal.returns-clause-fits
returns-clause-fits c =
    let xs = c.args.log.now.records in
    let whole : take c.loop-index.index xs ≡ xs = take_all c.loop-index.index xs (omega (arith, c.loop-index-test.false, c.len-index-end.ensures.value)) in
    let count = c.loop-index.invariant.0 ∙ ap (λ ys. length (filter_map (frame_sent c.args.connection) ys)) whole in
    omega (arith, count, within c.args.connection c.args.log.now, c.len-index-end.ensures.value, c.len-index-end.ensures.bound)
