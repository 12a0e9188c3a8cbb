use Rattle.std.proofs.Common.{ap, ◌∙◌, arith}
use Rattle.merge_order.specs.Fits.{part_of, sent_by_the_others}
use Rattle.merge_order.proofs.Totals.{totalled}
use Rattle.merge_order.proofs.order_progress.Progress.sent_by_others.Goals as goal

pub overflow_sub-result : goal.overflow_sub-result
overflow_sub-result c =
    let both = totalled c.args.own.now.log.vat c.args.connection c.self.inside.cursors.items c.args.own.now c.self.inside.totals c.self.invariant (ap (part_of c.args.own.now.log.vat) c.self.view_is ∙ c.requires) in
    omega (arith, both, c.of.ensures, c.sent.ensures)

pub returns : goal.returns
returns c =
    let both = totalled c.args.own.now.log.vat c.args.connection c.self.inside.cursors.items c.args.own.now c.self.inside.totals c.self.invariant (ap (part_of c.args.own.now.log.vat) c.self.view_is ∙ c.requires) in
    let others = ap (sent_by_the_others c.args.own.now.log.vat c.args.connection) c.self.view_is in
    omega (arith, both, others, c.of.ensures, c.sent.ensures)
