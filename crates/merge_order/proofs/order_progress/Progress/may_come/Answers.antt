use Rattle.std.proofs.Common.{ℕ, ◌∙◌, sym, ap}
use Rattle.merge_order.specs.Fits.{part_of, may_come}
use Rattle.merge_order.proofs.Totals.{part_vat}
use Rattle.merge_order.proofs.order_progress.Progress.may_come.Goals as goal

pub may_go_on-requires : goal.may_go_on-requires
may_go_on-requires c =
    let ps = c.args.self.now in
    let part = sym c.in-Some.ensures in
    ap (λ (u : ℕ). part_of u ps) (part_vat c.args.vat ps c.in-Some.own.now part) ∙ part

pub returns : goal.returns
returns c = c.may_go_on.ensures ∙ ap (may_come c.args.self.now) (part_vat c.args.vat c.args.self.now c.in-Some.own.now (sym c.in-Some.ensures))
