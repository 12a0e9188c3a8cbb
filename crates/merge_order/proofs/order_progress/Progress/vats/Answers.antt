use Rattle.std.proofs.Common.{◌∙◌, List, length, get_or, ap, sym, arith, ◌∷◌, drop, ◌+◌}
use Rattle.std.proofs.lemmas.List.{drop_more}
use Rattle.merge_order.specs.Fits.{Part}
use Rattle.merge_order.specs.Waits.{is_ready}
use Rattle.merge_order.proofs.Places.{vats_more, vats_all}
use Rattle.merge_order.proofs.order_progress.Progress.vats.Goals as goal

pub loop-cursor-preserved : goal.loop-cursor-preserved
loop-cursor-preserved c =
    let ps = c.args.self.now in
    let at = c.loop-cursor.cursor-index in
    let item = c.cursor-item.result in
    let same = c.deref-cursor-items.ensures.value ∙ c.self.view_is in
    let is = c.cursor-item.is ∙ ap (λ (ps : List Part). get_or ps at item) same in
    let within = ap (λ (ps : List Part). length ps) same in
    let front = drop_more ps at item (omega (arith, c.loop-cursor-test.true, within)) ∙ ap (λ (q : Part). q ∷ drop (at + 1) ps) (sym is) in
    λ vat. vats_more vat item (drop at ps) (drop (at + 1) ps) c.vat.result _ (is_ready c.loop-cursor.ready vat) _ front c.vat.ensures (c.in_ok-add.ensures.ok vat) (c.loop-cursor.invariant vat)

pub returns : goal.returns
returns c = λ vat. vats_all vat c.args.self.now c.loop-cursor.cursor-index _ (omega (arith, c.loop-cursor-test.false, ap (λ (ps : List Part). length ps) (c.deref-cursor-items.ensures.value ∙ c.self.view_is))) (c.loop-cursor.invariant vat)
