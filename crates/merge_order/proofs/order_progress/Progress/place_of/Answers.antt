use Rattle.std.proofs.Common.{rules}
use Rattle.std.proofs.lemmas.List.Sorted.{answers_always}
use Rattle.merge_order.specs.Fits.{Part}
use Rattle.merge_order.proofs.Places.{placed}
use Rattle.merge_order.proofs.order_progress.Progress.place_of.Goals as goal

pub returns-in_default : goal.returns-in_default
returns-in_default c =
    let facts = c.binary_search_by_key.ensures in
    let by_vat = facts.position (λ (q : Part). q.log.vat) (answers_always _ _ _ (λ f a r g called. search rules)) in
    rw (c.ok.ensures.value, ← c.self.view_is, ← c.deref-in_default.ensures.value)
    (placed c.args.vat c.deref-in_default.result.now c.binary_search_by_key.result (rw c.deref-in_default.ensures.value c.self.invariant.rising) facts.bound by_vat)
