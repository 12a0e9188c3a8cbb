use Rattle.std.proofs.Common.{◌++◌, ◌∷◌, [], map, sym, ap, ◌∙◌}
use Rattle.std.proofs.lemmas.List.{map-append}
use Rattle.vat_tap.proofs.Placing.{took_more}
use Rattle.vat_tap.proofs.by_ticket.records_of.Goals as goal

pub loop-item-preserved : goal.loop-item-preserved
loop-item-preserved c =
    ap (λ xs. map (λ entry. entry.now) xs) c.in_ok-push.ensures.items ∙ map-append (λ entry. entry.now) c.loop-item.records.items _
    ∙ ap (λ l. l ++ c.item-item.result.now.1 ∷ []) c.loop-item.invariant ∙ sym (took_more (λ item. item.now.1) c.args.all.now c.loop-item.item-index c.item-item.result c.loop-item-test.true c.item-item.is)
