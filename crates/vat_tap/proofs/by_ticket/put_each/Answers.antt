use Rattle.std.proofs.Common.{map, take, sym, ap, ◌∙◌}
use Rattle.std.specs.List.{slice_set}
use Rattle.std.proofs.lemmas.List.Sums.{fold_push}
use Rattle.vat_tap.specs.Glue.Taps.{put}
use Rattle.vat_tap.proofs.Placing.{took_more}
use Rattle.vat_tap.proofs.by_ticket.put_each.Goals as goal

pub loop-item-preserved : goal.loop-item-preserved
loop-item-preserved c =
    let items = map (λ item. item.now) c.args.all.now in
    let start = map (λ entry. entry.now) c.args.records.now.items in
    let item = c.item-item.result in
    c.put_one.ensures ∙ ap (λ now. slice_set now item.now.0 item.now.1) c.loop-item.invariant
    ∙ sym (fold_push (λ now it. slice_set now it.0 it.1) start (take c.loop-item.item-index items) item.now)
    ∙ ap (λ done. put start done) (sym (took_more (λ it. it.now) c.args.all.now c.loop-item.item-index item c.loop-item-test.true c.item-item.is))
