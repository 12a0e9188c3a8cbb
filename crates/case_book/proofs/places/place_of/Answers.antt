use Rattle.std.proofs.Common.{◌≡◌, below_more, sym, ap, ◌∙◌, arith}
use Rattle.std.specs.Arc.{arc_value}
use Rattle.std.proofs.lemmas.List.{get_or-map}
use Rattle.vat_log.specs.declared.log.VatLog.{VatLog}
use Rattle.std.proofs.Common.{Global}
use Rattle.case_book.proofs.places.place_of.Goals as goal

pub loop-index-preserved : goal.loop-index-preserved
loop-index-preserved c =
    below_more _ _ c.loop-index.invariant (λ same.
    let held : c.deref.result.now ≡ c.args.log.now =
    c.deref.ensures ∙ ap (arc_value {X = VatLog} {Z = Global}) c.index-logs-index.is
    ∙ sym (get_or-map (arc_value {X = VatLog} {Z = Global}) c.args.logs.now c.loop-index.index c.index-logs-index.result c.args.log.now (omega arith))
    ∙ same in
    let is = c.is_same_log.ensures.1 held in
    let isnt = c.if-is_same_log.false in
    cc)
