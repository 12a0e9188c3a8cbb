use Rattle.std.proofs.Common.{◌≡◌, Global, get_or, map, sym, ap, ◌∙◌, arith}
use Rattle.std.specs.Arc.{arc_value}
use Rattle.std.proofs.lemmas.List.{get_or-map, length-map, take_more_same}
use Rattle.vat_log.specs.Log.{Log}
use Rattle.vat_log.specs.declared.log.VatLog.{VatLog}
use Rattle.case_book.proofs.Alike.{unlike}
use Rattle.case_book.proofs.case.are_same_logs.Goals as goal

pub loop-index-preserved : goal.loop-index-preserved
loop-index-preserved c =
    let value = arc_value {X = VatLog} {Z = Global} in
    let d : Log = c.deref.result.now in
    let i = c.loop-index.index in
    let one : c.deref.result.now ≡ get_or (map value c.args.ones.now) i d =
    c.deref.ensures ∙ ap value c.index-ones-index.is ∙ sym (get_or-map value c.args.ones.now i c.index-ones-index.result d (omega arith)) in
    let other : c.deref-in-loop-index.result.now ≡ get_or (map value c.args.others.now) i d =
    c.deref-in-loop-index.ensures ∙ ap value c.index-others-index.is ∙ sym (get_or-map value c.args.others.now i c.index-others-index.result d (omega arith)) in
    let ones = length-map c.args.ones.now value in
    let others = length-map c.args.others.now value in
    take_more_same (map value c.args.ones.now) (map value c.args.others.now) i d (omega (arith, ones)) (omega (arith, others)) c.loop-index.invariant
    (sym one ∙ c.is_same_log.ensures.0 c.if-not-is_same_log.false ∙ other)

pub returns-then-not-is_same_log : goal.returns-then-not-is_same_log
returns-then-not-is_same_log c =
    let value = arc_value {X = VatLog} {Z = Global} in
    let d : Log = c.deref.result.now in
    let i = c.loop-index.index in
    let one : c.deref.result.now ≡ get_or (map value c.args.ones.now) i d =
    c.deref.ensures ∙ ap value c.index-ones-index.is ∙ sym (get_or-map value c.args.ones.now i c.index-ones-index.result d (omega arith)) in
    let other : c.deref-in-loop-index.result.now ≡ get_or (map value c.args.others.now) i d =
    c.deref-in-loop-index.ensures ∙ ap value c.index-others-index.is ∙ sym (get_or-map value c.args.others.now i c.index-others-index.result d (omega arith)) in
    unlike (map value c.args.ones.now) (map value c.args.others.now) i d c.is_same_log.result c.if-not-is_same_log.true
    (λ same. c.is_same_log.ensures.1 (one ∙ same ∙ sym other))
