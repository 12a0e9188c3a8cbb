use Rattle.std.proofs.Common.{◌≡◌, ◌<◌, ◌++◌, ◌∷◌, [], List, map, take, length, get_or, arith, sym, ap, ◌∙◌}
use Rattle.std.proofs.lemmas.List.{length-map, get_or-map}
use Rattle.vat_log.specs.declared.body.Body.{Body}
use Rattle.vat_log.proofs.Loop.{taken}
use Rattle.vat_log.proofs.spelling.storing.copied_records.Goals as goal

pub loop-entry-preserved : goal.loop-entry-preserved
loop-entry-preserved c =
    let records = map (λ entry. entry.now) c.args.records.now in
    let i = c.loop-entry.entry-index in
    let said = c.entry-item.result.now in
    let lt : i < length records = omega (arith, length-map c.args.records.now (λ entry. entry.now), c.loop-entry-test.true) in
    let is : said ≡ get_or records i said = ap (λ entry. entry.now) c.entry-item.is ∙ sym (get_or-map (λ entry. entry.now) c.args.records.now i c.entry-item.result said c.loop-entry-test.true) in
    let one : c.push.new.self.items ≡ take i records ++ said ∷ [] =
    c.in_ok-push.ensures.items ∙ ap (λ (before : List Body). before ++ c.in_ok-copy.field-0 ∷ []) c.loop-entry.invariant
    ∙ ap (λ (last : Body). take i records ++ last ∷ []) c.in_ok-copy.ensures in
    one ∙ sym (taken records i said lt is)
