use Rattle.std.proofs.Common.{◌≡◌, ◌∙◌, Some, ap, arith, map, rules, string_bytes, take, take_all}
use Rattle.serde_json.specs.Find.{as_str}
use Rattle.serde_json.specs.declared.value.Value.{String as TextOf}
use Rattle.case_files.proofs.CaseTexts.{list_says, list_shallow, say_more, text_says, text_shallow, texts_more}
use Rattle.case_files.proofs.case_text.names_value.Goals as goal

pub loop-name-preserved : goal.loop-name-preserved
loop-name-preserved g c =
    let text_is : string_bytes c.in_ok-from_str.field-0 ≡ g.N.AsStr.text c.name-item.result = search rules in
    let more = say_more as_str 0 c.loop-name.list.items (map g.N.AsStr.text (take c.loop-name.name-index c.args.names.now)) (TextOf c.in_ok-from_str.field-0) (g.N.AsStr.text c.name-item.result)
    c.loop-name.invariant (text_says c.in_ok-from_str.field-0 ∙ ap (λ t. Some t) text_is) (text_shallow c.in_ok-from_str.field-0) in
    rw (c.in_ok-push.ensures.items, texts_more g.N.AsStr.text c.args.names.now c.loop-name.name-index c.name-item.result c.loop-name-test.true c.name-item.is) more

pub returns-clause-says : goal.returns-clause-says
returns-clause-says g c =
    list_says as_str 0 c.loop-name.list (map g.N.AsStr.text (take c.loop-name.name-index c.args.names.now)) c.loop-name.invariant
    ∙ ap (λ ns. Some (map g.N.AsStr.text ns)) (take_all c.loop-name.name-index c.args.names.now (omega (arith, c.loop-name-test.false)))

pub returns-clause-shallow : goal.returns-clause-shallow
returns-clause-shallow g c = list_shallow as_str 0 c.loop-name.list (map g.N.AsStr.text (take c.loop-name.name-index c.args.names.now)) c.loop-name.invariant
