use Rattle.std.proofs.Common.{◌∙◌, Some, ap, arith, get_or, take, take_all}
use Rattle.std.proofs.lemmas.List.{take_more}
use Rattle.case_book.specs.declared.link.Link.{Link}
use Rattle.case_files.specs.CaseFile.{link_of}
use Rattle.case_files.proofs.CaseTexts.{list_says, list_shallow, say_more}
use Rattle.case_files.proofs.case_text.links_value.Goals as goal

pub loop-place-preserved : goal.loop-place-preserved
loop-place-preserved c =
    let none : Link = record { connection = 0; a = 0; b = 0 } in
    let more = say_more link_of 1 c.loop-place.list.items (take c.loop-place.place c.args.links.now) c.in_ok-link_value.field-0 (get_or c.args.links.now c.loop-place.place none) c.loop-place.invariant
    c.in_ok-link_value.ensures.says c.in_ok-link_value.ensures.shallow in
    rw (c.in_ok-push.ensures.items, take_more c.args.links.now c.loop-place.place none c.loop-place-test.true) more

pub returns-clause-says : goal.returns-clause-says
returns-clause-says c =
    list_says link_of 1 c.loop-place.list (take c.loop-place.place c.args.links.now) c.loop-place.invariant
    ∙ ap (λ ls. Some ls) (take_all c.loop-place.place c.args.links.now (omega (arith, c.loop-place-test.false)))

pub returns-clause-shallow : goal.returns-clause-shallow
returns-clause-shallow c = list_shallow link_of 1 c.loop-place.list (take c.loop-place.place c.args.links.now) c.loop-place.invariant
