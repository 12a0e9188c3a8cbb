use Rattle.std.proofs.Common.{◌≡◌, ◌∙◌, Some, None, arith, rules}
use Rattle.serde_json.specs.Find.{as_array}
use Rattle.serde_json.specs.View.{view, items_view}
use Rattle.case_files.specs.CaseFile.{each_item, link_of}
use Rattle.case_files.proofs.CaseFiles.{each_item-list, goes_end, goes_wrong}
use Rattle.case_files.proofs.case_file.links_in.Goals as goal

pub returns : goal.returns
returns c =
    let listed : Some (items_view c.deref-item-items.result.now) ≡ as_array (view c.args.value.now) = search rules in
    each_item-list link_of (view c.args.value.now) c.deref-item-items.result.now listed
    ∙ goes_end link_of c.deref-item-items.result.now c.loop-item.item-index c.loop-item.links.items (omega arith) c.loop-item.invariant

pub returns-in_err-ok_or-2 : goal.returns-in_err-ok_or-2
returns-in_err-ok_or-2 c =
    let listed : Some (items_view c.deref-item-items.result.now) ≡ as_array (view c.args.value.now) = search rules in
    let none : link_of (view c.item-item.result) ≡ None = search rules in
    let all : each_item link_of (view c.args.value.now) ≡ None = each_item-list link_of (view c.args.value.now) c.deref-item-items.result.now listed
    ∙ goes_wrong link_of c.deref-item-items.result.now c.loop-item.item-index c.loop-item.links.items c.item-item.result (omega arith) c.item-item.is none c.loop-item.invariant in
    search rules
