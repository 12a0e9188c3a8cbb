use Rattle.std.proofs.Common.{◌≡◌, ◌∙◌, map, string_bytes, Some, None, arith, rules}
use Rattle.serde_json.specs.Find.{as_array, as_str}
use Rattle.serde_json.specs.View.{view, items_view}
use Rattle.case_files.specs.CaseFile.{each_item}
use Rattle.case_files.proofs.CaseFiles.{each_item-list, goes_end, goes_wrong}
use Rattle.case_files.proofs.case_file.names_in.Goals as goal

pub returns : goal.returns
returns c =
    let listed : Some (items_view c.deref-item-items.result.now) ≡ as_array (view c.args.value.now) = search rules in
    each_item-list as_str (view c.args.value.now) c.deref-item-items.result.now listed
    ∙ goes_end as_str c.deref-item-items.result.now c.loop-item.item-index (map string_bytes c.loop-item.names.items) (omega arith) c.loop-item.invariant

pub returns-in_err-name : goal.returns-in_err-name
returns-in_err-name c =
    let listed : Some (items_view c.deref-item-items.result.now) ≡ as_array (view c.args.value.now) = search rules in
    let none : as_str (view c.item-item.result) ≡ None = search rules in
    let all : each_item as_str (view c.args.value.now) ≡ None = each_item-list as_str (view c.args.value.now) c.deref-item-items.result.now listed
    ∙ goes_wrong as_str c.deref-item-items.result.now c.loop-item.item-index (map string_bytes c.loop-item.names.items) c.item-item.result (omega arith) c.item-item.is none c.loop-item.invariant in
    search rules
