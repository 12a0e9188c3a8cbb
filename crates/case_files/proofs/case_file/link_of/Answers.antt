use Rattle.std.proofs.Common.{◌≡◌, ◌∙◌, ◌≢◌, length, Some, sym, arith, rules}
use Rattle.serde_json.specs.Find.{as_array}
use Rattle.serde_json.specs.View.{view, items_view}
use Rattle.case_files.proofs.CaseFiles.{link_of-list, not_three}
use Rattle.case_files.proofs.case_file.link_of.Goals as goal

pub returns-in_default : goal.returns-in_default
returns-in_default c =
    let listed : Some (items_view c.as_slice.result.now) ≡ as_array (view c.args.value.now) = search rules in
    let other : length c.as_slice.result.now ≢ 3 = omega arith in
    sym (link_of-list (view c.args.value.now) c.as_slice.result.now listed ∙ not_three c.as_slice.result.now other)

pub returns-in_default-2 : goal.returns-in_default-2
returns-in_default-2 c =
    let listed : Some (items_view c.as_slice.result.now) ≡ as_array (view c.args.value.now) = search rules in
    let other : length c.as_slice.result.now ≢ 3 = omega arith in
    sym (link_of-list (view c.args.value.now) c.as_slice.result.now listed ∙ not_three c.as_slice.result.now other)
