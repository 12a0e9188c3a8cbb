use Rattle.std.proofs.Common.{◌≡◌, ◌∙◌, map, string_bytes, option_map, Some, true, false, codes, sym, rules}
use Rattle.serde_json.specs.Find.{as_object, get}
use Rattle.serde_json.specs.View.{view, members_view}
use Rattle.case_files.specs.CaseFile.{are_known}
use Rattle.case_files.proofs.CaseFiles.{known_keys, unknown, whole}
use Rattle.case_files.proofs.case_file.case_file_in.Goals as goal

pub returns-then-not-are_known : goal.returns-then-not-are_known
returns-then-not-are_known c =
    let members = c.in_ok-ok_or.field-0.now in
    let is : as_object (view c.args.value.now) ≡ Some (members_view members.entries) = search rules in
    let test : c.are_known.result ≡ false = search rules in
    let other : are_known (members_view members.entries) ≡ false = sym (known_keys members) ∙ sym c.are_known.ensures ∙ test in
    unknown (view c.args.value.now) (members_view members.entries) is other

pub returns : goal.returns
returns c =
    let d = view c.args.value.now in
    let members = c.in_ok-ok_or.field-0.now in
    let is : as_object (view c.args.value.now) ≡ Some (members_view members.entries) = search rules in
    let test : c.are_known.result ≡ true = search rules in
    let known : are_known (members_view members.entries) ≡ true = sym (known_keys members) ∙ sym c.are_known.ensures ∙ test in
    let logs : get (codes "logs") (view c.args.value.now) ≡ Some (view c.in_ok-logs.logs.now) = search rules in
    let links : get (codes "links") (view c.args.value.now) ≡ Some (view c.in_ok-links.links.now) = search rules in
    whole d (members_view members.entries) (view c.in_ok-logs.logs.now) (view c.in_ok-links.links.now) (option_map (λ v. view v.now) c.get-3.result)
    (map string_bytes c.in_ok-names_in.field-0.items) c.in_ok-links_in.field-0.items (option_map string_bytes c.in_ok-order_in.field-0)
    is known logs links (sym c.get-3.ensures) c.in_ok-names_in.ensures c.in_ok-links_in.ensures c.in_ok-order_in.ensures
