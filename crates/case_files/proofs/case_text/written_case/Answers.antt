use Rattle.std.proofs.Common.{map, string_bytes}
use Rattle.std.proofs.lemmas.Str.{IsUtf8-string_bytes}
use Rattle.serde_json.specs.View.{view}
use Rattle.case_files.proofs.CaseTexts.{is_case}
use Rattle.case_files.proofs.case_text.written_case.Goals as goal

pub returns : goal.returns
returns g c =
    is_case (view c.in_ok-case_value.field-0) (map g.N.AsStr.text c.args.names.now) c.args.links.now c.in_ok-from_string.field-0 (string_bytes c.in_ok-text.text)
    (IsUtf8-string_bytes c.in_ok-text.text) c.in_ok-from_string.ensures c.in_ok-case_value.ensures c.in_ok-text.ensures.reads_back
