use Rattle.std.proofs.Common.{map, string_bytes}
use Rattle.serde_json.specs.Find.{as_str}
use Rattle.case_files.proofs.CaseFiles.{Goes}
use Rattle.case_files.proofs.case_file.names_in.Given as goal

abbrev pub invariant-loop-item : goal.invariant-loop-item
invariant-loop-item l = Goes as_str l.item-items l.item-index (map string_bytes l.names.items)
