use Rattle.std.proofs.Common.{map, take}
use Rattle.serde_json.specs.Find.{as_str}
use Rattle.case_files.proofs.CaseTexts.{Say}
use Rattle.case_files.proofs.case_text.names_value.Given as goal

abbrev pub invariant-loop-name : goal.invariant-loop-name
invariant-loop-name g l = Say as_str 0 l.list.items (map g.N.AsStr.text (take l.name-index l.names))
