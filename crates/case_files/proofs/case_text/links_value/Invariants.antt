use Rattle.std.proofs.Common.{take}
use Rattle.case_files.specs.CaseFile.{link_of}
use Rattle.case_files.proofs.CaseTexts.{Say}
use Rattle.case_files.proofs.case_text.links_value.Given as goal

abbrev pub invariant-loop-place : goal.invariant-loop-place
invariant-loop-place l = Say link_of 1 l.list.items (take l.place l.links)
