use Rattle.case_files.proofs.LookUps.{Passed}
use Rattle.case_files.proofs.file_list.FileList.find.Given as goal

abbrev pub invariant-loop-listed : goal.invariant-loop-listed
invariant-loop-listed l = Passed l.listed-items l.listed-index l.name
