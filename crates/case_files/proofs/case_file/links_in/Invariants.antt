use Rattle.case_files.specs.CaseFile.{link_of}
use Rattle.case_files.proofs.CaseFiles.{Goes}
use Rattle.case_files.proofs.case_file.links_in.Given as goal

abbrev pub invariant-loop-item : goal.invariant-loop-item
invariant-loop-item l = Goes link_of l.item-items l.item-index l.links.items
