use Rattle.std.proofs.Common.{map, string_bytes}
use Rattle.case_files.specs.FileNames.{IsCounted}
use Rattle.case_files.proofs.folder_names.counted_names.Given as goal

abbrev pub invariant-loop-place : goal.invariant-loop-place
invariant-loop-place l = IsCounted l.place (map string_bytes l.names.items)
