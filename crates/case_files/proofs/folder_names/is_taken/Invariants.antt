use Rattle.std.proofs.Common.{map, string_bytes}
use Rattle.case_files.specs.Glue.{IsNotBefore}
use Rattle.case_files.proofs.folder_names.is_taken.Given as goal

abbrev pub invariant-loop-place : goal.invariant-loop-place
invariant-loop-place l = IsNotBefore (map string_bytes l.names) l.name l.begin l.place
