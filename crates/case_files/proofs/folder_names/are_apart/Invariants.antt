use Rattle.std.proofs.Common.{map, string_bytes}
use Rattle.case_files.specs.Glue.{NamesAreApartUpTo}
use Rattle.case_files.proofs.folder_names.are_apart.Given as goal

abbrev pub invariant-loop-place : goal.invariant-loop-place
invariant-loop-place l = NamesAreApartUpTo (map string_bytes l.names) l.place
