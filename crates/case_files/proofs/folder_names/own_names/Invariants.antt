use Rattle.std.proofs.Common.{map, string_bytes}
use Rattle.case_files.proofs.FileNaming.{Goes}
use Rattle.case_files.proofs.folder_names.own_names.Given as goal

abbrev pub invariant-loop-path : goal.invariant-loop-path
invariant-loop-path l = Goes (λ path. path.now) l.paths l.path-index (map string_bytes l.names.items)
