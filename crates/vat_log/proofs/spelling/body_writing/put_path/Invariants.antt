use Rattle.std.proofs.Common.{◌≡◌, ◌++◌, length, take}
use Rattle.std.specs.Int.{w16, w32}
use Rattle.std.specs.List.{flat_map}
use Rattle.vat_log.specs.Spelling.{number_bytes}
use Rattle.vat_log.proofs.spelling.body_writing.put_path.Given as goal

abbrev pub invariant-loop-field : goal.invariant-loop-field
invariant-loop-field l = l.out.items ≡ l.fn.out.items ++ (number_bytes w32 (length l.fields) ++ flat_map (number_bytes w16) (take l.field-index l.fields))
