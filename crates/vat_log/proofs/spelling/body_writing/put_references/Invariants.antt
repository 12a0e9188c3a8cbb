use Rattle.std.proofs.Common.{◌≡◌, ◌++◌, length, take}
use Rattle.std.specs.Int.{w32, w64}
use Rattle.std.specs.List.{flat_map}
use Rattle.vat_log.specs.Spelling.{number_bytes}
use Rattle.vat_log.proofs.spelling.body_writing.put_references.Given as goal

abbrev pub invariant-loop-reference : goal.invariant-loop-reference
invariant-loop-reference l = l.out.items ≡ l.fn.out.items ++ (number_bytes w32 (length l.references) ++ flat_map (number_bytes w64) (take l.reference-index l.references))
