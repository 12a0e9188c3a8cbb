use Rattle.std.proofs.Common.{drop}
use Rattle.std.specs.String.{string_bytes}
use Rattle.cap_reader.specs.Places.{text_at}
use Rattle.schema_names.proofs.Letters.{Copied}
use Rattle.schema_names.proofs.nodes.copied.Given as goal

abbrev pub invariant-loop-i : goal.invariant-loop-i
invariant-loop-i l = Copied (string_bytes l.name) (drop l.prefix (text_at l.frame l.text)) l.i
