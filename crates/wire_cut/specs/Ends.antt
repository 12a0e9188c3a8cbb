-- The two ends of a connection.
use Rattle.wire_cut.specs.declared.end.End.{End}
use Rattle.wire_cut.specs.declared.end.End.TheVariants.{A, B}

-- the end on the other side
abbrev pub other_end : End → End
other_end A = B
other_end B = A
