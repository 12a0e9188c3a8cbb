use Rattle.std.proofs.Common.{◌≡◌}
use Rattle.case_streams.proofs.opening.all_bytes.Given as goal

-- what came is kept
abbrev pub invariant-loop : goal.invariant-loop
invariant-loop g l = (g.P.Pieces.so_far l.reader).bytes ≡ l.bytes.items
