use Rattle.std.proofs.Common.{◌≡◌, ◌-◌, length}
use Rattle.byte_pieces.specs.Coming.{ComesOn, IsPart}
use Rattle.vat_log.proofs.log_stream.first_window.Given as goal

abbrev pub invariant-loop-alloc : goal.invariant-loop-alloc
invariant-loop-alloc g l = record {
  came : (g.P.Pieces.so_far l.pieces).bytes ≡ l.window;
  on : ComesOn (g.P.Pieces.so_far l.initial.pieces) (g.P.Pieces.so_far l.pieces);
  part : IsPart (g.P.Pieces.so_far l.pieces);
}

abbrev pub decreases-loop-alloc : goal.decreases-loop-alloc
decreases-loop-alloc g l = 12 - length l.window
