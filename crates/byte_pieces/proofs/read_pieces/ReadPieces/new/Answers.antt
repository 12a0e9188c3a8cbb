use Rattle.std.proofs.Common.{None}
use Rattle.byte_pieces.proofs.Coming.{reads_begin}
use Rattle.byte_pieces.proofs.read_pieces.ReadPieces.new.Goals as goal

pub invariant_of-result : goal.invariant_of-result
invariant_of-result g c = rw (c.new-2.ensures, c.with.ensures) (reads_begin (g.R.Read.remaining c.args.reader) None)
