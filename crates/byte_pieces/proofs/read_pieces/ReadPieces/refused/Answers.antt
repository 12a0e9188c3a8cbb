use Rattle.std.proofs.Common.{Some}
use Rattle.byte_pieces.proofs.Coming.{reads_begin}
use Rattle.byte_pieces.proofs.read_pieces.ReadPieces.refused.Goals as goal

pub invariant_of-result : goal.invariant_of-result
invariant_of-result g c = rw (c.new-2.ensures, c.with.ensures) (reads_begin (g.R.Read.remaining c.args.reader) (Some c.fault_of.result))
