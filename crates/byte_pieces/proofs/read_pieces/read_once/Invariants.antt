use Rattle.std.proofs.Common.{◌≡◌}
use Rattle.std.specs.Io.KnownBytes.{Keeps}
use Rattle.byte_pieces.proofs.read_pieces.read_once.Given as goal

abbrev pub invariant-loop : goal.invariant-loop
invariant-loop g l = record {
  window : l.window ≡ l.initial.window;
  reader : Keeps (g.R.Read.remaining l.initial.reader) (g.R.Read.remaining l.reader);
}
