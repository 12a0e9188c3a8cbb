use Rattle.std.proofs.Common.{sym, ◌∙◌}
use Rattle.byte_pieces.proofs.Coming.{comes_same, fresh_part}
use Rattle.vat_log.proofs.log_stream.first_window.Goals as goal

pub loop-alloc-init : goal.loop-alloc-init
loop-alloc-init g c =
    let came = g.P.Pieces.so_far c.args.pieces.now in
    record { came = c.requires.none ∙ sym c.new-window.ensures; on = comes_same came; part = fresh_part came c.requires }
