use Rattle.std.proofs.Common.{sym, ◌∙◌}
use Rattle.cap_frame.proofs.Frames.{size_place}
use Rattle.wire_cut.proofs.table.size_in.Goals as goal

pub returns-clause-size : goal.returns-clause-size
returns-clause-size c =
    c.from.ensures
    ∙ (c.number_from.ensures ∙ sym (size_place c.args.bytes.now c.args.segment c.requires.known))
