use Rattle.std.proofs.Common.{refl, arith, sym}
use Rattle.cap_frame.proofs.Frames.{has_so_many}
use Rattle.cap_frame.proofs.frame.Frame.has_words.Goals as goal

pub returns-then-segment-eq0-clause-value : goal.returns-then-segment-eq0-clause-value
returns-then-segment-eq0-clause-value c =
    let kept = c.self.inside.bytes.now in
    rw (← c.self.view_is) (has_so_many kept kept c.args.segment 0 c.self.inside.size c.args.count refl (sym c.if-segment-eq0.true) (omega arith) (omega (arith, c.self.invariant.2)))
