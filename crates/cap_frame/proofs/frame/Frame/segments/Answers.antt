use Rattle.std.proofs.Common.{refl, sym, ◌∙◌, arith}
use Rattle.cap_frame.proofs.Frames.{IsFrame-of_kept, length-content}
use Rattle.cap_frame.proofs.Spelling.{sized}
use Rattle.cap_frame.proofs.frame.Frame.segments.Goals as goal

pub count_in-requires : goal.count_in-requires
count_in-requires c = (IsFrame-of_kept _ c.self.inside.bytes.now refl c.self.invariant.0).long

pub overflow_cast-result : goal.overflow_cast-result
overflow_cast-result c =
    omega (arith, (IsFrame-of_kept _ c.self.inside.bytes.now refl c.self.invariant.0).few, c.count_in.ensures.count)

pub returns-clause-count : goal.returns-clause-count
returns-clause-count c = rw (← c.self.view_is) (c.count_in.ensures.count ∙ sym (length-content c.self.inside.bytes.now))

pub returns-clause-bound : goal.returns-clause-bound
returns-clause-bound c =
    omega (arith, (IsFrame-of_kept _ c.self.inside.bytes.now refl c.self.invariant.0).few, c.count_in.ensures.count)

pub returns-clause-sized : goal.returns-clause-sized
returns-clause-sized c =
    rw (← c.self.view_is) (sized c.self.inside.bytes.now c.self.inside.bytes.now refl c.count_in.ensures.bytes)
