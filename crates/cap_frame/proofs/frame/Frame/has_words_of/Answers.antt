use Rattle.std.proofs.Common.{refl, arith}
use Rattle.cap_frame.proofs.Frames.{IsFrame-of_kept, has_so_many, has_no_segment}
use Rattle.cap_frame.proofs.frame.Frame.has_words_of.Goals as goal

pub count_in-requires : goal.count_in-requires
count_in-requires c =
    (IsFrame-of_kept _ c.self.inside.bytes.now refl c.self.invariant.0).long

pub size_in-requires-clause-table : goal.size_in-requires-clause-table
size_in-requires-clause-table c =
    (IsFrame-of_kept _ c.self.inside.bytes.now refl c.self.invariant.0).table_fits

pub returns-then-segment-count_in-clause-value : goal.returns-then-segment-count_in-clause-value
returns-then-segment-count_in-clause-value c =
    rw (← c.self.view_is) (has_so_many c.self.inside.bytes.now c.self.inside.bytes.now c.args.segment c.from-segment.result c.size_in.result c.args.count refl c.from-segment.ensures (omega arith) c.size_in.ensures.size)

pub returns-else-segment-count_in-clause-value : goal.returns-else-segment-count_in-clause-value
returns-else-segment-count_in-clause-value c =
    rw (← c.self.view_is) (has_no_segment c.self.inside.bytes.now c.self.inside.bytes.now c.args.segment c.from-segment.result c.count_in.result c.args.count refl c.from-segment.ensures c.count_in.ensures.count (omega arith))
