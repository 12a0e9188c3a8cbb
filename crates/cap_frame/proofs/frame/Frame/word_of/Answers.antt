use Rattle.std.proofs.Common.{ap, refl, sym, ◌∙◌, arith}
use Rattle.cap_frame.specs.Segments.{table_len}
use Rattle.cap_frame.proofs.Frames.{IsFrame-of_kept, no_segment, no_word_at, word_read, word_fits}
use Rattle.cap_frame.proofs.frame.Frame.word_of.Goals as goal
use Rattle.cap_frame.proofs.frame.Frame.word_of.Goals.{then-segment-count-via-then-segment-count, then-segment-count-via-else-segment-count+then-index-size_in}

pub count_in-count-requires : goal.count_in-count-requires
count_in-count-requires c =
    (IsFrame-of_kept _ c.self.inside.bytes.now refl c.self.invariant.0).long

pub size_in-requires-clause-table : goal.size_in-requires-clause-table
size_in-requires-clause-table c =
    (IsFrame-of_kept _ c.self.inside.bytes.now refl c.self.invariant.0).table_fits

pub words_before-requires-clause-table : goal.words_before-requires-clause-table
words_before-requires-clause-table c =
    (IsFrame-of_kept _ c.self.inside.bytes.now refl c.self.invariant.0).table_fits

pub words_before-requires-clause-few : goal.words_before-requires-clause-few
words_before-requires-clause-few c =
    (IsFrame-of_kept _ c.self.inside.bytes.now refl c.self.invariant.0).few

pub word_from-requires : goal.word_from-requires
word_from-requires c =
    let bytes = c.self.inside.bytes.now in
    let frame = IsFrame-of_kept bytes c.self.inside.bytes.now refl c.self.invariant.0 in
    let fits = word_fits bytes c.from-segment.result c.args.index frame (omega arith) (omega arith) in
    omega (arith, fits, c.words_before.ensures.sum, c.table_len_for.ensures, ap table_len c.count_in-count.ensures.count)

pub returns-then-segment-count : goal.returns-then-segment-count
returns-then-segment-count c =
    elim c.then-segment-count.branch [
      | then-segment-count-via-then-segment-count w ↦ rw (← c.self.view_is) (sym (no_segment c.self.inside.bytes.now c.args.segment c.args.index (omega arith)))
      | then-segment-count-via-else-segment-count+then-index-size_in w ↦ rw (← c.self.view_is) (no_word_at c.self.inside.bytes.now c.self.inside.bytes.now c.args.segment c.from-segment.result c.args.index refl c.from-segment.ensures (omega arith) (omega (arith, w.size_in.ensures.size)))
    ]

pub returns : goal.returns
returns c =
    rw (← c.self.view_is) (word_read c.self.inside.bytes.now c.self.inside.bytes.now c.args.segment c.from-segment.result c.args.index c.table_len_for.result c.words_before.result c.word_from.result refl c.from-segment.ensures (omega arith) (omega arith) (c.table_len_for.ensures ∙ ap table_len c.count_in-count.ensures.count) c.words_before.ensures.sum c.word_from.ensures)
