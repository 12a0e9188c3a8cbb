use Rattle.std.proofs.Common.{ℕ, List, refl, subst}
use Rattle.std.specs.Fmt.{HasWritten}
use Rattle.picture.proofs.Wrapping.{added, ended}
use Rattle.picture.proofs.svg.captions.WrappedDisplay.fmt.Goals as goal
use Rattle.picture.proofs.svg.captions.WrappedDisplay.fmt.Goals.{then-ends_line+in_ok-write_str, else-ends_line+in_ok-write_char}

pub loop-letter-preserved : goal.loop-letter-preserved
loop-letter-preserved g c =
    elim c.if-ends_line.branch [
      | then-ends_line+in_ok-write_str w ↦ rw (w.f-is, w.at-is)
          (ended g.W.Write.write_str_gives c.as_bytes-letter-items.result.now c.loop-letter.letter-index c.loop-letter.at _ 0 c.ends_line.result c.args.f.now c.loop-letter.f w.write_str.new.self
          c.loop-letter-test.true refl c.ends_line.ensures w.if-ends_line.true c.loop-letter.invariant (λ plain. subst (λ (t : List ℕ). HasWritten g.W.Write.write_str_gives c.loop-letter.f t w.write_str.new.self) w.line_end.ensures (w.in_ok-write_str.ensures.writes plain refl)))
      | else-ends_line+in_ok-write_char w ↦ rw (w.f-is, w.at-is)
          (added g.W.Write.write_str_gives c.as_bytes-letter-items.result.now c.loop-letter.letter-index c.loop-letter.at _ 0 c.ends_line.result c.args.f.now c.loop-letter.f w.write_char.new.self
          c.loop-letter-test.true refl c.ends_line.ensures w.if-ends_line.false c.loop-letter.invariant (λ plain. w.in_ok-write_char.ensures.writes plain refl))
    ]
