use Rattle.std.proofs.Common.{rules, codes, get_or, refl}
use Rattle.std.specs.Fmt.{decimal}
use Rattle.report_lines.proofs.Joined.{joins_next}
use Rattle.report_lines.proofs.message_text.ShownRefSliceU16Display.fmt.Goals as goal

pub loop-number-preserved : goal.loop-number-preserved
loop-number-preserved g c = (
  search rules,
  joins_next g.W.Write.write_str_gives decimal (codes ",") c.args.self.now.0.now c.loop-number.number-index (get_or c.args.self.now.0.now c.loop-number.number-index 0) 0
      c.args.f.now c.loop-number.f c.write.new.self c.loop-number.between.now c.loop-number-test.true refl c.loop-number.invariant.1
      (λ plain. c.in_ok-write.ensures.writes plain refl),
)
