use Rattle.std.proofs.Common.{rules, codes, get_or, refl}
use Rattle.std.specs.Fmt.{decimal}
use Rattle.report_lines.proofs.Joined.{joins_next}
use Rattle.report_lines.proofs.record_text.ShownRefSliceU64Display.fmt.Goals as goal

pub loop-reference-preserved : goal.loop-reference-preserved
loop-reference-preserved g c = (
  search rules,
  joins_next g.W.Write.write_str_gives decimal (codes ",") c.args.self.now.0.now c.loop-reference.reference-index (get_or c.args.self.now.0.now c.loop-reference.reference-index 0) 0
      c.args.f.now c.loop-reference.f c.write.new.self c.loop-reference.between.now c.loop-reference-test.true refl c.loop-reference.invariant.1
      (λ plain. c.in_ok-write.ensures.writes plain refl),
)
