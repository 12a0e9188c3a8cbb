use Rattle.std.proofs.Common.{rules, codes, refl}
use Rattle.report_lines.specs.RecordText.{answered_text}
use Rattle.report_lines.proofs.Joined.{joins_next}
use Rattle.report_lines.proofs.record_text.ShownRefSliceTuple2U64PathDisplay.fmt.Goals as goal

pub loop-reference-preserved : goal.loop-reference-preserved
loop-reference-preserved g c = (
  search rules,
  joins_next g.W.Write.write_str_gives answered_text (codes ";") c.args.self.now.0.now c.loop-reference.reference-index c.loop-reference-item.result c.loop-reference-item.result
      c.args.f.now c.loop-reference.f c.write.new.self c.loop-reference.between.now c.loop-reference-test.true c.loop-reference-item.is c.loop-reference.invariant.1
      (λ plain. c.in_ok-write.ensures.writes plain refl),
)
