use Rattle.std.proofs.Common.{rules, codes, refl}
use Rattle.report_lines.specs.MessageText.{field_text}
use Rattle.report_lines.proofs.Joined.{joins_next}
use Rattle.report_lines.proofs.message_text.ShownRefSliceTuple2PathU32Display.fmt.Goals as goal

pub loop-path-preserved : goal.loop-path-preserved
loop-path-preserved g c = (
  search rules,
  joins_next g.W.Write.write_str_gives field_text (codes ";") c.args.self.now.0.now c.loop-path.path-index c.loop-path-item.result c.loop-path-item.result
      c.args.f.now c.loop-path.f c.write.new.self c.loop-path.between.now c.loop-path-test.true c.loop-path-item.is c.loop-path.invariant.1
      (λ plain. c.in_ok-write.ensures.writes plain refl),
)
