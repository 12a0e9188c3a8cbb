use Rattle.std.proofs.Common.{rules, codes, refl}
use Rattle.report_lines.specs.MessageText.{descriptor_text}
use Rattle.report_lines.proofs.Joined.{joins_next}
use Rattle.report_lines.proofs.message_text.ShownRefSliceDescriptorDisplay.fmt.Goals as goal

pub loop-descriptor-preserved : goal.loop-descriptor-preserved
loop-descriptor-preserved g c = (
  search rules,
  joins_next g.W.Write.write_str_gives descriptor_text (codes ";") c.args.self.now.0.now c.loop-descriptor.descriptor-index c.descriptor-item.result c.descriptor-item.result
      c.args.f.now c.loop-descriptor.f c.write.new.self c.loop-descriptor.between.now c.loop-descriptor-test.true c.descriptor-item.is c.loop-descriptor.invariant.1
      (λ plain. c.in_ok-write.ensures.writes plain refl),
)
