use Rattle.std.proofs.Common.{◌≡◌, ◌∙◌, ap, refl}
use Rattle.vat_log.specs.Log.{Log}
use Rattle.vat_log.specs.Runs.{with_record}
use Rattle.vat_log.proofs.ReadOn.{at_some, none_more, one_more}
use Rattle.vat_log.proofs.log.records_left.Goals as goal

pub loop-entry-init : goal.loop-entry-init
loop-entry-init c = (refl, rw c.new-records.ensures.items (none_more c.args.reader.now.log))

pub loop-entry-preserved : goal.loop-entry-preserved
loop-entry-preserved c = (
  c.next.ensures.bytes ∙ c.loop-entry.invariant.0,
  rw c.in_ok-push-in-Ok-Some.ensures.items
      (at_some c.in-Ok-Some.field-0 c.in-Ok-Some.entry _ (λ entry. c.next.new.self.log ≡ with_record entry c.loop-entry.reader.log) c.in-Ok-Some.field-0-is c.in-Ok-Some.ensures.given ∙ ap (λ (log : Log). with_record c.in-Ok-Some.entry log) c.loop-entry.invariant.1 ∙ one_more c.in-Ok-Some.entry c.loop-entry.records.items c.args.reader.now.log),
)
