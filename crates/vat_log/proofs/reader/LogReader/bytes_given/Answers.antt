use Rattle.std.proofs.Common.{◌∙◌}
use Rattle.std.proofs.lemmas.Result.{IfOk-weaker}
use Rattle.vat_log.proofs.ReadOn.{front_is, log_given}
use Rattle.vat_log.proofs.reader.LogReader.bytes_given.Goals as goal

pub returns : goal.returns
returns c =
    let kept = c.self.inside in
    rw (← c.self.view_is) (IfOk-weaker c.slice.result _ _ (λ b h. h ∙ front_is kept.bytes (log_given kept.version kept.vat kept.given.items) kept.at c.self.invariant.2) c.slice.ensures.ok)
