use Rattle.std.proofs.Common.{◌-◌, ℕ, ap, ◌∙◌}
use Rattle.std.specs.List.{slice_range}
use Rattle.vat_log.proofs.Ends.{cut_is}
use Rattle.vat_log.proofs.record.cut.Goals as goal

pub returns : goal.returns
returns c =
    c.in_ok-frame.ensures.ok ∙ ap (λ (n : ℕ). slice_range c.args.bytes.now (c.args.end - n) c.args.end) c.len.ensures.value
    ∙ cut_is c.args.bytes.now c.args.end c.args.frame.now c.requires
