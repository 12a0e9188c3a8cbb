use Rattle.std.proofs.Common.{◌∙◌}
use Rattle.undelivered.proofs.Kept.{fault_means}
use Rattle.undelivered.proofs.undelivered.Undelivered.fault.Goals as goal

pub returns : goal.returns
returns c = rw (← c.self.view_is) (λ once. fault_means c.self.inside.past.items c.fault.result (c.fault.ensures ∙ (c.self.invariant.exact once).fault))
