use Rattle.std.proofs.Common.{◌∙◌}
use Rattle.audit_core.proofs.Counting.{delivered_is}
use Rattle.audit_core.proofs.counts.delivered_in.Goals as goal

pub returns : goal.returns
returns c = c.delivered.ensures ∙ delivered_is c.args.found.now.log c.args.found.now.limits c.outcome.result.now c.in-Good.story c.outcome.ensures.of_the_log c.in-Good.is
