use Rattle.vat_rules.proofs.Unread.{unread_is}
use Rattle.vat_rules.proofs.why.unread.Goals as goal

pub returns-in_default : goal.returns-in_default
returns-in_default c = λ edition limits before body fails. rw c.why_of.ensures (unread_is edition limits body c.args.error c.in_default.not-OutOfMemory fails)
