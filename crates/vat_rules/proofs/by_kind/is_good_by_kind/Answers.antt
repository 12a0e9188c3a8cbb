use Rattle.std.proofs.Common.{sym, ◌∙◌}
use Rattle.vat_rules.proofs.ByKind.{if_good, binding_good}
use Rattle.vat_rules.proofs.by_kind.is_good_by_kind.Goals as goal

pub returns-then-binds : goal.returns-then-binds
returns-then-binds c =
    if_good c.refers.result c.refers.ensures (binding_good c.args.edition c.args.state.now c.args.event.now (sym c.binds.ensures ∙ c.if-binds.true))
