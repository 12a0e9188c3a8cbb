use Rattle.vat_rules.proofs.ByKind.{if_good, plain_good}
use Rattle.vat_rules.proofs.by_kind.is_good_message.Goals as goal

pub returns-then-is_plain : goal.returns-then-is_plain
returns-then-is_plain c =
    if_good c.meets_plain.result c.meets_plain.ensures (plain_good c.args.edition c.args.state.now c.args.event.now (c.is_plain.ensures c.if-is_plain.true))
