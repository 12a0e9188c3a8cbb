use Rattle.std.proofs.Common.{rules}
use Rattle.vat_rules.specs.Glue.Asked.{IsBare}
use Rattle.vat_rules.proofs.Sufficing.{own_suffice, bare_suffice, carrying_suffice}
use Rattle.vat_rules.proofs.asked.asked.Goals as goal

pub returns-then-is_bare : goal.returns-then-is_bare
returns-then-is_bare c =
    let bare : IsBare c.args.event.now = search rules in
    bare_suffice c.args.event.now c.in-Wire.is bare c.asked_of_bare.ensures

pub returns-else-is_bare : goal.returns-else-is_bare
returns-else-is_bare c = carrying_suffice c.args.event.now c.in-Wire.is c.asked_of_carrying.ensures

pub returns-in_default : goal.returns-in_default
returns-in_default c = own_suffice c.args.event.now c.in_default.not-Wire c.asked_of_own.ensures
