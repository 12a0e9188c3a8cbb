use Rattle.std.proofs.Common.{sym, ◌∙◌}
use Rattle.undelivered.proofs.Taking.{delivered_tables, none_delivered}
use Rattle.undelivered.proofs.wait_tables.WaitTables.deliver.Goals as goal

pub returns-in_default-remove : goal.returns-in_default-remove
returns-in_default-remove c =
    none_delivered c.args.self.now (record { turns = c.remove.new.self; waiting = c.remove-2.new.self; fault = c.args.self.now.fault }) c.args.call c.args.place c.in-Some.reference c.in-Some.turn
    (sym c.remove.ensures.value ∙ c.in-Some.is) (sym c.remove-2.ensures.value ∙ c.in_default-remove.is)

pub returns : goal.returns
returns c =
    delivered_tables c.args.self.now (record { turns = c.remove.new.self; waiting = c.lower_before.new.waiting; fault = c.lesser-self.result }) c.args.call c.args.place c.in-Some.reference c.in-Some.turn c.in-Some-remove.until
    c.remove-2.new.self (sym c.remove.ensures.value ∙ c.in-Some.is) (sym c.remove-2.ensures.value ∙ c.in-Some-remove.is) c.remove.ensures.updates c.remove-2.ensures.updates c.lower_before.ensures c.lesser-self.ensures
