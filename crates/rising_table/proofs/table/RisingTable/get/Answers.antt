use Rattle.std.proofs.Common.{◌∙◌, sym, subst}
use Rattle.rising_table.specs.Glue.{IsAt, IsGapFor}
use Rattle.rising_table.proofs.Changing.{had_over, had_behind}
use Rattle.rising_table.proofs.table.RisingTable.get.Goals as goal

-- the number is at its place in the row
pub returns-in-Ok : goal.returns-in-Ok
returns-in-Ok g c =
    let there = subst (λ es. IsAt es c.args.key c.in-Ok.place) c.deref.ensures.value c.in-Ok.ensures.found in
    sym (had_over c.self.inside.row.items c.self.inside.rest.entries c.args.self.now c.self.view_is c.args.key c.in-Ok.place c.index.result.now c.self.invariant there c.index.ensures)

-- it isn't in the row
pub returns-in-Err : goal.returns-in-Err
returns-in-Err g c =
    let gap = subst (λ es. IsGapFor es c.args.key c.in-Err.field-0) c.deref.ensures.value c.in-Err.ensures.absent in
    c.get.ensures.value ∙ sym (had_behind c.self.inside.row.items c.self.inside.rest.entries c.args.self.now c.self.view_is c.args.key c.in-Err.field-0 gap)
