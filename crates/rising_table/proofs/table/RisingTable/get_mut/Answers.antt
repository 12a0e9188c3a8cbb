use Rattle.std.proofs.Common.{◌∙◌, sym, subst, ap, refl}
use Rattle.rising_table.specs.Glue.{IsAt, IsGapFor}
use Rattle.rising_table.proofs.Changing.{had_over, had_behind, same_whole}
use Rattle.rising_table.proofs.Writing.{rising_written, writes_over, writes_behind}
use Rattle.rising_table.proofs.table.RisingTable.get_mut.Goals as goal

-- whatever is written, the row's numbers stay
pub invariant_of-self-lent : goal.invariant_of-self-lent
invariant_of-self-lent g c w =
    let there = subst (λ es. IsAt es c.args.key c.in-Ok.place) c.deref.ensures.value c.in-Ok.ensures.found in
    rising_written c.self.inside.row.items c.self.invariant c.args.key c.in-Ok.place c.index_mut.result.now w there c.index_mut.ensures.value

-- the number was in the row
pub returns-in-Ok : goal.returns-in-Ok
returns-in-Ok g c =
    let row = c.self.inside.row.items in
    let rest = c.self.inside.rest.entries in
    let there = subst (λ es. IsAt es c.args.key c.in-Ok.place) c.deref.ensures.value c.in-Ok.ensures.found in (
      (refl, (λ w. writes_over row rest c.args.self.now c.self.view_is c.args.key c.in-Ok.place c.index_mut.result.now w c.self.invariant there c.index_mut.ensures.value), refl),
      record {
        writes_back = tt;
        value = sym (had_over row rest c.args.self.now c.self.view_is c.args.key c.in-Ok.place c.index_mut.result.now c.self.invariant there c.index_mut.ensures.value);
      },
    )

-- it was behind the row, or nowhere
pub returns-in-Err : goal.returns-in-Err
returns-in-Err g c =
    let row = c.self.inside.row.items in
    let rest = c.self.inside.rest.entries in
    let gap = subst (λ es. IsGapFor es c.args.key c.in-Err.field-0) c.deref.ensures.value c.in-Err.ensures.absent in (
      (
        refl,
        (λ w. writes_behind row rest c.args.self.now c.self.view_is c.args.key c.in-Err.field-0 w gap (c.get_mut.follows.lender w).entries (c.get_mut.follows.holds w).0),
        same_whole row rest c.args.self.now c.self.view_is c.args.key c.in-Err.field-0 c.get_mut.follows.lender-at-none.entries (ap (λ m. m.entries) c.get_mut.follows.holds-at-none),
      ),
      record { writes_back = tt; value = c.get_mut.ensures.value ∙ sym (had_behind row rest c.args.self.now c.self.view_is c.args.key c.in-Err.field-0 gap) },
    )
