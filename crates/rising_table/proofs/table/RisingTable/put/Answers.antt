use Rattle.std.proofs.Common.{sym, subst, Some, rules}
use Rattle.rising_table.specs.Glue.{IsAt, IsGapFor, AreRising}
use Rattle.rising_table.proofs.Changing.{put_over, put_last, put_within, put_behind, rising_set, rising_push, rising_insert}
use Rattle.rising_table.proofs.table.RisingTable.put.Goals as goal

-- the number was in the row, and its entry is written over
pub invariant_of-self : goal.invariant_of-self
invariant_of-self g c =
    rising_set c.self.inside.row.items c.self.invariant c.args.key c.in-Ok.place c.args.value (subst (λ es. IsAt es c.args.key c.in-Ok.place) c.deref.ensures.value c.in-Ok.ensures.found)

pub returns-in-Ok-clause-ok : goal.returns-in-Ok-clause-ok
returns-in-Ok-clause-ok g c =
    let there = subst (λ es. IsAt es c.args.key c.in-Ok.place) c.deref.ensures.value c.in-Ok.ensures.found in
    put_over c.self.inside.row.items c.self.inside.rest.entries c.args.self.now c.self.view_is c.args.key c.in-Ok.place c.args.value c.self.invariant there

-- the number is above all of the row, and is pushed
pub invariant_of-self-then-place-len : goal.invariant_of-self-then-place-len
invariant_of-self-then-place-len g c =
    let gap = subst (λ es. IsGapFor es c.args.key c.in-Err.place) c.deref.ensures.value c.in-Err.ensures.absent in
    subst (λ es. AreRising es) (sym c.in_ok-push-in-Err.ensures.items)
    (rising_push c.self.inside.row.items c.self.invariant c.args.key c.in-Err.place c.args.value gap (search (rules, c.if-place-len.true, c.len.ensures)))

pub returns-in_ok-push-in-Err-clause-ok : goal.returns-in_ok-push-in-Err-clause-ok
returns-in_ok-push-in-Err-clause-ok g c =
    let gap = subst (λ es. IsGapFor es c.args.key c.in-Err.place) c.deref.ensures.value c.in-Err.ensures.absent in
    put_last c.self.inside.row.items c.self.inside.rest.entries c.args.self.now c.self.view_is c.args.key c.in-Err.place c.args.value gap
    c.push.new.self.items c.in_ok-push-in-Err.ensures.items

-- the row is short, and takes it in its place
pub invariant_of-self-then-len-lt-SHORT : goal.invariant_of-self-then-len-lt-SHORT
invariant_of-self-then-len-lt-SHORT g c =
    let gap = subst (λ es. IsGapFor es c.args.key c.in-Err.place) c.deref.ensures.value c.in-Err.ensures.absent in
    subst (λ es. AreRising es) (sym c.in_ok-insert-in-Err-2.ensures.items)
    (rising_insert c.self.inside.row.items c.self.invariant c.args.key c.in-Err.place c.args.value gap)

pub returns-in_ok-insert-in-Err-2-clause-ok : goal.returns-in_ok-insert-in-Err-2-clause-ok
returns-in_ok-insert-in-Err-2-clause-ok g c =
    let gap = subst (λ es. IsGapFor es c.args.key c.in-Err.place) c.deref.ensures.value c.in-Err.ensures.absent in
    put_within c.self.inside.row.items c.self.inside.rest.entries c.args.self.now c.self.view_is c.args.key c.in-Err.place c.args.value gap
    c.insert.new.self.items c.in_ok-insert-in-Err-2.ensures.items

-- it isn't in the row, and goes into the rest
pub returns-in_ok-insert-in-Err-3-clause-ok : goal.returns-in_ok-insert-in-Err-3-clause-ok
returns-in_ok-insert-in-Err-3-clause-ok g c =
    let row = c.self.inside.row.items in
    let gap = subst (λ es. IsGapFor es c.args.key c.in-Err-3.field-0) c.deref.ensures.value c.in-Err-3.ensures.absent in
    put_behind row c.self.inside.rest.entries c.args.self.now c.self.view_is c.args.key c.in-Err-3.field-0 (Some c.args.value) gap
    c.insert-in-Err-3.new.self.entries c.in_ok-insert-in-Err-3.ensures.updates.0
