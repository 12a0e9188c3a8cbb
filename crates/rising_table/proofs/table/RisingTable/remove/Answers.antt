use Rattle.std.proofs.Common.{◌≡◌, sym, subst, None, ◌++◌, ℕ, if◌then◌else◌}
use Rattle.std.specs.Ordering.{nat_cmp, is_eq}
use Rattle.rising_table.specs.Entries.{entry_at}
use Rattle.rising_table.specs.Glue.{IsAt, IsGapFor, AreRising}
use Rattle.rising_table.proofs.Changing.{Puts, taken_over, put_behind, rising_remove}
use Rattle.rising_table.proofs.table.RisingTable.remove.Goals as goal
use Rattle.rising_table.proofs.table.RisingTable.remove.Goals.{in-Ok, in_default}

-- the row without the entry, or as it was
pub invariant_of-self : goal.invariant_of-self
invariant_of-self g c =
    elim c.match-search.branch [
      | in-Ok w ↦
          subst (λ s. AreRising s.row.items) (sym w.self-inside-is)
          (subst (λ es. AreRising es) (sym w.remove.ensures.items) (rising_remove c.self.inside.row.items c.self.invariant w.in-Ok.place))
      | in_default w ↦ subst (λ s. AreRising s.row.items) (sym w.self-inside-is) c.self.invariant
    ]

-- and so the rest
pub returns : goal.returns
returns g c =
    let left = c.remove-2.new.self.entries in
    elim c.match-search.branch [
      | in-Ok w ↦
          let there = subst (λ es. IsAt es c.args.key w.in-Ok.place) c.deref.ensures.value w.in-Ok.ensures.found in
          subst
          (λ s. ((q : ℕ) → entry_at left q ≡ (if is_eq (nat_cmp c.args.key q) then None else entry_at s.rest.entries q)) → Puts c.args.self.now (s.row.items ++ left) c.args.key None)
          (sym w.self-inside-is)
          (taken_over c.self.inside.row.items c.self.inside.rest.entries c.args.self.now c.self.view_is c.args.key w.in-Ok.place c.self.invariant there
          w.remove.new.self.items w.remove.ensures.items left) c.remove-2.ensures.updates.0
      | in_default w ↦
          let gap = subst (λ es. IsGapFor es c.args.key w.in_default.field-0) c.deref.ensures.value w.in_default.ensures.absent in
          subst
          (λ s. ((q : ℕ) → entry_at left q ≡ (if is_eq (nat_cmp c.args.key q) then None else entry_at s.rest.entries q)) → Puts c.args.self.now (s.row.items ++ left) c.args.key None)
          (sym w.self-inside-is)
          (put_behind c.self.inside.row.items c.self.inside.rest.entries c.args.self.now c.self.view_is c.args.key w.in_default.field-0 None gap left)
          c.remove-2.ensures.updates.0
    ]
