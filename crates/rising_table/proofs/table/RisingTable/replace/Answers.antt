use Rattle.std.proofs.Common.{◌≡◌, ◌∙◌, sym, subst, ap, Some, ◌++◌, ℕ, length, set, if◌then◌else◌, rules}
use Rattle.std.specs.Ordering.{nat_cmp, is_eq}
use Rattle.rising_table.specs.Entries.{entry_at}
use Rattle.rising_table.specs.Glue.{IsAt, IsGapFor, AreRising}
use Rattle.rising_table.proofs.Changing.{Puts, found_so, missed_so, had_over, had_behind, put_over, put_behind, same_whole, same_long, rising_set}
use Rattle.rising_table.proofs.table.RisingTable.replace.Goals as goal
use Rattle.rising_table.proofs.table.RisingTable.replace.Goals.{in-Some, in-None}

-- the number was in the row
pub invariant_of-self : goal.invariant_of-self
invariant_of-self g c =
    let there = subst (λ es. IsAt es c.args.key c.in-Ok.place) c.deref.ensures.value c.in-Ok.ensures.found in
    subst (λ e. AreRising (set c.self.inside.row.items c.in-Ok.place e)) (sym c.replace-last.ensures.after)
    (rising_set c.self.inside.row.items c.self.invariant c.args.key c.in-Ok.place c.args.value there)

pub returns-in-Ok-clause-last : goal.returns-in-Ok-clause-last
returns-in-Ok-clause-last g c =
    let there = subst (λ es. IsAt es c.args.key c.in-Ok.place) c.deref.ensures.value c.in-Ok.ensures.found in
    ap (λ e. Some e.1) c.replace-last.ensures.value
    ∙ sym (
    had_over c.self.inside.row.items c.self.inside.rest.entries c.args.self.now c.self.view_is c.args.key c.in-Ok.place c.index_mut.result.now c.self.invariant there
    c.index_mut.ensures.value)

pub returns-in-Ok-clause-values : goal.returns-in-Ok-clause-values
returns-in-Ok-clause-values g c =
    let there = subst (λ es. IsAt es c.args.key c.in-Ok.place) c.deref.ensures.value c.in-Ok.ensures.found in
    subst (λ e. Puts c.args.self.now (set c.self.inside.row.items c.in-Ok.place e ++ c.self.inside.rest.entries) c.args.key (Some c.args.value)) (sym c.replace-last.ensures.after)
    (put_over c.self.inside.row.items c.self.inside.rest.entries c.args.self.now c.self.view_is c.args.key c.in-Ok.place c.args.value c.self.invariant there)

-- it was behind the row, or nowhere
pub returns-after-get_mut-clause-last : goal.returns-after-get_mut-clause-last
returns-after-get_mut-clause-last g c =
    let gap = subst (λ es. IsGapFor es c.args.key c.in-Err.field-0) c.deref.ensures.value c.in-Err.ensures.absent in
    let behind = had_behind c.self.inside.row.items c.self.inside.rest.entries c.args.self.now c.self.view_is c.args.key c.in-Err.field-0 gap in
    elim c.match-get_mut.branch [
      | in-Some w ↦ w.result-is ∙ ap (λ v. Some v) w.replace.ensures.value ∙ w.in-Some.ensures.value ∙ sym behind
      | in-None w ↦ w.result-is ∙ w.in-None.ensures.value ∙ sym behind
    ]

pub returns-after-get_mut-clause-values : goal.returns-after-get_mut-clause-values
returns-after-get_mut-clause-values g c =
    let row = c.self.inside.row.items in
    let gap = subst (λ es. IsGapFor es c.args.key c.in-Err.field-0) c.deref.ensures.value c.in-Err.ensures.absent in
    elim c.match-get_mut.branch [
      | in-Some w ↦
          let more = (c.get_mut.follows.lender w.replace.new.dest).entries in
          let written =
          subst (λ v. (q : ℕ) → entry_at more q ≡ (if is_eq (nat_cmp c.args.key q) then Some v else entry_at c.self.inside.rest.entries q)) w.replace.ensures.after
          ((c.get_mut.follows.holds w.replace.new.dest).3 (search (rules, w.in-Some.ensures.value))).0
          in
          found_so c.args.self.now c.match-get_mut.self-inside.row.items c.match-get_mut.self-inside.rest.entries c.args.key c.args.value c.match-get_mut.result w.replace.result w.result-is
          (subst (λ s. Puts c.args.self.now (s.row.items ++ s.rest.entries) c.args.key (Some c.args.value)) (sym w.self-inside-is)
          (put_behind row c.self.inside.rest.entries c.args.self.now c.self.view_is c.args.key c.in-Err.field-0 (Some c.args.value) gap more written))
      | in-None w ↦
          missed_so c.args.self.now c.match-get_mut.self-inside.row.items c.match-get_mut.self-inside.rest.entries c.args.key c.args.value c.match-get_mut.result w.result-is
          (subst (λ s. s.row.items ++ s.rest.entries ≡ c.args.self.now) (sym w.self-inside-is)
          (same_whole row c.self.inside.rest.entries c.args.self.now c.self.view_is c.args.key c.in-Err.field-0 c.get_mut.follows.lender-at-none.entries
          (ap (λ m. m.entries) c.get_mut.follows.holds-at-none)))
    ]

pub returns-after-get_mut-clause-len : goal.returns-after-get_mut-clause-len
returns-after-get_mut-clause-len g c =
    let long = same_long c.self.inside.row.items c.self.inside.rest.entries c.args.self.now c.self.view_is c.args.key c.in-Err.field-0 in
    elim c.match-get_mut.branch [
      | in-Some w ↦
          subst (λ s. length (s.row.items ++ s.rest.entries) ≡ length c.args.self.now) (sym w.self-inside-is)
          (long (c.get_mut.follows.lender w.replace.new.dest).entries (c.get_mut.follows.holds w.replace.new.dest).2)
      | in-None w ↦
          subst (λ s. length (s.row.items ++ s.rest.entries) ≡ length c.args.self.now) (sym w.self-inside-is)
          (long c.get_mut.follows.lender-at-none.entries (ap (λ m. length m.entries) c.get_mut.follows.holds-at-none))
    ]
