use Rattle.vat_rules.proofs.taking.apply_good.Goals as goal

pub apply-requires-clause-refers : goal.apply-requires-clause-refers
apply-requires-clause-refers c = c.requires.refers

pub apply-requires-clause-uses : goal.apply-requires-clause-uses
apply-requires-clause-uses c = c.requires.uses_questions

pub apply-requires-clause-numbers : goal.apply-requires-clause-numbers
apply-requires-clause-numbers c = c.requires.uses_numbers

pub apply-requires-clause-gives : goal.apply-requires-clause-gives
apply-requires-clause-gives c = c.requires.gives_back_held

pub apply-requires-clause-notes : goal.apply-requires-clause-notes
apply-requires-clause-notes c = c.requires.notes_each
