use Rattle.std.proofs.Common.{sym, subst, ◌∷◌}
use Rattle.std.specs.Prelude.{Result, Ok, Err, OnErr}
use Rattle.vat_view.specs.Glue.ArrivalTables.{AreArrived}
use Rattle.vat_view.proofs.Importing.{arrivals_still}
use Rattle.vat_view.proofs.Keeping.{one_more}
use Rattle.number_tables.proofs.Raising.{if_ok}
use Rattle.vat_view.proofs.tables.all_tables.AllTables.tell.Goals as goal

if_err : {A E P Q : Type 0} (r : Result A E) → OnErr r P → (P → Q) → OnErr r Q
if_err (Ok x) p f = tt
if_err (Err e) p f = f p

pub returns-in-None-clause-ok : goal.returns-in-None-clause-ok
returns-in-None-clause-ok c = if_ok c.tell_others.result c.tell_others.ensures.ok (λ told before whole sound.
    let now = told before whole.3 (whole.0, whole.1) sound in (
      now.0,
      now.1,
      subst (λ a. AreArrived (c.args.event.now ∷ before) a) (sym c.tell_others.ensures.arrivals)
          (arrivals_still before c.args.event.now c.args.self.now.arrivals (sym c.in-None.ensures) whole.2),
      one_more before c.args.number c.args.event.now whole.3,
    ))

pub returns-in-None-clause-err : goal.returns-in-None-clause-err
returns-in-None-clause-err c = if_err c.tell_others.result c.tell_others.ensures.err (λ told before whole sound.
    let now = told before whole.3 (whole.0, whole.1) sound in (
      now.0,
      now.1,
      subst (λ a. AreArrived before a) (sym c.tell_others.ensures.arrivals) whole.2,
      whole.3,
    ))
