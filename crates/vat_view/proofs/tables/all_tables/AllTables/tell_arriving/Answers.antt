use Rattle.std.proofs.Common.{sym, ◌∙◌, ap, subst, ◌==◌, ◌∷◌, false, None, map, if◌then◌else◌}
use Rattle.decoded_records.specs.Lives.{descriptors}
use Rattle.vat_view.specs.Connections.{brings_back}
use Rattle.vat_view.specs.Glue.ArrivalTables.{hosted_in, brought_over, arrival_at, back_at, AreArrived}
use Rattle.vat_view.proofs.Binding.{any_err}
use Rattle.vat_view.proofs.Importing.{arrivals_after, arrivals_forgotten}
use Rattle.vat_view.proofs.Keeping.{one_more}
use Rattle.vat_view.proofs.Learning.{err_gives}
use Rattle.number_tables.proofs.Raising.{ok_gives}
use Rattle.vat_view.proofs.tables.all_tables.AllTables.tell_arriving.Goals as goal

pub returns-in_err-put-clause-err : goal.returns-in_err-put-clause-err
returns-in_err-put-clause-err c = any_err c.from_residual.result (λ before whole sound. (
  whole.0,
  whole.1,
  subst (λ a. AreArrived before a) (sym c.in_err-put.ensures.err) whole.2,
  whole.3,
))

pub returns-clause-ok : goal.returns-clause-ok
returns-clause-ok c = λ before whole sound.
    let told = ok_gives c.tell_others.result (sym c.is_err.ensures.value ∙ c.if-is_err.false) c.tell_others.ensures.ok before whole.3 (whole.0, whole.1) sound in (
      told.0,
      told.1,
      subst (λ a. AreArrived (c.args.event.now ∷ before) a) (sym c.tell_others.ensures.arrivals)
          (arrivals_after before c.args.event.now c.args.self.now.arrivals c.put.new.self c.args.number c.args.connection whole.3 c.requires
          c.in_ok-put.ensures.imports c.in_ok-put.ensures.back whole.2),
      one_more before c.args.number c.args.event.now whole.3,
    )

pub returns-then-is_err-clause-err : goal.returns-then-is_err-clause-err
returns-then-is_err-clause-err c = λ before whole sound.
    let told = err_gives c.tell_others.result (sym c.is_err.ensures.value ∙ c.if-is_err.true) c.tell_others.ensures.err before whole.3 (whole.0, whole.1) sound in (
      told.0,
      told.1,
      arrivals_forgotten before c.args.self.now.arrivals c.put.new.self c.forget.new.self c.args.number
          (λ p. brought_over c.args.connection (map hosted_in (descriptors c.args.event.now)) p) (λ path. brings_back path c.args.event.now) whole.3
          c.in_ok-put.ensures.imports c.in_ok-put.ensures.back
          (λ n p. c.forget.ensures.imports n p ∙ ap (λ a. if c.args.number == n then None else arrival_at a n p) c.tell_others.ensures.arrivals)
          (λ n path. c.forget.ensures.back n path ∙ ap (λ a. if c.args.number == n then false else back_at a n path) c.tell_others.ensures.arrivals) whole.2,
      whole.3,
    )
