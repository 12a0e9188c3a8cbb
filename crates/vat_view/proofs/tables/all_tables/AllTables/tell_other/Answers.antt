use Rattle.std.proofs.Common.{◌≡◌, sym, subst, true}
use Rattle.vat_view.specs.Glue.Tables.{bound_at}
use Rattle.number_tables.specs.Glue.QuestionTables.{question_at}
use Rattle.vat_view.specs.Glue.Queues.{has_joined}
use Rattle.vat_view.specs.Glue.LoopTables.{queued_by, AreWaiting}
use Rattle.vat_view.proofs.Binding.{any_err}
use Rattle.vat_view.proofs.Looping.{waits_same, waits_after, changes_calls}
use Rattle.vat_view.proofs.tables.all_tables.AllTables.tell_other.Goals as goal

pub returns-in_err-expect-clause-err : goal.returns-in_err-expect-clause-err
returns-in_err-expect-clause-err c = any_err c.from_residual.result (λ before place whole sound. (
  whole.0,
  waits_same before c.args.self.now.waits c.expect.new.self c.expect.ensures.same whole.1,
))

pub returns-in_err-note-clause-err : goal.returns-in_err-note-clause-err
returns-in_err-note-clause-err c = any_err c.from_residual-in_err-note.result (λ before place whole sound.
    let noted = c.in_err-note.ensures.err before place whole.0 sound in (
      noted,
      subst (λ w. AreWaiting before w) (sym c.note.ensures.waits)
          (waits_same before c.args.self.now.waits c.expect.new.self c.expect.ensures.same whole.1),
    ))

pub returns-clause-ok : goal.returns-clause-ok
returns-clause-ok c = λ before place whole sound.
    let noted = c.in_ok-note.ensures.ok before place whole.0 sound in (
      noted,
      waits_after before c.args.self.now.questions c.args.self.now.lives c.args.self.now.bound c.args.self.now.calls whole.0.0 c.args.event.now sound.refers c.args.number place _
          (changes_calls (bound_at c.args.self.now.bound) c.args.self.now.lives (question_at c.args.self.now.questions) c.args.number c.args.event.now c.requires c.call_taken_by-taken.result c.call_taken_by-taken.ensures)
          c.note.new.self.waits c.note-2.new.self
          (subst (λ w. AreWaiting before w) (sym c.note.ensures.waits)
          (waits_same before c.args.self.now.waits c.expect.new.self c.expect.ensures.same whole.1))
          (subst (λ w. has_joined w.inbox (queued_by (bound_at c.args.self.now.bound) c.args.self.now.lives (question_at c.args.self.now.questions) c.args.number c.args.event.now) ≡ true)
          (sym c.note.ensures.waits) c.in_ok-expect.ensures.joins)
          c.note-2.ensures,
    )
