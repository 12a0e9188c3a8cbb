use Rattle.std.proofs.Common.{sym, subst, refl}
use Rattle.vat_view.specs.Glue.Tables.{bound_at}
use Rattle.number_tables.specs.Glue.QuestionTables.{question_at}
use Rattle.vat_view.specs.Glue.LoopTables.{AreWaiting}
use Rattle.vat_view.proofs.Binding.{any_err}
use Rattle.vat_view.proofs.Looping.{waits_same, waits_after, changes_loopbacks, queues_nothing}
use Rattle.vat_view.proofs.tables.all_tables.AllTables.tell_loopback.Goals as goal

pub returns-in_err-looped-clause-err : goal.returns-in_err-looped-clause-err
returns-in_err-looped-clause-err c = any_err c.from_residual.result (λ before place whole sound. whole)

pub returns-in_err-room_for-clause-err : goal.returns-in_err-room_for-clause-err
returns-in_err-room_for-clause-err c = any_err c.from_residual-in_err-room_for.result (λ before place whole sound. (
  whole.0,
  waits_same before c.args.self.now.waits (record { loopbacks = c.room_for.new.self; inbox = c.args.self.now.waits.inbox })
      (record { looped = c.room_for.ensures.same; received = λ call. refl; queued = λ q h. h }) whole.1,
))

pub returns-in_err-note-clause-err : goal.returns-in_err-note-clause-err
returns-in_err-note-clause-err c = any_err c.from_residual-in_err-note.result (λ before place whole sound.
    let noted = c.in_err-note.ensures.err before place whole.0 sound in (
      noted,
      subst (λ w. AreWaiting before w) (sym c.note.ensures.waits)
          (waits_same before c.args.self.now.waits (record { loopbacks = c.room_for.new.self; inbox = c.args.self.now.waits.inbox })
          (record { looped = c.room_for.ensures.same; received = λ call. refl; queued = λ q h. h }) whole.1),
    ))

pub returns-clause-ok : goal.returns-clause-ok
returns-clause-ok c = λ before place whole sound.
    let noted = c.in_ok-note.ensures.ok before place whole.0 sound in (
      noted,
      waits_after before c.args.self.now.questions c.args.self.now.lives c.args.self.now.bound c.args.self.now.calls whole.0.0 c.args.event.now sound.refers c.args.number place _
          (changes_loopbacks (bound_at c.args.self.now.bound) c.args.self.now.lives (question_at c.args.self.now.questions) c.args.number c.args.event.now c.requires c.in_ok-looped.looped c.in_ok-looped.ensures)
          c.note.new.self.waits c.begin.new.self
          (subst (λ w. AreWaiting before w) (sym c.note.ensures.waits)
          (waits_same before c.args.self.now.waits (record { loopbacks = c.room_for.new.self; inbox = c.args.self.now.waits.inbox })
          (record { looped = c.room_for.ensures.same; received = λ call. refl; queued = λ q h. h }) whole.1))
          (queues_nothing (bound_at c.args.self.now.bound) c.args.self.now.lives (question_at c.args.self.now.questions) c.args.number c.args.event.now c.requires c.note.new.self.waits.inbox)
          c.begin.ensures,
    )
