use Rattle.std.proofs.Common.{inl, refl, ◌∙◌, ◌∷◌, false}
use Rattle.std.proofs.lemmas.Bool.{false≢true}
use Rattle.vat_view.specs.Glue.Kept.{AreKept}
use Rattle.vat_view.specs.Glue.Tables.{bound_at}
use Rattle.number_tables.specs.Glue.QuestionTables.{question_at}
use Rattle.vat_view.proofs.Answering.{taken_from_known}
use Rattle.vat_view.proofs.Binding.{any_err}
use Rattle.vat_view.proofs.Keeping.{fits}
use Rattle.vat_view.proofs.Settled.{turns_applied}
use Rattle.vat_view.proofs.Promising.{resolves_after}
use Rattle.vat_view.proofs.Connecting.{connected_same, connected_applied}
use Rattle.vat_view.proofs.Ahead.{ahead_unlearned, ahead_applied}
use Rattle.vat_view.proofs.Standing.{settles_none, takes_none, resolves_none, nothing_settled, still_turned, says_still, noted_still}
use Rattle.vat_view.proofs.tables.all_tables.AllTables.note_still.Goals as goal

pub returns-in_err-grow_for-clause-err : goal.returns-in_err-grow_for-clause-err
returns-in_err-grow_for-clause-err c = any_err c.from_residual.result (λ before place noted sound. (
  noted.0,
  noted.1,
  noted.2,
  connected_same before c.args.self.now.connections c.grow_for.new.self
      (record { asked = c.grow_for.ensures.asked; aborted = c.grow_for.ensures.aborted; aborted_here = c.grow_for.ensures.aborted_here }) noted.3,
  noted.4,
))

pub returns-in_err-apply_record-clause-err : goal.returns-in_err-apply_record-clause-err
returns-in_err-apply_record-clause-err c = any_err c.from_residual-in_err-apply_record.result (λ before place noted sound.
    let kept : AreKept before c.apply_record.new.questions c.apply_record.new.lives c.apply_record.new.bound c.apply_record.new.calls =
    c.in_err-apply_record.ensures.err before place noted.0 sound in (
      kept,
      noted.1,
      noted.2,
      connected_same before c.args.self.now.connections c.grow_for.new.self
          (record { asked = c.grow_for.ensures.asked; aborted = c.grow_for.ensures.aborted; aborted_here = c.grow_for.ensures.aborted_here }) noted.3,
      ahead_unlearned c.args.self.now.turns c.args.self.now.turns (says_still c.args.self.now.turns) before c.args.self.now.bound
          c.apply_record.new.bound noted.0.tabled.bounds kept.tabled.bounds c.apply_record.ensures.ahead (λ n q h. inl h) noted.4,
    ))

pub returns-clause-ok : goal.returns-clause-ok
returns-clause-ok c = λ before place noted sound.
    let kept : AreKept (c.args.event.now ∷ before) c.apply_record.new.questions c.apply_record.new.lives c.apply_record.new.bound c.apply_record.new.calls =
    c.in_ok-apply_record.ensures.ok before place noted.0 sound in (
      kept,
      resolves_after before c.args.event.now c.args.self.now.resolves c.args.self.now.resolves noted.1 _
          (resolves_none c.args.event.now c.requires) c.args.number place (λ i. refl),
      turns_applied before c.args.event.now c.args.number nothing_settled c.args.self.now.questions c.args.self.now.lives
          c.args.self.now.bound c.args.self.now.turns c.args.self.now.turns c.args.self.now.turns place (fits before c.args.event.now sound) noted.0.tabled noted.2
          (settles_none (bound_at c.args.self.now.bound) c.args.self.now.lives (question_at c.args.self.now.questions) c.args.event.now c.requires)
          (takes_none (question_at c.args.self.now.questions) c.args.event.now c.requires
          ∙ taken_from_known before c.args.self.now.questions c.args.self.now.lives c.args.self.now.bound c.args.self.now.calls noted.0 c.args.event.now)
          (still_turned c.args.event.now) (says_still c.args.self.now.turns) (noted_still c.args.number c.args.self.now.turns),
      connected_applied before c.args.event.now c.args.self.now.connections c.grow_for.new.self c.note_event.new.self
          (record { asked = c.grow_for.ensures.asked; aborted = c.grow_for.ensures.aborted; aborted_here = c.grow_for.ensures.aborted_here })
          (record { asked = c.note_event.ensures.asked; aborted = c.note_event.ensures.aborted; aborted_here = c.note_event.ensures.aborted_here }) noted.3,
      ahead_applied before c.args.event.now c.args.number nothing_settled c.args.self.now.turns
          c.args.self.now.turns c.args.self.now.turns
          (says_still c.args.self.now.turns) (noted_still c.args.number c.args.self.now.turns) c.args.self.now.bound
          c.apply_record.new.bound c.apply_record.new.bound false refl
          sound.refers noted.0.tabled.bounds kept.tabled.bounds (λ r. refl) c.apply_record.ensures.ahead (λ r q h. inl h) (λ so. absurd (false≢true so))
          (λ n q h. inl h) (λ so. absurd (false≢true so)) noted.4,
    )
