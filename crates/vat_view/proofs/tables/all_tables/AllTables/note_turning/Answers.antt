use Rattle.std.proofs.Common.{◌∙◌, ◌∷◌}
use Rattle.vat_view.specs.Glue.Kept.{AreKept}
use Rattle.decoded_records.specs.Glue.Parts.{field_path}
use Rattle.vat_view.proofs.Answering.{taken_from_known}
use Rattle.vat_view.proofs.Binding.{any_err}
use Rattle.vat_view.proofs.Keeping.{fits}
use Rattle.vat_view.proofs.Settled.{says_then, settled_same, turns_applied}
use Rattle.vat_view.proofs.Hopping.{calls_then}
use Rattle.vat_view.proofs.Promising.{resolves_after}
use Rattle.vat_view.proofs.Connecting.{connected_applied, says_itself}
use Rattle.vat_view.proofs.Ahead.{kept_views, ahead_refused, ahead_unlearned, ahead_applied, again_same}
use Rattle.vat_view.proofs.Standing.{asks_none}
use Rattle.vat_view.proofs.tables.all_tables.AllTables.note_turning.Goals as goal

pub returns-in_err-settling-clause-err : goal.returns-in_err-settling-clause-err
returns-in_err-settling-clause-err c = any_err c.from_residual.result (λ before place noted sound. noted)

pub returns-in_err-make_room-clause-err : goal.returns-in_err-make_room-clause-err
returns-in_err-make_room-clause-err c = any_err c.from_residual-in_err-make_room.result (λ before place noted sound. (
  noted.0,
  noted.1,
  settled_same before c.args.self.now.turns c.make_room.new.self c.make_room.ensures.same noted.2,
  noted.3,
  ahead_refused c.args.self.now.turns c.make_room.new.self c.make_room.ensures.same c.args.self.now.bound c.make_room.ensures.ahead noted.4,
))

pub returns-in_err-room_for-clause-err : goal.returns-in_err-room_for-clause-err
returns-in_err-room_for-clause-err c = any_err c.from_residual-in_err-room_for.result (λ before place noted sound. (
  noted.0,
  (λ i. c.room_for.ensures.same i ∙ noted.1 i),
  settled_same before c.args.self.now.turns c.make_room.new.self c.make_room.ensures.same noted.2,
  noted.3,
  ahead_refused c.args.self.now.turns c.make_room.new.self c.make_room.ensures.same c.args.self.now.bound c.make_room.ensures.ahead noted.4,
))

pub returns-in_err-apply_record-clause-err : goal.returns-in_err-apply_record-clause-err
returns-in_err-apply_record-clause-err c = any_err c.from_residual-in_err-apply_record.result (λ before place noted sound.
    let kept : AreKept before c.apply_record.new.questions c.apply_record.new.lives c.apply_record.new.bound c.apply_record.new.calls =
    c.in_err-apply_record.ensures.err before place noted.0 sound in (
      kept,
      (λ i. c.room_for.ensures.same i ∙ noted.1 i),
      settled_same before c.args.self.now.turns c.make_room.new.self c.make_room.ensures.same noted.2,
      noted.3,
      ahead_unlearned c.args.self.now.turns c.make_room.new.self c.make_room.ensures.same before c.args.self.now.bound
          c.apply_record.new.bound noted.0.tabled.bounds kept.tabled.bounds c.apply_record.ensures.ahead c.make_room.ensures.ahead noted.4,
    ))

pub returns-clause-ok : goal.returns-clause-ok
returns-clause-ok c = λ before place noted sound.
    let kept : AreKept (c.args.event.now ∷ before) c.apply_record.new.questions c.apply_record.new.lives c.apply_record.new.bound c.apply_record.new.calls =
    c.in_ok-apply_record.ensures.ok before place noted.0 sound in (
      kept_views (c.args.event.now ∷ before) c.apply_record.new.questions c.apply_record.new.lives c.apply_record.new.bound c.drop_ahead.new.self c.apply_record.new.calls c.drop_ahead.ensures.views kept,
      resolves_after before c.args.event.now c.room_for.new.self c.note_resolve.new.self (λ i. c.room_for.ensures.same i ∙ noted.1 i) c.promise_resolved-promise.result
          c.promise_resolved-promise.ensures c.args.number place c.note_resolve.ensures,
      turns_applied before c.args.event.now c.args.number c.in_ok-settling.settling c.args.self.now.questions c.args.self.now.lives
          c.args.self.now.bound c.args.self.now.turns c.drop_calls_ahead.new.self c.note.new.self place (fits before c.args.event.now sound) noted.0.tabled noted.2
          c.in_ok-settling.ensures.settled
          (c.in_ok-settling.ensures.by
          ∙ taken_from_known before c.args.self.now.questions c.args.self.now.lives c.args.self.now.bound c.args.self.now.calls noted.0 c.args.event.now)
          (λ v h. c.in_ok-settling.ensures.turned (field_path v)) (says_then c.args.self.now.turns c.make_room.new.self c.drop_calls_ahead.new.self c.make_room.ensures.same c.drop_calls_ahead.ensures.same) c.note.ensures,
      connected_applied before c.args.event.now c.args.self.now.connections c.args.self.now.connections c.args.self.now.connections
          (says_itself c.args.self.now.connections) (asks_none c.args.self.now.connections c.args.event.now c.requires) noted.3,
      ahead_applied before c.args.event.now c.args.number c.in_ok-settling.settling c.args.self.now.turns
          c.drop_calls_ahead.new.self c.note.new.self
          (says_then c.args.self.now.turns c.make_room.new.self c.drop_calls_ahead.new.self c.make_room.ensures.same c.drop_calls_ahead.ensures.same) c.note.ensures c.args.self.now.bound
          c.apply_record.new.bound c.drop_ahead.new.self c.has-again.result
          (again_same c.make_room.new.self c.drop_calls_ahead.new.self c.in_ok-settling.settling.settled c.has-again.result c.drop_calls_ahead.ensures.same c.has-again.ensures)
          sound.refers noted.0.tabled.bounds kept.tabled.bounds c.drop_ahead.ensures.views c.apply_record.ensures.ahead c.drop_ahead.ensures.ahead c.drop_ahead.ensures.own
          (calls_then c.args.self.now.turns.handovers c.make_room.new.self.handovers c.drop_calls_ahead.new.self.handovers c.make_room.ensures.ahead c.drop_calls_ahead.ensures.ahead)
          c.drop_calls_ahead.ensures.own noted.4,
    )
