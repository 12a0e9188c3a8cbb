use Rattle.std.proofs.Common.{◌∙◌, ap₂, ℕ, Option, Some, None, if◌then◌else◌}
use Rattle.std.specs.Option.{option_or}
use Rattle.decoded_records.specs.Past.{names}
use Rattle.decoded_records.specs.Questions.{question_opened, question_returned, question_returned_lightly, question_finished}
use Rattle.decoded_records.specs.Loopbacks.{sender_loopback, receiver_loopback}
use Rattle.left_open.specs.Types.{DecodedRecord}
use Rattle.left_open.specs.Glue.{At, begins_at}
use Rattle.left_open.proofs.Stepping.{on_ok, unreturned_more, unfinished_more, unechoed_more, began_more}
use Rattle.left_open.proofs.watching.Watched.note.Goals as goal

pub returns : goal.returns
returns c =
    let e : DecodedRecord = c.args.event.now in
    on_ok c.note_lives.result
    (λ lives. record {
      questions = λ q.
          c.in_ok-note_question.ensures q
          ∙ ap₂ (λ (n : ℕ) o. if names q (question_opened e) then Some (n, 0) else if names q (question_returned e) then None else o) c.requires.number (c.requires.watched.questions q)
          ∙ unreturned_more q c.args.state.now e;
      unfinished = λ q.
          c.in_ok-note_unfinished.ensures q
          ∙ ap₂ (λ (n : ℕ) o. if names q (question_opened e) then Some (n, 0) else if names q (question_finished e) then None else if names q (question_returned_lightly e) then None else o)
          c.requires.number (c.requires.watched.unfinished q)
          ∙ unfinished_more q c.args.state.now e;
      loopbacks = λ i.
          c.in_ok-note_loopback.ensures i
          ∙ ap₂ (λ (n : ℕ) o. if names i (receiver_loopback e) then None else if names i (sender_loopback e) then Some (n, 0) else o) c.requires.number (c.requires.watched.loopbacks i)
          ∙ unechoed_more i c.args.state.now e;
      lives = λ i.
          lives i ∙ ap₂ (λ (n : ℕ) (o : Option At). option_or (begins_at n i c.args.state.now e) o) c.requires.number (c.requires.watched.lives i) ∙ began_more i c.args.state.now e;
    })
    c.note_lives.ensures
