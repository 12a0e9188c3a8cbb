use Rattle.std.proofs.Common.{inl, inr, refl}
use Rattle.command_run.proofs.commands.join_logs.answer_of_logs.Goals as goal
use Rattle.command_run.proofs.commands.join_logs.answer_of_logs.Goals.{in-Joined+in_ok-joined_answer-in-Joined, in-Unmatched, in-Ambiguous}

pub returns : goal.returns
returns g c = inr (inl (
  c.in_ok-pairs.field-0,
  (
    c.in_ok-pairs.ensures,
    elim c.match-branch-2.branch [
      | in-Joined+in_ok-joined_answer-in-Joined w ↦ rw (w.in-Joined.is, w.result-is) (rw w.deref.ensures.value at w.in_ok-joined_answer-in-Joined.ensures)
      | in-Unmatched w ↦ rw (w.in-Unmatched.is, w.result-is, w.line_answer.ensures.answer, w.line_answer.ensures.folder) ((w.vat_of.result, (w.vat_of.ensures, (refl, refl))), refl)
      | in-Ambiguous w ↦ rw (w.in-Ambiguous.is, w.result-is, w.line_answer-in-Ambiguous.ensures.answer, w.line_answer-in-Ambiguous.ensures.folder) ((w.vat_of-in-Ambiguous.result, (w.vat_of-in-Ambiguous.ensures, (refl, refl))), refl)
    ],
  ),
))
