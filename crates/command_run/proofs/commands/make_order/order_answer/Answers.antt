use Rattle.std.proofs.Common.{ℕ, List, None, Err, refl, inl, inr}
use Rattle.case_files.specs.CaseReading.{ComesOfCase, Reads}
use Rattle.case_files.specs.declared.case_fault.CaseFault.{CaseFault}
use Rattle.case_files.specs.declared.case_fault.CaseFault.TheVariants as fault
use Rattle.report_lines.specs.declared.answer.Answer.TheVariants.{Fault}
use Rattle.report_lines.specs.Faults.{of_case}
use Rattle.report_lines.specs.Lines.{answer_status, answer_text, line}
use Rattle.command_run.specs.CommandAnswers.{AnswersOrder}
use Rattle.command_run.proofs.commands.make_order.order_answer.Goals as goal

-- a fault of a case answers it, or memory ran out
faulty : {S : Type 0} (gives : Reads S) (old new : S) (name : List ℕ) (found : CaseFault) → ComesOfCase gives old name (Err found) new
    → AnswersOrder gives old name (line (answer_text (Fault (of_case found)))) (answer_status (Fault (of_case found))) None new
faulty gives old new name fault.OutOfMemory comes = inr ((refl, refl), refl)
faulty gives old new name fault.CannotRead comes = inl (Err fault.CannotRead, (comes, ((λ e. cc), (refl, refl), refl)))
faulty gives old new name fault.Form comes = inl (Err fault.Form, (comes, ((λ e. cc), (refl, refl), refl)))
faulty gives old new name (fault.Log x) comes = inl (Err (fault.Log x), (comes, ((λ e. cc), (refl, refl), refl)))
faulty gives old new name (fault.Order x) comes = inl (Err (fault.Order x), (comes, ((λ e. cc), (refl, refl), refl)))
faulty gives old new name (fault.Refused x) comes = inl (Err (fault.Refused x), (comes, ((λ e. cc), (refl, refl), refl)))
faulty gives old new name (fault.Untied x) comes = inl (Err (fault.Untied x), (comes, ((λ e. cc), (refl, refl), refl)))

pub returns-in-Err : goal.returns-in-Err
returns-in-Err g c =
    rw (c.of_fault.ensures.answer, c.of_fault.ensures.bytes, c.from.ensures)
    (faulty g.S.Source.read_gives c.args.source.now c.read_case.new.source c.args.name.now c.in-Err.fault c.in-Err.ensures)
