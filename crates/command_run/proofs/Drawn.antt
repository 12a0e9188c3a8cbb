-- Answers of a case that was drawn.
use Rattle.std.proofs.Common.{◌≡◌, ◌∙◌, ℕ, List, Option, None, Ok, Err, option_map, refl, sym, ap, subst, inl, inr}
use Rattle.run_model.specs.declared.step.Step.{Step}
use Rattle.case_book.specs.Case.{Contents}
use Rattle.audit_core.specs.Explained.{HasNoRun}
use Rattle.audit_core.specs.Report.{IsReport}
use Rattle.case_report.specs.declared.report.Breach.TheVariants.{Order}
use Rattle.case_report.specs.declared.report.Report.{Report as ReportOf}
use Rattle.case_report.specs.declared.report.Report.TheVariants.{Vat}
use Rattle.case_files.specs.CaseReading.{ComesOfCase, Reads}
use Rattle.case_files.specs.declared.case_fault.CaseFault.{CaseFault}
use Rattle.case_files.specs.declared.case_fault.CaseFault.TheVariants as fault
use Rattle.picture.specs.Page.{drawn_text}
use Rattle.picture.specs.Picture.{IsPictureOf}
use Rattle.picture.specs.declared.drawing.Picture.{Picture}
use Rattle.picture.specs.declared.window.Asked.{Asked}
use Rattle.report_lines.specs.declared.answer.Answer.{Answer}
use Rattle.report_lines.specs.declared.answer.Answer.TheVariants.{Fault}
use Rattle.report_lines.specs.declared.fault.Fault.{Fault as FaultOf}
use Rattle.report_lines.specs.Faults.{of_case}
use Rattle.report_lines.specs.Lines.{answer_status, answer_text, line}
use Rattle.command_run.specs.declared.answering.FileAnswer.{FileAnswer}
use Rattle.command_run.specs.DrawAnswers.{AnswersDraw, IsDrawing, IsRunFor}
use Rattle.command_run.specs.Glue.{ComesDrawn}

-- where the report names the order of calls there is a run
pub has_run : (held : Contents) (given : Option (List ℕ)) (vat at : ℕ) → IsReport held given (Vat vat at Order) → HasNoRun held → ⊥
has_run held given vat at is none = none is.0 is.1.order is.1.fits

-- another report names no order of calls
abbrev pub IsNoOrder : ReportOf → Type 0
IsNoOrder report = (vat at : ℕ) → report ≡ Vat vat at Order → ⊥

-- the bytes of a picture or page, whose case and steps were lent
pub drawing_of : (held lent : Contents) (order : List ℕ) (report : ReportOf) (asked : Asked) (run steps : List Step) (picture : Picture) (bytes text : List ℕ)
    → IsRunFor held.logs report run → steps ≡ run → lent ≡ held → IsPictureOf lent order report steps asked picture → bytes ≡ text → text ≡ drawn_text asked.page picture
    → IsDrawing held order report asked bytes
drawing_of held lent order report asked run steps picture bytes text is_run lent_run lent_case is_picture same text_is = (
  steps,
  (
    picture,
    subst (λ (s : List Step). IsRunFor held.logs report s) (sym lent_run) is_run,
    subst (λ (h : Contents). IsPictureOf h order report steps asked picture) lent_case is_picture,
    same ∙ text_is,
  ),
)

module _ {S : Type 0} (asked : Asked) (gives : Reads S) (old new : S) (name : List ℕ) where
  -- the line, the status and the bytes of an answer
  abbrev Answers : Answer → Option (List ℕ) → Type 0
  Answers answer bytes = AnswersDraw asked gives old name (line (answer_text answer)) (answer_status answer) bytes new

  -- its report and its picture
  pub drawn : (made : FileAnswer) → ComesDrawn asked gives old name (Ok made) new → Answers made.answer (option_map (λ bytes. bytes) made.bytes)
  drawn made comes =
      let parts = comes.1.1 in
      let same = parts.2 in
      inl (
        Ok comes.0,
        (parts.0, (comes.1.0, (parts.1, (ap (λ (a : Answer). line (answer_text a)) same, ap (λ (a : Answer). answer_status a) same), parts.3))),
      )

  -- a fault of the case, or memory ran out
  faulty : (found : CaseFault) → ComesOfCase gives old name (Err found) new → Answers (Fault (of_case found)) None
  faulty fault.OutOfMemory comes = inr ((refl, refl), refl)
  faulty fault.CannotRead comes = inl (Err fault.CannotRead, (comes, ((λ e. cc), (refl, refl), refl)))
  faulty fault.Form comes = inl (Err fault.Form, (comes, ((λ e. cc), (refl, refl), refl)))
  faulty (fault.Log x) comes = inl (Err (fault.Log x), (comes, ((λ e. cc), (refl, refl), refl)))
  faulty (fault.Order x) comes = inl (Err (fault.Order x), (comes, ((λ e. cc), (refl, refl), refl)))
  faulty (fault.Refused x) comes = inl (Err (fault.Refused x), (comes, ((λ e. cc), (refl, refl), refl)))
  faulty (fault.Untied x) comes = inl (Err (fault.Untied x), (comes, ((λ e. cc), (refl, refl), refl)))

  pub undrawn : (found : FaultOf) → ComesDrawn asked gives old name (Err found) new → Answers (Fault found) None
  undrawn found (inl memory) = subst (λ (f : FaultOf). Answers (Fault f) None) (sym memory) (inr ((refl, refl), refl))
  undrawn found (inr (of, (comes, is))) = subst (λ (f : FaultOf). Answers (Fault f) None) (sym is) (faulty of comes)
