-- The line, the exit status and the bytes for the file that answer a case that is drawn.
use Rattle.std.specs.Prelude.{◌≡◌, ◌≢◌, ◌⊎◌, ℕ, List, [], Option, Some, None, Result, Ok, Err}
use Rattle.vat_log.specs.Log.{Log}
use Rattle.run_model.specs.declared.step.Step.{Step}
use Rattle.case_book.specs.Case.{Contents}
use Rattle.audit_core.specs.Explained.{AreExplained}
use Rattle.audit_core.specs.Report.{IsReport}
use Rattle.case_report.specs.declared.report.Breach.TheVariants.{Order}
use Rattle.case_report.specs.declared.report.Report.{Report as ReportOf}
use Rattle.case_report.specs.declared.report.Report.TheVariants.{Vat}
use Rattle.case_files.specs.CaseReading.{ComesOfCase, Reads}
use Rattle.case_files.specs.declared.case_fault.CaseFault.{CaseFault}
use Rattle.case_files.specs.declared.case_fault.CaseFault.TheVariants as fault
use Rattle.case_files.specs.declared.case_reading.ReadCase.{ReadCase}
use Rattle.picture.specs.Page.{drawn_text}
use Rattle.picture.specs.Picture.{IsPictureOf, arranged}
use Rattle.picture.specs.declared.drawing.Picture.{Picture}
use Rattle.picture.specs.declared.window.Asked.{Asked}
use Rattle.report_lines.specs.declared.answer.Answer.TheVariants.{Fault, Report}
use Rattle.report_lines.specs.Faults.{of_case}
use Rattle.report_lines.specs.Lines.{SaysAnswer}
use Rattle.command_run.specs.CommandAnswers.{IsOutOfMemory}

-- The steps by which calls of one reference are found: those of a run of the logs, where the report names the order of calls;
-- beside another report none are marked.
abbrev pub IsRunFor : List Log → ReportOf → List Step → Type 0
IsRunFor logs (Vat vat at Order) steps = AreExplained logs steps
IsRunFor logs report steps = steps ≡ []

-- bytes are the text of the picture of a case, or of a page with it, for its report, in this order
abbrev pub IsDrawing : Contents → List ℕ → ReportOf → Asked → List ℕ → Type 0
IsDrawing held order report asked bytes = (steps : List Step) ×
    ((picture : Picture) × IsRunFor held.logs report steps × IsPictureOf held order report steps asked picture × (bytes ≡ drawn_text asked.page picture))

-- the same, in the order in which the records of the case are drawn; there always is a picture
abbrev pub IsDrawn : ReadCase → ReportOf → Asked → Option (List ℕ) → Type 0
IsDrawn came report asked None = ⊥
IsDrawn came report asked (Some bytes) = IsDrawing came.case (arranged came.case came.order) report asked bytes

-- A line, a status and the bytes for the file answer what came of a case: its report and its picture, or why there is none,
-- and then there are no bytes. Running out of memory is no answer of a case.
abbrev pub AnswersDrawing : Asked → Result ReadCase CaseFault → List ℕ → ℕ → Option (List ℕ) → Type 0
AnswersDrawing asked (Ok came) text status bytes =
    (report : ReportOf) × (IsReport came.case came.order report × SaysAnswer (Report report) text status × IsDrawn came report asked bytes)
AnswersDrawing asked (Err found) text status bytes = (found ≢ fault.OutOfMemory) × SaysAnswer (Fault (of_case found)) text status × (bytes ≡ None)

-- They answer the case that a source has under a name; or memory ran out, and then nothing is said of what the source was
-- asked for.
abbrev pub AnswersDraw : {S : Type 0} → Asked → Reads S → S → List ℕ → List ℕ → ℕ → Option (List ℕ) → S → Type 0
AnswersDraw asked gives old name text status bytes new =
    ((came : Result ReadCase CaseFault) × (ComesOfCase gives old name came new × AnswersDrawing asked came text status bytes))
    ⊎ (IsOutOfMemory text status × (bytes ≡ None))
