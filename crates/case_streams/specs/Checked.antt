-- What comes of a case whose line is asked for.
use Rattle.std.specs.Prelude.{◌≡◌, ◌⊎◌, ℕ, List, Result, Ok, Err}
use Rattle.audit_core.specs.Lines.{IsLineOf, LineMeansHeadline}
use Rattle.case_report.specs.declared.report.Report.{Report}
use Rattle.case_files.specs.CaseReading.{ComesOfCase, Reads}
use Rattle.case_files.specs.declared.case_fault.CaseFault.{CaseFault}
use Rattle.case_files.specs.declared.case_fault.CaseFault.TheVariants.{OutOfMemory}
use Rattle.case_files.specs.declared.case_reading.ReadCase.{ReadCase}

-- The line of the case that a source has under a name, by the order that it names, and what a yes means; or the case's fault. Where
-- memory ran out nothing is said.
abbrev pub ComesChecked : {S : Type 0} → Reads S → S → List ℕ → Result Report CaseFault → S → Type 0
ComesChecked gives old name (Ok line) new =
    (came : ReadCase) × (ComesOfCase gives old name (Ok came) new × IsLineOf came.case came.order line × LineMeansHeadline came.case.logs line)
ComesChecked gives old name (Err fault) new = (fault ≡ OutOfMemory) ⊎ ComesOfCase gives old name (Err fault) new
