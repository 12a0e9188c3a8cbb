-- What comes of a case by its name: the case file, then each log as it is listed, then the order that it names, then
-- the case that the logs and links make. Each is asked for where all before it went well, and the first fault is the
-- case's. Nothing is said here of running out of memory.
use Rattle.std.specs.Prelude.{◌≡◌, ℕ, List, [], ◌∷◌, map, string_bytes, option_map, Option, Some, None, Result, Ok, Err}
use Rattle.vat_log.specs.Log.{Log}
use Rattle.vat_log.specs.Reading.{log_of}
use Rattle.merge_order.specs.Spelling as orders
use Rattle.case_book.specs.Case.{Contents, HoldsJust, IsCase, case_refusal_of}
use Rattle.case_book.specs.Ties.{tie_fault_of}
use Rattle.case_book.specs.declared.link.Link.{Link}
use Rattle.case_files.specs.declared.source.SourceError.{SourceError}
use Rattle.case_files.specs.declared.case_fault.CaseFault.{CaseFault}
use Rattle.case_files.specs.declared.case_fault.CaseFault.TheVariants.{Form, Refused, Untied, OutOfMemory}
use Rattle.case_files.specs.declared.case_file.CaseFile.{CaseFile}
use Rattle.case_files.specs.declared.case_reading.ReadCase.{ReadCase}
use Rattle.case_files.specs.CaseFaults.{case_fault_of_log, of_order, case_fault_of_source}
use Rattle.case_files.specs.CaseFile.{IsCaseFile, IsNoCaseFile, Listed}

-- what a source gave under a name
abbrev pub Read : Type 0
Read = Result (List ℕ) SourceError

-- what may come of reading a name: the source, the name, what was read, and the source afterwards
abbrev pub Reads : Type 0 → Type 1
Reads S = S → List ℕ → Read → S → Type 0

-- what may come of a step: the source, the step's answer, and the source afterwards
abbrev pub Step : Type 0 → Type 0 → Type 1
Step S X = S → Result X CaseFault → S → Type 0

-- nothing is left to be read
abbrev pub Done : {S X : Type 0} → X → Step S X
Done x old result new = (result ≡ Ok x) × (new ≡ old)

-- after a step: its fault is the answer and nothing more is read, or the next step follows
abbrev pub After : {S X Y : Type 0} → Result X CaseFault → (X → Step S Y) → Step S Y
After (Err fault) next old result new = (result ≡ Err fault) × (new ≡ old)
After (Ok x) next old result new = next x old result new

-- a step, and the next
abbrev pub Then : {S X Y : Type 0} → Step S X → (X → Step S Y) → Step S Y
Then {S} {X} first next old result new = (came : Result X CaseFault) × ((between : S) × (first old came between × After came next between result new))

-- an answer is what is defined; where memory ran out nothing is said
abbrev pub Is : {X : Type 0} → Result X CaseFault → Result X CaseFault → Type 0
Is (Err OutOfMemory) defined = Unit {0}
Is answer defined = defined ≡ answer

-- an answer of the code, as it is seen here
abbrev pub seen_by : {A B : Type 0} → (A → B) → Result A CaseFault → Result B CaseFault
seen_by view (Ok x) = Ok (view x)
seen_by view (Err fault) = Err fault

-- what a case file says, as the code keeps it
abbrev pub listed_by : CaseFile → Listed
listed_by file = record { logs = map string_bytes file.logs.items; links = file.links.items; order = option_map string_bytes file.order }

-- ---- one file

-- an answer is what bytes say as a case file
abbrev pub IsListedCase : Result Listed CaseFault → List ℕ → Type 0
IsListedCase (Ok listed) bytes = IsCaseFile bytes listed
IsListedCase (Err OutOfMemory) bytes = Unit {0}
IsListedCase (Err Form) bytes = IsNoCaseFile bytes
IsListedCase (Err _) bytes = ⊥

-- an answer is the case file that a source gave
abbrev pub IsListedFrom : Result Listed CaseFault → Read → Type 0
IsListedFrom answer (Ok bytes) = IsListedCase answer bytes
IsListedFrom answer (Err fault) = Is answer (Err (case_fault_of_source fault))

-- what was read, its fault as one of the case
abbrev pub with_fault : {X E : Type 0} → (E → CaseFault) → Result X E → Result X CaseFault
with_fault of_fault (Ok x) = Ok x
with_fault of_fault (Err fault) = Err (of_fault fault)

-- the log, and the order, that a source gave; or why it is none
abbrev pub log_from : Read → Result Log CaseFault
log_from (Ok bytes) = with_fault case_fault_of_log (log_of bytes)
log_from (Err fault) = Err (case_fault_of_source fault)

abbrev pub order_from : Read → Result (List ℕ) CaseFault
order_from (Ok bytes) = with_fault of_order (orders.spelled_order bytes)
order_from (Err fault) = Err (case_fault_of_source fault)

-- what comes of the case file, of one log, and of one order
abbrev pub ListedComes : {S : Type 0} → Reads S → List ℕ → Step S Listed
ListedComes gives name old result new = (read : Read) × (gives old name read new × IsListedFrom result read)

abbrev pub LogComes : {S : Type 0} → Reads S → List ℕ → Step S Log
LogComes gives name old result new = (read : Read) × (gives old name read new × Is result (log_from read))

abbrev pub OrderComes : {S : Type 0} → Reads S → List ℕ → Step S (List ℕ)
OrderComes gives name old result new = (read : Read) × (gives old name read new × Is result (order_from read))

-- ---- all files, and the case

-- what comes of the logs of these names
abbrev pub LogsCome : {S : Type 0} → Reads S → List (List ℕ) → Step S (List Log)
LogsCome gives [] = Done []
LogsCome gives (name ∷ names) = Then (LogComes gives name) (λ log. Then (LogsCome gives names) (λ logs. Done (log ∷ logs)))

-- what comes of the order, if the case file names one
abbrev pub NamedOrderComes : {S : Type 0} → Reads S → Option (List ℕ) → Step S (Option (List ℕ))
NamedOrderComes gives None = Done None
NamedOrderComes gives (Some name) = Then (OrderComes gives name) (λ order. Done (Some order))

-- the case of these logs and links, or why they make none
abbrev pub IsCaseOf : List Log → List Link → Result Contents CaseFault → Type 0
IsCaseOf logs links (Ok held) = (case_refusal_of logs links ≡ None) × HoldsJust logs links held × IsCase held × (tie_fault_of held ≡ None)
IsCaseOf logs links (Err (Refused fault)) = case_refusal_of logs links ≡ Some fault
IsCaseOf logs links (Err (Untied fault)) =
    (held : Contents) × ((case_refusal_of logs links ≡ None) × HoldsJust logs links held × IsCase held × (tie_fault_of held ≡ Some fault))
IsCaseOf logs links (Err _) = ⊥

abbrev pub CaseComes : {S : Type 0} → List Log → List Link → Step S Contents
CaseComes logs links old result new = IsCaseOf logs links result × (new ≡ old)

-- what comes of a case by its name: the case, and the order that its file names
abbrev pub ComesOfCase : {S : Type 0} → Reads S → S → List ℕ → Result ReadCase CaseFault → S → Type 0
ComesOfCase gives old name =
    Then (ListedComes gives name) (λ listed. Then (LogsCome gives listed.logs) (λ logs. Then (NamedOrderComes gives listed.order) (λ order.
    Then (CaseComes logs listed.links) (λ case. Done (record { case = case; order = order }))))) old
