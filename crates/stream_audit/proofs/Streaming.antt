-- What is answered of logs that came in streams, from what is answered of their case.
use Rattle.std.proofs.Common.{◌≡◌, ℕ, List, Option, None, Result, Err, IfErr, sym, subst}
use Rattle.vat_rules.specs.Audit.{Found}
use Rattle.case_book.specs.Case.{Contents, HoldsJust, IsCase, case_refusal_of}
use Rattle.case_book.specs.Ties.{tie_fault_of}
use Rattle.case_book.specs.declared.link.Link.{Link}
use Rattle.log_lane.specs.Lanes.{ReadAhead}
use Rattle.log_lane.specs.Slim.{logs_audited}
use Rattle.audit_core.specs.Lines.{IsLineOf}
use Rattle.case_report.specs.declared.report.Report.{Report}
use Rattle.stream_audit.proofs.FoundLines.{line_means}
use Rattle.stream_audit.specs.Glue.{AreFoundIn}
use Rattle.stream_audit.specs.Streamed.{IsLineOfStreams}
use Rattle.stream_audit.specs.declared.error.StreamError.{StreamError}

pub line_of_streams : (lanes : List (Option ReadAhead)) (links : List Link) (given : Option (List ℕ)) (held : Contents) (findings : List Found) (answer : Report) → AreFoundIn lanes findings → case_refusal_of (logs_audited findings) links ≡ None
    → HoldsJust (logs_audited findings) links held → IsCase held → tie_fault_of held ≡ None → IsLineOf held given answer → IsLineOfStreams lanes links given answer
line_of_streams lanes links given held findings answer found accepted just case tied line = record {
  held = held;
  made = record { logs = logs_audited findings; whole = found.whole; accepted = accepted; just = just; case = case };
  tied = tied;
  line = line;
  headline = line_means held given answer line;
}

-- an error that is handed on
pub err_of : (P : StreamError → Type 0) (answer : Result Report StreamError) (error given : StreamError) → answer ≡ Err given → given ≡ error → P error → IfErr answer P
err_of P answer error given is same so = subst (λ (r : Result Report StreamError). IfErr r P) (sym is) (subst P (sym same) so)
