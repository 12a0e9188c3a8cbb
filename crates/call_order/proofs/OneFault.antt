-- The order fault of logs by one order that fits is theirs by any order.
use Rattle.std.proofs.Common.{ℕ, List, Option, reverse, sym, subst}
use Rattle.call_order.specs.Fault.{IsFaultBy}
use Rattle.call_trace.proofs.Good.{good_run}
use Rattle.call_trace.proofs.Orders.{have_same_steps, references_kept}
use Rattle.call_trace.specs.Findings.{MayBeNamed, logs_of}
use Rattle.call_trace.specs.Named.{IsRunOf}
use Rattle.call_trace.specs.Types.{Step}
use Rattle.merge_order.specs.Fits.{IsFitting}
use Rattle.run_model.proofs.Reordering.{same_fault}
use Rattle.vat_log.specs.Log.{Log}
use Rattle.vat_rules.specs.Audit.{Found}

-- findings that name a run by one order name one by each order that fits
named_by : (findings : List Found) (order other : List ℕ) → IsFitting (logs_of findings) order → MayBeNamed findings other → MayBeNamed findings order
named_by findings order other fits asked =
    record { good = asked.good; rising = asked.rising; fits = fits; two_ends = asked.two_ends; linked = asked.linked }

pub one_fault_by : (logs : List Log) (order other : List ℕ) (fault : Option (ℕ × ℕ)) → IsFitting logs order → IsFaultBy logs order fault → IsFaultBy logs other fault
one_fault_by logs order other fault fits by_order findings run of_logs true_all asked is =
    let asked_too = named_by findings order other (subst (λ (l : List Log). IsFitting l order) (sym of_logs) fits) asked in
    let has = good_run findings order true_all asked_too in
    let first : List Step = reverse has.0 in
    let first_is : IsRunOf findings order first = has.2 in
    same_fault first run first_is.legal first_is.linked is.legal is.linked (references_kept findings order true_all asked_too first first_is)
    (have_same_steps findings order other true_all asked_too asked first run first_is is) fault (by_order findings first of_logs true_all asked_too first_is)
