-- Where a case says yes, it says the same yes with any of its logs raised.
use Rattle.std.proofs.Common.{◌≡◌, ℕ, ◌≤◌, Bool, true, false, if◌then◌else◌, List, [], ◌∷◌, length, map, Option, None, refl, sym, ap, ap₂, ◌∙◌, subst}
use Rattle.std.specs.Prelude.{Contains, slice_get}
use Rattle.std.specs.List.Sorted.{IsStrictlyIncreasing}
use Rattle.std.proofs.lemmas.List.{length-map}
use Rattle.std.proofs.lemmas.Option.{slice_get-map}
use Rattle.cap_reader.specs.Defaults.{default_limits}
use Rattle.vat_log.specs.Log.{Log}
use Rattle.vat_log.specs.Migrated.{raised}
use Rattle.vat_rules.proofs.Editions.{all_good_later}
use Rattle.run_model.specs.declared.step.Step.{Step}
use Rattle.run_model.specs.Edges.{AreEdges, Edge}
use Rattle.case_book.specs.Case.{Contents, IsCase, vat_limit, vats_of}
use Rattle.case_book.specs.Ties.{tie_fault_of}
use Rattle.audit_core.specs.Report.{IsGoodLog, IsReport}
use Rattle.audit_core.specs.Versions.{with_raised}
use Rattle.case_report.specs.declared.report.Report.{Report}
use Rattle.case_report.specs.declared.report.Report.TheVariants as report
use Rattle.audit_core.proofs.Places.{from_map, place_of, contained}
use Rattle.audit_core.proofs.OneLine.{one_graph}
use Rattle.audit_core.proofs.OneReport.{same_report}
use Rattle.audit_core.proofs.Versions.{ties_alike, good_links, yes}

-- ---- the logs of which some are raised

module _ (chosen : Log → Bool) where
  abbrev some : Log → Log
  some log = if chosen log then raised log else log

  all_alike : (logs : List Log) → map raised logs ≡ map raised (map some logs)
  all_alike [] = refl
  all_alike (log ∷ logs) = ap₂ (λ (l : Log) (ls : List Log). l ∷ ls) (go (chosen log)) (all_alike logs)
    where
      go : (b : Bool) → raised log ≡ raised (if b then raised log else log)
      go true = refl
      go false = refl

  -- a log that is raised is good where it was
  still_good : (log : Log) → IsGoodLog log → IsGoodLog (some log)
  still_good log h = go (chosen log)
    where
      go : (b : Bool) → IsGoodLog (if b then raised log else log)
      go true = all_good_later log default_limits (length log.records) h
      go false = h

  all_good : (logs : List Log) → ((log : Log) → Contains logs log → IsGoodLog log) → (other : Log) → Contains (map some logs) other → IsGoodLog other
  all_good logs h other there =
      let at = place_of (map some logs) other there in
      let found = from_map some (slice_get logs at.0) other (sym (slice_get-map some logs at.0) ∙ at.1) in
      subst IsGoodLog found.2 (still_good found.0 (h found.0 (contained logs at.0 found.0 found.1)))

  vats_raised : (logs : List Log) → vats_of (map raised logs) ≡ vats_of logs
  vats_raised [] = refl
  vats_raised (log ∷ logs) = ap (λ (vats : List ℕ). log.vat ∷ vats) (vats_raised logs)

  same_vats : (logs : List Log) → vats_of logs ≡ vats_of (map some logs)
  same_vats logs = sym (vats_raised logs) ∙ ap vats_of (all_alike logs) ∙ vats_raised (map some logs)

  module _ (held : Contents) where
    still_case : IsCase held → IsCase (with_raised chosen held)
    still_case case = record {
      rising_vats = subst IsStrictlyIncreasing (same_vats held.logs) case.rising_vats;
      rising_links = case.rising_links;
      few_vats = subst (λ (n : ℕ). n ≤ vat_limit) (sym (length-map held.logs some)) case.few_vats;
      few_links = case.few_links;
    }

    still_tied : tie_fault_of held ≡ tie_fault_of (with_raised chosen held)
    still_tied = ties_alike held.logs (map some held.logs) (all_alike held.logs) held.links

    still_yes : (given : Option (List ℕ)) (vats records delivered under_way : ℕ) (run : List Step)
        → IsReport held given (report.Yes vats records delivered under_way run) → IsReport (with_raised chosen held) given (report.Yes vats records delivered under_way run)
    still_yes given vats records delivered under_way run h = (
      record {
        logs_good = all_good held.logs h.0.logs_good;
        links_good = good_links held.logs (map some held.logs) (all_alike held.logs) held.links h.0.links_good;
      },
      yes held.logs (map some held.logs) (all_alike held.logs) given vats records delivered under_way run h.1,
    )

    still_same : IsCase held → tie_fault_of held ≡ None → (given : Option (List ℕ)) → (vats records delivered under_way : ℕ) (run : List Step) (other : Report)
        → IsReport held given (report.Yes vats records delivered under_way run) → IsReport (with_raised chosen held) given other → report.Yes vats records delivered under_way run ≡ other
    still_same case tied given vats records delivered under_way run other h k =
        same_report (with_raised chosen held) (still_case case) (sym still_tied ∙ tied) given (report.Yes vats records delivered under_way run) other
        (still_yes given vats records delivered under_way run h) k

    still_graph : IsCase held → tie_fault_of held ≡ None → (given : Option (List ℕ))
        → (vats records delivered under_way other_vats other_records other_delivered other_under_way : ℕ) (run other_run : List Step)
        → IsReport held given (report.Yes vats records delivered under_way run)
        → IsReport (with_raised chosen held) given (report.Yes other_vats other_records other_delivered other_under_way other_run)
        → (edges other_edges : List Edge) → AreEdges run edges → AreEdges other_run other_edges → edges ≡ other_edges
    still_graph case tied given v r d u v' r' d' u' run other_run h k =
        one_graph (with_raised chosen held) (still_case case) (sym still_tied ∙ tied) given given v r d u v' r' d' u' run other_run (still_yes given v r d u run h) k

pub raised_ties : (held : Contents) (chosen : Log → Bool) → tie_fault_of held ≡ tie_fault_of (with_raised chosen held)
raised_ties held chosen = still_tied chosen held

pub raised_yes : (held : Contents) (chosen : Log → Bool) (given : Option (List ℕ)) (vats records delivered under_way : ℕ) (run : List Step)
    → IsReport held given (report.Yes vats records delivered under_way run) → IsReport (with_raised chosen held) given (report.Yes vats records delivered under_way run)
raised_yes held chosen = still_yes chosen held

pub raised_same : (held : Contents) (chosen : Log → Bool) → IsCase held → tie_fault_of held ≡ None → (given : Option (List ℕ))
    → (vats records delivered under_way : ℕ) (run : List Step) (other : Report) → IsReport held given (report.Yes vats records delivered under_way run)
    → IsReport (with_raised chosen held) given other → report.Yes vats records delivered under_way run ≡ other
raised_same held chosen = still_same chosen held

pub raised_graph : (held : Contents) (chosen : Log → Bool) → IsCase held → tie_fault_of held ≡ None → (given : Option (List ℕ))
    → (vats records delivered under_way other_vats other_records other_delivered other_under_way : ℕ) (run other_run : List Step)
    → IsReport held given (report.Yes vats records delivered under_way run)
    → IsReport (with_raised chosen held) given (report.Yes other_vats other_records other_delivered other_under_way other_run)
    → (edges other_edges : List Edge) → AreEdges run edges → AreEdges other_run other_edges → edges ≡ other_edges
raised_graph held chosen = still_graph chosen held
