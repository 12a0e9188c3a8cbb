-- What is found of a whole case whose logs and links are good, and its counts.
use Rattle.std.proofs.Common.{◌≡◌, ℕ, zero, suc, ◌-◌, ◌≤◌, List, [], ◌∷◌, ◌++◌, length, map, Some, None, refl, sym, ap, ◌∙◌, subst}
use Rattle.std.specs.Prelude.{IsSomeAnd, slice_get}
use Rattle.std.proofs.lemmas.List.{length-map}
use Rattle.vat_log.specs.Log.{Log}
use Rattle.vat_log.specs.Passages.{sends, receives}
use Rattle.vat_rules.specs.Audit.{Found}
use Rattle.link_check.specs.Prefix.{Ends}
use Rattle.call_trace.specs.Findings.{AreTrue}
use Rattle.case_book.specs.Books.{AllFound, AreAll}
use Rattle.case_book.specs.Case.{Contents, IsCase}
use Rattle.case_book.specs.Ties.{tie_fault_of}
use Rattle.case_book.specs.Pieces.{IsComparisonOf, IsFoundBy}
use Rattle.case_book.specs.Pieces.Work.{Audit, Compare}
use Rattle.case_book.specs.declared.link.Link.{Link}
use Rattle.case_book.specs.declared.piece_finding.Finding.{Finding}
use Rattle.case_book.specs.declared.piece_finding.Finding.TheVariants as finding
use Rattle.audit_core.specs.Glue.{case_record_limit}
use Rattle.audit_core.specs.Report.{AreGoodEnds, IsGoodCase, HoldsOfEach, IsGoodFinding, AreGoodFindings, count_all, records_delivery, records_in}
use Rattle.audit_core.proofs.OneLine.{finding_for, findings_for, each_good, all_true}
use Rattle.stream_audit.proofs.FoundLines.{AreLogsFound, AreLinksFound, all_logs_good, all_links_good}

-- all logs and links of a case are good, and these are its counts, where its logs have no more records than they may have
pub record IsCounted (held : Contents) (delivered under_way : ℕ) : Type 0 where
  pub all : AllFound
  pub own : all.case ≡ held
  pub good : AreGoodFindings all
  pub true : AreTrue all.vats
  pub delivered_are : records_in held.logs ≤ case_record_limit → delivered ≡ count_all records_delivery held.logs
  pub under_way_are : records_in held.logs ≤ case_record_limit → under_way ≡ count_all sends held.logs - count_all receives held.logs

-- ---- findings of a whole case

links_own : (held : Contents) (links : List Link) (ends : List Ends) → ((k : ℕ) (one : Ends) → slice_get ends k ≡ Some one → IsSomeAnd (slice_get links k) (λ link. IsComparisonOf held.logs link one))
    → (number : ℕ) (one : Finding) → slice_get (map finding.Link ends) number ≡ Some one → IsSomeAnd (slice_get (map Compare links) number) (IsFoundBy held one)
links_own held links [] own number one at = absurd cc
links_own held [] (first ∷ ends) own number one at = absurd (own 0 first refl)
links_own held (link ∷ links) (first ∷ ends) own zero one at =
    let same : finding.Link first ≡ one = cc in
    subst (λ (f : Finding). IsFoundBy held f (Compare link)) same (own 0 first refl)
links_own held (link ∷ links) (first ∷ ends) own (suc number) one at = links_own held links ends (λ k. own (suc k)) number one at

all_own : (held : Contents) (logs : List Log) (links : List Link) (ends : List Ends)
    → ((k : ℕ) (one : Ends) → slice_get ends k ≡ Some one → IsSomeAnd (slice_get links k) (λ link. IsComparisonOf held.logs link one))
    → (number : ℕ) (one : Finding) → slice_get (map finding.Vat (findings_for logs) ++ map finding.Link ends) number ≡ Some one
    → IsSomeAnd (slice_get (map Audit logs ++ map Compare links) number) (IsFoundBy held one)
all_own held [] links ends own number one at = links_own held links ends own number one at
all_own held (log ∷ logs) links ends own zero one at =
    let same : finding.Vat (finding_for log) ≡ one = cc in
    subst (λ (f : Finding). IsFoundBy held f (Audit log)) same (record { same_log = refl; within = refl })
all_own held (log ∷ logs) links ends own (suc number) one at = all_own held logs links ends own number one at

all_len : (logs : List Log) (links : List Link) (ends : List Ends) → length ends ≡ length links
    → length (map finding.Vat (findings_for logs) ++ map finding.Link ends) ≡ length (map Audit logs ++ map Compare links)
all_len [] links ends long = length-map ends finding.Link ∙ long ∙ sym (length-map links Compare)
all_len (log ∷ logs) links ends long = ap suc (all_len logs links ends long)

module _ (held : Contents) (tied : tie_fault_of held ≡ None) (logs : List Found) (links : List Ends) (logs_own : AreLogsFound held.logs logs) (links_are : AreLinksFound held links)
    (logs_good : HoldsOfEach IsGoodFinding logs) (links_good : HoldsOfEach AreGoodEnds links) where
  case_of : IsCase held
  case_of = record { rising_vats = logs_own.rising; rising_links = links_are.rising; few_vats = logs_own.few; few_links = links_are.few }

  good_of : IsGoodCase held
  good_of = record { logs_good = all_logs_good held logs logs_own logs_good; links_good = all_links_good held links links_are links_good }

  abbrev all : AllFound
  all = record { case = held; vats = findings_for held.logs; links = links }

  are_all : AreAll all
  are_all = record {
    holds = case_of;
    tied = tied;
    each = all_len held.logs held.links links links_are.each;
    own = all_own held held.logs held.links links links_are.own;
  }

  are_good : AreGoodFindings all
  are_good = record {
    whole = are_all;
    vats_good = each_good held case_of tied good_of;
    links_good = links_good;
  }

  pub counted : (delivered under_way : ℕ) → (records_in held.logs ≤ case_record_limit → delivered ≡ count_all records_delivery held.logs)
      → (records_in held.logs ≤ case_record_limit → under_way ≡ count_all sends held.logs - count_all receives held.logs) → IsCounted held delivered under_way
  counted delivered under_way delivered_are under_way_are = record {
    all = all;
    own = refl;
    good = are_good;
    true = all_true held case_of tied good_of;
    delivered_are = delivered_are;
    under_way_are = under_way_are;
  }
