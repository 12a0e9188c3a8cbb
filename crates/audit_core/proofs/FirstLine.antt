-- The line of the first finding that isn't good.
use Rattle.std.proofs.Common.{◌≡◌, ℕ, ◌+◌, ◌<◌, List, length, get_or, Option, Some, None, refl, sym, ap, ◌∙◌, subst}
use Rattle.std.specs.Prelude.{MatchOption, slice_get}
use Rattle.cap_reader.specs.Defaults.{default_limits}
use Rattle.cap_reader.specs.declared.limits.Limits.{Limits}
use Rattle.vat_log.specs.Log.{Log}
use Rattle.vat_rules.specs.Audit.{Found, IsTrueOf, reads_by, edition_of}
use Rattle.vat_rules.specs.First.{AllGood}
use Rattle.vat_rules.specs.LogFacts.{Told}
use Rattle.vat_rules.specs.declared.outcome.Outcome.{Outcome}
use Rattle.vat_rules.specs.declared.outcome.Outcome.TheVariants.{Good, Broken, Outside}
use Rattle.link_check.specs.Prefix.{Ends, IsOutcome}
use Rattle.link_check.specs.declared.link_outcome.LinkOutcome.{LinkOutcome}
use Rattle.link_check.specs.declared.link_outcome.LinkOutcome.TheVariants.{Good as GoodLink, Broken as BrokenAt}
use Rattle.case_book.specs.Books.{AllFound, AreAll}
use Rattle.case_book.specs.declared.link.Link.{Link}
use Rattle.audit_core.specs.Report.{AreGoodEnds, IsGoodLog, IsFirstBad, IsFirstBroken, AreGoodLogs, AreGoodLinks, IsGoodCase, IsReport, HoldsOfEach, IsGoodFinding, AreGoodFindings}
use Rattle.audit_core.specs.Glue.{HoldsBefore, IsFirstNot, line_of, IsBadFinding, AreBadEnds}
use Rattle.case_report.specs.declared.report.Breach.TheVariants.{Rule}
use Rattle.case_report.specs.declared.report.Report.{Report}
use Rattle.case_report.specs.declared.report.Report.TheVariants as report
use Rattle.audit_core.proofs.Places.{at_index, holds_more, place_of, contained, smaller_before}
use Rattle.audit_core.proofs.Whole.{as_log, has_finding, finding_at, held_at, log_held, ends_at, link_own}

-- ---- the findings of vats

pub good_finding : (found : Found) (outcome : Outcome) (story : Told) → outcome ≡ found.outcome → IsTrueOf found.log found.limits outcome → outcome ≡ Good story → IsGoodFinding found
good_finding found outcome story same true is = record {
  says = rw (← same, is) refl;
  means = (subst (IsTrueOf found.log found.limits) is true).0;
}

pub good_next : (vats : List Found) (n : ℕ) (found : Found) (outcome : Outcome) (story : Told) → found ≡ get_or vats n found → n < length vats → outcome ≡ found.outcome
    → IsTrueOf found.log found.limits outcome → outcome ≡ Good story → HoldsBefore IsGoodFinding vats n → HoldsBefore IsGoodFinding vats (n + 1)
good_next vats n found outcome story item lt same true is before =
    holds_more IsGoodFinding vats n found (at_index vats n found item lt) (good_finding found outcome story same true is) before

pub first_bad : (vats : List Found) (n : ℕ) (found : Found) (outcome : Outcome) (answer : Report) → found ≡ get_or vats n found → n < length vats → outcome ≡ found.outcome
    → IsTrueOf found.log found.limits outcome → line_of found.log.vat outcome ≡ Some answer → HoldsBefore IsGoodFinding vats n
    → IsFirstNot IsGoodFinding (IsBadFinding answer) vats
first_bad vats n found outcome answer item lt same true line before = record {
  place = n;
  one = found;
  there = at_index vats n found item lt;
  before = before;
  so = record { line = ap (line_of found.log.vat) (sym same) ∙ line; means = subst (IsTrueOf found.log found.limits) same true };
}

-- ---- the findings of links

good_ends : (ends : Ends) (delivered in_flight : ℕ) → IsOutcome ends (GoodLink delivered in_flight) → AreGoodEnds ends
good_ends ends delivered in_flight so = record { at_first = so.at_first; at_second = so.at_second }

pub link_next : (links : List Ends) (n : ℕ) (ends : Ends) (outcome : LinkOutcome) (delivered in_flight : ℕ) → ends ≡ get_or links n ends → n < length links
    → IsOutcome ends outcome → outcome ≡ GoodLink delivered in_flight → HoldsBefore AreGoodEnds links n → HoldsBefore AreGoodEnds links (n + 1)
link_next links n ends outcome delivered in_flight item lt means is before =
    holds_more AreGoodEnds links n ends (at_index links n ends item lt) (good_ends ends delivered in_flight (subst (IsOutcome ends) is means)) before

-- ---- the report that they make

module _ (all : AllFound) (whole : AreAll all) where
  good_log : (k : ℕ) (found : Found) (log : Log) → slice_get all.vats k ≡ Some found → found.log ≡ log → found.limits ≡ default_limits → IsGoodFinding found → IsGoodLog log
  good_log k found log at same within good =
      as_log (λ (l : Log) (limits : Limits). AllGood (edition_of l) (reads_by (edition_of l) limits) l.records (length l.records)) found log same within good.means

  pub logs_good : HoldsOfEach IsGoodFinding all.vats → AreGoodLogs all.case
  logs_good each log held =
      let own = has_finding all whole log held in
      good_log own.place own.found log own.there own.same own.within (each own.place own.found own.there)

  pub links_good : HoldsOfEach AreGoodEnds all.links → AreGoodLinks all.case
  links_good each link held =
      let at = place_of all.case.links link held in
      let own = ends_at all whole at.0 link at.1 in
      record { ends = own.0; own = own.2; good = each at.0 own.0 own.1 }

  first_vat : (found : Found) (k : ℕ) → slice_get all.vats k ≡ Some found → HoldsBefore IsGoodFinding all.vats k → IsTrueOf found.log found.limits found.outcome
      → IsFirstBad all.case.logs found.log.vat found.outcome
  first_vat found k at before true =
      let own = log_held all whole k found at in
      record {
        log = found.log;
        there = own.0;
        own = refl;
        found = subst (λ (limits : Limits). IsTrueOf found.log limits found.outcome) own.1 true;
        smaller = λ other held less.
            let there = place_of all.case.logs other held in
            let its = finding_at all whole there.0 other there.1 in
            let lt = smaller_before (λ (log : Log). log.vat) all.case.logs whole.holds.rising_vats k there.0 found.log other (held_at all whole k found at) there.1 less in
            good_log there.0 its.0 other its.1 its.2 its.3 (before there.0 its.0 lt its.1);
      }

  vat_report : (given : Option (List ℕ)) (vat : ℕ) (outcome : Outcome) (answer : Report) → line_of vat outcome ≡ Some answer → IsFirstBad all.case.logs vat outcome → IsReport all.case given answer
  vat_report given vat (Good story) answer e first = absurd cc
  vat_report given vat (Broken at rule) answer e first = let is : report.Vat vat at (Rule rule) ≡ answer = cc in subst (IsReport all.case given) is first
  vat_report given vat (Outside at why) answer e first = let is : report.OutsideVat vat at why ≡ answer = cc in subst (IsReport all.case given) is first

  pub vat_line_is : (answer : Report) → IsFirstNot IsGoodFinding (IsBadFinding answer) all.vats → (given : Option (List ℕ)) → IsReport all.case given answer
  vat_line_is answer first given =
      vat_report given first.one.log.vat first.one.outcome answer first.so.line (first_vat first.one first.place first.there first.before first.so.means)

  first_link : (ends : Ends) (j end message : ℕ) → slice_get all.links j ≡ Some ends → HoldsBefore AreGoodEnds all.links j → IsOutcome ends (BrokenAt end message)
      → IsFirstBroken all.case ends.connection end message
  first_link ends j end message at before means =
      let own = link_own all whole j ends at in
      record {
        link = own.0;
        there = contained all.case.links j own.0 own.1;
        number = sym own.2.connection;
        ends = ends;
        own = own.2;
        found = means;
        smaller = λ other held less.
            let there = place_of all.case.links other held in
            let its = ends_at all whole there.0 other there.1 in
            let lower = subst (λ (n : ℕ). other.connection < n) own.2.connection less in
            let lt = smaller_before (λ (link : Link). link.connection) all.case.links whole.holds.rising_links j there.0 own.0 other own.1 there.1 lower in
            record { ends = its.0; own = its.2; good = before there.0 its.0 lt its.1 };
      }

  pub link_line_is : (answer : Report) → HoldsOfEach IsGoodFinding all.vats → IsFirstNot AreGoodEnds (AreBadEnds answer) all.links → (given : Option (List ℕ)) → IsReport all.case given answer
  link_line_is answer each first given =
      let it = first_link first.one first.place first.so.end first.so.message first.there first.before first.so.means in
      subst (IsReport all.case given) (sym first.so.line) (logs_good each, it)

pub good_case : (all : AllFound) → AreGoodFindings all → IsGoodCase all.case
good_case all good = record { logs_good = logs_good all good.whole good.vats_good; links_good = links_good all good.whole good.links_good }

-- what the links add, where all vats are good
pub link_answer : (all : AllFound) → AreAll all → (vats : List Found) (links : List Ends) (answer : Option Report) → vats ≡ all.vats → links ≡ all.links → HoldsOfEach IsGoodFinding vats
    → MatchOption answer (HoldsOfEach AreGoodEnds links) (λ line. IsFirstNot AreGoodEnds (AreBadEnds line) links)
    → MatchOption answer (AreGoodFindings all) (λ line. (given : Option (List ℕ)) → IsReport all.case given line)
link_answer all whole vats links None same_vats same_links each found = record {
  whole = whole;
  vats_good = subst (λ (xs : List Found). HoldsOfEach IsGoodFinding xs) same_vats each;
  links_good = subst (λ (xs : List Ends). HoldsOfEach AreGoodEnds xs) same_links found;
}
link_answer all whole vats links (Some line) same_vats same_links each found =
    link_line_is all whole line (subst (λ (xs : List Found). HoldsOfEach IsGoodFinding xs) same_vats each)
    (subst (λ (xs : List Ends). IsFirstNot AreGoodEnds (AreBadEnds line) xs) same_links found)
