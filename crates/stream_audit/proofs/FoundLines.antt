-- The line of a case of which a log or a link isn't good, from what is found of each; and what a line means.
use Rattle.std.proofs.Common.{◌≡◌, ℕ, ◌<◌, ◌≤◌, List, length, Option, Some, refl, sym, ap, ◌∙◌, subst, inl, inr, arith}
use Rattle.std.specs.Prelude.{IsSomeAnd, slice_get}
use Rattle.std.specs.List.Sorted.{IsStrictlyIncreasing}
use Rattle.std.proofs.lemmas.Option.{slice_get_within, slice_get_cases}
use Rattle.cap_reader.specs.declared.limits.Limits.{Limits}
use Rattle.vat_log.specs.Log.{Log}
use Rattle.vat_rules.specs.Audit.{Found, IsTrueOf, reads_by, edition_of}
use Rattle.vat_rules.specs.First.{AllGood}
use Rattle.vat_rules.specs.declared.outcome.Outcome.{Outcome}
use Rattle.vat_rules.specs.declared.outcome.Outcome.TheVariants.{Good, Broken, Outside}
use Rattle.link_check.specs.Prefix.{Ends, IsOutcome}
use Rattle.link_check.specs.declared.link_outcome.LinkOutcome.TheVariants.{Broken as BrokenAt}
use Rattle.case_book.specs.Case.{Contents, vats_of, connections_of, vat_limit, link_limit}
use Rattle.case_book.specs.Pieces.{IsAuditOf, IsComparisonOf}
use Rattle.case_book.specs.declared.link.Link.{Link}
use Rattle.case_book.proofs.Numbered.{taken}
use Rattle.audit_core.specs.Glue.{HoldsBefore, IsFirstNot, line_of, IsBadFinding, AreBadEnds}
use Rattle.audit_core.specs.Lines.{IsLineOf, LineMeansHeadline}
use Rattle.audit_core.specs.Report.{AreGoodEnds, IsGoodLog, IsGoodLink, IsFirstBad, IsFirstBroken, AreGoodLogs, AreGoodLinks, IsReport, line_in, HoldsOfEach, IsGoodFinding}
use Rattle.case_report.specs.declared.report.Breach.TheVariants.{Rule, Order}
use Rattle.case_report.specs.declared.report.Report.{Report}
use Rattle.case_report.specs.declared.report.Report.TheVariants as report
use Rattle.audit_core.proofs.Places.{place_of, contained, smaller_before}

-- what is found of the logs of a case, each at its own place
pub record AreLogsFound (logs : List Log) (found : List Found) : Type 0 where
  pub rising : IsStrictlyIncreasing (vats_of logs)
  pub few : length logs ≤ vat_limit
  pub each : length found ≡ length logs
  pub own : (k : ℕ) (one : Found) → slice_get found k ≡ Some one → IsSomeAnd (slice_get logs k) (λ log. IsAuditOf log one)

-- so of its links
pub record AreLinksFound (held : Contents) (found : List Ends) : Type 0 where
  pub rising : IsStrictlyIncreasing (connections_of held.links)
  pub few : length held.links ≤ link_limit
  pub each : length found ≡ length held.links
  pub own : (k : ℕ) (one : Ends) → slice_get found k ≡ Some one → IsSomeAnd (slice_get held.links k) (λ link. IsComparisonOf held.logs link one)

-- ---- what a line means

whole_means : (held : Contents) (given : Option (List ℕ)) (whole : Report) → IsReport held given whole → LineMeansHeadline held.logs (line_in whole)
whole_means held given (report.Vat vat at (Rule rule)) is = tt
whole_means held given (report.Vat vat at Order) is = tt
whole_means held given (report.OutsideVat vat at why) is = tt
whole_means held given (report.Link connection end message) is = tt
whole_means held given (report.OrderStep step) is = tt
whole_means held given report.NoOrder is = tt
whole_means held given (report.Yes vats records delivered under_way run) is =
    record { order = is.1.order; run = run; fits = is.1.fits; headline = is.1.headline }

pub line_means : (held : Contents) (given : Option (List ℕ)) (answer : Report) → IsLineOf held given answer → LineMeansHeadline held.logs answer
line_means held given answer is = subst (LineMeansHeadline held.logs) (sym is.line) (whole_means held given is.whole is.report)

-- something stands at each place of a list
there_is : {X : Type 0} (xs : List X) (k : ℕ) → k < length xs → (x : X) × (slice_get xs k ≡ Some x)
there_is xs k lt =
    elim (slice_get_cases xs k).1 [
      | inl there ↦ (there.0, there.2)
      | inr past ↦ absurd (let le = past.0 in omega (arith, le, lt))
    ]

-- ---- logs

module _ (held : Contents) (found : List Found) (own : AreLogsFound held.logs found) where
  pub log_of : (k : ℕ) (one : Found) → slice_get found k ≡ Some one → (log : Log) × (slice_get held.logs k ≡ Some log) × IsAuditOf log one
  log_of k one at = taken (slice_get held.logs k) (λ log. IsAuditOf log one) (own.own k one at)

  good_log_at : (k : ℕ) (log : Log) (one : Found) → slice_get held.logs k ≡ Some log → slice_get found k ≡ Some one → IsGoodFinding one → IsGoodLog log
  good_log_at k log one there at so =
      let its = log_of k one at in
      let same : its.0 ≡ log = some_one (sym its.1 ∙ there) in
      let same_log : one.log ≡ log = its.2.same_log ∙ same in
      subst (λ (limits : Limits). AllGood (edition_of log) (reads_by (edition_of log) limits) log.records (length log.records)) its.2.within
      (subst (λ (l : Log). AllGood (edition_of l) (reads_by (edition_of l) one.limits) l.records (length l.records)) same_log so.means)
    where
      some_one : {X : Type 0} {x y : X} → Some x ≡ Some y → x ≡ y
      some_one e = cc

  found_at : (k : ℕ) (log : Log) → slice_get held.logs k ≡ Some log → (one : Found) × (slice_get found k ≡ Some one)
  found_at k log there = there_is found k (let lt = slice_get_within held.logs k log there in let e = own.each in omega (arith, lt, e))

  pub all_logs_good : HoldsOfEach IsGoodFinding found → AreGoodLogs held
  all_logs_good each log there =
      let at = place_of held.logs log there in
      let its = found_at at.0 log at.1 in
      good_log_at at.0 log its.0 at.1 its.1 (each at.0 its.0 its.1)

  first_bad_of : (k : ℕ) (one : Found) → slice_get found k ≡ Some one → HoldsBefore IsGoodFinding found k → IsTrueOf one.log one.limits one.outcome
      → IsFirstBad held.logs one.log.vat one.outcome
  first_bad_of k one at before true =
      let its = log_of k one at in
      let here : slice_get held.logs k ≡ Some one.log = its.1 ∙ ap Some (sym its.2.same_log) in
      record {
        log = one.log;
        there = contained held.logs k one.log here;
        own = refl;
        found = subst (λ (limits : Limits). IsTrueOf one.log limits one.outcome) its.2.within true;
        smaller = λ other other_there less.
            let place = place_of held.logs other other_there in
            let that = found_at place.0 other place.1 in
            let lt = smaller_before (λ (log : Log). log.vat) held.logs own.rising k place.0 one.log other here place.1 less in
            good_log_at place.0 other that.0 place.1 that.1 (before place.0 that.0 lt that.1);
      }

  vat_line_of : (given : Option (List ℕ)) (vat : ℕ) (outcome : Outcome) (answer : Report) → line_of vat outcome ≡ Some answer → IsFirstBad held.logs vat outcome → IsLineOf held given answer
  vat_line_of given vat (Good story) answer e first = absurd cc
  vat_line_of given vat (Broken at rule) answer e first =
      let is : report.Vat vat at (Rule rule) ≡ answer = cc in subst (IsLineOf held given) is (record { whole = report.Vat vat at (Rule rule); report = first; line = refl })
  vat_line_of given vat (Outside at why) answer e first =
      let is : report.OutsideVat vat at why ≡ answer = cc in subst (IsLineOf held given) is (record { whole = report.OutsideVat vat at why; report = first; line = refl })

  pub bad_log_line : (answer : Report) → IsFirstNot IsGoodFinding (IsBadFinding answer) found → (given : Option (List ℕ)) → IsLineOf held given answer
  bad_log_line answer first given =
      vat_line_of given first.one.log.vat first.one.outcome answer first.so.line (first_bad_of first.place first.one first.there first.before first.so.means)

-- ---- links

module _ (held : Contents) (found : List Ends) (own : AreLinksFound held found) where
  link_of : (k : ℕ) (one : Ends) → slice_get found k ≡ Some one → (link : Link) × (slice_get held.links k ≡ Some link) × IsComparisonOf held.logs link one
  link_of k one at = taken (slice_get held.links k) (λ link. IsComparisonOf held.logs link one) (own.own k one at)

  good_link_at : (k : ℕ) (link : Link) (one : Ends) → slice_get held.links k ≡ Some link → slice_get found k ≡ Some one → AreGoodEnds one → IsGoodLink held.logs link
  good_link_at k link one there at so =
      let its = link_of k one at in
      let same : its.0 ≡ link = some_one (sym its.1 ∙ there) in
      record { ends = one; own = subst (λ (l : Link). IsComparisonOf held.logs l one) same its.2; good = so }
    where
      some_one : {X : Type 0} {x y : X} → Some x ≡ Some y → x ≡ y
      some_one e = cc

  ends_found_at : (k : ℕ) (link : Link) → slice_get held.links k ≡ Some link → (one : Ends) × (slice_get found k ≡ Some one)
  ends_found_at k link there = there_is found k (let lt = slice_get_within held.links k link there in let e = own.each in omega (arith, lt, e))

  pub all_links_good : HoldsOfEach AreGoodEnds found → AreGoodLinks held
  all_links_good each link there =
      let at = place_of held.links link there in
      let its = ends_found_at at.0 link at.1 in
      good_link_at at.0 link its.0 at.1 its.1 (each at.0 its.0 its.1)

  first_broken_of : (k : ℕ) (one : Ends) (end message : ℕ) → slice_get found k ≡ Some one → HoldsBefore AreGoodEnds found k → IsOutcome one (BrokenAt end message)
      → IsFirstBroken held one.connection end message
  first_broken_of k one end message at before means =
      let its = link_of k one at in
      record {
        link = its.0;
        there = contained held.links k its.0 its.1;
        number = sym its.2.connection;
        ends = one;
        own = its.2;
        found = means;
        smaller = λ other other_there less.
            let place = place_of held.links other other_there in
            let that = ends_found_at place.0 other place.1 in
            let lower = subst (λ (n : ℕ). other.connection < n) its.2.connection less in
            let lt = smaller_before (λ (link : Link). link.connection) held.links own.rising k place.0 its.0 other its.1 place.1 lower in
            good_link_at place.0 other that.0 place.1 that.1 (before place.0 that.0 lt that.1);
      }

  pub bad_link_line : (answer : Report) → AreGoodLogs held → IsFirstNot AreGoodEnds (AreBadEnds answer) found → (given : Option (List ℕ)) → IsLineOf held given answer
  bad_link_line answer good first given =
      let broken = first_broken_of first.place first.one first.so.end first.so.message first.there first.before first.so.means in
      record { whole = report.Link first.one.connection first.so.end first.so.message; report = (good, broken); line = first.so.line }
