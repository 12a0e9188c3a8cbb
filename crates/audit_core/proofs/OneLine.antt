-- A case has one line, by whatever order that fits.
use Rattle.std.proofs.Common.{◌≡◌, ℕ, suc, ◌+◌, ◌-◌, true, List, [], ◌∷◌, length, map, get_or, Option, Some, None, refl, sym, ap, ◌∙◌, subst, inl, inr, arith}
use Rattle.std.specs.Prelude.{◌==◌, Contains, IsTrue, slice_get}
use Rattle.std.specs.List.{list_any, AllByRecursion}
use Rattle.std.proofs.lemmas.Bool.{cases_lt}
use Rattle.std.proofs.lemmas.Option.{slice_get-map, slice_get-get_or}
use Rattle.cap_reader.specs.Defaults.{default_limits}
use Rattle.vat_log.specs.Log.{Log}
use Rattle.decoded_records.specs.Past.{Each}
use Rattle.vat_rules.specs.Audit.{Found, IsTrueOf, reads_by, edition_of}
use Rattle.vat_rules.specs.LogFacts.{Told}
use Rattle.vat_rules.specs.Types.{First}
use Rattle.vat_rules.specs.Events.{Reader}
use Rattle.vat_rules.specs.Telling.{told_of}
use Rattle.vat_rules.specs.declared.rule.Rule.{Rule as RuleType}
use Rattle.vat_rules.specs.declared.outcome.Why.{Why}
use Rattle.vat_rules.specs.declared.outcome.Outcome.{Outcome}
use Rattle.vat_rules.specs.declared.outcome.Outcome.TheVariants.{Good, Broken, Outside}
use Rattle.vat_rules.proofs.Unique.{one_outcome}
use Rattle.link_check.specs.Prefix.{Ends, IsOutcome, frames_received, frames_sent}
use Rattle.link_check.specs.declared.link_outcome.LinkOutcome.TheVariants.{Good as GoodLink, Broken as BrokenAt}
use Rattle.link_check.proofs.Faults.{one_outcome as one_link_outcome, length_prefix}
use Rattle.merge_order.specs.Fits.{IsFitting}
use Rattle.merge_order.specs.declared.order_check.OrderFinding.TheVariants.{Fits, Fails}
use Rattle.merge_order.proofs.Steps.{finding_fits}
use Rattle.run_model.specs.Led.{SendsLedTo}
use Rattle.run_model.specs.Steps.{vat_of, EachOf}
use Rattle.run_model.specs.declared.step.Step.{Step}
use Rattle.run_model.specs.Edges.{AreEdges, Edge}
use Rattle.run_model.specs.Early.{IsOrderFault}
use Rattle.call_trace.specs.Balance.{IsBalanced}
use Rattle.call_trace.specs.Findings.{AreEnds, AreOfFirstEdition, AreTrue, logs_of, MayBeNamed}
use Rattle.call_trace.specs.InLife.{UsesLives}
use Rattle.call_trace.specs.Named.{past_of, taken_before, AtEachPoint, IsRunOf}
use Rattle.call_trace.specs.Part.{IsPart}
use Rattle.call_trace.proofs.Leading.{firsts_lead}
use Rattle.call_trace.proofs.Orders.{one_order_fault, one_list_of_edges}
use Rattle.call_trace.proofs.Single.{one_run}
use Rattle.case_book.specs.Case.{Contents, IsCase}
use Rattle.case_book.specs.Ties.{tie_fault_of}
use Rattle.case_book.specs.Pieces.{IsComparisonOf}
use Rattle.case_book.specs.declared.link.Link.{Link}
use Rattle.audit_core.specs.Headline.{Explains}
use Rattle.audit_core.specs.Report.{IsGoodLog, AreGoodEnds, IsFirstBad, IsFirstBroken, IsGoodLink, AreGoodLogs, IsGoodCase, IsEarlyAt, IsYes, FailsAt, HasNoOrder, IsReport, line_in, IsFittingIfGiven, HoldsOfEach, IsGoodFinding}
use Rattle.audit_core.specs.Versions.{IsOfFirstEdition}
use Rattle.audit_core.specs.Glue.{line_of}
use Rattle.case_report.specs.declared.report.Breach.TheVariants.{Rule, Order}
use Rattle.case_report.specs.declared.report.Report.{Report}
use Rattle.case_report.specs.declared.report.Report.TheVariants as report
use Rattle.audit_core.proofs.Places.{from_map, each_so, place_of, contained, one_contained}
use Rattle.audit_core.proofs.Explaining.{or_later}
use Rattle.audit_core.proofs.Naming.{named_of}

-- ---- a log that isn't good has one line

-- how a log is read
abbrev reads_log : Log → Reader
reads_log log bytes = reads_by (edition_of log) default_limits bytes

-- what it tells
abbrev tells : Log → Told
tells log = told_of (reads_log log) log.records

not_good : (log : Log) (outcome : Outcome) → IsTrueOf log default_limits outcome → IsGoodLog log → outcome ≡ Good (tells log)
not_good log outcome found good = one_outcome (edition_of log) (reads_log log) log.records outcome (Good (tells log)) found (good, refl)

-- an outcome that isn't good
abbrev pub IsBad : Outcome → Type 0
IsBad a = (story : Told) → a ≡ Good story → ⊥

-- what is found of the first bad log is one thing
one_first_bad : (held : Contents) → IsCase held → (v w : ℕ) (a b : Outcome) → IsFirstBad held.logs v a → IsFirstBad held.logs w b → IsBad a → IsBad b → (v ≡ w) × (a ≡ b)
one_first_bad held case v w a b one other a_bad b_bad =
    elim (cases_lt v w) [
      | inl lt ↦ absurd (a_bad (tells one.log) (not_good one.log a one.found (other.smaller one.log one.there (let own = one.own in omega arith))))
      | inr ge ↦ elim (cases_lt w v) [
        | inl lt ↦ absurd (b_bad (tells other.log) (not_good other.log b other.found (one.smaller other.log other.there (let own = other.own in omega arith))))
        | inr le ↦
            let same : v ≡ w = omega arith in
            let logs : one.log ≡ other.log = one_contained (λ (log : Log). log.vat) held.logs case.rising_vats one.log other.log one.there other.there (one.own ∙ same ∙ sym other.own) in
            (same, one_outcome (edition_of other.log) (reads_log other.log) other.log.records a b (subst (λ (log : Log). IsTrueOf log default_limits a) logs one.found) other.found)
      ]
    ]

pub no_bad_log : (held : Contents) (v : ℕ) (a : Outcome) → IsFirstBad held.logs v a → IsBad a → AreGoodLogs held → ⊥
no_bad_log held v a first bad good = bad (tells first.log) (not_good first.log a first.found (good first.log first.there))

-- ---- a link that isn't good has one line

good_outcome : (ends : Ends) → AreGoodEnds ends → (delivered : ℕ) × ((in_flight : ℕ) × IsOutcome ends (GoodLink delivered in_flight))
good_outcome ends good =
    let came = length (frames_received ends.connection ends.first) + length (frames_received ends.connection ends.second) in
    let went = length (frames_sent ends.connection ends.first) + length (frames_sent ends.connection ends.second) in
    let one = length_prefix (frames_received ends.connection ends.first) (frames_sent ends.connection ends.second) good.at_first in
    let other = length_prefix (frames_received ends.connection ends.second) (frames_sent ends.connection ends.first) good.at_second in
    (came, (went - came, record { at_first = good.at_first; at_second = good.at_second; came = refl; went = omega (arith, one, other) }))

not_both : (delivered in_flight end message : ℕ) → GoodLink delivered in_flight ≡ BrokenAt end message → ⊥
not_both delivered in_flight end message e = cc

no_bad_ends : (ends : Ends) (end message : ℕ) → IsOutcome ends (BrokenAt end message) → AreGoodEnds ends → ⊥
no_bad_ends ends end message broken good =
    let outcome = good_outcome ends good in
    not_both outcome.0 outcome.1.0 end message (one_link_outcome ends (GoodLink outcome.0 outcome.1.0) (BrokenAt end message) outcome.1.1 broken)

made : (one other : Ends) → one.connection ≡ other.connection → one.first ≡ other.first → one.second ≡ other.second → one ≡ other
made one other connection first second =
    ap (λ (k : ℕ). let ends : Ends = record { connection = k; first = one.first; second = one.second } in ends) connection
    ∙ ap (λ (log : Log). let ends : Ends = record { connection = other.connection; first = log; second = one.second } in ends) first
    ∙ ap (λ (log : Log). let ends : Ends = record { connection = other.connection; first = other.first; second = log } in ends) second

module _ (held : Contents) (case : IsCase held) where
  same_ends : (link : Link) (one other : Ends) → IsComparisonOf held.logs link one → IsComparisonOf held.logs link other → one ≡ other
  same_ends link one other own own_too =
      made one other (own.connection ∙ sym own_too.connection)
      (one_contained (λ (log : Log). log.vat) held.logs case.rising_vats one.first other.first own.first_held own_too.first_held (own.smaller ∙ sym own_too.smaller))
      (one_contained (λ (log : Log). log.vat) held.logs case.rising_vats one.second other.second own.second_held own_too.second_held (own.greater ∙ sym own_too.greater))

  pub no_bad_link : (k end message : ℕ) (first : IsFirstBroken held k end message) → IsGoodLink held.logs first.link → ⊥
  no_bad_link k end message first good =
      no_bad_ends first.ends end message first.found (subst AreGoodEnds (same_ends first.link good.ends first.ends good.own first.own) good.good)

  one_first_broken : (k l end other_end message other_message : ℕ) → IsFirstBroken held k end message → IsFirstBroken held l other_end other_message
      → (k ≡ l) × (BrokenAt end message ≡ BrokenAt other_end other_message)
  one_first_broken k l end other_end message other_message one other =
      elim (cases_lt k l) [
        | inl lt ↦ absurd (no_bad_link k end message one (other.smaller one.link one.there (let number = one.number in omega arith)))
        | inr ge ↦ elim (cases_lt l k) [
          | inl lt ↦ absurd (no_bad_link l other_end other_message other (one.smaller other.link other.there (let number = other.number in omega arith)))
          | inr le ↦
              let same : k ≡ l = omega arith in
              let links : one.link ≡ other.link = one_contained (λ (link : Link). link.connection) held.links case.rising_links one.link other.link one.there other.there (one.number ∙ same ∙ sym other.number) in
              let ends = same_ends other.link one.ends other.ends (subst (λ (link : Link). IsComparisonOf held.logs link one.ends) links one.own) other.own in (
                same,
                one_link_outcome other.ends (BrokenAt end message) (BrokenAt other_end other_message)
                    (subst (λ (e : Ends). IsOutcome e (BrokenAt end message)) ends one.found) other.found,
              )
        ]
      ]

-- ---- the findings of good logs

abbrev pub finding_for : Log → Found
finding_for log = record { log = log; limits = default_limits; outcome = Good (tells log) }

abbrev pub findings_for : List Log → List Found
findings_for logs = map finding_for logs

logs_back : (logs : List Log) → logs_of (findings_for logs) ≡ logs
logs_back [] = refl
logs_back (log ∷ logs) = ap (λ (l : List Log). log ∷ l) (logs_back logs)

finding_is : (logs : List Log) (k : ℕ) (found : Found) → slice_get (findings_for logs) k ≡ Some found → (log : Log) × (slice_get logs k ≡ Some log) × (finding_for log ≡ found)
finding_is logs k found at = from_map finding_for (slice_get logs k) found (sym (slice_get-map finding_for logs k) ∙ at)

each_from : {X : Type 0} (P : X → Type 0) (xs : List X) → ((k : ℕ) (x : X) → slice_get xs k ≡ Some x → P x) → AllByRecursion P xs
each_from P [] each = tt
each_from P (x ∷ xs) each = (each 0 x refl, each_from P xs (λ k. each (suc k)))

any_finding : (v : ℕ) (logs : List Log) → list_any (λ log. log.vat == v) logs ≡ true → list_any (λ finding. finding.log.vat == v) (findings_for logs) ≡ true
any_finding v [] e = e
any_finding v (log ∷ logs) e =
    or_later (log.vat == v) (list_any (λ log. log.vat == v) logs) (list_any (λ finding. finding.log.vat == v) (findings_for logs)) (any_finding v logs) e

module _ (held : Contents) (case : IsCase held) (tied : tie_fault_of held ≡ None) (good : IsGoodCase held) where
  good_at : (log : Log) → Contains held.logs log → IsGoodFinding (finding_for log)
  good_at log there = record { says = refl; means = good.logs_good log there }

  pub each_good : HoldsOfEach IsGoodFinding (findings_for held.logs)
  each_good k found at =
      let own = finding_is held.logs k found at in
      subst IsGoodFinding own.2 (good_at own.0 (contained held.logs k own.0 own.1))

  pub all_true : AreTrue (findings_for held.logs)
  all_true k d lt =
      let own = finding_is held.logs k (get_or (findings_for held.logs) k d) (slice_get-get_or (findings_for held.logs) k d lt) in
      subst (λ (found : Found). IsTrueOf found.log found.limits found.outcome) own.2 (good.logs_good own.0 (contained held.logs k own.0 own.1), refl)

  asked_of : (order : List ℕ) → IsFitting held.logs order → MayBeNamed (findings_for held.logs) order
  asked_of order fits =
      named_of held case tied (findings_for held.logs) (logs_back held.logs) each_good good.links_good order (subst (λ (logs : List Log). IsFitting logs order) (sym (logs_back held.logs)) fits)

  module _ (order : List ℕ) (run : List Step) (so : Explains held.logs order run) where
    balanced_all : AtEachPoint (findings_for held.logs) order (λ k exporter importer. (n : ℕ) → IsBalanced k n exporter importer)
    balanced_all i k one other one_there other_there ends n =
        let one_at = place_of (findings_for held.logs) one one_there in
        let other_at = place_of (findings_for held.logs) other other_there in
        let own = finding_is held.logs one_at.0 one one_at.1 in
        let own_too = finding_is held.logs other_at.0 other other_at.1 in
        let here = subst (λ (logs : List Log). AreEnds logs k one.log other.log) (logs_back held.logs) ends in
        let first = subst (λ (log : Log). AreEnds held.logs k log other.log) (sym (ap (λ (found : Found). found.log) own.2)) here in
        let both = subst (λ (log : Log). AreEnds held.logs k own.0 log) (sym (ap (λ (found : Found). found.log) own_too.2)) first in
        let bare = so.balanced i k own.0 own_too.0 (contained held.logs one_at.0 own.0 own.1) (contained held.logs other_at.0 own_too.0 own_too.1) both n in
        subst (λ (found : Found). IsBalanced k n (taken_before order i found) (taken_before order i other)) own.2
        (subst (λ (found : Found). IsBalanced k n (taken_before order i (finding_for own.0)) (taken_before order i found)) own_too.2 bare)

    run_of : IsRunOf (findings_for held.logs) order run
    run_of = record {
      by_order = so.by_order;
      parts = record {
        parts = each_from (λ finding. IsPart run finding.log.vat (past_of finding)) (findings_for held.logs)
            (λ k found at. (let own = finding_is held.logs k found at in
            subst (λ (f : Found). IsPart run f.log.vat (past_of f)) own.2 (so.parts own.0 (contained held.logs k own.0 own.1))));
        no_others = each_so (λ s. IsTrue (list_any (λ log. log.vat == vat_of s) held.logs)) (λ s. IsTrue (list_any (λ finding. finding.log.vat == vat_of s) (findings_for held.logs)))
            (λ s. any_finding (vat_of s) held.logs) run so.no_others;
      };
      legal = so.legal;
      linked = so.linked;
      reached = so.reached;
      connected = so.connected;
      lives = each_from (λ finding. Each UsesLives (past_of finding)) (findings_for held.logs)
          (λ k found at. (let own = finding_is held.logs k found at in
          subst (λ (f : Found). Each UsesLives (past_of f)) own.2 (so.lives own.0 (contained held.logs k own.0 own.1))));
      balanced = balanced_all;
    }

  one_fault_of : (order other : List ℕ) → IsFitting held.logs order → IsFitting held.logs other → (run other_run : List Step) → Explains held.logs order run → Explains held.logs other other_run
      → (place other_place : Option (ℕ × ℕ)) → IsOrderFault run place → IsOrderFault other_run other_place → place ≡ other_place
  one_fault_of order other fits fits_too run other_run so so_too place other_place fault fault_too =
      one_order_fault (findings_for held.logs) order other all_true (asked_of order fits) (asked_of other fits_too) run other_run (run_of order run so) (run_of other other_run so_too) place other_place fault fault_too

  pub one_run_of : (order : List ℕ) → IsFitting held.logs order → (run other : List Step) → Explains held.logs order run → Explains held.logs order other → run ≡ other
  one_run_of order fits run other so so_too = one_run (findings_for held.logs) order all_true (asked_of order fits) run other (run_of order run so) (run_of order other so_too)

  -- where all logs are of versions 1 and 2, each step of the run sends what is led to
  pub led_of : IsOfFirstEdition held → (order : List ℕ) → IsFitting held.logs order → (run : List Step) → Explains held.logs order run → EachOf SendsLedTo run
  led_of firsts order fits run so = firsts_lead (findings_for held.logs) order all_true (asked_of order fits) all_first run (run_of order run so)
    where
      all_first : AreOfFirstEdition (findings_for held.logs)
      all_first k d lt =
          let own = finding_is held.logs k (get_or (findings_for held.logs) k d) (slice_get-get_or (findings_for held.logs) k d lt) in
          subst (λ (found : Found). edition_of found.log ≡ First) own.2 (firsts own.0 (contained held.logs k own.0 own.1))

  one_graph_of : (order other : List ℕ) → IsFitting held.logs order → IsFitting held.logs other → (run other_run : List Step) → Explains held.logs order run → Explains held.logs other other_run
      → (edges other_edges : List Edge) → AreEdges run edges → AreEdges other_run other_edges → edges ≡ other_edges
  one_graph_of order other fits fits_too run other_run so so_too =
      one_list_of_edges (findings_for held.logs) order other all_true (asked_of order fits) (asked_of other fits_too) run other_run (run_of order run so) (run_of other other_run so_too)

-- the runs of two yeses have the same edges
pub one_graph : (held : Contents) → IsCase held → tie_fault_of held ≡ None → (given other_given : Option (List ℕ))
    → (vats records delivered under_way other_vats other_records other_delivered other_under_way : ℕ) (run other_run : List Step)
    → IsReport held given (report.Yes vats records delivered under_way run) → IsReport held other_given (report.Yes other_vats other_records other_delivered other_under_way other_run)
    → (edges other_edges : List Edge) → AreEdges run edges → AreEdges other_run other_edges → edges ≡ other_edges
one_graph held case tied given other_given vats records delivered under_way other_vats other_records other_delivered other_under_way run other_run is is_too =
    one_graph_of held case tied is.0 is.1.order is_too.1.order is.1.fits is_too.1.fits run other_run is.1.headline.explained is_too.1.headline.explained

-- ---- the lines

some_report : (one other : Report) → Some one ≡ Some other → one ≡ other
some_report one other e = cc

some_none : (place : ℕ × ℕ) → Some place ≡ None → ⊥
some_none place e = cc

link_report : (k l end other_end message other_message : ℕ) → k ≡ l → BrokenAt end message ≡ BrokenAt other_end other_message → report.Link k end message ≡ report.Link l other_end other_message
link_report k l end other_end message other_message same outcome = cc

some_place : (place other : ℕ × ℕ) → ◌≡◌ {A = Option (ℕ × ℕ)} (Some place) (Some other) → place ≡ other
some_place place other e = cc

vat_report : (v w at other_at : ℕ) → ◌≡◌ {A = Option (ℕ × ℕ)} (Some (v, at)) (Some (w, other_at)) → report.Vat v at Order ≡ report.Vat w other_at Order
vat_report v w at other_at e = ap (λ (place : ℕ × ℕ). report.Vat place.0 place.1 Order) (some_place (v, at) (w, other_at) e)

yes_counts : (a b c d e f g h : ℕ) → a ≡ b → c ≡ d → e ≡ f → g ≡ h → report.Yes a c e g [] ≡ report.Yes b d f h []
yes_counts a b c d e f g h one two three four = cc

fails_is_not_fits : (step : ℕ) → Fails step ≡ Fits → ⊥
fails_is_not_fits step e = cc

pub fails_not : (logs : List Log) (given : Option (List ℕ)) (step : ℕ) → FailsAt logs given step → IsFittingIfGiven logs given → ⊥
fails_not logs None step fails fits = fails
fails_not logs (Some order) step fails fits = let both = sym fails ∙ (finding_fits logs order).1 fits in (fails_is_not_fits step both)

some_fits : (logs : List Log) (given : Option (List ℕ)) (order : List ℕ) → HasNoOrder logs given → IsFitting logs order → ⊥
some_fits logs None order none fits = none order fits
some_fits logs (Some given) order none fits = none

pub broken_is_bad : (at : ℕ) (rule : RuleType) → IsBad (Broken at rule)
broken_is_bad at rule story e = cc

pub outside_is_bad : (at : ℕ) (why : Why) → IsBad (Outside at why)
outside_is_bad at why story e = cc

module _ (held : Contents) (case : IsCase held) (given : Option (List ℕ)) where
  pub bad_line : (v : ℕ) (a : Outcome) (answer : Report) → IsFirstBad held.logs v a → IsBad a → line_of v a ≡ Some answer → (other : Report) → IsReport held given other → line_in answer ≡ line_in other
  bad_line v a answer first bad line (report.Vat w at (Rule rule)) is =
      let same = one_first_bad held case v w a (Broken at rule) first is bad (broken_is_bad at rule) in
      ap line_in (some_report answer (report.Vat w at (Rule rule)) (sym line ∙ ap (λ (n : ℕ). line_of n a) same.0 ∙ ap (line_of w) same.1))
  bad_line v a answer first bad line (report.OutsideVat w at why) is =
      let same = one_first_bad held case v w a (Outside at why) first is bad (outside_is_bad at why) in
      ap line_in (some_report answer (report.OutsideVat w at why) (sym line ∙ ap (λ (n : ℕ). line_of n a) same.0 ∙ ap (line_of w) same.1))
  bad_line v a answer first bad line (report.Link k end message) is = absurd (no_bad_log held v a first bad is.0)
  bad_line v a answer first bad line (report.OrderStep step) is = absurd (no_bad_log held v a first bad is.0.logs_good)
  bad_line v a answer first bad line report.NoOrder is = absurd (no_bad_log held v a first bad is.0.logs_good)
  bad_line v a answer first bad line (report.Vat w at Order) is = absurd (no_bad_log held v a first bad is.0.logs_good)
  bad_line v a answer first bad line (report.Yes vats records delivered under_way run) is = absurd (no_bad_log held v a first bad is.0.logs_good)

  pub broken_line : (k end message : ℕ) → AreGoodLogs held → IsFirstBroken held k end message → (other : Report) → IsReport held given other → report.Link k end message ≡ line_in other
  broken_line k end message good first (report.Vat w at (Rule rule)) is = absurd (no_bad_log held w (Broken at rule) is (broken_is_bad at rule) good)
  broken_line k end message good first (report.OutsideVat w at why) is = absurd (no_bad_log held w (Outside at why) is (outside_is_bad at why) good)
  broken_line k end message good first (report.Link l other_end other_message) is =
      let same = one_first_broken held case k l end other_end message other_message first is.1 in
      link_report k l end other_end message other_message same.0 same.1
  broken_line k end message good first (report.OrderStep step) is = absurd (no_bad_link held case k end message first (is.0.links_good first.link first.there))
  broken_line k end message good first report.NoOrder is = absurd (no_bad_link held case k end message first (is.0.links_good first.link first.there))
  broken_line k end message good first (report.Vat w at Order) is = absurd (no_bad_link held case k end message first (is.0.links_good first.link first.there))
  broken_line k end message good first (report.Yes vats records delivered under_way run) is = absurd (no_bad_link held case k end message first (is.0.links_good first.link first.there))

module _ (held : Contents) (case : IsCase held) (tied : tie_fault_of held ≡ None) where
  pub early_line : (given other_given : Option (List ℕ)) → IsFittingIfGiven held.logs other_given → IsGoodCase held → (v at : ℕ) → IsEarlyAt held.logs given v at
      → (other : Report) → IsReport held other_given other → report.Vat v at Order ≡ line_in other
  early_line given other_given fits good v at early (report.Vat w other_at (Rule rule)) is = absurd (no_bad_log held w (Broken other_at rule) is (broken_is_bad other_at rule) good.logs_good)
  early_line given other_given fits good v at early (report.OutsideVat w other_at why) is = absurd (no_bad_log held w (Outside other_at why) is (outside_is_bad other_at why) good.logs_good)
  early_line given other_given fits good v at early (report.Link k end message) is = absurd (no_bad_link held case k end message is.1 (good.links_good is.1.link is.1.there))
  early_line given other_given fits good v at early (report.OrderStep step) is = absurd (fails_not held.logs other_given step is.1 fits)
  early_line given other_given fits good v at early report.NoOrder is = absurd (some_fits held.logs other_given early.order is.1 early.fits)
  early_line given other_given fits good v at early (report.Vat w other_at Order) is =
      let same = one_fault_of held case tied good early.order is.1.order early.fits is.1.fits early.run is.1.run early.explained is.1.explained (Some (v, at)) (Some (w, other_at)) early.early is.1.early in
      vat_report v w at other_at same
  early_line given other_given fits good v at early (report.Yes vats records delivered under_way run) is = absurd (
      some_none (v, at) (one_fault_of held case tied good early.order is.1.order early.fits is.1.fits early.run run early.explained is.1.headline.explained (Some (v, at)) None early.early is.1.headline.ordered)
      )

  pub yes_line : (given other_given : Option (List ℕ)) → IsFittingIfGiven held.logs other_given → IsGoodCase held → (vats records delivered under_way : ℕ) (run : List Step)
      → IsYes held.logs given vats records delivered under_way run → (other : Report) → IsReport held other_given other → report.Yes vats records delivered under_way [] ≡ line_in other
  yes_line given other_given fits good vats records delivered under_way run said (report.Vat w at (Rule rule)) is = absurd (no_bad_log held w (Broken at rule) is (broken_is_bad at rule) good.logs_good)
  yes_line given other_given fits good vats records delivered under_way run said (report.OutsideVat w at why) is = absurd (no_bad_log held w (Outside at why) is (outside_is_bad at why) good.logs_good)
  yes_line given other_given fits good vats records delivered under_way run said (report.Link k end message) is = absurd (no_bad_link held case k end message is.1 (good.links_good is.1.link is.1.there))
  yes_line given other_given fits good vats records delivered under_way run said (report.OrderStep step) is = absurd (fails_not held.logs other_given step is.1 fits)
  yes_line given other_given fits good vats records delivered under_way run said report.NoOrder is = absurd (some_fits held.logs other_given said.order is.1 said.fits)
  yes_line given other_given fits good vats records delivered under_way run said (report.Vat w at Order) is = absurd (
      some_none (w, at) (sym (one_fault_of held case tied good said.order is.1.order said.fits is.1.fits run is.1.run said.headline.explained is.1.explained None (Some (w, at)) said.headline.ordered is.1.early))
      )
  yes_line given other_given fits good vats records delivered under_way run said (report.Yes other_vats other_records other_delivered other_under_way other_run) is =
      yes_counts vats other_vats records other_records delivered other_delivered under_way other_under_way (said.vats_are ∙ sym is.1.vats_are) (said.records_are ∙ sym is.1.records_are)
      (said.delivered_are ∙ sym is.1.delivered_are) (said.under_way_are ∙ sym is.1.under_way_are)

  pub none_line : (given other_given : Option (List ℕ)) → IsFittingIfGiven held.logs other_given → IsGoodCase held → HasNoOrder held.logs given → (other : Report) → IsReport held other_given other
      → report.NoOrder ≡ line_in other
  none_line given other_given fits good none (report.Vat w at (Rule rule)) is = absurd (no_bad_log held w (Broken at rule) is (broken_is_bad at rule) good.logs_good)
  none_line given other_given fits good none (report.OutsideVat w at why) is = absurd (no_bad_log held w (Outside at why) is (outside_is_bad at why) good.logs_good)
  none_line given other_given fits good none (report.Link k end message) is = absurd (no_bad_link held case k end message is.1 (good.links_good is.1.link is.1.there))
  none_line given other_given fits good none (report.OrderStep step) is = absurd (fails_not held.logs other_given step is.1 fits)
  none_line given other_given fits good none report.NoOrder is = refl
  none_line given other_given fits good none (report.Vat w at Order) is = absurd (some_fits held.logs given is.1.order none is.1.fits)
  none_line given other_given fits good none (report.Yes vats records delivered under_way run) is = absurd (some_fits held.logs given is.1.order none is.1.fits)

  one_line_of : (given other_given : Option (List ℕ)) → IsFittingIfGiven held.logs given → IsFittingIfGiven held.logs other_given → (one other : Report) → IsReport held given one
      → IsReport held other_given other → line_in one ≡ line_in other
  one_line_of given other_given fits fits_too (report.Vat v at (Rule rule)) other is is_too =
      bad_line held case other_given v (Broken at rule) (report.Vat v at (Rule rule)) is (broken_is_bad at rule) refl other is_too
  one_line_of given other_given fits fits_too (report.OutsideVat v at why) other is is_too =
      bad_line held case other_given v (Outside at why) (report.OutsideVat v at why) is (outside_is_bad at why) refl other is_too
  one_line_of given other_given fits fits_too (report.Link k end message) other is is_too = broken_line held case other_given k end message is.0 is.1 other is_too
  one_line_of given other_given fits fits_too (report.OrderStep step) other is is_too = absurd (fails_not held.logs given step is.1 fits)
  one_line_of given other_given fits fits_too report.NoOrder other is is_too = none_line given other_given fits_too is.0 is.1 other is_too
  one_line_of given other_given fits fits_too (report.Vat v at Order) other is is_too = early_line given other_given fits_too is.0 v at is.1 other is_too
  one_line_of given other_given fits fits_too (report.Yes vats records delivered under_way run) other is is_too =
      yes_line given other_given fits_too is.0 vats records delivered under_way run is.1 other is_too

pub one_line : (held : Contents) → IsCase held → tie_fault_of held ≡ None → (given other_given : Option (List ℕ)) → IsFittingIfGiven held.logs given → IsFittingIfGiven held.logs other_given
    → (one other : Report) → IsReport held given one → IsReport held other_given other → line_in one ≡ line_in other
one_line held case tied = one_line_of held case tied
