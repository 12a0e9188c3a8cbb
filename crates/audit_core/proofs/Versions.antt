-- A report depends on the versions of logs by their editions alone: a link, an order and a run speak of records and
-- messages. Logs are compared as they are once they are raised, which leaves nothing of their versions.
use Rattle.std.proofs.Common.{◌≡◌, ℕ, ◌+◌, ◌-◌, ◌<◌, Bool, true, false, cond, ◌&&◌, ◌||◌, if◌then◌else◌, List, [], ◌∷◌, ◌++◌, length, map, Option, Some, None, refl, sym, ap, ap₂, ◌∙◌, subst, inl, inr}
use Rattle.std.specs.Prelude.{◌==◌, not, Contains, IsTrue, count_by, filter, sum_by, slice_get}
use Rattle.std.specs.Option.{option_map}
use Rattle.std.specs.List.{flat_map, list_any, AllByRecursion}
use Rattle.std.proofs.lemmas.List.{length-map}
use Rattle.std.proofs.lemmas.List.Concat.{flat_map-cons}
use Rattle.std.proofs.lemmas.List.Sums.{sum_by-cons}
use Rattle.std.proofs.lemmas.Option.{slice_get-map}
use Rattle.cap_reader.specs.Defaults.{default_limits}
use Rattle.vat_log.specs.declared.body.Body.{Body}
use Rattle.vat_log.specs.Log.{Log}
use Rattle.vat_log.specs.Migrated.{migrated_version, migrated, raised}
use Rattle.vat_log.specs.declared.version.LogVersion.{LogVersion}
use Rattle.vat_log.specs.declared.version.LogVersion.TheVariants.{One, Two, Three}
use Rattle.decoded_records.specs.Past.{Each}
use Rattle.vat_rules.specs.Audit.{reads_by, edition_of_version, edition_of, IsTrueOf}
use Rattle.vat_rules.specs.First.{AllGood, IsFirst}
use Rattle.vat_rules.specs.Types.{Edition}
use Rattle.vat_rules.specs.declared.outcome.Outcome.{Outcome}
use Rattle.link_check.specs.Prefix.{Ends, IsOutcome}
use Rattle.link_check.specs.declared.link_outcome.LinkOutcome.TheVariants.{Broken as BrokenAt}
use Rattle.run_model.specs.Steps.{vat_of}
use Rattle.run_model.specs.declared.step.Step.{Step}
use Rattle.run_model.specs.Edges.{AreEdges, Edge}
use Rattle.call_trace.specs.Balance.{IsBalanced}
use Rattle.call_trace.specs.Findings.{AreEnds, uses}
use Rattle.call_trace.specs.InLife.{UsesLives}
use Rattle.call_trace.specs.Part.{IsPart}
use Rattle.case_book.specs.Case.{Contents, IsCase, connections_of, or_else}
use Rattle.case_book.specs.Least.{least}
use Rattle.case_book.specs.Ties.{tie_fault_of, unlinked_in, lacks_log, links_of_one_vat}
use Rattle.case_book.specs.declared.ties.TieFault.TheVariants.{MissingLog, SameEnds}
use Rattle.case_book.specs.Pieces.{IsComparisonOf}
use Rattle.case_book.specs.declared.link.Link.{Link}
use Rattle.audit_core.specs.Headline.{Explains, IsBalancedThroughout, records_of, taken_of}
use Rattle.audit_core.specs.Report.{IsGoodLog, AreGoodEnds, IsFirstBad, IsFirstBroken, IsGoodLink, AreGoodLogs, AreGoodLinks, IsGoodCase, IsOrderFor, IsEarlyAt, IsYes, FailsAt, HasNoOrder, IsReport, records_delivery}
use Rattle.vat_log.specs.Passages.{sends, receives}
use Rattle.audit_core.specs.Versions.{AreSameButVersions}
use Rattle.case_report.specs.declared.report.Breach.TheVariants.{Rule, Order}
use Rattle.case_report.specs.declared.report.Report.{Report}
use Rattle.case_report.specs.declared.report.Report.TheVariants as report
use Rattle.audit_core.proofs.Places.{from_map, place_of, contained}
use Rattle.audit_core.proofs.Merging.{fits_same, least_same, finding_same}
use Rattle.audit_core.proofs.OneLine.{one_graph}
use Rattle.audit_core.proofs.OneReport.{same_report}

-- ---- what is counted and tested of all logs

any_moved : (test : ℕ → Bool) (logs : List Log) → list_any (λ log. test log.vat) (map raised logs) ≡ list_any (λ log. test log.vat) logs
any_moved test [] = refl
any_moved test (log ∷ logs) = ap (λ b. test log.vat || b) (any_moved test logs)

sum_moved : (f : List Body → ℕ) (logs : List Log) → sum_by (λ log. f log.records) (map raised logs) ≡ sum_by (λ log. f log.records) logs
sum_moved f [] = refl
sum_moved f (log ∷ logs) =
    sum_by-cons (λ (l : Log). f l.records) (raised log) (map raised logs) ∙ ap (λ n. f log.records + n) (sum_moved f logs)
    ∙ sym (sum_by-cons (λ (l : Log). f l.records) log logs)

each_as : {X : Type 0} (P Q : X → Type 0) → ((x : X) → P x → Q x) → (xs : List X) → AllByRecursion P xs → AllByRecursion Q xs
each_as P Q turn [] h = tt
each_as P Q turn (x ∷ xs) h = (turn x h.0, each_as P Q turn xs h.1)

-- ---- whether a case ties up

unlinked_moved : (links : List Link) (logs : List Log) → flat_map (unlinked_in links) (map raised logs) ≡ flat_map (unlinked_in links) logs
unlinked_moved links [] = refl
unlinked_moved links (log ∷ logs) =
    flat_map-cons (unlinked_in links) (raised log) (map raised logs) ∙ ap (λ (rest : List ℕ). unlinked_in links log ++ rest) (unlinked_moved links logs)
    ∙ sym (flat_map-cons (unlinked_in links) log logs)

lacks_moved : (logs : List Log) (link : Link) → lacks_log (map raised logs) link ≡ lacks_log logs link
lacks_moved logs link = ap₂ (λ (a b : Bool). not (a && b)) (any_moved (λ n. n == link.a) logs) (any_moved (λ n. n == link.b) logs)

filter_as : {X : Type 0} (f g : X → Bool) → ((x : X) → f x ≡ g x) → (xs : List X) → filter f xs ≡ filter g xs
filter_as f g same [] = refl
filter_as {X = X} f g same (x ∷ xs) = ap₂ (λ (b : Bool) (rest : List X). cond b (x ∷ rest) rest) (same x) (filter_as f g same xs)

ties_moved : (logs : List Log) (links : List Link) → tie_fault_of (record { logs = map raised logs; links = links }) ≡ tie_fault_of (record { logs = logs; links = links })
unfolding tie_fault_of
ties_moved logs links =
    ap₂ (λ (used lacking : List ℕ). or_else (option_map MissingLog (least (used ++ lacking))) (option_map SameEnds (least (links_of_one_vat links))))
    (unlinked_moved links logs) (ap connections_of (filter_as (lacks_log (map raised logs)) (lacks_log logs) (lacks_moved logs) links))

pub ties_alike : (logs others : List Log) → map raised logs ≡ map raised others → (links : List Link) → tie_fault_of (record { logs = logs; links = links }) ≡ tie_fault_of (record { logs = others; links = links })
ties_alike logs others same links = sym (ties_moved logs links) ∙ ap (λ (ls : List Log). tie_fault_of (record { logs = ls; links = links })) same ∙ ties_moved others links

-- ---- the ends of a link

abbrev moved_ends : Ends → Ends
moved_ends ends = record { connection = ends.connection; first = raised ends.first; second = raised ends.second }

good_moved : (ends : Ends) → AreGoodEnds ends → AreGoodEnds (moved_ends ends)
good_moved ends h = record { at_first = h.at_first; at_second = h.at_second }

good_back : (ends : Ends) → AreGoodEnds (moved_ends ends) → AreGoodEnds ends
good_back ends h = record { at_first = h.at_first; at_second = h.at_second }

broken_moved : (ends : Ends) (at message : ℕ) → IsOutcome ends (BrokenAt at message) → IsOutcome (moved_ends ends) (BrokenAt at message)
broken_moved ends at message (inl h) = inl (record { end = h.end; fault = h.fault })
broken_moved ends at message (inr h) = inr (record { end = h.end; at_first = h.at_first; fault = h.fault })

broken_back : (ends : Ends) (at message : ℕ) → IsOutcome (moved_ends ends) (BrokenAt at message) → IsOutcome ends (BrokenAt at message)
broken_back ends at message (inl h) = inl (record { end = h.end; fault = h.fault })
broken_back ends at message (inr h) = inr (record { end = h.end; at_first = h.at_first; fault = h.fault })

-- ---- the log of the same vat in another list

-- what two logs that are the same but for their versions have in common
vats_same : (a b : Log) → raised a ≡ raised b → a.vat ≡ b.vat
vats_same a b e = ap (λ (l : Log). l.vat) e

-- the log of another list that is changed into the same
twin_by : (f : Log → Log) (logs others : List Log) → map f logs ≡ map f others → (log : Log) → Contains logs log → (other : Log) × Contains others other × (f other ≡ f log)
twin_by f logs others same log there =
    let at = place_of logs log there in
    let moved : slice_get (map f others) at.0 ≡ Some (f log) = ap (λ (ls : List Log). slice_get ls at.0) (sym same) ∙ slice_get-map f logs at.0 ∙ ap (option_map f) at.1 in
    let found = from_map f (slice_get others at.0) (f log) (sym (slice_get-map f others at.0) ∙ moved) in
    (found.0, contained others at.0 found.0 found.1, found.2)

twin : (logs others : List Log) → map raised logs ≡ map raised others → (log : Log) → Contains logs log → (other : Log) × Contains others other × (raised other ≡ raised log)
twin = twin_by raised

module _ (logs others : List Log) (same : map raised logs ≡ map raised others) where
  -- what holds of each log, whatever its version, holds of each of the others
  each_log : (P : Log → Type 0) → ((l : Log) → P l → P (raised l)) → ((l : Log) → P (raised l) → P l) → ((log : Log) → Contains logs log → P log) → (other : Log) → Contains others other → P other
  each_log P to back h other there =
      let t = twin others logs (sym same) other there in
      back other (subst P t.2 (to t.0 (h t.0 t.1)))

  same_ends : (link : Link) (ends : Ends) → IsComparisonOf logs link ends → (other : Ends) × IsComparisonOf others link other × (moved_ends other ≡ moved_ends ends)
  same_ends link ends h =
      let a = twin logs others same ends.first h.first_held in
      let b = twin logs others same ends.second h.second_held in
      let first : moved_ends (record { connection = ends.connection; first = a.0; second = b.0 }) ≡ record { connection = ends.connection; first = raised ends.first; second = raised b.0 } =
      ap (λ (l : Log). let e : Ends = record { connection = ends.connection; first = l; second = raised b.0 } in e) a.2 in
      let second : record { connection = ends.connection; first = raised ends.first; second = raised b.0 } ≡ moved_ends ends =
      ap (λ (l : Log). let e : Ends = record { connection = ends.connection; first = raised ends.first; second = l } in e) b.2 in (
        record { connection = ends.connection; first = a.0; second = b.0 },
        record {
          connection = h.connection;
          smaller = vats_same a.0 ends.first a.2 ∙ h.smaller;
          greater = vats_same b.0 ends.second b.2 ∙ h.greater;
          first_held = a.1;
          second_held = b.1;
        },
        first ∙ second,
      )

  good_link : (link : Link) → IsGoodLink logs link → IsGoodLink others link
  good_link link h =
      let e = same_ends link h.ends h.own in
      record { ends = e.0; own = e.1; good = good_back e.0 (subst AreGoodEnds (sym e.2) (good_moved h.ends h.good)) }

  first_broken : (links : List Link) (connection end message : ℕ) → IsFirstBroken (record { logs = logs; links = links }) connection end message
      → IsFirstBroken (record { logs = others; links = links }) connection end message
  first_broken links connection end message h =
      let e = same_ends h.link h.ends h.own in
      record {
        link = h.link;
        there = h.there;
        number = h.number;
        ends = e.0;
        own = e.1;
        found = broken_back e.0 end message (subst (λ (x : Ends). IsOutcome x (BrokenAt end message)) (sym e.2) (broken_moved h.ends end message h.found));
        smaller = λ other there lt. good_link other (h.smaller other there lt);
      }

  pub good_links : (links : List Link) → AreGoodLinks (record { logs = logs; links = links }) → AreGoodLinks (record { logs = others; links = links })
  good_links links h link there = good_link link (h link there)

  order_for : (given : Option (List ℕ)) (order : List ℕ) → IsOrderFor logs given order → IsOrderFor others given order
  order_for (Some given) order h = h
  order_for None order h = least_same logs others same order h

  fails_at : (given : Option (List ℕ)) (at : ℕ) → FailsAt logs given at → FailsAt others given at
  fails_at (Some order) at h = sym (finding_same logs others same order) ∙ h
  fails_at None at h = h

  no_order : (given : Option (List ℕ)) → HasNoOrder logs given → HasNoOrder others given
  no_order (Some order) h = h
  no_order None h = λ order fits. h order (fits_same others logs (sym same) order fits)

  -- ---- a run explains both

  any_same : (v : ℕ) → list_any (λ log. log.vat == v) logs ≡ list_any (λ log. log.vat == v) others
  any_same v = sym (any_moved (λ n. n == v) logs) ∙ ap (list_any (λ (log : Log). log.vat == v)) same ∙ any_moved (λ n. n == v) others

  ends_back : (k : ℕ) (one other a b : Log) → Contains logs a → Contains logs b → raised a ≡ raised one → raised b ≡ raised other → AreEnds others k one other → AreEnds logs k a b
  ends_back k one other a b a_there b_there a_is b_is h = record {
    one_there = a_there;
    other_there = b_there;
    apart = λ e. h.apart (sym (vats_same a one a_is) ∙ e ∙ vats_same b other b_is);
    no_third = λ third there does. (
        let t = twin logs others same third there in
        let vat : third.vat ≡ t.0.vat = sym (vats_same t.0 third t.2) in
        elim (h.no_third t.0 t.1 (subst (λ (l : Log). IsTrue (uses k l)) (sym t.2) does)) [
          | inl first ↦ inl (vat ∙ first ∙ sym (vats_same a one a_is))
          | inr second ↦ inr (vat ∙ second ∙ sym (vats_same b other b_is))
        ]);
  }

  balanced : (order : List ℕ) → IsBalancedThroughout logs order → IsBalancedThroughout others order
  balanced order h i k one other one_there other_there ends n =
      let a = twin others logs (sym same) one one_there in
      let b = twin others logs (sym same) other other_there in
      let so : IsBalanced k n (taken_of order i a.0) (taken_of order i b.0) = h i k a.0 b.0 a.1 b.1 (ends_back k one other a.0 b.0 a.1 b.1 a.2 b.2 ends) n in
      let half : IsBalanced k n (taken_of order i one) (taken_of order i b.0) = subst (λ (l : Log). IsBalanced k n (taken_of order i l) (taken_of order i b.0)) a.2 so in
      subst (λ (l : Log). IsBalanced k n (taken_of order i one) (taken_of order i l)) b.2 half

  explains : (order : List ℕ) (run : List Step) → Explains logs order run → Explains others order run
  explains order run h = record {
    by_order = h.by_order;
    parts = each_log (λ (l : Log). IsPart run l.vat (records_of l)) (λ l is. is) (λ l is. is) h.parts;
    no_others = each_as (λ (s : Step). IsTrue (list_any (λ log. log.vat == vat_of s) logs)) (λ (s : Step). IsTrue (list_any (λ log. log.vat == vat_of s) others))
        (λ s is. subst IsTrue (any_same (vat_of s)) is) run h.no_others;
    legal = h.legal;
    linked = h.linked;
    reached = h.reached;
    lives = each_log (λ (l : Log). Each UsesLives (records_of l)) (λ l is. is) (λ l is. is) h.lives;
    connected = h.connected;
    balanced = balanced order h.balanced;
  }

  early_at : (given : Option (List ℕ)) (vat at : ℕ) → IsEarlyAt logs given vat at → IsEarlyAt others given vat at
  early_at given vat at h = record {
    order = h.order;
    by = order_for given h.order h.by;
    fits = fits_same logs others same h.order h.fits;
    run = h.run;
    explained = explains h.order h.run h.explained;
    early = h.early;
  }

  lengths_same : length logs ≡ length others
  lengths_same = sym (length-map logs raised) ∙ ap length same ∙ length-map others raised

  sums_same : (f : List Body → ℕ) → sum_by (λ log. f log.records) logs ≡ sum_by (λ log. f log.records) others
  sums_same f = sym (sum_moved f logs) ∙ ap (sum_by (λ (log : Log). f log.records)) same ∙ sum_moved f others

  pub yes : (given : Option (List ℕ)) (vats records delivered under_way : ℕ) (run : List Step) → IsYes logs given vats records delivered under_way run → IsYes others given vats records delivered under_way run
  yes given vats records delivered under_way run h = record {
    order = h.order;
    by = order_for given h.order h.by;
    fits = fits_same logs others same h.order h.fits;
    headline = record { explained = explains h.order run h.headline.explained; ordered = h.headline.ordered };
    vats_are = h.vats_are ∙ lengths_same;
    records_are = h.records_are ∙ sums_same length;
    delivered_are = h.delivered_are ∙ sums_same (count_by records_delivery);
    under_way_are = h.under_way_are ∙ ap₂ (λ a b. a - b) (sums_same (count_by sends)) (sums_same (count_by receives));
  }

-- ---- a log that is migrated keeps its edition

raised_again : (logs : List Log) → map raised (map migrated logs) ≡ map raised logs
raised_again [] = refl
raised_again (log ∷ logs) = ap (λ (ls : List Log). raised log ∷ ls) (raised_again logs)

both_raised : (logs others : List Log) → map migrated logs ≡ map migrated others → map raised logs ≡ map raised others
both_raised logs others same = sym (raised_again logs) ∙ ap (map raised) same ∙ raised_again others

edition_kept : (v : LogVersion) → edition_of_version (migrated_version v) ≡ edition_of_version v
edition_kept One = refl
edition_kept Two = refl
edition_kept Three = refl

same_edition : (a b : Log) → migrated a ≡ migrated b → edition_of a ≡ edition_of b
same_edition a b e = sym (edition_kept a.version) ∙ ap edition_of e ∙ edition_kept b.version

same_records : (a b : Log) → migrated a ≡ migrated b → a.records ≡ b.records
same_records a b e = ap (λ (l : Log). l.records) e

same_vat : (a b : Log) → migrated a ≡ migrated b → a.vat ≡ b.vat
same_vat a b e = ap (λ (l : Log). l.vat) e

true_of_both : (a b : Log) (outcome : Outcome) → migrated a ≡ migrated b → IsTrueOf a default_limits outcome → IsTrueOf b default_limits outcome
true_of_both a b outcome e h =
    subst (λ (edition : Edition). IsFirst edition (reads_by edition default_limits) b.records outcome) (same_edition a b e)
    (subst (λ (records : List Body). IsFirst (edition_of a) (reads_by (edition_of a) default_limits) records outcome) (same_records a b e) h)

good_both : (a b : Log) → migrated a ≡ migrated b → IsGoodLog a → IsGoodLog b
good_both a b e h =
    subst (λ (edition : Edition). AllGood edition (reads_by edition default_limits) b.records (length b.records)) (same_edition a b e)
    (subst (λ (records : List Body). AllGood (edition_of a) (reads_by (edition_of a) default_limits) records (length records)) (same_records a b e) h)

module _ (logs others : List Log) (same : map migrated logs ≡ map migrated others) where
  alike : map raised logs ≡ map raised others
  alike = both_raised logs others same

  first_bad : (vat : ℕ) (outcome : Outcome) → IsFirstBad logs vat outcome → IsFirstBad others vat outcome
  first_bad vat outcome h =
      let t = twin_by migrated logs others same h.log h.there in
      record {
        log = t.0;
        there = t.1;
        own = same_vat t.0 h.log t.2 ∙ h.own;
        found = true_of_both h.log t.0 outcome (sym t.2) h.found;
        smaller = λ other there lt. (
            let b = twin_by migrated others logs (sym same) other there in
            let less : b.0.vat < vat = subst (λ (n : ℕ). n < vat) (sym (same_vat b.0 other b.2)) lt in
            good_both b.0 other b.2 (h.smaller b.0 b.1 less));
      }

  good_logs : (links : List Link) → AreGoodLogs (record { logs = logs; links = links }) → AreGoodLogs (record { logs = others; links = links })
  good_logs links h other there =
      let t = twin_by migrated others logs (sym same) other there in
      good_both t.0 other t.2 (h t.0 t.1)

  good_case : (links : List Link) → IsGoodCase (record { logs = logs; links = links }) → IsGoodCase (record { logs = others; links = links })
  good_case links h = record { logs_good = good_logs links h.logs_good; links_good = good_links logs others alike links h.links_good }

  of_report : (links : List Link) (given : Option (List ℕ)) (r : Report) → IsReport (record { logs = logs; links = links }) given r → IsReport (record { logs = others; links = links }) given r
  of_report links given (report.Vat vat at (Rule rule)) h = first_bad vat _ h
  of_report links given (report.OutsideVat vat at why) h = first_bad vat _ h
  of_report links given (report.Link connection end message) h = (good_logs links h.0, first_broken logs others alike links connection end message h.1)
  of_report links given (report.OrderStep step) h = (good_case links h.0, fails_at logs others alike given step h.1)
  of_report links given report.NoOrder h = (good_case links h.0, no_order logs others alike given h.1)
  of_report links given (report.Vat vat at Order) h = (good_case links h.0, early_at logs others alike given vat at h.1)
  of_report links given (report.Yes vats records delivered under_way run) h = (good_case links h.0, yes logs others alike given vats records delivered under_way run h.1)

pub ties_same : (held other : Contents) → AreSameButVersions held other → tie_fault_of held ≡ tie_fault_of other
ties_same held other s =
    ties_alike held.logs other.logs (both_raised held.logs other.logs s.logs) held.links
    ∙ ap (λ (links : List Link). tie_fault_of (record { logs = other.logs; links = links })) s.links

-- a report of a case is one of each case that is the same but for the versions of its logs
pub one_report : (held other : Contents) → AreSameButVersions held other → (given : Option (List ℕ)) (r : Report) → IsReport held given r → IsReport other given r
one_report held other s given r h =
    subst (λ (links : List Link). IsReport (record { logs = other.logs; links = links }) given r) s.links (of_report held.logs other.logs s.logs held.links given r h)

pub other_way : (held other : Contents) → AreSameButVersions held other → AreSameButVersions other held
other_way held other s = record { logs = sym s.logs; links = sym s.links }

pub one_report_in_all : (held other : Contents) → AreSameButVersions held other → IsCase held → tie_fault_of held ≡ None → (given : Option (List ℕ))
    → (one two : Report) → IsReport held given one → IsReport other given two → one ≡ two
one_report_in_all held other s case tied given one two h k =
    same_report held case tied given one two h (one_report other held (other_way held other s) given two k)

pub one_graph_in_all : (held other : Contents) → AreSameButVersions held other → IsCase held → tie_fault_of held ≡ None → (given : Option (List ℕ))
    → (vats records delivered under_way other_vats other_records other_delivered other_under_way : ℕ) (run other_run : List Step)
    → IsReport held given (report.Yes vats records delivered under_way run) → IsReport other given (report.Yes other_vats other_records other_delivered other_under_way other_run)
    → (edges other_edges : List Edge) → AreEdges run edges → AreEdges other_run other_edges → edges ≡ other_edges
one_graph_in_all held other s case tied given v r d u v' r' d' u' run other_run h k edges other_edges e e' =
    one_graph held case tied given given v r d u v' r' d' u' run other_run h (one_report other held (other_way held other s) given (report.Yes v' r' d' u' other_run) k) edges other_edges e e'

-- a log that is migrated or not, migrated
again : (log : Log) → migrated (migrated log) ≡ migrated log
again log = ap (λ (v : LogVersion). let l : Log = record log { version = v } in l) (twice log.version)
  where
    twice : (v : LogVersion) → migrated_version (migrated_version v) ≡ migrated_version v
    twice One = refl
    twice Two = refl
    twice Three = refl

chosen_migrated : (chosen : Log → Bool) (logs : List Log) → map migrated logs ≡ map migrated (map (λ log. if chosen log then migrated log else log) logs)
chosen_migrated chosen [] = refl
chosen_migrated chosen (log ∷ logs) = ap₂ (λ (l : Log) (ls : List Log). l ∷ ls) (go (chosen log)) (chosen_migrated chosen logs)
  where
    go : (b : Bool) → migrated log ≡ migrated (if b then migrated log else log)
    go true = sym (again log)
    go false = refl

pub some_migrated : (held : Contents) (chosen : Log → Bool) → AreSameButVersions held (record held { logs = map (λ log. if chosen log then migrated log else log) held.logs })
some_migrated held chosen = record { logs = chosen_migrated chosen held.logs; links = refl }
