-- The line of a case whose logs came in streams.
use Rattle.std.proofs.Common.{◌≡◌, ◌⊎◌, ℕ, ◌-◌, ◌≤◌, Bool, true, false, List, [], ◌∷◌, length, Option, Some, None, refl, sym, ap, subst, ◌∙◌, arith, inl, inr}
use Rattle.std.specs.Prelude.{IsSomeAnd, MatchOption, slice_get}
use Rattle.std.specs.List.{filter}
use Rattle.std.specs.List.Sorted.{IsPermutation}
use Rattle.std.specs.Option.{option_map}
use Rattle.std.proofs.lemmas.List.{length-map}
use Rattle.std.proofs.lemmas.List.Sums.{length-filter}
use Rattle.std.proofs.lemmas.Option.{slice_get-map, slice_get_cases}
use Rattle.cap_reader.specs.Defaults.{default_limits}
use Rattle.vat_log.specs.Log.{Log}
use Rattle.vat_log.specs.Passages.{sends, receives}
use Rattle.vat_log.specs.declared.body.Body.{Body}
use Rattle.vat_log.specs.declared.body.Body.TheVariants as body
use Rattle.vat_rules.specs.Audit.{Found}
use Rattle.link_check.specs.Prefix.{Ends, IsOutcome}
use Rattle.link_check.specs.declared.link_outcome.LinkOutcome.TheVariants.{Good}
use Rattle.merge_order.specs.Fits.{IsFitting, finding_of_order}
use Rattle.merge_order.specs.declared.order_check.OrderFinding.TheVariants as findings_of
use Rattle.turn_taking.specs.Turns.{Turns, order_of, AreAll, AreOf}
use Rattle.turn_taking.specs.Orders.{AreLeft, AreStuck}
use Rattle.turn_taking.proofs.Orders.{least_exists, turns_fit, stuck_turns, order_held, order_ends}
use Rattle.call_order.specs.Fault.{IsFaultBy}
use Rattle.case_book.specs.Case.{Contents, IsCase}
use Rattle.case_book.specs.Pieces.{IsAuditOf, IsComparisonOf}
use Rattle.case_book.specs.Ties.{tie_fault_of}
use Rattle.case_book.specs.declared.link.Link.{Link}
use Rattle.turn_taking.specs.Lanes.{LaneSoFar}
use Rattle.turn_taking.specs.Pass.{logs_of}
use Rattle.turn_taking.specs.Turned as pass
use Rattle.turn_taking.specs.WholeCase.{EndsBehind}
use Rattle.lock_step.specs.Taking as taking
use Rattle.lock_step.specs.Taking.{count_turns}
use Rattle.lock_step.proofs.Counting as counting
use Rattle.log_lane.specs.Slim as slim
use Rattle.audit_core.specs.Glue.{case_record_limit, IsBadFinding, IsFirstNot, AreBadEnds}
use Rattle.audit_core.specs.Lines.{IsLineOf}
use Rattle.audit_core.specs.Report.{AreGoodEnds, HoldsOfEach, IsGoodFinding, IsOrderFor, count_all, records_delivery}
use Rattle.case_report.specs.declared.report.Breach.TheVariants.{Order}
use Rattle.case_report.specs.declared.report.Report.{Report}
use Rattle.case_report.specs.declared.report.Report.TheVariants as report
use Rattle.stream_audit.proofs.FoundLines.{AreLogsFound, all_logs_good, bad_log_line, bad_link_line}
use Rattle.stream_audit.proofs.FoundOrder.{early_line_of, yes_line_of, order_fails, no_order}
use Rattle.stream_audit.proofs.FoundWhole.{IsCounted, counted}
use Rattle.stream_audit.specs.Glue.{IsTakenSo, IsGoodLinkBy, IsBrokenBy}
use Rattle.stream_audit.specs.declared.reading_in_turns.OrderFound.{OrderFound}
use Rattle.stream_audit.specs.declared.reading_in_turns.OrderFound.TheVariants.{Fits, Fails, NoOrder}
use Rattle.stream_audit.proofs.Known.{EndsFound, ends_found}
use Rattle.stream_audit.proofs.Permuted.{all_held, of_held, held_up, stuck_held, left_held}

-- ---- counts

delivers_too : (b : Body) → taking.passes_delivery b ≡ records_delivery b
delivers_too (body.Deliver call object) = refl
delivers_too _ = refl

split : (b : Bool) → (b ≡ true) ⊎ (b ≡ false)
split true = inl refl
split false = inr refl

same_filter : {X : Type 0} (p q : X → Bool) → ((x : X) → p x ≡ q x) → (xs : List X) → filter p xs ≡ filter q xs
same_filter p q same [] = refl
same_filter {X} p q same (x ∷ xs) =
    elim (split (q x)) [
      | inl is ↦ rw (same x ∙ is, is) (ap (λ (l : List X). x ∷ l) (same_filter p q same xs))
      | inr isnt ↦ rw (same x ∙ isnt, isnt) (same_filter p q same xs)
    ]

same_count : (turns : Turns) → count_turns taking.passes_delivery turns ≡ count_turns records_delivery turns
same_count turns =
    sym (length-filter (λ turn. taking.passes_delivery turn.1) turns) ∙ ap length (same_filter (λ (turn : ℕ × Body). taking.passes_delivery turn.1) (λ turn. records_delivery turn.1) (λ turn. delivers_too turn.1) turns)
    ∙ length-filter (λ turn. records_delivery turn.1) turns

-- ---- what was taken

all_of : (lanes : List (Option LaneSoFar)) (taken : pass.Taken) (given : Option (List ℕ)) (found : OrderFound) → IsTakenSo lanes taken given found → AreAll (logs_of lanes) taken.all
all_of lanes taken None Fits so = so.all
all_of lanes taken None (Fails step) so = absurd so
all_of lanes taken None NoOrder so = so.all
all_of lanes taken (Some order) Fits so = so.all
all_of lanes taken (Some order) (Fails step) so = so.all
all_of lanes taken (Some order) NoOrder so = absurd so

-- an order by which the case is judged, that fits, and its order fault
pub record FitsSo (held : Contents) (given : Option (List ℕ)) (fault : Option (ℕ × ℕ)) : Type 0 where
  pub order : List ℕ
  pub by : IsOrderFor held.logs given order
  pub fits : IsFitting held.logs order
  pub by_fault : IsFaultBy held.logs order fault

-- what is told of the links, and read off it
abbrev pub LinksTold : Turns → Option Report → List Link → Type 0
LinksTold turns line links = MatchOption line (HoldsOfEach (IsGoodLinkBy turns) links) (λ l. IsFirstNot (IsGoodLinkBy turns) (IsBrokenBy turns l) links)

pub links_told_good : (turns : Turns) (o : Option Report) (links now : List Link) → now ≡ links → o ≡ None → LinksTold turns o now → HoldsOfEach (IsGoodLinkBy turns) links
links_told_good turns o links now same is told = subst (λ (x : Option Report). LinksTold turns x links) is (subst (LinksTold turns o) same told)

pub first_told_broken : (turns : Turns) (o : Option Report) (links now : List Link) (line : Report) → now ≡ links → o ≡ Some line → LinksTold turns o now → IsFirstNot (IsGoodLinkBy turns) (IsBrokenBy turns line) links
first_told_broken turns o links now line same is told = subst (λ (x : Option Report). LinksTold turns x links) is (subst (LinksTold turns o) same told)

-- which order it is doesn't matter to the order fault
abbrev pub HaveOneFault : Type 0
HaveOneFault = (logs : List Log) (order other : List ℕ) (fault : Option (ℕ × ℕ)) → IsFitting logs order → IsFaultBy logs order fault → IsFaultBy logs other fault

module _ (lanes : List (Option LaneSoFar)) (logs : List Log) (held : Contents) (taken : pass.Taken) (same : logs ≡ logs_of lanes) (moved : IsPermutation logs held.logs) (case : IsCase held) where
  abbrev turns : Turns
  turns = taken.in_order

  from : (P : List Log → Type 0) → P (logs_of lanes) → P logs
  from P p = subst P (sym same) p

  pub fitting : HaveOneFault → (given : Option (List ℕ)) (fault : Option (ℕ × ℕ)) → IsTakenSo lanes taken given Fits → IsFaultBy held.logs (order_of taken.in_order) fault → FitsSo held given fault
  fitting one_fault_by None fault so by_fault =
      let all = all_held logs held.logs moved turns (from (λ ls. AreAll ls turns) (so.fits_all refl)) in
      let fits = turns_fit held.logs turns case.rising_vats so.pass.in_order all in
      let least = least_exists held.logs (order_of turns) fits in
      record { order = least.0; by = least.1; fits = least.2; by_fault = one_fault_by held.logs (order_of turns) least.0 fault fits by_fault }
  fitting one_fault_by (Some order) fault so by_fault =
      let found = so.fits_all refl in
      let all = all_held logs held.logs moved turns (from (λ ls. AreAll ls turns) found.1) in
      let fits = turns_fit held.logs turns case.rising_vats so.pass.in_order all in
      record {
        order = order;
        by = refl;
        fits = subst (IsFitting held.logs) (sym found.0) fits;
        by_fault = subst (λ (o : List ℕ). IsFaultBy held.logs o fault) (sym found.0) by_fault;
      }

  pub all_in_order : (given : Option (List ℕ)) → IsTakenSo lanes taken given Fits → AreAll held.logs turns
  all_in_order None so = all_held logs held.logs moved turns (from (λ ls. AreAll ls turns) (so.fits_all refl))
  all_in_order (Some order) so = all_held logs held.logs moved turns (from (λ ls. AreAll ls turns) (so.fits_all refl).1)

  pub failing : (given : Option (List ℕ)) (step : ℕ) → IsTakenSo lanes taken given (Fails step) → (order : List ℕ) × (given ≡ Some order) × (finding_of_order held.logs order ≡ findings_of.Fails step)
  failing None step so = absurd so
  failing (Some order) step so =
      let found = so.fails step refl in
      let are = of_held logs held.logs moved turns (from (λ ls. AreOf ls turns) found.1) in
      let behind = from (λ ls. EndsBehind ls turns order) found.2 in
      (order, refl, at are behind found.0)
    where
      at : AreOf held.logs turns → EndsBehind logs turns order → step ≡ length turns → finding_of_order held.logs order ≡ findings_of.Fails step
      at are (inl ends) is = ap (finding_of_order held.logs) ends.0 ∙ order_ends held.logs turns case.rising_vats so.pass.in_order are (left_held logs held.logs moved turns ends.1) ∙ ap (λ (n : ℕ). findings_of.Fails n) (sym is)
      at are (inr stops) is =
          ap (finding_of_order held.logs) stops.2 ∙ order_held held.logs turns stops.0 stops.1 case.rising_vats so.pass.in_order are (held_up logs held.logs moved turns stops.0 stops.3) ∙ ap (λ (n : ℕ). findings_of.Fails n) (sym is)

  pub none_fits : (given : Option (List ℕ)) → IsTakenSo lanes taken given NoOrder → (given ≡ None) × ((order : List ℕ) → IsFitting held.logs order → ⊥)
  none_fits None so =
      let stuck = so.stuck refl in (
        refl,
        λ order fits. stuck_turns held.logs turns case.rising_vats so.pass.in_order (of_held logs held.logs moved turns (from (λ ls. AreOf ls turns) stuck.0))
            (stuck_held logs held.logs moved turns (from (λ ls. AreStuck ls turns) stuck.1)) (left_held logs held.logs moved turns (from (λ ls. AreLeft ls turns) stuck.2)) order fits,
      )
  none_fits (Some order) so = absurd so

module _ (lanes : List (Option LaneSoFar)) (logs : List Log) (held : Contents) (given : Option (List ℕ)) (found : OrderFound) (taken : taking.Taken) (so : IsTakenSo lanes (taking.turned taken) given found) (same : logs ≡ logs_of lanes)
    (moved : IsPermutation logs held.logs) (case : IsCase held) (tied : tie_fault_of held ≡ None) (findings : List Found) (own : slim.logs_audited findings ≡ held.logs)
    (within : HoldsOfEach (λ (f : Found). f.limits ≡ default_limits) findings) where
  here : (P : List Log → Type 0) → P (logs_of lanes) → P logs
  here P p = subst P (sym same) p

  all_taken : AreAll held.logs taken.all
  all_taken = all_held logs held.logs moved taken.all (here (λ ls. AreAll ls taken.all) (all_of lanes (taking.turned taken) given found so))

  -- ---- logs

  logs_found : AreLogsFound held.logs findings
  logs_found = record {
    rising = case.rising_vats;
    few = case.few_vats;
    each = sym (length-map findings (λ (f : Found). f.log)) ∙ ap length own;
    own = λ k one at. (
        let there : slice_get held.logs k ≡ Some one.log = ap (λ (ls : List Log). slice_get ls k) (sym own) ∙ slice_get-map (λ (f : Found). f.log) findings k ∙ ap (option_map (λ (f : Found). f.log)) at in
        subst (λ (o : Option Log). IsSomeAnd o (λ log. IsAuditOf log one)) (sym there) (record { same_log = refl; within = within k one at })
        );
  }

  pub bad_log : (line : Report) → IsFirstNot IsGoodFinding (IsBadFinding line) findings → IsLineOf held given line
  bad_log line first = bad_log_line held findings logs_found line first given

  -- ---- links

  links : EndsFound held
  links = ends_found held case tied

  ends_at : (k : ℕ) (link : Link) → slice_get held.links k ≡ Some link → (ends : Ends) × (slice_get links.all k ≡ Some ends) × IsComparisonOf held.logs link ends
  ends_at k link at =
      elim (slice_get_cases links.all k).1 [
        | inl there ↦
            let its = links.each k there.0 there.2 in
            (there.0, there.2, subst (λ (l : Link). IsComparisonOf held.logs l there.0) (same_link its.0 link (sym its.1 ∙ at)) its.2)
        | inr past ↦ absurd (
            let inside = slice_get_cases held.links k in
            elim inside.1 [
              | inl there ↦ let le = past.0 in let lt = there.1 in let many = links.many in omega (arith, le, lt, many)
              | inr gone ↦ none_some link (sym gone.1 ∙ at)
            ])
      ]
    where
      same_link : (a b : Link) → ◌≡◌ {A = Option Link} (Some a) (Some b) → a ≡ b
      same_link a b e = cc

      none_some : (link : Link) → ◌≡◌ {A = Option Link} None (Some link) → ⊥
      none_some link e = cc

  good_by : (link : Link) (ends : Ends) → IsComparisonOf held.logs link ends → IsGoodLinkBy taken.all link → AreGoodEnds ends
  good_by link ends is good =
      let outcome : IsOutcome ends (Good good.0 good.1) = good.2.found held.logs ends all_taken is in
      record { at_first = outcome.at_first; at_second = outcome.at_second }

  pub bad_link : (line : Report) → HoldsOfEach IsGoodFinding findings → IsFirstNot (IsGoodLinkBy taken.all) (IsBrokenBy taken.all line) held.links → IsLineOf held given line
  bad_link line each first =
      let its = ends_at first.place first.one first.there in
      let first_ends : IsFirstNot AreGoodEnds (AreBadEnds line) links.all = record {
        place = first.place;
        one = its.0;
        there = its.1;
        before = λ k ends lt at. (let link = links.each k ends at in good_by link.0 ends link.2 (first.before k link.0 lt link.1));
        so = record {
          end = first.so.end;
          message = first.so.message;
          line = first.so.line ∙ ap (λ (k : ℕ). report.Link k first.so.end first.so.message) (sym its.2.connection);
          means = first.so.found.found held.logs its.0 all_taken its.2;
        };
      } in
      bad_link_line held links.all links.found line (all_logs_good held findings logs_found each) first_ends given

  -- ---- a good case

  module _ (logs_good : HoldsOfEach IsGoodFinding findings) (links_good : HoldsOfEach (IsGoodLinkBy taken.all) held.links) where
    ends_good : HoldsOfEach AreGoodEnds links.all
    ends_good k ends at = let link = links.each k ends at in good_by link.0 ends link.2 (links_good k link.0 link.1)

    module _ (delivered under_way : ℕ) (delivered_is : delivered ≡ count_turns taking.passes_delivery taken.all) (under_way_is : under_way ≡ count_turns sends taken.all - count_turns receives taken.all) where
      all_counted : IsCounted held delivered under_way
      all_counted = counted held tied findings links.all logs_found links.found logs_good ends_good delivered under_way
          (λ few. delivered_is ∙ same_count taken.all ∙ counting.counted records_delivery held.logs taken.all case.rising_vats all_taken)
          (λ few. under_way_is ∙ ap (λ (n : ℕ). n - count_turns receives taken.all) (counting.counted sends held.logs taken.all case.rising_vats all_taken)
          ∙ ap (λ (n : ℕ). count_all sends held.logs - n) (counting.counted receives held.logs taken.all case.rising_vats all_taken))

      -- by an order that fits
      pub early_line : (fault : Option (ℕ × ℕ)) → FitsSo held given fault → (vat at : ℕ) → fault ≡ Some (vat, at) → IsLineOf held given (report.Vat vat at Order)
      early_line fault fit vat at is = early_line_of held delivered under_way all_counted fit.order fit.fits fault fit.by_fault given fit.by vat at is

      pub yes_line : (fault : Option (ℕ × ℕ)) → FitsSo held given fault → fault ≡ None → (vats records : ℕ) → vats ≡ length held.logs → records ≡ length taken.all → records ≤ case_record_limit
          → IsLineOf held given (report.Yes vats records delivered under_way [])
      yes_line fault fit none vats records vats_are records_are few =
          yes_line_of held delivered under_way all_counted fit.order fit.fits fault fit.by_fault given fit.by vats records none vats_are (records_are ∙ counting.counted_all held.logs taken.all case.rising_vats all_taken) few

      pub fails_line : (step : ℕ) (order : List ℕ) → given ≡ Some order → finding_of_order held.logs order ≡ findings_of.Fails step → IsLineOf held given (report.OrderStep step)
      fails_line step order is fails = subst (λ (g : Option (List ℕ)). IsLineOf held g (report.OrderStep step)) (sym is)
          (order_fails held delivered under_way all_counted order step held.logs (finding_of_order held.logs order) refl fails refl)

      pub no_order_line : given ≡ None → ((order : List ℕ) → IsFitting held.logs order → ⊥) → IsLineOf held given report.NoOrder
      no_order_line is none = subst (λ (g : Option (List ℕ)). IsLineOf held g report.NoOrder) (sym is) (no_order held delivered under_way all_counted held.logs none refl)
