-- A case has one report by an order that is given, and one where none is given, with its run.
use Rattle.std.proofs.Common.{◌≡◌, ℕ, Bool, true, false, List, [], ◌∷◌, Option, Some, None, refl, sym, ap, ◌∙◌, subst, inl, inr, arith}
use Rattle.std.proofs.lemmas.Bool.{cases_lt, false≢true}
use Rattle.vat_log.specs.Log.{Log}
use Rattle.vat_rules.specs.declared.outcome.Outcome.TheVariants.{Broken, Outside}
use Rattle.merge_order.specs.Fits.{Part, after, begin, IsFitting, TakesLeastFrom}
use Rattle.merge_order.specs.declared.order_check.OrderFinding.TheVariants.{Fails}
use Rattle.merge_order.proofs.Greedy.{none_left}
use Rattle.run_model.specs.Led.{SendsLedTo}
use Rattle.run_model.specs.Steps.{EachOf}
use Rattle.run_model.specs.declared.step.Step.{Step}
use Rattle.case_book.specs.Case.{Contents, IsCase}
use Rattle.case_book.specs.Ties.{tie_fault_of}
use Rattle.audit_core.specs.Headline.{Explains}
use Rattle.audit_core.specs.Report.{IsGoodCase, IsOrderFor, FailsAt, HasNoOrder, IsReport, line_in, IsFittingIfGiven}
use Rattle.audit_core.specs.Versions.{IsOfFirstEdition}
use Rattle.case_report.specs.declared.report.Breach.TheVariants.{Rule, Order}
use Rattle.case_report.specs.declared.report.Report.{Report}
use Rattle.case_report.specs.declared.report.Report.TheVariants as report
use Rattle.audit_core.proofs.OneLine.{no_bad_log, no_bad_link, broken_is_bad, outside_is_bad, fails_not, bad_line, broken_line, early_line, yes_line, none_line, one_run_of, led_of}

-- ---- the order by which a case is judged is one

one_least : (parts : List Part) (order other : List ℕ) → TakesLeastFrom parts order → TakesLeastFrom parts other → order ≡ other
one_least parts [] [] h k = refl
one_least parts [] (w ∷ other) h k = absurd (none_left w parts h k.0)
one_least parts (v ∷ order) [] h k = absurd (none_left v parts k h.0)
one_least parts (v ∷ order) (w ∷ other) h k =
    elim (cases_lt v w) [
      | inl lt ↦ absurd (false≢true (sym (k.1 v lt) ∙ h.0))
      | inr ge ↦ elim (cases_lt w v) [
        | inl lt ↦ absurd (false≢true (sym (h.1 w lt) ∙ k.0))
        | inr le ↦
            let same : w ≡ v = omega arith in
            let rest = one_least (after v parts) order other h.2 (subst (λ (u : ℕ). TakesLeastFrom (after u parts) other) same k.2) in
            ap (λ (l : List ℕ). v ∷ l) rest ∙ ap (λ (u : ℕ). u ∷ other) (sym same)
      ]
    ]

one_order : (logs : List Log) (given : Option (List ℕ)) (order other : List ℕ) → IsOrderFor logs given order → IsOrderFor logs given other → order ≡ other
one_order logs (Some given) order other h k = h ∙ sym k
one_order logs None order other h k = one_least (begin logs) order other h k

given_fits : (logs : List Log) (given : Option (List ℕ)) (order : List ℕ) → IsOrderFor logs given order → IsFitting logs order → IsFittingIfGiven logs given
given_fits logs (Some given) order is fits = subst (IsFitting logs) is fits
given_fits logs None order is fits = tt

none_given : (logs : List Log) (given : Option (List ℕ)) → HasNoOrder logs given → IsFittingIfGiven logs given
none_given logs (Some given) none = absurd none
none_given logs None none = tt

one_failure : (logs : List Log) (given : Option (List ℕ)) (step other : ℕ) → FailsAt logs given step → FailsAt logs given other → report.OrderStep step ≡ report.OrderStep other
one_failure logs None step other h k = absurd h
one_failure logs (Some order) step other h k = ap report.OrderStep (same step other (sym h ∙ k))
  where
    same : (a b : ℕ) → Fails a ≡ Fails b → a ≡ b
    same a b e = cc

fails_given : (logs : List Log) (given : Option (List ℕ)) (step : ℕ) → FailsAt logs given step → HasNoOrder logs given → ⊥
fails_given logs None step fails none = fails
fails_given logs (Some order) step fails none = none

-- ---- a report, but for its run

abbrev is_yes : Report → Bool
is_yes (report.Yes vats records delivered under_way run) = true
is_yes _ = false

yes_in_line : (r : Report) → is_yes (line_in r) ≡ is_yes r
yes_in_line (report.Vat vat at rule) = refl
yes_in_line (report.OutsideVat vat at why) = refl
yes_in_line (report.Link connection end message) = refl
yes_in_line (report.OrderStep step) = refl
yes_in_line report.NoOrder = refl
yes_in_line (report.Yes vats records delivered under_way run) = refl

only_line : (r : Report) → is_yes r ≡ false → line_in r ≡ r
only_line (report.Vat vat at rule) bare = refl
only_line (report.OutsideVat vat at why) bare = refl
only_line (report.Link connection end message) bare = refl
only_line (report.OrderStep step) bare = refl
only_line report.NoOrder bare = refl
only_line (report.Yes vats records delivered under_way run) bare = absurd (false≢true (sym bare))

-- a report that is no yes is the other with its line
by_line : (one other : Report) → is_yes one ≡ false → line_in one ≡ line_in other → one ≡ other
by_line one other bare lines =
    let no_too : is_yes other ≡ false = sym (yes_in_line other) ∙ ap is_yes (sym lines) ∙ yes_in_line one ∙ bare in
    sym (only_line one bare) ∙ lines ∙ only_line other no_too

-- a yes is the other with its line, where they have one run if the other is a yes too
same_yes : (vats records delivered under_way : ℕ) (run : List Step) (other : Report) → report.Yes vats records delivered under_way [] ≡ line_in other
    → ((v r d u : ℕ) (other_run : List Step) → other ≡ report.Yes v r d u other_run → run ≡ other_run) → report.Yes vats records delivered under_way run ≡ other
same_yes vats records delivered under_way run (report.Vat vat at rule) line runs = absurd (let no : ⊥ = cc in no)
same_yes vats records delivered under_way run (report.OutsideVat vat at why) line runs = absurd (let no : ⊥ = cc in no)
same_yes vats records delivered under_way run (report.Link connection end message) line runs = absurd (let no : ⊥ = cc in no)
same_yes vats records delivered under_way run (report.OrderStep step) line runs = absurd (let no : ⊥ = cc in no)
same_yes vats records delivered under_way run report.NoOrder line runs = absurd (let no : ⊥ = cc in no)
same_yes vats records delivered under_way run (report.Yes v r d u other_run) line runs = let same = runs v r d u other_run refl in cc

-- ---- the law

module _ (held : Contents) (case : IsCase held) (tied : tie_fault_of held ≡ None) (given : Option (List ℕ)) where
  fails_line : (step : ℕ) → IsGoodCase held → FailsAt held.logs given step → (other : Report) → IsReport held given other → report.OrderStep step ≡ line_in other
  fails_line step good fails (report.Vat w at (Rule rule)) is = absurd (no_bad_log held w (Broken at rule) is (broken_is_bad at rule) good.logs_good)
  fails_line step good fails (report.OutsideVat w at why) is = absurd (no_bad_log held w (Outside at why) is (outside_is_bad at why) good.logs_good)
  fails_line step good fails (report.Link k end message) is = absurd (no_bad_link held case k end message is.1 (good.links_good is.1.link is.1.there))
  fails_line step good fails (report.OrderStep other_step) is = one_failure held.logs given step other_step fails is.1
  fails_line step good fails report.NoOrder is = absurd (fails_given held.logs given step fails is.1)
  fails_line step good fails (report.Vat w at Order) is = absurd (fails_not held.logs given step fails (given_fits held.logs given is.1.order is.1.by is.1.fits))
  fails_line step good fails (report.Yes vats records delivered under_way run) is = absurd (fails_not held.logs given step fails (given_fits held.logs given is.1.order is.1.by is.1.fits))

  yes_report : (vats records delivered under_way : ℕ) (run : List Step) → IsReport held given (report.Yes vats records delivered under_way run) → (other : Report) → IsReport held given other
      → report.Yes vats records delivered under_way run ≡ other
  yes_report vats records delivered under_way run is other is_too =
      let fits = given_fits held.logs given is.1.order is.1.by is.1.fits in
      same_yes vats records delivered under_way run other (yes_line held case tied given given fits is.0 vats records delivered under_way run is.1 other is_too)
      (λ v r d u other_run same. (
      let yes_too = subst (IsReport held given) same is_too in
      let one_by = one_order held.logs given yes_too.1.order is.1.order yes_too.1.by is.1.by in
      one_run_of held case tied is.0 is.1.order is.1.fits run other_run is.1.headline.explained (subst (λ (l : List ℕ). Explains held.logs l other_run) one_by yes_too.1.headline.explained)))

  one_report_of : (one other : Report) → IsReport held given one → IsReport held given other → one ≡ other
  one_report_of (report.Vat v at (Rule rule)) other is is_too =
      by_line (report.Vat v at (Rule rule)) other refl (bad_line held case given v (Broken at rule) (report.Vat v at (Rule rule)) is (broken_is_bad at rule) refl other is_too)
  one_report_of (report.OutsideVat v at why) other is is_too =
      by_line (report.OutsideVat v at why) other refl (bad_line held case given v (Outside at why) (report.OutsideVat v at why) is (outside_is_bad at why) refl other is_too)
  one_report_of (report.Link k end message) other is is_too = by_line (report.Link k end message) other refl (broken_line held case given k end message is.0 is.1 other is_too)
  one_report_of (report.OrderStep step) other is is_too = by_line (report.OrderStep step) other refl (fails_line step is.0 is.1 other is_too)
  one_report_of report.NoOrder other is is_too = by_line report.NoOrder other refl (none_line held case tied given given (none_given held.logs given is.1) is.0 is.1 other is_too)
  one_report_of (report.Vat v at Order) other is is_too =
      by_line (report.Vat v at Order) other refl (early_line held case tied given given (given_fits held.logs given is.1.order is.1.by is.1.fits) is.0 v at is.1 other is_too)
  one_report_of (report.Yes vats records delivered under_way run) other is is_too = yes_report vats records delivered under_way run is other is_too

pub same_report : (held : Contents) → IsCase held → tie_fault_of held ≡ None → (given : Option (List ℕ)) → (one other : Report) → IsReport held given one → IsReport held given other → one ≡ other
same_report held case tied = one_report_of held case tied

-- the run that explains good logs, by an order that fits, is one
pub one_run_by : (held : Contents) → IsCase held → tie_fault_of held ≡ None → IsGoodCase held → (order : List ℕ) → IsFitting held.logs order → (run other : List Step) → Explains held.logs order run
    → Explains held.logs order other → run ≡ other
one_run_by held case tied good order fits = one_run_of held case tied good order fits

-- in the run of a yes whose logs are all of versions 1 and 2 each step sends what is led to
pub yes_leads : (held : Contents) → IsCase held → tie_fault_of held ≡ None → IsOfFirstEdition held → (given : Option (List ℕ)) (vats records delivered under_way : ℕ) (run : List Step)
    → IsReport held given (report.Yes vats records delivered under_way run) → EachOf SendsLedTo run
yes_leads held case tied firsts given vats records delivered under_way run is = led_of held case tied is.0 firsts is.1.order is.1.fits run is.1.headline.explained
