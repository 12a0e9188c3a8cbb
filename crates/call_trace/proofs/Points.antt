-- Each point of an order: the logs so far are linked, their ends agree, and their counts are balanced.
use Rattle.std.proofs.Common.{◌≡◌, refl, sym, ◌∙◌, ap, subst, ℕ, ◌==◌, List, [], ◌∷◌, ◌++◌, length, take, drop, reverse, cond, Option, Some, None, option_map, arith, inl, inr}
use Rattle.std.specs.Prelude.{Contains}
use Rattle.std.specs.List.{cons_option, count_by}
use Rattle.std.proofs.lemmas.Bool.{cases_lt}
use Rattle.std.proofs.lemmas.List.{reverse-append, take-append-drop}
use Rattle.std.proofs.lemmas.List.Sums.{sum_by-cons, sum_by_push}
use Rattle.agree.specs.Points.{GoesOn}
use Rattle.agree.specs.Rows.{log_of_vat}
use Rattle.agree.specs.Streams.{IsCut}
use Rattle.agree.specs.Agreeing.{AreLinked}
use Rattle.agree.specs.Standing.{Agree}
use Rattle.agree.proofs.Points.{kept}
use Rattle.agree.proofs.Cuts.{shared_linked, row_cut}
use Rattle.agree.proofs.Standing.{linked_before}
use Rattle.agree.proofs.Good.{good_agree, good_balanced}
use Rattle.vat_rules.specs.Audit.{Found}
use Rattle.vat_rules.specs.Judged.{IsGood}
use Rattle.decoded_records.specs.Past.{Each}
use Rattle.call_trace.specs.Types.{DecodedRecord}
use Rattle.call_trace.specs.Findings.{AreTrue, MayBeNamed}
use Rattle.call_trace.specs.Named.{past_before, taken_before, AtEachPoint, AreBalanced}
use Rattle.call_trace.specs.Taking.{steps_counted_by, next_record, taken_by, row_of}
use Rattle.call_trace.proofs.Reading.{AllRecordsGood, each_good}
use Rattle.call_trace.proofs.Sharing.{all_good, log_by, shared, past_whole}

-- ---- points of an order

steps_back : (v : ℕ) (steps : List ℕ) → steps_counted_by v (reverse steps) ≡ steps_counted_by v steps
steps_back v [] = refl
steps_back v (u ∷ steps) =
    let one : ℕ → ℕ = λ u. cond (u == v) 1 0 in
    let last = ap (steps_counted_by v) (reverse-append (u ∷ []) steps) ∙ sum_by_push one (reverse steps) u in
    let first = sum_by-cons one u steps in
    let rest = steps_back v steps in
    omega (arith, last, first, rest)

pub rows_on : (findings : List Found) (later steps : List ℕ) → GoesOn (taken_by findings (later ++ steps)) (taken_by findings steps)
rows_on findings [] steps = ([], refl)
rows_on findings (u ∷ later) steps = at (next_record findings (later ++ steps) u) (rows_on findings later steps)
  where
    at : (o : Option DecodedRecord) → GoesOn (taken_by findings (later ++ steps)) (taken_by findings steps) →
        GoesOn (cons_option (option_map (λ e. (u, e)) o) (taken_by findings (later ++ steps))) (taken_by findings steps)
    at None p = p
    at (Some e) p = ((u, e) ∷ p.0, ap (λ l. (u, e) ∷ l) p.1)

point_of : (findings : List Found) (order : List ℕ) (i : ℕ) → GoesOn (row_of findings order) (row_of findings (take i order))
point_of findings order i =
    let whole : reverse order ≡ reverse (drop i order) ++ reverse (take i order) = ap reverse (sym (take-append-drop i order)) ∙ reverse-append (take i order) (drop i order) in
    subst (λ l. GoesOn (taken_by findings l) (row_of findings (take i order))) (sym whole) (rows_on findings (reverse (drop i order)) (reverse (take i order)))

-- ---- together

module _ (findings : List Found) (order : List ℕ) (true_all : AreTrue findings) (asked : MayBeNamed findings order) where
  pub log_taken_by : (i : ℕ) (f : Found) → Contains findings f → log_of_vat f.log.vat (row_of findings (take i order)) ≡ taken_before order i f
  log_taken_by i f there = log_by findings order true_all asked f there (reverse (take i order)) ∙ ap (past_before f) (steps_back f.log.vat (take i order))

  pub taken_good : (i : ℕ) (f : Found) → Contains findings f → Each IsGood (taken_before order i f)
  taken_good i f there = at (count_by (λ v. v == f.log.vat) (take i order))
    where
      good : AllRecordsGood f
      good = all_good findings order true_all asked f there

      at : (n : ℕ) → Each IsGood (past_before f n)
      at n = elim (cases_lt n (length f.log.records)) [
        | inl less ↦ each_good f good n (omega (arith, less))
        | inr more ↦ subst (λ p. Each IsGood p) (sym (past_whole f n more)) (each_good f good (length f.log.records) (omega arith))
      ]

  pub taken_cut : AtEachPoint findings order IsCut
  taken_cut i k one other there_one there_other share =
      let s = shared findings order true_all asked k one other there_one there_other share in
      let cut = row_cut k one.log.vat other.log.vat (row_of findings order) (row_of findings (take i order)) s (point_of findings order i) in
      subst (λ p. IsCut k p (taken_before order i other)) (log_taken_by i one there_one)
      (subst (λ p. IsCut k (log_of_vat one.log.vat (row_of findings (take i order))) p) (log_taken_by i other there_other) cut)

  pub taken_linked : AtEachPoint findings order AreLinked
  taken_linked i k one other there_one there_other share =
      let s = shared findings order true_all asked k one other there_one there_other share in
      let point = point_of findings order i in
      let before : (f : Found) → Contains findings f → GoesOn (log_of_vat f.log.vat (row_of findings order)) (taken_before order i f) =
      λ f there. subst (λ p. GoesOn (log_of_vat f.log.vat (row_of findings order)) p) (log_taken_by i f there) (kept _ (row_of findings order) (row_of findings (take i order)) point) in
      linked_before k _ _ (taken_before order i one) (taken_before order i other) (before one there_one) (before other there_other)
      (taken_cut i k one other there_one there_other share) (shared_linked k one.log.vat other.log.vat (row_of findings order) s)

  pub taken_agree : AtEachPoint findings order Agree
  taken_agree i k one other there_one there_other share =
      good_agree k (taken_before order i one) (taken_before order i other) (taken_good i one there_one) (taken_good i other there_other) (taken_linked i k one other there_one there_other share)

  pub taken_balanced : AreBalanced findings order
  taken_balanced i k one other there_one there_other share n =
      let x = taken_before order i one in
      let y = taken_before order i other in
      let cut = taken_cut i k one other there_one there_other share in
      let there = cut.to_other in
      let back = cut.to_one in
      record {
        there = there.0;
        back = back.0;
        to_importer = there.1;
        to_exporter = back.1;
        counts =
            good_balanced k x y (taken_good i one there_one) (taken_good i other there_other) (taken_linked i k one other there_one there_other share)
            n x y there.0 back.0 ([], refl) ([], refl) cut there.1 back.1;
      }
