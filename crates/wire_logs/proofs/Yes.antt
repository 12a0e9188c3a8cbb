-- What a yes means.
use Rattle.std.proofs.Common.{Global, ◌≡◌, ℕ, List, Option, Some, None, subst, ◌⊎◌, inl, inr}
use Rattle.std.specs.Prelude.{MatchOption}
use Rattle.std.specs.Arc.{arc_value}
use Rattle.std.specs.declared.sync.Arc.{Arc}
use Rattle.vat_log.specs.declared.log.VatLog.{VatLog}
use Rattle.vat_log.specs.Log.{Log}
use Rattle.case_report.specs.declared.report.Report.{Report}
use Rattle.case_report.specs.declared.report.Report.TheVariants as report
use Rattle.audit_core.specs.Headline.{YesMeansHeadline}
use Rattle.case_report.specs.declared.wire_answer.WireAnswer.{WireAnswer}
use Rattle.case_report.specs.declared.wire_answer.WireLogs.{WireLogs}
use Rattle.case_report.specs.declared.wire_line.WireLine.{WireLine}
use Rattle.case_report.specs.declared.wire_line.WireLine.TheVariants as line
use Rattle.wire_cut.specs.declared.end.End.{End}
use Rattle.wire_cut.specs.declared.end.End.TheVariants.{A, B}
use Rattle.wire_logs.specs.Lines.{IsLine, IsUnexplained, IsNoOrder}
use Rattle.wire_logs.specs.Found.{IsAnswer, IsFoundOf, IsFullLine, IsFullLineOf, IsUncut, IsWithoutLogs, HasRun}

-- a yes isn't a line that says where the explanation stops
not_unexplained : (told : WireLine) (m n d : ℕ) → told ≡ line.Yes m n d → IsUnexplained told → ⊥
not_unexplained told m n d told_yes stops = subst IsUnexplained told_yes stops

not_no_order : (told : WireLine) (m n d : ℕ) → told ≡ line.Yes m n d → IsNoOrder told → ⊥
not_no_order told m n d told_yes waits = subst IsNoOrder told_yes waits

-- a report that gives a yes has a run, and all frames of both files are in the logs
has_run : (a b : List ℕ) (told : WireLine) (one two : Log) (m n d : ℕ) (of : IsFoundOf a b told one two) → told ≡ line.Yes m n d → (report : Report) → YesMeansHeadline of.found.held.logs report → IsLine of.frames_of_a of.frames_of_b one two report told → HasRun a b m n
has_run a b told one two m n d of told_yes (report.Vat vat at rule) headline line_is = absurd cc
has_run a b told one two m n d of told_yes (report.OutsideVat vat at why) headline line_is = absurd cc
has_run a b told one two m n d of told_yes (report.Link connection end message) headline line_is = absurd (not_unexplained told m n d told_yes line_is)
has_run a b told one two m n d of told_yes (report.OrderStep step) headline line_is = absurd (not_unexplained told m n d told_yes line_is)
has_run a b told one two m n d of told_yes report.NoOrder headline line_is = absurd (not_no_order told m n d told_yes line_is)
has_run a b told one two m n d of told_yes (report.Yes vats records delivered under_way run) headline (inr stops) = absurd (not_unexplained told m n d told_yes stops)
has_run a b told one two m n d of told_yes (report.Yes vats records delivered under_way run) headline (inl said) =
    record {
      frames_of_a = of.frames_of_a;
      frames_of_b = of.frames_of_b;
      left_of_a = of.left_of_a;
      left_of_b = of.left_of_b;
      cut_a = of.cut_a;
      cut_b = of.cut_b;
      many_of_a = cc;
      many_of_b = cc;
      one = one;
      two = two;
      all_of_one = said.all_of_one;
      all_of_two = said.all_of_two;
      logs = of.found.held.logs;
      just = of.found.just.just_logs;
      order = headline.0;
      fits = headline.1;
      run = run;
      headline = headline.2;
    }

found_has_run : (a b : List ℕ) (told : WireLine) (one two : Log) (m n d : ℕ) → IsFoundOf a b told one two → told ≡ line.Yes m n d → HasRun a b m n
found_has_run a b told one two m n d of told_yes = has_run a b told one two m n d of told_yes of.found.report of.found.headline of.found.line

-- an answer without logs isn't a yes
not_uncut : (bytes : List ℕ) (end : End) (told : WireLine) (m n d : ℕ) → told ≡ line.Yes m n d → IsUncut bytes end told → ⊥
not_uncut bytes end told m n d told_yes uncut = subst (IsUncut bytes end) told_yes uncut

not_full : (a b : List (List ℕ)) (told : WireLine) (log : Log) (m n d : ℕ) → told ≡ line.Yes m n d → IsFullLine a b told log → ⊥
not_full a b told log m n d told_yes full =
    let P : WireLine → Type 0 = λ l. IsFullLine a b l log in subst P told_yes full

not_without : (a b : List ℕ) (told : WireLine) (m n d : ℕ) → told ≡ line.Yes m n d → (full : Option (Arc VatLog Global)) → MatchOption full (IsUncut a A told ⊎ IsUncut b B told) (λ log. IsFullLineOf a b told (arc_value log)) → ⊥
not_without a b told m n d told_yes None (inl of_a) = not_uncut a A told m n d told_yes of_a
not_without a b told m n d told_yes None (inr of_b) = not_uncut b B told m n d told_yes of_b
not_without a b told m n d told_yes (Some log) of = not_full of.frames_of_a of.frames_of_b told (arc_value log) m n d told_yes of.full

by_logs : (a b : List ℕ) (answer : WireAnswer) (m n d : ℕ) → answer.line ≡ line.Yes m n d → (logs : Option WireLogs) → MatchOption logs (IsWithoutLogs a b answer) (λ made. IsFoundOf a b answer.line (arc_value made.log_of_a) (arc_value made.log_of_b)) → HasRun a b m n
by_logs a b answer m n d told_yes None without = absurd (not_without a b answer.line m n d told_yes answer.full without)
by_logs a b answer m n d told_yes (Some made) of = found_has_run a b answer.line (arc_value made.log_of_a) (arc_value made.log_of_b) m n d of told_yes

-- an answer that is a yes has a run
pub yes_has_run : (a b : List ℕ) (answer : WireAnswer) (m n d : ℕ) → IsAnswer a b answer → answer.line ≡ line.Yes m n d → HasRun a b m n
yes_has_run a b answer m n d is told_yes = by_logs a b answer m n d told_yes answer.logs is
