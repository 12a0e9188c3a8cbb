-- What is answered of two files, and what a yes means.
use Rattle.std.specs.Prelude.{◌≡◌, ◌⊎◌, ℕ, List, [], ◌∷◌, length, None, MatchOption}
use Rattle.std.specs.Arc.{arc_value}
use Rattle.std.specs.List.Sorted.{IsPermutation}
use Rattle.vat_log.specs.Log.{Log}
use Rattle.run_model.specs.declared.step.Step.{Step}
use Rattle.merge_order.specs.Fits.{IsFitting}
use Rattle.case_book.specs.Case.{Contents, HoldsJust}
use Rattle.case_book.specs.declared.link.Link.{Link}
use Rattle.audit_core.specs.Headline.{IsHeadline, YesMeansHeadline}
use Rattle.audit_core.specs.Report.{IsReport}
use Rattle.case_report.specs.declared.report.Report.{Report}
use Rattle.wire_cut.specs.Frames.{AreFrames, IsTooLongAt, StopsAt}
use Rattle.wire_cut.specs.declared.end.End.{End}
use Rattle.wire_cut.specs.declared.end.End.TheVariants.{A, B}
use Rattle.wire_steps.specs.Parts.{connection, HasParts, HasAll}
use Rattle.wire_ends.specs.Made.{IsFullAt}
use Rattle.wire_logs.specs.Lines.{IsLine}
use Rattle.case_report.specs.declared.wire_answer.WireAnswer.{WireAnswer}
use Rattle.case_report.specs.declared.wire_line.WireLine.{WireLine}
use Rattle.case_report.specs.declared.wire_line.WireLine.TheVariants as line

-- the link between vat 1 and vat 2
abbrev pub link : Link
link = record { connection = connection; a = 1; b = 2 }

-- What is found of frames: the two logs have these frames from the first ones on, whatever the line is; and the line is that of
-- the audit's report of a case with just these logs and their link, for which no order is given.
pub record IsFound (frames_of_a frames_of_b : List (List ℕ)) (told : WireLine) (one two : Log) : Type 0 where
  pub vat_of_one : one.vat ≡ 1
  pub vat_of_two : two.vat ≡ 2
  pub parts_of_one : HasParts frames_of_a frames_of_b one
  pub parts_of_two : HasParts frames_of_b frames_of_a two
  pub held : Contents
  pub just : HoldsJust (one ∷ two ∷ []) (link ∷ []) held
  pub report : Report
  pub of_audit : IsReport held None report
  pub headline : YesMeansHeadline held.logs report
  pub line : IsLine frames_of_a frames_of_b one two report told

-- the same of two files that are cut into frames
pub record IsFoundOf (a b : List ℕ) (told : WireLine) (one two : Log) : Type 0 where
  pub frames_of_a : List (List ℕ)
  pub frames_of_b : List (List ℕ)
  pub left_of_a : ℕ
  pub left_of_b : ℕ
  pub cut_a : AreFrames a frames_of_a left_of_a
  pub cut_b : AreFrames b frames_of_b left_of_b
  pub found : IsFound frames_of_a frames_of_b told one two

-- the line says too long at the message that would come next in a full log
abbrev pub IsFullLine : (frames_of_a frames_of_b : List (List ℕ)) → WireLine → Log → Type 0
IsFullLine frames_of_a frames_of_b (line.TooLong end message) log = IsFullAt frames_of_a frames_of_b log end message
IsFullLine frames_of_a frames_of_b _ log = ⊥

-- the same of two files that are cut into frames
pub record IsFullLineOf (a b : List ℕ) (told : WireLine) (log : Log) : Type 0 where
  pub frames_of_a : List (List ℕ)
  pub frames_of_b : List (List ℕ)
  pub left_of_a : ℕ
  pub left_of_b : ℕ
  pub cut_a : AreFrames a frames_of_a left_of_a
  pub cut_b : AreFrames b frames_of_b left_of_b
  pub full : IsFullLine frames_of_a frames_of_b told log

-- an end's file isn't cut into frames: no frame begins where one should, or one that is too long
abbrev pub IsUncut : List ℕ → End → WireLine → Type 0
IsUncut bytes end (line.BadFrame at message) = (at ≡ end) × StopsAt bytes message
IsUncut bytes end (line.TooLong at message) = (at ≡ end) × IsTooLongAt bytes message
IsUncut bytes end _ = ⊥

-- without logs: a file isn't cut, or a log is full
abbrev pub IsWithoutLogs : (a b : List ℕ) → WireAnswer → Type 0
IsWithoutLogs a b answer = MatchOption answer.full (IsUncut a A answer.line ⊎ IsUncut b B answer.line) (λ log. IsFullLineOf a b answer.line (arc_value log))

-- what is answered of two files
abbrev pub IsAnswer : (a b : List ℕ) → WireAnswer → Type 0
IsAnswer a b answer = MatchOption answer.logs (IsWithoutLogs a b answer) (λ logs. IsFoundOf a b answer.line (arc_value logs.log_of_a) (arc_value logs.log_of_b))

-- What a yes means. Two logs, an order that fits them and a run have all that a yes of the audit means; one log sends and the
-- other receives just the whole frames of the first file, in order and byte for byte, and the other way round those of the
-- second, and no frames but these; what stands behind them in the files is no frame.
pub record HasRun (a b : List ℕ) (count_of_a count_of_b : ℕ) : Type 0 where
  pub frames_of_a : List (List ℕ)
  pub frames_of_b : List (List ℕ)
  pub left_of_a : ℕ
  pub left_of_b : ℕ
  pub cut_a : AreFrames a frames_of_a left_of_a
  pub cut_b : AreFrames b frames_of_b left_of_b
  pub many_of_a : length frames_of_a ≡ count_of_a
  pub many_of_b : length frames_of_b ≡ count_of_b
  pub one : Log
  pub two : Log
  pub all_of_one : HasAll frames_of_a frames_of_b one
  pub all_of_two : HasAll frames_of_b frames_of_a two
  pub logs : List Log
  pub just : IsPermutation (one ∷ two ∷ []) logs
  pub order : List ℕ
  pub fits : IsFitting logs order
  pub run : List Step
  pub headline : IsHeadline logs order run
