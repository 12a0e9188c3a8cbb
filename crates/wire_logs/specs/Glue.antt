-- What is found on the way.
use Rattle.std.specs.Prelude.{ℕ, List, [], ◌∷◌, None, Result, MatchOption, MatchResult}
use Rattle.std.specs.Arc.{arc_value}
use Rattle.vat_log.specs.Log.{Log}
use Rattle.case_book.specs.Case.{Contents, HoldsJust}
use Rattle.audit_core.specs.Headline.{YesMeansHeadline}
use Rattle.audit_core.specs.Report.{IsReport}
use Rattle.case_report.specs.declared.report.Report.{Report}
use Rattle.wire_cut.specs.Frames.{AreFrames}
use Rattle.wire_cut.specs.declared.cut.WireFile.{WireFile}
use Rattle.wire_cut.specs.declared.end.End.{End}
use Rattle.wire_logs.specs.Found.{IsFound, IsFullLine, IsUncut, link}
use Rattle.case_report.specs.declared.wire_answer.WireAnswer.{WireAnswer}
use Rattle.case_report.specs.declared.wire_line.WireLine.{WireLine}

-- a report is the audit's of a case with just these two logs and their link
pub record IsAudited (one two : Log) (report : Report) : Type 0 where
  pub held : Contents
  pub just : HoldsJust (one ∷ two ∷ []) (link ∷ []) held
  pub of_audit : IsReport held None report
  pub headline : YesMeansHeadline held.logs report

-- a file is cut into frames, or a line says why not
abbrev pub IsCutOr : List ℕ → End → Result WireFile WireLine → Type 0
IsCutOr bytes end cut = MatchResult cut (λ file. AreFrames bytes file.frames.items file.left) (IsUncut bytes end)

-- what is found of frames
abbrev pub IsFoundIn : (frames_of_a frames_of_b : List (List ℕ)) → WireAnswer → Type 0
IsFoundIn frames_of_a frames_of_b answer = MatchOption answer.logs (MatchOption answer.full ⊥ (λ log. IsFullLine frames_of_a frames_of_b answer.line (arc_value log))) (λ logs. IsFound frames_of_a frames_of_b answer.line (arc_value logs.log_of_a) (arc_value logs.log_of_b))
