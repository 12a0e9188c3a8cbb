-- From what is found of frames to what is answered of the two files that are cut into them.
use Rattle.std.proofs.Common.{Global, ◌≡◌, ℕ, ◌⊎◌, List, Option, Some, None, Result, Ok, Err}
use Rattle.std.specs.Prelude.{IfOk, MatchOption}
use Rattle.std.specs.Arc.{arc_value}
use Rattle.std.specs.declared.sync.Arc.{Arc}
use Rattle.vat_log.specs.Log.{Log}
use Rattle.vat_log.specs.declared.log.VatLog.{VatLog}
use Rattle.case_report.specs.declared.wire_answer.WireAnswer.{WireAnswer}
use Rattle.case_report.specs.declared.wire_answer.WireLogs.{WireLogs}
use Rattle.case_report.specs.declared.wire_line.WireLine.{WireLine}
use Rattle.wire_cut.specs.Frames.{AreFrames}
use Rattle.wire_cut.specs.declared.end.End.TheVariants.{A, B}
use Rattle.wire_logs.specs.Found.{IsAnswer, IsFound, IsFoundOf, IsFullLine, IsFullLineOf, IsUncut}
use Rattle.wire_logs.specs.Glue.{IsFoundIn}

by_options : (a b : List ℕ) (frames_of_a frames_of_b : List (List ℕ)) (left_of_a left_of_b : ℕ) → AreFrames a frames_of_a left_of_a → AreFrames b frames_of_b left_of_b → (told : WireLine) (logs : Option WireLogs) (full : Option (Arc VatLog Global)) → MatchOption logs (MatchOption full ⊥ (λ log. IsFullLine frames_of_a frames_of_b told (arc_value log))) (λ made. IsFound frames_of_a frames_of_b told (arc_value made.log_of_a) (arc_value made.log_of_b)) → MatchOption logs (MatchOption full (IsUncut a A told ⊎ IsUncut b B told) (λ log. IsFullLineOf a b told (arc_value log))) (λ made. IsFoundOf a b told (arc_value made.log_of_a) (arc_value made.log_of_b))
by_options a b fa fb la lb cut_a cut_b told None None is = absurd is
by_options a b fa fb la lb cut_a cut_b told None (Some log) is =
    record { frames_of_a = fa; frames_of_b = fb; left_of_a = la; left_of_b = lb; cut_a = cut_a; cut_b = cut_b; full = is }
by_options a b fa fb la lb cut_a cut_b told (Some made) full is =
    record { frames_of_a = fa; frames_of_b = fb; left_of_a = la; left_of_b = lb; cut_a = cut_a; cut_b = cut_b; found = is }

-- what is found of the frames of two files answers the files
pub answers_files : {E : Type 0} (a b : List ℕ) (frames_of_a frames_of_b : List (List ℕ)) (left_of_a left_of_b : ℕ) (result : Result WireAnswer E) → AreFrames a frames_of_a left_of_a → AreFrames b frames_of_b left_of_b → IfOk result (IsFoundIn frames_of_a frames_of_b) → IfOk result (IsAnswer a b)
answers_files a b fa fb la lb (Ok answer) cut_a cut_b is = by_options a b fa fb la lb cut_a cut_b answer.line answer.logs answer.full is
answers_files a b fa fb la lb (Err fault) cut_a cut_b is = tt
