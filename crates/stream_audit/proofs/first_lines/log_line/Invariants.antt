use Rattle.std.proofs.Common.{◌≡◌}
use Rattle.std.specs.Prelude.{MatchOption}
use Rattle.cap_reader.specs.Defaults.{default_limits}
use Rattle.audit_core.specs.Glue.{HoldsBefore, IsBadFinding, IsFirstNot}
use Rattle.audit_core.specs.Report.{IsGoodFinding}
use Rattle.stream_audit.proofs.first_lines.log_line.Given as goal

-- the first log so far that isn't good, and how all of them were read
abbrev pub invariant-loop-log : goal.invariant-loop-log
invariant-loop-log l =
    HoldsBefore (λ found. found.limits ≡ default_limits) l.logs l.log-index
    × MatchOption l.line (HoldsBefore IsGoodFinding l.logs l.log-index) (λ line. IsFirstNot IsGoodFinding (IsBadFinding line) l.logs)
