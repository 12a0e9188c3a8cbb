use Rattle.std.proofs.Common.{◌≡◌, Some}
use Rattle.audit_core.specs.Glue.{HoldsBefore}
use Rattle.lock_step.specs.Taking.{Taken}
use Rattle.stream_audit.specs.Glue.{IsGoodLinkBy}
use Rattle.stream_audit.proofs.first_lines.link_line.Given as goal

-- the links so far are good
abbrev pub invariant-loop-link : goal.invariant-loop-link
invariant-loop-link l = (taken : Taken) → l.turns ≡ Some taken → HoldsBefore (IsGoodLinkBy taken.all) l.links l.link-index
