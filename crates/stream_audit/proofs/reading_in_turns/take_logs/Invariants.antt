use Rattle.std.proofs.Common.{◌≡◌, take}
use Rattle.stream_audit.specs.Glue.{AreFoundIn}
use Rattle.stream_audit.proofs.reading_in_turns.take_logs.Given as goal

-- the logs so far came whole
abbrev pub invariant-loop-place : goal.invariant-loop-place
invariant-loop-place g l = (l.lanes ≡ l.fn.lanes) × AreFoundIn (take l.place l.lanes) l.logs.items
