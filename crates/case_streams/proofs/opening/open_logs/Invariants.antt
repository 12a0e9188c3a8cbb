use Rattle.std.proofs.Common.{◌≡◌, length}
use Rattle.stream_audit.specs.Streamed.{AreFresh}
use Rattle.case_streams.proofs.opening.open_logs.Given as goal

-- a lane for each name so far, of which only the header was read
abbrev pub invariant-loop-name : goal.invariant-loop-name
invariant-loop-name g l = (l.source ≡ l.fn.source) × AreFresh l.lanes.items × (length l.lanes.items ≡ l.name-index)
