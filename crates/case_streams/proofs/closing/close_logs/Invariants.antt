use Rattle.std.proofs.Common.{◌≤◌, List, map, take, length, string_bytes}
use Rattle.vat_log.specs.Log.{Log}
use Rattle.stream_audit.specs.Streamed.{AreReadWhole}
use Rattle.case_streams.specs.Glue.{AreClosedUpTo}
use Rattle.case_streams.proofs.closing.close_logs.Given as goal

-- the logs so far were closed
abbrev pub invariant-loop-place : goal.invariant-loop-place
invariant-loop-place g l =
    (l.place ≤ length l.lanes) × ((logs : List Log) → AreReadWhole l.lanes logs → AreClosedUpTo g.S.Source.read_gives (map string_bytes l.names) l.place (take l.place logs) l.fn.source l.source)
