use Rattle.std.proofs.Common.{◌≡◌, ◌≤◌, length, take}
use Rattle.std.specs.List.{filter_map}
use Rattle.vat_log.specs.Passages.{frame_received}
use Rattle.wire_logs.proofs.line_of.count_received.Given as goal

abbrev pub invariant-loop-index : goal.invariant-loop-index
invariant-loop-index l = (l.count ≡ length (filter_map (frame_received 0) (take l.index l.log.records))) × (l.count ≤ l.index)
