use Rattle.std.proofs.Common.{◌≡◌, ◌≤◌, length, take}
use Rattle.std.specs.List.{filter_map}
use Rattle.vat_log.specs.Passages.{frame_sent}
use Rattle.wire_logs.proofs.line_of.count_sent.Given as goal

abbrev pub invariant-loop-index : goal.invariant-loop-index
invariant-loop-index l = (l.count ≡ length (filter_map (frame_sent 0) (take l.index l.log.records))) × (l.count ≤ l.index)
