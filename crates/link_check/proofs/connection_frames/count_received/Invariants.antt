use Rattle.std.proofs.Common.{◌≡◌, ◌≤◌, length, take}
use Rattle.std.specs.List.{filter_map}
use Rattle.vat_log.specs.Passages.{frame_received}
use Rattle.link_check.proofs.connection_frames.count_received.Given as goal

abbrev pub invariant-loop-index : goal.invariant-loop-index
invariant-loop-index l = (l.count ≡ length (filter_map (frame_received l.connection) (take l.index l.log.records))) × (l.count ≤ l.index)
