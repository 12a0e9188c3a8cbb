use Rattle.std.proofs.Common.{◌≡◌, ◌≤◌, length, take}
use Rattle.std.specs.List.{filter_map}
use Rattle.vat_log.specs.Passages.{frame_sent}
use Rattle.link_check.proofs.connection_frames.count_sent.Given as goal

abbrev pub invariant-loop-index : goal.invariant-loop-index
invariant-loop-index l = (l.count ≡ length (filter_map (frame_sent l.connection) (take l.index l.log.records))) × (l.count ≤ l.index)
