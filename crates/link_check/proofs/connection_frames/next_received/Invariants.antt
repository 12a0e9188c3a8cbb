use Rattle.std.proofs.Common.{◌≡◌, drop}
use Rattle.std.specs.List.{filter_map}
use Rattle.vat_log.specs.Passages.{frame_received}
use Rattle.link_check.proofs.connection_frames.next_received.Given as goal

abbrev pub invariant-loop-index : goal.invariant-loop-index
invariant-loop-index l = filter_map (frame_received l.connection) (drop l.from l.log.records) ≡ filter_map (frame_received l.connection) (drop l.index l.log.records)
