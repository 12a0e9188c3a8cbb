use Rattle.std.proofs.Common.{◌≡◌, ◌+◌, ◌-◌, ◌≤◌, drop, length}
use Rattle.std.specs.List.{filter_map}
use Rattle.std.specs.Option.{option_map}
use Rattle.link_check.specs.Prefix.{frames_sent, frames_received}
use Rattle.vat_log.specs.Passages.{frame_sent, frame_received}
use Rattle.link_check.specs.Glue.{first_fault}
use Rattle.link_check.proofs.connection_frames.find_fault.Given as goal

abbrev pub invariant-loop-after : goal.invariant-loop-after
invariant-loop-after l =
    (first_fault (frames_received l.connection l.receiver) (frames_sent l.connection l.sender)
    ≡ option_map (λ k. l.message + k) (first_fault (filter_map (frame_received l.connection) (drop l.begin l.receiver.records)) (filter_map (frame_sent l.connection) (drop l.other_begin l.sender.records))))
    × (l.message ≤ l.begin)

abbrev pub decreases-loop-after : goal.decreases-loop-after
decreases-loop-after l = length l.receiver.records - l.begin
