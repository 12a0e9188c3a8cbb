use Rattle.std.proofs.Common.{◌≡◌, take}
use Rattle.std.specs.List.{filter_map}
use Rattle.decoded_records.specs.Lives.{number_introduced}
use Rattle.decoded_records.proofs.effects.several_introductions.Given as goal

abbrev pub invariant-loop-descriptor : goal.invariant-loop-descriptor
invariant-loop-descriptor l = l.ids.items ≡ filter_map (number_introduced l.event) (take l.descriptor-index l.described)
