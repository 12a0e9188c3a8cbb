use Rattle.std.proofs.Common.{◌≡◌, ◌-◌}
use Rattle.cap_reader.specs.Reading.{each}
use Rattle.cap_reader.specs.Glue.{with_front}
use Rattle.cap_reader.specs.Places.{element_at, elements_at}
use Rattle.rpc_view.specs.Reading.{run}
use Rattle.rpc_view.specs.Message.{descriptor_in, descriptors_in}
use Rattle.rpc_view.proofs.Loops.{alone}
use Rattle.rpc_view.proofs.table.entries.Given as goal

abbrev pub invariant-loop-i : goal.invariant-loop-i
invariant-loop-i l =
    let each_descriptor = each (alone (λ i. descriptor_in (element_at l.frame l.table i))) in
    with_front l.items.items (run (each_descriptor l.i (l.table.count - l.i)) l.limits.words) ≡ run (descriptors_in (elements_at l.frame l.table)) l.fn.limits.words
