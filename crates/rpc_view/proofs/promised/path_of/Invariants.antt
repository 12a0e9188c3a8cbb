use Rattle.std.proofs.Common.{◌≡◌, ◌-◌}
use Rattle.cap_reader.specs.Reading.{each}
use Rattle.cap_reader.specs.Glue.{with_front}
use Rattle.cap_reader.specs.Places.{element_at, elements_at}
use Rattle.rpc_view.specs.Reading.{run}
use Rattle.rpc_view.specs.Message.{operation_in, operations_in}
use Rattle.rpc_view.proofs.promised.path_of.Given as goal

abbrev pub invariant-loop-i : goal.invariant-loop-i
invariant-loop-i l =
    let each_operation = each (λ i. operation_in (element_at l.frame l.operations i)) in
    with_front l.numbers.items (run (each_operation l.i (l.operations.count - l.i)) l.limits.words) ≡ run (operations_in (elements_at l.frame l.operations)) l.fn.limits.words
