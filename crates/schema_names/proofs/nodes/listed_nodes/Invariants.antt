use Rattle.std.proofs.Common.{◌≡◌, ◌-◌}
use Rattle.cap_reader.specs.Reading.{each}
use Rattle.cap_reader.specs.Glue.{with_front}
use Rattle.cap_reader.specs.Places.{element_at, elements_at}
use Rattle.schema_names.specs.Reading.{run_schema}
use Rattle.schema_names.specs.Names.{node_in, each_node}
use Rattle.schema_names.proofs.nodes.listed_nodes.Given as goal

abbrev pub invariant-loop-i : goal.invariant-loop-i
invariant-loop-i l =
    let every_node = each (λ i. node_in (element_at l.frame l.list i)) in
    with_front l.interfaces.items (run_schema (every_node l.i (l.list.count - l.i)) l.limits.words) ≡ run_schema (each_node (elements_at l.frame l.list)) l.fn.limits.words
