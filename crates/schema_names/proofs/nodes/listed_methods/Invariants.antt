use Rattle.std.proofs.Common.{◌≡◌, ◌-◌}
use Rattle.cap_reader.specs.Reading.{each}
use Rattle.cap_reader.specs.Glue.{with_front}
use Rattle.cap_reader.specs.Places.{element_at, elements_at}
use Rattle.schema_names.specs.Reading.{run_schema}
use Rattle.schema_names.specs.Names.{method_in, methods_in}
use Rattle.schema_names.proofs.Loops.{alone}
use Rattle.schema_names.proofs.nodes.listed_methods.Given as goal

abbrev pub invariant-loop-i : goal.invariant-loop-i
invariant-loop-i l =
    let each_method = each (alone (λ i. method_in (element_at l.frame l.list i))) in
    with_front l.names.items (run_schema (each_method l.i (l.list.count - l.i)) l.limits.words) ≡ run_schema (methods_in (elements_at l.frame l.list)) l.fn.limits.words
