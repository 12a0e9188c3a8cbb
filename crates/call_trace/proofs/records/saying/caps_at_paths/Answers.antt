use Rattle.std.proofs.Common.{arith}
use Rattle.std.proofs.lemmas.Grind.{common_steps}
use Rattle.std.proofs.lemmas.List.Elements.{filter_map-append}
use Rattle.call_trace.proofs.records.saying.caps_at_paths.Goals as goal
use Rattle.call_trace.proofs.records.saying.caps_at_paths.Goals.{in-Some+in_ok-push, in_default}

pub loop-path-preserved : goal.loop-path-preserved
loop-path-preserved c = elim c.match-branch-3.branch [
  | in-Some+in_ok-push w ↦ grind (arith, common_steps, filter_map-append)
  | in_default w ↦ grind (arith, common_steps, filter_map-append)
]
