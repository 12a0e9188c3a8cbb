use Rattle.std.proofs.Common.{◌≡◌, take, map}
use Rattle.vat_view.specs.Glue.TurnTables.{reference_at, field_target}
use Rattle.vat_view.proofs.lookups.turning.returned_fields.Given as goal

abbrev pub invariant-loop-path : goal.invariant-loop-path
invariant-loop-path l = l.fields.items ≡ map (field_target (reference_at l.event)) (take l.path-index l.results)
