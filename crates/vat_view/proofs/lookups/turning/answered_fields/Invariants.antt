use Rattle.std.proofs.Common.{◌≡◌, take, map}
use Rattle.vat_view.specs.Glue.TurnTables.{answer_target}
use Rattle.vat_view.proofs.lookups.turning.answered_fields.Given as goal

abbrev pub invariant-loop-reference : goal.invariant-loop-reference
invariant-loop-reference l = l.fields.items ≡ map answer_target (take l.reference-index l.results)
