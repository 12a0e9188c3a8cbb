use Rattle.std.proofs.Common.{◌≡◌, ℕ, take, None, if◌then◌else◌}
use Rattle.decoded_records.specs.Bindings.{contains}
use Rattle.vat_view.specs.Glue.Tables.{bound_at}
use Rattle.vat_view.specs.Glue.TurnTables.{IsOwnOrOld}
use Rattle.vat_view.proofs.tables.references.BoundReferences.unbind_each.Given as goal

abbrev pub invariant-loop-reference : goal.invariant-loop-reference
invariant-loop-reference l = record {
  views : (q : ℕ) → bound_at l.self q ≡ (if contains q (take l.reference-index l.references) then None else bound_at l.initial.self q);
  ahead : IsOwnOrOld l.initial.self l.self;
}
