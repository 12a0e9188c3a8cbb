use Rattle.std.proofs.Common.{◌≡◌, ℕ, ◌++◌}
use Rattle.vat_view.specs.Glue.Tables.{bound_at, bound_by}
use Rattle.vat_view.specs.Glue.TurnTables.{IsOwnOrOld}
use Rattle.vat_view.proofs.tables.references.BoundReferences.bind_several.Given as goal

abbrev pub invariant-loop-reference : goal.invariant-loop-reference
invariant-loop-reference l = record {
  bound : (q : ℕ) → bound_at l.self q ≡ bound_by q l.yielded (bound_at l.initial.self q);
  ahead : IsOwnOrOld l.initial.self l.self;
  split : l.fn.list.items ≡ l.yielded ++ l.reference-iterator.rest.items;
}
