use Rattle.std.proofs.Common.{◌≡◌, ℕ, true, take}
use Rattle.decoded_records.specs.Bindings.{contains, is_distinct}
use Rattle.vat_view.specs.Glue.Seen.{has_in}
use Rattle.vat_view.proofs.preconditions.references.is_distinct.Given as goal

abbrev pub invariant-loop-reference : goal.invariant-loop-reference
invariant-loop-reference l = record {
  met : (q : ℕ) → has_in l.seen q ≡ contains q (take l.reference-index l.references);
  distinct : is_distinct (take l.reference-index l.references) ≡ true;
}
