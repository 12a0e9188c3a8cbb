-- For the code's contracts, and no part of the meaning: which references were met.
use Rattle.std.specs.Prelude.{ℕ, Bool, is_some}
use Rattle.std.specs.Ordering.{nat_cmp}
use Rattle.std.specs.BTreeMap.{get}
use Rattle.vat_view.specs.declared.preconditions.reference_set.ReferenceSet.{ReferenceSet}

-- a reference was met
abbrev pub has_in : ReferenceSet → ℕ → Bool
has_in seen q = is_some (get nat_cmp seen.entries q)
