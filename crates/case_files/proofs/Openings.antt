-- What came from a reader that was opened under a name.
use Rattle.std.proofs.Common.{◌≡◌, ℕ, List, Option, Some, None, Ok, Err, inl, inr, sym, subst, ◌∙◌}
use Rattle.std.specs.Prelude.{IfSome}
use Rattle.byte_pieces.specs.Coming.{CameSoFar, ComesOn, IsPart, MayBeAll}
use Rattle.case_files.specs.CaseReading.{Read}
use Rattle.case_files.specs.Opening.{GivesNothing, IsOf}

-- where nothing can be read, it stays so
nothing_still : (old new : CameSoFar) → ComesOn old new → GivesNothing old → GivesNothing new
nothing_still old new on none = subst GivesNothing (sym (on.fault none.failed)) none

-- what comes on is of the same
pub is_of_still : (known : Option Read) (old new : CameSoFar) → ComesOn old new → IsPart new → IsOf known old → IsOf known new
is_of_still None old new on part of = tt
is_of_still (Some (Ok all)) old new on part (inl of) =
    let whole : new.whole ≡ Some all = on.whole ∙ of.whole in
    inl (record { whole = whole; part = subst (λ (o : Option (List ℕ)). IfSome o (MayBeAll new.bytes new.is_over)) whole part })
is_of_still (Some (Ok all)) old new on part (inr none) = inr (nothing_still old new on none)
is_of_still (Some (Err fault)) old new on part none = nothing_still old new on none
