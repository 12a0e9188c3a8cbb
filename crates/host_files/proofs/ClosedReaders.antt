-- Readers that are closed under the name under which they were opened.
use Rattle.std.proofs.Common.{◌≡◌, ℕ, Bool, false, List, [], Option, None, Some, Result, Ok, Err, sym, refl, ◌∙◌, inl, inr}
use Rattle.std.specs.Prelude.{OnOk}
use Rattle.std.proofs.lemmas.List.{append-nil}
use Rattle.byte_pieces.specs.Coming.{CameSoFar, MayBeAll}
use Rattle.case_files.specs.Opening.{Closes, IsOf}
use Rattle.case_files.specs.declared.source.SourceError.{SourceError}
use Rattle.host_files.specs.Holding.{IsAsHeld, as_read}

-- what came may be all of this
all_that_came : (held : Option (List ℕ)) (came : CameSoFar) → IsOf (as_read held) came → (all : List ℕ) × (MayBeAll came.bytes came.is_over all × IsAsHeld held (Ok all))
all_that_came None came of = (came.bytes, (record { more = []; parts = sym (append-nil came.bytes); over = λ over. refl }, tt))
all_that_came (Some all) came (inl of) = (all, (of.part, refl))
all_that_came (Some all) came (inr none) = (all, (record { more = all; parts = rw none.none refl; over = λ over. absurd (let both = sym over ∙ none.begun in let no : ⊥ = cc in no) }, refl))

pub closes_so : {S X : Type 0} (held : List ℕ → Option (List ℕ)) (old new : S) (name : List ℕ) (came : CameSoFar) (failed : Bool) (result : Result X SourceError) → OnOk result ((failed ≡ false) × IsOf (as_read (held name)) came)
    → Closes {S = S} (λ _ name read _. IsAsHeld (held name) read) old name came failed result new
closes_so held old new name came failed (Ok x) ok = (ok.0, all_that_came (held name) came ok.1)
closes_so held old new name came failed (Err fault) ok = tt
