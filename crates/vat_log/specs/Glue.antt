-- For the code's contracts, and no part of the meaning: how the references of a frame are kept, and the results of a call.
use Rattle.std.specs.Prelude.{ℕ, List, [], ◌∷◌}
use Rattle.vat_log.specs.declared.body.KeptResults.{KeptResults}
use Rattle.vat_log.specs.declared.body.KeptResults.TheVariants as kept
use Rattle.vat_log.specs.declared.body.KeptReferences.{KeptReferences}
use Rattle.vat_log.specs.declared.body.KeptReferences.TheVariants as noted

-- the references that are kept so
abbrev pub references_of : KeptReferences → List ℕ
references_of (noted.One reference) = reference ∷ []
references_of (noted.Several references) = references.items

-- the results that are kept so
abbrev pub results_of : KeptResults → List (ℕ × List ℕ)
results_of (kept.One answered) = answered ∷ []
results_of (kept.Several answered) = answered.items
