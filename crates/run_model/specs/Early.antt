-- Where a run breaks the order of calls.
use Rattle.std.specs.Prelude.{ℕ, List, [], Bool, false, Option, Some, None, if◌then◌else◌, reverse, ◌≡◌, ◌⊎◌, ◌∷◌, ◌==◌, ◌≤◌, ◌<◌}
use Rattle.std.specs.List.{list_any, AllByRecursion}
use Rattle.run_model.specs.Right.{is_made_before, IsOrdered}
use Rattle.run_model.specs.Steps.{PastSteps, vat_of, OneOf, count_steps}
use Rattle.run_model.specs.Types.{Name, Step, Deliver}

-- a step delivers a call that was made before this one, through its reference
abbrev pub overtakes : PastSteps → Name → Step → Bool
overtakes whole c (Deliver v d object) = is_made_before d c whole
overtakes whole c _ = false

-- a step delivers a call too early: one of the later steps delivers another that was made before it through its reference
abbrev pub is_early : PastSteps → Step → List Step → Bool
is_early whole (Deliver v c object) later = list_any (overtakes whole c) later
is_early whole s later = false

-- the early steps of these, each by its vat and how many steps of that vat stand before it; the latest first
abbrev pub early_from : PastSteps → List Step → PastSteps → List (ℕ × ℕ)
early_from whole later [] = []
early_from whole later (s ∷ before) =
    let rest = early_from whole (s ∷ later) before in
    if is_early whole s later then (vat_of s, count_steps (λ t. vat_of t == vat_of s) before) ∷ rest else rest

-- those of a run
abbrev pub early : List Step → List (ℕ × ℕ)
early run = early_from (reverse run) [] (reverse run)

-- by vat, then by number
abbrev pub IsAtMost : ℕ × ℕ → ℕ × ℕ → Type 0
IsAtMost a b = (a.0 < b.0) ⊎ ((a.0 ≡ b.0) × (a.1 ≤ b.1))

-- there are none of these places; or this is the least
abbrev pub IsLeastOf : List (ℕ × ℕ) → Option (ℕ × ℕ) → Type 0
IsLeastOf places None = places ≡ []
IsLeastOf places (Some place) = OneOf (λ p. p ≡ place) places × AllByRecursion (IsAtMost place) places

-- the run is ordered; or this is the least place at which it isn't
abbrev pub IsOrderFault : List Step → Option (ℕ × ℕ) → Type 0
IsOrderFault run None = IsOrdered run
IsOrderFault run (Some place) = IsLeastOf (early run) (Some place)
