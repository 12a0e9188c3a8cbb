-- For the code's contracts, and no part of the meaning: what was told of the calls of each vat, and the least place at which
-- one of the vats tells of a break.
use Rattle.std.specs.BTreeMap.{get}
use Rattle.std.specs.Ordering.{nat_cmp}
use Rattle.std.specs.Prelude.{◌≡◌, ◌==◌, ◌∷◌, ℕ, [], Option, Some, None, if◌then◌else◌, unwrap_or}
use Rattle.call_order.specs.declared.told.Told.{Told}
use Rattle.run_model.specs.Early.{IsAtMost}
use Rattle.run_model.specs.Steps.{OneOf}
use Rattle.undelivered.specs.Order.{PastCalls, AreOnce, early}
use Rattle.undelivered.specs.declared.moment.Moment.{Moment}

-- what was told of a vat's calls, the newest first
abbrev pub calls_told : Told → ℕ → PastCalls
calls_told told v = unwrap_or (get nat_cmp told.vats v) []

-- a vat was told this of its calls
abbrev pub IsToldMore : ℕ → Moment → Told → Told → Type 0
IsToldMore v moment old new = (w : ℕ) → calls_told new w ≡ (if v == w then moment ∷ calls_told old w else calls_told old w)

-- no call of a vat was told twice
abbrev pub AreAllOnce : Told → Type 0
AreAllOnce told = (v : ℕ) → AreOnce (calls_told told v)

-- a call of one of the vats is delivered too early at this place
abbrev pub IsEarlyIn : Told → ℕ × ℕ → Type 0
IsEarlyIn told place = (v : ℕ) × OneOf (λ p. p ≡ place) (early (calls_told told v))

-- none is; or this is the least place where one is
abbrev pub IsFaultIn : Told → Option (ℕ × ℕ) → Type 0
IsFaultIn told None = (place : ℕ × ℕ) → IsEarlyIn told place → ⊥
IsFaultIn told (Some place) = IsEarlyIn told place × ((other : ℕ × ℕ) → IsEarlyIn told other → IsAtMost place other)
