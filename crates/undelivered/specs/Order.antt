-- Where calls that one vat made through one reference are delivered out of their order.
use Rattle.std.specs.Prelude.{◌≡◌, ℕ, List, [], ◌∷◌, ◌++◌, Bool, true, false, Option, ⊤, ◌==◌, ◌&&◌, ◌||◌, if◌then◌else◌}
use Rattle.std.specs.List.{list_any}
use Rattle.run_model.specs.Early.{IsLeastOf}
use Rattle.undelivered.specs.declared.moment.Moment.{Moment}
use Rattle.undelivered.specs.declared.moment.Moment.TheVariants.{Made, Delivered}

-- the moments before a point, the newest first
abbrev pub PastCalls : Type 0
PastCalls = List Moment

-- a moment makes this call
abbrev pub makes : ℕ → Moment → Bool
makes c (Made d reference) = d == c
makes c (Delivered d place) = false

-- it makes this call through this reference
abbrev pub tells_making_through : ℕ → ℕ → Moment → Bool
tells_making_through r c (Made d reference) = (reference == r) && (d == c)
tells_making_through r c (Delivered d place) = false

-- it delivers this call
abbrev pub tells_delivery : ℕ → Moment → Bool
tells_delivery c (Made d reference) = false
tells_delivery c (Delivered d place) = d == c

-- No call is made or delivered twice, and none is delivered before it is made.
abbrev pub AreOnce : PastCalls → Type 0
AreOnce [] = ⊤
AreOnce (Made c reference ∷ before) = (list_any (makes c) before ≡ false) × AreOnce before
AreOnce (Delivered c place ∷ before) = (list_any (makes c) before ≡ true) × (list_any (tells_delivery c) before ≡ false) × AreOnce before

-- two calls were made through one reference, the first of them before the second
abbrev pub is_made_earlier : ℕ → ℕ → PastCalls → Bool
is_made_earlier c d [] = false
is_made_earlier c d (Made n reference ∷ before) = ((n == d) && list_any (tells_making_through reference c) before) || is_made_earlier c d before
is_made_earlier c d (Delivered n place ∷ before) = is_made_earlier c d before

-- where the calls are delivered that pass a test
abbrev pub places_of : (ℕ → Bool) → PastCalls → List (ℕ × ℕ)
places_of test [] = []
places_of test (Made c reference ∷ before) = places_of test before
places_of test (Delivered c place ∷ before) = if test c then place ∷ places_of test before else places_of test before

-- (rpc.capnp, Disembargo: calls on the same capability reference are delivered in the order in which they were made)
-- where calls are delivered too early: before another is that was made before them through the same reference
abbrev pub early : PastCalls → List (ℕ × ℕ)
early [] = []
early (Made c reference ∷ before) = early before
early (Delivered d place ∷ before) = places_of (λ c. is_made_earlier d c before) before ++ early before

-- the calls keep their order; or this is the least place where they don't
abbrev pub IsFault : PastCalls → Option (ℕ × ℕ) → Type 0
IsFault past fault = IsLeastOf (early past) fault
