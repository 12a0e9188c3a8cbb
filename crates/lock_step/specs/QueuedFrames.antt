-- For the code's contracts, and no part of the meaning: two lists of frames, and what is kept of them.
use Rattle.std.specs.Prelude.{◌≡◌, ◌≢◌, ◌⊎◌, ℕ, ◌+◌, ◌<◌, List, [], ◌∷◌, ◌++◌, length, take, drop, reverse, sum, slice_get, Option, Some, None}

-- frames of these sizes, one right behind another
abbrev pub cut : List ℕ → List ℕ → List (List ℕ)
cut [] bytes = []
cut (size ∷ sizes) bytes = take size bytes ∷ cut sizes (drop size bytes)

-- the frames of these sizes that begin at a place
abbrev pub frames_in : List ℕ → ℕ → List ℕ → List (List ℕ)
frames_in sizes begin bytes = cut sizes (drop begin bytes)

-- they end where the bytes end
abbrev pub AreWaitingFrames : List ℕ → ℕ → List ℕ → Type 0
AreWaitingFrames sizes begin bytes = begin + sum sizes ≡ length bytes

-- both lists have a message of this number, and it isn't the same; all before it are
pub record Differ (one other : List (List ℕ)) (message : ℕ) : Type 0 where
  pub in_one : message < length one
  pub in_other : message < length other
  pub differs : slice_get one message ≢ slice_get other message
  pub same : take message one ≡ take message other

-- they differ at a message, and nothing is kept; or else these are the frames that the longer one has beyond the other
abbrev pub AreCompared : List (List ℕ) → List (List ℕ) → Option ℕ → List (List ℕ) → Type 0
AreCompared one other (Some message) waiting = Differ one other message × (waiting ≡ [])
AreCompared one other None waiting = (one ≡ other ++ waiting) ⊎ (other ≡ one ++ waiting)

-- what is kept of a direction, both lists with the newest frame first
pub record IsQueue (sent received : List (List ℕ)) (sent_count received_count : ℕ) (difference : Option ℕ) (waiting : List (List ℕ)) : Type 0 where
  pub sent_counted : length sent ≡ sent_count
  pub received_counted : length received ≡ received_count
  pub compared : AreCompared (reverse sent) (reverse received) difference waiting
