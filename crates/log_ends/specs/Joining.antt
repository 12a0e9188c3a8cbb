-- What is found of the ends in a list of logs: which two are the ends of one connection, or an end of which this can't be told.
use Rattle.std.specs.Prelude.{◌≡◌, ◌⊎◌, ℕ, ◌<◌, List, Option, Some, None, slice_get}
use Rattle.vat_log.specs.Log.{Log}
use Rattle.log_ends.specs.Ends.{IsEnd, EndIsBefore, Fits, AreAlike}
use Rattle.log_ends.specs.declared.log_end.LogEnd.{LogEnd}
use Rattle.log_ends.specs.declared.log_end.EndPair.{EndPair}
use Rattle.log_ends.specs.declared.joining.Joining.{Joining}
use Rattle.log_ends.specs.declared.joining.Joining.TheVariants.{Joined, Unmatched, Ambiguous}

-- no end fits this one
abbrev pub IsAlone : List Log → LogEnd → Type 0
IsAlone logs end = (other : LogEnd) → Fits logs end other → ⊥

-- two ends fit this one that aren't alike
pub record IsAmbiguous (logs : List Log) (end : LogEnd) : Type 0 where
  pub one : LogEnd
  pub other : LogEnd
  pub one_fits : Fits logs end one
  pub other_fits : Fits logs end other
  pub unlike : AreAlike logs one other → ⊥

-- an end fits this one, and all that do are alike
pub record IsClear (logs : List Log) (end : LogEnd) : Type 0 where
  pub matched : (other : LogEnd) × Fits logs end other
  pub alike : (one other : LogEnd) → Fits logs end one → Fits logs end other → AreAlike logs one other

-- the pair of this number has this end
pub record Has (pairs : List EndPair) (number : ℕ) (end : LogEnd) : Type 0 where
  pub pair : EndPair
  pub there : slice_get pairs number ≡ Some pair
  pub ends : (pair.first ≡ end) ⊎ (pair.second ≡ end)

-- a pair has this end
abbrev pub IsPaired : List EndPair → LogEnd → Type 0
IsPaired pairs end = (number : ℕ) × Has pairs number end

-- Ends that fit, in pairs. Whichever end comes first in the order of ends is paired first, with the first end that fits it and
-- is in no earlier pair.
pub record ArePairs (logs : List Log) (pairs : List EndPair) : Type 0 where
  pub fit : (number : ℕ) (pair : EndPair) → slice_get pairs number ≡ Some pair → Fits logs pair.first pair.second
  pub in_order : (number : ℕ) (pair : EndPair) → slice_get pairs number ≡ Some pair → EndIsBefore pair.first pair.second
  pub once : (m n : ℕ) (end : LogEnd) → Has pairs m end → Has pairs n end → m ≡ n
  pub rising : (m n : ℕ) (one other : EndPair) → m < n → slice_get pairs m ≡ Some one → slice_get pairs n ≡ Some other → EndIsBefore one.first other.first
  pub nearest : (number : ℕ) (pair : EndPair) (end : LogEnd) → slice_get pairs number ≡ Some pair → Fits logs pair.first end → EndIsBefore end pair.second → (earlier : ℕ) × (earlier < number) × Has pairs earlier end

-- all ends are clear, and each is in a pair
pub record IsJoined (logs : List Log) (pairs : List EndPair) : Type 0 where
  pub clear : (end : LogEnd) → IsEnd logs end → IsClear logs end
  pub are : ArePairs logs pairs
  pub each : (end : LogEnd) → IsEnd logs end → IsPaired pairs end

-- all ends are clear, and all before this one are in pairs; but each that fits it is in a pair already, with one alike to it
pub record IsLeftOver (logs : List Log) (end : LogEnd) : Type 0 where
  pub clear : (other : LogEnd) → IsEnd logs other → IsClear logs other
  pub pairs : List EndPair
  pub are : ArePairs logs pairs
  pub before : (other : LogEnd) → IsEnd logs other → EndIsBefore other end → IsPaired pairs other
  pub begun : (number : ℕ) (pair : EndPair) → slice_get pairs number ≡ Some pair → EndIsBefore pair.first end
  pub free : IsPaired pairs end → ⊥
  pub taken : (other : LogEnd) → Fits logs end other → IsPaired pairs other

-- the first end that isn't clear
pub record IsFirstUnclear (logs : List Log) (end : LogEnd) : Type 0 where
  pub there : IsEnd logs end
  pub before : (other : LogEnd) → IsEnd logs other → EndIsBefore other end → IsClear logs other

-- what is found
abbrev pub IsFound : List Log → Joining → Type 0
IsFound logs (Joined pairs) = IsJoined logs pairs.items
IsFound logs (Unmatched end) = IsEnd logs end × ((IsFirstUnclear logs end × IsAlone logs end) ⊎ IsLeftOver logs end)
IsFound logs (Ambiguous end) = IsEnd logs end × IsFirstUnclear logs end × IsAmbiguous logs end

-- two ends that are alike: no end before the first of them is alike to one behind it
pub record AreFirstAlike (logs : List Log) (pair : EndPair) : Type 0 where
  pub first_is : IsEnd logs pair.first
  pub second_is : IsEnd logs pair.second
  pub in_order : EndIsBefore pair.first pair.second
  pub alike : AreAlike logs pair.first pair.second
  pub earliest : (one other : LogEnd) → IsEnd logs one → IsEnd logs other → EndIsBefore one other → AreAlike logs one other → EndIsBefore one pair.first → ⊥

-- what is found of ends that are alike: two, or that there are none
abbrev pub AreFoundAlike : List Log → Option EndPair → Type 0
AreFoundAlike logs (Some pair) = AreFirstAlike logs pair
AreFoundAlike logs None = (one other : LogEnd) → IsEnd logs one → IsEnd logs other → EndIsBefore one other → AreAlike logs one other → ⊥
