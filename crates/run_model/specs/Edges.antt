-- Which caps of other vats a vat came to have, and where it first bound them.
use Rattle.std.specs.Prelude.{ℕ, List, Some, slice_get, Contains, ◌≡◌, ◌≢◌, ◌↔◌, ◌⊎◌, ◌<◌}
use Rattle.std.specs.List.{AllPairs}
use Rattle.run_model.specs.Steps.{steps_of}
use Rattle.run_model.specs.Types.{Cap, Object, Promise, FieldOf, Nothing, Message, Step, Receive}

-- the cap is of another vat: it holds that vat's number
abbrev pub IsForeign : ℕ → Cap → Type 0
IsForeign v (Object w object) = w ≢ v
IsForeign v (Promise w promise) = w ≢ v
IsForeign v (FieldOf c path) = c.maker ≢ v
IsForeign v Nothing = ⊥

-- step i of the vat receives a message, and the cap stands at this index among those that it binds; both counted from 0. (A
-- descriptor that gives no cap binds none, so this isn't the descriptor's index)
pub record IsBound (run : List Step) (v : ℕ) (cap : Cap) (i index : ℕ) : Type 0 where
  pub connection : ℕ
  pub message : Message
  pub bound : List Cap
  pub step : slice_get (steps_of v run) i ≡ Some (Receive v connection message bound)
  pub cap_bound : slice_get bound index ≡ Some cap

-- one step and index of a vat stand before another
abbrev pub IsEarlier : ℕ → ℕ → ℕ → ℕ → Type 0
IsEarlier i index j other = (i < j) ⊎ ((i ≡ j) × (index < other))

-- the cap is another vat's, and this is where the vat first bound it
pub record IsWitness (run : List Step) (v : ℕ) (cap : Cap) (i index : ℕ) : Type 0 where
  pub foreign : IsForeign v cap
  pub bound : IsBound run v cap i index
  pub first : (j other : ℕ) → IsEarlier j other i index → IsBound run v cap j other → ⊥

-- a vat came to have a cap: by this one of its steps, at this index among the caps that it binds
pub record Edge : Type 0 where
  pub vat : ℕ
  pub cap : Cap
  pub at_record : ℕ
  pub bound_index : ℕ

-- by vat, then step, then index
abbrev pub IsBefore : Edge → Edge → Type 0
IsBefore e f = (e.vat < f.vat) ⊎ ((e.vat ≡ f.vat) × IsEarlier e.at_record e.bound_index f.at_record f.bound_index)

-- the edges of a run: exactly where vats first bound the caps of others, in order
pub record AreEdges (run : List Step) (edges : List Edge) : Type 0 where
  pub exact : (e : Edge) → Contains edges e ↔ IsWitness run e.vat e.cap e.at_record e.bound_index
  pub ordered : AllPairs IsBefore edges
