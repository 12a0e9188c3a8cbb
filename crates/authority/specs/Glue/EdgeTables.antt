-- For the code's contracts, and no part of the meaning: tables of what was found so far.
use Rattle.std.specs.Prelude.{◌≡◌, ◌⊎◌, ℕ, ◌==◌, ◌++◌, List, [], ◌∷◌, Some, slice_get, Bool, false, not, reverse, take}
use Rattle.run_model.specs.Edges.{Edge, IsForeign, IsEarlier}
use Rattle.run_model.specs.Steps.{PastSteps, OneOf, count_steps, vat_of}
use Rattle.run_model.specs.declared.cap.Cap.{Cap}
use Rattle.run_model.specs.declared.cap.Cap.TheVariants as cap
use Rattle.run_model.specs.declared.step.Step.{Step}
use Rattle.run_model.specs.declared.step.Step.TheVariants.{Receive}

-- an edge, by its parts
abbrev pub edge_at : ℕ → Cap → ℕ → ℕ → Edge
edge_at v a i place = record { vat = v; cap = a; at_record = i; bound_index = place }

-- two edges are of one vat and one capability
abbrev pub IsAlike : Edge → Edge → Type 0
IsAlike e f = (f.vat ≡ e.vat) × (f.cap ≡ e.cap)

-- an edge is added, unless there is one of its vat and capability
abbrev pub AddsFirst : Edge → List Edge → List Edge → Type 0
AddsFirst e old new = (OneOf (IsAlike e) old × (new ≡ old)) ⊎ ((OneOf (IsAlike e) old → ⊥) × (new ≡ old ++ e ∷ []))

-- one edge's witness stands before another's
abbrev pub EdgeComesBefore : Edge → Edge → Type 0
EdgeComesBefore f e = IsEarlier f.at_record f.bound_index e.at_record e.bound_index

-- where a step of the past binds a cap, told as an edge
abbrev pub IsBoundIn : PastSteps → Edge → Type 0
IsBoundIn [] e = ⊥
IsBoundIn (Receive v connection m bound ∷ before) e =
    ((e.vat ≡ v) × (e.at_record ≡ count_steps (λ s. vat_of s == v) before) × (slice_get bound e.bound_index ≡ Some e.cap)) ⊎ IsBoundIn before e
IsBoundIn (_ ∷ before) e = IsBoundIn before e

-- the edges found are those of all that was bound so far: each is of another vat's cap, and the first of its vat and cap; and
-- for each that was bound one stands there that doesn't come later
pub record IsFound (bound : Edge → Type 0) (edges : List Edge) : Type 0 where
  pub sound : (e : Edge) → OneOf (λ x. x ≡ e) edges → IsForeign e.vat e.cap × bound e × ((f : Edge) → bound f → IsAlike e f → EdgeComesBefore f e → ⊥)
  pub covers : (f : Edge) → IsForeign f.vat f.cap → bound f → (e : Edge) × OneOf (λ x. x ≡ e) edges × IsAlike f e × (EdgeComesBefore e f ⊎ (e ≡ f))

-- the cap is another vat's
abbrev pub foreign : ℕ → Cap → Bool
foreign v (cap.Object w o) = not (w == v)
foreign v (cap.Promise w p) = not (w == v)
foreign v (cap.Field c path) = not (c.maker == v)
foreign v cap.Nothing = false

-- so many steps of its vat stand before the step at this index
abbrev pub IsStepNumber : List Step → ℕ → ℕ → Type 0
IsStepNumber run i number = (s : Step) → slice_get run i ≡ Some s → number ≡ count_steps (λ t. vat_of t == vat_of s) (reverse (take i run))

-- the edges are those of the first steps
abbrev pub IsFoundBefore : List Step → ℕ → List Edge → Type 0
IsFoundBefore run i edges = IsFound (IsBoundIn (reverse (take i run))) edges
