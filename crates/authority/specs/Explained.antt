-- Where what a vat uses of others came from.
use Rattle.std.specs.Prelude.{ℕ, List, Contains, IsSomeAnd, ◌≡◌, ◌==◌, ◌<◌, ◌⊎◌}
use Rattle.run_model.specs.Edges.{Edge}
use Rattle.run_model.specs.Has.{IsField, call_in_message}
use Rattle.run_model.specs.Steps.{OneOf, PastSteps, count_steps, vat_of}
use Rattle.run_model.specs.declared.cap.Cap.{Cap}
use Rattle.run_model.specs.declared.step.Step.{Step}
use Rattle.run_model.specs.declared.step.Step.TheVariants.{Receive}

-- the vat receives a call by this step, and the cap is a field of it
abbrev pub BringsField : ℕ → Cap → Step → Type 0
BringsField v a (Receive w connection m bound) = (w ≡ v) × IsSomeAnd (call_in_message m) (IsField a)
BringsField v a _ = ⊥

-- one of the edges is of the vat and the cap, and from one of the vat's steps before
abbrev pub HasEdge : List Edge → PastSteps → ℕ → Cap → Type 0
HasEdge edges before v a = (e : Edge) × Contains edges e × (e.vat ≡ v) × (e.cap ≡ a) × (e.at_record < count_steps (λ s. vat_of s == v) before)

-- a cap of another vat is a field of a call that the vat received before, or has an edge from before
abbrev pub IsExplained : List Edge → PastSteps → ℕ → Cap → Type 0
IsExplained edges before v a = OneOf (BringsField v a) before ⊎ HasEdge edges before v a
