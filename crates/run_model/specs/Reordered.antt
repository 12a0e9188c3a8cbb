-- Runs of the same steps in another order.
use Rattle.std.specs.Prelude.{ℕ, List, ◌≡◌}
use Rattle.run_model.specs.Steps.{OneOf, steps_of}
use Rattle.run_model.specs.Types.{Cap, Step, Make}

-- two runs are of the same steps: each vat has the same in both, in one order
abbrev pub HaveSameSteps : List Step → List Step → Type 0
HaveSameSteps run other = (v : ℕ) → steps_of v run ≡ steps_of v other

-- a step makes a call through this reference of this vat, and through this cap
abbrev pub MakesThrough : ℕ → ℕ → Cap → Step → Type 0
MakesThrough v r a (Make w number cap reference interface method) = (w ≡ v) × (reference ≡ r) × (cap ≡ a)
MakesThrough v r a _ = ⊥

-- each reference of a vat stands for one cap: all calls that are made through it are made through that cap
abbrev pub KeepsReferences : List Step → Type 0
KeepsReferences run = (v r : ℕ) (a b : Cap) → OneOf (MakesThrough v r a) run → OneOf (MakesThrough v r b) run → a ≡ b
