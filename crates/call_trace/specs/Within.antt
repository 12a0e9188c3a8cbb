-- A log's records beside the steps of a run so far, and what its views are there.
use Rattle.std.specs.Prelude.{◌≡◌, ℕ, List, filter, Some, ◌==◌}
use Rattle.call_trace.specs.Types.{View, Cap, Step}
use Rattle.call_trace.specs.Naming.{Naming}
use Rattle.call_trace.specs.Part.{PairsOff}
use Rattle.decoded_records.specs.Bindings.{Refers}
use Rattle.decoded_records.specs.Past.{Past, Each}
use Rattle.run_model.specs.Legal.{IsLegal}
use Rattle.run_model.specs.Links.{IsLinked}
use Rattle.run_model.specs.Steps.{vat_of}
use Rattle.run_model.specs.Steps.{EachStep}

-- a log is paired with its vat's steps of a run so far, in which each step is legal and keeps to its link; its records keep
-- REF
pub record IsWithin (v : ℕ) (es : Past) (steps before : List Step) : Type 0 where
  pub paired : PairsOff v es steps
  pub refers : Each Refers es
  pub own : filter (λ s. vat_of s == v) before ≡ steps
  pub legal : EachStep IsLegal before
  pub linked : EachStep IsLinked before

-- a view has a name too, to which this cap is related
abbrev pub HasNameAfter : Naming → (Cap → Cap → Type 0) → Cap → View → Type 0
HasNameAfter names R x b = (y : Cap) × (names.cap b ≡ Some y) × R x y
