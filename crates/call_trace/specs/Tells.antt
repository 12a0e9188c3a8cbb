-- What a step tells its vat of what a cap became.
use Rattle.std.specs.Prelude.{◌≡◌, ◌⊎◌, ℕ, List, Some}
use Rattle.call_trace.specs.Types.{View, Cap, Step}
use Rattle.call_trace.specs.Naming.{Naming}
use Rattle.run_model.specs.Leads.{MakesTurn}
use Rattle.run_model.specs.Steps.{OneOf}
use Rattle.run_model.specs.declared.cap.Cap.TheVariants as cap
use Rattle.run_model.specs.declared.message.Message.TheVariants as message
use Rattle.run_model.specs.declared.step.Step.TheVariants as step

-- a step receives a message that says that a cap became another: a Return that the field of its call did, or one that takes
-- the results of a call that each field of its call became that call's at the same path; a Resolve that its promise did
abbrev pub Tells : Cap → Cap → Step → Type 0
Tells a b (step.Receive v connection (message.Return c results caps) bound) = OneOf (λ result. (a ≡ cap.Field c result.0) × (b ≡ result.1)) results
Tells a b (step.Receive v connection (message.Taken c by) bound) = (path : List ℕ) × (a ≡ cap.Field c path) × (b ≡ cap.Field by path)
Tells a b (step.Receive v connection (message.Resolve promise to) bound) = (a ≡ promise) × (b ≡ to)
Tells a b _ = ⊥

-- a step turns the name of one view to that of another, or tells that it became that
pub record TurnsNames (names : Naming) (a b : View) (s : Step) : Type 0 where
  pub from : Cap
  pub to : Cap
  pub from_named : names.cap a ≡ Some from
  pub to_named : names.cap b ≡ Some to
  pub turned : MakesTurn from to s ⊎ Tells from to s
