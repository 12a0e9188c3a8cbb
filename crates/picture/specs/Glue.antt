-- For the code's contracts, and no part of the meaning: what a record does to a question, and the vats whose records come.
pub mod Seats
use Rattle.std.specs.Prelude.{ℕ, Bool, Option, Some, None}
use Rattle.rpc_view.specs.declared.edition.Edition.{Edition}
use Rattle.vat_log.specs.declared.body.Body.{Body}
use Rattle.picture.specs.Places.{question_turn_by}

-- what a record does to a question, if there is one
abbrev pub turn_in : Edition → Bool → ℕ → ℕ → Option Body → Option Bool
turn_in edition asks connection question None = None
turn_in edition asks connection question (Some event) = question_turn_by edition asks connection question event
