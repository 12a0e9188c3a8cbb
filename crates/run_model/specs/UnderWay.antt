-- Calls between two vats.
use Rattle.std.specs.Prelude.{ℕ, List, Bool, false, reverse, filter_map, length, IsTrue, IsSome, ◌≡◌, ◌≢◌, ◌⊎◌, ◌∷◌, ◌++◌, ◌≤◌}
use Rattle.std.specs.List.{list_any}
use Rattle.run_model.specs.Links.{sent_to, receives_on}
use Rattle.run_model.specs.Places.{at_vat}
use Rattle.run_model.specs.Steps.{PastSteps, is_same_call, count_steps}
use Rattle.run_model.specs.Types.{Name, Cap, Call, Step, Deliver, Fault, Send}

-- a call is under way: a Call of it was sent, and no other vat has received it: each has received on the connection at
-- most as many messages as had been sent to it before this one
pub record IsUnderWay (before : PastSteps) (c : Name) : Type 0 where
  pub from : ℕ
  pub connection : ℕ
  pub target : Cap
  pub interface : ℕ
  pub method : ℕ
  pub caps : List Cap
  pub later : PastSteps
  pub earlier : PastSteps
  pub sent : before ≡ later ++ Send from connection (Call c target interface method caps) ∷ earlier
  pub waits : (v : ℕ) → v ≢ from → count_steps (receives_on v connection) before ≤ length (filter_map (sent_to v connection) (reverse earlier))

-- a step takes a call away for good: it delivers or faults it
abbrev pub takes_for_good : Name → Step → Bool
takes_for_good c (Deliver v d object) = is_same_call d c
takes_for_good c (Fault v d) = is_same_call d c
takes_for_good c _ = false

-- a call is at a vat, or under way, or was delivered or faulted
abbrev pub IsSomewhere : PastSteps → Name → Type 0
IsSomewhere before c = ((v : ℕ) × IsSome (at_vat before c v)) ⊎ IsUnderWay before c ⊎ IsTrue (list_any (takes_for_good c) before)
