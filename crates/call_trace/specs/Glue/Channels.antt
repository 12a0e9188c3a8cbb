-- For the code's contracts, and no part of the meaning: the table of what was sent on connections, and when it is that of
-- the steps so far. A step's number is how many steps came before it.
use Rattle.std.specs.Prelude.{◌≡◌, ◌==◌, ◌≤◌, ◌∷◌, ◌++◌, ℕ, List, [], Option, Some, None, if◌then◌else◌, length, take, filter_map, option_and_then, option_map, reverse, slice_get, unwrap_or}
use Rattle.std.specs.BTreeMap.{get}
use Rattle.std.specs.Ordering.{nat_cmp}
use Rattle.call_trace.specs.Naming.{message_of_step}
use Rattle.call_trace.specs.Glue.Overtaking.{vat_number_cmp}
use Rattle.call_trace.specs.Types.{Message, Step}
use Rattle.call_trace.specs.declared.steps.channels.Channels.{Channels}
use Rattle.run_model.specs.Links.{receives_on}
use Rattle.run_model.specs.Steps.{count_steps}
use Rattle.run_model.specs.declared.step.Step.TheVariants.{Send}

-- the sends that the table has of a connection: whose each is, and the number of its step
abbrev pub noted_sends : Channels → ℕ → List (ℕ × ℕ)
noted_sends table k = unwrap_or (option_map (λ sends. sends.items) (get nat_cmp table.sends k)) []

-- how many of the sends on a connection a vat has behind it
abbrev pub sends_behind : Channels → ℕ → ℕ → ℕ
sends_behind table v k = unwrap_or (get vat_number_cmp table.passed (v, k)) 0

-- the number of the step, where another vat than this one sent
abbrev pub by_other : ℕ → ℕ × ℕ → Option ℕ
by_other v sent = if sent.0 == v then None else Some sent.1

-- the numbers of the steps by which others than this vat sent
abbrev pub by_others : ℕ → List (ℕ × ℕ) → List ℕ
by_others v sends = filter_map (by_other v) sends

-- those of these steps that send on a connection
abbrev pub sends_of : ℕ → List Step → List (ℕ × ℕ)
sends_of k [] = []
sends_of k (Send v connection m ∷ before) = if connection == k then sends_of k before ++ (v, length before) ∷ [] else sends_of k before
sends_of k (_ ∷ before) = sends_of k before

-- the table is that of these steps: it has their sends, and a vat has behind it as many sends of others as it received
pub record AreLines (before : List Step) (table : Channels) : Type 0 where
  pub sends : (k : ℕ) → noted_sends table k ≡ sends_of k before
  pub within : (v k : ℕ) → sends_behind table v k ≤ length (noted_sends table k)
  pub received : (v k : ℕ) → length (by_others v (take (sends_behind table v k) (noted_sends table k))) ≡ count_steps (receives_on v k) before

-- the message of the step of this number
abbrev pub message_by : List Step → ℕ → Option Message
message_by before number = option_and_then message_of_step (slice_get (reverse before) number)
