-- For the code's contracts, and no part of the meaning: the table of the calls that are under way on connections, and when it
-- is that of the steps so far.
use Rattle.std.specs.BTreeMap.{get}
use Rattle.std.specs.Bool.{beq}
use Rattle.std.specs.List.{list_any}
use Rattle.std.specs.Ordering.{nat_cmp}
use Rattle.std.specs.Prelude.{◌≡◌, ◌==◌, ◌∷◌, ◌++◌, ◌&&◌, ℕ, List, [], Bool, true, false, not, Option, Some, None, if◌then◌else◌, drop, filter_map, reverse, slice_get, unwrap_or, option_map}
use Rattle.call_order.specs.declared.calls_under_way.ConnectionCalls.{ConnectionCalls}
use Rattle.call_order.specs.declared.calls_under_way.CallsUnderWay.{CallsUnderWay}
use Rattle.call_trace.specs.Types.{Name, Step}
use Rattle.run_model.specs.Has.{call_in_message}
use Rattle.run_model.specs.Links.{IsEnd, other_user, sent_to, receives_on}
use Rattle.run_model.specs.Steps.{count_steps}

-- what is kept of a connection
abbrev pub calls_on : CallsUnderWay → ℕ → Option ConnectionCalls
calls_on under_way k = get nat_cmp under_way.connections k

-- the vat that sent a call on a connection first
abbrev pub one_of : CallsUnderWay → ℕ → Option ℕ
one_of under_way k = option_map (λ calls. calls.one) (calls_on under_way k)

-- those of them that go to a vat: those of the others, where the vat sent first there, and else those of that one
abbrev pub calls_to_on : ConnectionCalls → ℕ → List Name
calls_to_on calls v = if calls.one == v then calls.from_others.items else calls.from_one.items

abbrev pub calls_to : CallsUnderWay → ℕ → ℕ → List Name
calls_to under_way v k = unwrap_or (option_map (λ calls. calls_to_on calls v) (calls_on under_way k)) []

-- one of two vats is the one that sent first, and the other isn't
abbrev pub are_ends : ℕ → ℕ → ℕ → Bool
are_ends one v w = not (beq (one == v) (one == w))

-- a vat sent a call on a connection; this vat sent first there
pub record IsSent (k v : ℕ) (name : Name) (one : ℕ) (old new : CallsUnderWay) : Type 0 where
  pub ones : (j : ℕ) → one_of new j ≡ (if k == j then Some one else one_of old j)
  pub calls : (w j : ℕ) → calls_to new w j ≡ (if (k == j) && are_ends one v w then calls_to old w j ++ name ∷ [] else calls_to old w j)

-- the one that sent first on a connection on which this vat sends now
abbrev pub one_with : CallsUnderWay → ℕ → ℕ → ℕ
one_with under_way k v = unwrap_or (one_of under_way k) v

-- two vats are at one end, by the one that sent first, if any did
abbrev pub are_alike : Option ℕ → ℕ → ℕ → Bool
are_alike None v w = v == w
are_alike (Some one) v w = beq (one == v) (one == w)

-- the first call under way to a vat on a connection came to it, if there was one
pub record IsReceived (k v : ℕ) (name : Option Name) (old new : CallsUnderWay) : Type 0 where
  pub ones : (j : ℕ) → one_of new j ≡ one_of old j
  pub first : name ≡ slice_get (calls_to old v k) 0
  pub calls : (w j : ℕ) → calls_to new w j ≡ (if (k == j) && are_alike (one_of old k) v w then drop 1 (calls_to old w j) else calls_to old w j)

-- the calls under way to a vat on a connection: those in the messages that were sent to it there, but for as many as it
-- received
abbrev pub calls_under_way : ℕ → ℕ → List Step → List Name
calls_under_way v k before = filter_map call_in_message (drop (count_steps (receives_on v k) before) (filter_map (sent_to v k) (reverse before)))

-- the table has the calls under way on connections of two ends, and who sent first is a user
pub record AreUnderWay (before : List Step) (under_way : CallsUnderWay) : Type 0 where
  pub users : (k one v : ℕ) → one_of under_way k ≡ Some one → (one == v) ≡ false → list_any (λ w. w == one) (filter_map (other_user v k) before) ≡ true
  pub calls : (v k : ℕ) → IsEnd before v k → calls_to under_way v k ≡ calls_under_way v k before
