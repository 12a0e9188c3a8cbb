-- What connections carry (rpc.capnp, Message: an RPC connection is a bi-directional stream of messages).
use Rattle.std.specs.Prelude.{ℕ, List, [], Bool, true, false, not, Option, Some, None, ⊤, if◌then◌else◌, reverse, filter_map, slice_get, IsTrue, ◌≡◌, ◌∷◌, ◌&&◌, ◌==◌}
use Rattle.std.specs.List.{list_all}
use Rattle.run_model.specs.Steps.{PastSteps, EachOf, count_steps}
use Rattle.run_model.specs.Types.{Message, Step, Host, Vow, Fulfil, Break, Make, Named, Deliver, Answer, AnswerBy, Fault, Send, Receive}

-- the message that another vat than this one sends on the connection
abbrev pub sent_to : ℕ → ℕ → Step → Option Message
sent_to v connection (Send w k m) = if (k == connection) && not (w == v) then Some m else None
sent_to v connection _ = None

-- the vat receives on the connection by this step
abbrev pub receives_on : ℕ → ℕ → Step → Bool
receives_on v connection (Receive w k m bound) = (w == v) && (k == connection)
receives_on v connection _ = false

-- another vat than this one, which uses the connection by this step
abbrev pub other_user : ℕ → ℕ → Step → Option ℕ
other_user v connection (Send w k m) = if (k == connection) && not (w == v) then Some w else None
other_user v connection (Receive w k m bound) = if (k == connection) && not (w == v) then Some w else None
other_user v connection _ = None

-- all numbers are one
abbrev pub are_one : List ℕ → Bool
are_one [] = true
are_one (n ∷ rest) = list_all (λ m. m == n) rest

-- a connection has two ends: all others that used it before are one vat
abbrev pub IsEnd : PastSteps → ℕ → ℕ → Type 0
IsEnd before v connection = IsTrue (are_one (filter_map (other_user v connection) before))

-- a vat receives the next message on a connection: the n-th that was sent to it there, if it has received n before
-- (counted from 0)
abbrev pub CarriesNext : PastSteps → ℕ → ℕ → Message → Type 0
CarriesNext before v connection m = slice_get (filter_map (sent_to v connection) (reverse before)) (count_steps (receives_on v connection) before) ≡ Some m

-- a step keeps to first-in first-out links between two ends
abbrev pub IsLinked : PastSteps → Step → Type 0
IsLinked before (Send v connection m) = IsEnd before v connection
IsLinked before (Receive v connection m bound) = IsEnd before v connection × CarriesNext before v connection m
IsLinked before (Host v object) = ⊤
IsLinked before (Vow v promise) = ⊤
IsLinked before (Fulfil v promise to) = ⊤
IsLinked before (Break v promise) = ⊤
IsLinked before (Make v number cap reference interface method) = ⊤
IsLinked before (Named v cap) = ⊤
IsLinked before (Deliver v c object) = ⊤
IsLinked before (Answer v c results) = ⊤
IsLinked before (AnswerBy v c by) = ⊤
IsLinked before (Fault v c) = ⊤

-- a run over first-in first-out links
abbrev pub IsLinkedRun : List Step → Type 0
IsLinkedRun run = EachOf IsLinked run
