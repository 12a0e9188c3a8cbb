-- What is promised of the calls and caps of a run: calls are delivered where they were to go and in their order, and each
-- cap that a vat uses is one that it has.
use Rattle.std.specs.Prelude.{ℕ, List, [], Bool, false, Option, Some, None, ⊤, if◌then◌else◌, reverse, is_some, IsTrue, IsFalse, IsSomeAnd, ◌≡◌, ◌∷◌, ◌&&◌, ◌||◌, ◌==◌}
use Rattle.std.specs.List.{list_any}
use Rattle.run_model.specs.Leads.{Leads}
use Rattle.run_model.specs.Legal.{HasUsed, delivers_call}
use Rattle.run_model.specs.Places.{Asked, asked_by_parts}
use Rattle.run_model.specs.Steps.{PastSteps, call, is_same_call, EachOf, last_step_answer, count_steps}
use Rattle.run_model.specs.Types.{Name, Object, Message, Call, Step, Make, Deliver, Send, Receive}

-- what the Make of a call asks for
abbrev pub request_in_make : Name → Step → Option Asked
request_in_make c (Make v number cap reference interface method) = if is_same_call (call v number) c then Some (asked_by_parts cap interface method) else None
request_in_make c _ = None

-- a Call carries interface and method of its Make
abbrev pub CarriesMethod : PastSteps → Message → Type 0
CarriesMethod before (Call c target interface method caps) = IsSomeAnd (last_step_answer (request_in_make c) before) (λ asked. (interface ≡ asked.interface) × (method ≡ asked.method))
CarriesMethod before _ = ⊤

-- (rpc.capnp, Call.target, interfaceId and methodId)
-- Delivery: a call that is delivered was made once, the cap that it was made through leads to the object, and it wasn't
-- delivered before; each Call carries interface and method of its Make
abbrev pub ReachesObject : PastSteps → Step → Type 0
ReachesObject before (Deliver v c object) =
    (count_steps (λ s. is_some (request_in_make c s)) before ≡ 1)
    × IsSomeAnd (last_step_answer (request_in_make c) before) (λ asked. Leads before asked.goal (Object v object))
    × IsFalse (list_any (delivers_call c) before)
ReachesObject before (Send v connection m) = CarriesMethod before m
ReachesObject before (Receive v connection m bound) = CarriesMethod before m
ReachesObject before _ = ⊤

-- a step makes the call through this reference of this vat
abbrev pub makes_through : ℕ → ℕ → Name → Step → Bool
makes_through v r c (Make w number cap reference interface method) = (w == v) && (reference == r) && is_same_call (call w number) c
makes_through v r c _ = false

-- two calls were made through one reference of one vat, the first of them before the second
abbrev pub is_made_before : Name → Name → PastSteps → Bool
is_made_before c d [] = false
is_made_before c d (Make v number cap reference interface method ∷ before) =
    (is_same_call (call v number) d && list_any (makes_through v reference c) before) || is_made_before c d before
is_made_before c d (_ ∷ before) = is_made_before c d before

-- two calls were delivered, the first of them before the second
abbrev pub is_delivered_before : Name → Name → PastSteps → Bool
is_delivered_before c d [] = false
is_delivered_before c d (s ∷ before) = (delivers_call d s && list_any (delivers_call c) before) || is_delivered_before c d before

-- (rpc.capnp, Disembargo: calls on the same capability reference are delivered in the order in which they were made)
-- Order: of two calls made through one reference of one vat, the second isn't delivered before the first
abbrev pub IsOrdered : List Step → Type 0
IsOrdered run = (c d : Name) → IsTrue (is_made_before c d (reverse run)) → IsFalse (is_delivered_before d c (reverse run))

-- (only connectivity begets connectivity)
-- Connected: each cap in a step, other than Nothing and the caps of a Receive, is had by its vat before it
abbrev pub IsConnected : List Step → Type 0
IsConnected run = EachOf HasUsed run
