-- The rules on calls: where they are, where they go, and when they are answered.
use Rattle.std.specs.Prelude.{◌≡◌, ℕ, List, [], ◌∷◌, Bool, true, not, ◌&&◌, ◌||◌, Some, IsTrue, IsSomeAnd, ⊤}
use Rattle.std.specs.List.{list_any}
use Rattle.std.specs.Str.{bytes_eq as same_path}
use Rattle.vat_rules.specs.Types.{Edition, Call, DecodedRecord, Host, Vow, Fulfil, Break, Make, Field, Deliver, Answer, AnswerBy, Fault, Wire, Object}
use Rattle.decoded_records.specs.Past.{Past}
use Rattle.decoded_records.specs.Views.{view_of_target}
use Rattle.decoded_records.specs.Calls.{request_of, goal_of, is_at_vat, is_served, is_settled}
use Rattle.vat_rules.specs.Ways.{LeadsTo, GoesFor}

-- (this project's own: a call that was passed on or delivered has gone)
-- HERE: a call that is delivered or sent on is at the vat
abbrev pub IsHere : Past → DecodedRecord → Type 0
IsHere before (Deliver call object) = IsTrue (is_at_vat call before)
IsHere before (Wire true k call references (Call head target params)) = IsTrue (is_at_vat call before)
IsHere before _ = ⊤

-- (rpc.capnp, Call.target, interfaceId and methodId)
-- GOAL: DELIVER: the call's goal leads to that own object. SEND Call: it leads to what the target stands for, or in a log of
-- the later edition is one with it, and interface and method are the call's
abbrev pub GoesToGoal : Edition → Past → DecodedRecord → Type 0
GoesToGoal edition before (Deliver call object) = LeadsTo before (goal_of call before) (Some (Object object))
GoesToGoal edition before (Wire true k call references (Call head target params)) =
    let there = view_of_target before (Wire true k call references (Call head target params)) in
    IsSomeAnd (request_of call before) (λ a. GoesFor edition before a.goal there × (head.interface ≡ a.interface) × (head.method ≡ a.method))
GoesToGoal edition before _ = ⊤

-- no path twice
abbrev pub distinct_paths : List (ℕ × List ℕ) → Bool
distinct_paths [] = true
distinct_paths (a ∷ rest) = not (list_any (λ b. same_path a.1 b.1) rest) && distinct_paths rest

-- (this project's own: a call ends once, where it was delivered, or where it is at the vat and fails)
-- ANSWER: ANSWER: the call was delivered here or is that of a received Bootstrap, has no answer or fault, and paths are
-- distinct. ANSWERBY: the same of its first call, without paths. FAULT: the call is at the vat, was delivered here or is
-- that of a received Bootstrap, and has no answer or fault
abbrev pub MayAnswer : Past → DecodedRecord → Type 0
MayAnswer before (Answer call results) = IsTrue (is_served call before && not (is_settled call before) && distinct_paths results)
MayAnswer before (AnswerBy call by) = IsTrue (is_served call before && not (is_settled call before))
MayAnswer before (Fault call) = IsTrue ((is_at_vat call before || is_served call before) && not (is_settled call before))
MayAnswer before (Host r object) = ⊤
MayAnswer before (Vow r) = ⊤
MayAnswer before (Fulfil r to) = ⊤
MayAnswer before (Break r) = ⊤
MayAnswer before (Make call r interface method) = ⊤
MayAnswer before (Field r call path) = ⊤
MayAnswer before (Deliver call object) = ⊤
MayAnswer before (Wire sent k call references m) = ⊤
