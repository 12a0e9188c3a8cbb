-- Calls at the vat, what they ask for, and what is known of their results (rpc.capnp, the comments of Call and
-- Return).
use Rattle.std.specs.Prelude.{ℕ, ◌==◌, Bool, true, false, not, ◌&&◌, ◌||◌, Option, Some, None, if◌then◌else◌, option_and_then, unwrap_or, is_some}
use Rattle.decoded_records.specs.Types.{Bootstrap, Call, Return, Finish, Resolve, Release, Disembargo, Abort, Results, Exception, Canceled, Elsewhere, TakeFrom, DecodedRecord, Host, Vow, Fulfil, Break, Make, Field, Deliver, Answer, AnswerBy, Fault, Wire, View, Request}
use Rattle.decoded_records.specs.Past.{Past, id, is, last_answer, last_where}
use Rattle.decoded_records.specs.Questions.{call_at, call_of, opening, is_late}
use Rattle.decoded_records.specs.Views.{view_of_reference, view_of_target}

-- MAKE brings a call to the vat, its goal the view of the reference; so does a received Call, its goal what the
-- target stands for. A Bootstrap's call is never at a vat
abbrev pub brings : ℕ → Past → DecodedRecord → Option Request
brings call before (Make c r interface method) =
    if c == call then Some record { goal = view_of_reference before r; interface = interface; method = method } else None
brings call before (Wire false k c rs (Call head target params)) =
    let goal = view_of_target before (Wire false k c rs (Call head target params)) in
    if c == call then Some record { goal = goal; interface = head.interface; method = head.method } else None
brings call before _ = None

-- what a call asked for when it came to the vat
abbrev pub request_of : ℕ → Past → Option Request
request_of call past = last_answer (brings call) past

-- a call's goal
abbrev pub goal_of : ℕ → Past → Option View
goal_of call past = option_and_then (λ a. a.goal) (request_of call past)

-- it leaves when delivered, faulted, sent on, or answered by a sent Return with exception or canceled, which names it
-- by its question
abbrev pub takes : ℕ → Past → DecodedRecord → Bool
takes call before (Deliver c object) = c == call
takes call before (Fault c) = c == call
takes call before (Wire true k c rs (Call head target params)) = c == call
takes call before (Wire true k c rs (Return head Exception)) = is call (call_at (opening (id k false head.answer) before))
takes call before (Wire true k c rs (Return head Canceled)) = is call (call_at (opening (id k false head.answer) before))
takes call before (Wire true k c rs (Return head (Results payload))) = false
takes call before (Wire true k c rs (Return head Elsewhere)) = false
takes call before (Wire true k c rs (Return head (TakeFrom n))) = false
takes call before (Wire true k c rs (Bootstrap q)) = false
takes call before (Wire true k c rs (Finish q release)) = false
takes call before (Wire true k c rs (Resolve promise resolution)) = false
takes call before (Wire true k c rs (Release n count)) = false
takes call before (Wire true k c rs (Disembargo n loopback target)) = false
takes call before (Wire true k c rs Abort) = false
takes call before (Wire false k c rs m) = false
takes call before (Host r object) = false
takes call before (Vow r) = false
takes call before (Fulfil r to) = false
takes call before (Break r) = false
takes call before (Make c r interface method) = false
takes call before (Field r c path) = false
takes call before (Answer c results) = false
takes call before (AnswerBy c by) = false

-- a record brings a call to the vat, or takes it away
abbrev pub moves : ℕ → Past → DecodedRecord → Option Bool
moves call before e = if is_some (brings call before e) then Some true else if takes call before e then Some false else None

-- a call is at the vat from when it came until it leaves
abbrev pub is_at_vat : ℕ → Past → Bool
is_at_vat call past = unwrap_or (last_answer (moves call) past) false

-- a record delivers this call
abbrev pub delivers : ℕ → Past → DecodedRecord → Bool
delivers call before (Deliver c object) = c == call
delivers call before _ = false

-- a record receives a Bootstrap for this call
abbrev pub boots : ℕ → Past → DecodedRecord → Bool
boots call before (Wire false k c rs (Bootstrap q)) = c == call
boots call before _ = false

-- a record answers or faults this call; ANSWERBY answers it
abbrev pub settles : ℕ → Past → DecodedRecord → Bool
settles call before (Answer c results) = c == call
settles call before (AnswerBy c by) = c == call
settles call before (Fault c) = c == call
settles call before (Host r object) = false
settles call before (Vow r) = false
settles call before (Fulfil r to) = false
settles call before (Break r) = false
settles call before (Make c r interface method) = false
settles call before (Field r c path) = false
settles call before (Deliver c object) = false
settles call before (Wire sent k c rs m) = false

-- a record has passed this test
abbrev pub has_passed : (Past → DecodedRecord → Bool) → Past → Bool
has_passed test past = is_some (last_where test past)

-- a call was delivered here, or is that of a received Bootstrap
abbrev pub is_served : ℕ → Past → Bool
is_served call past = has_passed (delivers call) past || has_passed (boots call) past

-- a call has an answer or fault
abbrev pub is_settled : ℕ → Past → Bool
is_settled call past = has_passed (settles call) past

-- (rpc.capnp, Return.takeFromOtherQuestion: the results are those of a call that the receiver was asked, and whose
-- results were to be sent elsewhere)
-- the call that a record answers by the results of another: ANSWERBY's first, or that of a received Return which takes
-- them
abbrev pub call_handed_on : Past → DecodedRecord → Option ℕ
call_handed_on before (AnswerBy c by) = Some c
call_handed_on before (Wire false k c rs (Return head (TakeFrom n))) = call_at (opening (id k true head.answer) before)
call_handed_on before _ = None

-- that other call: ANSWERBY's second, or the one for which the number stands that a received Return names, which isn't
-- late. The number is one of its sender's questions
abbrev pub call_taken_from : Past → DecodedRecord → Option ℕ
call_taken_from before (AnswerBy c by) = Some by
call_taken_from before (Wire false k c rs (Return head (TakeFrom n))) =
    if is_late before (Wire false k c rs (Return head (TakeFrom n))) then None else call_of (id k false n) before
call_taken_from before _ = None

-- the call by whose results a record answers this one
abbrev pub answerer : ℕ → Past → DecodedRecord → Option ℕ
answerer call before e = if is call (call_handed_on before e) then call_taken_from before e else None

-- the call by whose results this one was answered last
abbrev pub answered_by : ℕ → Past → Option ℕ
answered_by call past = last_answer (answerer call) past

-- a record makes a call's results known: ANSWER, a received Return with results that isn't late, or what answers it by
-- another call
abbrev pub knows : ℕ → Past → DecodedRecord → Bool
knows call before (Answer c results) = c == call
knows call before (Wire false k c rs (Return head (Results payload))) =
    is call (call_at (opening (id k true head.answer) before)) && not (is_late before (Wire false k c rs (Return head (Results payload))))
knows call before (Wire false k c rs (Return head (TakeFrom n))) =
    is_some (answerer call before (Wire false k c rs (Return head (TakeFrom n))))
knows call before (AnswerBy c by) = c == call
knows call before (Wire false k c rs (Return head Exception)) = false
knows call before (Wire false k c rs (Return head Canceled)) = false
knows call before (Wire false k c rs (Return head Elsewhere)) = false
knows call before (Wire false k c rs (Bootstrap q)) = false
knows call before (Wire false k c rs (Call head target params)) = false
knows call before (Wire false k c rs (Finish q release)) = false
knows call before (Wire false k c rs (Resolve promise resolution)) = false
knows call before (Wire false k c rs (Release n count)) = false
knows call before (Wire false k c rs (Disembargo n loopback target)) = false
knows call before (Wire false k c rs Abort) = false
knows call before (Wire true k c rs m) = false
knows call before (Host r object) = false
knows call before (Vow r) = false
knows call before (Fulfil r to) = false
knows call before (Break r) = false
knows call before (Make c r interface method) = false
knows call before (Field r c path) = false
knows call before (Deliver c object) = false
knows call before (Fault c) = false

-- a call's results are known
abbrev pub is_known : ℕ → Past → Bool
is_known call past = has_passed (knows call) past
