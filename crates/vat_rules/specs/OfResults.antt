-- The rule on Returns: what is sent back is what came back.
use Rattle.std.specs.Prelude.{◌≡◌, ◌⊎◌, ℕ, List, true, false, Option, Some, IsTrue, IsFalse, IsSomeAnd, slice_get, ⊤}
use Rattle.std.specs.List.{AllByRecursion}
use Rattle.vat_rules.specs.Types.{Edition, First, Later, Results, Exception, Canceled, Elsewhere, TakeFrom, Bootstrap, Call, Return, Finish, Resolve, Release, Disembargo, Abort, DecodedRecord, Host, Vow, Fulfil, Break, Make, Field, Deliver, Answer, AnswerBy, Fault, Wire, FieldOf}
use Rattle.decoded_records.specs.Past.{Past, id}
use Rattle.decoded_records.specs.Questions.{is_finished, is_late, is_tail, opening, call_at, call_of}
use Rattle.decoded_records.specs.Lives.{descriptors}
use Rattle.decoded_records.specs.Views.{view_of_descriptor}
use Rattle.decoded_records.specs.Calls.{is_known, answered_by}
use Rattle.vat_rules.specs.Ways.{WentOn}
use Rattle.vat_rules.specs.OfCaps.{is_cap_at, is_own_number}

-- at a path whose index is a descriptor that isn't none, the call's result went on to what that stands for
abbrev pub ReturnsField : Edition → Past → DecodedRecord → ℕ → List ℕ × ℕ → Type 0
ReturnsField edition before e call (path, place) =
    is_cap_at (slice_get (descriptors e) place) ≡ true → WentOn edition (is_own_number (slice_get (descriptors e) place)) before (Some (FieldOf call path)) (view_of_descriptor before e place)

-- a call's results are known, and went on to what is sent at each of these paths
abbrev pub ReturnsFields : Edition → Past → DecodedRecord → List (List ℕ × ℕ) → ℕ → Type 0
ReturnsFields edition before e fields call = IsTrue (is_known call before) × AllByRecursion (ReturnsField edition before e call) fields

-- (rpc.capnp, Return.takeFromOtherQuestion)
-- a call was answered by another, which is the one whose results are taken. In a log of the later edition a call's own
-- results may be taken too: it led back over the connection by which it came, and was sent on there
abbrev pub ReturnsTaken : Edition → Past → Option ℕ → ℕ → Type 0
ReturnsTaken First before from call = IsSomeAnd (answered_by call before) (λ by. from ≡ Some by)
ReturnsTaken Later before from call = IsSomeAnd (answered_by call before) (λ by. from ≡ Some by) ⊎ (from ≡ Some call)

-- (rpc.capnp, Return.results, canceled, resultsSentElsewhere and takeFromOtherQuestion)
-- RESULT: SEND Return that isn't late: with results, its question wasn't asked with sendResultsTo yourself, the call's
-- results are known, and at each path whose capability index is a descriptor that isn't none, the known result leads to
-- what that descriptor stands for, or in a log of the later edition became what a number of the sender's own stands for. With resultsSentElsewhere, its question was asked so. With takeFromOtherQuestion, the
-- call was answered by the one for which the question that it names stands, or, in a log of the later edition, the
-- question stands for the call itself. Late or not, with canceled, a Finish was received
abbrev pub ReturnsKnown : Edition → Past → DecodedRecord → Type 0
ReturnsKnown edition before (Wire true k c rs (Return head (Results payload))) =
    let e = Wire true k c rs (Return head (Results payload)) in
    is_late before e ≡ false → IsFalse (is_tail (opening (id k false head.answer) before)) × IsSomeAnd (call_at (opening (id k false head.answer) before)) (ReturnsFields edition before e payload.fields)
ReturnsKnown edition before (Wire true k c rs (Return head Elsewhere)) =
    is_late before (Wire true k c rs (Return head Elsewhere)) ≡ false → IsTrue (is_tail (opening (id k false head.answer) before))
ReturnsKnown edition before (Wire true k c rs (Return head (TakeFrom n))) =
    is_late before (Wire true k c rs (Return head (TakeFrom n))) ≡ false →
    IsSomeAnd (call_at (opening (id k false head.answer) before)) (ReturnsTaken edition before (call_of (id k true n) before))
ReturnsKnown edition before (Wire true k c rs (Return head Canceled)) = IsTrue (is_finished (id k false head.answer) before)
ReturnsKnown edition before (Wire true k c rs (Return head Exception)) = ⊤
ReturnsKnown edition before (Wire true k c rs (Bootstrap q)) = ⊤
ReturnsKnown edition before (Wire true k c rs (Call head target params)) = ⊤
ReturnsKnown edition before (Wire true k c rs (Finish q release)) = ⊤
ReturnsKnown edition before (Wire true k c rs (Resolve promise resolution)) = ⊤
ReturnsKnown edition before (Wire true k c rs (Release n count)) = ⊤
ReturnsKnown edition before (Wire true k c rs (Disembargo n loopback target)) = ⊤
ReturnsKnown edition before (Wire true k c rs Abort) = ⊤
ReturnsKnown edition before (Wire false k c rs m) = ⊤
ReturnsKnown edition before (Host r object) = ⊤
ReturnsKnown edition before (Vow r) = ⊤
ReturnsKnown edition before (Fulfil r to) = ⊤
ReturnsKnown edition before (Break r) = ⊤
ReturnsKnown edition before (Make c r interface method) = ⊤
ReturnsKnown edition before (Field r c path) = ⊤
ReturnsKnown edition before (Deliver c object) = ⊤
ReturnsKnown edition before (Answer c results) = ⊤
ReturnsKnown edition before (AnswerBy c by) = ⊤
ReturnsKnown edition before (Fault c) = ⊤
