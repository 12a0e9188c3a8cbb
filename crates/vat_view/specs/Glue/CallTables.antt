-- For the code's contracts, and no part of the meaning: the table of calls, and what looking back finds for each of
-- them.
use Rattle.std.specs.Prelude.{◌≡◌, ℕ, ◌==◌, Bool, true, false, not, Option, Some, None, if◌then◌else◌, is_some, option_map}
use Rattle.number_tables.specs.declared.question.QuestionState.{QuestionState}
use Rattle.number_tables.specs.declared.exports_imports.ExportsImports.{ExportsImports}
use Rattle.number_tables.specs.declared.call_table.Calls.{Calls}
use Rattle.number_tables.specs.declared.call_state.CallState.{CallState}
use Rattle.number_tables.specs.declared.call_state.CallChange.{CallChange}
use Rattle.number_tables.specs.declared.call_state.CallChange.TheVariants.{Left, Delivered, Faulted, Answered, Known}
use Rattle.vat_view.specs.Types.{Bootstrap, Call, Return, Results, Exception, Canceled, TakeFrom, DecodedRecord, Make, Deliver, Answer, AnswerBy, Fault, Wire, View, Request, TableKey}
use Rattle.decoded_records.specs.Past.{Past, id}
use Rattle.decoded_records.specs.Questions.{is_late, call_at, opening}
use Rattle.decoded_records.specs.Views.{view_of_reference, view_of_target}
use Rattle.decoded_records.specs.Calls.{request_of, is_at_vat, is_served, is_settled, is_known, call_taken_from}
use Rattle.decoded_records.specs.Bindings.{is_bound_call}
use Rattle.number_tables.specs.Glue.QuestionTables.{late_by, opening_call_in}
use Rattle.vat_view.specs.Glue.Asking.{targeted_by, taken_from_by}
use Rattle.number_tables.specs.Glue.CallStates.{call_state_at, after_change}

-- what a call asked for, while it is at the vat
abbrev pub asked_of : ℕ → Past → Option Request
asked_of c past = if is_at_vat c past then request_of c past else None

-- what looking back finds of a call that is bound
abbrev pub call_state_of : ℕ → Past → Option CallState
call_state_of c past =
    if is_bound_call past c then Some (record { asked = asked_of c past; at_vat = is_at_vat c past; served = is_served c past; settled = is_settled c past; known = is_known c past }) else None

-- the table of calls has what looking back finds
abbrev pub AreCalled : Past → Calls → Type 0
AreCalled past table = (c : ℕ) → call_state_at table c ≡ call_state_of c past

-- a call that comes to the vat
abbrev pub arriving_call : Option View → ℕ → ℕ → CallState
arriving_call goal interface method = record {
  asked = Some (record { goal = goal; interface = interface; method = method });
  at_vat = true;
  served = false;
  settled = false;
  known = false;
}

-- the call of a Bootstrap, which is served where that was received
abbrev pub bootstrap_call : Bool → CallState
bootstrap_call received = record { asked = None; at_vat = false; served = received; settled = false; known = false }

-- what a record tells of calls: nothing, that one begins, or that something happens to one
pub data CallEffect : Type 0 where
  Nothing : CallEffect
  Begins : ℕ → CallState → CallEffect
  Moves : ℕ → CallChange → CallEffect

-- this happens to a call, if there is one
abbrev pub change_of_call : CallChange → Option ℕ → CallEffect
change_of_call step (Some c) = Moves c step
change_of_call step None = Nothing

-- what a sent record tells of calls, by the calls of questions
abbrev pub sent_effect : (TableKey → Option ℕ) → DecodedRecord → CallEffect
sent_effect opened (Wire true k c rs (Bootstrap q)) = Begins c (bootstrap_call false)
sent_effect opened (Wire true k c rs (Call head target params)) = Moves c Left
sent_effect opened (Wire true k c rs (Return head Exception)) = change_of_call Left (opened (id k false head.answer))
sent_effect opened (Wire true k c rs (Return head Canceled)) = change_of_call Left (opened (id k false head.answer))
sent_effect opened _ = Nothing

-- what a received record tells of calls, by the views of targets, whether it is late, the call whose results it takes,
-- and the calls of questions
abbrev pub received_effect : Option View → Bool → Option ℕ → (TableKey → Option ℕ) → DecodedRecord → CallEffect
received_effect target late taken opened (Wire false k c rs (Bootstrap q)) = Begins c (bootstrap_call true)
received_effect target late taken opened (Wire false k c rs (Call head t params)) = Begins c (arriving_call target head.interface head.method)
received_effect target late taken opened (Wire false k c rs (Return head (Results payload))) = if late then Nothing else change_of_call Known (opened (id k true head.answer))
received_effect target late taken opened (Wire false k c rs (Return head (TakeFrom n))) =
    if is_some taken then change_of_call Known (opened (id k true head.answer)) else Nothing
received_effect target late taken opened _ = Nothing

-- what a record tells of calls
abbrev pub effect_from : (ℕ → Option View) → Option View → Bool → Option ℕ → (TableKey → Option ℕ) → DecodedRecord → CallEffect
effect_from named target late taken opened (Make c r interface method) = Begins c (arriving_call (named r) interface method)
effect_from named target late taken opened (Deliver c object) = Moves c Delivered
effect_from named target late taken opened (Answer c results) = Moves c Answered
effect_from named target late taken opened (AnswerBy c by) = Moves c Answered
effect_from named target late taken opened (Fault c) = Moves c Faulted
effect_from named target late taken opened (Wire true k c rs m) = sent_effect opened (Wire true k c rs m)
effect_from named target late taken opened (Wire false k c rs m) = received_effect target late taken opened (Wire false k c rs m)
effect_from named target late taken opened _ = Nothing

-- by the tables
abbrev pub effect_by : (ℕ → Option View) → ExportsImports → (TableKey → Option QuestionState) → DecodedRecord → CallEffect
effect_by named lives known e = effect_from named (targeted_by named lives known e) (late_by known e) (taken_from_by known e) (λ q. opening_call_in (known q)) e

-- ---- the same in two parts, as the code has it

-- a record begins a call
abbrev pub begins_call : DecodedRecord → Bool
begins_call (Make c r interface method) = true
begins_call (Wire sent k c rs (Bootstrap q)) = true
begins_call (Wire sent k c rs (Call head target params)) = not sent
begins_call _ = false

-- the call that it begins, by the views of references and targets
abbrev pub begun_from : (ℕ → Option View) → Option View → DecodedRecord → Option (ℕ × CallState)
begun_from named target (Make c r interface method) = Some (c, arriving_call (named r) interface method)
begun_from named target (Wire sent k c rs (Bootstrap q)) = Some (c, bootstrap_call (not sent))
begun_from named target (Wire false k c rs (Call head t params)) = Some (c, arriving_call target head.interface head.method)
begun_from named target _ = None

-- by the tables
abbrev pub begun_by : (ℕ → Option View) → ExportsImports → (TableKey → Option QuestionState) → DecodedRecord → Option (ℕ × CallState)
begun_by named lives known e = begun_from named (targeted_by named lives known e) e

-- this happens to a call, if there is one
abbrev pub moved : CallChange → Option ℕ → Option (ℕ × CallChange)
moved step (Some c) = Some (c, step)
moved step None = None

-- what a sent record tells of a call that was begun before it
abbrev pub sent_step : (TableKey → Option ℕ) → DecodedRecord → Option (ℕ × CallChange)
sent_step opened (Wire true k c rs (Call head target params)) = Some (c, Left)
sent_step opened (Wire true k c rs (Return head Exception)) = moved Left (opened (id k false head.answer))
sent_step opened (Wire true k c rs (Return head Canceled)) = moved Left (opened (id k false head.answer))
sent_step opened _ = None

-- what a received record tells of a call that was begun before it
abbrev pub received_step : Bool → Option ℕ → (TableKey → Option ℕ) → DecodedRecord → Option (ℕ × CallChange)
received_step late taken opened (Wire false k c rs (Return head (Results payload))) = if late then None else moved Known (opened (id k true head.answer))
received_step late taken opened (Wire false k c rs (Return head (TakeFrom n))) = if is_some taken then moved Known (opened (id k true head.answer)) else None
received_step late taken opened _ = None

-- what a record tells of a call that was begun before it
abbrev pub step_from : Bool → Option ℕ → (TableKey → Option ℕ) → DecodedRecord → Option (ℕ × CallChange)
step_from late taken opened (Deliver c object) = Some (c, Delivered)
step_from late taken opened (Answer c results) = Some (c, Answered)
step_from late taken opened (AnswerBy c by) = Some (c, Answered)
step_from late taken opened (Fault c) = Some (c, Faulted)
step_from late taken opened (Wire true k c rs m) = sent_step opened (Wire true k c rs m)
step_from late taken opened (Wire false k c rs m) = received_step late taken opened (Wire false k c rs m)
step_from late taken opened _ = None

-- by the tables
abbrev pub step_by : (TableKey → Option QuestionState) → DecodedRecord → Option (ℕ × CallChange)
step_by known e = step_from (late_by known e) (taken_from_by known e) (λ q. opening_call_in (known q)) e

-- the whole by its parts
abbrev pub begins_of : Option (ℕ × CallState) → CallEffect
begins_of (Some begun) = Begins begun.0 begun.1
begins_of None = Nothing

abbrev pub moves_of : Option (ℕ × CallChange) → CallEffect
moves_of (Some step) = Moves step.0 step.1
moves_of None = Nothing

-- by looking back
abbrev pub effect_of : Past → DecodedRecord → CallEffect
effect_of before e =
    effect_from (view_of_reference before) (view_of_target before e) (is_late before e) (call_taken_from before e) (λ q. call_at (opening q before)) e

-- what is known of a call after some news
abbrev pub after_effect : CallEffect → ℕ → Option CallState → Option CallState
after_effect Nothing c progress = progress
after_effect (Begins d begun) c progress = if d == c then Some begun else progress
after_effect (Moves d step) c progress = if d == c then option_map (after_change step) progress else progress
