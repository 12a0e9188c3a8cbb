-- What a record says by its facts is what it says by the records before it.
use Rattle.std.proofs.Common.{◌≡◌, refl, sym, ◌∙◌, ap, ap₂, ℕ, ◌+◌, List, [], ◌∷◌, ◌++◌, length, map, true, false, Option, Some, None, option_and_then, option_map, append_assoc, length-append}
use Rattle.decoded_records.specs.Past.{Past, id}
use Rattle.decoded_records.specs.Lives.{descriptors}
use Rattle.decoded_records.specs.Questions.{is_late, call_of}
use Rattle.decoded_records.specs.Views.{view_of_reference, descriptor_view}
use Rattle.vat_rules.specs.OfCaps.{is_received}
use Rattle.vat_rules.specs.Telling.{facts_of, question_view, taken_view}
use Rattle.call_trace.specs.Types.{Descriptor, NoCap, SenderHosted, SenderPromise, ReceiverHosted, ReceiverAnswer, Outcome, Results, Exception, Canceled, Elsewhere, TakeFrom, RpcMessage, Bootstrap, Call, Return, ReturnHead, Finish, Resolve, Release, Disembargo, Abort, DecodedRecord, Host, Vow, Fulfil, Break, Make, Field, Deliver, Answer, AnswerBy, Fault, Wire, View, FieldOf}
use Rattle.call_trace.specs.Naming.{Naming}
use Rattle.call_trace.specs.Said.{all_there, descriptor_named, caps_named, call_answered, say_call, say_return, say_taken, say_resolve, message_of_record}
use Rattle.call_trace.specs.Part.{result_named, step_said}
use Rattle.call_trace.specs.Glue.Ledgers.{kept_view, cap_said, caps_from, caps_said, call_of_question, answered_in, sent_said, results_from, step_said_by}
use Rattle.run_model.specs.declared.message.Message.TheVariants as message
use Rattle.run_model.specs.declared.step.Step.TheVariants as step

-- the first behind some
view_behind : (before : List (Option View)) (view : Option View) (rest : List (Option View)) → kept_view (before ++ view ∷ rest) (length before) ≡ view
view_behind [] view rest = refl
view_behind (x ∷ before) view rest = view_behind before view rest

-- ---- descriptors

cap_as : (names : Naming) (es : Past) (e : DecodedRecord) (d : Descriptor) → cap_said names d (descriptor_view (view_of_reference es) es e d) ≡ descriptor_named names es e d
cap_as names es e NoCap = refl
cap_as names es e (SenderHosted n) = refl
cap_as names es e (SenderPromise n) = refl
cap_as names es e (ReceiverHosted n) = refl
cap_as names es e (ReceiverAnswer q path) = refl

caps_as : (names : Naming) (es : Past) (e : DecodedRecord) (before : List (Option View)) (ds : List Descriptor) →
    caps_from names (before ++ map (descriptor_view (view_of_reference es) es e) ds) (length before) ds ≡ map (descriptor_named names es e) ds
caps_as names es e before [] = refl
caps_as names es e before (d ∷ ds) =
    let view = descriptor_view (view_of_reference es) es e d in
    let views = map (descriptor_view (view_of_reference es) es e) ds in
    let one : (before ++ view ∷ []) ++ views ≡ before ++ view ∷ views = append_assoc before (view ∷ []) views in
    let long : length (before ++ view ∷ []) ≡ length before + 1 = length-append before (view ∷ []) in
    ap₂ (λ c cs. c ∷ cs) (ap (cap_said names d) (view_behind before view views) ∙ cap_as names es e d)
    (ap₂ (λ all place. caps_from names all place ds) (sym one) (sym long) ∙ caps_as names es e (before ++ view ∷ []) ds)

caps_are : (names : Naming) (es : Past) (e : DecodedRecord) → caps_said names (map (descriptor_view (view_of_reference es) es e) (descriptors e)) (descriptors e) ≡ caps_named names es e
caps_are names es e = ap all_there (caps_as names es e [] (descriptors e))

-- ---- results

results_as : (names : Naming) (es : Past) (before : List (Option View)) (rs : List (ℕ × List ℕ)) →
    results_from names (before ++ map (view_of_reference es) (map (λ r. r.0) rs)) (length before) rs ≡ map (result_named names es) rs
results_as names es before [] = refl
results_as names es before (r ∷ rs) =
    let view = view_of_reference es r.0 in
    let views = map (view_of_reference es) (map (λ r. r.0) rs) in
    let one : (before ++ view ∷ []) ++ views ≡ before ++ view ∷ views = append_assoc before (view ∷ []) views in
    let long : length (before ++ view ∷ []) ≡ length before + 1 = length-append before (view ∷ []) in
    ap₂ (λ c cs. c ∷ cs) (ap (λ o. option_map (λ c. (r.1, c)) (option_and_then names.cap o)) (view_behind before view views))
    (ap₂ (λ all place. results_from names all place rs) (sym one) (sym long) ∙ results_as names es (before ++ view ∷ []) rs)

-- ---- questions

called_field : (o : Option ℕ) → call_of_question (option_map (λ c. FieldOf c []) o) ≡ o
called_field None = refl
called_field (Some c) = refl

question_as : (names : Naming) (es : Past) (k c : ℕ) (references : List ℕ) (head : ReturnHead) (outcome : Outcome) →
    answered_in names.call (question_view es (Wire true k c references (Return head outcome))) ≡ call_answered names es k true head.answer
question_as names es k c references head outcome = ap (option_and_then names.call) (called_field (call_of (id k false head.answer) es))

taken_as : (names : Naming) (es : Past) (k c : ℕ) (references : List ℕ) (head : ReturnHead) (n : ℕ) →
    answered_in names.call (taken_view es (Wire true k c references (Return head (TakeFrom n)))) ≡ option_and_then names.call (call_of (id k true n) es)
taken_as names es k c references head n = ap (option_and_then names.call) (called_field (call_of (id k true n) es))

-- ---- messages

sent_as : (names : Naming) (es : Past) (k c : ℕ) (references : List ℕ) (m : RpcMessage) → let e = Wire true k c references m in
    sent_said names (facts_of es e) c m ≡ message_of_record names es e
sent_as names es k c references (Bootstrap q) = refl
sent_as names es k c references (Call head target params) =
    let e = Wire true k c references (Call head target params) in
    ap (λ caps. say_call head.interface head.method caps (names.call c) (option_and_then names.cap (facts_of es e).target)) (caps_are names es e)
sent_as names es k c references (Return head (Results payload)) =
    let e = Wire true k c references (Return head (Results payload)) in
    ap₂ (λ o caps. option_and_then (λ name. say_return (is_late es e) payload.fields name caps) o) (question_as names es k c references head (Results payload)) (caps_are names es e)
sent_as names es k c references (Return head Exception) = ap (option_map message.Failed) (question_as names es k c references head Exception)
sent_as names es k c references (Return head Canceled) = ap (option_map message.Failed) (question_as names es k c references head Canceled)
sent_as names es k c references (Return head Elsewhere) = ap (option_map message.Elsewhere) (question_as names es k c references head Elsewhere)
sent_as names es k c references (Return head (TakeFrom n)) =
    let e = Wire true k c references (Return head (TakeFrom n)) in
    ap₂ (λ by o. option_and_then (λ name. say_taken (is_late es e) name by) o) (taken_as names es k c references head n) (question_as names es k c references head (TakeFrom n))
sent_as names es k c references (Resolve n resolution) =
    let e = Wire true k c references (Resolve n resolution) in
    ap (λ caps. option_and_then (λ promise. option_map (say_resolve promise) caps) (option_and_then names.cap (facts_of es e).promise)) (caps_are names es e)
sent_as names es k c references (Finish q release) = refl
sent_as names es k c references (Release n count) = refl
sent_as names es k c references (Disembargo n loopback target) = refl
sent_as names es k c references Abort = refl

-- ---- steps

pub step_as : (names : Naming) (es : Past) (e : DecodedRecord) → is_received e ≡ false → step_said_by names (facts_of es e) e ≡ step_said names es e
step_as names es (Host r object) own = refl
step_as names es (Vow r) own = refl
step_as names es (Fulfil r to) own = refl
step_as names es (Break r) own = refl
step_as names es (Make c r interface method) own = refl
step_as names es (Field r c path) own = refl
step_as names es (Deliver c object) own = refl
step_as names es (Answer c results) own =
    ap (λ caps. option_and_then (λ name. option_map (λ caps. step.Answer names.vat name caps) caps) (names.call c)) (ap all_there (results_as names es [] results))
step_as names es (AnswerBy c by) own = refl
step_as names es (Fault c) own = refl
step_as names es (Wire true k c references m) own = ap (option_map (λ sent. step.Send names.vat k sent)) (sent_as names es k c references m)
step_as names es (Wire false k c references m) own = absurd (let no : ⊥ = cc in no)
