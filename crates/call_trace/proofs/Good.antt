-- Good findings have a run: what holds of each record, put together.
use Rattle.std.proofs.Common.{◌≡◌, refl, ℕ, List, true, false}
use Rattle.std.specs.Prelude.{reverse, Some}
use Rattle.vat_rules.specs.Audit.{Found}
use Rattle.vat_rules.specs.Judged.{IsGood}
use Rattle.vat_rules.specs.OfCaps.{is_received}
use Rattle.decoded_records.specs.Past.{Past, Each}
use Rattle.call_trace.specs.Findings.{AreTrue, MayBeNamed}
use Rattle.call_trace.specs.Named.{IsRunOf}
use Rattle.call_trace.specs.Part.{Says}
use Rattle.call_trace.specs.Running.{steps_of_row}
use Rattle.call_trace.specs.Taking.{row_of}
use Rattle.call_trace.specs.Types.{Bootstrap, Call, Return, Finish, Resolve, Release, Disembargo, Abort, DecodedRecord, Host, Vow, Fulfil, Break, Make, Field, Deliver, Answer, AnswerBy, Fault, Wire, Step}
use Rattle.call_trace.specs.Within.{IsWithin}
use Rattle.call_trace.proofs.Binding.{receipts_bind}
use Rattle.call_trace.proofs.Making.{own_may_come}
use Rattle.call_trace.proofs.Placing.{delivery_may_come, sent_call_may_come}
use Rattle.call_trace.proofs.Receipts.{message_read}
use Rattle.call_trace.proofs.Resulting.{return_comes, resolve_comes}
use Rattle.call_trace.proofs.Running.{TakesStep, findings_run}
use Rattle.call_trace.proofs.Sayable.{step_there, used_had}
use Rattle.call_trace.proofs.Settling.{answer_may_come, answer_by_may_come, fault_may_come}
use Rattle.run_model.specs.Legal.{MayCome}

-- each kind of record by its own law
step_may_come : (v : ℕ) (es : Past) (steps before : List Step) (e : DecodedRecord) (s : Step) → IsWithin v es steps before → Each IsGood es → IsGood es e → is_received e ≡ false →
    Says v es steps e s → MayCome before s
step_may_come v es steps before (Host r object) s w goods good own says = own_may_come v es steps before (Host r object) s w good refl says
step_may_come v es steps before (Vow r) s w goods good own says = own_may_come v es steps before (Vow r) s w good refl says
step_may_come v es steps before (Fulfil r to) s w goods good own says = own_may_come v es steps before (Fulfil r to) s w good refl says
step_may_come v es steps before (Break r) s w goods good own says = own_may_come v es steps before (Break r) s w good refl says
step_may_come v es steps before (Make c r interface method) s w goods good own says = own_may_come v es steps before (Make c r interface method) s w good refl says
step_may_come v es steps before (Field r c path) s w goods good own says = own_may_come v es steps before (Field r c path) s w good refl says
step_may_come v es steps before (Deliver c object) s w goods good own says = delivery_may_come v es steps before c object s w goods good says
step_may_come v es steps before (Answer c results) s w goods good own says = answer_may_come v es steps before c results s w goods good says
step_may_come v es steps before (AnswerBy c by) s w goods good own says = answer_by_may_come v es steps before c by s w goods good says
step_may_come v es steps before (Fault c) s w goods good own says = fault_may_come v es steps before c s w goods good says
step_may_come v es steps before (Wire true k c rs (Bootstrap q)) s w goods good own says = own_may_come v es steps before (Wire true k c rs (Bootstrap q)) s w good refl says
step_may_come v es steps before (Wire true k c rs (Call head target params)) s w goods good own says =
    sent_call_may_come v es steps before k c rs head target params s w goods good says
step_may_come v es steps before (Wire true k c rs (Return head outcome)) s w goods good own says = return_comes v es steps before w goods k c rs head outcome s good says
step_may_come v es steps before (Wire true k c rs (Finish q release)) s w goods good own says = own_may_come v es steps before (Wire true k c rs (Finish q release)) s w good refl says
step_may_come v es steps before (Wire true k c rs (Resolve n resolution)) s w goods good own says = resolve_comes v es steps before w goods k c rs n resolution s good says
step_may_come v es steps before (Wire true k c rs (Release n count)) s w goods good own says = own_may_come v es steps before (Wire true k c rs (Release n count)) s w good refl says
step_may_come v es steps before (Wire true k c rs (Disembargo n loopback target)) s w goods good own says =
    own_may_come v es steps before (Wire true k c rs (Disembargo n loopback target)) s w good refl says
step_may_come v es steps before (Wire true k c rs Abort) s w goods good own says = own_may_come v es steps before (Wire true k c rs Abort) s w good refl says
step_may_come v es steps before (Wire false k c rs m) s w goods good own says = absurd (let no : ⊥ = cc in no)

takes_step : TakesStep
takes_step v es steps before e w goods good own =
    let t = step_there v es steps before e w goods good own in
    (t.0, t.1, t.2, (used_had v es steps before e t.0 w goods good t.2, step_may_come v es steps before e t.0 w goods good own t.2))

pub good_run : (findings : List Found) (order : List ℕ) → AreTrue findings → MayBeNamed findings order →
    (before : List Step) × (steps_of_row (row_of findings order) ≡ Some before) × IsRunOf findings order (reverse before)
good_run =
    findings_run takes_step
    (λ k v w c one its_steps other steps references m from sent message bound met linked good passed there.
    message_read k v w c one its_steps other steps references m from sent message bound met linked good passed there)
    receipts_bind
