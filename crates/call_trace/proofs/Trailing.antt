-- The steps so far and what they sent, one record further.
use Rattle.std.proofs.Common.{◌≡◌, refl, sym, ◌∙◌, ap, subst, ℕ, List, ◌∷◌, map, reverse, Bool, true, false, Option, Some, None, option_and_then, option_map, slice_get}
use Rattle.std.specs.Prelude.{IsSome}
use Rattle.agree.specs.Rows.{Row, log_of_vat}
use Rattle.vat_rules.specs.LogFacts.{Facts}
use Rattle.vat_rules.specs.OfCaps.{is_received}
use Rattle.decoded_records.specs.Past.{Past}
use Rattle.decoded_records.specs.Views.{view_of_reference}
use Rattle.call_trace.specs.declared.records.vat_ledger.VatLedger.{VatLedger}
use Rattle.call_trace.specs.declared.steps.channels.Channels.{Channels}
use Rattle.call_trace.specs.declared.steps.run_builder.RunBuilder.{RunBuilder}
use Rattle.call_trace.specs.Types.{RpcMessage, DecodedRecord, Host, Vow, Fulfil, Break, Make, Field, Deliver, Answer, AnswerBy, Fault, Wire, Cap, Message, Step}
use Rattle.call_trace.specs.Glue.Ledgers.{IsKept, HasStep, IsTaken, step_of_receipt}
use Rattle.call_trace.specs.Glue.Channels.{message_by, AreLines}
use Rattle.call_trace.specs.Naming.{naming, message_of_step}
use Rattle.call_trace.specs.Part.{result_named, promise_in}
use Rattle.call_trace.specs.Running.{coming_next, step_received, step_of, steps_by, steps_of_row}
use Rattle.call_trace.specs.Said.{all_there}
use Rattle.call_trace.specs.Glue.RunBuilder.{IsKeptAt, ComesNext, Comes}
use Rattle.call_trace.proofs.Keeping.{not_none, some_if}
use Rattle.call_trace.proofs.Passing.{other_more}
use Rattle.call_trace.proofs.Rowing.{kept_here, row_none}
use Rattle.run_model.specs.declared.cap.Cap.TheVariants as cap
use Rattle.run_model.specs.declared.step.Step.TheVariants as step

-- ---- which step it is

some_so : (P : Step → Type 0) (a s : Step) → P a → ◌≡◌ {A = Option Step} (Some a) (Some s) → P s
some_so P a s p e = let same : a ≡ s = cc in subst P same p

map_so : {A : Type 0} (P : Step → Type 0) (f : A → Step) (s : Step) → ((x : A) → P (f x)) → (o : Option A) → option_map f o ≡ Some s → P s
map_so P f s p None e = absurd (let none : ⊥ = cc in none)
map_so P f s p (Some x) e = some_so P (f x) s (p x) e

then_so : {A : Type 0} (P : Step → Type 0) (g : A → Option Step) (s : Step) → ((x : A) → g x ≡ Some s → P s) → (o : Option A) → option_and_then g o ≡ Some s → P s
then_so P g s p None e = absurd (let none : ⊥ = cc in none)
then_so P g s p (Some x) e = p x e

-- a record is no message
abbrev pub IsOwn : DecodedRecord → Type 0
IsOwn (Wire sent k c references m) = ⊥
IsOwn e = Unit {0}

-- a step passes no message
abbrev IsSilent : Step → Type 0
IsSilent s = ◌≡◌ {A = Option Message} (message_of_step s) None

silent : (v : ℕ) (es : Past) (own before : List Step) (e : DecodedRecord) (s : Step) → IsOwn e → step_of v es own before e ≡ Some s → message_of_step s ≡ None
silent v es own before (Host r object) s o is = some_so IsSilent (step.Host v object) s refl is
silent v es own before (Vow r) s o is = some_so IsSilent (step.Vow v r) s refl is
silent v es own before (Fulfil r to) s o is =
    then_so IsSilent _ s (λ p. map_so IsSilent (λ c. step.Fulfil v p c) s (λ c. refl) _) (promise_in (view_of_reference es r)) is
silent v es own before (Break r) s o is = map_so IsSilent (λ p. step.Break v p) s (λ p. refl) (promise_in (view_of_reference es r)) is
silent v es own before (Make c r interface method) s o is = map_so IsSilent (λ to. step.Make v c to r interface method) s (λ to. refl) _ is
silent v es own before (Field r c path) s o is = map_so IsSilent (λ name. step.Name v (cap.Field name path)) s (λ name. refl) _ is
silent v es own before (Deliver c object) s o is = map_so IsSilent (λ name. step.Deliver v name object) s (λ name. refl) _ is
silent v es own before (Answer c results) s o is =
    let names = naming v (Answer c results ∷ es) (step.Host v 0 ∷ own) in
    then_so IsSilent _ s (λ name. map_so IsSilent (λ caps. step.Answer v name caps) s (λ caps. refl) (all_there (map (result_named names es) results))) (names.call c) is
silent v es own before (AnswerBy c by) s o is =
    let names = naming v (AnswerBy c by ∷ es) (step.Host v 0 ∷ own) in
    then_so IsSilent _ s (λ name. map_so IsSilent (λ other. step.AnswerBy v name other) s (λ other. refl) (names.call by)) (names.call c) is
silent v es own before (Fault c) s o is = map_so IsSilent (λ name. step.Fault v name) s (λ name. refl) _ is
silent v es own before (Wire sent k c references m) s o is = absurd o

sends : (v k c : ℕ) (references : List ℕ) (m : RpcMessage) (es : Past) (own before : List Step) (s : Step) → step_of v es own before (Wire true k c references m) ≡ Some s →
    (sent : Message) × (s ≡ step.Send v k sent)
sends v k c references m es own before s is = map_so (λ s. (sent : Message) × (s ≡ step.Send v k sent)) (λ sent. step.Send v k sent) s (λ sent. (sent, refl)) _ is

receives : (v k c : ℕ) (references : List ℕ) (m : RpcMessage) (message : Message) (es : Past) (own : List Step) (s : Step) →
    step_of_receipt v es own (Wire false k c references m) message ≡ Some s → (bound : List Cap) × (s ≡ step.Receive v k message bound)
receives v k c references m message es own s is =
    map_so (λ s. (bound : List Cap) × (s ≡ step.Receive v k message bound)) (λ bound. step.Receive v k message bound) s (λ bound. (bound, refl)) _ is

-- ---- one record further

pub none_comes : (v k c : ℕ) (references : List ℕ) (m : RpcMessage) (row : Row) (before : List Step) → steps_of_row row ≡ Some before → coming_next v k before ≡ None →
    steps_of_row ((v, Wire false k c references m) ∷ row) ≡ None
none_comes v k c references m row before so_far none =
    row_none v (Wire false k c references m) row before so_far
    (ap (option_and_then (step_received v (log_of_vat v row) (steps_by v before) (Wire false k c references m) k references)) none)

-- a record took its step, where the table is that of the steps with it
comes : (v : ℕ) (e : DecodedRecord) (row : Row) (before : List Step) (new : RunBuilder) (ledger : VatLedger) → steps_of_row row ≡ Some before →
    ((s : Step) → step_of v (log_of_vat v row) (steps_by v before) before e ≡ Some s → ledger.vat ≡ v → AreLines (s ∷ before) new.lines) →
    IsTaken v (log_of_vat v row) e (steps_by v before) (step_of v (log_of_vat v row) (steps_by v before) before e) (reverse before) new.steps.items ledger →
    Comes v e row before new ledger
comes v e row before new ledger so_far lines t =
    let k = kept_here v e row before new.steps.items ledger so_far t in
    (k.0, k.1, k.4, record { steps = k.3; lines = lines k.0 k.2 k.5.vat }, k.5)

own_of : (e : DecodedRecord) → ((sent : Bool) (k c : ℕ) (references : List ℕ) (m : RpcMessage) → e ≡ Wire sent k c references m → ⊥) → IsOwn e
own_of (Wire sent k c references m) not = not sent k c references m refl
own_of (Host r object) not = tt
own_of (Vow r) not = tt
own_of (Fulfil r to) not = tt
own_of (Break r) not = tt
own_of (Make c r interface method) not = tt
own_of (Field r c path) not = tt
own_of (Deliver c object) not = tt
own_of (Answer c results) not = tt
own_of (AnswerBy c by) not = tt
own_of (Fault c) not = tt

abbrev Turned : ℕ → DecodedRecord → Row → List Step → RunBuilder → VatLedger → Type 0
Turned v e row before new ledger =
    IsTaken v (log_of_vat v row) e (steps_by v before) (step_of v (log_of_vat v row) (steps_by v before) before e) (reverse before) new.steps.items ledger

pub own_comes : (v : ℕ) (e : DecodedRecord) (row : Row) (before : List Step) (old : Channels) (new : RunBuilder) (ledger : VatLedger) →
    ((sent : Bool) (k c : ℕ) (references : List ℕ) (m : RpcMessage) → e ≡ Wire sent k c references m → ⊥) → steps_of_row row ≡ Some before → AreLines before old → new.lines ≡ old →
    Turned v e row before new ledger → Comes v e row before new ledger
own_comes v e row before old new ledger own so_far lines same t =
    comes v e row before new ledger so_far
    (λ s is whose. subst (λ table. AreLines (s ∷ before) table) (sym same) (other_more s before old (silent v (log_of_vat v row) (steps_by v before) before e s (own_of e own) is) lines)) t

pub sent_comes : (v k c : ℕ) (references : List ℕ) (m : RpcMessage) (e : DecodedRecord) (row : Row) (before : List Step) (new : RunBuilder) (ledger : VatLedger) → e ≡ Wire true k c references m →
    steps_of_row row ≡ Some before → ((message : Message) → AreLines (step.Send ledger.vat k message ∷ before) new.lines) →
    Turned v e row before new ledger → Comes v e row before new ledger
sent_comes v k c references m e row before new ledger same so_far lines t =
    comes v e row before new ledger so_far
    (λ s is whose.
    let sent = sends v k c references m (log_of_vat v row) (steps_by v before) before s (ap (step_of v (log_of_vat v row) (steps_by v before) before) (sym same) ∙ is) in
    subst (λ s. AreLines (s ∷ before) new.lines) (ap (λ w. step.Send w k sent.0) whose ∙ sym sent.1) (lines sent.0)) t

abbrev GotBy : DecodedRecord → ℕ → Type 0
GotBy e k = (v : ℕ) (message : Message) (row : Row) (before : List Step) (new : RunBuilder) (ledger : VatLedger) → steps_of_row row ≡ Some before →
    coming_next v k before ≡ Some message → ((bound : List Cap) → AreLines (step.Receive v k message bound ∷ before) new.lines) →
    IsTaken v (log_of_vat v row) e (steps_by v before) (step_of_receipt v (log_of_vat v row) (steps_by v before) e message) (reverse before) new.steps.items ledger →
    Comes v e row before new ledger

got_by : (k c : ℕ) (references : List ℕ) (m : RpcMessage) → GotBy (Wire false k c references m) k
got_by k c references m v message row before new ledger so_far coming lines t =
    let e : DecodedRecord = Wire false k c references m in
    let es = log_of_vat v row in
    let own = steps_by v before in
    let same : step_of v es own before e ≡ step_of_receipt v es own e message = ap (option_and_then (step_received v es own e k references)) coming in
    comes v e row before new ledger so_far
    (λ s is whose. let got = receives v k c references m message es own s (sym same ∙ is) in subst (λ s. AreLines (s ∷ before) new.lines) (sym got.1) (lines got.0))
    (subst (λ o. IsTaken v es e own o (reverse before) new.steps.items ledger) (sym same) t)

pub received_comes : (e : DecodedRecord) → is_received e ≡ true → (sent : Bool) (k c : ℕ) (references : List ℕ) (m : RpcMessage) → Wire sent k c references m ≡ e → GotBy e k
received_comes e h sent k c references m is = subst (λ e. is_received e ≡ true → GotBy e k) is (at sent) h
  where
    at : (sent : Bool) → is_received (Wire sent k c references m) ≡ true → GotBy (Wire sent k c references m) k
    at true h = absurd (let none : ⊥ = cc in none)
    at false h = got_by k c references m

abbrev NoneBy : DecodedRecord → ℕ → Type 0
NoneBy e k = (v : ℕ) (row : Row) (before : List Step) → steps_of_row row ≡ Some before → coming_next v k before ≡ None → steps_of_row ((v, e) ∷ row) ≡ None

pub nothing_taken : (e : DecodedRecord) → is_received e ≡ true → (sent : Bool) (k c : ℕ) (references : List ℕ) (m : RpcMessage) → Wire sent k c references m ≡ e → NoneBy e k
nothing_taken e h sent k c references m is = subst (λ e. is_received e ≡ true → NoneBy e k) is (at sent) h
  where
    at : (sent : Bool) → is_received (Wire sent k c references m) ≡ true → NoneBy (Wire sent k c references m) k
    at true h = absurd (let none : ⊥ = cc in none)
    at false h = λ v row before. none_comes v k c references m row before

-- what comes next is the message of this step, which stands in the trail
pub comes_at : (v k : ℕ) (before steps : List Step) (o : Option ℕ) (number : ℕ) (m : Option Message) → coming_next v k before ≡ option_and_then (message_by before) o → o ≡ Some number →
    steps ≡ reverse before → m ≡ option_and_then message_of_step (slice_get steps number) → coming_next v k before ≡ m
comes_at v k before steps o number m next some is at =
    next ∙ ap (option_and_then (message_by before)) some ∙ ap (λ xs. option_and_then message_of_step (slice_get xs number)) (sym is) ∙ sym at

-- the steps before, as they stand in the trail
pub with_steps : (v : ℕ) (es : Past) (e : DecodedRecord) (own run before : List Step) (o : Option Step) (taken_run : List Step) (ledger : VatLedger) → run ≡ reverse before →
    IsTaken v es e own o run taken_run ledger → IsTaken v es e own o (reverse before) taken_run ledger
with_steps v es e own run before o taken_run ledger same t = subst (λ r. IsTaken v es e own o r taken_run ledger) same t

pub kept_in : (v : ℕ) (row : Row) (before run : List Step) (ledger : VatLedger) → run ≡ reverse before → IsKeptAt v row before ledger → IsKept v (log_of_vat v row) (steps_by v before) run ledger
kept_in v row before run ledger same kept = subst (λ r. IsKept v (log_of_vat v row) (steps_by v before) r ledger) (sym same) kept

-- ---- the step is there

step_there : (v : ℕ) (e : DecodedRecord) (row : Row) (before : List Step) → steps_of_row row ≡ Some before → IsSome (steps_of_row ((v, e) ∷ row)) →
    IsSome (step_of v (log_of_vat v row) (steps_by v before) before e)
step_there v e row before so_far on = some_if _ (λ none. not_none _ on (row_none v e row before so_far none))

-- that of a record that isn't received
pub own_there : (e : DecodedRecord) (facts : Facts) (trail : RunBuilder) (ledger : VatLedger) → ComesNext e facts trail ledger →
    HasStep (λ v es own before. step_of v es own before e) e facts trail.steps.items ledger
own_there e facts trail ledger on = record {
  vat = on.vat;
  past = log_of_vat on.vat on.row;
  own = steps_by on.vat on.before;
  before = on.before;
  kept = kept_in on.vat on.row on.before trail.steps.items ledger on.next.trail.steps on.next.kept;
  known = on.next.known;
  there = step_there on.vat e on.row on.before on.next.so_far on.goes_on;
}

abbrev StepBy : DecodedRecord → ℕ → Type 0
StepBy e k = (v : ℕ) (message : Message) (es : Past) (own before : List Step) → coming_next v k before ≡ Some message → IsSome (step_of v es own before e) → IsSome (step_of_receipt v es own e message)

step_by_message : (e : DecodedRecord) → is_received e ≡ true → (sent : Bool) (k c : ℕ) (references : List ℕ) (m : RpcMessage) → Wire sent k c references m ≡ e → StepBy e k
step_by_message e h sent k c references m is = subst (λ e. is_received e ≡ true → StepBy e k) is (at sent) h
  where
    at : (sent : Bool) → is_received (Wire sent k c references m) ≡ true → StepBy (Wire sent k c references m) k
    at true h = absurd (let none : ⊥ = cc in none)
    at false h = λ v message es own before coming there.
        subst (λ o. IsSome o) (ap (option_and_then (step_received v es own (Wire false k c references m) k references)) coming) there

-- that of a record that is received, by the message that comes
pub received_there : (e : DecodedRecord) → is_received e ≡ true → (sent : Bool) (k c : ℕ) (references : List ℕ) (m : RpcMessage) → Wire sent k c references m ≡ e →
    (facts : Facts) (trail : RunBuilder) (ledger : VatLedger) (message : Message) (on : ComesNext e facts trail ledger) → coming_next on.vat k on.before ≡ Some message →
    HasStep (λ v es own before. step_of_receipt v es own e message) e facts trail.steps.items ledger
received_there e h sent k c references m is facts trail ledger message on coming = record {
  vat = on.vat;
  past = log_of_vat on.vat on.row;
  own = steps_by on.vat on.before;
  before = on.before;
  kept = kept_in on.vat on.row on.before trail.steps.items ledger on.next.trail.steps on.next.kept;
  known = on.next.known;
  there = step_by_message e h sent k c references m is on.vat message (log_of_vat on.vat on.row) (steps_by on.vat on.before) on.before coming (step_there on.vat e on.row on.before on.next.so_far on.goes_on);
}
