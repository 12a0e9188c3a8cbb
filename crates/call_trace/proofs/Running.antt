-- The induction along a row that may run: each record takes a step that it says, that is legal and keeps to its link.
use Rattle.std.proofs.Common.{◌≡◌, refl, sym, ◌∙◌, ap, ap₂, subst, ℕ, ◌==◌, List, [], ◌∷◌, length, map, reverse, true, false, Option, Some, None, option_and_then, option_map, eqb-true, inl, inr}
use Rattle.std.specs.Option.{option_or}
use Rattle.std.proofs.lemmas.Bool.{cases_Bool}
use Rattle.agree.specs.Agreeing.{AreLinked}
use Rattle.agree.specs.Rows.{Row, log_of_vat}
use Rattle.agree.specs.Streams.{IsPassed}
use Rattle.agree.proofs.Points.{at_each_before, each_so}
use Rattle.vat_rules.specs.Audit.{Found}
use Rattle.vat_rules.specs.Judged.{IsGood}
use Rattle.vat_rules.specs.OfCaps.{is_received}
use Rattle.vat_rules.specs.declared.rule.Rule.TheVariants as rule
use Rattle.decoded_records.specs.Bindings.{Refers}
use Rattle.decoded_records.specs.Past.{Past, Each}
use Rattle.decoded_records.specs.Views.{view_of_reference}
use Rattle.call_trace.specs.Findings.{AreTrue, MayBeNamed}
use Rattle.call_trace.specs.Named.{IsRunOf}
use Rattle.call_trace.specs.Naming.{naming, names_call, call_named, cap_named, message_at}
use Rattle.call_trace.specs.Part.{reference_named, ReadsAsSent, Says, PairsOff}
use Rattle.call_trace.specs.Running.{step_received, step_of, steps_by, steps_of_row, AreMet, IsNamedRow, IsGoodNext, MayRun}
use Rattle.call_trace.specs.Said.{all_there}
use Rattle.call_trace.specs.Taking.{row_of}
use Rattle.call_trace.specs.Types.{Bootstrap, Call, RpcMessage, DecodedRecord, Host, Vow, Fulfil, Break, Make, Field, Deliver, Answer, AnswerBy, Fault, Wire, View, Object, Promise, FieldOf, Import, Cap, Message, Step}
use Rattle.call_trace.specs.Within.{IsWithin}
use Rattle.call_trace.proofs.Carrying.{says_alike, log_here, log_there, steps_here, steps_there}
use Rattle.call_trace.proofs.Next.{may_run, run_before, logs_good, is_end, keeps_link, received_here, is_coming}
use Rattle.call_trace.proofs.Whole.{is_run}
use Rattle.run_model.specs.Legal.{IsLegal, MayBind}
use Rattle.run_model.specs.Links.{IsLinked}
use Rattle.run_model.specs.Steps.{vat_of}
use Rattle.run_model.specs.declared.cap.Cap.TheVariants as cap
use Rattle.run_model.specs.declared.step.Step.TheVariants as step

-- ---- what is proved of single records

-- a record that isn't received takes a step that it says, and that is legal
abbrev pub TakesStep : Type 0
TakesStep = (v : ℕ) (es : Past) (steps before : List Step) (e : DecodedRecord) → IsWithin v es steps before → Each IsGood es → IsGood es e → is_received e ≡ false →
    (s : Step) × (step_of v es steps before e ≡ Some s) × Says v es steps e s × IsLegal before s

-- what a vat receives it reads as it was sent
abbrev pub IsRead : Type 0
IsRead = (k v w c : ℕ) (one : Past) (its_steps : List Step) (other : Past) (steps : List Step) (references : List ℕ) (m : RpcMessage) (from : Past) (sent : DecodedRecord) (message : Message) (bound : List Cap) →
    AreMet k v one its_steps w other steps → AreLinked k one (Wire false k c references m ∷ other) → IsGood other (Wire false k c references m) →
    IsPassed k m one (Wire false k c references m ∷ other) from other sent (Wire false k c references m) → message_at (length from) its_steps ≡ Some message →
    ReadsAsSent (naming w (Wire false k c references m ∷ other) (step.Receive w k message bound ∷ steps)) other (Wire false k c references m) message

-- what a vat binds when it receives a message is there, and is what the message brings
abbrev pub IsBrought : Type 0
IsBrought = (k v w c : ℕ) (one : Past) (its_steps : List Step) (other : Past) (steps : List Step) (references : List ℕ) (m : RpcMessage) (from : Past) (sent : DecodedRecord) (message : Message) →
    AreMet k v one its_steps w other steps → AreLinked k one (Wire false k c references m ∷ other) → IsGood other (Wire false k c references m) →
    IsPassed k m one (Wire false k c references m ∷ other) from other sent (Wire false k c references m) → message_at (length from) its_steps ≡ Some message →
    (bound : List Cap)
    × (all_there (map (reference_named (naming w (Wire false k c references m ∷ other) (step.Receive w k message [] ∷ steps)) (Wire false k c references m ∷ other)) references) ≡ Some bound)
    × MayBind message bound

-- ---- what a vat binds names nothing otherwise

names_alike : (v x k c : ℕ) (rs : List ℕ) (m : RpcMessage) (message : Message) (a b : List Cap) →
    names_call v x (Wire false k c rs m) (step.Receive v k message a) ≡ names_call v x (Wire false k c rs m) (step.Receive v k message b)
names_alike v x k c rs (Bootstrap q) message a b = refl
names_alike v x k c rs (Call head target params) message a b = refl
names_alike v x k c rs m message a b = refl

module _ (v k c : ℕ) (rs : List ℕ) (m : RpcMessage) (message : Message) (a b : List Cap) (es : Past) (steps : List Step) where
  caps_alike : (view : View) → cap_named v (Wire false k c rs m ∷ es) (step.Receive v k message a ∷ steps) view ≡ cap_named v (Wire false k c rs m ∷ es) (step.Receive v k message b ∷ steps) view
  caps_alike (Object object) = refl
  caps_alike (Promise r) = refl
  caps_alike (FieldOf x path) = ap (λ o. option_map (λ name. cap.Field name path) (option_or o (call_named v es steps x))) (names_alike v x k c rs m message a b)
  caps_alike (Import i place) = refl

  views_alike : (o : Option View) →
      option_and_then (cap_named v (Wire false k c rs m ∷ es) (step.Receive v k message a ∷ steps)) o ≡ option_and_then (cap_named v (Wire false k c rs m ∷ es) (step.Receive v k message b ∷ steps)) o
  views_alike None = refl
  views_alike (Some view) = caps_alike view

  pub references_alike : (past : Past) (references : List ℕ) →
      map (reference_named (naming v (Wire false k c rs m ∷ es) (step.Receive v k message a ∷ steps)) past) references
      ≡ map (reference_named (naming v (Wire false k c rs m ∷ es) (step.Receive v k message b ∷ steps)) past) references
  references_alike past [] = refl
  references_alike past (r ∷ references) = ap₂ (λ o l. o ∷ l) (views_alike (view_of_reference past r)) (references_alike past references)

-- ---- one record more

abbrev HasStep : ℕ → DecodedRecord → Row → List Step → Type 0
HasStep v e row before =
    (s : Step) × (step_of v (log_of_vat v row) (steps_by v before) before e ≡ Some s) × Says v (log_of_vat v row) (steps_by v before) e s × IsLegal before s × IsLinked before s

pub refers_all : (es : Past) → Each IsGood es → Each Refers es
refers_all es good = each_so IsGood Refers (λ b e g. g rule.Ref) es good

pub good_now : (v : ℕ) (e : DecodedRecord) (row : Row) → MayRun ((v, e) ∷ row) → Each IsGood (log_of_vat v row) × IsGood (log_of_vat v row) e
good_now v e row run = (logs_good v row (at_each_before IsGoodNext ((v, e) ∷ row) row ((v, e) ∷ [], refl) run.good), run.good row (v, e) ([], refl))

-- the log of each vat of a row is within its steps
pub within_row : (v : ℕ) (row : Row) (before : List Step) → Each IsGood (log_of_vat v row) → IsNamedRow row before → IsWithin v (log_of_vat v row) (steps_by v before) before
within_row v row before good named = record { paired = named.paired v; refers = refers_all (log_of_vat v row) good; own = refl; legal = named.legal; linked = named.linked }

own_step : TakesStep → (v : ℕ) (e : DecodedRecord) (row : Row) (before : List Step) → MayRun ((v, e) ∷ row) → IsNamedRow row before → is_received e ≡ false → HasStep v e row before
own_step takes v e row before run named own =
    let good = good_now v e row run in
    let t = takes v (log_of_vat v row) (steps_by v before) before e (within_row v row before good.0 named) good.0 good.1 own in
    (t.0, t.1, t.2, t.3, keeps_link v e row before t.0 run named own (says_alike v (log_of_vat v row) (steps_by v before) e t.0 t.2))

received_step : IsRead → IsBrought → (v k c : ℕ) (rs : List ℕ) (m : RpcMessage) (row : Row) (before : List Step) → MayRun ((v, Wire false k c rs m) ∷ row) → IsNamedRow row before →
    HasStep v (Wire false k c rs m) row before
received_step reads brings v k c rs m row before run named =
    let e : DecodedRecord = Wire false k c rs m in
    let es = log_of_vat v row in
    let steps = steps_by v before in
    let good = good_now v e row run in
    let n = is_coming k c v rs m row before run named in
    let one = log_of_vat n.other row in
    let its = steps_by n.other before in
    let got = brings k n.other v c one its es steps rs m n.from n.sent n.message n.met n.linked good.1 n.passed n.was in
    let s = step.Receive v k n.message got.0 in (
      s,
      ap (λ o. option_and_then (step_received v es steps e k rs) o) n.comes ∙ ap (λ o. option_map (λ bound. step.Receive v k n.message bound) o) got.1,
      record {
        message = n.message;
        bound = got.0;
        step = refl;
        reads = reads k n.other v c one its es steps rs m n.from n.sent n.message got.0 n.met n.linked good.1 n.passed n.was;
        binds = ap all_there (sym (references_alike v k c rs m n.message [] got.0 es steps (e ∷ es) rs)) ∙ got.1;
      },
      (tt, got.2),
      (is_end k v e row before run (false, m, received_here k c rs m) named, n.comes),
    )

next_step : TakesStep → IsRead → IsBrought → (v : ℕ) (e : DecodedRecord) (row : Row) (before : List Step) → MayRun ((v, e) ∷ row) → IsNamedRow row before → HasStep v e row before
next_step takes reads brings v (Wire false k c rs m) row before run named = received_step reads brings v k c rs m row before run named
next_step takes reads brings v (Wire true k c rs m) row before run named = own_step takes v (Wire true k c rs m) row before run named refl
next_step takes reads brings v (Host r object) row before run named = own_step takes v (Host r object) row before run named refl
next_step takes reads brings v (Vow r) row before run named = own_step takes v (Vow r) row before run named refl
next_step takes reads brings v (Fulfil r to) row before run named = own_step takes v (Fulfil r to) row before run named refl
next_step takes reads brings v (Break r) row before run named = own_step takes v (Break r) row before run named refl
next_step takes reads brings v (Make c r interface method) row before run named = own_step takes v (Make c r interface method) row before run named refl
next_step takes reads brings v (Field r c path) row before run named = own_step takes v (Field r c path) row before run named refl
next_step takes reads brings v (Deliver c object) row before run named = own_step takes v (Deliver c object) row before run named refl
next_step takes reads brings v (Answer c results) row before run named = own_step takes v (Answer c results) row before run named refl
next_step takes reads brings v (AnswerBy c by) row before run named = own_step takes v (AnswerBy c by) row before run named refl
next_step takes reads brings v (Fault c) row before run named = own_step takes v (Fault c) row before run named refl

pairs_more : (w v : ℕ) (e : DecodedRecord) (row : Row) (before : List Step) (s : Step) → vat_of s ≡ v → Says v (log_of_vat v row) (steps_by v before) e s → PairsOff w (log_of_vat w row) (steps_by w before) →
    PairsOff w (log_of_vat w ((v, e) ∷ row)) (steps_by w (s ∷ before))
pairs_more w v e row before s vat says pairs = elim (cases_Bool (v == w)) [
  | inl same ↦
      let here : v ≡ w = eqb-true v w same in
      subst (λ es. PairsOff w es (steps_by w (s ∷ before))) (sym (log_here w v e row here))
      (subst (λ steps. PairsOff w (e ∷ log_of_vat w row) steps) (sym (steps_here w s before (vat ∙ here)))
      (subst (λ u. Says u (log_of_vat u row) (steps_by u before) e s) here says, pairs))
  | inr apart ↦
      subst (λ es. PairsOff w es (steps_by w (s ∷ before))) (sym (log_there w v e row apart))
      (subst (λ steps. PairsOff w (log_of_vat w row) steps) (sym (steps_there w s before (ap (λ u. u == w) vat ∙ apart))) pairs)
]

named_more : (v : ℕ) (e : DecodedRecord) (row : Row) (before : List Step) (s : Step) → IsNamedRow row before → Says v (log_of_vat v row) (steps_by v before) e s → IsLegal before s → IsLinked before s →
    IsNamedRow ((v, e) ∷ row) (s ∷ before)
named_more v e row before s named says legal linked =
    let vat : vat_of s ≡ v = (says_alike v (log_of_vat v row) (steps_by v before) e s says).vat in
    record {
      by_row = ap₂ (λ u us. u ∷ us) vat named.by_row;
      paired = λ w. pairs_more w v e row before s vat says (named.paired w);
      legal = (legal, named.legal);
      linked = (linked, named.linked);
    }

-- ---- together

abbrev pub HasSteps : Row → Type 0
HasSteps row = (before : List Step) × (steps_of_row row ≡ Some before) × IsNamedRow row before

pub row_named : TakesStep → IsRead → IsBrought → (row : Row) → MayRun row → HasSteps row
row_named takes reads brings [] run = ([], refl, record { by_row = refl; paired = λ v. tt; legal = tt; linked = tt })
row_named takes reads brings ((v, e) ∷ row) run =
    let rest = row_named takes reads brings row (run_before ((v, e) ∷ row) row ((v, e) ∷ [], refl) run) in
    let before = rest.0 in
    let n = next_step takes reads brings v e row before run rest.2 in (
      n.0 ∷ before,
      ap (λ o. option_and_then (λ before. option_map (λ s. s ∷ before) (step_of v (log_of_vat v row) (steps_by v before) before e)) o) rest.1 ∙ ap (λ o. option_map (λ s. s ∷ before) o) n.1,
      named_more v e row before n.0 rest.2 n.2 n.3 n.4,
    )

-- where findings and an order are such as name a run, the row that the order takes names one
pub findings_run : TakesStep → IsRead → IsBrought → (findings : List Found) (order : List ℕ) → AreTrue findings → MayBeNamed findings order →
    (before : List Step) × (steps_of_row (row_of findings order) ≡ Some before) × IsRunOf findings order (reverse before)
findings_run takes reads brings findings order true_all asked =
    let r = row_named takes reads brings (row_of findings order) (may_run findings order true_all asked) in
    (r.0, r.1, is_run findings order true_all asked r.0 r.2)
