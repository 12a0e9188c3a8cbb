-- Where all logs are of versions 1 and 2, each step of their run sends what is led to.
use Rattle.std.proofs.Common.{◌≡◌, ◌⊎◌, inl, inr, refl, sym, ◌∙◌, ap, subst, ℕ, List, [], ◌∷◌, reverse, true, false, ◌&&◌, Option, Some, None, if◌then◌else◌, is_some}
use Rattle.std.specs.Prelude.{IsSomeAnd}
use Rattle.std.specs.List.{list_any}
use Rattle.std.proofs.lemmas.Bool.{and_parts, eq-eqb, false≢true}
use Rattle.agree.specs.Points.{AtEach}
use Rattle.agree.specs.Rows.{Row, log_of_vat}
use Rattle.agree.proofs.Points.{at_each_before}
use Rattle.decoded_records.specs.Past.{Past, Each, id}
use Rattle.decoded_records.specs.Calls.{answered_by}
use Rattle.decoded_records.specs.Questions.{call_of}
use Rattle.vat_view.specs.Walks.{turns, next, Leads, LeadsByTurns, here, onward, turned}
use Rattle.vat_rules.specs.Audit.{Found}
use Rattle.vat_rules.specs.Judged.{IsGood, IsGoodBy}
use Rattle.vat_rules.specs.OfResults.{ReturnsField, ReturnsFields, ReturnsTaken}
use Rattle.vat_rules.specs.Types.{First}
use Rattle.vat_rules.specs.Ways.{LeadsTo, LeadsOnTo}
use Rattle.vat_rules.specs.declared.rule.Rule.TheVariants as rule
use Rattle.call_trace.specs.Findings.{AreOfFirstEdition, AreTrue, MayBeNamed}
use Rattle.call_trace.specs.Named.{IsRunOf}
use Rattle.call_trace.specs.Naming.{naming, call_named, cap_named}
use Rattle.call_trace.specs.Part.{Says}
use Rattle.call_trace.specs.Running.{steps_by, IsNamedRow, MayRun}
use Rattle.call_trace.specs.Said.{call_answered, message_of_record}
use Rattle.call_trace.specs.Taking.{row_of}
use Rattle.call_trace.specs.Tells.{Tells}
use Rattle.call_trace.specs.Types.{Results, Exception, Canceled, Elsewhere, TakeFrom, RpcMessage, Bootstrap, Call, Return, Finish, Resolve, Release, Disembargo, Abort, DecodedRecord, Host, Wire, View, Name, Cap, Message, Step}
use Rattle.call_trace.specs.Within.{IsWithin, HasNameAfter}
use Rattle.call_trace.proofs.Carrying.{named_next, passed, says_alike}
use Rattle.call_trace.proofs.Firsts.{IsFirstNext, firsts_good}
use Rattle.call_trace.proofs.Naming.{mapped_is}
use Rattle.call_trace.proofs.Next.{may_run, run_before}
use Rattle.call_trace.proofs.Placing.{call_sent_on}
use Rattle.call_trace.proofs.Resulting.{IsHandedOn, answered_on, and_then_there, each_resolved, each_returned, each_taken, promise_so, results_so}
use Rattle.call_trace.proofs.Running.{good_now, within_row}
use Rattle.call_trace.proofs.Single.{named_row}
use Rattle.call_trace.proofs.Within.{NamesFollow, StandsIn, one_so, same_cap, step_so, turned_so}
use Rattle.run_model.specs.Leads.{MakesTurn}
use Rattle.run_model.specs.Leads.{Leads as RunLeads, LeadsByTurns as RunLeadsByTurns, here as stay, turn as go}
use Rattle.run_model.specs.Led.{IsLedTo, SendsLedTo}
use Rattle.run_model.specs.Legal.{hands, is_passed_back}
use Rattle.run_model.specs.Links.{IsLinked}
use Rattle.run_model.specs.Places.{at_vat}
use Rattle.run_model.specs.Steps.{EachOf, EachStep, is_same_call}
use Rattle.run_model.proofs.Growing.{by_turns_first, leads_by_turns_grow, leads_through}
use Rattle.run_model.proofs.Led.{passed_hands, promise_led, results_led, taken_led}
use Rattle.run_model.proofs.Once.{names_same}
use Rattle.run_model.proofs.Sending.{fields_turn}
use Rattle.run_model.specs.declared.cap.Cap.TheVariants as cap
use Rattle.run_model.specs.declared.message.Message.TheVariants as message
use Rattle.run_model.specs.declared.step.Step.TheVariants as step

some_same : {A : Type 0} {x y : A} → Some x ≡ Some y → x ≡ y
some_same e = cc

-- ---- where a view leads in a log, its name leads in the run

told_led : (earlier : List Step) (x y : Cap) (s : Step) → EachStep SendsLedTo earlier → IsLinked earlier s → Tells x y s → RunLeadsByTurns earlier x y
told_led earlier x y (step.Receive v k (message.Return c results caps) bound) led linked tells = one_so (RunLeadsByTurns earlier) c x y results tells (results_led earlier led v k c results caps bound linked)
told_led earlier x y (step.Receive v k (message.Taken c by) bound) led linked tells =
    subst (λ x. RunLeadsByTurns earlier x y) (sym tells.1)
    (subst (λ y. RunLeadsByTurns earlier (cap.Field c tells.0) y) (sym tells.2) (cap.Field by tells.0, fields_turn earlier c by tells.0 (taken_led earlier led v k c by bound linked), stay))
told_led earlier x y (step.Receive v k (message.Resolve promise to) bound) led linked tells =
    subst (λ x. RunLeadsByTurns earlier x y) (sym tells.0) (subst (λ y. RunLeadsByTurns earlier promise y) (sym tells.1) (promise_led earlier led v k promise to bound linked))
told_led earlier x y s led linked tells = absurd tells

step_led : (before : List Step) (x y : Cap) (s : Step) → EachStep SendsLedTo before → EachStep IsLinked before → StandsIn before s → MakesTurn x y s ⊎ Tells x y s → RunLeadsByTurns before x y
step_led before x y s led linked at says = step_so SendsLedTo RunLeadsByTurns (λ before a b l. l) leads_by_turns_grow told_led before x y s led linked at says

module _ (v : ℕ) (es : Past) (steps before : List Step) (w : IsWithin v es steps before) (led : EachStep SendsLedTo before) where
  turned_led : (a b : View) (x : Cap) → next es a ≡ turns b → cap_named v es steps a ≡ Some x → HasNameAfter (naming v es steps) (RunLeadsByTurns before) x b
  turned_led a b x h named = turned_so v es steps before w (RunLeadsByTurns before) (λ x y s at says. step_led before x y s led w.linked at says) a b x h named

  all_led : (a b : View) (x : Cap) → Leads es a b → cap_named v es steps a ≡ Some x → HasNameAfter (naming v es steps) (RunLeads before) x b
  all_led a b x here named = (x, named, stay)
  all_led a c x (onward {b = b} h rest) named =
      let one = turned_led a b x h named in
      let more = all_led b c one.0 rest one.1 in
      (more.0, more.1, go one.2.1 (leads_through before one.2.0 one.0 more.0 one.2.2 more.2))

  by_turns_led : (a b : View) (x : Cap) → LeadsByTurns es a b → cap_named v es steps a ≡ Some x → HasNameAfter (naming v es steps) (RunLeadsByTurns before) x b
  by_turns_led a c x (turned {b = b} h rest) named =
      let one = turned_led a b x h named in
      let more = all_led b c one.0 rest one.1 in
      (more.0, more.1, by_turns_first before x one.0 more.0 one.2 more.2)

  -- the same of views that may be missing
  led_there : NamesFollow (cap_named v es steps) (LeadsTo es) (RunLeads before)
  led_there None to x y named other leads = absurd leads
  led_there (Some a) None x y named other leads = absurd leads
  led_there (Some a) (Some b) x y named other leads =
      let z = all_led a b x leads named in subst (RunLeads before x) (same_cap (cap_named v es steps b) z.0 y z.1 other) z.2

  led_on_there : NamesFollow (cap_named v es steps) (LeadsOnTo es) (RunLeadsByTurns before)
  led_on_there None to x y named other leads = absurd leads
  led_on_there (Some a) None x y named other leads = absurd leads
  led_on_there (Some a) (Some b) x y named other leads =
      let z = by_turns_led a b x leads named in subst (RunLeadsByTurns before x) (same_cap (cap_named v es steps b) z.0 y z.1 other) z.2

-- ---- what a good record of such a log sends is led to

first_of : {A : Type 0} (P Q R : A → Type 0) (o : Option A) → IsSomeAnd o (λ x. P x × Q x × R x) → IsSomeAnd o P
first_of P Q R (Some x) h = h.0
first_of P Q R None h = h

module _ (v : ℕ) (es : Past) (steps before : List Step) (w : IsWithin v es steps before) (good : Each IsGood es) (led : EachStep SendsLedTo before) (k c : ℕ) (rs : List ℕ) where
  handed_led : (es : Past) (by : ℕ) (name other : Name) → IsHandedOn before es by name other → list_any (hands name other) before ≡ true
  handed_led es by name other (inl handed) = handed
  handed_led es by name other (inr back) =
      let parts = and_parts (is_same_call name other) (is_passed_back name before) back.0 in
      subst (λ x. list_any (hands name x) before ≡ true) (names_same name other parts.0) (passed_hands before led name parts.1)

  message_led : (m : RpcMessage) (s : Step) → IsGood es (Wire true k c rs m) → IsGoodBy First es (Wire true k c rs m) → (M : Message) →
      message_of_record (naming v (Wire true k c rs m ∷ es) (s ∷ steps)) es (Wire true k c rs m) ≡ Some M → IsLedTo before v M
  message_led (Bootstrap q) s g first M said = subst (IsLedTo before v) (mapped_is message.Boot (call_named v (Wire true k c rs (Bootstrap q) ∷ es) (s ∷ steps) c) M said).2 tt
  message_led (Call head target params) s g first M said =
      let m = call_sent_on v es steps before w good (LeadsTo es) (RunLeads before) (led_there v es steps before w led) k c rs head target params s g (first rule.Goal) M said in
      subst (IsLedTo before v) m.is
      (first_of (λ asked. RunLeads before asked.goal m.to) (λ asked. head.interface ≡ asked.interface) (λ asked. head.method ≡ asked.method) (at_vat before m.call v) m.goal)
  message_led (Return head (Results payload)) s g first M said =
      let e : DecodedRecord = Wire true k c rs (Return head (Results payload)) in
      let follow = led_on_there v es steps before w led in
      each_returned v es steps before w good k c rs head payload s (IsLedTo before v) (λ name. tt) (λ late name call cs asked named all.
      let known : ReturnsFields First es e payload.fields call = subst (λ o. IsSomeAnd o (ReturnsFields First es e payload.fields)) asked (first rule.Result late).1 in
      results_so v es steps before w good (LeadsOnTo es) (RunLeadsByTurns before) follow k c rs (Return head (Results payload)) s g late call name cs named all (ReturnsField First es e call)
      (λ field went caps. went caps) payload.fields known.1) M said
  message_led (Return head Exception) s g first M said =
      subst (IsLedTo before v) (mapped_is message.Failed (call_answered (naming v (Wire true k c rs (Return head Exception) ∷ es) (s ∷ steps)) es k true head.answer) M said).2 tt
  message_led (Return head Canceled) s g first M said =
      subst (IsLedTo before v) (mapped_is message.Failed (call_answered (naming v (Wire true k c rs (Return head Canceled) ∷ es) (s ∷ steps)) es k true head.answer) M said).2 tt
  message_led (Return head Elsewhere) s g first M said =
      subst (IsLedTo before v) (mapped_is message.Elsewhere (call_answered (naming v (Wire true k c rs (Return head Elsewhere) ∷ es) (s ∷ steps)) es k true head.answer) M said).2 tt
  message_led (Return head (TakeFrom n)) s g first M said =
      each_taken v es steps before w good k c rs head n s (IsLedTo before v) (λ name. tt) (λ late name other call by asked named stands by_named.
      let known : ReturnsTaken First es (call_of (id k true n) es) call = subst (λ o. IsSomeAnd o (ReturnsTaken First es (call_of (id k true n) es))) asked (first rule.Result late) in
      let answered = and_then_there (answered_by call es) (λ d. call_of (id k true n) es ≡ Some d) known in
      let same : answered.0 ≡ by = some_same (sym answered.2 ∙ stands) in
      handed_led es by name other (answered_on v es steps before w call by name other (answered.1 ∙ ap (λ d. Some d) same) named by_named)) M said
  message_led (Resolve n resolution) s g first M said =
      let resolves = first rule.Resolve in
      each_resolved v es steps before w good k c rs n resolution s (IsLedTo before v) (λ promise. tt)
      (promise_so v es steps before w good k c rs n resolution s (LeadsOnTo es) (RunLeadsByTurns before) (led_on_there v es steps before w led) g (λ caps. resolves.1 caps)) M said
  message_led (Finish q release) s g first M said = subst (IsLedTo before v) (some_same said) tt
  message_led (Release n count) s g first M said = subst (IsLedTo before v) (some_same said) tt
  message_led (Disembargo n loopback target) s g first M said = subst (IsLedTo before v) (some_same said) tt
  message_led Abort s g first M said = subst (IsLedTo before v) (some_same said) tt

-- a step that sends no message sends nothing that isn't led to
sends_none : (before : List Step) (s : Step) → ((k : ℕ) → is_some (passed k true s) ≡ false) → SendsLedTo before s
sends_none before (step.Send v k m) none =
    let sent : is_some (passed k true (step.Send v k m)) ≡ true = ap (λ b. is_some (if b && true then Some m else None)) (eq-eqb k k refl) in absurd (false≢true (sym (none k) ∙ sent))
sends_none before (step.Receive v k m bound) none = tt
sends_none before (step.Host v object) none = tt
sends_none before s none = tt

record_led : (v : ℕ) (es : Past) (steps before : List Step) → IsWithin v es steps before → Each IsGood es → EachStep SendsLedTo before → (e : DecodedRecord) (s : Step) →
    IsGood es e → IsGoodBy First es e → Says v es steps e s → SendsLedTo before s
record_led v es steps before w good led (Wire true k c rs m) s g first says =
    let e : DecodedRecord = Wire true k c rs m in
    let sent = mapped_is (λ M. step.Send v k M) (message_of_record (naming v (e ∷ es) (s ∷ steps)) es e) s says in
    subst (SendsLedTo before) sent.2 (message_led v es steps before w good led k c rs m s g first sent.0 sent.1)
record_led v es steps before w good led (Wire false k c rs m) s g first says = subst (SendsLedTo before) (sym says.step) tt
record_led v es steps before w good led (Host r object) s g first says = sends_none before s (λ k. (says_alike v es steps (Host r object) s says).passes k true)
record_led v es steps before w good led e s g first says = sends_none before s (λ k. (says_alike v es steps e s says).passes k true)

-- ---- together

none_first : {A : Type 0} {x : A} {xs : List A} → [] ≡ (x ∷ xs) → ⊥
none_first e = cc

row_led : (row : Row) (whole : List Step) → MayRun row → AtEach IsFirstNext row → IsNamedRow row whole → EachStep SendsLedTo whole
row_led [] [] run first named = tt
row_led [] (s ∷ before) run first named = absurd (none_first (sym named.by_row))
row_led ((v, e) ∷ row) whole run first named =
    let n = named_next v e row whole named in
    let good = good_now v e row run in
    let rest = row_led row n.before (run_before ((v, e) ∷ row) row ((v, e) ∷ [], refl) run) (at_each_before IsFirstNext ((v, e) ∷ row) row ((v, e) ∷ [], refl) first) n.rest in
    let now = record_led v (log_of_vat v row) (steps_by v n.before) n.before (within_row v row n.before good.0 n.rest) good.0 rest e n.step good.1 (first row (v, e) ([], refl)) n.says in
    subst (EachStep SendsLedTo) (sym n.all) (now, rest)

pub firsts_lead : (findings : List Found) (order : List ℕ) → AreTrue findings → MayBeNamed findings order → AreOfFirstEdition findings → (run : List Step) → IsRunOf findings order run → EachOf SendsLedTo run
firsts_lead findings order true_all asked firsts run is =
    row_led (row_of findings order) (reverse run) (may_run findings order true_all asked) (firsts_good findings order true_all asked firsts) (named_row findings order true_all asked run is)
