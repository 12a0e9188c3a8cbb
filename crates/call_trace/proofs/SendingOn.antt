-- A call that came to a vat, and for which a question of that vat's stands, was sent on by it.
use Rattle.std.proofs.Common.{◌≡◌, ◌⊎◌, inl, inr, refl, sym, ◌∙◌, ap, ap₂, subst, ℕ, ◌==◌, List, [], ◌∷◌, ◌++◌, Bool, true, false, not, Option, Some, None, option_and_then}
use Rattle.std.specs.List.{list_any}
use Rattle.std.proofs.lemmas.Bool.{and_from, or_left, or_right, eq-eqb, false≢true}
use Rattle.agree.specs.Points.{GoesOn}
use Rattle.rpc_view.specs.declared.message.Payload.{Payload}
use Rattle.vat_rules.specs.OfCaps.{is_received}
use Rattle.decoded_records.specs.Past.{Past, Each, id}
use Rattle.decoded_records.specs.Questions.{opens, opening, noted_call, call_at, call_of}
use Rattle.decoded_records.specs.Bindings.{Refers, contains, is_bound_call, new_calls}
use Rattle.decoded_records.specs.Views.{view_of_target}
use Rattle.decoded_records.proofs.Naming.{names_is}
use Rattle.vat_view.proofs.Viewed.{all_at}
use Rattle.decoded_records.specs.declared.table_key.TableKey.{TableKey}
use Rattle.call_trace.specs.Types.{Target, Bootstrap, Call, CallHead, DecodedRecord, Wire, Name, Cap, Message, Step}
use Rattle.call_trace.specs.Naming.{naming, call_named}
use Rattle.call_trace.specs.Said.{say_call, caps_named}
use Rattle.call_trace.specs.Part.{Says, PairsOff}
use Rattle.call_trace.specs.Within.{IsWithin}
use Rattle.call_trace.proofs.Asking.{call_in_use, found_there}
use Rattle.call_trace.proofs.Carried.{paired_at, each_after}
use Rattle.call_trace.proofs.Making.{form, only}
use Rattle.call_trace.proofs.Naming.{mapped_is, call_keeps}
use Rattle.call_trace.proofs.Within.{stands_in}
use Rattle.run_model.specs.Legal.{sends_on}
use Rattle.run_model.specs.Steps.{OneOf, is_same_call, vat_of}
use Rattle.run_model.proofs.Growing.{passes_later}
use Rattle.run_model.proofs.Turning.{same_to_itself}
use Rattle.run_model.specs.declared.message.Message.TheVariants as message
use Rattle.run_model.specs.declared.step.Step.TheVariants as step

-- ---- a call is bound by one record

some_same : {A : Type 0} {x y : A} → Some x ≡ Some y → x ≡ y
some_same e = cc

unbound : (b : Bool) → not b ≡ true → b ≡ true → ⊥
unbound true h e = let no : ⊥ = cc in no
unbound false h e = let no : ⊥ = cc in no

-- a record of the log
abbrev Stands : Past → DecodedRecord → Type 0
Stands es e = OneOf (λ x. x ≡ e) es

goes_stands : (later : List DecodedRecord) (e : DecodedRecord) (before : Past) → Stands (later ++ e ∷ before) e
goes_stands [] e before = inl refl
goes_stands (x ∷ later) e before = inr (goes_stands later e before)

stands_bound : (es : Past) (c : ℕ) (e : DecodedRecord) → Stands es e → contains c (new_calls e) ≡ true → is_bound_call es c ≡ true
stands_bound [] c e there h = absurd there
stands_bound (x ∷ es) c e (inl same) h = or_left (contains c (new_calls x)) (is_bound_call es c) (ap (λ x. contains c (new_calls x)) same ∙ h)
stands_bound (x ∷ es) c e (inr there) h = or_right (contains c (new_calls x)) (is_bound_call es c) (stands_bound es c e there h)

new_unbound : (es : Past) (x : DecodedRecord) (c : ℕ) → Refers es x → contains c (new_calls x) ≡ true → is_bound_call es c ≡ true → ⊥
new_unbound es x c refers new bound = unbound (is_bound_call es c) (all_at (λ c. not (is_bound_call es c)) (new_calls x) c refers.unused_call new) bound

binds_once : (es : Past) → Each Refers es → (c : ℕ) (one other : DecodedRecord) → Stands es one → Stands es other → contains c (new_calls one) ≡ true → contains c (new_calls other) ≡ true → one ≡ other
binds_once [] refers c one other a b h g = absurd a
binds_once (x ∷ es) refers c one other (inl a) (inl b) h g = sym a ∙ b
binds_once (x ∷ es) refers c one other (inl a) (inr b) h g = absurd (new_unbound es x c refers.0 (ap (λ x. contains c (new_calls x)) a ∙ h) (stands_bound es c other b g))
binds_once (x ∷ es) refers c one other (inr a) (inl b) h g = absurd (new_unbound es x c refers.0 (ap (λ x. contains c (new_calls x)) b ∙ g) (stands_bound es c one a h))
binds_once (x ∷ es) refers c one other (inr a) (inr b) h g = binds_once es refers.1 c one other a b h g

-- ---- a record that opens a question

itself : (d : ℕ) → contains d (d ∷ []) ≡ true
itself d = or_left (d == d) false (eq-eqb d d refl)

-- a question that is asked of this vat is opened by a record that binds its call
heard_binds : (k n : ℕ) (before : Past) (e : DecodedRecord) → opens (id k false n) before e ≡ true → (contains (noted_call e) (new_calls e) ≡ true) × (is_received e ≡ true)
heard_binds k n before (Wire false j d rs (Bootstrap m)) h = (itself d, refl)
heard_binds k n before (Wire false j d rs (Call head target params)) h = (itself d, refl)
heard_binds k n before (Wire true j d rs (Bootstrap m)) h =
    let same = some_same (names_is (id k false n) (Some (id j true m)) h) in absurd (false≢true (sym (ap (λ (i : TableKey). i.ours) same)))
heard_binds k n before (Wire true j d rs (Call head target params)) h =
    let same = some_same (names_is (id k false n) (Some (id j true head.question)) h) in absurd (false≢true (sym (ap (λ (i : TableKey). i.ours) same)))
heard_binds k n before e h = absurd (false≢true h)

-- a record sends a Call of this call on
record IsSentCall (c : ℕ) (e : DecodedRecord) : Type 0 where
  pub connection : ℕ
  pub references : List ℕ
  pub head : CallHead
  pub target : Target
  pub params : Payload
  pub is : e ≡ Wire true connection c references (Call head target params)

-- a question of this vat's is opened by a Bootstrap that binds its call, or by a Call
own_opens : (k n : ℕ) (before : Past) (e : DecodedRecord) → opens (id k true n) before e ≡ true → ((contains (noted_call e) (new_calls e) ≡ true) × (is_received e ≡ false)) ⊎ IsSentCall (noted_call e) e
own_opens k n before (Wire true j d rs (Bootstrap m)) h = inl (itself d, refl)
own_opens k n before (Wire true j d rs (Call head target params)) h =
    inr (record { connection = j; references = rs; head = head; target = target; params = params; is = refl })
own_opens k n before (Wire false j d rs (Bootstrap m)) h =
    let same = some_same (names_is (id k true n) (Some (id j false m)) h) in absurd (false≢true (ap (λ (i : TableKey). i.ours) same))
own_opens k n before (Wire false j d rs (Call head target params)) h =
    let same = some_same (names_is (id k true n) (Some (id j false head.question)) h) in absurd (false≢true (ap (λ (i : TableKey). i.ours) same))
own_opens k n before e h = absurd (false≢true h)

-- the record that opened a question for this call
record IsOpenedFor (q : TableKey) (past : Past) (c : ℕ) : Type 0 where
  pub event : DecodedRecord
  pub before : Past
  pub there : GoesOn past (event ∷ before)
  pub opened : opens q before event ≡ true
  pub noted : noted_call event ≡ c

opened_for : (q : TableKey) (past : Past) (c : ℕ) → call_at (opening q past) ≡ Some c → IsOpenedFor q past c
opened_for q past c h =
    let p = mapped_is (λ p. noted_call p.event) (opening q past) c h in
    let found = found_there (opens q) past p.0 p.1 in
    record { event = p.0.event; before = p.0.before; there = found.0; opened = found.1; noted = p.2 }

-- ---- the step that sends it on

call_sent : (v k interface method : ℕ) (caps : Option (List Cap)) (name : Option Name) (target : Option Cap) (M : Message) → say_call interface method caps name target ≡ Some M →
    (n : Name) × (name ≡ Some n) × (sends_on n v (step.Send v k M) ≡ true)
call_sent v k interface method (Some caps) (Some n) (Some target) M h = (
  n,
  refl,
  subst (λ M. sends_on n v (step.Send v k M) ≡ true) (only (message.Call n target interface method caps) M h) (and_from (v == v) (is_same_call n n) (eq-eqb v v refl) (same_to_itself n)),
)
call_sent v k interface method None name target M h = absurd (let no : ⊥ = cc in no)
call_sent v k interface method (Some caps) None target M h = absurd (let no : ⊥ = cc in no)
call_sent v k interface method (Some caps) (Some n) None M h = absurd (let no : ⊥ = cc in no)

-- the step of such a record sends the call of its name on
abbrev SendsOn : ℕ → Past → List Step → ℕ → Step → Type 0
SendsOn v es steps c s = (name : Name) × (call_named v es steps c ≡ Some name) × (sends_on name v s ≡ true)

sends_so : (v : ℕ) (es : Past) (steps : List Step) (k c : ℕ) (rs : List ℕ) (head : CallHead) (target : Target) (params : Payload) (s : Step) →
    Says v es steps (Wire true k c rs (Call head target params)) s → SendsOn v (Wire true k c rs (Call head target params) ∷ es) (s ∷ steps) c s
sends_so v es steps k c rs head target params s says =
    let e = Wire true k c rs (Call head target params) in
    let names = naming v (e ∷ es) (s ∷ steps) in
    let f = form v es steps e s says in
    let name = call_sent v k head.interface head.method (caps_named names es e) (names.call c) (option_and_then names.cap (view_of_target es e)) f.0 f.1 in
    (name.0, name.1, subst (λ s. sends_on name.0 v s ≡ true) f.2 name.2)

call_sends : (v : ℕ) (es : Past) (steps : List Step) (c : ℕ) (e : DecodedRecord) (s : Step) → IsSentCall c e → Says v es steps e s → SendsOn v (e ∷ es) (s ∷ steps) c s
call_sends v es steps c e s t says =
    subst (λ e. SendsOn v (e ∷ es) (s ∷ steps) c s) (sym t.is)
    (sends_so v es steps t.connection c t.references t.head t.target t.params s (subst (λ e. Says v es steps e s) t.is says))

-- ---- together

-- a question that was asked of this vat stood for this call at a point of the log
abbrev pub IsHeard : Past → ℕ → Type 0
IsHeard es c = (k : ℕ) × (q : ℕ) × (past : Past) × GoesOn es past × (call_at (opening (id k false q) past) ≡ Some c)

module _ (v : ℕ) (es : Past) (steps before : List Step) (w : IsWithin v es steps before) (c : ℕ) where
  -- no Bootstrap of this vat's is for such a call
  not_booted : IsHeard es c → (e : DecodedRecord) → Stands es e → contains c (new_calls e) ≡ true → is_received e ≡ false → ⊥
  not_booted heard e there binds sent =
      let o = opened_for (id heard.0 false heard.1) heard.2 c heard.4 in
      let b = heard_binds heard.0 heard.1 o.before o.event o.opened in
      let stands : Stands es o.event = subst (λ l. Stands l o.event) (sym (heard.3.1 ∙ ap (λ l. heard.3.0 ++ l) o.there.1)) (goes_further heard.3.0 o.there.0 o.event o.before) in
      let same = binds_once es w.refers c o.event e stands there (subst (λ c. contains c (new_calls o.event) ≡ true) o.noted b.0) binds in
      false≢true (sym sent ∙ sym (ap is_received same) ∙ b.1)
    where
      goes_further : (later added : List DecodedRecord) (e : DecodedRecord) (before : Past) → Stands (later ++ (added ++ e ∷ before)) e
      goes_further [] added e before = goes_stands added e before
      goes_further (x ∷ later) added e before = inr (goes_further later added e before)

  pub sent_on : (k n : ℕ) → call_of (id k true n) es ≡ Some c → IsHeard es c → (name : Name) → call_named v es steps c ≡ Some name → list_any (sends_on name v) before ≡ true
  sent_on k n asked heard name named =
      let o = opened_for (id k true n) es c (call_in_use (id k true n) es c asked) in
      elim (own_opens k n o.before o.event o.opened) [
        | inl booted ↦
            let there : Stands es o.event = subst (λ l. Stands l o.event) (sym o.there.1) (goes_stands o.there.0 o.event o.before) in
            absurd (not_booted heard o.event there (subst (λ c. contains c (new_calls o.event) ≡ true) o.noted booted.0) booted.1)
        | inr called ↦
            let pair = paired_at v o.there.0 o.event o.before steps (subst (λ es. PairsOff v es steps) o.there.1 w.paired) in
            let at = stands_in (λ s. vat_of s == v) before pair.added pair.earlier pair.step (w.own ∙ pair.whole) in
            let sends = call_sends v o.before pair.earlier c o.event pair.step (subst (λ c. IsSentCall c o.event) o.noted called) pair.paired.0 in
            let refers = each_after o.there.0 (o.event ∷ o.before) (subst (Each Refers) o.there.1 w.refers) in
            let later = call_keeps v o.there.0 (o.event ∷ o.before) pair.added (pair.step ∷ pair.earlier) pair.as_long refers c sends.0 sends.1 in
            let same : sends.0 ≡ name = some_same (sym later ∙ sym (ap₂ (λ es steps. call_named v es steps c) o.there.1 pair.whole) ∙ named) in
            subst (λ name. list_any (sends_on name v) before ≡ true) same
            (subst (λ l. list_any (sends_on sends.0 v) l ≡ true) (sym at.2)
            (passes_later (sends_on sends.0 v) at.0 (pair.step ∷ at.1) (or_left (sends_on sends.0 v pair.step) (list_any (sends_on sends.0 v) at.1) sends.2)))
      ]
