-- What a record does to the tables is what its step does to the run.
use Rattle.std.proofs.Common.{◌≡◌, refl, sym, ◌∙◌, ap, ap₂, subst, ℕ, ◌==◌, List, [], ◌∷◌, Bool, true, false, not, ◌&&◌, ◌||◌, Option, Some, None, if◌then◌else◌, option_and_then, option_map}
use Rattle.std.specs.Prelude.{IsTrue, map, unwrap_or}
use Rattle.std.specs.Option.{option_or}
use Rattle.std.proofs.lemmas.Bool.{eq-eqb, eqb-true, and_parts}
use Rattle.call_trace.proofs.Naming.{mapped_is, then_is}
use Rattle.call_trace.specs.Naming.{naming, names_call, call_named, message_of_step}
use Rattle.call_trace.specs.Part.{reference_named, promise_in, result_named, Says}
use Rattle.call_trace.specs.Said.{all_there, message_of_record}
use Rattle.call_trace.specs.Types.{RpcMessage, Bootstrap, Call, Return, Finish, Resolve, Release, Disembargo, Abort, DecodedRecord, Host, Vow, Fulfil, Break, Make, Field, Deliver, Answer, AnswerBy, Fault, Wire, Name, Message, Step}
use Rattle.run_model.specs.Has.{call_in_message}
use Rattle.run_model.specs.Links.{IsLinked}
use Rattle.run_model.specs.Steps.{EachStep, call, count_steps, vat_of}
use Rattle.run_model.specs.declared.cap.Cap.TheVariants as cap
use Rattle.run_model.specs.declared.step.Step.TheVariants as step
use Rattle.undelivered.specs.OfRuns.{moments_of}
use Rattle.undelivered.specs.declared.moment.Moment.TheVariants as moment
use Rattle.vat_rules.proofs.Once.{clash}
use Rattle.vat_rules.specs.Judged.{IsGood}
use Rattle.vat_rules.specs.OfCalls.{distinct_paths}
use Rattle.vat_rules.specs.declared.rule.Rule.TheVariants as rule
use Rattle.decoded_records.specs.Bindings.{contains, new_calls}
use Rattle.decoded_records.specs.Calls.{moves, is_at_vat, is_served, is_settled}
use Rattle.decoded_records.specs.Past.{Past, Each, last_answer}
use Rattle.decoded_records.specs.Views.{view_of_reference}
use Rattle.call_order.specs.Glue.Names.{name_come, name_in, IsCome, IsLeft, AreNamed}
use Rattle.call_order.specs.Glue.UnderWay.{one_with, IsSent, AreUnderWay}
use Rattle.call_order.specs.Glue.Told.{calls_told}
use Rattle.call_order.specs.Glue.Tables.{IsComeBy, IsDone}
use Rattle.call_order.specs.declared.deeds.Deed.TheVariants as deed
use Rattle.call_order.specs.declared.names_of_calls.Names.{Names}
use Rattle.call_order.specs.declared.order_tables.OrderTables.{OrderTables}
use Rattle.call_order.proofs.Calling.{fresh, served_away, named_same, named_made, named_left, named_come}
use Rattle.call_order.proofs.Flowing.{call_with, under_way_same, under_way_sent, under_way_received, got_it}
use Rattle.call_order.proofs.Saying.{deed_in, has_no_call, said_none, said_call, heard_so}

-- a record of a vat comes, says its step, and does what it does, where the tables are those of the steps before
pub record IsTurn (v number : ℕ) (es : Past) (own before : List Step) (e : DecodedRecord) (s : Step) (old new : OrderTables) : Type 0 where
  pub good : IsGood es e
  pub past : Each IsGood es
  pub says : Says v es own e s
  pub linked : EachStep IsLinked (s ∷ before)
  pub named : AreNamed v es own old.names
  pub under_way : AreUnderWay before old.under_way
  pub told : (w : ℕ) → calls_told old.told w ≡ moments_of w before
  pub counted : number ≡ count_steps (λ t. vat_of t == v) before
  pub done : IsDone v number (deed_in e) old new

-- then they are those of its step too
pub record IsTurned (v : ℕ) (es : Past) (own before : List Step) (e : DecodedRecord) (s : Step) (old new : OrderTables) : Type 0 where
  pub named : AreNamed v (e ∷ es) (s ∷ own) new.names
  pub others : (w d : ℕ) → (v == w) ≡ false → name_come new.names w d ≡ name_come old.names w d
  pub under_way : AreUnderWay (s ∷ before) new.under_way
  pub told : (w : ℕ) → calls_told new.told w ≡ moments_of w (s ∷ before)

only : {A : Type 0} (x y : A) (o : Option A) → o ≡ Some x → o ≡ Some y → x ≡ y
only x y o h g = let same : Some x ≡ Some y = sym h ∙ g in cc

some_step : (s t : Step) → ◌≡◌ {A = Option Step} (Some s) (Some t) → s ≡ t
some_step s t h = cc

left_if : (b : Bool) (rest : Option Bool) → b ≡ true → unwrap_or (option_or (if b then Some false else None) rest) false ≡ false
left_if b rest h = ap (λ x. unwrap_or (option_or (if x then Some false else None) rest) false) h

left_beside : (v c : ℕ) (old new : Names) → IsLeft v c old new → (w d : ℕ) → (v == w) ≡ false → name_come new w d ≡ name_come old w d
left_beside v c old new left w d apart = left w d ∙ ap (λ b. if b && (c == d) then None else name_come old w d) apart

come_beside : (v c : ℕ) (name : Name) (old new : Names) → IsCome v c name old new → (w d : ℕ) → (v == w) ≡ false → name_come new w d ≡ name_come old w d
come_beside v c name old new come w d apart = come w d ∙ ap (λ b. if b && (c == d) then Some name else name_come old w d) apart

module _ (v number : ℕ) (es : Past) (own before : List Step) (old new : OrderTables) where
  abbrev Turn : DecodedRecord → Step → Type 0
  Turn e s = IsTurn v number es own before e s old new

  abbrev Turned : DecodedRecord → Step → Type 0
  Turned e s = IsTurned v es own before e s old new

  linked_at : (e : DecodedRecord) (s a : Step) → a ≡ s → Turn e s → EachStep IsLinked (a ∷ before)
  linked_at e s a is t = subst (λ s. EachStep IsLinked (s ∷ before)) (sym is) t.linked

  -- ---- a call is made

  made : (c r interface method : ℕ) (s : Step) → Turn (Make c r interface method) s → Turned (Make c r interface method) s
  made c r interface method s t =
      let e = Make c r interface method in
      let to = mapped_is (λ to. step.Make v c to r interface method) (reference_named (naming v (e ∷ es) (s ∷ own)) es r) s t.says in
      let a = step.Make v c to.0 r interface method in
      subst (Turned e) to.2 (record {
        named = named_made v es own e a old.names new.names (t.good rule.Ref) t.named c t.done.1 refl (λ d same. ap (λ b. if b then Some (call v d) else None) same);
        others = λ w d apart. ap (λ n. name_come n w d) t.done.1;
        under_way = subst (AreUnderWay (a ∷ before)) (sym t.done.2) (under_way_same before a (linked_at e s a to.2 t) old.under_way t.under_way refl);
        told = λ w. t.done.0 w ∙ ap (λ l. if v == w then moment.Made c r ∷ l else l) (t.told w);
      })

  -- ---- a call is delivered

  delivered : (c object : ℕ) (s : Step) → Turn (Deliver c object) s → Turned (Deliver c object) s
  delivered c object s t =
      let e = Deliver c object in
      let name = mapped_is (λ name. step.Deliver v name object) (call_named v (e ∷ es) (s ∷ own) c) s t.says in
      let a = step.Deliver v name.0 object in
      let same : name_in old.names v c ≡ name.0 = only (name_in old.names v c) name.0 (call_named v es own c) (t.named.here c (t.good rule.Here)) name.1 in
      subst (Turned e) name.2 (record {
        named = named_left v es own e a old.names new.names (t.good rule.Ref) t.named c t.done.1 (λ d here h. absurd (clash h (left_if (c == d) (last_answer (moves d) es) here))) (λ d apart. refl);
        others = left_beside v c old.names new.names t.done.1;
        under_way = subst (AreUnderWay (a ∷ before)) (sym t.done.2) (under_way_same before a (linked_at e s a name.2 t) old.under_way t.under_way refl);
        told = λ w.
            t.done.0 w
            ∙ ap₂ (λ (n : Name) (p : ℕ). if n.maker == w then moment.Delivered n.number (v, p) ∷ calls_told old.told w else calls_told old.told w) same t.counted
            ∙ ap (λ l. if name.0.maker == w then moment.Delivered name.0.number (v, count_steps (λ t. vat_of t == v) before) ∷ l else l) (t.told w);
      })

  -- ---- a call is sent

  send : (k c : ℕ) (e : DecodedRecord) (s : Step) (m : Message) (name : Name) → step.Send v k m ≡ s → call_in_message m ≡ Some name → name_in old.names v c ≡ name → Turn e s →
      IsSent k v (name_in old.names v c) (one_with old.under_way k v) old.under_way new.under_way → IsLeft v c old.names new.names → new.told ≡ old.told →
      AreNamed v (e ∷ es) (step.Send v k m ∷ own) new.names → Turned e s
  send k c e s m name is call same t sent left untold named =
      subst (Turned e) is (record {
        named = named;
        others = left_beside v c old.names new.names left;
        under_way = under_way_sent before v k m (name_in old.names v c) (linked_at e s (step.Send v k m) is t) (call ∙ ap (λ n. Some n) (sym same)) old.under_way new.under_way t.under_way sent;
        told = λ w. ap (λ x. calls_told x w) untold ∙ t.told w;
      })

  booted : (k c : ℕ) (rs : List ℕ) (q : ℕ) (s : Step) → Turn (Wire true k c rs (Bootstrap q)) s → Turned (Wire true k c rs (Bootstrap q)) s
  booted k c rs q s t =
      let e = Wire true k c rs (Bootstrap q) in
      let names = naming v (e ∷ es) (s ∷ own) in
      let m = mapped_is (λ m. step.Send v k m) (message_of_record names es e) s t.says in
      let said = said_call names es true k c rs (Bootstrap q) m.0 refl m.1 in
      let own_name : call_named v (e ∷ es) (s ∷ own) c ≡ Some (call v c) = ap (λ b. option_or (if b then Some (call v c) else None) (call_named v es own c)) (eq-eqb c c refl) in
      let unknown : name_come old.names v c ≡ None = t.named.unbound c (fresh c c es e (t.good rule.Ref) refl (eq-eqb c c refl)) in
      let same : name_in old.names v c ≡ said.0 = ap (λ o. unwrap_or o (call v c)) unknown ∙ only (call v c) said.0 (call_named v (e ∷ es) (s ∷ own) c) own_name said.1 in
      send k c e s m.0 said.0 m.2 said.2 same t t.done.0 t.done.1 t.done.2
      (named_left v es own e (step.Send v k m.0) old.names new.names (t.good rule.Ref) t.named c t.done.1
      (λ d here h. ap (λ b. option_or (if b then Some (call v d) else None) (call_named v es own d)) here) (λ d apart. ap (λ b. b || false) apart))

  sent_on : (k c : ℕ) (rs : List ℕ) (m : RpcMessage) (s : Step) → has_no_call m ≡ false → IsTrue (is_at_vat c es) → call_named v (Wire true k c rs m ∷ es) (s ∷ own) c ≡ call_named v es own c →
      ((d : ℕ) → (c == d) ≡ true → is_at_vat d (Wire true k c rs m ∷ es) ≡ false) → new_calls (Wire true k c rs m) ≡ [] → IsDone v number (deed.Send k c) old new →
      Turn (Wire true k c rs m) s → Turned (Wire true k c rs m) s
  sent_on k c rs m s has here old_name away binds done t =
      let e = Wire true k c rs m in
      let names = naming v (e ∷ es) (s ∷ own) in
      let message = mapped_is (λ m. step.Send v k m) (message_of_record names es e) s t.says in
      let said = said_call names es true k c rs m message.0 has message.1 in
      let same : name_in old.names v c ≡ said.0 = only (name_in old.names v c) said.0 (call_named v es own c) (t.named.here c here) (sym old_name ∙ said.1) in
      send k c e s message.0 said.0 message.2 said.2 same t done.0 done.1 done.2
      (named_left v es own e (step.Send v k message.0) old.names new.names (t.good rule.Ref) t.named c done.1 (λ d same h. absurd (clash h (away d same))) (λ d apart. ap (contains d) binds))

  -- ---- a call is received

  received : (k c : ℕ) (rs : List ℕ) (m : RpcMessage) (s : Step) → has_no_call m ≡ false →
      ((d : ℕ) (a : Step) → (c == d) ≡ true → names_call v d (Wire false k c rs m) a ≡ option_and_then call_in_message (message_of_step a)) → new_calls (Wire false k c rs m) ≡ c ∷ [] →
      IsDone v number (deed.Receive k c) old new → Turn (Wire false k c rs m) s → Turned (Wire false k c rs m) s
  received k c rs m s has names_it binds done t =
      let e = Wire false k c rs m in
      let h = heard_so v es own k c rs m s t.says in
      let said = said_call (naming v (e ∷ es) (s ∷ own)) es false k c rs m h.said has h.reads in
      let is : call_in_message h.message ≡ Some said.0 = sym h.call ∙ said.2 in
      let a = step.Receive v k h.message h.bound in
      let linked = linked_at e s a (sym h.step) t in
      let got = got_it before v k h.message h.bound said.0 linked is old.under_way new.under_way t.under_way done.0.0 done.0.1 in
      let come : IsCome v c said.0 old.names new.names = subst (λ o. IsComeBy v c o old.names new.names) got done.0.2 in
      subst (Turned e) (sym h.step) (record {
        named = named_come v es own e a old.names new.names (t.good rule.Ref) t.named c said.0 come binds (λ d here. ap (λ o. option_or o (call_named v es own d)) (names_it d a here ∙ is));
        others = come_beside v c said.0 old.names new.names come;
        under_way = under_way_received before v k h.message h.bound said.0 linked is old.under_way new.under_way t.under_way done.0.0 done.0.1;
        told = λ w. ap (λ x. calls_told x w) done.1 ∙ t.told w;
      })

  -- ---- a call ends

  ended : (c : ℕ) (e : DecodedRecord) (s a : Step) → a ≡ s → call_with a ≡ None → ((w : ℕ) → moments_of w (a ∷ before) ≡ moments_of w before) → new_calls e ≡ [] →
      ((d : ℕ) → (c == d) ≡ true → is_at_vat d (e ∷ es) ≡ true → ⊥) → IsDone v number (deed.End c) old new → Turn e s → Turned e s
  ended c e s a is none untold binds away done t =
      subst (Turned e) is (record {
        named = named_left v es own e a old.names new.names (t.good rule.Ref) t.named c done.0 (λ d here h. absurd (away d here h)) (λ d apart. ap (contains d) binds);
        others = left_beside v c old.names new.names done.0;
        under_way = subst (AreUnderWay (a ∷ before)) (sym done.1) (under_way_same before a (linked_at e s a is t) old.under_way t.under_way none);
        told = λ w. ap (λ x. calls_told x w) done.2 ∙ t.told w ∙ sym (untold w);
      })

  not_served : (c d : ℕ) → Each IsGood es → is_served c es ≡ true → (c == d) ≡ true → is_at_vat d es ≡ true → ⊥
  not_served c d past served same here = served_away d es past (subst (λ x. is_served x es ≡ true) (eqb-true c d same) served) here

  answered : (c : ℕ) (results : List (ℕ × List ℕ)) (s : Step) → Turn (Answer c results) s → Turned (Answer c results) s
  answered c results s t =
      let e = Answer c results in
      let names = naming v (e ∷ es) (s ∷ own) in
      let name = then_is (λ name. option_map (λ caps. step.Answer v name caps) (all_there (map (result_named names es) results))) (names.call c) s t.says in
      let caps = mapped_is (λ caps. step.Answer v name.0 caps) (all_there (map (result_named names es) results)) s name.2 in
      let parts = and_parts (is_served c es && not (is_settled c es)) (distinct_paths results) (t.good rule.Answer) in
      let served = (and_parts (is_served c es) (not (is_settled c es)) parts.0).0 in
      ended c e s (step.Answer v name.0 caps.0) caps.2 refl (λ w. refl) refl (λ d same here. not_served c d t.past served same here) t.done t

  answered_by : (c by : ℕ) (s : Step) → Turn (AnswerBy c by) s → Turned (AnswerBy c by) s
  answered_by c by s t =
      let e = AnswerBy c by in
      let names = naming v (e ∷ es) (s ∷ own) in
      let name = then_is (λ name. option_map (λ other. step.AnswerBy v name other) (names.call by)) (names.call c) s t.says in
      let other = mapped_is (λ other. step.AnswerBy v name.0 other) (names.call by) s name.2 in
      let served = (and_parts (is_served c es) (not (is_settled c es)) (t.good rule.Answer)).0 in
      ended c e s (step.AnswerBy v name.0 other.0) other.2 refl (λ w. refl) refl (λ d same here. not_served c d t.past served same here) t.done t

  faulted : (c : ℕ) (s : Step) → Turn (Fault c) s → Turned (Fault c) s
  faulted c s t =
      let e = Fault c in
      let names = naming v (e ∷ es) (s ∷ own) in
      let name = mapped_is (λ name. step.Fault v name) (names.call c) s t.says in
      ended c e s (step.Fault v name.0) name.2 refl (λ w. refl) refl (λ d same here. clash here (left_if (c == d) (last_answer (moves d) es) same)) t.done t

  -- ---- no call is made, passed or ended

  quiet : (e : DecodedRecord) (s a : Step) → a ≡ s → call_with a ≡ None → ((w : ℕ) → moments_of w (a ∷ before) ≡ moments_of w before) → new_calls e ≡ [] → new ≡ old → Turn e s → Turned e s
  quiet e s a is none untold binds same t =
      subst (Turned e) is (record {
        named = named_same v es own e a old.names new.names (t.good rule.Ref) t.named (ap (λ x. x.names) same) binds;
        others = λ w d apart. ap (λ x. name_come x.names w d) same;
        under_way = subst (AreUnderWay (a ∷ before)) (ap (λ x. x.under_way) (sym same)) (under_way_same before a (linked_at e s a is t) old.under_way t.under_way none);
        told = λ w. ap (λ x. calls_told x.told w) same ∙ t.told w ∙ sym (untold w);
      })

  sent_quietly : (k c : ℕ) (rs : List ℕ) (m : RpcMessage) (s : Step) → has_no_call m ≡ true → new_calls (Wire true k c rs m) ≡ [] → new ≡ old → Turn (Wire true k c rs m) s → Turned (Wire true k c rs m) s
  sent_quietly k c rs m s none binds same t =
      let e = Wire true k c rs m in
      let names = naming v (e ∷ es) (s ∷ own) in
      let message = mapped_is (λ m. step.Send v k m) (message_of_record names es e) s t.says in
      quiet e s (step.Send v k message.0) message.2 (said_none names es true k c rs m message.0 none message.1) (λ w. refl) binds same t

  received_quietly : (k c : ℕ) (rs : List ℕ) (m : RpcMessage) (s : Step) → has_no_call m ≡ true → new_calls (Wire false k c rs m) ≡ [] → new ≡ old → Turn (Wire false k c rs m) s → Turned (Wire false k c rs m) s
  received_quietly k c rs m s none binds same t =
      let e = Wire false k c rs m in
      let h = heard_so v es own k c rs m s t.says in
      quiet e s (step.Receive v k h.message h.bound) (sym h.step) (sym h.call ∙ said_none (naming v (e ∷ es) (s ∷ own)) es false k c rs m h.said none h.reads) (λ w. refl) binds same t

  kept : (r to : ℕ) (s : Step) → Turn (Fulfil r to) s → Turned (Fulfil r to) s
  kept r to s t =
      let e = Fulfil r to in
      let names = naming v (e ∷ es) (s ∷ own) in
      let p = then_is (λ p. option_map (λ c. step.Fulfil v p c) (reference_named names es to)) (promise_in (view_of_reference es r)) s t.says in
      let c = mapped_is (λ c. step.Fulfil v p.0 c) (reference_named names es to) s p.2 in
      quiet e s (step.Fulfil v p.0 c.0) c.2 refl (λ w. refl) refl t.done t

  broken : (r : ℕ) (s : Step) → Turn (Break r) s → Turned (Break r) s
  broken r s t =
      let p = mapped_is (λ p. step.Break v p) (promise_in (view_of_reference es r)) s t.says in
      quiet (Break r) s (step.Break v p.0) p.2 refl (λ w. refl) refl t.done t

  named_field : (r c : ℕ) (path : List ℕ) (s : Step) → Turn (Field r c path) s → Turned (Field r c path) s
  named_field r c path s t =
      let e = Field r c path in
      let name = mapped_is (λ name. step.Name v (cap.Field name path)) (call_named v (e ∷ es) (s ∷ own) c) s t.says in
      quiet e s (step.Name v (cap.Field name.0 path)) name.2 refl (λ w. refl) refl t.done t

  if_same : {A : Type 0} (b : Bool) (o : Option A) → b ≡ true → (if b then o else None) ≡ o
  if_same b o h = ap (λ x. if x then o else None) h

  pub turned : (e : DecodedRecord) (s : Step) → Turn e s → Turned e s
  turned (Make c r interface method) s t = made c r interface method s t
  turned (Deliver c object) s t = delivered c object s t
  turned (Answer c results) s t = answered c results s t
  turned (AnswerBy c by) s t = answered_by c by s t
  turned (Fault c) s t = faulted c s t
  turned (Host r object) s t = quiet (Host r object) s (step.Host v object) (some_step (step.Host v object) s t.says) refl (λ w. refl) refl t.done t
  turned (Vow r) s t = quiet (Vow r) s (step.Vow v r) (some_step (step.Vow v r) s t.says) refl (λ w. refl) refl t.done t
  turned (Fulfil r to) s t = kept r to s t
  turned (Break r) s t = broken r s t
  turned (Field r c path) s t = named_field r c path s t
  turned (Wire true k c rs (Bootstrap q)) s t = booted k c rs q s t
  turned (Wire true k c rs (Call head target params)) s t =
      sent_on k c rs (Call head target params) s refl (t.good rule.Here) refl (λ d same. left_if (c == d) (last_answer (moves d) es) same) refl t.done t
  turned (Wire false k c rs (Bootstrap q)) s t = received k c rs (Bootstrap q) s refl (λ d a here. if_same (c == d) (option_and_then call_in_message (message_of_step a)) here) refl t.done t
  turned (Wire false k c rs (Call head target params)) s t =
      received k c rs (Call head target params) s refl (λ d a here. if_same (c == d) (option_and_then call_in_message (message_of_step a)) here) refl t.done t
  turned (Wire true k c rs (Return head outcome)) s t = sent_quietly k c rs (Return head outcome) s refl refl t.done t
  turned (Wire true k c rs (Finish q release)) s t = sent_quietly k c rs (Finish q release) s refl refl t.done t
  turned (Wire true k c rs (Resolve n resolution)) s t = sent_quietly k c rs (Resolve n resolution) s refl refl t.done t
  turned (Wire true k c rs (Release n count)) s t = sent_quietly k c rs (Release n count) s refl refl t.done t
  turned (Wire true k c rs (Disembargo n loopback target)) s t = sent_quietly k c rs (Disembargo n loopback target) s refl refl t.done t
  turned (Wire true k c rs Abort) s t = sent_quietly k c rs Abort s refl refl t.done t
  turned (Wire false k c rs (Return head outcome)) s t = received_quietly k c rs (Return head outcome) s refl refl t.done t
  turned (Wire false k c rs (Finish q release)) s t = received_quietly k c rs (Finish q release) s refl refl t.done t
  turned (Wire false k c rs (Resolve n resolution)) s t = received_quietly k c rs (Resolve n resolution) s refl refl t.done t
  turned (Wire false k c rs (Release n count)) s t = received_quietly k c rs (Release n count) s refl refl t.done t
  turned (Wire false k c rs (Disembargo n loopback target)) s t = received_quietly k c rs (Disembargo n loopback target) s refl refl t.done t
  turned (Wire false k c rs Abort) s t = received_quietly k c rs Abort s refl refl t.done t
