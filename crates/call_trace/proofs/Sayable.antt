-- A good record that isn't received says a step: all that it names has a name, whatever step stands beside it, and each cap
-- that the step uses is had.
use Rattle.std.proofs.Common.{◌≡◌, ◌⊎◌, inl, inr, refl, sym, ◌∙◌, ap, subst, ℕ, zero, suc, List, [], ◌∷◌, ◌++◌, Bool, true, false, not, Option, Some, None, if◌then◌else◌, option_and_then, option_map, slice_get}
use Rattle.std.specs.Prelude.{map, unwrap_or}
use Rattle.std.specs.List.{AllByRecursion, cons_option, list_all}
use Rattle.std.specs.Option.{option_or}
use Rattle.std.proofs.lemmas.Bool.{and_parts, false≢true, eq-eqb}
use Rattle.agree.proofs.Good.{all_sound}
use Rattle.decoded_records.specs.Past.{Past, Each, id, last_answer}
use Rattle.decoded_records.specs.Questions.{is_late, call_of}
use Rattle.decoded_records.specs.Lives.{birth, begins, began_promised, descriptors, is_in_life, is_resolved}
use Rattle.decoded_records.specs.Views.{view_of_reference, view_of_number, view_of_target, descriptor_view}
use Rattle.decoded_records.specs.Bindings.{Refers, is_bound, is_bound_call}
use Rattle.vat_view.specs.Sound.{IsSound}
use Rattle.vat_rules.specs.Judged.{IsGood}
use Rattle.vat_rules.specs.OfCaps.{is_received}
use Rattle.vat_rules.specs.OfPromises.{IsUnkept, is_unresolved}
use Rattle.vat_rules.specs.declared.rule.Rule.TheVariants as rule
use Rattle.decoded_records.specs.declared.table_key.TableKey.{TableKey}
use Rattle.rpc_view.specs.declared.message.Payload.{Payload}
use Rattle.call_trace.specs.Types.{Descriptor, NoCap, Target, Outcome, Results, Exception, Canceled, Elsewhere, TakeFrom, Resolution, RpcMessage, Bootstrap, Call, CallHead, Return, ReturnHead, Finish, Resolve, Release, Disembargo, Abort, DecodedRecord, Host, Vow, Fulfil, Break, Make, Field, Deliver, Answer, AnswerBy, Fault, Wire, View, Promise, Name, Cap, Message, Step}
use Rattle.call_trace.specs.Naming.{naming, cap_at, call_named, cap_named}
use Rattle.call_trace.specs.Said.{all_there, say_call, say_return, say_taken, say_resolve, descriptor_named, caps_named, call_answered, caps_at_paths, message_of_record}
use Rattle.call_trace.specs.Part.{reference_named, promise_in, result_named, step_said, Says}
use Rattle.call_trace.specs.Running.{step_of}
use Rattle.call_trace.specs.Within.{IsWithin}
use Rattle.call_trace.proofs.Naming.{then_is, call_keeps, cap_step, calls_named}
use Rattle.call_trace.proofs.Having.{call_had}
use Rattle.call_trace.proofs.Using.{StandsKnown, unfinished_bound, unreturned_bound, taken_unfinished, reference_known, number_known, descriptor_known, target_known, known_had}
use Rattle.run_model.specs.Has.{Has}
use Rattle.run_model.specs.Legal.{is_present, present, caps_of, HasUsed}
use Rattle.run_model.specs.Steps.{call}
use Rattle.run_model.specs.declared.cap.Cap.TheVariants as cap
use Rattle.run_model.specs.declared.message.Message.TheVariants as message
use Rattle.run_model.specs.declared.plain.Plain.TheVariants as plain
use Rattle.run_model.specs.declared.step.Step.TheVariants as step

some_same : {A : Type 0} {x y : A} → Some x ≡ Some y → x ≡ y
some_same e = cc

none_some : {A : Type 0} {x : A} → None ≡ Some x → ⊥
none_some e = cc

-- ---- lists

-- what each element gives, whatever step stands beside the record, they give together
all_together : {A B : Type 0} (f : Step → A → Option B) (P : B → Type 0) (xs : List A) →
    ((j : ℕ) (x : A) → slice_get xs j ≡ Some x → (y : B) × ((s : Step) → f s x ≡ Some y) × P y) → (ys : List B) × ((s : Step) → all_there (map (f s) xs) ≡ Some ys) × AllByRecursion P ys
all_together f P [] each = ([], λ s. refl, tt)
all_together f P (x ∷ xs) each =
    let y = each 0 x refl in
    let ys = all_together f P xs (λ j x at. each (suc j) x at) in
    (y.0 ∷ ys.0, λ s. ap (λ o. all_there (o ∷ map (f s) xs)) (y.1 s) ∙ ap (λ o. option_map (λ ys. y.0 ∷ ys) o) (ys.1 s), (y.2, ys.2))

-- a cap other than Nothing is had
abbrev IsHadCap : List Step → ℕ → Cap → Type 0
IsHadCap before v c = is_present c ≡ true → Has before v c

present_had : (before : List Step) (v : ℕ) (cs : List Cap) → AllByRecursion (IsHadCap before v) cs → AllByRecursion (Has before v) (present cs)
present_had before v [] all = tt
present_had before v (c ∷ cs) all = at (is_present c) refl (present_had before v cs all.1)
  where
    at : (b : Bool) → is_present c ≡ b → AllByRecursion (Has before v) (present cs) → AllByRecursion (Has before v) (if b then c ∷ present cs else present cs)
    at true is rest = (all.0 is, rest)
    at false is rest = rest

both_had : (before : List Step) (v : ℕ) (cs ds : List Cap) → AllByRecursion (IsHadCap before v) cs → AllByRecursion (IsHadCap before v) ds → AllByRecursion (IsHadCap before v) (cs ++ ds)
both_had before v [] ds all more = more
both_had before v (c ∷ cs) ds all more = (all.0, both_had before v cs ds all.1 more)

-- the cap at a place is the one that stands there, and it is there
pub cap_at_is : (place : ℕ) (cs : List Cap) (c : Cap) → cap_at place cs ≡ Some c → (slice_get cs place ≡ Some c) × (is_present c ≡ true)
cap_at_is place cs c h =
    let x = then_is (λ c. if is_present c then Some c else None) (slice_get cs place) c h in at x.0 x.1 (is_present x.0) refl x.2
  where
    at : (x : Cap) → slice_get cs place ≡ Some x → (b : Bool) → is_present x ≡ b → (if b then Some x else None) ≡ Some c → (slice_get cs place ≡ Some c) × (is_present c ≡ true)
    at x there true is h = let same : x ≡ c = some_same h in (there ∙ ap (λ x. Some x) same, ap is_present (sym same) ∙ is)
    at x there false is h = absurd (none_some h)

had_at : (before : List Step) (v place : ℕ) (cs : List Cap) (c : Cap) → AllByRecursion (IsHadCap before v) cs → slice_get cs place ≡ Some c → IsHadCap before v c
had_at before v place [] c all at is = absurd (none_some at)
had_at before v zero (x ∷ cs) c all at is = let same : x ≡ c = some_same at in subst (Has before v) same (all.0 (ap is_present same ∙ is))
had_at before v (suc place) (x ∷ cs) c all at is = had_at before v place cs c all.1 at is

given_had : (before : List Step) (v : ℕ) (cs : List Cap) (fields : List (List ℕ × ℕ)) → AllByRecursion (IsHadCap before v) cs → AllByRecursion (IsHadCap before v) (map (λ result. result.1) (caps_at_paths cs fields))
given_had before v cs [] all = tt
given_had before v cs (field ∷ fields) all = at (cap_at field.1 cs) refl (given_had before v cs fields all)
  where
    at : (o : Option Cap) → cap_at field.1 cs ≡ o → AllByRecursion (IsHadCap before v) (map (λ result. result.1) (caps_at_paths cs fields)) →
        AllByRecursion (IsHadCap before v) (map (λ (result : List ℕ × Cap). result.1) (cons_option (option_map (λ c. (field.0, c)) o) (caps_at_paths cs fields)))
    at None h rest = rest
    at (Some c) h rest = (had_at before v field.1 cs c all (cap_at_is field.1 cs c h).0, rest)

resolve_had : (before : List Step) (v : ℕ) (promise : Cap) (cs : List Cap) → IsHadCap before v promise → AllByRecursion (IsHadCap before v) cs → AllByRecursion (IsHadCap before v) (caps_of (say_resolve promise cs))
resolve_had before v promise [] had all = (had, tt)
resolve_had before v promise (cap.Nothing ∷ cs) had all = (had, tt)
resolve_had before v promise (c ∷ cs) had all = (had, (all.0, tt))

-- ---- what a record names, whatever step stands beside it

-- a step that a record says, whatever step stands beside it, uses what is had
pub record SaysHad (v : ℕ) (es : Past) (steps before : List Step) (e : DecodedRecord) : Type 0 where
  pub step : Step
  pub said : (s : Step) → step_said (naming v (e ∷ es) (s ∷ steps)) es e ≡ Some step
  pub used : HasUsed before step

module _ (v : ℕ) (es : Past) (steps before : List Step) (w : IsWithin v es steps before) (good : Each IsGood es) (e : DecodedRecord) (refers : Refers es e) where
  -- this cap is there, and had
  abbrev IsUsable : (Step → Option Cap) → Type 0
  IsUsable o = (c : Cap) × ((s : Step) → o s ≡ Some c) × Has before v c

  view_usable : (o : Option View) → StandsKnown es o → IsUsable (λ s. option_and_then (cap_named v (e ∷ es) (s ∷ steps)) o)
  view_usable o known =
      let t = known_had v es steps before w known.0 known.2 in
      (t.0, λ s. ap (λ o. option_and_then (cap_named v (e ∷ es) (s ∷ steps)) o) known.1 ∙ cap_step v es e steps s known.0 t.0 refers t.1, t.2)

  reference_usable : (r : ℕ) → is_bound es r ≡ true → IsUsable (λ s. reference_named (naming v (e ∷ es) (s ∷ steps)) es r)
  reference_usable r bound = view_usable (view_of_reference es r) (reference_known es (all_sound es good) r bound)

  -- this call has a name, and its fields are had
  abbrev IsCallable : ℕ → Type 0
  IsCallable c = (name : Name) × ((s : Step) → call_named v (e ∷ es) (s ∷ steps) c ≡ Some name) × ((path : List ℕ) → Has before v (cap.Field name path))

  call_usable : (c : ℕ) → is_bound_call es c ≡ true → IsCallable c
  call_usable c bound =
      let name = calls_named v es steps w.paired c bound in
      (name.0, λ s. call_keeps v (e ∷ []) es (s ∷ []) steps refl (refers, tt) c name.0 name.1, call_had v es steps before w c name.0 name.1)

  one_used : (c : Cap) → Has before v c → AllByRecursion (Has before v) (present (c ∷ []))
  one_used c had = present_had before v (c ∷ []) ((λ is. had), tt)

-- ---- own records

first_bound : (f : ℕ → Bool) (c : ℕ) (rest : List ℕ) → list_all f (c ∷ rest) ≡ true → f c ≡ true
first_bound f c rest h = (and_parts (f c) (list_all f rest) h).0

unkept_promise : (es : Past) (o : Option View) → IsUnkept es o → (p : ℕ) × (promise_in o ≡ Some p)
unkept_promise es (Some (Promise p)) h = (p, refl)
unkept_promise es o h = absurd h

bound_result : (f : ℕ → Bool) (results : List (ℕ × List ℕ)) (j : ℕ) (x : ℕ × List ℕ) → list_all f (map (λ answer. answer.0) results) ≡ true → slice_get results j ≡ Some x → f x.0 ≡ true
bound_result f [] j x h at = absurd (none_some at)
bound_result f (y ∷ results) zero x h at =
    let same : y ≡ x = some_same at in subst (λ (x : ℕ × List ℕ). f x.0 ≡ true) same (and_parts (f y.0) (list_all f (map (λ (answer : ℕ × List ℕ). answer.0) results)) h).0
bound_result f (y ∷ results) (suc j) x h at = bound_result f results j x (and_parts (f y.0) (list_all f (map (λ (answer : ℕ × List ℕ). answer.0) results)) h).1 at

answers_had : (before : List Step) (v : ℕ) (results : List (List ℕ × Cap)) → AllByRecursion (λ result. Has before v result.1) results → AllByRecursion (IsHadCap before v) (map (λ result. result.1) results)
answers_had before v [] all = tt
answers_had before v (result ∷ results) all = ((λ is. all.0), answers_had before v results all.1)

module _ (v : ℕ) (es : Past) (steps before : List Step) (w : IsWithin v es steps before) (good : Each IsGood es) where
  fulfil_says : (r to : ℕ) → IsGood es (Fulfil r to) → SaysHad v es steps before (Fulfil r to)
  fulfil_says r to g =
      let e = Fulfil r to in
      let refers = g rule.Ref in
      let p = unkept_promise es (view_of_reference es r) (g rule.Vow) in
      let c = reference_usable v es steps before w good e refers to (first_bound (is_bound es) to [] (and_parts (is_bound es r) (list_all (is_bound es) (to ∷ [])) refers.bound).1) in
      record {
        step = step.Fulfil v p.0 c.0;
        said = λ s.
            ap (λ o. option_and_then (λ p. option_map (λ c. step.Fulfil v p c) (reference_named (naming v (e ∷ es) (s ∷ steps)) es to)) o) p.1
            ∙ ap (λ o. option_map (λ c. step.Fulfil v p.0 c) o) (c.1 s);
        used = one_used v es steps before w good e refers c.0 c.2;
      }

  make_says : (c r interface method : ℕ) → IsGood es (Make c r interface method) → SaysHad v es steps before (Make c r interface method)
  make_says c r interface method g =
      let e = Make c r interface method in
      let refers = g rule.Ref in
      let to = reference_usable v es steps before w good e refers r (first_bound (is_bound es) r [] refers.bound) in
      record {
        step = step.Make v c to.0 r interface method;
        said = λ s. ap (λ o. option_map (λ to. step.Make v c to r interface method) o) (to.1 s);
        used = one_used v es steps before w good e refers to.0 to.2;
      }

  field_says : (r c : ℕ) (path : List ℕ) → IsGood es (Field r c path) → SaysHad v es steps before (Field r c path)
  field_says r c path g =
      let e = Field r c path in
      let refers = g rule.Ref in
      let name = call_usable v es steps before w good e refers c (first_bound (is_bound_call es) c [] refers.bound_call) in
      record {
        step = step.Name v (cap.Field name.0 path);
        said = λ s. ap (λ o. option_map (λ name. step.Name v (cap.Field name path)) o) (name.1 s);
        used = one_used v es steps before w good e refers (cap.Field name.0 path) (name.2 path);
      }

  answer_says : (c : ℕ) (results : List (ℕ × List ℕ)) → IsGood es (Answer c results) → SaysHad v es steps before (Answer c results)
  answer_says c results g =
      let e = Answer c results in
      let refers = g rule.Ref in
      let name = call_usable v es steps before w good e refers c (first_bound (is_bound_call es) c [] refers.bound_call) in
      let caps = all_together (λ s result. result_named (naming v (e ∷ es) (s ∷ steps)) es result) (λ result. Has before v result.1) results (λ j x at.
      let t = reference_usable v es steps before w good e refers x.0 (bound_result (is_bound es) results j x refers.bound at) in
      ((x.1, t.0), λ s. ap (λ o. option_map (λ c. (x.1, c)) o) (t.1 s), t.2)) in
      record {
        step = step.Answer v name.0 caps.0;
        said = λ s.
            ap (λ o. option_and_then (λ name. option_map (λ caps. step.Answer v name caps) (all_there (map (result_named (naming v (e ∷ es) (s ∷ steps)) es) results))) o) (name.1 s)
            ∙ ap (λ o. option_map (λ caps. step.Answer v name.0 caps) o) (caps.1 s);
        used = present_had before v (map (λ result. result.1) caps.0) (answers_had before v caps.0 caps.2);
      }

  answer_by_says : (c by : ℕ) → IsGood es (AnswerBy c by) → SaysHad v es steps before (AnswerBy c by)
  answer_by_says c by g =
      let e = AnswerBy c by in
      let refers = g rule.Ref in
      let name = call_usable v es steps before w good e refers c (first_bound (is_bound_call es) c (by ∷ []) refers.bound_call) in
      let other = call_usable v es steps before w good e refers by (first_bound (is_bound_call es) by [] (and_parts (is_bound_call es c) (list_all (is_bound_call es) (by ∷ [])) refers.bound_call).1) in
      record {
        step = step.AnswerBy v name.0 other.0;
        said = λ s.
            ap (λ o. option_and_then (λ name. option_map (λ other. step.AnswerBy v name other) (call_named v (e ∷ es) (s ∷ steps) by)) o) (name.1 s)
            ∙ ap (λ o. option_map (λ other. step.AnswerBy v name.0 other) o) (other.1 s);
        used = tt;
      }

  deliver_says : (c object : ℕ) → IsGood es (Deliver c object) → SaysHad v es steps before (Deliver c object)
  deliver_says c object g =
      let refers = g rule.Ref in
      let name = call_usable v es steps before w good (Deliver c object) refers c (first_bound (is_bound_call es) c [] refers.bound_call) in
      record { step = step.Deliver v name.0 object; said = λ s. ap (λ o. option_map (λ name. step.Deliver v name object) o) (name.1 s); used = tt }

  fault_says : (c : ℕ) → IsGood es (Fault c) → SaysHad v es steps before (Fault c)
  fault_says c g =
      let refers = g rule.Ref in
      let name = call_usable v es steps before w good (Fault c) refers c (first_bound (is_bound_call es) c [] refers.bound_call) in
      record { step = step.Fault v name.0; said = λ s. ap (λ o. option_map (λ name. step.Fault v name) o) (name.1 s); used = tt }

  break_says : (r : ℕ) → IsGood es (Break r) → SaysHad v es steps before (Break r)
  break_says r g =
      let p = unkept_promise es (view_of_reference es r) (g rule.Vow) in record { step = step.Break v p.0; said = λ s. ap (λ o. option_map (λ p. step.Break v p) o) p.1; used = tt }

-- ---- messages that are sent

-- a message that a record says, whatever step stands beside it, has caps that are had
record SaysMessage (v : ℕ) (es : Past) (steps before : List Step) (e : DecodedRecord) : Type 0 where
  pub sent : Message
  pub says : (s : Step) → message_of_record (naming v (e ∷ es) (s ∷ steps)) es e ≡ Some sent
  pub used : AllByRecursion (IsHadCap before v) (caps_of sent)

-- a promise without a Resolve is in life
pub unresolved_lives : (i : TableKey) (past : Past) → is_unresolved i past ≡ true → is_in_life i past ≡ true
unresolved_lives i past h = at (is_in_life i past) (and_parts (unwrap_or (option_map began_promised (birth i past)) false) (not (is_resolved i past)) h).0
  where
    at : (b : Bool) → unwrap_or (option_map began_promised (if b then last_answer (begins i) past else None)) false ≡ true → b ≡ true
    at true h = refl
    at false h = h

module _ (v : ℕ) (es : Past) (steps before : List Step) (w : IsWithin v es steps before) (good : Each IsGood es) (k c : ℕ) (rs : List ℕ) where
  module _ (m : RpcMessage) (g : IsGood es (Wire true k c rs m)) where
    sound_all : Each IsSound (Wire true k c rs m ∷ es)
    sound_all = all_sound (Wire true k c rs m ∷ es) (g, good)

    -- a descriptor's cap is there, and had
    abbrev IsNamed : Descriptor → Type 0
    IsNamed d = (x : Cap) × ((s : Step) → descriptor_named (naming v (Wire true k c rs m ∷ es) (s ∷ steps)) es (Wire true k c rs m) d ≡ Some x) × IsHadCap before v x

    descriptor_usable : (d : Descriptor) → (d ≡ NoCap) ⊎ StandsKnown es (descriptor_view (view_of_reference es) es (Wire true k c rs m) d) → IsNamed d
    descriptor_usable d (inl none) = subst IsNamed (sym none) (cap.Nothing, λ s. refl, λ is. absurd (false≢true is))
    descriptor_usable NoCap (inr known) = (cap.Nothing, λ s. refl, λ is. absurd (false≢true is))
    descriptor_usable d (inr known) =
        let e = Wire true k c rs m in
        let t = view_usable v es steps before w good e (g rule.Ref) (descriptor_view (view_of_reference es) es e d) known in
        (t.0, t.1, λ is. t.2)

    -- the caps of a message that isn't a late Return
    caps_usable : is_late es (Wire true k c rs m) ≡ false →
        (caps : List Cap) × ((s : Step) → caps_named (naming v (Wire true k c rs m ∷ es) (s ∷ steps)) es (Wire true k c rs m) ≡ Some caps) × AllByRecursion (IsHadCap before v) caps
    caps_usable late =
        let e = Wire true k c rs m in
        all_together (λ s d. descriptor_named (naming v (e ∷ es) (s ∷ steps)) es e d) (IsHadCap before v) (descriptors e)
        (λ j d at. descriptor_usable d (descriptor_known es k c rs m sound_all late j d at))

  boot_says : (q : ℕ) → SaysMessage v es steps before (Wire true k c rs (Bootstrap q))
  boot_says q = record {
    sent = message.Boot (call v c);
    says = λ s. ap (λ b. option_map message.Boot (option_or (if b then Some (call v c) else None) (call_named v es steps c))) (eq-eqb c c refl);
    used = tt;
  }

  call_says : (head : CallHead) (target : Target) (params : Payload) → IsGood es (Wire true k c rs (Call head target params)) →
      SaysMessage v es steps before (Wire true k c rs (Call head target params))
  call_says head target params g =
      let m = Call head target params in
      let e = Wire true k c rs m in
      let refers = g rule.Ref in
      let caps = caps_usable m g refl in
      let name = call_usable v es steps before w good e refers c (first_bound (is_bound_call es) c [] refers.bound_call) in
      let to = view_usable v es steps before w good e refers (view_of_target es e) (target_known es k c rs head target params (sound_all m g)) in
      record {
        sent = message.Call name.0 to.0 head.interface head.method caps.0;
        says = λ s.
            let names = naming v (e ∷ es) (s ∷ steps) in
            ap (λ o. say_call head.interface head.method o (names.call c) (option_and_then names.cap (view_of_target es e))) (caps.1 s)
            ∙ ap (λ o. say_call head.interface head.method (Some caps.0) o (option_and_then names.cap (view_of_target es e))) (name.1 s)
            ∙ ap (λ o. say_call head.interface head.method (Some caps.0) (Some name.0) o) (to.1 s);
        used = ((λ is. to.2), caps.2);
      }

  -- the call that a Return answers
  answered_named : (head : ReturnHead) (outcome : Outcome) → IsGood es (Wire true k c rs (Return head outcome)) →
      (name : Name) × ((s : Step) → call_answered (naming v (Wire true k c rs (Return head outcome) ∷ es) (s ∷ steps)) es k true head.answer ≡ Some name)
  answered_named head outcome g =
      let e = Wire true k c rs (Return head outcome) in
      let uses = g rule.QUse in
      let asked = unreturned_bound es w.refers (id k false head.answer) uses.returned_once in
      let name = call_usable v es steps before w good e (g rule.Ref) asked.0 asked.2 in
      (name.0, λ s. ap (λ o. option_and_then (call_named v (e ∷ es) (s ∷ steps)) o) asked.1 ∙ name.1 s)

  module _ (head : ReturnHead) (payload : Payload) (g : IsGood es (Wire true k c rs (Return head (Results payload)))) where
    abbrev giving : DecodedRecord
    giving = Wire true k c rs (Return head (Results payload))

    results_say : (late : Bool) → is_late es giving ≡ late → SaysMessage v es steps before giving
    results_say true late =
        let name = answered_named head (Results payload) g in
        record {
          sent = message.Late name.0;
          says = λ s.
              let names = naming v (giving ∷ es) (s ∷ steps) in
              ap (λ o. option_and_then (λ name. say_return (is_late es giving) payload.fields name (caps_named names es giving)) o) (name.1 s)
              ∙ ap (λ b. say_return b payload.fields name.0 (caps_named names es giving)) late;
          used = tt;
        }
    results_say false late =
        let name = answered_named head (Results payload) g in
        let caps = caps_usable (Return head (Results payload)) g late in
        record {
          sent = message.Return name.0 (caps_at_paths caps.0 payload.fields) caps.0;
          says = λ s.
              let names = naming v (giving ∷ es) (s ∷ steps) in
              ap (λ o. option_and_then (λ name. say_return (is_late es giving) payload.fields name (caps_named names es giving)) o) (name.1 s)
              ∙ ap (λ b. say_return b payload.fields name.0 (caps_named names es giving)) late
              ∙ ap (λ o. say_return false payload.fields name.0 o) (caps.1 s);
          used = both_had before v (map (λ result. result.1) (caps_at_paths caps.0 payload.fields)) caps.0 (given_had before v caps.0 payload.fields caps.2) caps.2;
        }

  module _ (head : ReturnHead) (n : ℕ) (g : IsGood es (Wire true k c rs (Return head (TakeFrom n)))) where
    abbrev taking : DecodedRecord
    taking = Wire true k c rs (Return head (TakeFrom n))

    -- the call whose results it takes, whatever step stands beside it
    abbrev from : Step → Option Name
    from s = option_and_then (call_named v (taking ∷ es) (s ∷ steps)) (call_of (id k true n) es)

    from_named : (name : Name) × ((s : Step) → from s ≡ Some name)
    from_named =
        let asked = unfinished_bound es w.refers (id k true n) (taken_unfinished es true k c rs head n (g rule.QUse)) in
        let name = call_usable v es steps before w good taking (g rule.Ref) asked.0 asked.2 in
        (name.0, λ s. ap (λ o. option_and_then (call_named v (taking ∷ es) (s ∷ steps)) o) asked.1 ∙ name.1 s)

    taken_says : (late : Bool) → is_late es taking ≡ late → SaysMessage v es steps before taking
    taken_says true late =
        let name = answered_named head (TakeFrom n) g in
        record {
          sent = message.Late name.0;
          says = λ s. ap (λ o. option_and_then (λ name. say_taken (is_late es taking) name (from s)) o) (name.1 s) ∙ ap (λ b. say_taken b name.0 (from s)) late;
          used = tt;
        }
    taken_says false late =
        let name = answered_named head (TakeFrom n) g in
        let by = from_named in
        record {
          sent = message.Taken name.0 by.0;
          says = λ s.
              ap (λ o. option_and_then (λ name. say_taken (is_late es taking) name (from s)) o) (name.1 s) ∙ ap (λ b. say_taken b name.0 (from s)) late
              ∙ ap (λ o. say_taken false name.0 o) (by.1 s);
          used = tt;
        }

  resolve_says : (n : ℕ) (resolution : Resolution) → IsGood es (Wire true k c rs (Resolve n resolution)) → SaysMessage v es steps before (Wire true k c rs (Resolve n resolution))
  resolve_says n resolution g =
      let m = Resolve n resolution in
      let e = Wire true k c rs m in
      let resolves = g rule.Resolve in
      let promise = view_usable v es steps before w good e (g rule.Ref) (view_of_number (id k true n) es) (number_known es k true n (all_sound es good) (unresolved_lives (id k true n) es resolves.0)) in
      let caps = caps_usable m g refl in
      record {
        sent = say_resolve promise.0 caps.0;
        says = λ s.
            let names = naming v (e ∷ es) (s ∷ steps) in
            ap (λ o. option_and_then (λ promise. option_map (say_resolve promise) (caps_named names es e)) o) (promise.1 s)
            ∙ ap (λ o. option_map (say_resolve promise.0) o) (caps.1 s);
        used = resolve_had before v promise.0 caps.0 (λ is. promise.2) caps.2;
      }

  message_says : (m : RpcMessage) → IsGood es (Wire true k c rs m) → SaysMessage v es steps before (Wire true k c rs m)
  message_says (Bootstrap q) g = boot_says q
  message_says (Call head target params) g = call_says head target params g
  message_says (Return head (Results payload)) g = results_say head payload g (is_late es (Wire true k c rs (Return head (Results payload)))) refl
  message_says (Return head Exception) g =
      let name = answered_named head Exception g in record { sent = message.Failed name.0; says = λ s. ap (λ o. option_map message.Failed o) (name.1 s); used = tt }
  message_says (Return head Canceled) g =
      let name = answered_named head Canceled g in record { sent = message.Failed name.0; says = λ s. ap (λ o. option_map message.Failed o) (name.1 s); used = tt }
  message_says (Return head Elsewhere) g =
      let name = answered_named head Elsewhere g in record { sent = message.Elsewhere name.0; says = λ s. ap (λ o. option_map message.Elsewhere o) (name.1 s); used = tt }
  message_says (Return head (TakeFrom n)) g = taken_says head n g (is_late es (Wire true k c rs (Return head (TakeFrom n)))) refl
  message_says (Finish q release) g = record { sent = message.Plain plain.Finish; says = λ s. refl; used = tt }
  message_says (Resolve n resolution) g = resolve_says n resolution g
  message_says (Release n count) g = record { sent = message.Plain plain.Release; says = λ s. refl; used = tt }
  message_says (Disembargo n loopback target) g = record { sent = message.Plain plain.Disembargo; says = λ s. refl; used = tt }
  message_says Abort g = record { sent = message.Plain plain.Abort; says = λ s. refl; used = tt }

  send_says : (m : RpcMessage) → IsGood es (Wire true k c rs m) → SaysHad v es steps before (Wire true k c rs m)
  send_says m g =
      let t = message_says m g in
      record {
        step = step.Send v k t.sent;
        said = λ s. ap (λ o. option_map (λ m. step.Send v k m) o) (t.says s);
        used = present_had before v (caps_of t.sent) t.used;
      }

-- ---- together

says_had : (v : ℕ) (es : Past) (steps before : List Step) → IsWithin v es steps before → Each IsGood es → (e : DecodedRecord) → IsGood es e → is_received e ≡ false → SaysHad v es steps before e
says_had v es steps before w good (Host r object) g out = record { step = step.Host v object; said = λ s. refl; used = tt }
says_had v es steps before w good (Vow r) g out = record { step = step.Vow v r; said = λ s. refl; used = tt }
says_had v es steps before w good (Fulfil r to) g out = fulfil_says v es steps before w good r to g
says_had v es steps before w good (Break r) g out = break_says v es steps before w good r g
says_had v es steps before w good (Make c r interface method) g out = make_says v es steps before w good c r interface method g
says_had v es steps before w good (Field r c path) g out = field_says v es steps before w good r c path g
says_had v es steps before w good (Deliver c object) g out = deliver_says v es steps before w good c object g
says_had v es steps before w good (Answer c results) g out = answer_says v es steps before w good c results g
says_had v es steps before w good (AnswerBy c by) g out = answer_by_says v es steps before w good c by g
says_had v es steps before w good (Fault c) g out = fault_says v es steps before w good c g
says_had v es steps before w good (Wire true k c rs m) g out = send_says v es steps before w good k c rs m g
says_had v es steps before w good (Wire false k c rs m) g out = absurd (false≢true (sym out))

stepped : (v : ℕ) (es : Past) (steps before : List Step) (e : DecodedRecord) (s : Step) → is_received e ≡ false → step_said (naming v (e ∷ es) (step.Host v 0 ∷ steps)) es e ≡ Some s → step_of v es steps before e ≡ Some s
stepped v es steps before (Wire false k c rs m) s out h = absurd (false≢true (sym out))
stepped v es steps before e s out h = h

saying : (v : ℕ) (es : Past) (steps : List Step) (e : DecodedRecord) (s : Step) → is_received e ≡ false → step_said (naming v (e ∷ es) (s ∷ steps)) es e ≡ Some s → Says v es steps e s
saying v es steps (Wire false k c rs m) s out h = absurd (false≢true (sym out))
saying v es steps e s out h = h

pub step_there : (v : ℕ) (es : Past) (steps before : List Step) (e : DecodedRecord) → IsWithin v es steps before → Each IsGood es → IsGood es e → is_received e ≡ false →
    (s : Step) × (step_of v es steps before e ≡ Some s) × Says v es steps e s
step_there v es steps before e w good g out =
    let t = says_had v es steps before w good e g out in
    (t.step, stepped v es steps before e t.step out (t.said (step.Host v 0)), saying v es steps e t.step out (t.said t.step))

-- what a record says is that step alone
said_had : (v : ℕ) (es : Past) (steps before : List Step) (e : DecodedRecord) (s : Step) → SaysHad v es steps before e → step_said (naming v (e ∷ es) (s ∷ steps)) es e ≡ Some s → HasUsed before s
said_had v es steps before e s t h = subst (HasUsed before) (some_same (sym (t.said s) ∙ h)) t.used

pub used_had : (v : ℕ) (es : Past) (steps before : List Step) (e : DecodedRecord) (s : Step) → IsWithin v es steps before → Each IsGood es → IsGood es e → Says v es steps e s → HasUsed before s
used_had v es steps before (Wire false k c rs m) s w good g says = subst (HasUsed before) (sym says.step) tt
used_had v es steps before e s w good g says = said_had v es steps before e s (says_had v es steps before w good e g refl) says

-- a record takes the step that it says
pub says_taken : (v : ℕ) (es : Past) (steps before : List Step) (e : DecodedRecord) (s : Step) → IsWithin v es steps before → Each IsGood es → IsGood es e → is_received e ≡ false → Says v es steps e s →
    step_of v es steps before e ≡ Some s
says_taken v es steps before (Wire false k c rs m) s w good g out says = absurd (false≢true (sym out))
says_taken v es steps before e s w good g out says =
    let t = says_had v es steps before w good e g out in stepped v es steps before e t.step out (t.said (step.Host v 0)) ∙ sym (t.said s) ∙ says
