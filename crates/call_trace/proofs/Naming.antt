-- Names: they only grow, and what is bound has one.
use Rattle.std.proofs.Common.{◌≡◌, refl, sym, ◌∙◌, ap, subst, ℕ, ◌<◌, ◌==◌, List, [], ◌∷◌, ◌++◌, length, Bool, true, false, not, ◌||◌, Option, Some, None, if◌then◌else◌, option_and_then, option_map, slice_get, arith, eqb-true, inl, inr, ◌⊎◌}
use Rattle.std.specs.Prelude.{IsSome, map}
use Rattle.std.specs.Option.{option_or}
use Rattle.std.proofs.lemmas.Bool.{cases_Bool}
use Rattle.decoded_records.specs.Past.{Past, Each}
use Rattle.decoded_records.specs.Questions.{is_late}
use Rattle.decoded_records.specs.Views.{view_of_reference, view_of_target}
use Rattle.vat_view.proofs.Lasting.{view_step}
use Rattle.decoded_records.specs.Bindings.{Refers, contains, is_bound, is_bound_call, new_calls, new_references}
use Rattle.vat_view.specs.Laws.{EachAfter}
use Rattle.vat_view.proofs.Viewed.{all_at}
use Rattle.call_trace.specs.Types.{Bootstrap, Call, DecodedRecord, Host, Vow, Field, Make, Wire, View, Object, Promise, FieldOf, Import, Name, Cap, Message, Step}
use Rattle.call_trace.specs.Naming.{Naming, naming, cap_at, names_call, call_named, cap_named, message_at, message_of_step}
use Rattle.call_trace.specs.Said.{all_there, message_of_record, say_call, caps_named}
use Rattle.call_trace.specs.Part.{reference_named, resolves_released, SaysReceive, Says, PairsOff}
use Rattle.call_trace.proofs.AsSent.{read, says_read, takes_from}
use Rattle.run_model.specs.Has.{call_in_message}
use Rattle.run_model.specs.Steps.{call}
use Rattle.run_model.specs.declared.message.Message.TheVariants as message
use Rattle.run_model.specs.declared.step.Step.TheVariants as step
use Rattle.run_model.specs.Legal.{is_present, caps_brought}
use Rattle.run_model.specs.declared.cap.Cap.TheVariants as cap

-- ---- a call that is named is bound

chosen : {A : Type 0} (b : Bool) (o : Option A) (x : A) → (if b then o else None) ≡ Some x → b ≡ true
chosen true o x h = refl
chosen false o x h = absurd (let no : ⊥ = cc in no)

one_there : (b : Bool) → b ≡ true → (b || false) ≡ true
one_there true e = refl
one_there false e = e

names_new : (v c : ℕ) (e : DecodedRecord) (s : Step) (name : Name) → names_call v c e s ≡ Some name → contains c (new_calls e) ≡ true
names_new v c (Make d r interface method) s name h = one_there (d == c) (chosen (d == c) _ name h)
names_new v c (Wire true k d references (Bootstrap q)) s name h = one_there (d == c) (chosen (d == c) _ name h)
names_new v c (Wire false k d references (Bootstrap q)) s name h = one_there (d == c) (chosen (d == c) _ name h)
names_new v c (Wire false k d references (Call head target params)) s name h = one_there (d == c) (chosen (d == c) _ name h)
names_new v c e s name h = absurd (let no : ⊥ = cc in no)

either_true : (a b : Bool) → (a ≡ true) ⊎ (b ≡ true) → (a || b) ≡ true
either_true true b h = refl
either_true false b (inl e) = absurd (let no : ⊥ = cc in no)
either_true false b (inr e) = e

call_bound : (v : ℕ) (es : Past) (steps : List Step) (c : ℕ) (name : Name) → call_named v es steps c ≡ Some name → is_bound_call es c ≡ true
call_bound v [] steps c name h = absurd (let no : ⊥ = cc in no)
call_bound v (e ∷ es) [] c name h = absurd (let no : ⊥ = cc in no)
call_bound v (e ∷ es) (s ∷ steps) c name h = at (names_call v c e s) refl h (call_bound v es steps c name)
  where
    at : (o : Option Name) → names_call v c e s ≡ o → option_or o (call_named v es steps c) ≡ Some name → (call_named v es steps c ≡ Some name → is_bound_call es c ≡ true) → is_bound_call (e ∷ es) c ≡ true
    at None n h rest = either_true (contains c (new_calls e)) (is_bound_call es c) (inr (rest h))
    at (Some x) n h rest = either_true (contains c (new_calls e)) (is_bound_call es c) (inl (names_new v c e s x n))

-- ---- names only grow

unbound : (b : Bool) → not b ≡ true → b ≡ true → ⊥
unbound true h e = let no : ⊥ = cc in no
unbound false h e = let no : ⊥ = cc in no

call_step : (v : ℕ) (es : Past) (e : DecodedRecord) (steps : List Step) (s : Step) (c : ℕ) (name : Name) → Refers es e → call_named v es steps c ≡ Some name → call_named v (e ∷ es) (s ∷ steps) c ≡ Some name
call_step v es e steps s c name refers h = at (names_call v c e s) refl
  where
    at : (o : Option Name) → names_call v c e s ≡ o → option_or o (call_named v es steps c) ≡ Some name
    at None n = h
    at (Some x) n = absurd (unbound (is_bound_call es c) (all_at (λ c. not (is_bound_call es c)) (new_calls e) c refers.unused_call (names_new v c e s x n)) (call_bound v es steps c name h))

pub message_within : (i : ℕ) (steps : List Step) (m : Message) → message_at i steps ≡ Some m → i < length steps
message_within i [] m h = absurd (let no : ⊥ = cc in no)
message_within i (s ∷ steps) m h = elim (cases_Bool (length steps == i)) [
  | inl here ↦ omega (arith, eqb-true (length steps) i here)
  | inr other ↦ omega (arith, message_within i steps m (sym (ap (λ b. if b then message_of_step s else message_at i steps) other) ∙ h))
]

pub message_step : (i : ℕ) (steps : List Step) (s : Step) (m : Message) → message_at i steps ≡ Some m → message_at i (s ∷ steps) ≡ Some m
message_step i steps s m h = elim (cases_Bool (length steps == i)) [
  | inl here ↦ absurd (let lt = message_within i steps m h in omega (arith, lt, eqb-true (length steps) i here))
  | inr other ↦ ap (λ b. if b then message_of_step s else message_at i steps) other ∙ h
]

-- the name that there is, is this
pub mapped_is : {A B : Type 0} (f : A → B) (o : Option A) (y : B) → option_map f o ≡ Some y → (x : A) × (o ≡ Some x) × (f x ≡ y)
mapped_is f (Some x) y h = (x, refl, let same : f x ≡ y = cc in same)
mapped_is f None y h = absurd (let no : ⊥ = cc in no)

pub then_is : {A B : Type 0} (f : A → Option B) (o : Option A) (y : B) → option_and_then f o ≡ Some y → (x : A) × (o ≡ Some x) × (f x ≡ Some y)
then_is f (Some x) y h = (x, refl, h)
then_is f None y h = absurd (let no : ⊥ = cc in no)

pub cap_step : (v : ℕ) (es : Past) (e : DecodedRecord) (steps : List Step) (s : Step) (view : View) (c : Cap) → Refers es e → cap_named v es steps view ≡ Some c → cap_named v (e ∷ es) (s ∷ steps) view ≡ Some c
cap_step v es e steps s (Object object) c refers h = h
cap_step v es e steps s (Promise r) c refers h = h
cap_step v es e steps s (FieldOf call path) c refers h =
    let name = mapped_is (λ name. cap.Field name path) (call_named v es steps call) c h in
    ap (λ o. option_map (λ name. cap.Field name path) o) (call_step v es e steps s call name.0 refers name.1) ∙ ap (λ x. Some x) name.2
cap_step v es e steps s (Import i place) c refers h =
    let m = then_is (λ m. cap_at place (caps_brought m)) (message_at i steps) c h in
    ap (λ o. option_and_then (λ m. cap_at place (caps_brought m)) o) (message_step i steps s m.0 m.1) ∙ m.2

pub call_keeps : (v : ℕ) (later : List DecodedRecord) (es : Past) (added steps : List Step) → length later ≡ length added → EachAfter Refers later es → (c : ℕ) (name : Name) →
    call_named v es steps c ≡ Some name → call_named v (later ++ es) (added ++ steps) c ≡ Some name
call_keeps v [] es [] steps len refers c name h = h
call_keeps v [] es (s ∷ added) steps len refers c name h = absurd (omega (arith, len))
call_keeps v (e ∷ later) es [] steps len refers c name h = absurd (omega (arith, len))
call_keeps v (e ∷ later) es (s ∷ added) steps len refers c name h =
    call_step v (later ++ es) e (added ++ steps) s c name refers.0 (call_keeps v later es added steps (omega (arith, len)) refers.1 c name h)

pub cap_keeps : (v : ℕ) (later : List DecodedRecord) (es : Past) (added steps : List Step) → length later ≡ length added → EachAfter Refers later es → (view : View) (c : Cap) →
    cap_named v es steps view ≡ Some c → cap_named v (later ++ es) (added ++ steps) view ≡ Some c
cap_keeps v [] es [] steps len refers view c h = h
cap_keeps v [] es (s ∷ added) steps len refers view c h = absurd (omega (arith, len))
cap_keeps v (e ∷ later) es [] steps len refers view c h = absurd (omega (arith, len))
cap_keeps v (e ∷ later) es (s ∷ added) steps len refers view c h =
    cap_step v (later ++ es) e (added ++ steps) s view c refers.0 (cap_keeps v later es added steps (omega (arith, len)) refers.1 view c h)

-- ---- what is bound has a name

abbrev pub Has : {A : Type 0} → Option A → Type 0
Has {A} o = (x : A) × (o ≡ Some x)

pub is_there : {A : Type 0} (o : Option A) → Has o → IsSome o
is_there o h = subst IsSome (sym h.1) refl

pub is_one : (b : Bool) → (b || false) ≡ true → b ≡ true
is_one true h = refl
is_one false h = h

first_or : {A : Type 0} (o p : Option A) → Has o → Has (option_or o p)
first_or o p h = (h.0, ap (λ o. option_or o p) h.1)

second_or : {A : Type 0} (o p : Option A) → Has p → Has (option_or o p)
second_or None p h = h
second_or (Some x) p h = (x, refl)

-- an end reads a message as a call only where it is that call
read_called : (es : Past) (e : DecodedRecord) (m : Message) (name : Name) → call_in_message (read es e m) ≡ Some name → call_in_message m ≡ Some name
read_called es e (message.Return c results caps) name h = absurd (let no : ⊥ = at (is_late es e) h in no)
  where
    at : (b : Bool) → call_in_message (if b then message.Late c else message.Return c results caps) ≡ Some name → ⊥
    at true h = cc
    at false h = cc
read_called es e (message.Resolve promise c) name h = absurd (let no : ⊥ = at (resolves_released es e) h in no)
  where
    at : (b : Bool) → call_in_message (if b then message.Resolve cap.Nothing c else message.Resolve promise c) ≡ Some name → ⊥
    at true h = cc
    at false h = cc
read_called es e (message.Broken promise) name h = absurd (let no : ⊥ = at (resolves_released es e) h in no)
  where
    at : (b : Bool) → call_in_message (if b then message.Broken cap.Nothing else message.Broken promise) ≡ Some name → ⊥
    at true h = cc
    at false h = cc
read_called es e m name h = h

say_call_is : (interface method : ℕ) (caps : Option (List Cap)) (name : Option Name) (target : Option Cap) (m : Message) → say_call interface method caps name target ≡ Some m → Has (call_in_message m)
say_call_is interface method (Some caps) (Some name) (Some target) m h = (name, let same : message.Call name target interface method caps ≡ m = cc in ap call_in_message (sym same))
say_call_is interface method None name target m h = absurd (let no : ⊥ = cc in no)
say_call_is interface method (Some caps) None target m h = absurd (let no : ⊥ = cc in no)
say_call_is interface method (Some caps) (Some name) None m h = absurd (let no : ⊥ = cc in no)

received_call : (names : Naming) (es : Past) (e : DecodedRecord) (k : ℕ) (references : List ℕ) (s : Step) → SaysReceive names es e k references s → takes_from e ≡ false → ((m : Message) → message_of_record names es e ≡ Some m → Has (call_in_message m)) →
    Has (option_and_then call_in_message (message_of_step s))
received_call names es e k references s says none says_call =
    let name = says_call (read es e says.message) (says_read says none) in
    (name.0, ap (λ s. option_and_then call_in_message (message_of_step s)) says.step ∙ read_called es e says.message name.0 name.1)

if_own : {A : Type 0} (b : Bool) (o : Option A) → b ≡ true → Has o → Has (if b then o else None)
if_own b o own h = (h.0, ap (λ b. if b then o else None) own ∙ h.1)

names_some : (v : ℕ) (es : Past) (steps : List Step) (e : DecodedRecord) (s : Step) (c : ℕ) → Says v es steps e s → contains c (new_calls e) ≡ true → Has (names_call v c e s)
names_some v es steps (Make d r interface method) s c says there = if_own (d == c) _ (is_one (d == c) there) (call v d, ap (λ n. Some (call v n)) (sym (eqb-true d c (is_one (d == c) there))))
names_some v es steps (Wire true k d references (Bootstrap q)) s c says there = if_own (d == c) _ (is_one (d == c) there) (call v c, refl)
names_some v es steps (Wire false k d references (Bootstrap q)) s c says there =
    let e = Wire false k d references (Bootstrap q) in
    let names = naming v (e ∷ es) (s ∷ steps) in
    if_own (d == c) _ (is_one (d == c) there)
    (received_call names es e k references s says refl (λ m h. let name = mapped_is message.Boot (names.call d) m h in (name.0, ap call_in_message (sym name.2))))
names_some v es steps (Wire false k d references (Call head target params)) s c says there =
    let e = Wire false k d references (Call head target params) in
    let names = naming v (e ∷ es) (s ∷ steps) in
    if_own (d == c) _ (is_one (d == c) there)
    (received_call names es e k references s says refl (λ m h. say_call_is head.interface head.method (caps_named names es e) (names.call d) (option_and_then names.cap (view_of_target es e)) m h))
names_some v es steps e s c says there = absurd (let no : ⊥ = cc in no)

pub calls_named : (v : ℕ) (es : Past) (steps : List Step) → PairsOff v es steps → (c : ℕ) → is_bound_call es c ≡ true → Has (call_named v es steps c)
calls_named v [] [] part c bound = absurd (let no : ⊥ = cc in no)
calls_named v [] (s ∷ steps) part c bound = absurd part
calls_named v (e ∷ es) [] part c bound = absurd part
calls_named v (e ∷ es) (s ∷ steps) part c bound = elim (cases_Bool (contains c (new_calls e))) [
  | inl new ↦ first_or (names_call v c e s) (call_named v es steps c) (names_some v es steps e s c part.0 new)
  | inr old ↦ second_or (names_call v c e s) (call_named v es steps c) (calls_named v es steps part.1 c (sym (ap (λ b. b || is_bound_call es c) old) ∙ bound))
]

together_each : (f : ℕ → Option Cap) (rs : List ℕ) (caps : List Cap) (r : ℕ) → all_there (map f rs) ≡ Some caps → contains r rs ≡ true → Has (f r)
together_each f [] caps r h there = absurd (let no : ⊥ = cc in no)
together_each f (q ∷ rs) caps r h there = at (f q) refl h (together_each f rs)
  where
    at : (o : Option Cap) → f q ≡ o → all_there (o ∷ map f rs) ≡ Some caps → ((caps : List Cap) (r : ℕ) → all_there (map f rs) ≡ Some caps → contains r rs ≡ true → Has (f r)) → Has (f r)
    at None e h rest = absurd (let no : ⊥ = cc in no)
    at (Some x) e h rest = elim (cases_Bool (q == r)) [
      | inl own ↦ (x, ap f (sym (eqb-true q r own)) ∙ e)
      | inr other ↦ let more = mapped_is (λ ys. x ∷ ys) (all_there (map f rs)) caps h in rest more.0 r more.1 (sym (ap (λ b. b || contains r rs) other) ∙ there)
    ]

-- the reference that a record binds has a name
bound_named : (v : ℕ) (es : Past) (steps : List Step) (e : DecodedRecord) (s : Step) (r : ℕ) → Says v es steps e s → contains r (new_references e) ≡ true → Has (reference_named (naming v (e ∷ es) (s ∷ steps)) (e ∷ es) r)
bound_named v es steps (Host q object) s r says there =
    (cap.Object v object, ap (λ b. option_and_then (cap_named v (Host q object ∷ es) (s ∷ steps)) (option_or (if b then Some (Object object) else None) (view_of_reference es r))) (is_one (q == r) there))
bound_named v es steps (Vow q) s r says there =
    (cap.Promise v q, ap (λ b. option_and_then (cap_named v (Vow q ∷ es) (s ∷ steps)) (option_or (if b then Some (Promise q) else None) (view_of_reference es r))) (is_one (q == r) there))
bound_named v es steps (Field q c path) s r says there =
    let names = naming v (Field q c path ∷ es) (s ∷ steps) in
    let name = mapped_is (λ name. step.Name v (cap.Field name path)) (names.call c) s says in
    (cap.Field name.0 path, ap (λ b. option_and_then names.cap (option_or (if b then Some (FieldOf c path) else None) (view_of_reference es r))) (is_one (q == r) there) ∙ ap (λ o. option_map (λ name. cap.Field name path) o) name.1)
bound_named v es steps (Wire false k c references m) s r says there =
    let e = Wire false k c references m in
    together_each (reference_named (naming v (e ∷ es) (s ∷ steps)) (e ∷ es)) references says.bound r says.binds there
bound_named v es steps e s r says there = absurd (let no : ⊥ = cc in no)

pub references_named : (v : ℕ) (es : Past) (steps : List Step) → PairsOff v es steps → Each Refers es → (r : ℕ) → is_bound es r ≡ true → Has (reference_named (naming v es steps) es r)
references_named v [] [] part refers r bound = absurd (let no : ⊥ = cc in no)
references_named v [] (s ∷ steps) part refers r bound = absurd part
references_named v (e ∷ es) [] part refers r bound = absurd part
references_named v (e ∷ es) (s ∷ steps) part refers r bound = elim (cases_Bool (contains r (new_references e))) [
  | inl new ↦ bound_named v es steps e s r part.0 new
  | inr old ↦
      let earlier = references_named v es steps part.1 refers.1 r (sym (ap (λ b. b || is_bound es r) old) ∙ bound) in
      let view = then_is (cap_named v es steps) (view_of_reference es r) earlier.0 earlier.1 in
      (earlier.0, ap (λ o. option_and_then (cap_named v (e ∷ es) (s ∷ steps)) o) (view_step es e r view.0 refers.0 view.1) ∙ cap_step v es e steps s view.0 earlier.0 refers.0 view.2)
]

-- no name is Nothing
pub names_are_caps : (v : ℕ) (es : Past) (steps : List Step) (view : View) (c : Cap) → cap_named v es steps view ≡ Some c → is_present c ≡ true
names_are_caps v es steps (Object object) c h = let same : cap.Object v object ≡ c = cc in ap is_present (sym same)
names_are_caps v es steps (Promise r) c h = let same : cap.Promise v r ≡ c = cc in ap is_present (sym same)
names_are_caps v es steps (FieldOf call path) c h = let name = mapped_is (λ name. cap.Field name path) (call_named v es steps call) c h in ap is_present (sym name.2)
names_are_caps v es steps (Import i place) c h =
    let m = then_is (λ m. cap_at place (caps_brought m)) (message_at i steps) c h in
    let x = then_is (λ c. if is_present c then Some c else None) (slice_get (caps_brought m.0) place) c m.2 in
    at x.0 (is_present x.0) refl x.2
  where
    at : (x : Cap) (b : Bool) → is_present x ≡ b → (if b then Some x else None) ≡ Some c → is_present c ≡ true
    at x true e h = let same : x ≡ c = cc in ap is_present (sym same) ∙ e
    at x false e h = absurd (let no : ⊥ = cc in no)

pub calls_have_names : (v : ℕ) (es : Past) (steps : List Step) → PairsOff v es steps → (c : ℕ) → is_bound_call es c ≡ true → IsSome (call_named v es steps c)
calls_have_names v es steps part c bound = is_there (call_named v es steps c) (calls_named v es steps part c bound)

pub references_have_names : (v : ℕ) (es : Past) (steps : List Step) → PairsOff v es steps → Each Refers es → (r : ℕ) → is_bound es r ≡ true → IsSome (reference_named (naming v es steps) es r)
references_have_names v es steps part refers r bound = is_there (reference_named (naming v es steps) es r) (references_named v es steps part refers r bound)
