-- What a vat binds it has in the run.
use Rattle.std.proofs.Common.{◌≡◌, refl, sym, ◌∙◌, ap, subst, append_assoc, ℕ, ◌==◌, List, [], ◌∷◌, ◌++◌, Bool, true, false, ◌||◌, Option, Some, None, if◌then◌else◌, option_and_then, option_map, eqb-true, inl, inr}
use Rattle.std.specs.Prelude.{map, filter, IsSomeAnd}
use Rattle.std.specs.List.{AllByRecursion}
use Rattle.std.specs.Option.{option_or}
use Rattle.std.proofs.lemmas.Bool.{eq-eqb, cases_Bool}
use Rattle.decoded_records.specs.Past.{Past, Each}
use Rattle.decoded_records.specs.Bindings.{Refers, contains, is_bound, new_references}
use Rattle.decoded_records.specs.Views.{view_of_reference}
use Rattle.vat_view.proofs.Lasting.{view_step}
use Rattle.call_trace.specs.Types.{Bootstrap, Call, DecodedRecord, Host, Vow, Field, Make, Wire, Object, Promise, FieldOf, Name, Cap, Message, Step}
use Rattle.call_trace.specs.Naming.{Naming, naming, names_call, call_named, cap_named, message_of_step}
use Rattle.call_trace.specs.Said.{all_there, message_of_record}
use Rattle.call_trace.specs.Part.{reference_named, Says, SaysReceive, PairsOff}
use Rattle.call_trace.specs.Within.{IsWithin}
use Rattle.call_trace.proofs.Naming.{then_is, mapped_is, cap_step, is_one}
use Rattle.call_trace.proofs.Within.{StandsIn, stands_in}
use Rattle.run_model.specs.Has.{Gets, Has, IsField, call_in_message}
use Rattle.run_model.specs.Steps.{OneOf, call, vat_of}
use Rattle.run_model.specs.declared.cap.Cap.TheVariants as cap
use Rattle.run_model.specs.declared.message.Message.TheVariants as message
use Rattle.run_model.specs.declared.step.Step.TheVariants as step

-- ---- what a step gets is had

one_of : (P : Step → Type 0) (later earlier : List Step) (s : Step) → P s → OneOf P (later ++ s ∷ earlier)
one_of P [] earlier s p = inl p
one_of P (x ∷ later) earlier s p = inr (one_of P later earlier s p)

gets_has : (before : List Step) (v : ℕ) (a : Cap) (s : Step) → StandsIn before s → Gets v a s → Has before v a
gets_has before v a s at gets = subst (λ l. Has l v a) (sym at.2) (one_of (Gets v a) at.0 at.1 s gets)

all_stand : (before added steps : List Step) (p : Step → Bool) → filter p before ≡ added ++ steps → AllByRecursion (StandsIn before) steps
all_stand before added [] p h = tt
all_stand before added (s ∷ steps) p h =
    (stands_in p before added steps s h, all_stand before (added ++ s ∷ []) steps p (h ∙ sym (append_assoc added (s ∷ []) steps)))

-- ---- calls

chosen_is : {A : Type 0} (b : Bool) (o : Option A) (x : A) → (if b then o else None) ≡ Some x → (b ≡ true) × (o ≡ Some x)
chosen_is true o x h = (refl, h)
chosen_is false o x h = absurd (let no : ⊥ = cc in no)

name_same : (m n : Name) → ◌≡◌ {A = Option Name} (Some m) (Some n) → m ≡ n
name_same m n h = cc

receive_gets : (v k : ℕ) (m : Message) (bound : List Cap) (name : Name) (path : List ℕ) → call_in_message m ≡ Some name → Gets v (cap.Field name path) (step.Receive v k m bound)
receive_gets v k m bound name path is = (refl, inr (subst (λ o. IsSomeAnd o (IsField (cap.Field name path))) (sym is) (path, refl)))

received_gets : (names : Naming) (es : Past) (e : DecodedRecord) (k : ℕ) (rs : List ℕ) (s : Step) (name : Name) (path : List ℕ) → SaysReceive names es e k rs s → option_and_then call_in_message (message_of_step s) ≡ Some name →
    Gets names.vat (cap.Field name path) s
received_gets names es e k rs s name path says is =
    subst (Gets names.vat (cap.Field name path)) (sym says.step)
    (receive_gets names.vat k says.message says.bound name path (sym (ap (λ s. option_and_then call_in_message (message_of_step s)) says.step) ∙ is))

call_got : (v : ℕ) (es : Past) (steps : List Step) (e : DecodedRecord) (s : Step) (c : ℕ) (name : Name) (path : List ℕ) → Says v es steps e s → names_call v c e s ≡ Some name → Gets v (cap.Field name path) s
call_got v es steps (Make d r interface method) s c name path says h =
    let own = chosen_is (d == c) (Some (call v c)) name h in
    let is = mapped_is (λ to. step.Make v d to r interface method) _ s says in
    let same : call v d ≡ name = ap (λ n. call v n) (eqb-true d c own.0) ∙ name_same (call v c) name own.1 in
    subst (Gets v (cap.Field name path)) is.2 (refl, (path, ap (λ n. cap.Field n path) (sym same)))
call_got v es steps (Wire true k d rs (Bootstrap q)) s c name path says h =
    let e = Wire true k d rs (Bootstrap q) in
    let names = naming v (e ∷ es) (s ∷ steps) in
    let own = chosen_is (d == c) (Some (call v c)) name h in
    let sent = mapped_is (λ m. step.Send v k m) (message_of_record names es e) s says in
    let boot = mapped_is message.Boot (names.call d) sent.0 sent.1 in
    let first : call_named v (e ∷ es) (s ∷ steps) d ≡ Some (call v d) = ap (λ b. option_or (if b then Some (call v d) else None) (call_named v es steps d)) (eq-eqb d d refl) in
    let same : boot.0 ≡ name = name_same boot.0 (call v d) (sym boot.1 ∙ first) ∙ ap (λ n. call v n) (eqb-true d c own.0) ∙ name_same (call v c) name own.1 in
    subst (Gets v (cap.Field name path)) (ap (λ m. step.Send v k m) boot.2 ∙ sent.2) (refl, (path, ap (λ n. cap.Field n path) (sym same)))
call_got v es steps (Wire false k d rs (Bootstrap q)) s c name path says h =
    received_gets _ es (Wire false k d rs (Bootstrap q)) k rs s name path says (chosen_is (d == c) (option_and_then call_in_message (message_of_step s)) name h).1
call_got v es steps (Wire false k d rs (Call head target params)) s c name path says h =
    received_gets _ es (Wire false k d rs (Call head target params)) k rs s name path says (chosen_is (d == c) (option_and_then call_in_message (message_of_step s)) name h).1
call_got v es steps e s c name path says h = absurd (let no : ⊥ = cc in no)

calls_had : (before : List Step) (v : ℕ) (es : Past) (steps : List Step) → PairsOff v es steps → AllByRecursion (StandsIn before) steps → (c : ℕ) (name : Name) → call_named v es steps c ≡ Some name → (path : List ℕ) → Has before v (cap.Field name path)
calls_had before v [] steps part stand c name h path = absurd (let no : ⊥ = cc in no)
calls_had before v (e ∷ es) [] part stand c name h path = absurd part
calls_had before v (e ∷ es) (s ∷ steps) part stand c name h path = at (names_call v c e s) refl h (λ h. calls_had before v es steps part.1 stand.1 c name h path)
  where
    at : (o : Option Name) → names_call v c e s ≡ o → option_or o (call_named v es steps c) ≡ Some name → (call_named v es steps c ≡ Some name → Has before v (cap.Field name path)) → Has before v (cap.Field name path)
    at None n h rest = rest h
    at (Some x) n h rest = gets_has before v (cap.Field name path) s stand.0 (call_got v es steps e s c name path part.0 (n ∙ h))

-- ---- references

abbrev IsHad : List Step → ℕ → Option Cap → Type 0
IsHad before v o = (c : Cap) × (o ≡ Some c) × Has before v c

together_has : (f : ℕ → Option Cap) (rs : List ℕ) (caps : List Cap) (r : ℕ) → all_there (map f rs) ≡ Some caps → contains r rs ≡ true → (c : Cap) × (f r ≡ Some c) × OneOf (λ b. b ≡ c) caps
together_has f [] caps r h there = absurd (let no : ⊥ = cc in no)
together_has f (q ∷ rs) caps r h there = at (f q) refl h (together_has f rs)
  where
    at : (o : Option Cap) → f q ≡ o → all_there (o ∷ map f rs) ≡ Some caps → ((caps : List Cap) (r : ℕ) → all_there (map f rs) ≡ Some caps → contains r rs ≡ true → (c : Cap) × (f r ≡ Some c) × OneOf (λ b. b ≡ c) caps) →
        (c : Cap) × (f r ≡ Some c) × OneOf (λ b. b ≡ c) caps
    at None e h rest = absurd (let no : ⊥ = cc in no)
    at (Some x) e h rest =
        let more = mapped_is (λ ys. x ∷ ys) (all_there (map f rs)) caps h in
        subst (λ l. (c : Cap) × (f r ≡ Some c) × OneOf (λ b. b ≡ c) l) more.2 (elim (cases_Bool (q == r)) [
          | inl own ↦ (x, ap f (sym (eqb-true q r own)) ∙ e, inl refl)
          | inr other ↦ let t = rest more.0 r more.1 (sym (ap (λ b. b || contains r rs) other) ∙ there) in (t.0, t.1, inr t.2)
        ])

bound_had : (before : List Step) (v : ℕ) (es : Past) (steps : List Step) (e : DecodedRecord) (s : Step) (r : ℕ) → PairsOff v (e ∷ es) (s ∷ steps) → AllByRecursion (StandsIn before) (s ∷ steps) → contains r (new_references e) ≡ true →
    IsHad before v (reference_named (naming v (e ∷ es) (s ∷ steps)) (e ∷ es) r)
bound_had before v es steps (Host q object) s r part stand there =
    let is : step.Host v object ≡ s = let h : ◌≡◌ {A = Option Step} (Some (step.Host v object)) (Some s) = part.0 in cc in (
      cap.Object v object,
      ap (λ b. option_and_then (cap_named v (Host q object ∷ es) (s ∷ steps)) (option_or (if b then Some (Object object) else None) (view_of_reference es r))) (is_one (q == r) there),
      gets_has before v (cap.Object v object) s stand.0 (subst (Gets v (cap.Object v object)) is (refl, refl)),
    )
bound_had before v es steps (Vow q) s r part stand there =
    let is : step.Vow v q ≡ s = let h : ◌≡◌ {A = Option Step} (Some (step.Vow v q)) (Some s) = part.0 in cc in (
      cap.Promise v q,
      ap (λ b. option_and_then (cap_named v (Vow q ∷ es) (s ∷ steps)) (option_or (if b then Some (Promise q) else None) (view_of_reference es r))) (is_one (q == r) there),
      gets_has before v (cap.Promise v q) s stand.0 (subst (Gets v (cap.Promise v q)) is (refl, refl)),
    )
bound_had before v es steps (Field q c path) s r part stand there =
    let names = naming v (Field q c path ∷ es) (s ∷ steps) in
    let name = mapped_is (λ name. step.Name v (cap.Field name path)) (names.call c) s part.0 in (
      cap.Field name.0 path,
      ap (λ b. option_and_then names.cap (option_or (if b then Some (FieldOf c path) else None) (view_of_reference es r))) (is_one (q == r) there) ∙ ap (λ o. option_map (λ name. cap.Field name path) o) name.1,
      calls_had before v es steps part.1 stand.1 c name.0 name.1 path,
    )
bound_had before v es steps (Wire false k c rs m) s r part stand there =
    let e = Wire false k c rs m in
    let says = part.0 in
    let t = together_has (reference_named (naming v (e ∷ es) (s ∷ steps)) (e ∷ es)) rs says.bound r says.binds there in
    (t.0, t.1, gets_has before v t.0 s stand.0 (subst (Gets v t.0) (sym says.step) (refl, inl t.2)))
bound_had before v es steps e s r part stand there = absurd (let no : ⊥ = cc in no)

references_had : (before : List Step) (v : ℕ) (es : Past) (steps : List Step) → PairsOff v es steps → Each Refers es → AllByRecursion (StandsIn before) steps → (r : ℕ) → is_bound es r ≡ true →
    IsHad before v (reference_named (naming v es steps) es r)
references_had before v [] steps part refers stand r bound = absurd (let no : ⊥ = cc in no)
references_had before v (e ∷ es) [] part refers stand r bound = absurd part
references_had before v (e ∷ es) (s ∷ steps) part refers stand r bound = elim (cases_Bool (contains r (new_references e))) [
  | inl new ↦ bound_had before v es steps e s r part stand new
  | inr old ↦
      let t = references_had before v es steps part.1 refers.1 stand.1 r (sym (ap (λ b. b || is_bound es r) old) ∙ bound) in
      let view = then_is (cap_named v es steps) (view_of_reference es r) t.0 t.1 in
      (t.0, ap (λ o. option_and_then (cap_named v (e ∷ es) (s ∷ steps)) o) (view_step es e r view.0 refers.0 view.1) ∙ cap_step v es e steps s view.0 t.0 refers.0 view.2, t.2)
]

-- ---- together

pub reference_had : (v : ℕ) (es : Past) (steps before : List Step) → IsWithin v es steps before → (r : ℕ) → is_bound es r ≡ true → (c : Cap) × (reference_named (naming v es steps) es r ≡ Some c) × Has before v c
reference_had v es steps before w r bound = references_had before v es steps w.paired w.refers (all_stand before [] steps (λ s. vat_of s == v) w.own) r bound

pub call_had : (v : ℕ) (es : Past) (steps before : List Step) → IsWithin v es steps before → (c : ℕ) (name : Name) → call_named v es steps c ≡ Some name → (path : List ℕ) → Has before v (cap.Field name path)
call_had v es steps before w c name h path = calls_had before v es steps w.paired (all_stand before [] steps (λ s. vat_of s == v) w.own) c name h path
