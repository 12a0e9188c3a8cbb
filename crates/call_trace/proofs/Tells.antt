-- Where a record turns a view to another, its step turns the one's name to the other's, or tells that it became that.
use Rattle.std.proofs.Common.{◌≡◌, refl, sym, ◌∙◌, ap, ap₂, subst, ℕ, ◌==◌, List, [], ◌∷◌, Bool, true, false, ◌&&◌, Option, Some, None, if◌then◌else◌, option_and_then, option_map, slice_get, eqb-true, ◌⊎◌, inl, inr}
use Rattle.std.specs.Prelude.{map, find, unwrap_or}
use Rattle.std.specs.List.{cons_option, filter_map}
use Rattle.std.specs.Str.{bytes_eq as same_path}
use Rattle.std.proofs.lemmas.Bool.{cases_Bool, false≢true}
use Rattle.std.proofs.lemmas.Slice.Eq.{bytes_eq-Decides}
use Rattle.decoded_records.specs.Past.{Past, id, is, record_index}
use Rattle.decoded_records.specs.Questions.{call_at, call_of, opening, is_late, is_over}
use Rattle.decoded_records.specs.Lives.{Birth, birth, descriptors}
use Rattle.decoded_records.specs.Views.{field_view, view_of_reference, view_of_number, view_of_descriptor, view_given, descriptor_view}
use Rattle.vat_view.specs.Walks.{Next, turns, stops, on_to, is_promise, keeps, began_at, resolves, answer_view_at, result_at, answers, turn}
use Rattle.call_trace.specs.Types.{Outcome, Results, Exception, Canceled, TakeFrom, Resolution, Capped, Unkept, Return, ReturnHead, Resolve, DecodedRecord, Fulfil, Break, Answer, AnswerBy, Fault, Wire, View, Object, Promise, FieldOf, Import, Name, Cap, Message, Step}
use Rattle.call_trace.specs.Naming.{Naming, naming, cap_at, cap_named}
use Rattle.call_trace.specs.Said.{all_there, say_return, say_resolve, descriptor_named, caps_named, promise_named, call_answered, caps_at_paths}
use Rattle.call_trace.specs.Part.{reference_named, promise_in, result_named, Says, resolves_released}
use Rattle.call_trace.specs.Tells.{Tells, TurnsNames}
use Rattle.call_trace.proofs.AsSent.{read, heard, says_read, says_heard, taken_heard, taken_parts}
use Rattle.call_trace.proofs.Naming.{then_is, mapped_is, names_are_caps}
use Rattle.call_trace.proofs.Carried.{together_at, descriptor_is, resolve_is}
use Rattle.run_model.specs.Leads.{MakesTurn}
use Rattle.run_model.specs.Legal.{is_present}
use Rattle.run_model.specs.Steps.{OneOf}
use Rattle.run_model.specs.declared.cap.Cap.TheVariants as cap
use Rattle.run_model.specs.declared.message.Message.TheVariants as message
use Rattle.run_model.specs.declared.step.Step.TheVariants as step

-- ---- lists

one_so : {A : Type 0} (P Q : A → Type 0) → ((x : A) → P x → Q x) → (xs : List A) → OneOf P xs → OneOf Q xs
one_so P Q f [] h = h
one_so P Q f (x ∷ xs) (inl h) = inl (f x h)
one_so P Q f (x ∷ xs) (inr h) = inr (one_so P Q f xs h)

found_first : {A : Type 0} (test : A → Bool) (x : A) (xs : List A) (y : A) → test x ≡ true → find test (x ∷ xs) ≡ Some y → x ≡ y
found_first test x xs y is h = let same : Some x ≡ Some y = sym (ap (λ b. if b then Some x else find test xs) is) ∙ h in cc

found_rest : {A : Type 0} (test : A → Bool) (x : A) (xs : List A) (y : A) → test x ≡ false → find test (x ∷ xs) ≡ Some y → find test xs ≡ Some y
found_rest test x xs y is h = sym (ap (λ b. if b then Some x else find test xs) is) ∙ h

found_is : {A : Type 0} (test : A → Bool) (xs : List A) (y : A) → find test xs ≡ Some y → test y ≡ true
found_is test [] y h = absurd (let no : ⊥ = cc in no)
found_is test (x ∷ xs) y h = elim (cases_Bool (test x)) [
  | inl is ↦ ap test (sym (found_first test x xs y is h)) ∙ is
  | inr other ↦ found_is test xs y (found_rest test x xs y other h)
]

-- what is found of a list is among what is made of all of it
abbrev Made : {A B : Type 0} → (A → Option B) → A → List B → Type 0
Made {A} {B} f y ys = (z : B) × (f y ≡ Some z) × OneOf (λ w. w ≡ z) ys

found_together : {A B : Type 0} (test : A → Bool) (f : A → Option B) (xs : List A) (y : A) (ys : List B) → find test xs ≡ Some y → all_there (map f xs) ≡ Some ys → Made f y ys
found_together test f [] y ys h all = absurd (let no : ⊥ = cc in no)
found_together test f (x ∷ xs) y ys h all = at (f x) refl all (found_together test f xs y)
  where
    at : (o : Option _) → f x ≡ o → all_there (o ∷ map f xs) ≡ Some ys → ((ys : List _) → find test xs ≡ Some y → all_there (map f xs) ≡ Some ys → Made f y ys) → Made f y ys
    at None e all rest = absurd (let no : ⊥ = cc in no)
    at (Some w) e all rest =
        let more = mapped_is (λ ws. w ∷ ws) (all_there (map f xs)) ys all in
        subst (Made f y) more.2 (elim (cases_Bool (test x)) [
          | inl here ↦ (w, ap f (sym (found_first test x xs y here h)) ∙ e, inl refl)
          | inr other ↦ let r = rest more.0 (found_rest test x xs y other h) more.1 in (r.0, r.1, inr r.2)
        ])

found_kept : {A B : Type 0} (test : A → Bool) (f : A → Option B) (xs : List A) (y : A) (z : B) → find test xs ≡ Some y → f y ≡ Some z → OneOf (λ w. w ≡ z) (filter_map f xs)
found_kept test f [] y z h is = absurd (let no : ⊥ = cc in no)
found_kept test f (x ∷ xs) y z h is = elim (cases_Bool (test x)) [
  | inl here ↦ subst (λ o. OneOf (λ w. w ≡ z) (cons_option o (filter_map f xs))) (sym (ap f (found_first test x xs y here h) ∙ is)) (inl refl)
  | inr other ↦ at (f x) (found_kept test f xs y z (found_rest test x xs y other h) is)
]
  where
    at : (o : Option _) → OneOf (λ w. w ≡ z) (filter_map f xs) → OneOf (λ w. w ≡ z) (cons_option o (filter_map f xs))
    at None r = r
    at (Some w) r = inr r

on_is : (o : Option View) (b : View) → on_to o ≡ turns b → o ≡ Some b
on_is (Some a) b h = let same : a ≡ b = cc in ap (λ x. Some x) same
on_is None b h = absurd (let no : ⊥ = cc in no)

turned_is : (c : Bool) (n : Next) (b : View) → (if c then Some n else None) ≡ Some (turns b) → (c ≡ true) × (n ≡ turns b)
turned_is true n b h = (refl, let same : n ≡ turns b = cc in same)
turned_is false n b h = absurd (let no : ⊥ = cc in no)

no_stop : (b : View) → stops ≡ turns b → ⊥
no_stop b h = cc

path_is : (p q : List ℕ) → same_path p q ≡ true → p ≡ q
path_is p q h = (bytes_eq-Decides p q).0 h

-- ---- own records

promise_is : (p : ℕ) (o : Option View) → is_promise p o ≡ true → promise_in o ≡ Some p
promise_is p (Some (Promise q)) h = ap (λ q. Some q) (eqb-true q p h)
promise_is p None h = absurd (let no : ⊥ = cc in no)
promise_is p (Some v) h = absurd (let no : ⊥ = cc in no)

kept_tells : (v p : ℕ) (es : Past) (steps : List Step) (r to : ℕ) (s : Step) (b : View) → Says v es steps (Fulfil r to) s → is_promise p (view_of_reference es r) ≡ true → view_of_reference es to ≡ Some b →
    TurnsNames (naming v (Fulfil r to ∷ es) (s ∷ steps)) (Promise p) b s
kept_tells v p es steps r to s b says own there =
    let names = naming v (Fulfil r to ∷ es) (s ∷ steps) in
    let known = sym (ap (λ o. option_and_then (λ p. option_map (λ c. step.Fulfil v p c) (reference_named names es to)) o) (promise_is p (view_of_reference es r) own)) ∙ says in
    let y = mapped_is (λ c. step.Fulfil v p c) (reference_named names es to) s known in
    record {
      from = cap.Promise v p;
      to = y.0;
      from_named = refl;
      to_named = sym (ap (λ o. option_and_then names.cap o) there) ∙ y.1;
      turned = inl (subst (MakesTurn (cap.Promise v p) y.0) y.2 (refl, refl));
    }

results_so : (name : Name) (p q : List ℕ) (y : Cap) (ys : List (List ℕ × Cap)) → p ≡ q → OneOf (λ w. w ≡ (p, y)) ys → OneOf (λ result. (cap.Field name q ≡ cap.Field name result.0) × (y ≡ result.1)) ys
results_so name p q y ys same h = one_so (λ w. w ≡ (p, y)) _ (λ w is. (ap (λ r. cap.Field name r) (sym same) ∙ ap (λ w. cap.Field name w.0) (sym is), ap (λ w. w.1) (sym is))) ys h

answer_made : (names : Naming) (es : Past) (path : List ℕ) (results : List (ℕ × List ℕ)) (caps : List (List ℕ × Cap)) (b : View) (name : Name) → all_there (map (result_named names es) results) ≡ Some caps → answer_view_at path es results ≡ Some b →
    (y : Cap) × (names.cap b ≡ Some y) × OneOf (λ result. (cap.Field name path ≡ cap.Field name result.0) × (y ≡ result.1)) caps
answer_made names es path results caps b name all there =
    let test : ℕ × List ℕ → Bool = λ answer. same_path answer.1 path in
    let answer = then_is (λ answer. view_of_reference es answer.0) (find test results) b there in
    let at = path_is answer.0.1 path (found_is test results answer.0 answer.1) in
    let z = found_together test (result_named names es) results answer.0 caps answer.1 all in
    let y = mapped_is (λ c. (answer.0.1, c)) (reference_named names es answer.0.0) z.0 z.1 in
    (y.0, sym (ap (λ o. option_and_then names.cap o) answer.2) ∙ y.1, results_so name answer.0.1 path y.0 caps at (subst (λ z. OneOf (λ w. w ≡ z) caps) (sym y.2) z.2))

answer_tells : (v call : ℕ) (path : List ℕ) (es : Past) (steps : List Step) (c : ℕ) (results : List (ℕ × List ℕ)) (s : Step) (b : View) → Says v es steps (Answer c results) s → c ≡ call →
    answer_view_at path es results ≡ Some b → TurnsNames (naming v (Answer c results ∷ es) (s ∷ steps)) (FieldOf call path) b s
answer_tells v call path es steps c results s b says same there =
    let names = naming v (Answer c results ∷ es) (s ∷ steps) in
    let name = then_is (λ name. option_map (λ caps. step.Answer v name caps) (all_there (map (result_named names es) results))) (names.call c) s says in
    let caps = mapped_is (λ caps. step.Answer v name.0 caps) (all_there (map (result_named names es) results)) s name.2 in
    let y = answer_made names es path results caps.0 b name.0 caps.1 there in
    record {
      from = cap.Field name.0 path;
      to = y.0;
      from_named = ap (λ o. option_map (λ n. cap.Field n path) o) (ap names.call (sym same) ∙ name.1);
      to_named = y.1;
      turned = inl (subst (MakesTurn (cap.Field name.0 path) y.0) caps.2 y.2);
    }

-- a call that is answered by another leads to it, at each path
by_tells : (v call : ℕ) (path : List ℕ) (es : Past) (steps : List Step) (c by : ℕ) (s : Step) → Says v es steps (AnswerBy c by) s → c ≡ call →
    TurnsNames (naming v (AnswerBy c by ∷ es) (s ∷ steps)) (FieldOf call path) (FieldOf by path) s
by_tells v call path es steps c by s says same =
    let names = naming v (AnswerBy c by ∷ es) (s ∷ steps) in
    let name = then_is (λ name. option_map (λ other. step.AnswerBy v name other) (names.call by)) (names.call c) s says in
    let other = mapped_is (λ other. step.AnswerBy v name.0 other) (names.call by) s name.2 in
    record {
      from = cap.Field name.0 path;
      to = cap.Field other.0 path;
      from_named = ap (λ o. option_map (λ n. cap.Field n path) o) (ap names.call (sym same) ∙ name.1);
      to_named = ap (λ o. option_map (λ n. cap.Field n path) o) other.1;
      turned = inl (subst (MakesTurn (cap.Field name.0 path) (cap.Field other.0 path)) other.2 (path, refl, refl));
    }

-- ---- received messages

-- what is read as such a Return or Resolve is one
pub read_return : (es : Past) (e : DecodedRecord) (m : Message) (name : Name) (results : List (List ℕ × Cap)) (caps : List Cap) → read es e m ≡ message.Return name results caps → m ≡ message.Return name results caps
read_return es e (message.Return c r cs) name results caps h = at (is_late es e) h
  where
    at : (b : Bool) → (if b then message.Late c else message.Return c r cs) ≡ message.Return name results caps → message.Return c r cs ≡ message.Return name results caps
    at true h = absurd (let no : ⊥ = cc in no)
    at false h = h
read_return es e (message.Resolve promise c) name results caps h = absurd (at (resolves_released es e) h)
  where
    at : (b : Bool) → (if b then message.Resolve cap.Nothing c else message.Resolve promise c) ≡ message.Return name results caps → ⊥
    at true h = cc
    at false h = cc
read_return es e (message.Broken promise) name results caps h = absurd (at (resolves_released es e) h)
  where
    at : (b : Bool) → (if b then message.Broken cap.Nothing else message.Broken promise) ≡ message.Return name results caps → ⊥
    at true h = cc
    at false h = cc
read_return es e m name results caps h = h

read_resolve : (es : Past) (e : DecodedRecord) (m : Message) (x y : Cap) → is_present x ≡ true → read es e m ≡ message.Resolve x y → m ≡ message.Resolve x y
read_resolve es e (message.Return c r cs) x y is h = absurd (at (is_late es e) h)
  where
    at : (b : Bool) → (if b then message.Late c else message.Return c r cs) ≡ message.Resolve x y → ⊥
    at true h = cc
    at false h = cc
read_resolve es e (message.Resolve promise c) x y is h = at (resolves_released es e) h
  where
    at : (b : Bool) → (if b then message.Resolve cap.Nothing c else message.Resolve promise c) ≡ message.Resolve x y → message.Resolve promise c ≡ message.Resolve x y
    at true h = let same : cap.Nothing ≡ x = cc in let no : false ≡ true = ap is_present same ∙ is in absurd (let n : ⊥ = cc in n)
    at false h = h
read_resolve es e (message.Broken promise) x y is h = absurd (at (resolves_released es e) h)
  where
    at : (b : Bool) → (if b then message.Broken cap.Nothing else message.Broken promise) ≡ message.Resolve x y → ⊥
    at true h = cc
    at false h = cc
read_resolve es e m x y is h = h

pub return_said : (late : Bool) (fields : List (List ℕ × ℕ)) (name : Name) (caps : Option (List Cap)) (m : Message) → late ≡ false → say_return late fields name caps ≡ Some m →
    (cs : List Cap) × (caps ≡ Some cs) × (m ≡ message.Return name (caps_at_paths cs fields) cs)
return_said true fields name caps m late h = absurd (let no : ⊥ = cc in no)
return_said false fields name None m late h = absurd (let no : ⊥ = cc in no)
return_said false fields name (Some cs) m late h = (cs, refl, let same : message.Return name (caps_at_paths cs fields) cs ≡ m = cc in sym same)

cap_there : (place : ℕ) (cs : List Cap) (x : Cap) → slice_get cs place ≡ Some x → is_present x ≡ true → cap_at place cs ≡ Some x
cap_there place cs x there is = ap (λ o. option_and_then (λ c. if is_present c then Some c else None) o) there ∙ ap (λ b. if b then Some x else None) is

-- what stands at a place of a record's caps is the name of what its descriptor stands for
named_there : (names : Naming) (es : Past) (e : DecodedRecord) (place : ℕ) (b : View) (cs : List Cap) → caps_named names es e ≡ Some cs → view_of_descriptor es e place ≡ Some b → (x : Cap) × (names.cap b ≡ Some x) × (slice_get cs place ≡ Some x)
named_there names es e place b cs all was =
    let d = then_is (descriptor_view (view_of_reference es) es e) (slice_get (descriptors e) place) b was in
    let r = together_at (descriptor_named names es e) (descriptors e) place d.0 cs all d.1 in
    (r.0, sym (descriptor_is names es e d.0 b d.2) ∙ r.1, r.2)

given_made : (names : Naming) (es : Past) (e : DecodedRecord) (path : List ℕ) (fields : List (List ℕ × ℕ)) (cs : List Cap) (b : View) (name : Name) → ((view : View) (x : Cap) → names.cap view ≡ Some x → is_present x ≡ true) →
    caps_named names es e ≡ Some cs → option_and_then (λ field. view_of_descriptor es e field.1) (find (λ field. same_path field.0 path) fields) ≡ Some b →
    (y : Cap) × (names.cap b ≡ Some y) × OneOf (λ result. (cap.Field name path ≡ cap.Field name result.0) × (y ≡ result.1)) (caps_at_paths cs fields)
given_made names es e path fields cs b name caps all there =
    let test : List ℕ × ℕ → Bool = λ field. same_path field.0 path in
    let field = then_is (λ field. view_of_descriptor es e field.1) (find test fields) b there in
    let at = path_is field.0.0 path (found_is test fields field.0 field.1) in
    let y = named_there names es e field.0.1 b cs all field.2 in
    let made = ap (λ o. option_map (λ c. (field.0.0, c)) o) (cap_there field.0.1 cs y.0 y.2 (caps b y.0 y.1)) in
    (y.0, y.1, results_so name field.0.0 path y.0 (caps_at_paths cs fields) at (found_kept test (λ field. option_map (λ c. (field.0, c)) (cap_at field.1 cs)) fields field.0 (field.0.0, y.0) field.1 made))

pub call_is : (free : Bool) (o : Option ℕ) (call c : ℕ) → is call o ≡ true → (if free then None else o) ≡ Some c → c ≡ call
call_is true o call c own h = absurd (let no : ⊥ = cc in no)
call_is false (Some d) call c own h = let same : d ≡ c = cc in sym same ∙ eqb-true d call own
call_is false None call c own h = absurd (let no : ⊥ = cc in no)

return_tells : (v call : ℕ) (path : List ℕ) (es : Past) (steps : List Step) (k c : ℕ) (rs : List ℕ) (head : ReturnHead) (outcome : Outcome) (s : Step) (b : View) →
    Says v es steps (Wire false k c rs (Return head outcome)) s → is call (call_at (opening (id k true head.answer) es)) ≡ true → is_late es (Wire false k c rs (Return head outcome)) ≡ false →
    result_at path es (Wire false k c rs (Return head outcome)) outcome ≡ Some b → TurnsNames (naming v (Wire false k c rs (Return head outcome) ∷ es) (s ∷ steps)) (FieldOf call path) b s
return_tells v call path es steps k c rs head (Results payload) s b says own late there =
    let e = Wire false k c rs (Return head (Results payload)) in
    let names = naming v (e ∷ es) (s ∷ steps) in
    let caps = caps_named names es e in
    let name = then_is (λ name. say_return (is_late es e) payload.fields name caps) (call_answered names es k false head.answer) (read es e says.message) (says_read says refl) in
    let asked = then_is names.call (call_of (id k true head.answer) es) name.0 name.1 in
    let same = call_is (is_over (id k true head.answer) es) (call_at (opening (id k true head.answer) es)) call asked.0 own asked.1 in
    let told = return_said (is_late es e) payload.fields name.0 caps (read es e says.message) late name.2 in
    let came : says.message ≡ message.Return name.0 (caps_at_paths told.0 payload.fields) told.0 = read_return es e says.message name.0 (caps_at_paths told.0 payload.fields) told.0 told.2 in
    let y = given_made names es e path payload.fields told.0 b name.0 (names_are_caps v (e ∷ es) (s ∷ steps)) told.1 there in
    record {
      from = cap.Field name.0 path;
      to = y.0;
      from_named = ap (λ o. option_map (λ n. cap.Field n path) o) (ap names.call (sym same) ∙ asked.2);
      to_named = y.1;
      turned = inr (subst (Tells (cap.Field name.0 path) y.0) (sym (says.step ∙ ap (λ m. step.Receive v k m says.bound) came)) y.2);
    }
return_tells v call path es steps k c rs head outcome s b says own late there = absurd (let no : ⊥ = cc in no)

-- one that takes the results of another call, where it isn't late
pub in_time : (late : Bool) (m came gone : Message) → late ≡ false → (m ≡ came) ⊎ ((late ≡ true) × (m ≡ gone)) → m ≡ came
in_time late m came gone not_late (inl is) = is
in_time late m came gone not_late (inr is) = absurd (false≢true (sym not_late ∙ is.0))

field_is : (o : Option ℕ) (c : ℕ) (path : List ℕ) (b : View) → o ≡ Some c → option_map (λ call. FieldOf call path) o ≡ Some b → FieldOf c path ≡ b
field_is o c path b is h = let same : ◌≡◌ {A = Option View} (Some (FieldOf c path)) (Some b) = sym (ap (option_map (λ call. FieldOf call path)) is) ∙ h in cc

taken_tells : (v call : ℕ) (path : List ℕ) (es : Past) (steps : List Step) (k c : ℕ) (rs : List ℕ) (head : ReturnHead) (n : ℕ) (s : Step) (b : View) →
    Says v es steps (Wire false k c rs (Return head (TakeFrom n))) s → is call (call_at (opening (id k true head.answer) es)) ≡ true → is_late es (Wire false k c rs (Return head (TakeFrom n))) ≡ false →
    field_view (id k false n) path es ≡ Some b → TurnsNames (naming v (Wire false k c rs (Return head (TakeFrom n)) ∷ es) (s ∷ steps)) (FieldOf call path) b s
taken_tells v call path es steps k c rs head n s b says own late there =
    let e = Wire false k c rs (Return head (TakeFrom n)) in
    let names = naming v (e ∷ es) (s ∷ steps) in
    let heard_so = says_heard says in
    let t = taken_parts names es k c rs head n heard_so.0 heard_so.1 in
    let came = in_time (is_late es e) says.message (message.Taken t.name t.by_name) (message.Late t.name) late
    (taken_heard es e says.message t.name t.by_name (subst (λ m. heard es e says.message m ≡ read es e says.message) t.is heard_so.2)) in
    let same = call_is (is_over (id k true head.answer) es) (call_at (opening (id k true head.answer) es)) call t.call own t.answered in
    subst (λ b. TurnsNames names (FieldOf call path) b s) (field_is (call_of (id k false n) es) t.by path b t.taken there) (record {
      from = cap.Field t.name path;
      to = cap.Field t.by_name path;
      from_named = ap (λ o. option_map (λ n. cap.Field n path) o) (ap names.call (sym same) ∙ t.named);
      to_named = ap (λ o. option_map (λ n. cap.Field n path) o) t.by_named;
      turned = inr (subst (Tells (cap.Field t.name path) (cap.Field t.by_name path)) (sym (says.step ∙ ap (λ m. step.Receive v k m says.bound) came)) (path, refl, refl));
    })

resolved_one : (names : Naming) (es : Past) (k c : ℕ) (rs : List ℕ) (n : ℕ) (resolution : Resolution) (x : Cap) (m : Message) (b : View) → ((view : View) (x : Cap) → names.cap view ≡ Some x → is_present x ≡ true) →
    option_map (say_resolve x) (caps_named names es (Wire false k c rs (Resolve n resolution))) ≡ Some m → view_of_descriptor es (Wire false k c rs (Resolve n resolution)) 0 ≡ Some b → (y : Cap) × (names.cap b ≡ Some y) × (m ≡ message.Resolve x y)
resolved_one names es k c rs n (Capped d) x m b caps h there =
    let e = Wire false k c rs (Resolve n (Capped d)) in
    let y = descriptor_is names es e d b there in
    let cs = mapped_is (say_resolve x) (caps_named names es e) m h in
    let one = named_there names es e 0 b cs.0 cs.1 there in
    let named = y ∙ one.1 in
    let list : ◌≡◌ {A = Option (List Cap)} (Some (one.0 ∷ [])) (Some cs.0) = sym (ap (λ o. all_there (o ∷ [])) named) ∙ cs.1 in
    let same : one.0 ∷ [] ≡ cs.0 = cc in
    (one.0, one.1, sym cs.2 ∙ ap (say_resolve x) (sym same) ∙ resolve_is x one.0 [] (caps b one.0 one.1))
resolved_one names es k c rs n Unkept x m b caps h there = absurd (let no : ⊥ = cc in no)

began_is : (named : ℕ → Option View) (i place : ℕ) (o : Option Birth) → began_at i place o ≡ true → option_and_then (view_given named false) o ≡ Some (Import i place)
began_is named i place (Some b) h =
    let both = both_true (record_index b.from == i) (b.place == place) h in ap₂ (λ n p. Some (Import n p)) (eqb-true (record_index b.from) i both.0) (eqb-true b.place place both.1)
  where
    both_true : (a b : Bool) → (a && b) ≡ true → (a ≡ true) × (b ≡ true)
    both_true true b h = (refl, h)
    both_true false b h = absurd (let no : ⊥ = cc in no)
began_is named i place None h = absurd (let no : ⊥ = cc in no)

resolve_tells : (v i place : ℕ) (es : Past) (steps : List Step) (k c : ℕ) (rs : List ℕ) (n : ℕ) (resolution : Resolution) (s : Step) (b : View) (x : Cap) → Says v es steps (Wire false k c rs (Resolve n resolution)) s →
    began_at i place (birth (id k false n) es) ≡ true → view_of_descriptor es (Wire false k c rs (Resolve n resolution)) 0 ≡ Some b →
    cap_named v (Wire false k c rs (Resolve n resolution) ∷ es) (s ∷ steps) (Import i place) ≡ Some x → TurnsNames (naming v (Wire false k c rs (Resolve n resolution) ∷ es) (s ∷ steps)) (Import i place) b s
resolve_tells v i place es steps k c rs n resolution s b x says began there named =
    let e = Wire false k c rs (Resolve n resolution) in
    let names = naming v (e ∷ es) (s ∷ steps) in
    let caps = names_are_caps v (e ∷ es) (s ∷ steps) in
    let stands : option_and_then names.cap (view_of_number (id k false n) es) ≡ Some x = ap (λ o. option_and_then names.cap o) (began_is (view_of_reference es) i place (birth (id k false n) es) began) ∙ named in
    let promise : promise_named names es k false n ≡ Some x = ap (λ o. Some (unwrap_or o cap.Nothing)) stands in
    let reads = sym (ap (λ o. option_and_then (λ p. option_map (say_resolve p) (caps_named names es e)) o) promise) ∙ says_read says refl in
    let y = resolved_one names es k c rs n resolution x (read es e says.message) b caps reads there in
    let came = read_resolve es e says.message x y.0 (caps (Import i place) x named) y.2 in
    record {
      from = x;
      to = y.0;
      from_named = named;
      to_named = y.1;
      turned = inr (subst (Tells x y.0) (sym (says.step ∙ ap (λ m. step.Receive v k m says.bound) came)) (refl, refl));
    }

-- ---- together

pub own_promise : (v p : ℕ) (es : Past) (steps : List Step) (e : DecodedRecord) (s : Step) (b : View) → Says v es steps e s → keeps p es e ≡ Some (turns b) → TurnsNames (naming v (e ∷ es) (s ∷ steps)) (Promise p) b s
own_promise v p es steps (Fulfil r to) s b says h =
    let t = turned_is (is_promise p (view_of_reference es r)) (on_to (view_of_reference es to)) b h in
    kept_tells v p es steps r to s b says t.0 (on_is (view_of_reference es to) b t.1)
own_promise v p es steps (Break r) s b says h = absurd (no_stop b (turned_is (is_promise p (view_of_reference es r)) stops b h).1)
own_promise v p es steps e s b says h = absurd (let no : ⊥ = cc in no)

not_late_on : (late : Bool) (o : Option View) (b : View) → (if late then stops else on_to o) ≡ turns b → (late ≡ false) × (o ≡ Some b)
not_late_on true o b h = absurd (no_stop b h)
not_late_on false o b h = (refl, on_is o b h)

-- what a Return with results, or a failed one, turns a field of its call to
of_return : (v call : ℕ) (path : List ℕ) (es : Past) (steps : List Step) (k c : ℕ) (rs : List ℕ) (head : ReturnHead) (outcome : Outcome) (s : Step) (b : View) →
    let e = Wire false k c rs (Return head outcome) in Says v es steps e s →
    (if is call (call_at (opening (id k true head.answer) es)) then Some (if is_late es e then stops else on_to (result_at path es e outcome)) else None) ≡ Some (turns b) → TurnsNames (naming v (e ∷ es) (s ∷ steps)) (FieldOf call path) b s
of_return v call path es steps k c rs head outcome s b says h =
    let e = Wire false k c rs (Return head outcome) in
    let t = turned_is (is call (call_at (opening (id k true head.answer) es))) (if is_late es e then stops else on_to (result_at path es e outcome)) b h in
    let on = not_late_on (is_late es e) (result_at path es e outcome) b t.1 in
    return_tells v call path es steps k c rs head outcome s b says t.0 on.0 on.1

same_turn : (a b : View) → turns a ≡ turns b → a ≡ b
same_turn a b h = cc

pub of_call : (v call : ℕ) (path : List ℕ) (es : Past) (steps : List Step) (e : DecodedRecord) (s : Step) (b : View) → Says v es steps e s → answers call path es e ≡ Some (turns b) → TurnsNames (naming v (e ∷ es) (s ∷ steps)) (FieldOf call path) b s
of_call v call path es steps (Answer c results) s b says h =
    let t = turned_is (c == call) (on_to (answer_view_at path es results)) b h in
    answer_tells v call path es steps c results s b says (eqb-true c call t.0) (on_is (answer_view_at path es results) b t.1)
of_call v call path es steps (Fault c) s b says h = absurd (no_stop b (turned_is (c == call) stops b h).1)
of_call v call path es steps (AnswerBy c by) s b says h =
    let t = turned_is (c == call) (turns (FieldOf by path)) b h in
    subst (λ b. TurnsNames (naming v (AnswerBy c by ∷ es) (s ∷ steps)) (FieldOf call path) b s) (same_turn (FieldOf by path) b t.1) (by_tells v call path es steps c by s says (eqb-true c call t.0))
of_call v call path es steps (Wire false k c rs (Return head (Results payload))) s b says h = of_return v call path es steps k c rs head (Results payload) s b says h
of_call v call path es steps (Wire false k c rs (Return head Exception)) s b says h = of_return v call path es steps k c rs head Exception s b says h
of_call v call path es steps (Wire false k c rs (Return head Canceled)) s b says h = of_return v call path es steps k c rs head Canceled s b says h
of_call v call path es steps (Wire false k c rs (Return head (TakeFrom n))) s b says h =
    let e = Wire false k c rs (Return head (TakeFrom n)) in
    let t = turned_is (is call (call_at (opening (id k true head.answer) es))) (if is_late es e then stops else on_to (field_view (id k false n) path es)) b h in
    let on = not_late_on (is_late es e) (field_view (id k false n) path es) b t.1 in
    taken_tells v call path es steps k c rs head n s b says t.0 on.0 on.1
of_call v call path es steps e s b says h = absurd (let no : ⊥ = cc in no)

pub of_import : (v i place : ℕ) (es : Past) (steps : List Step) (e : DecodedRecord) (s : Step) (b : View) (x : Cap) → Says v es steps e s → resolves i place es e ≡ Some (turns b) →
    cap_named v (e ∷ es) (s ∷ steps) (Import i place) ≡ Some x → TurnsNames (naming v (e ∷ es) (s ∷ steps)) (Import i place) b s
of_import v i place es steps (Wire false k c rs (Resolve n resolution)) s b x says h named =
    let e = Wire false k c rs (Resolve n resolution) in
    let t = turned_is (began_at i place (birth (id k false n) es)) (on_to (view_of_descriptor es e 0)) b h in
    resolve_tells v i place es steps k c rs n resolution s b x says t.0 (on_is (view_of_descriptor es e 0) b t.1) named
of_import v i place es steps e s b x says h named = absurd (let no : ⊥ = cc in no)

pub turn_told : (v : ℕ) (es : Past) (steps : List Step) (e : DecodedRecord) (s : Step) (a b : View) (x : Cap) → Says v es steps e s → turn a es e ≡ Some (turns b) → cap_named v (e ∷ es) (s ∷ steps) a ≡ Some x →
    TurnsNames (naming v (e ∷ es) (s ∷ steps)) a b s
turn_told v es steps e s (Object object) b x says h named = absurd (let no : ⊥ = cc in no)
turn_told v es steps e s (Promise p) b x says h named = own_promise v p es steps e s b says h
turn_told v es steps e s (FieldOf call path) b x says h named = of_call v call path es steps e s b says h
turn_told v es steps e s (Import i place) b x says h named = of_import v i place es steps e s b x says h named
