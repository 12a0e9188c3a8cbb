-- What is kept of a vat is that of its records and their steps, and names its calls and views as they do.
use Rattle.std.proofs.Common.{◌≡◌, refl, sym, ◌∙◌, ap, ap₂, subst, ℕ, zero, suc, ◌==◌, List, [], ◌∷◌, ◌++◌, length, map, reverse, set, get_or, Bool, true, false, not, Option, Some, None, if◌then◌else◌, option_and_then, option_map, slice_get, append-nil, arith, eqb-true, inl, inr}
use Rattle.std.specs.Option.{option_or}
use Rattle.std.specs.Prelude.{IsSome, Result, Ok, Err, OnOk}
use Rattle.std.proofs.lemmas.Bool.{cases_Bool, false≢true, eq-eqb}
use Rattle.std.proofs.lemmas.List.{reverse-append, length-reverse}
use Rattle.std.proofs.Math.Seq.{set-append_seam}
use Rattle.decoded_records.specs.Past.{Past}
use Rattle.decoded_records.specs.Views.{view_of_reference}
use Rattle.vat_rules.specs.OfCaps.{is_received}
use Rattle.vat_rules.specs.LogFacts.{Facts}
use Rattle.vat_rules.specs.Telling.{facts_of}
use Rattle.call_trace.specs.declared.records.vat_ledger.VatLedger.{VatLedger}
use Rattle.call_trace.specs.Types.{RpcMessage, Bootstrap, Call, Return, Finish, Resolve, Release, Disembargo, Abort, DecodedRecord, Host, Vow, Fulfil, Break, Make, Field, Deliver, Answer, AnswerBy, Fault, Wire, View, Object, Promise, FieldOf, Import, Name, Cap, Message, Step}
use Rattle.call_trace.specs.Naming.{Naming, naming, cap_at, names_call, call_named, cap_named, message_at, message_of_step}
use Rattle.call_trace.specs.Part.{reference_named, step_said}
use Rattle.call_trace.specs.Running.{step_received, step_of}
use Rattle.call_trace.specs.Said.{all_there}
use Rattle.call_trace.specs.Glue.Ledgers.{step_message_in, call_name_in, cap_in, naming_by_tables, call_bound_by, bound_call, named_said, with_bound, step_of_receipt, step_said_by, pushed, IsBound, IsNoted, IsKept, HasStep, IsTaken}
use Rattle.call_trace.proofs.Naming.{message_within}
use Rattle.call_trace.proofs.Viewing.{step_as}
use Rattle.run_model.specs.Has.{call_in_message}
use Rattle.run_model.specs.Legal.{caps_brought}
use Rattle.run_model.specs.Steps.{call}
use Rattle.run_model.specs.declared.cap.Cap.TheVariants as cap
use Rattle.run_model.specs.declared.step.Step.TheVariants as step

-- ---- numbers of steps

abbrev got : {A : Type 0} → Option (Option A) → Option A
got o = option_and_then (λ x. x) o

got_of : {A : Type 0} (g : ℕ → Option A) (ns : List ℕ) (i : ℕ) → option_and_then g (slice_get ns i) ≡ got (slice_get (map g ns) i)
got_of g [] i = refl
got_of g (n ∷ ns) zero = refl
got_of g (n ∷ ns) (suc i) = got_of g ns i

got_some : {A : Type 0} (xs : List A) (i : ℕ) → got (slice_get (map Some xs) i) ≡ slice_get xs i
got_some [] i = refl
got_some (x ∷ xs) zero = refl
got_some (x ∷ xs) (suc i) = got_some xs i

pub get_longer : {A : Type 0} (xs : List A) (x : A) (i : ℕ) (y : A) → slice_get xs i ≡ Some y → slice_get (xs ++ x ∷ []) i ≡ Some y
get_longer [] x i y h = absurd (let no : ⊥ = cc in no)
get_longer (z ∷ xs) x zero y h = h
get_longer (z ∷ xs) x (suc i) y h = get_longer xs x i y h

pub get_last : {A : Type 0} (xs : List A) (x : A) → slice_get (xs ++ x ∷ []) (length xs) ≡ Some x
get_last [] x = refl
get_last (z ∷ xs) x = get_last xs x

get_or_last : {A : Type 0} (xs : List A) (x d : A) → get_or (xs ++ x ∷ []) (length xs) d ≡ x
get_or_last [] x d = refl
get_or_last (z ∷ xs) x d = get_or_last xs x d

get_others : {A : Type 0} (xs : List A) (x : A) (i : ℕ) → (length xs ≡ i → ⊥) → slice_get (xs ++ x ∷ []) i ≡ slice_get xs i
get_others [] x zero apart = absurd (apart refl)
get_others [] x (suc i) apart = refl
get_others (z ∷ xs) x zero apart = refl
get_others (z ∷ xs) x (suc i) apart = get_others xs x i (λ e. apart (ap suc e))

-- a run that goes on keeps the steps that have numbers
map_longer : (run : List Step) (s : Step) (ns : List ℕ) (xs : List Step) → map (slice_get run) ns ≡ map Some xs → map (slice_get (run ++ s ∷ [])) ns ≡ map Some xs
map_longer run s [] xs h = h
map_longer run s (n ∷ ns) [] h = absurd (let no : ⊥ = cc in no)
map_longer run s (n ∷ ns) (x ∷ xs) h =
    let here : slice_get run n ≡ Some x = cc in
    let rest : map (slice_get run) ns ≡ map Some xs = cc in
    ap₂ (λ o os. o ∷ os) (get_longer run s n x here) (map_longer run s ns xs rest)

map_append : {A B : Type 0} (f : A → B) (xs ys : List A) → map f (xs ++ ys) ≡ map f xs ++ map f ys
map_append f [] ys = refl
map_append f (x ∷ xs) ys = ap (λ zs. f x ∷ zs) (map_append f xs ys)

reverse_one : {A : Type 0} (x : A) (xs : List A) → reverse (x ∷ xs) ≡ reverse xs ++ x ∷ []
reverse_one x xs = reverse-append (x ∷ []) xs

numbers_more : (run : List Step) (s : Step) (ns : List ℕ) (own : List Step) → map (slice_get run) ns ≡ map Some (reverse own) →
    map (slice_get (run ++ s ∷ [])) (ns ++ length run ∷ []) ≡ map Some (reverse (s ∷ own))
numbers_more run s ns own h =
    map_append (slice_get (run ++ s ∷ [])) ns (length run ∷ [])
    ∙ ap₂ (λ os o. os ++ o ∷ []) (map_longer run s ns (reverse own) h) (get_last run s)
    ∙ sym (map_append Some (reverse own) (s ∷ [])) ∙ ap (map Some) (sym (reverse_one s own))

message_back : (own : List Step) (i : ℕ) → option_and_then message_of_step (slice_get (reverse own) i) ≡ message_at i own
message_back [] i = refl
message_back (s ∷ own) i = elim (cases_Bool (length own == i)) [
  | inl same ↦
      let is : length (reverse own) ≡ i = length-reverse own ∙ eqb-true (length own) i same in
      ap (option_and_then message_of_step) (ap (λ xs. slice_get xs i) (reverse_one s own) ∙ ap (slice_get (reverse own ++ s ∷ [])) (sym is) ∙ get_last (reverse own) s)
      ∙ sym (ap (λ b. if b then message_of_step s else message_at i own) same)
  | inr other ↦
      ap (option_and_then message_of_step) (ap (λ xs. slice_get xs i) (reverse_one s own) ∙ get_others (reverse own) s i (λ e. differ other (sym (length-reverse own) ∙ e)))
      ∙ message_back own i ∙ sym (ap (λ b. if b then message_of_step s else message_at i own) other)
]
  where
    differ : (length own == i) ≡ false → length own ≡ i → ⊥
    differ other e = false≢true (sym other ∙ eq-eqb (length own) i e)

pub message_as : (run : List Step) (ns : List ℕ) (own : List Step) (i : ℕ) → map (slice_get run) ns ≡ map Some (reverse own) → step_message_in run ns i ≡ message_at i own
message_as run ns own i h =
    ap (option_and_then message_of_step) (got_of (slice_get run) ns i ∙ ap (λ os. got (slice_get os i)) h ∙ got_some (reverse own) i) ∙ message_back own i

-- a step without a message brings nothing
message_hosted : (v : ℕ) (own : List Step) (i : ℕ) → message_at i (step.Host v 0 ∷ own) ≡ message_at i own
message_hosted v own i = at (length own == i) refl (message_at i own) refl
  where
    at : (b : Bool) → (length own == i) ≡ b → (o : Option Message) → message_at i own ≡ o → (if b then None else o) ≡ o
    at false is o there = refl
    at true is None there = refl
    at true is (Some m) there = absurd (let past = message_within i own m there in let len = eqb-true (length own) i is in let none : ⊥ = omega (arith, past, len) in none)

-- ---- names of calls

one_of : (a c : ℕ) (x y : Name) (o : Option Name) → (a ≡ c → x ≡ y) → (if a == c then Some x else o) ≡ option_or (if a == c then Some y else None) o
one_of a c x y o same = at (a == c) refl
  where
    at : (b : Bool) → (a == c) ≡ b → (if b then Some x else o) ≡ option_or (if b then Some y else None) o
    at true is = ap Some (same (eqb-true a c is))
    at false is = refl

called_one : (d c : ℕ) (named : Option Name) (o : Option Name) → bound_call (option_map (λ name. (d, name)) named) c o ≡ option_or (if d == c then named else None) o
called_one d c (Some name) o = one_of d c name name o (λ e. refl)
called_one d c None o = at (d == c)
  where
    at : (b : Bool) → o ≡ option_or (if b then None else None) o
    at true = refl
    at false = refl

pub binding_names : (v c : ℕ) (e : DecodedRecord) (s : Step) (o : Option Name) → bound_call (call_bound_by v e (message_of_step s)) c o ≡ option_or (names_call v c e s) o
binding_names v c (Make d r interface method) s o = one_of d c (call v d) (call v c) o (λ e. ap (call v) e)
binding_names v c (Wire true k d references (Bootstrap q)) s o = one_of d c (call v d) (call v c) o (λ e. ap (call v) e)
binding_names v c (Wire false k d references (Bootstrap q)) s o = called_one d c (option_and_then call_in_message (message_of_step s)) o
binding_names v c (Wire false k d references (Call head target params)) s o = called_one d c (option_and_then call_in_message (message_of_step s)) o
binding_names v c (Wire true k d references (Call head target params)) s o = refl
binding_names v c (Wire sent k d references (Return head outcome)) s o = at sent
  where
    at : (sent : Bool) → bound_call (call_bound_by v (Wire sent k d references (Return head outcome)) (message_of_step s)) c o ≡ option_or (names_call v c (Wire sent k d references (Return head outcome)) s) o
    at true = refl
    at false = refl
binding_names v c (Wire sent k d references (Finish q release)) s o = at sent
  where
    at : (sent : Bool) → bound_call (call_bound_by v (Wire sent k d references (Finish q release)) (message_of_step s)) c o ≡ option_or (names_call v c (Wire sent k d references (Finish q release)) s) o
    at true = refl
    at false = refl
binding_names v c (Wire sent k d references (Resolve n resolution)) s o = at sent
  where
    at : (sent : Bool) → bound_call (call_bound_by v (Wire sent k d references (Resolve n resolution)) (message_of_step s)) c o ≡ option_or (names_call v c (Wire sent k d references (Resolve n resolution)) s) o
    at true = refl
    at false = refl
binding_names v c (Wire sent k d references (Release n count)) s o = at sent
  where
    at : (sent : Bool) → bound_call (call_bound_by v (Wire sent k d references (Release n count)) (message_of_step s)) c o ≡ option_or (names_call v c (Wire sent k d references (Release n count)) s) o
    at true = refl
    at false = refl
binding_names v c (Wire sent k d references (Disembargo n loopback target)) s o = at sent
  where
    at : (sent : Bool) → bound_call (call_bound_by v (Wire sent k d references (Disembargo n loopback target)) (message_of_step s)) c o ≡ option_or (names_call v c (Wire sent k d references (Disembargo n loopback target)) s) o
    at true = refl
    at false = refl
binding_names v c (Wire sent k d references Abort) s o = at sent
  where
    at : (sent : Bool) → bound_call (call_bound_by v (Wire sent k d references Abort) (message_of_step s)) c o ≡ option_or (names_call v c (Wire sent k d references Abort) s) o
    at true = refl
    at false = refl
binding_names v c (Host r object) s o = refl
binding_names v c (Vow r) s o = refl
binding_names v c (Fulfil r to) s o = refl
binding_names v c (Break r) s o = refl
binding_names v c (Field r d path) s o = refl
binding_names v c (Deliver d object) s o = refl
binding_names v c (Answer d results) s o = refl
binding_names v c (AnswerBy d by) s o = refl
binding_names v c (Fault d) s o = refl

-- what isn't received gives no name that a message has
pub binding_own : (v : ℕ) (e : DecodedRecord) (m : Option Message) → is_received e ≡ false → call_bound_by v e m ≡ call_bound_by v e None
binding_own v (Make d r interface method) m own = refl
binding_own v (Host r object) m own = refl
binding_own v (Vow r) m own = refl
binding_own v (Fulfil r to) m own = refl
binding_own v (Break r) m own = refl
binding_own v (Field r d path) m own = refl
binding_own v (Deliver d object) m own = refl
binding_own v (Answer d results) m own = refl
binding_own v (AnswerBy d by) m own = refl
binding_own v (Fault d) m own = refl
binding_own v (Wire false k d references message) m own = absurd (let no : ⊥ = cc in no)
binding_own v (Wire true k d references (Bootstrap q)) m own = refl
binding_own v (Wire true k d references (Call head target params)) m own = refl
binding_own v (Wire true k d references (Return head outcome)) m own = refl
binding_own v (Wire true k d references (Finish q release)) m own = refl
binding_own v (Wire true k d references (Resolve n resolution)) m own = refl
binding_own v (Wire true k d references (Release n count)) m own = refl
binding_own v (Wire true k d references (Disembargo n loopback target)) m own = refl
binding_own v (Wire true k d references Abort) m own = refl

-- ---- the whole of what is kept

-- how the tables name is how the records with their steps do, once the call that the record binds is named
pub names_are : (v : ℕ) (es : Past) (own run : List Step) (e : DecodedRecord) (s : Step) (old new : VatLedger) → IsKept v es own run old → is_received e ≡ false →
    IsBound (call_bound_by v e None) old new → naming_by_tables run new ≡ naming v (e ∷ es) (step.Host v 0 ∷ own)
names_are v es own run e s old new kept mine bound = λ i. record {
  vat = (bound.vat ∙ kept.vat) i;
  call = λ c. calls c i;
  cap = λ view. caps view i;
}
  where
    calls : (c : ℕ) → call_name_in new c ≡ call_named v (e ∷ es) (step.Host v 0 ∷ own) c
    calls c = bound.calls c ∙ ap (bound_call (call_bound_by v e None) c) (kept.calls c) ∙ binding_names v c e (step.Host v 0) (call_named v es own c)

    caps : (view : View) → cap_in run new view ≡ cap_named v (e ∷ es) (step.Host v 0 ∷ own) view
    caps (Object object) = ap (λ w. Some (cap.Object w object)) (bound.vat ∙ kept.vat)
    caps (Promise r) = ap (λ w. Some (cap.Promise w r)) (bound.vat ∙ kept.vat)
    caps (FieldOf c path) = ap (option_map (λ name. cap.Field name path)) (calls c)
    caps (Import i place) = ap (option_and_then (λ m. cap_at place (caps_brought m)))
        (ap (λ ns. step_message_in run ns i) bound.numbers ∙ message_as run old.numbers.items own i kept.numbers ∙ sym (message_hosted v own i))

-- so they name after the record and its step
pub names_after : (v : ℕ) (es : Past) (own run : List Step) (ledger : VatLedger) → IsKept v es own run ledger → naming_by_tables run ledger ≡ naming v es own
names_after v es own run ledger kept = λ i. record {
  vat = kept.vat i;
  call = λ c. kept.calls c i;
  cap = λ view. caps view i;
}
  where
    caps : (view : View) → cap_in run ledger view ≡ cap_named v es own view
    caps (Object object) = ap (λ w. Some (cap.Object w object)) kept.vat
    caps (Promise r) = ap (λ w. Some (cap.Promise w r)) kept.vat
    caps (FieldOf c path) = ap (option_map (λ name. cap.Field name path)) (kept.calls c)
    caps (Import i place) = ap (option_and_then (λ m. cap_at place (caps_brought m))) (message_as run ledger.numbers.items own i kept.numbers)

-- one record more with its step: its call is named, and it is noted under its step's number
pub kept_more : (v : ℕ) (es : Past) (own run : List Step) (e : DecodedRecord) (s : Step) (old bound new : VatLedger) → IsKept v es own run old →
    IsBound (call_bound_by v e (message_of_step s)) old bound → IsNoted (length run) bound new → IsKept v (e ∷ es) (s ∷ own) (run ++ s ∷ []) new
kept_more v es own run e s old bound new kept b n = record {
  vat = n.vat ∙ b.vat ∙ kept.vat;
  numbers = ap (map (slice_get (run ++ s ∷ []))) (n.numbers ∙ ap (λ ns. ns ++ length run ∷ []) b.numbers) ∙ numbers_more run s old.numbers.items own kept.numbers;
  calls = λ c. n.calls c ∙ b.calls c ∙ ap (bound_call (call_bound_by v e (message_of_step s)) c) (kept.calls c) ∙ binding_names v c e s (call_named v es own c);
}

-- a step of another vat
pub kept_beside : (v : ℕ) (es : Past) (own run : List Step) (s : Step) (ledger : VatLedger) → IsKept v es own run ledger → IsKept v es own (run ++ s ∷ []) ledger
kept_beside v es own run s ledger kept = record {
  vat = kept.vat;
  numbers = map_longer run s ledger.numbers.items (reverse own) kept.numbers;
  calls = kept.calls;
}

-- ---- the step of a record that isn't received

own_step_of : (v : ℕ) (es : Past) (own before : List Step) (e : DecodedRecord) → is_received e ≡ false → step_said (naming v (e ∷ es) (step.Host v 0 ∷ own)) es e ≡ step_of v es own before e
own_step_of v es own before (Host r object) mine = refl
own_step_of v es own before (Vow r) mine = refl
own_step_of v es own before (Fulfil r to) mine = refl
own_step_of v es own before (Break r) mine = refl
own_step_of v es own before (Make c r interface method) mine = refl
own_step_of v es own before (Field r c path) mine = refl
own_step_of v es own before (Deliver c object) mine = refl
own_step_of v es own before (Answer c results) mine = refl
own_step_of v es own before (AnswerBy c by) mine = refl
own_step_of v es own before (Fault c) mine = refl
own_step_of v es own before (Wire true k c references m) mine = refl
own_step_of v es own before (Wire false k c references m) mine = absurd (let none : ⊥ = cc in none)

-- what it says by the tables and by its facts is its step
pub own_step_is : (v : ℕ) (es : Past) (own run before : List Step) (e : DecodedRecord) (facts : Facts) (old new : VatLedger) → IsKept v es own run old → is_received e ≡ false →
    facts ≡ facts_of es e → IsBound (call_bound_by v e None) old new → step_said_by (naming_by_tables run new) facts e ≡ step_of v es own before e
own_step_is v es own run before e facts old new kept mine is bound =
    ap₂ (λ names known. step_said_by names known e) (names_are v es own run e (step.Host v 0) old new kept mine bound) is
    ∙ step_as (naming v (e ∷ es) (step.Host v 0 ∷ own)) es e mine ∙ own_step_of v es own before e mine

-- ---- the step of a record that is received

named_map : (names : Naming) (es : Past) (rs : List ℕ) → map (option_and_then names.cap) (map (view_of_reference es) rs) ≡ map (reference_named names es) rs
named_map names es [] = refl
named_map names es (r ∷ rs) = ap (λ os. reference_named names es r ∷ os) (named_map names es rs)

-- what the references noted beside it are bound to, by the tables and by its facts
pub received_binds : (v : ℕ) (es : Past) (own run : List Step) (k c : ℕ) (references : List ℕ) (m : RpcMessage) (message : Message) (facts : Facts) (ledger : VatLedger) →
    let e = Wire false k c references m in IsKept v (e ∷ es) (step.Receive v k message [] ∷ own) run ledger → facts ≡ facts_of es e →
    option_map (λ bound. step.Receive v k message bound) (named_said (naming_by_tables run ledger) facts.references) ≡ step_received v es own e k references message
received_binds v es own run k c references m message facts ledger kept is =
    let e = Wire false k c references m in
    let names = naming v (e ∷ es) (step.Receive v k message [] ∷ own) in
    ap (option_map (λ bound. step.Receive v k message bound))
    (ap₂ (λ ns (known : Facts). named_said ns known.references) (names_after v (e ∷ es) (step.Receive v k message [] ∷ own) run ledger kept) is
    ∙ ap (λ rs. named_said names (map (view_of_reference (e ∷ es)) rs)) (append-nil references)
    ∙ ap all_there (named_map names (e ∷ es) references))

-- ---- what a function that takes a step has to show

pub not_none : {A : Type 0} (o : Option A) → IsSome o → o ≡ None → ⊥
not_none (Some x) some none = let no : ⊥ = cc in no
not_none None some none = let no : ⊥ = cc in no

pub some_if : {A : Type 0} (o : Option A) → (o ≡ None → ⊥) → IsSome o
some_if (Some x) not = refl
some_if None not = absurd (not refl)

-- what holds after an answer that isn't an error
pub on_ok : {A E : Type 0} {P Q : Type 0} (r : Result A E) → (P → Q) → OnOk r P → OnOk r Q
on_ok (Ok x) f p = f p
on_ok (Err e) f p = p

some_is : {A : Type 0} {x y : A} → Some x ≡ Some y → x ≡ y
some_is e = cc

-- a record that isn't received took its step
pub own_taken : (v : ℕ) (es : Past) (own before run taken : List Step) (e : DecodedRecord) (facts : Facts) (number : ℕ) (old bound new : VatLedger) (s : Step) →
    IsKept v es own run old → is_received e ≡ false → facts ≡ facts_of es e → IsBound (call_bound_by old.vat e None) old bound →
    Some s ≡ step_said_by (naming_by_tables run bound) facts e → IsNoted number bound new → number ≡ length run → taken ≡ run ++ s ∷ [] →
    IsTaken v es e own (step_of v es own before e) run taken new
own_taken v es own before run taken e facts number old bound new s kept mine is b says n at more =
    let named : IsBound (call_bound_by v e None) old bound = subst (λ w. IsBound (call_bound_by w e None) old bound) kept.vat b in
    let step_is = own_step_is v es own run before e facts old bound kept mine is named in
    let here : IsNoted (length run) bound new = subst (λ i. IsNoted i bound new) at n in
    let by_step : IsBound (call_bound_by v e (message_of_step s)) old bound = subst (λ o. IsBound o old bound) (sym (binding_own v e (message_of_step s) mine)) named in
    (s, sym (says ∙ step_is), more, subst (λ xs. IsKept v (e ∷ es) (s ∷ own) xs new) (sym more) (kept_more v es own run e s old bound new kept by_step here))

-- it has none
pub own_none : (v : ℕ) (es : Past) (own before run : List Step) (e : DecodedRecord) (facts : Facts) (old bound : VatLedger) →
    IsKept v es own run old → is_received e ≡ false → facts ≡ facts_of es e → IsBound (call_bound_by old.vat e None) old bound →
    None ≡ step_said_by (naming_by_tables run bound) facts e → step_of v es own before e ≡ None
own_none v es own before run e facts old bound kept mine is b says =
    sym (says ∙ own_step_is v es own run before e facts old bound kept mine is (subst (λ w. IsBound (call_bound_by w e None) old bound) kept.vat b))

-- it has one, by the tables
pub own_some : (run : List Step) (e : DecodedRecord) (facts : Facts) (old bound : VatLedger) → HasStep (λ v es own before. step_of v es own before e) e facts run old →
    is_received e ≡ false → IsBound (call_bound_by old.vat e None) old bound → IsSome (step_said_by (naming_by_tables run bound) facts e)
own_some run e facts old bound has mine is =
    some_if _ (λ none. not_none _ has.there (own_none has.vat has.past has.own has.before run e facts old bound has.kept mine has.known is (sym none)))

-- it took its step, where that stands behind those before
pub own_pushed : (v : ℕ) (es : Past) (own before run taken : List Step) (e : DecodedRecord) (facts : Facts) (number : ℕ) (old bound new : VatLedger) →
    IsKept v es own run old → is_received e ≡ false → facts ≡ facts_of es e → IsBound (call_bound_by old.vat e None) old bound →
    IsSome (step_said_by (naming_by_tables run bound) facts e) → taken ≡ pushed (step_said_by (naming_by_tables run bound) facts e) run → IsNoted number bound new → number ≡ length run →
    IsTaken v es e own (step_of v es own before e) run taken new
own_pushed v es own before run taken e facts number old bound new kept mine is b there more n long = at (step_said_by (naming_by_tables run bound) facts e) refl there more
  where
    at : (o : Option Step) → o ≡ step_said_by (naming_by_tables run bound) facts e → IsSome o → taken ≡ pushed o run → IsTaken v es e own (step_of v es own before e) run taken new
    at (Some s) says some more = own_taken v es own before run taken e facts number old bound new s kept mine is b says n long more
    at None says some more = absurd (let no : ⊥ = cc in no)

-- what a received record is bound to by the tables, where its step stands last and binds nothing yet
received_said : (v : ℕ) (es : Past) (own run pushed : List Step) (k c : ℕ) (references : List ℕ) (m : RpcMessage) (message : Message) (facts : Facts) (number : ℕ)
    (old bound new : VatLedger) (w : ℕ) → let e = Wire false k c references m in
    IsKept v es own run old → facts ≡ facts_of es e → IsBound (call_bound_by old.vat e (Some message)) old bound → IsNoted number bound new → number ≡ length run →
    w ≡ new.vat → pushed ≡ run ++ step.Receive w k message [] ∷ [] →
    (pushed ≡ run ++ step.Receive v k message [] ∷ [])
    × (option_map (λ b. step.Receive v k message b) (named_said (naming_by_tables pushed new) facts.references) ≡ step_received v es own e k references message)
    × ((b : List Cap) → IsKept v (e ∷ es) (step.Receive v k message b ∷ own) (run ++ step.Receive v k message b ∷ []) new)
received_said v es own run pushed k c references m message facts number old bound new w kept is b n at whose more =
    let e = Wire false k c references m in
    let named : IsBound (call_bound_by v e (Some message)) old bound = subst (λ u. IsBound (call_bound_by u e (Some message)) old bound) kept.vat b in
    let here : IsNoted (length run) bound new = subst (λ i. IsNoted i bound new) at n in
    let by : w ≡ v = whose ∙ n.vat ∙ b.vat ∙ kept.vat in
    let all : pushed ≡ run ++ step.Receive v k message [] ∷ [] = more ∙ ap (λ u. run ++ step.Receive u k message [] ∷ []) by in
    let keeps : (l : List Cap) → IsKept v (e ∷ es) (step.Receive v k message l ∷ own) (run ++ step.Receive v k message l ∷ []) new =
    λ l. kept_more v es own run e (step.Receive v k message l) old bound new kept named here in
    (all, received_binds v es own pushed k c references m message facts new (subst (λ xs. IsKept v (e ∷ es) (step.Receive v k message [] ∷ own) xs new) (sym all) (keeps [])) is, keeps)

-- a received record took its step
pub received_taken : (v : ℕ) (es : Past) (own run pushed taken : List Step) (k c : ℕ) (references : List ℕ) (m : RpcMessage) (message : Message) (facts : Facts)
    (number : ℕ) (old bound new : VatLedger) (w : ℕ) (caps : List Cap) → let e = Wire false k c references m in
    IsKept v es own run old → facts ≡ facts_of es e → IsBound (call_bound_by old.vat e (Some message)) old bound → IsNoted number bound new → number ≡ length run →
    w ≡ new.vat → pushed ≡ run ++ step.Receive w k message [] ∷ [] → Some caps ≡ named_said (naming_by_tables pushed new) facts.references →
    taken ≡ run ++ step.Receive w k message caps ∷ [] →
    IsTaken v es e own (step_received v es own e k references message) run taken new
received_taken v es own run pushed taken k c references m message facts number old bound new w caps kept is b n at whose more says again =
    let e = Wire false k c references m in
    let s : Step = step.Receive v k message caps in
    let said = received_said v es own run pushed k c references m message facts number old bound new w kept is b n at whose more in
    let all : taken ≡ run ++ s ∷ [] = again ∙ ap (λ u. run ++ step.Receive u k message caps ∷ []) (whose ∙ n.vat ∙ b.vat ∙ kept.vat) in
    (s, sym said.1 ∙ ap (option_map (λ l. step.Receive v k message l)) (sym says), all, subst (λ xs. IsKept v (e ∷ es) (s ∷ own) xs new) (sym all) (said.2 caps))

-- it has none
pub received_none : (v : ℕ) (es : Past) (own run pushed : List Step) (k c : ℕ) (references : List ℕ) (m : RpcMessage) (message : Message) (facts : Facts)
    (number : ℕ) (old bound new : VatLedger) (w : ℕ) → let e = Wire false k c references m in
    IsKept v es own run old → facts ≡ facts_of es e → IsBound (call_bound_by old.vat e (Some message)) old bound → IsNoted number bound new → number ≡ length run →
    w ≡ new.vat → pushed ≡ run ++ step.Receive w k message [] ∷ [] → None ≡ named_said (naming_by_tables pushed new) facts.references →
    step_received v es own e k references message ≡ None
received_none v es own run pushed k c references m message facts number old bound new w kept is b n at whose more says =
    let said = received_said v es own run pushed k c references m message facts number old bound new w kept is b n at whose more in
    sym said.1 ∙ ap (option_map (λ l. step.Receive v k message l)) (sym says)

-- the same of a record of either way that is known to be received
abbrev Takes : DecodedRecord → ℕ → Type 0
Takes e k = (v : ℕ) (es : Past) (own run pushed taken : List Step) (message : Message) (facts : Facts) (number : ℕ) (old bound new : VatLedger) (w : ℕ) (caps : List Cap)
    → IsKept v es own run old → facts ≡ facts_of es e → IsBound (call_bound_by old.vat e (Some message)) old bound → IsNoted number bound new →
    number ≡ length run → w ≡ new.vat → pushed ≡ run ++ step.Receive w k message [] ∷ [] → Some caps ≡ named_said (naming_by_tables pushed new) facts.references →
    taken ≡ run ++ step.Receive w k message caps ∷ [] → IsTaken v es e own (step_of_receipt v es own e message) run taken new

pub takes : (e : DecodedRecord) → is_received e ≡ true → (sent : Bool) (k c : ℕ) (references : List ℕ) (m : RpcMessage) → Wire sent k c references m ≡ e → Takes e k
takes e h sent k c references m is = subst (λ e. is_received e ≡ true → Takes e k) is (at sent) h
  where
    at : (sent : Bool) → is_received (Wire sent k c references m) ≡ true → Takes (Wire sent k c references m) k
    at true h = absurd (let none : ⊥ = cc in none)
    at false h = λ v es own run pushed taken message facts number old bound new w caps.
        received_taken v es own run pushed taken k c references m message facts number old bound new w caps

-- the step that stands last has these bound now
pub last_bound : (run pushed taken : List Step) (w k : ℕ) (message : Message) (caps : List Cap) (number : ℕ) (was new : Step) → pushed ≡ run ++ step.Receive w k message [] ∷ [] →
    number ≡ length run → was ≡ get_or pushed number was → new ≡ with_bound caps was → taken ≡ set pushed number new → taken ≡ run ++ step.Receive w k message caps ∷ []
last_bound run pushed taken w k message caps number was new more at stood is all =
    let s = step.Receive w k message [] in
    let here : was ≡ s = stood ∙ ap₂ (λ xs n. get_or xs n was) more at ∙ get_or_last run s was in
    all ∙ ap₂ (λ xs n. set xs n new) more at ∙ set-append_seam run s [] new ∙ ap (λ x. run ++ x ∷ []) (is ∙ ap (with_bound caps) here)

abbrev TakesNone : DecodedRecord → ℕ → Type 0
TakesNone e k = (v : ℕ) (es : Past) (own run pushed : List Step) (message : Message) (facts : Facts) (number : ℕ) (old bound new : VatLedger) (w : ℕ) →
    IsKept v es own run old → facts ≡ facts_of es e → IsBound (call_bound_by old.vat e (Some message)) old bound → IsNoted number bound new →
    number ≡ length run → w ≡ new.vat → pushed ≡ run ++ step.Receive w k message [] ∷ [] → None ≡ named_said (naming_by_tables pushed new) facts.references →
    step_of_receipt v es own e message ≡ None

pub takes_none : (e : DecodedRecord) → is_received e ≡ true → (sent : Bool) (k c : ℕ) (references : List ℕ) (m : RpcMessage) → Wire sent k c references m ≡ e → TakesNone e k
takes_none e h sent k c references m is = subst (λ e. is_received e ≡ true → TakesNone e k) is (at sent) h
  where
    at : (sent : Bool) → is_received (Wire sent k c references m) ≡ true → TakesNone (Wire sent k c references m) k
    at true h = absurd (let none : ⊥ = cc in none)
    at false h = λ v es own run pushed message facts number old bound new w.
        received_none v es own run pushed k c references m message facts number old bound new w
