-- What an end reads of a message, as a message.
use Rattle.std.proofs.Common.{◌≡◌, refl, sym, ◌∙◌, ap, ap₂, ℕ, List, [], ◌∷◌, Bool, true, false, Option, Some, None, if◌then◌else◌, option_and_then, option_map, ◌⊎◌, inl, inr}
use Rattle.decoded_records.specs.Past.{Past, id}
use Rattle.decoded_records.specs.Questions.{is_late, call_of}
use Rattle.decoded_records.specs.Views.{view_of_target}
use Rattle.call_trace.specs.Naming.{Naming}
use Rattle.call_trace.specs.Part.{resolves_released, heard_late, ReadsAsSent, SaysReceive}
use Rattle.call_trace.specs.Said.{message_of_record, say_call, say_return, say_taken, say_resolve, caps_named, promise_named, call_answered, caps_at_paths}
use Rattle.call_trace.specs.Types.{Results, Exception, Canceled, Elsewhere, TakeFrom, Bootstrap, Call, Return, ReturnHead, Finish, Resolve, Release, Disembargo, Abort, DecodedRecord, Wire, Name, Cap, Message, Step}
use Rattle.run_model.specs.declared.cap.Cap.TheVariants as cap
use Rattle.run_model.specs.declared.message.Message.TheVariants as message
use Rattle.run_model.specs.declared.plain.Plain.TheVariants as plain

-- what its log says where it reads a message
abbrev pub read : Past → DecodedRecord → Message → Message
read es e (message.Return c results caps) = if is_late es e then message.Late c else message.Return c results caps
read es e (message.Resolve promise to) = if resolves_released es e then message.Resolve cap.Nothing to else message.Resolve promise to
read es e (message.Broken promise) = if resolves_released es e then message.Broken cap.Nothing else message.Broken promise
read es e m = m

-- what counts of what its log says there: of a Return that was late where it was sent, not whose results it takes
abbrev pub heard : Past → DecodedRecord → Message → Message → Message
heard es e (message.Late c) said = heard_late (is_late es e) said
heard es e m said = said

late_heard : (late : Bool) (c : Name) → heard_late late (message.Late c) ≡ message.Late c
late_heard true c = refl
late_heard false c = refl

only : {A : Type 0} (x y : A) → ◌≡◌ {A = Option A} (Some x) (Some y) → x ≡ y
only x y h = cc

mapped : {A B : Type 0} (f : A → B) (o : Option A) (y : B) → option_map f o ≡ Some y → (x : A) × (o ≡ Some x) × (f x ≡ y)
mapped f (Some x) y h = (x, refl, only (f x) y h)
mapped f None y h = absurd (let no : ⊥ = cc in no)

first : {A B : Type 0} (f : A → Option B) (o : Option A) (y : B) → option_and_then f o ≡ Some y → (x : A) × (o ≡ Some x) × (f x ≡ Some y)
first f (Some x) y h = (x, refl, h)
first f None y h = absurd (let no : ⊥ = cc in no)

-- it reads a message whose reading its log says
pub reads_so : (names : Naming) (es : Past) (e : DecodedRecord) (m : Message) → message_of_record names es e ≡ Some (read es e m) → ReadsAsSent names es e m
reads_so names es e (message.Boot c) h = h
reads_so names es e (message.Call c target interface method caps) h = h
reads_so names es e (message.Return c results caps) h = h
reads_so names es e (message.Late c) h = ap (option_map (heard_late (is_late es e))) h ∙ ap (λ m. Some m) (late_heard (is_late es e) c)
reads_so names es e (message.Failed c) h = h
reads_so names es e (message.Taken c by) h = h
reads_so names es e (message.Elsewhere c) h = h
reads_so names es e (message.Resolve promise to) h = h
reads_so names es e (message.Broken promise) h = h
reads_so names es e (message.Plain p) h = h

-- or a Return that was late where it was sent, and comes late, whose log says whose results it takes
pub reads_late : (names : Naming) (es : Past) (e : DecodedRecord) (c by : Name) → is_late es e ≡ true → message_of_record names es e ≡ Some (message.Taken c by) → ReadsAsSent names es e (message.Late c)
reads_late names es e c by late h = ap₂ (λ b o. option_map (heard_late b) o) late h

-- there is what its log says of a message that it reads, and what counts of that is what is read
abbrev IsHeardAs : Naming → Past → DecodedRecord → Message → Type 0
IsHeardAs names es e m = (said : Message) × (message_of_record names es e ≡ Some said) × (heard es e m said ≡ read es e m)

reads_heard : (names : Naming) (es : Past) (e : DecodedRecord) (m : Message) → ReadsAsSent names es e m → IsHeardAs names es e m
reads_heard names es e (message.Boot c) h = (message.Boot c, h, refl)
reads_heard names es e (message.Call c target interface method caps) h = (message.Call c target interface method caps, h, refl)
reads_heard names es e (message.Return c results caps) h = (read es e (message.Return c results caps), h, refl)
reads_heard names es e (message.Late c) h = mapped (heard_late (is_late es e)) (message_of_record names es e) (message.Late c) h
reads_heard names es e (message.Failed c) h = (message.Failed c, h, refl)
reads_heard names es e (message.Taken c by) h = (message.Taken c by, h, refl)
reads_heard names es e (message.Elsewhere c) h = (message.Elsewhere c, h, refl)
reads_heard names es e (message.Resolve promise to) h = (read es e (message.Resolve promise to), h, refl)
reads_heard names es e (message.Broken promise) h = (read es e (message.Broken promise), h, refl)
reads_heard names es e (message.Plain p) h = (message.Plain p, h, refl)

-- what its log says where it says a Receive
pub says_heard : {names : Naming} {es : Past} {e : DecodedRecord} {k : ℕ} {references : List ℕ} {s : Step} (says : SaysReceive names es e k references s) →
    (said : Message) × (message_of_record names es e ≡ Some said) × (heard es e says.message said ≡ read es e says.message)
says_heard {names = names} {es = es} {e = e} says = reads_heard names es e says.message says.reads

-- ---- a Return alone takes results

abbrev is_taking : Message → Bool
is_taking (message.Taken c by) = true
is_taking m = false

-- a record is a Return that takes results
abbrev pub takes_from : DecodedRecord → Bool
takes_from (Wire sent k c rs (Return head (TakeFrom n))) = true
takes_from e = false

mapped_takes : {A : Type 0} (f : A → Message) → ((x : A) → is_taking (f x) ≡ false) → (o : Option A) (m : Message) → option_map f o ≡ Some m → is_taking m ≡ false
mapped_takes f none o m h = let x = mapped f o m h in ap is_taking (sym x.2) ∙ none x.0

then_takes : {A : Type 0} (f : A → Option Message) → ((x : A) (m : Message) → f x ≡ Some m → is_taking m ≡ false) → (o : Option A) (m : Message) → option_and_then f o ≡ Some m → is_taking m ≡ false
then_takes f none o m h = let x = first f o m h in none x.0 m x.2

call_takes : (interface method : ℕ) (caps : Option (List Cap)) (name : Option Name) (target : Option Cap) (m : Message) → say_call interface method caps name target ≡ Some m → is_taking m ≡ false
call_takes interface method (Some caps) (Some name) (Some target) m h = ap is_taking (sym (only (message.Call name target interface method caps) m h))
call_takes interface method None name target m h = absurd (let no : ⊥ = cc in no)
call_takes interface method (Some caps) None target m h = absurd (let no : ⊥ = cc in no)
call_takes interface method (Some caps) (Some name) None m h = absurd (let no : ⊥ = cc in no)

return_takes : (late : Bool) (fields : List (List ℕ × ℕ)) (caps : Option (List Cap)) (name : Name) (m : Message) → say_return late fields name caps ≡ Some m → is_taking m ≡ false
return_takes true fields caps name m h = ap is_taking (sym (only (message.Late name) m h))
return_takes false fields caps name m h = mapped_takes (λ caps. message.Return name (caps_at_paths caps fields) caps) (λ caps. refl) caps m h

resolve_takes : (promise : Cap) (caps : List Cap) → is_taking (say_resolve promise caps) ≡ false
resolve_takes promise [] = refl
resolve_takes promise (cap.Nothing ∷ rest) = refl
resolve_takes promise (c ∷ rest) = refl

takes_nothing : (names : Naming) (es : Past) (e : DecodedRecord) (m : Message) → takes_from e ≡ false → message_of_record names es e ≡ Some m → is_taking m ≡ false
takes_nothing names es (Wire sent k c rs (Bootstrap q)) m none h = mapped_takes message.Boot (λ c. refl) (names.call c) m h
takes_nothing names es (Wire sent k c rs (Call head target params)) m none h =
    let e = Wire sent k c rs (Call head target params) in
    call_takes head.interface head.method (caps_named names es e) (names.call c) (option_and_then names.cap (view_of_target es e)) m h
takes_nothing names es (Wire sent k c rs (Return head (Results payload))) m none h =
    let e = Wire sent k c rs (Return head (Results payload)) in
    then_takes (λ name. say_return (is_late es e) payload.fields name (caps_named names es e)) (return_takes (is_late es e) payload.fields (caps_named names es e)) (call_answered names es k sent head.answer) m h
takes_nothing names es (Wire sent k c rs (Return head Exception)) m none h = mapped_takes message.Failed (λ c. refl) (call_answered names es k sent head.answer) m h
takes_nothing names es (Wire sent k c rs (Return head Canceled)) m none h = mapped_takes message.Failed (λ c. refl) (call_answered names es k sent head.answer) m h
takes_nothing names es (Wire sent k c rs (Return head Elsewhere)) m none h = mapped_takes message.Elsewhere (λ c. refl) (call_answered names es k sent head.answer) m h
takes_nothing names es (Wire sent k c rs (Return head (TakeFrom n))) m none h = absurd (let no : ⊥ = cc in no)
takes_nothing names es (Wire sent k c rs (Resolve n resolution)) m none h =
    let caps = caps_named names es (Wire sent k c rs (Resolve n resolution)) in
    then_takes (λ promise. option_map (say_resolve promise) caps) (λ promise. mapped_takes (say_resolve promise) (resolve_takes promise) caps) (promise_named names es k sent n) m h
takes_nothing names es (Wire sent k c rs (Finish q release)) m none h = ap is_taking (sym (only (message.Plain plain.Finish) m h))
takes_nothing names es (Wire sent k c rs (Release n count)) m none h = ap is_taking (sym (only (message.Plain plain.Release) m h))
takes_nothing names es (Wire sent k c rs (Disembargo n loopback target)) m none h = ap is_taking (sym (only (message.Plain plain.Disembargo) m h))
takes_nothing names es (Wire sent k c rs Abort) m none h = ap is_taking (sym (only (message.Plain plain.Abort) m h))
takes_nothing names es e m none h = absurd (let no : ⊥ = cc in no)

late_same : (late : Bool) (said : Message) → is_taking said ≡ false → heard_late late said ≡ said
late_same true (message.Taken c by) none = absurd (let no : ⊥ = cc in no)
late_same true said none = refl
late_same false said none = refl

heard_same : (es : Past) (e : DecodedRecord) (m said : Message) → is_taking said ≡ false → heard es e m said ≡ said
heard_same es e (message.Late c) said none = late_same (is_late es e) said none
heard_same es e m said none = refl

-- of a record that takes no results, its log says what it reads
pub says_read : {names : Naming} {es : Past} {e : DecodedRecord} {k : ℕ} {references : List ℕ} {s : Step} (says : SaysReceive names es e k references s) → takes_from e ≡ false →
    message_of_record names es e ≡ Some (read es e says.message)
says_read {names = names} {es = es} {e = e} says none =
    let h = says_heard says in h.1 ∙ ap (λ m. Some m) (sym (heard_same es e says.message h.0 (takes_nothing names es e h.0 none h.1)) ∙ h.2)

-- ---- a Return that takes results

not_chosen : (b : Bool) (x y c : Message) → is_taking c ≡ true → is_taking x ≡ false → is_taking y ≡ false → c ≡ (if b then x else y) → ⊥
not_chosen true x y c is no_x no_y h = let no : true ≡ false = sym is ∙ ap is_taking h ∙ no_x in let n : ⊥ = cc in n
not_chosen false x y c is no_x no_y h = let no : true ≡ false = sym is ∙ ap is_taking h ∙ no_y in let n : ⊥ = cc in n

-- where a log says that it takes them, it does; or it was late where it was sent, and comes late
pub taken_heard : (es : Past) (e : DecodedRecord) (m : Message) (c by : Name) → heard es e m (message.Taken c by) ≡ read es e m → (m ≡ message.Taken c by) ⊎ ((is_late es e ≡ true) × (m ≡ message.Late c))
taken_heard es e (message.Taken d other) c by h = inl (sym h)
taken_heard es e (message.Late d) c by h = at (is_late es e) refl h
  where
    at : (late : Bool) → is_late es e ≡ late → heard_late late (message.Taken c by) ≡ message.Late d → (message.Late d ≡ message.Taken c by) ⊎ ((is_late es e ≡ true) × (message.Late d ≡ message.Late c))
    at true is h = inr (is, sym h)
    at false is h = absurd (let no : ⊥ = cc in no)
taken_heard es e (message.Return d results caps) c by h = absurd (not_chosen (is_late es e) (message.Late d) (message.Return d results caps) (message.Taken c by) refl refl refl h)
taken_heard es e (message.Resolve promise to) c by h =
    absurd (not_chosen (resolves_released es e) (message.Resolve cap.Nothing to) (message.Resolve promise to) (message.Taken c by) refl refl refl h)
taken_heard es e (message.Broken promise) c by h = absurd (not_chosen (resolves_released es e) (message.Broken cap.Nothing) (message.Broken promise) (message.Taken c by) refl refl refl h)
taken_heard es e (message.Boot d) c by h = absurd (let no : ⊥ = cc in no)
taken_heard es e (message.Call d target interface method caps) c by h = absurd (let no : ⊥ = cc in no)
taken_heard es e (message.Failed d) c by h = absurd (let no : ⊥ = cc in no)
taken_heard es e (message.Elsewhere d) c by h = absurd (let no : ⊥ = cc in no)
taken_heard es e (message.Plain p) c by h = absurd (let no : ⊥ = cc in no)

-- the calls of a Return that takes results, as its receiver names them: the one that it answers, and the one whose results
-- they are
pub record TakesResults (names : Naming) (es : Past) (k q n : ℕ) (said : Message) : Type 0 where
  pub call : ℕ
  pub by : ℕ
  pub name : Name
  pub by_name : Name
  pub answered : call_of (id k true q) es ≡ Some call
  pub named : names.call call ≡ Some name
  pub taken : call_of (id k false n) es ≡ Some by
  pub by_named : names.call by ≡ Some by_name
  pub is : said ≡ message.Taken name by_name

pub taken_parts : (names : Naming) (es : Past) (k c : ℕ) (rs : List ℕ) (head : ReturnHead) (n : ℕ) (said : Message) →
    message_of_record names es (Wire false k c rs (Return head (TakeFrom n))) ≡ Some said → TakesResults names es k head.answer n said
taken_parts names es k c rs head n said h =
    let from = option_and_then names.call (call_of (id k false n) es) in
    let name = first (λ name. say_taken false name from) (call_answered names es k false head.answer) said h in
    let call = first names.call (call_of (id k true head.answer) es) name.0 name.1 in
    let other = mapped (λ by. message.Taken name.0 by) from said name.2 in
    let by = first names.call (call_of (id k false n) es) other.0 other.1 in
    record {
      call = call.0;
      by = by.0;
      name = name.0;
      by_name = other.0;
      answered = call.1;
      named = call.2;
      taken = by.1;
      by_named = by.2;
      is = sym other.2;
    }
