-- A descriptor or a target of a message stands for one cap at both ends.
use Rattle.std.proofs.Common.{◌≡◌, refl, sym, ◌∙◌, ap, subst, append_assoc, ℕ, zero, suc, ◌+◌, ◌<◌, List, [], ◌∷◌, ◌++◌, length, Bool, true, false, Option, Some, None, if◌then◌else◌, option_and_then, option_map, slice_get, arith, inl, inr}
use Rattle.std.specs.Prelude.{map, option_to_list}
use Rattle.std.specs.List.{position_from, list_all, filter_map, cons_option}
use Rattle.std.specs.Option.{option_or}
use Rattle.std.proofs.lemmas.Bool.{cases_Bool, and_parts, false≢true, lt-ltb, ltb-true}
use Rattle.std.proofs.lemmas.List.Folds.{list_all-append}
use Rattle.agree.specs.Points.{GoesOn}
use Rattle.agree.specs.Streams.{IsPassed}
use Rattle.agree.specs.Agreeing.{AreLinked}
use Rattle.agree.specs.Standing.{Agree}
use Rattle.agree.proofs.Points.{through, before_it, no_longer, each_so, each_before}
use Rattle.agree.proofs.Openings.{passing_is}
use Rattle.agree.proofs.Standing.{linked_before}
use Rattle.agree.proofs.Good.{good_agree}
use Rattle.vat_rules.specs.declared.rule.Rule.TheVariants as rule
use Rattle.vat_rules.specs.Judged.{IsGood}
use Rattle.decoded_records.specs.Past.{Past, Each, id, names, last_answer, record_index}
use Rattle.decoded_records.specs.Questions.{question_finished, question_taken, is_unfinished, is_late, call_of}
use Rattle.decoded_records.specs.Lives.{begins, number_introduced, introduces, held, descriptors_of, descriptors, is_in_life, GivesBackHeld}
use Rattle.decoded_records.specs.Views.{view_of_reference, view_given, number_view, field_view, view_of_number, view_of_target, target_view, target_of}
use Rattle.decoded_records.specs.Uses.{question_targeted, question_described, UsesQuestions}
use Rattle.decoded_records.specs.Bindings.{Refers}
use Rattle.decoded_records.specs.declared.table_key.TableKey.{TableKey}
use Rattle.decoded_records.proofs.Naming.{names_is}
use Rattle.vat_view.proofs.Counting.{no_more_went}
use Rattle.vat_view.proofs.Describing.{sender_keeps}
use Rattle.vat_view.proofs.Lasting.{birth_kept}
use Rattle.vat_view.proofs.Viewed.{begins_some, begins_parts, introduced_there}
use Rattle.call_trace.specs.Types.{Descriptor, NoCap, SenderHosted, SenderPromise, ReceiverHosted, ReceiverAnswer, Target, Imported, Promised, Results, Exception, Canceled, Elsewhere, TakeFrom, Capped, Unkept, Bootstrap, Call, Return, Finish, Resolve, Release, Disembargo, Abort, RpcMessage, DecodedRecord, Wire, View, FieldOf, Import, Name, Cap, Message, Step}
use Rattle.call_trace.specs.Naming.{Naming, naming, cap_at, names_call, call_named, cap_named, message_of_step}
use Rattle.call_trace.specs.Said.{all_there, message_of_record, say_call, say_return, say_taken, say_resolve, descriptor_named, caps_named, promise_named, call_answered, caps_at_paths}
use Rattle.call_trace.specs.Part.{PairsOff}
use Rattle.call_trace.specs.Carried.{number_named}
use Rattle.call_trace.specs.Running.{AreMet}
use Rattle.call_trace.proofs.Naming.{then_is, mapped_is, cap_step, names_are_caps}
use Rattle.call_trace.proofs.Carried.{pairs_as_long, message_there, together_at, resolve_is, one_name}
use Rattle.call_trace.proofs.Asking.{all_refer, message_from}
use Rattle.run_model.specs.Legal.{is_present, present, caps_brought}
use Rattle.run_model.specs.declared.cap.Cap.TheVariants as cap
use Rattle.run_model.specs.declared.message.Message.TheVariants as message
use Rattle.run_model.specs.declared.step.Step.TheVariants as step

-- ---- lists

together_more : (c d : Cap) (o p : Option (List Cap)) (cs : List Cap) → option_map (λ ys. c ∷ ys) o ≡ Some cs → c ≡ d → ((ys : List Cap) → o ≡ Some ys → p ≡ Some ys) → option_map (λ ys. d ∷ ys) p ≡ Some cs
together_more c d o p cs h same so =
    let ys = mapped_is (λ ys. c ∷ ys) o cs h in
    ap (λ o. option_map (λ ys. d ∷ ys) o) (so ys.0 ys.1) ∙ ap (λ x. Some (x ∷ ys.0)) (sym same) ∙ ap (λ l. Some l) ys.2

-- where each that the one gives is given by the other, so are all together
pub together_so : {A : Type 0} (f g : A → Option Cap) (xs : List A) → ((j : ℕ) (x : A) (c : Cap) → slice_get xs j ≡ Some x → f x ≡ Some c → g x ≡ Some c) → (cs : List Cap) →
    all_there (map f xs) ≡ Some cs → all_there (map g xs) ≡ Some cs
together_so f g [] so cs h = h
together_so f g (x ∷ xs) so cs h = at (f x) refl h (together_so f g xs (λ j y c there. so (suc j) y c there))
  where
    at : (o : Option Cap) → f x ≡ o → all_there (o ∷ map f xs) ≡ Some cs → ((ys : List Cap) → all_there (map f xs) ≡ Some ys → all_there (map g xs) ≡ Some ys) → all_there (g x ∷ map g xs) ≡ Some cs
    at None e h rest = absurd (let no : ⊥ = cc in no)
    at (Some c) e h rest = ap (λ o. all_there (o ∷ map g xs)) (so 0 x c refl e) ∙ together_more c c (all_there (map f xs)) (all_there (map g xs)) cs h refl rest

found_at : {A : Type 0} (test : A → Bool) (xs : List A) (p q : ℕ) → position_from test p xs ≡ Some q → (j : ℕ) × (x : A) × (q ≡ p + j) × (slice_get xs j ≡ Some x) × (test x ≡ true)
found_at test [] p q h = absurd (let no : ⊥ = cc in no)
found_at test (x ∷ xs) p q h = elim (cases_Bool (test x)) [
  | inl here ↦
      let found : ◌≡◌ {A = Option ℕ} (Some p) (Some q) = sym (ap (λ b. if b then Some p else position_from test (p + 1) xs) here) ∙ h in
      let same : p ≡ q = cc in (0, x, omega (arith, same), refl, here)
  | inr apart ↦
      let rest = found_at test xs (p + 1) q (sym (ap (λ b. if b then Some p else position_from test (p + 1) xs) apart) ∙ h) in
      let at = rest.2 in (suc rest.0, rest.1, omega (arith, at), rest.3, rest.4)
]

-- ---- what a message that is sent brings

-- a message brings these caps: the same stand at each place, and the same are there
abbrev pub Brings : List Cap → Message → Type 0
Brings caps m = ((place : ℕ) → cap_at place (caps_brought m) ≡ cap_at place caps) × (present (caps_brought m) ≡ present caps)

abbrev CapsAre : Option (List Cap) → Message → Type 0
CapsAre named m = (caps : List Cap) × (named ≡ Some caps) × Brings caps m

brings_just : (m : Message) (caps : List Cap) → caps_brought m ≡ caps → Brings caps m
brings_just m caps same = (λ place. ap (cap_at place) same, ap present same)

call_is : (interface method : ℕ) (caps : Option (List Cap)) (name : Option Name) (target : Option Cap) (m : Message) → say_call interface method caps name target ≡ Some m → CapsAre caps m
call_is interface method (Some caps) (Some name) (Some target) m h =
    let same : message.Call name target interface method caps ≡ m = cc in (caps, refl, brings_just m caps (ap caps_brought (sym same)))
call_is interface method None name target m h = absurd (let no : ⊥ = cc in no)
call_is interface method (Some caps) None target m h = absurd (let no : ⊥ = cc in no)
call_is interface method (Some caps) (Some name) None m h = absurd (let no : ⊥ = cc in no)

return_is : (late : Bool) (fields : List (List ℕ × ℕ)) (name : Name) (caps : Option (List Cap)) (m : Message) → late ≡ false → say_return late fields name caps ≡ Some m → CapsAre caps m
return_is true fields name caps m late h = absurd (let no : ⊥ = cc in no)
return_is false fields name None m late h = absurd (let no : ⊥ = cc in no)
return_is false fields name (Some caps) m late h =
    let same : message.Return name (caps_at_paths caps fields) caps ≡ m = cc in (caps, refl, brings_just m caps (ap caps_brought (sym same)))

none_at : (place : ℕ) → cap_at place [] ≡ cap_at place (cap.Nothing ∷ [])
none_at zero = refl
none_at (suc place) = refl

resolve_brings : (promise x : Cap) (b : Bool) → is_present x ≡ b → Brings (x ∷ []) (say_resolve promise (x ∷ []))
resolve_brings promise cap.Nothing b is = (none_at, refl)
resolve_brings promise x true is = brings_just (say_resolve promise (x ∷ [])) (x ∷ []) (ap caps_brought (resolve_is promise x [] is))
resolve_brings promise x false is = absurd (let no : ⊥ = cc in no)

resolved_is : (promise : Cap) (o : Option Cap) (m : Message) → option_map (say_resolve promise) (all_there (o ∷ [])) ≡ Some m → CapsAre (all_there (o ∷ [])) m
resolved_is promise None m h = absurd (let no : ⊥ = cc in no)
resolved_is promise (Some x) m h =
    let same : say_resolve promise (x ∷ []) ≡ m = cc in (x ∷ [], refl, subst (Brings (x ∷ [])) same (resolve_brings promise x (is_present x) refl))

nothing_is : (m n : Message) → caps_brought m ≡ [] → ◌≡◌ {A = Option Message} (Some m) (Some n) → CapsAre (Some []) n
nothing_is m n none h = let same : m ≡ n = cc in ([], refl, brings_just n [] (ap caps_brought (sym same) ∙ none))

taken_brings : (late : Bool) (name : Name) (by : Option Name) (m : Message) → say_taken late name by ≡ Some m → CapsAre (Some []) m
taken_brings true name by m h = nothing_is (message.Late name) m refl h
taken_brings false name by m h = let other = mapped_is (λ by. message.Taken name by) by m h in nothing_is (message.Taken name other.0) m refl (ap (λ m. Some m) other.2)

-- the caps of a message that is sent have names, and the message brings them, where it isn't a late Return
pub says_brings : (names : Naming) (es : Past) (k c : ℕ) (rs : List ℕ) (m : RpcMessage) (M : Message) → is_late es (Wire true k c rs m) ≡ false → message_of_record names es (Wire true k c rs m) ≡ Some M →
    (caps : List Cap) × (caps_named names es (Wire true k c rs m) ≡ Some caps) × Brings caps M
says_brings names es k c rs (Bootstrap q) M late h = let name = mapped_is message.Boot (names.call c) M h in nothing_is (message.Boot name.0) M refl (ap (λ m. Some m) name.2)
says_brings names es k c rs (Call head target params) M late h =
    let e = Wire true k c rs (Call head target params) in
    call_is head.interface head.method (caps_named names es e) (names.call c) (option_and_then names.cap (view_of_target es e)) M h
says_brings names es k c rs (Return head (Results payload)) M late h =
    let e = Wire true k c rs (Return head (Results payload)) in
    let name = then_is (λ name. say_return (is_late es e) payload.fields name (caps_named names es e)) (call_answered names es k true head.answer) M h in
    return_is (is_late es e) payload.fields name.0 (caps_named names es e) M late name.2
says_brings names es k c rs (Return head Exception) M late h =
    let name = mapped_is message.Failed (call_answered names es k true head.answer) M h in nothing_is (message.Failed name.0) M refl (ap (λ m. Some m) name.2)
says_brings names es k c rs (Return head Canceled) M late h =
    let name = mapped_is message.Failed (call_answered names es k true head.answer) M h in nothing_is (message.Failed name.0) M refl (ap (λ m. Some m) name.2)
says_brings names es k c rs (Return head Elsewhere) M late h =
    let name = mapped_is message.Elsewhere (call_answered names es k true head.answer) M h in nothing_is (message.Elsewhere name.0) M refl (ap (λ m. Some m) name.2)
says_brings names es k c rs (Return head (TakeFrom n)) M late h =
    let gone = is_late es (Wire true k c rs (Return head (TakeFrom n))) in
    let by = option_and_then names.call (call_of (id k true n) es) in
    let name = then_is (λ name. say_taken gone name by) (call_answered names es k true head.answer) M h in
    taken_brings gone name.0 by M name.2
says_brings names es k c rs (Resolve n (Capped d)) M late h =
    let e = Wire true k c rs (Resolve n (Capped d)) in
    let promise = then_is (λ promise. option_map (say_resolve promise) (caps_named names es e)) (promise_named names es k true n) M h in
    resolved_is promise.0 (descriptor_named names es e d) M promise.2
says_brings names es k c rs (Resolve n Unkept) M late h =
    let e = Wire true k c rs (Resolve n Unkept) in
    let promise = then_is (λ promise. option_map (say_resolve promise) (caps_named names es e)) (promise_named names es k true n) M h in
    nothing_is (message.Broken promise.0) M refl promise.2
says_brings names es k c rs (Finish q release) M late h = nothing_is _ M refl h
says_brings names es k c rs (Release n count) M late h = nothing_is _ M refl h
says_brings names es k c rs (Disembargo n loopback target) M late h = nothing_is _ M refl h
says_brings names es k c rs Abort M late h = nothing_is _ M refl h

-- ---- numbers in life with a message counted

-- what its sender gave out stays in life
still : (i : TableKey) (before : Past) (s : Bool) (k c : ℕ) (rs : List ℕ) (m : RpcMessage) → i.ours ≡ s → is_in_life i before ≡ true → is_in_life i (Wire s k c rs m ∷ before) ≡ true
still i before s k c rs m same h =
    let none = sender_keeps i before s k c rs m same in
    let more = ltb-true 0 (held i before) h in lt-ltb 0 (held i (Wire s k c rs m ∷ before)) (omega (arith, none, more))

-- what it introduces comes to life
alive_now : (i : TableKey) (before : Past) (s : Bool) (k c : ℕ) (rs : List ℕ) (m : RpcMessage) → i.ours ≡ s → Each IsGood before → 0 < introduces i before (Wire s k c rs m) → is_in_life i (Wire s k c rs m ∷ before) ≡ true
alive_now i before s k c rs m same good more =
    let none = sender_keeps i before s k c rs m same in
    let below = no_more_went before (each_so IsGood GivesBackHeld (λ b e g. g rule.Count) before good) i in
    lt-ltb 0 (held i (Wire s k c rs m ∷ before)) (omega (arith, none, below, more))

number_alive : (named : ℕ → Option View) (i : TableKey) (past : Past) (view : View) → number_view named i past ≡ Some view → is_in_life i past ≡ true
number_alive named i past view h = at (is_in_life i past) h
  where
    at : (b : Bool) → option_and_then (view_given named i.ours) (if b then last_answer (begins i) past else None) ≡ Some view → b ≡ true
    at true h = refl
    at false h = absurd (let no : ⊥ = cc in no)

-- a number in life keeps its name, also where it is introduced once more
named_still : (u : ℕ) (i : TableKey) (es : Past) (steps : List Step) (s : Bool) (k c : ℕ) (rs : List ℕ) (m : RpcMessage) (st : Step) (x : Cap) → i.ours ≡ s → Refers es (Wire s k c rs m) → number_named u i es steps ≡ Some x →
    option_and_then (cap_named u (Wire s k c rs m ∷ es) (st ∷ steps)) (number_view (view_of_reference es) i (Wire s k c rs m ∷ es)) ≡ Some x
named_still u i es steps s k c rs m st x same refers h =
    let e = Wire s k c rs m in
    let view = then_is (cap_named u es steps) (view_of_number i es) x h in
    let alive = number_alive (view_of_reference es) i es view.0 view.1 in
    let kept = ap (λ o. option_and_then (view_given (view_of_reference es) i.ours) o) (birth_kept i e es alive (still i es s k c rs m same alive)) in
    ap (λ o. option_and_then (cap_named u (e ∷ es) (st ∷ steps)) o) (kept ∙ view.1) ∙ cap_step u es e steps st view.0 x refers view.2

-- so where it isn't counted
named_before : (u : ℕ) (i : TableKey) (es : Past) (steps : List Step) (e : DecodedRecord) (st : Step) (x : Cap) → Refers es e → number_named u i es steps ≡ Some x →
    option_and_then (cap_named u (e ∷ es) (st ∷ steps)) (view_of_number i es) ≡ Some x
named_before u i es steps e st x refers h =
    let view = then_is (cap_named u es steps) (view_of_number i es) x h in
    ap (λ o. option_and_then (cap_named u (e ∷ es) (st ∷ steps)) o) view.1 ∙ cap_step u es e steps st view.0 x refers view.2

-- a number that comes to life stands for the import at the first place that introduces it
abbrev IsNewAt : ℕ → Past → DecodedRecord → ℕ → Type 0
IsNewAt k other e n = (place : ℕ) × (d : Descriptor) × (slice_get (descriptors e) place ≡ Some d) × (names (id k false n) (number_introduced e d) ≡ true)
    × (number_view (view_of_reference other) (id k false n) (e ∷ other) ≡ Some (Import (length other) place))

new_at : (k n : ℕ) (other : Past) (e : DecodedRecord) → is_in_life (id k false n) other ≡ false → is_in_life (id k false n) (e ∷ other) ≡ true → IsNewAt k other e n
new_at k n other e out now =
    let i = id k false n in
    let b = begins_some i other e out now in
    let parts = begins_parts i other e b.0 b.1 in
    let d = found_at (λ d. names i (number_introduced e d)) (descriptors e) 0 parts.0 parts.1 in
    let first : parts.0 ≡ d.0 = let q = d.2 in omega (arith, q) in
    let born = ap (λ c. if c then option_or (begins i other e) (last_answer (begins i) other) else None) now ∙ ap (λ o. option_or o (last_answer (begins i) other)) b.1 in (
      d.0,
      d.1,
      d.3,
      d.4,
      ap (λ o. option_and_then (view_given (view_of_reference other) false) o) born ∙ ap (λ b. Some (Import (record_index b.from) b.place)) parts.2 ∙ ap (λ q. Some (Import (length other) q)) first,
    )

-- ---- the two ends of a message

-- a question that one end asked, and that is in use at the other, has one call name at both
abbrev pub CallsAreOne : ℕ → ℕ → Past → List Step → ℕ → Past → List Step → Type 0
CallsAreOne k v from its_from w other steps = (q call : ℕ) (name : Name) → is_unfinished (id k false q) other ≡ true → call_of (id k true q) from ≡ Some call → call_named v from its_from call ≡ Some name →
    (there : ℕ) × (call_of (id k false q) other ≡ Some there) × (call_named w other steps there ≡ Some name)

-- a message that one end sends and the other receives: the two logs met before, the other's step receives the message
-- that the sender's record says, and a question that the sender asked has one call name at both ends
pub record IsTold (k v : ℕ) (from : Past) (its_from : List Step) (s : Step) (w : ℕ) (other : Past) (steps : List Step) (r : Step) (c d : ℕ) (rs references : List ℕ) (m : RpcMessage) (message : Message) : Type 0 where
  pub met : AreMet k v from its_from w other steps
  pub linked : AreLinked k from other
  pub good : IsGood from (Wire true k c rs m)
  pub good_there : IsGood other (Wire false k d references m)
  pub says : message_of_record (naming v (Wire true k c rs m ∷ from) (s ∷ its_from)) from (Wire true k c rs m) ≡ Some message
  pub receives : message_of_step r ≡ Some message
  pub late : is_late other (Wire false k d references m) ≡ false
  pub late_sent : is_late from (Wire true k c rs m) ≡ false
  pub one_call : CallsAreOne k v from its_from w other steps

one_cap : (o : Option Cap) (x y : Cap) → o ≡ Some x → o ≡ Some y → x ≡ y
one_cap o x y p q = let same : ◌≡◌ {A = Option Cap} (Some x) (Some y) = sym p ∙ q in cc

-- descriptors have no place in a message that names a new call at its sender
unnamed : (v k c : ℕ) (rs : List ℕ) (m : RpcMessage) (j : ℕ) (d : Descriptor) (s : Step) → slice_get (descriptors_of m) j ≡ Some d → (call : ℕ) → names_call v call (Wire true k c rs m) s ≡ None
unnamed v k c rs (Call head target params) j d s there call = refl
unnamed v k c rs (Return head (Results payload)) j d s there call = refl
unnamed v k c rs (Resolve n resolution) j d s there call = refl
unnamed v k c rs m j d s there call = absurd (let no : ⊥ = cc in no)

-- nor has a target
untargeted : (v k c : ℕ) (rs : List ℕ) (m : RpcMessage) (t : Target) (s : Step) → target_of m ≡ Some t → (call : ℕ) → names_call v call (Wire true k c rs m) s ≡ None
untargeted v k c rs (Call head target params) t s is call = refl
untargeted v k c rs (Disembargo n loopback target) t s is call = refl
untargeted v k c rs m t s is call = absurd (let no : ⊥ = cc in no)

-- and what has a target is no Return
target_in_time : (before : Past) (k d : ℕ) (references : List ℕ) (m : RpcMessage) (t : Target) → target_of m ≡ Some t → is_late before (Wire false k d references m) ≡ false
target_in_time before k d references (Call head target params) t is = refl
target_in_time before k d references (Disembargo n loopback target) t is = refl
target_in_time before k d references m t is = absurd (let no : ⊥ = cc in no)

-- ---- the questions that a received message uses

all_given : {A : Type 0} (f : A → Option TableKey) (test : TableKey → Bool) (xs : List A) (j : ℕ) (x : A) (i : TableKey) → list_all test (filter_map f xs) ≡ true → slice_get xs j ≡ Some x → f x ≡ Some i → test i ≡ true
all_given f test [] j x i h there is = absurd (let no : ⊥ = cc in no)
all_given f test (y ∷ ys) zero x i h there is =
    let same : y ≡ x = cc in (and_parts (test i) (list_all test (filter_map f ys)) (sym (ap (λ o. list_all test (cons_option o (filter_map f ys))) (ap f same ∙ is)) ∙ h)).0
all_given f test (y ∷ ys) (suc j) x i h there is = all_given f test ys j x i (at (f y) h) there is
  where
    at : (o : Option TableKey) → list_all test (cons_option o (filter_map f ys)) ≡ true → list_all test (filter_map f ys) ≡ true
    at None h = h
    at (Some z) h = (and_parts (test z) (list_all test (filter_map f ys)) h).1

both_of : (test : TableKey → Bool) (xs ys : List TableKey) → list_all test (xs ++ ys) ≡ true → (list_all test xs ≡ true) × (list_all test ys ≡ true)
both_of test xs ys h = and_parts (list_all test xs) (list_all test ys) (sym (list_all-append test xs ys) ∙ h)

described_used : (k d : ℕ) (references : List ℕ) (m : RpcMessage) (other : Past) → UsesQuestions other (Wire false k d references m) → (j q : ℕ) (path : List ℕ) → slice_get (descriptors_of m) j ≡ Some (ReceiverAnswer q path) →
    is_unfinished (id k false q) other ≡ true
described_used k d references m other uses j q path there =
    let e = Wire false k d references m in
    let test : TableKey → Bool = λ i. is_unfinished i other in
    let caps_at_paths = filter_map (question_described e) (descriptors_of m) in
    let last = option_to_list (question_finished e) in
    all_given (question_described e) test (descriptors_of m) j (ReceiverAnswer q path) (id k false q)
    (both_of test (option_to_list (question_targeted e)) caps_at_paths
    (both_of test (option_to_list (question_targeted e) ++ caps_at_paths) last (both_of test (option_to_list (question_targeted e) ++ caps_at_paths ++ last) (option_to_list (question_taken e)) uses.used).0).0).1 there refl

target_used : (k d : ℕ) (references : List ℕ) (m : RpcMessage) (other : Past) → UsesQuestions other (Wire false k d references m) → (q : ℕ) (path : List ℕ) → target_of m ≡ Some (Promised q path) →
    is_unfinished (id k false q) other ≡ true
target_used k d references m other uses q path is =
    let e = Wire false k d references m in
    let test : TableKey → Bool = λ i. is_unfinished i other in
    let target_view = option_to_list (question_targeted e) in
    let caps_at_paths = filter_map (question_described e) (descriptors_of m) in
    let last = option_to_list (question_finished e) in
    let first : list_all test target_view ≡ true =
    (both_of test target_view caps_at_paths (both_of test (target_view ++ caps_at_paths) last (both_of test (target_view ++ caps_at_paths ++ last) (option_to_list (question_taken e)) uses.used).0).0).0 in
    (and_parts (test (id k false q)) true (sym (ap (λ o. list_all test (option_to_list o)) (named k d references m q path is)) ∙ first)).0
  where
    named : (k d : ℕ) (references : List ℕ) (m : RpcMessage) (q : ℕ) (path : List ℕ) → target_of m ≡ Some (Promised q path) → question_targeted (Wire false k d references m) ≡ Some (id k false q)
    named k d references (Call head target params) q path is = let same : target ≡ Promised q path = cc in ap (λ t. question_targeted (Wire false k d references (Call head t params))) same
    named k d references (Disembargo n loopback target) q path is = let same : target ≡ Promised q path = cc in ap (λ t. question_targeted (Wire false k d references (Disembargo n loopback t))) same
    named k d references m q path is = absurd (let no : ⊥ = cc in no)

-- ---- the names at both ends

module _ (k v : ℕ) (from : Past) (its_from : List Step) (s : Step) (w : ℕ) (other : Past) (steps : List Step) (r : Step) (c d : ℕ) (rs references : List ℕ) (m : RpcMessage) (message : Message)
    (told : IsTold k v from its_from s w other steps r c d rs references m message) where
  abbrev sent : DecodedRecord
  sent = Wire true k c rs m

  abbrev received : DecodedRecord
  received = Wire false k d references m

  abbrev its_names : Naming
  its_names = naming v (sent ∷ from) (s ∷ its_from)

  abbrev names_there : Naming
  names_there = naming w (received ∷ other) (r ∷ steps)

  agree : Agree k from other
  agree = good_agree k from other told.met.one_good told.met.other_good told.linked

  refers : Refers from sent
  refers = told.good rule.Ref

  refers_there : Refers other received
  refers_there = told.good_there rule.Ref

  -- a number of the receiver's
  back_named : (n : ℕ) (x : Cap) → option_and_then its_names.cap (view_of_number (id k false n) from) ≡ Some x → option_and_then names_there.cap (view_of_number (id k true n) other) ≡ Some x
  back_named n x h =
      let view = then_is its_names.cap (view_of_number (id k false n) from) x h in
      let alive = number_alive (view_of_reference from) (id k false n) from view.0 view.1 in
      let cut = told.linked.cut in
      let one = one_name k n w v other from steps its_from told.met.other_paired (all_refer other told.met.other_good) (record { to_one = cut.to_other; to_other = cut.to_one }) agree.back told.met.back alive in
      let same = one_cap _ one.0 x (named_before v (id k false n) from its_from sent s one.0 refers one.2) h in
      named_before w (id k true n) other steps received r x refers_there (one.1 ∙ ap (λ x. Some x) same)

  -- a field of a question of the sender's
  field_named : (q : ℕ) (path : List ℕ) (x : Cap) → is_unfinished (id k false q) other ≡ true → ((call : ℕ) → names_call v call sent s ≡ None) → option_and_then its_names.cap (field_view (id k true q) path from) ≡ Some x →
      option_and_then names_there.cap (field_view (id k false q) path other) ≡ Some x
  field_named q path x used none h =
      let view = then_is its_names.cap (field_view (id k true q) path from) x h in
      let call = mapped_is (λ call. FieldOf call path) (call_of (id k true q) from) view.0 view.1 in
      let field : option_map (λ name. cap.Field name path) (call_named v (sent ∷ from) (s ∷ its_from) call.0) ≡ Some x = ap its_names.cap call.2 ∙ view.2 in
      let name = mapped_is (λ name. cap.Field name path) (call_named v (sent ∷ from) (s ∷ its_from) call.0) x field in
      let before : call_named v from its_from call.0 ≡ Some name.0 = sym (ap (λ o. option_or o (call_named v from its_from call.0)) (none call.0)) ∙ name.1 in
      let there = told.one_call q call.0 name.0 used call.1 before in
      let named : cap_named w other steps (FieldOf there.0 path) ≡ Some x = ap (λ o. option_map (λ name. cap.Field name path) o) there.2 ∙ ap (λ x. Some x) name.2 in
      ap (λ o. option_and_then names_there.cap (option_map (λ call. FieldOf call path) o)) there.1 ∙ cap_step w other received steps r (FieldOf there.0 path) x refers_there named

  -- a number that the sender gives out, and that was in life
  old_named : (n : ℕ) (x : Cap) → is_in_life (id k false n) other ≡ true → option_and_then its_names.cap (number_view (view_of_reference from) (id k true n) (sent ∷ from)) ≡ Some x →
      option_and_then names_there.cap (number_view (view_of_reference other) (id k false n) (received ∷ other)) ≡ Some x
  old_named n x alive h =
      let one = one_name k n v w from other its_from steps told.met.one_paired (all_refer from told.met.one_good) told.linked.cut agree.there told.met.there alive in
      let same = one_cap _ one.0 x (named_still v (id k true n) from its_from true k c rs m s one.0 refl refers one.1) h in
      named_still w (id k false n) other steps false k d references m r x refl refers_there (one.2 ∙ ap (λ x. Some x) same)

  -- who introduces a number stands for what it does with the record counted
  introduces_it : (n : ℕ) (e : Descriptor) → names (id k false n) (number_introduced received e) ≡ true → descriptor_named its_names from sent e ≡ option_and_then its_names.cap (number_view (view_of_reference from) (id k true n) (sent ∷ from))
  introduces_it n (SenderHosted j) h =
      let same : Some (id k false j) ≡ Some (id k false n) = names_is (id k false n) (number_introduced received (SenderHosted j)) h in
      let is : id k false j ≡ id k false n = cc in ap (λ i. option_and_then its_names.cap (number_view (view_of_reference from) (id k true i.number) (sent ∷ from))) is
  introduces_it n (SenderPromise j) h =
      let same : Some (id k false j) ≡ Some (id k false n) = names_is (id k false n) (number_introduced received (SenderPromise j)) h in
      let is : id k false j ≡ id k false n = cc in ap (λ i. option_and_then its_names.cap (number_view (view_of_reference from) (id k true i.number) (sent ∷ from))) is
  introduces_it n NoCap h = absurd (false≢true h)
  introduces_it n (ReceiverHosted j) h = absurd (false≢true h)
  introduces_it n (ReceiverAnswer q path) h = absurd (false≢true h)

  -- the name of an import of this message
  import_named : (place : ℕ) (x : Cap) → cap_at place (caps_brought message) ≡ Some x → names_there.cap (Import (length other) place) ≡ Some x
  import_named place x h =
      let as_long = sym (pairs_as_long w other steps told.met.other_paired) in
      ap (λ o. option_and_then (λ m. cap_at place (caps_brought m)) o) (message_there (length other) r steps message as_long told.receives) ∙ h

  -- and one that comes to life
  new_named : (n : ℕ) (x : Cap) (caps : List Cap) → caps_named its_names from sent ≡ Some caps → Brings caps message → is_in_life (id k false n) other ≡ false → is_in_life (id k false n) (received ∷ other) ≡ true →
      option_and_then its_names.cap (number_view (view_of_reference from) (id k true n) (sent ∷ from)) ≡ Some x → option_and_then names_there.cap (number_view (view_of_reference other) (id k false n) (received ∷ other)) ≡ Some x
  new_named n x caps named brings out now h =
      let new = new_at k n other received out now in
      let stands = introduces_it n new.1 new.3 ∙ h in
      let at = together_at (descriptor_named its_names from sent) (descriptors_of m) new.0 new.1 caps named new.2 in
      let same = one_cap _ at.0 x at.1 stands in
      let view = then_is its_names.cap (number_view (view_of_reference from) (id k true n) (sent ∷ from)) x h in
      let is = names_are_caps v (sent ∷ from) (s ∷ its_from) view.0 x view.2 in
      let there : cap_at new.0 caps ≡ Some x =
      ap (λ o. option_and_then (λ c. if is_present c then Some c else None) o) (at.2 ∙ ap (λ x. Some x) same) ∙ ap (λ b. if b then Some x else None) is in
      ap (λ o. option_and_then names_there.cap o) new.4 ∙ import_named new.0 x (brings.0 new.0 ∙ there)

  given_named : (j n : ℕ) (e : Descriptor) (x : Cap) → number_introduced received e ≡ Some (id k false n) → slice_get (descriptors_of m) j ≡ Some e → option_and_then its_names.cap (number_view (view_of_reference from) (id k true n) (sent ∷ from)) ≡ Some x →
      option_and_then names_there.cap (number_view (view_of_reference other) (id k false n) (received ∷ other)) ≡ Some x
  given_named j n e x is there h = elim (cases_Bool (is_in_life (id k false n) other)) [
    | inl alive ↦ old_named n x alive h
    | inr out ↦
        let i = id k false n in
        let caps = says_brings its_names from k c rs m message told.late_sent told.says in
        let now = alive_now i other false k d references m refl told.met.other_good (introduced_there i other received j e told.late there is) in
        new_named n x caps.0 caps.1 caps.2 out now h
  ]

  -- a descriptor of the message stands for one cap at both ends
  descriptor_is_one : (j : ℕ) (e : Descriptor) (x : Cap) → slice_get (descriptors_of m) j ≡ Some e → descriptor_named its_names from sent e ≡ Some x → descriptor_named names_there other received e ≡ Some x
  descriptor_is_one j NoCap x there h = h
  descriptor_is_one j (SenderHosted n) x there h = given_named j n (SenderHosted n) x refl there h
  descriptor_is_one j (SenderPromise n) x there h = given_named j n (SenderPromise n) x refl there h
  descriptor_is_one j (ReceiverHosted n) x there h = back_named n x h
  descriptor_is_one j (ReceiverAnswer q path) x there h = field_named q path x (described_used k d references m other (told.good_there rule.QUse) j q path there) (unnamed v k c rs m j (ReceiverAnswer q path) s there) h

  pub told_caps : (caps : List Cap) → caps_named its_names from sent ≡ Some caps → caps_named names_there other received ≡ Some caps
  told_caps caps h = together_so (descriptor_named its_names from sent) (descriptor_named names_there other received) (descriptors_of m) descriptor_is_one caps h

  target_is_one : (t : Target) (x : Cap) → target_of m ≡ Some t → option_and_then its_names.cap (target_view from k true t) ≡ Some x → option_and_then names_there.cap (target_view other k false t) ≡ Some x
  target_is_one (Imported n) x is h = back_named n x h
  target_is_one (Promised q path) x is h = field_named q path x (target_used k d references m other (told.good_there rule.QUse) q path is) (untargeted v k c rs m (Promised q path) s is) h

  pub told_target : (x : Cap) → option_and_then its_names.cap (view_of_target from sent) ≡ Some x → option_and_then names_there.cap (view_of_target other received) ≡ Some x
  told_target x h = at (target_of m) refl h
    where
      at : (o : Option Target) → target_of m ≡ o → option_and_then its_names.cap (option_and_then (target_view from k true) o) ≡ Some x → option_and_then names_there.cap (option_and_then (target_view other k false) o) ≡ Some x
      at (Some t) is h = target_is_one t x is h
      at None is h = absurd (let no : ⊥ = cc in no)

-- ---- of two logs that met, an earlier point of one

pub met_before : (k v : ℕ) (one : Past) (its_steps : List Step) (w : ℕ) (other : Past) (steps : List Step) (from : Past) (its_from added : List Step) → AreMet k v one its_steps w other steps → GoesOn one from →
    its_steps ≡ added ++ its_from → PairsOff v from its_from → AreMet k v from its_from w other steps
met_before k v one its_steps w other steps from its_from added met on whole paired = record {
  one_paired = paired;
  other_paired = met.other_paired;
  one_good = each_before IsGood one from on met.one_good;
  other_good = met.other_good;
  there = λ m before to sent received p.
      let q : IsPassed k m one other before to sent received =
      record { sent_there = through one from (sent ∷ before) on p.sent_there; received_there = p.received_there; sends = p.sends; receives = p.receives; same_number = p.same_number } in
      met.there m before to sent received q ∙ message_from its_steps its_from (added, whole) (length before) (within before sent p.sent_there);
  back = λ m before to sent received p.
      let q : IsPassed k m other one before to sent received =
      record { sent_there = p.sent_there; received_there = through one from (received ∷ to) on p.received_there; sends = p.sends; receives = p.receives; same_number = p.same_number } in
      sym (message_from its_steps its_from (added, whole) (length to) (within to received p.received_there)) ∙ met.back m before to sent received q;
}
  where
    within : (before : Past) (e : DecodedRecord) → GoesOn from (e ∷ before) → length before < length its_from
    within before e p = omega (arith, no_longer from (e ∷ before) p, pairs_as_long v from its_from paired)

-- ---- a message that one log sent and that the other receives next

-- the next record of one log receives a message that the other sent; the step of its SEND stands among the other's, and the
-- message is what the SEND says
pub record IsHeard (k v : ℕ) (one : Past) (its_steps : List Step) (w : ℕ) (other : Past) (steps : List Step) (e : DecodedRecord) (m : RpcMessage) (from : Past) (its_from : List Step) (sent : DecodedRecord) (s : Step) (message : Message) : Type 0 where
  pub met : AreMet k v one its_steps w other steps
  pub linked : AreLinked k one (e ∷ other)
  pub good : IsGood other e
  pub passed : IsPassed k m one (e ∷ other) from other sent e
  pub added : List Step
  pub whole : its_steps ≡ added ++ s ∷ its_from
  pub paired : PairsOff v (sent ∷ from) (s ∷ its_from)
  pub says : message_of_record (naming v (sent ∷ from) (s ∷ its_from)) from sent ≡ Some message
  pub one_call : CallsAreOne k v from its_from w other steps

not_late : (b c : Bool) → (b ≡ true → c ≡ true) → c ≡ false → b ≡ false
not_late false c h e = refl
not_late true c h e = sym (h refl) ∙ e

module _ (k v : ℕ) (one : Past) (its_steps : List Step) (w : ℕ) (other : Past) (steps : List Step) (d : ℕ) (references : List ℕ) (m : RpcMessage) (from : Past) (its_from : List Step) (s : Step) (message : Message) where
  abbrev heard : DecodedRecord
  heard = Wire false k d references m

  -- it wasn't late where it was sent, if it isn't where it comes
  pub sent_in_time : (sent : DecodedRecord) → IsHeard k v one its_steps w other steps heard m from its_from sent s message → is_late other heard ≡ false → is_late from sent ≡ false
  sent_in_time sent h late =
      let agree = good_agree k one (heard ∷ other) h.met.one_good (h.good, h.met.other_good) h.linked in
      not_late (is_late from sent) (is_late other heard) (agree.there.late m from other sent heard h.passed) late

  as_told : (c : ℕ) (rs : List ℕ) (r : Step) → IsHeard k v one its_steps w other steps heard m from its_from (Wire true k c rs m) s message → message_of_step r ≡ Some message → is_late other heard ≡ false →
      IsTold k v from its_from s w other steps r c d rs references m message
  as_told c rs r h receives late =
      let sent = Wire true k c rs m in
      let p = h.passed in
      let before = before_it one sent from p.sent_there in record {
        met = met_before k v one its_steps w other steps from its_from (h.added ++ s ∷ []) h.met before (h.whole ∙ sym (append_assoc h.added (s ∷ []) its_from)) h.paired.1;
        linked = linked_before k one (heard ∷ other) from other before (heard ∷ [], refl) (h.linked.there m from other sent heard p) h.linked;
        good = (each_before IsGood one (sent ∷ from) p.sent_there h.met.one_good).0;
        good_there = h.good;
        says = h.says;
        receives = receives;
        late = late;
        late_sent = sent_in_time sent h late;
        one_call = h.one_call;
      }

  abbrev OneCaps : Step → DecodedRecord → Type 0
  OneCaps r sent = IsHeard k v one its_steps w other steps heard m from its_from sent s message → (caps : List Cap) → caps_named (naming v (sent ∷ from) (s ∷ its_from)) from sent ≡ Some caps →
      caps_named (naming w (heard ∷ other) (r ∷ steps)) other heard ≡ Some caps

  abbrev OneTarget : Step → DecodedRecord → Type 0
  OneTarget r sent = IsHeard k v one its_steps w other steps heard m from its_from sent s message → (x : Cap) → option_and_then (cap_named v (sent ∷ from) (s ∷ its_from)) (view_of_target from sent) ≡ Some x →
      option_and_then (cap_named w (heard ∷ other) (r ∷ steps)) (view_of_target other heard) ≡ Some x

  -- its descriptors stand for the same caps at both ends, where it isn't a Return that is late at the receiver
  pub caps_are_one : (sent : DecodedRecord) (bound : List Cap) → is_late other heard ≡ false → OneCaps (step.Receive w k message bound) sent
  caps_are_one sent bound late h =
      let r = step.Receive w k message bound in
      let wire = passing_is k true m sent h.passed.sends in
      subst (OneCaps r) (sym wire.2) (λ h. told_caps k v from its_from s w other steps r wire.0 d wire.1 references m message (as_told wire.0 wire.1 r h refl late)) h

  -- so does its target
  pub targets_are_one : (sent : DecodedRecord) (bound : List Cap) → OneTarget (step.Receive w k message bound) sent
  targets_are_one sent bound h x named =
      let r = step.Receive w k message bound in
      let wire = passing_is k true m sent h.passed.sends in
      let view = then_is (cap_named v (sent ∷ from) (s ∷ its_from)) (view_of_target from sent) x named in
      let target = then_is (target_view from k true) (target_of m) view.0 (ap (view_of_target from) (sym wire.2) ∙ view.1) in
      subst (OneTarget r) (sym wire.2)
      (λ h. told_target k v from its_from s w other steps r wire.0 d wire.1 references m message (as_told wire.0 wire.1 r h refl (target_in_time other k d references m target.0 target.1))) h x named
