-- A number in life at its importer has one name at both ends: both are the cap at its place in the message that brought it.
use Rattle.std.proofs.Common.{◌≡◌, refl, sym, ◌∙◌, ap, ap₂, subst, ℕ, zero, suc, List, [], ◌∷◌, ◌++◌, length, Bool, true, false, Option, Some, None, if◌then◌else◌, option_and_then, option_map, slice_get}
use Rattle.std.specs.Prelude.{map}
use Rattle.std.specs.Option.{option_or}
use Rattle.std.proofs.lemmas.Bool.{eq-eqb}
use Rattle.agree.specs.Streams.{IsCut}
use Rattle.agree.specs.Standing.{AgreeOneWay}
use Rattle.agree.proofs.Openings.{passing_is}
use Rattle.decoded_records.specs.Past.{Past, Each, id, last_answer}
use Rattle.decoded_records.specs.Questions.{is_late}
use Rattle.decoded_records.specs.Lives.{Birth, birth, begins, descriptors, is_in_life}
use Rattle.decoded_records.specs.Views.{view_of_reference, view_of_number, view_of_descriptor, view_given, descriptor_view}
use Rattle.decoded_records.specs.Bindings.{Refers}
use Rattle.vat_view.specs.Laws.{EachAfter}
use Rattle.decoded_records.specs.declared.table_key.TableKey.{TableKey}
use Rattle.vat_view.proofs.Viewed.{birth_of, begins_parts}
use Rattle.call_trace.specs.Types.{Descriptor, NoCap, Results, Capped, RpcMessage, Call, Return, Resolve, DecodedRecord, Wire, View, Import, Name, Cap, Message, Step}
use Rattle.call_trace.specs.Naming.{Naming, naming, cap_at, cap_named, message_at, message_of_step}
use Rattle.call_trace.specs.Said.{all_there, message_of_record, say_call, say_return, say_resolve, descriptor_named, caps_named, promise_named, call_answered, caps_at_paths}
use Rattle.call_trace.specs.Part.{Says, PairsOff}
use Rattle.call_trace.specs.Carried.{IsCarried, number_named, HasOneName}
use Rattle.call_trace.proofs.Naming.{then_is, mapped_is, cap_keeps, names_are_caps, message_step}
use Rattle.run_model.specs.Legal.{is_present, caps_brought}
use Rattle.run_model.specs.declared.cap.Cap.TheVariants as cap
use Rattle.run_model.specs.declared.message.Message.TheVariants as message
use Rattle.run_model.specs.declared.step.Step.TheVariants as step

-- ---- the step that a record is paired with

pub record IsPaired (v : ℕ) (steps : List Step) (later : List DecodedRecord) (e : DecodedRecord) (before : Past) : Type 0 where
  pub added : List Step
  pub step : Step
  pub earlier : List Step
  pub whole : steps ≡ added ++ step ∷ earlier
  pub as_long : length later ≡ length added
  pub paired : PairsOff v (e ∷ before) (step ∷ earlier)

pub paired_at : (v : ℕ) (later : List DecodedRecord) (e : DecodedRecord) (before : Past) (steps : List Step) → PairsOff v (later ++ e ∷ before) steps → IsPaired v steps later e before
paired_at v [] e before [] part = absurd part
paired_at v [] e before (s ∷ steps) part = record { added = []; step = s; earlier = steps; whole = refl; as_long = refl; paired = part }
paired_at v (x ∷ later) e before [] part = absurd part
paired_at v (x ∷ later) e before (s ∷ steps) part =
    let r = paired_at v later e before steps part.1 in
    record { added = s ∷ r.added; step = r.step; earlier = r.earlier; whole = ap (λ l. s ∷ l) r.whole; as_long = ap suc r.as_long; paired = r.paired }

pub pairs_as_long : (v : ℕ) (es : Past) (steps : List Step) → PairsOff v es steps → length es ≡ length steps
pairs_as_long v [] [] part = refl
pairs_as_long v [] (s ∷ steps) part = absurd part
pairs_as_long v (e ∷ es) [] part = absurd part
pairs_as_long v (e ∷ es) (s ∷ steps) part = ap suc (pairs_as_long v es steps part.1)

pub message_there : (i : ℕ) (s : Step) (earlier : List Step) (m : Message) → length earlier ≡ i → message_of_step s ≡ Some m → message_at i (s ∷ earlier) ≡ Some m
message_there i s earlier m same is = ap (λ b. if b then message_of_step s else message_at i earlier) (eq-eqb (length earlier) i same) ∙ is

pub message_later : (i : ℕ) (added steps : List Step) (m : Message) → message_at i steps ≡ Some m → message_at i (added ++ steps) ≡ Some m
message_later i [] steps m h = h
message_later i (s ∷ added) steps m h = message_step i (added ++ steps) s m (message_later i added steps m h)

-- ---- what a message brings at a place is what its sender names there

pub together_at : {A : Type 0} (f : A → Option Cap) (xs : List A) (i : ℕ) (x : A) (cs : List Cap) → all_there (map f xs) ≡ Some cs → slice_get xs i ≡ Some x → (c : Cap) × (f x ≡ Some c) × (slice_get cs i ≡ Some c)
together_at f [] i x cs h there = absurd (let no : ⊥ = cc in no)
together_at f (y ∷ xs) i x cs h there = at (f y) refl h i there (λ i. together_at f xs i x)
  where
    at : (o : Option Cap) → f y ≡ o → all_there (o ∷ map f xs) ≡ Some cs → (i : ℕ) → slice_get (y ∷ xs) i ≡ Some x →
        ((i : ℕ) (cs : List Cap) → all_there (map f xs) ≡ Some cs → slice_get xs i ≡ Some x → (c : Cap) × (f x ≡ Some c) × (slice_get cs i ≡ Some c)) → (c : Cap) × (f x ≡ Some c) × (slice_get cs i ≡ Some c)
    at None e h i there rest = absurd (let no : ⊥ = cc in no)
    at (Some c) e h zero there rest =
        let same : y ≡ x = cc in
        let ys = mapped_is (λ ys. c ∷ ys) (all_there (map f xs)) cs h in
        (c, ap f (sym same) ∙ e, ap (λ l. slice_get l 0) (sym ys.2))
    at (Some c) e h (suc i) there rest =
        let ys = mapped_is (λ ys. c ∷ ys) (all_there (map f xs)) cs h in
        let r = rest i ys.0 ys.1 there in
        (r.0, r.1, ap (λ l. slice_get l (suc i)) (sym ys.2) ∙ r.2)

-- the caps of a message have this cap at this place
abbrev IsAt : ℕ → Cap → List Cap → Type 0
IsAt place c caps = slice_get caps place ≡ Some c

call_brings : (interface method place : ℕ) (caps : Option (List Cap)) (name : Option Name) (target : Option Cap) (m : Message) (c : Cap) →
    say_call interface method caps name target ≡ Some m → ((cs : List Cap) → caps ≡ Some cs → IsAt place c cs) → IsAt place c (caps_brought m)
call_brings interface method place (Some caps) (Some name) (Some target) m c h there =
    let same : message.Call name target interface method caps ≡ m = cc in ap (λ m. slice_get (caps_brought m) place) (sym same) ∙ there caps refl
call_brings interface method place None name target m c h there = absurd (let no : ⊥ = cc in no)
call_brings interface method place (Some caps) None target m c h there = absurd (let no : ⊥ = cc in no)
call_brings interface method place (Some caps) (Some name) None m c h there = absurd (let no : ⊥ = cc in no)

return_brings : (late : Bool) (fields : List (List ℕ × ℕ)) (name : Name) (caps : Option (List Cap)) (place : ℕ) (m : Message) (c : Cap) → late ≡ false →
    say_return late fields name caps ≡ Some m → ((cs : List Cap) → caps ≡ Some cs → IsAt place c cs) → IsAt place c (caps_brought m)
return_brings true fields name caps place m c late h there = absurd (let no : ⊥ = cc in no)
return_brings false fields name None place m c late h there = absurd (let no : ⊥ = cc in no)
return_brings false fields name (Some caps) place m c late h there =
    let same : message.Return name (caps_at_paths caps fields) caps ≡ m = cc in ap (λ m. slice_get (caps_brought m) place) (sym same) ∙ there caps refl

pub resolve_is : (promise c : Cap) (rest : List Cap) → is_present c ≡ true → say_resolve promise (c ∷ rest) ≡ message.Resolve promise c
resolve_is promise cap.Nothing rest is = absurd (let no : ⊥ = cc in no)
resolve_is promise c rest is = refl

resolve_brings : (promise : Cap) (f : Descriptor → Option Cap) (d : Descriptor) (place : ℕ) (m : Message) (c : Cap) → is_present c ≡ true → option_map (say_resolve promise) (all_there (map f (d ∷ []))) ≡ Some m →
    f d ≡ Some c → slice_get (d ∷ []) place ≡ Some d → IsAt place c (caps_brought m)
resolve_brings promise f d zero m c is h named there =
    let caps = mapped_is (say_resolve promise) (all_there (map f (d ∷ []))) m h in
    let one : all_there (map f (d ∷ [])) ≡ Some (c ∷ []) = ap (λ o. all_there (o ∷ [])) named in
    let same : ◌≡◌ {A = Option (List Cap)} (Some (c ∷ [])) (Some caps.0) = sym one ∙ caps.1 in
    let list : c ∷ [] ≡ caps.0 = cc in
    ap (λ m. slice_get (caps_brought m) 0) (sym caps.2 ∙ ap (say_resolve promise) (sym list) ∙ resolve_is promise c [] is)
resolve_brings promise f d (suc place) m c is h named there = absurd (let no : ⊥ = cc in no)

-- a descriptor that stands for a view has its name
pub descriptor_is : (names : Naming) (es : Past) (e : DecodedRecord) (d : Descriptor) (view : View) → descriptor_view (view_of_reference es) es e d ≡ Some view → descriptor_named names es e d ≡ names.cap view
descriptor_is names es e NoCap view h = absurd (none es e h)
  where
    none : (es : Past) (e : DecodedRecord) → descriptor_view (view_of_reference es) es e NoCap ≡ Some view → ⊥
    none es (Wire sent k c rs m) h = cc
    none es e h = cc
descriptor_is names es e d view h = ap (λ o. option_and_then names.cap o) h

-- where a descriptor of a message that is sent stands for a view, and isn't a late Return's, the message brings that view's
-- name at its place
module _ (names : Naming) (es : Past) (k c : ℕ) (rs : List ℕ) (named_caps : (view : View) (x : Cap) → names.cap view ≡ Some x → is_present x ≡ true) where
  abbrev Brought : RpcMessage → Message → ℕ → View → Type 0
  Brought m M place view = (x : Cap) × (names.cap view ≡ Some x) × IsAt place x (caps_brought M)

  at_place : (m : RpcMessage) (place : ℕ) (view : View) (d : Descriptor) → slice_get (descriptors (Wire true k c rs m)) place ≡ Some d → descriptor_view (view_of_reference es) es (Wire true k c rs m) d ≡ Some view →
      (cs : List Cap) → caps_named names es (Wire true k c rs m) ≡ Some cs → (x : Cap) × (names.cap view ≡ Some x) × (slice_get cs place ≡ Some x)
  at_place m place view d there is cs h =
      let e = Wire true k c rs m in
      let r = together_at (descriptor_named names es e) (descriptors e) place d cs h there in
      (r.0, sym (descriptor_is names es e d view is) ∙ r.1, r.2)

  one_cap : (view : View) (x y : Cap) → names.cap view ≡ Some x → names.cap view ≡ Some y → x ≡ y
  one_cap view x y p q = let same : ◌≡◌ {A = Option Cap} (Some x) (Some y) = sym p ∙ q in cc

  caps_there : (interface method : ℕ) (caps : Option (List Cap)) (name : Option Name) (target : Option Cap) (m : Message) → say_call interface method caps name target ≡ Some m → (cs : List Cap) × (caps ≡ Some cs)
  caps_there interface method (Some caps) name target m h = (caps, refl)
  caps_there interface method None name target m h = absurd (let no : ⊥ = cc in no)

  results_there : (late : Bool) (fields : List (List ℕ × ℕ)) (name : Name) (caps : Option (List Cap)) (m : Message) → late ≡ false → say_return late fields name caps ≡ Some m → (cs : List Cap) × (caps ≡ Some cs)
  results_there late fields name (Some caps) m e h = (caps, refl)
  results_there true fields name None m e h = absurd (let no : ⊥ = cc in no)
  results_there false fields name None m e h = absurd (let no : ⊥ = cc in no)

  brings : (m : RpcMessage) (M : Message) (place : ℕ) (view : View) → message_of_record names es (Wire true k c rs m) ≡ Some M → is_late es (Wire true k c rs m) ≡ false →
      view_of_descriptor es (Wire true k c rs m) place ≡ Some view → Brought m M place view
  brings (Call head target params) M place view h late was =
      let e = Wire true k c rs (Call head target params) in
      let d = then_is (descriptor_view (view_of_reference es) es e) (slice_get (descriptors e) place) view was in
      let cs = caps_there head.interface head.method (caps_named names es e) _ _ M h in
      let x = at_place (Call head target params) place view d.0 d.1 d.2 cs.0 cs.1 in (
        x.0,
        x.1,
        call_brings head.interface head.method place (caps_named names es e) _ _ M x.0 h
            (λ other is. let same : ◌≡◌ {A = Option (List Cap)} (Some cs.0) (Some other) = sym cs.1 ∙ is in let list : cs.0 ≡ other = cc in ap (λ l. slice_get l place) (sym list) ∙ x.2),
      )
  brings (Return head (Results payload)) M place view h late was =
      let e = Wire true k c rs (Return head (Results payload)) in
      let d = then_is (descriptor_view (view_of_reference es) es e) (slice_get (descriptors e) place) view was in
      let name = then_is (λ name. say_return (is_late es e) payload.fields name (caps_named names es e)) (call_answered names es k true head.answer) M h in
      let cs = results_there (is_late es e) payload.fields name.0 (caps_named names es e) M late name.2 in
      let x = at_place (Return head (Results payload)) place view d.0 d.1 d.2 cs.0 cs.1 in (
        x.0,
        x.1,
        return_brings (is_late es e) payload.fields name.0 (caps_named names es e) place M x.0 late name.2
            (λ other is. let same : ◌≡◌ {A = Option (List Cap)} (Some cs.0) (Some other) = sym cs.1 ∙ is in let list : cs.0 ≡ other = cc in ap (λ l. slice_get l place) (sym list) ∙ x.2),
      )
  brings (Resolve n (Capped one)) M place view h late was =
      let e = Wire true k c rs (Resolve n (Capped one)) in
      let d = then_is (descriptor_view (view_of_reference es) es e) (slice_get (descriptors e) place) view was in
      let to = then_is (λ promise. option_map (say_resolve promise) (caps_named names es e)) (promise_named names es k true n) M h in
      let cs = mapped_is (say_resolve to.0) (caps_named names es e) M to.2 in
      let x = at_place (Resolve n (Capped one)) place view d.0 d.1 d.2 cs.0 cs.1 in
      let is_one : d.0 ≡ one = first_is place d.0 one d.1 in (
        x.0,
        x.1,
        resolve_brings to.0 (descriptor_named names es e) one place M x.0 (named_caps view x.0 x.1) to.2
            (ap (descriptor_named names es e) (sym is_one) ∙ descriptor_is names es e d.0 view d.2 ∙ x.1) (d.1 ∙ ap (λ y. Some y) is_one),
      )
    where
      first_is : (place : ℕ) (d one : Descriptor) → slice_get (one ∷ []) place ≡ Some d → d ≡ one
      first_is zero d one h = cc
      first_is (suc place) d one h = absurd (let no : ⊥ = cc in no)
  brings m M place view h late was = absurd (let no : ⊥ = cc in no)

-- ---- together

pub each_after : (later : List DecodedRecord) (past : Past) → Each Refers (later ++ past) → EachAfter Refers later past
each_after [] past h = tt
each_after (e ∷ later) past h = (h.0, each_after later past h.1)

begun_in_time : (i : TableKey) (past : Past) (b : Birth) → last_answer (begins i) past ≡ Some b → is_late b.from.before b.from.event ≡ false
begun_in_time i [] b h = absurd (let no : ⊥ = cc in no)
begun_in_time i (e ∷ before) b h = at (begins i before e) refl h (begun_in_time i before b)
  where
    at : (o : Option Birth) → begins i before e ≡ o → option_or o (last_answer (begins i) before) ≡ Some b → (last_answer (begins i) before ≡ Some b → is_late b.from.before b.from.event ≡ false) → is_late b.from.before b.from.event ≡ false
    at None n h rest = rest h
    at (Some x) n h rest =
        let same : x ≡ b = cc in
        let parts = begins_parts i before e b (n ∙ ap (λ x. Some x) same) in
        ap (λ b. is_late b.from.before b.from.event) parts.2 ∙ parts.3

not_late : (b c : Bool) → (b ≡ true → c ≡ true) → c ≡ false → b ≡ false
not_late false c h e = refl
not_late true c h e = sym (h refl) ∙ e

-- of a record that is sent, its step
pub send_is : (v : ℕ) (es : Past) (steps : List Step) (k c : ℕ) (rs : List ℕ) (m : RpcMessage) (e : DecodedRecord) (s : Step) → e ≡ Wire true k c rs m → Says v es steps e s →
    (M : Message) × (message_of_record (naming v (e ∷ es) (s ∷ steps)) es e ≡ Some M) × (message_of_step s ≡ Some M)
send_is v es steps k c rs m e s is says =
    let e' = Wire true k c rs m in
    let says' : Says v es steps e' s = subst (λ e. Says v es steps e s) is says in
    let M = mapped_is (λ M. step.Send v k M) (message_of_record (naming v (e' ∷ es) (s ∷ steps)) es e') s says' in
    (M.0, ap (λ e. message_of_record (naming v (e ∷ es) (s ∷ steps)) es e) is ∙ M.1, ap message_of_step (sym M.2))

exported_name : (v : ℕ) (i : TableKey) (later : List DecodedRecord) (es : Past) (added steps : List Step) (exporter : Past) (xs : List Step) (view : View) (x : Cap) → exporter ≡ later ++ es → xs ≡ added ++ steps → length later ≡ length added →
    Each Refers exporter → cap_named v es steps view ≡ Some x → view_of_number i exporter ≡ Some view → number_named v i exporter xs ≡ Some x
exported_name v i later es added steps exporter xs view x whole_log whole as_long refers named stands =
    let kept = cap_keeps v later es added steps as_long (each_after later es (subst (Each Refers) whole_log refers)) view x named in
    ap (λ o. option_and_then (cap_named v exporter xs) o) stands ∙ ap₂ (λ es steps. cap_named v es steps view) whole_log whole ∙ kept

imported_name : (w k n : ℕ) (importer : Past) (ys : List Step) (b : Birth) (M : Message) (x : Cap) → birth (id k false n) importer ≡ Some b → message_at (length b.from.before) ys ≡ Some M →
    IsAt b.place x (caps_brought M) → is_present x ≡ true → number_named w (id k false n) importer ys ≡ Some x
imported_name w k n importer ys b M x born came there is =
    let known : view_of_number (id k false n) importer ≡ Some (Import (length b.from.before) b.place) = ap (λ o. option_and_then (view_given (view_of_reference importer) false) o) born in
    let message : cap_named w importer ys (Import (length b.from.before) b.place) ≡ cap_at b.place (caps_brought M) = ap (λ o. option_and_then (λ m. cap_at b.place (caps_brought m)) o) came in
    let present : cap_at b.place (caps_brought M) ≡ Some x = ap (λ o. option_and_then (λ c. if is_present c then Some c else None) o) there ∙ ap (λ b. if b then Some x else None) is in
    ap (λ o. option_and_then (cap_named w importer ys) o) known ∙ message ∙ present

message_paired : (v : ℕ) (xs added earlier : List Step) (s : Step) (e : DecodedRecord) (before : Past) (M : Message) → xs ≡ added ++ s ∷ earlier → PairsOff v (e ∷ before) (s ∷ earlier) → message_of_step s ≡ Some M → message_at (length before) xs ≡ Some M
message_paired v xs added earlier s e before M whole part is =
    ap (message_at (length before)) whole
    ∙ message_later (length before) added (s ∷ earlier) M (message_there (length before) s earlier M (sym (pairs_as_long v before earlier part.1)) is)

pub one_name : (k n v w : ℕ) (exporter importer : Past) (xs ys : List Step) → PairsOff v exporter xs → Each Refers exporter → IsCut k exporter importer → AgreeOneWay k exporter importer →
    IsCarried k exporter xs importer ys → is_in_life (id k false n) importer ≡ true → HasOneName k n v exporter xs w importer ys
one_name k n v w exporter importer xs ys part refers cut agree carried alive =
    let i = id k false n in
    let b = birth_of i importer alive in
    let began = b.0 in
    let place = began.place in
    let since = agree.lives n exporter importer ([], refl) ([], refl) cut began b.1 in
    let p = since.passed in
    let from = since.from in
    let sent = since.sent in
    let wire = passing_is k true since.message sent p.sends in
    let pair = paired_at v p.sent_there.0 sent from xs (subst (λ es. PairsOff v es xs) p.sent_there.1 part) in
    let s = pair.step in
    let M = send_is v from pair.earlier k wire.0 wire.1 since.message sent s wire.2 pair.paired.0 in
    let late = not_late (is_late from sent) (is_late began.from.before began.from.event) (agree.late since.message from began.from.before sent began.from.event p) (begun_in_time i importer began b.2) in
    let names = naming v (sent ∷ from) (s ∷ pair.earlier) in
    let got = brings names from k wire.0 wire.1 (λ view x h. names_are_caps v (sent ∷ from) (s ∷ pair.earlier) view x h) since.message M.0 place since.view
    (ap (λ e. message_of_record names from e) (sym wire.2) ∙ M.1) (ap (λ e. is_late from e) (sym wire.2) ∙ late) (ap (λ e. view_of_descriptor from e place) (sym wire.2) ∙ since.was) in
    let x = got.0 in (
      x,
      exported_name v (id k true n) p.sent_there.0 (sent ∷ from) pair.added (s ∷ pair.earlier) exporter xs since.view x p.sent_there.1 pair.whole pair.as_long refers got.1 since.stands,
      imported_name w k n importer ys began M.0 x b.1
          (carried since.message from began.from.before sent began.from.event p ∙ message_paired v xs pair.added pair.earlier s sent from M.0 pair.whole pair.paired M.2)
          got.2 (names_are_caps v (sent ∷ from) (s ∷ pair.earlier) since.view x got.1),
    )
