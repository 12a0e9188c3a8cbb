-- What a received message binds is what it brings.
use Rattle.std.proofs.Common.{◌≡◌, refl, sym, ◌∙◌, ap, ap₂, subst, append_assoc, ℕ, zero, suc, ◌+◌, ◌==◌, List, [], ◌∷◌, ◌++◌, length, Bool, true, false, not, Option, Some, None, if◌then◌else◌, option_and_then, option_map, slice_get, arith, eqb-true, inl, inr}
use Rattle.std.specs.Prelude.{map, find}
use Rattle.std.specs.List.{zip}
use Rattle.std.specs.Option.{option_or}
use Rattle.std.proofs.lemmas.Bool.{cases_Bool, and_parts, or_left, or_right, not-true, both_ways, eq-eqb, false≢true}
use Rattle.agree.specs.Streams.{IsPassed}
use Rattle.agree.specs.Agreeing.{AreLinked}
use Rattle.agree.proofs.Openings.{passing_is}
use Rattle.agree.proofs.Points.{before_it}
use Rattle.vat_rules.specs.declared.rule.Rule.TheVariants as rule
use Rattle.vat_rules.specs.Judged.{IsGood}
use Rattle.decoded_records.specs.Past.{Past, id}
use Rattle.decoded_records.specs.Questions.{is_late, call_of}
use Rattle.decoded_records.specs.Lives.{descriptors_of}
use Rattle.decoded_records.specs.Views.{view_of_reference, descriptor_view, described_at, places_from, places}
use Rattle.decoded_records.specs.Bindings.{contains, is_distinct}
use Rattle.call_trace.specs.Types.{Descriptor, NoCap, SenderHosted, SenderPromise, ReceiverHosted, ReceiverAnswer, Results, Exception, Canceled, Elsewhere, TakeFrom, Return, RpcMessage, DecodedRecord, Wire, View, Name, Cap, Message, Step}
use Rattle.call_trace.specs.Naming.{Naming, naming, message_at, message_of_step}
use Rattle.call_trace.specs.Said.{all_there, message_of_record, say_return, say_taken, descriptor_named, caps_named, call_answered, caps_at_paths}
use Rattle.call_trace.specs.Part.{reference_named, PairsOff}
use Rattle.call_trace.specs.Running.{AreMet}
use Rattle.call_trace.proofs.Naming.{then_is, mapped_is, names_are_caps}
use Rattle.call_trace.proofs.Carried.{IsPaired, paired_at, pairs_as_long, send_is}
use Rattle.call_trace.proofs.Asking.{call_is_one, call_lasts, all_refer, message_of_pair}
use Rattle.call_trace.proofs.Describing.{CallsAreOne, IsHeard, says_brings, sent_in_time, caps_are_one}
use Rattle.run_model.specs.Legal.{is_present, present, caps_brought, MayBind}
use Rattle.run_model.specs.declared.cap.Cap.TheVariants as cap
use Rattle.run_model.specs.declared.message.Message.TheVariants as message
use Rattle.run_model.specs.declared.step.Step.TheVariants as step

-- ---- references and places in turn

stands_in : (xs : List ℕ) (i x : ℕ) → slice_get xs i ≡ Some x → contains x xs ≡ true
stands_in [] i x h = absurd (let no : ⊥ = cc in no)
stands_in (y ∷ xs) zero x h = let same : y ≡ x = cc in or_left (y == x) (contains x xs) (eq-eqb y x same)
stands_in (y ∷ xs) (suc i) x h = or_right (y == x) (contains x xs) (stands_in xs i x h)

-- where no reference stands twice, each is found with its own place
found_with : (rs ps : List ℕ) (i r p : ℕ) → is_distinct rs ≡ true → slice_get rs i ≡ Some r → slice_get ps i ≡ Some p → find (λ n. n.0 == r) (zip rs ps) ≡ Some (r, p)
found_with [] ps i r p distinct h g = absurd (let no : ⊥ = cc in no)
found_with (x ∷ rs) [] i r p distinct h g = absurd (let no : ⊥ = cc in no)
found_with (x ∷ rs) (q ∷ ps) zero r p distinct h g =
    let one : x ≡ r = cc in
    let two : q ≡ p = cc in ap (λ b. if b then Some (x, q) else find (λ n. n.0 == r) (zip rs ps)) (eq-eqb x r one) ∙ ap₂ (λ x q. Some (x, q)) one two
found_with (x ∷ rs) (q ∷ ps) (suc i) r p distinct h g =
    let parts = and_parts (not (contains x rs)) (is_distinct rs) distinct in
    let apart : (x == r) ≡ false = elim (cases_Bool (x == r)) [
      | inl same ↦ absurd (both_ways (contains x rs) (not-true (contains x rs) parts.0) (subst (λ y. contains y rs ≡ true) (sym (eqb-true x r same)) (stands_in rs i r h)))
      | inr other ↦ other
    ] in
    ap (λ b. if b then Some (x, q) else find (λ n. n.0 == r) (zip rs ps)) apart ∙ found_with rs ps i r p parts.1 h g

-- where each reference has the name that its place has, they have the names of the places
named_alike : (f g : ℕ → Option Cap) (rs ps : List ℕ) → length rs ≡ length ps → ((i r p : ℕ) (x : Cap) → slice_get rs i ≡ Some r → slice_get ps i ≡ Some p → g p ≡ Some x → f r ≡ Some x) →
    (cs : List Cap) → all_there (map g ps) ≡ Some cs → all_there (map f rs) ≡ Some cs
named_alike f g [] [] len so cs h = h
named_alike f g [] (p ∷ ps) len so cs h = absurd (omega (arith, len))
named_alike f g (r ∷ rs) [] len so cs h = absurd (omega (arith, len))
named_alike f g (r ∷ rs) (p ∷ ps) len so cs h = at (g p) refl h (named_alike f g rs ps (omega (arith, len)) (λ i r p. so (suc i) r p))
  where
    at : (o : Option Cap) → g p ≡ o → all_there (o ∷ map g ps) ≡ Some cs → ((ys : List Cap) → all_there (map g ps) ≡ Some ys → all_there (map f rs) ≡ Some ys) → all_there (f r ∷ map f rs) ≡ Some cs
    at None e h rest = absurd (let no : ⊥ = cc in no)
    at (Some x) e h rest =
        let ys = mapped_is (λ ys. x ∷ ys) (all_there (map g ps)) cs h in
        ap (λ o. all_there (o ∷ map f rs)) (so 0 r p x refl refl e) ∙ ap (λ o. option_map (λ ys. x ∷ ys) o) (rest ys.0 ys.1) ∙ ap (λ l. Some l) ys.2

-- ---- the places of what is there

present_more : (x : Cap) (xs : List Cap) → is_present x ≡ true → present (x ∷ xs) ≡ x ∷ present xs
present_more x xs is = ap (λ b. if b then x ∷ present xs else present xs) is

none_more : (o : Option (List Cap)) (p : Option (List Cap)) (cs : List Cap) → option_map (λ ys. cap.Nothing ∷ ys) o ≡ Some cs → ((ys : List Cap) → o ≡ Some ys → p ≡ Some (present ys)) → p ≡ Some (present cs)
none_more o p cs h rest = let ys = mapped_is (λ ys. cap.Nothing ∷ ys) o cs h in rest ys.0 ys.1 ∙ ap (λ l. Some (present l)) ys.2

cap_more : (o q : Option Cap) (rest : List (Option Cap)) (others : List (Option Cap)) (cs : List Cap) → all_there (o ∷ rest) ≡ Some cs → q ≡ o → ((x : Cap) → o ≡ Some x → is_present x ≡ true) →
    ((ys : List Cap) → all_there rest ≡ Some ys → all_there others ≡ Some (present ys)) → all_there (q ∷ others) ≡ Some (present cs)
cap_more None q rest others cs h same is so = absurd (let no : ⊥ = cc in no)
cap_more (Some x) q rest others cs h same is so =
    let ys = mapped_is (λ ys. x ∷ ys) (all_there rest) cs h in
    ap (λ o. all_there (o ∷ others)) same ∙ ap (λ o. option_map (λ ys. x ∷ ys) o) (so ys.0 ys.1) ∙ ap (λ l. Some l) (sym (present_more x ys.0 (is x refl))) ∙ ap (λ l. Some (present l)) ys.2

-- at the places of descriptors that aren't none stand the caps that are there
module _ (names : Naming) (other : Past) (e : DecodedRecord) (are_caps : (view : View) (x : Cap) → names.cap view ≡ Some x → is_present x ≡ true) (all : List Descriptor) where
  view_name : Descriptor → Option Cap
  view_name d = option_and_then names.cap (descriptor_view (view_of_reference other) other e d)

  at_place : ℕ → Option Cap
  at_place p = option_and_then view_name (slice_get all p)

  abbrev Shows : ℕ → List Descriptor → Type 0
  Shows p ds = (j : ℕ) (d : Descriptor) → slice_get ds j ≡ Some d → slice_get all (p + j) ≡ Some d

  shows_next : (p : ℕ) (d : Descriptor) (ds : List Descriptor) → Shows p (d ∷ ds) → Shows (p + 1) ds
  shows_next p d ds so j x there = let same : p + 1 + j ≡ p + suc j = omega arith in ap (slice_get all) same ∙ so (suc j) x there

  cap_here : (p : ℕ) (d : Descriptor) (ds : List Descriptor) → Shows p (d ∷ ds) → (cs : List Cap) → all_there (view_name d ∷ map (descriptor_named names other e) ds) ≡ Some cs →
      ((ys : List Cap) → all_there (map (descriptor_named names other e) ds) ≡ Some ys → all_there (map at_place (places_from (p + 1) ds)) ≡ Some (present ys)) →
      all_there (at_place p ∷ map at_place (places_from (p + 1) ds)) ≡ Some (present cs)
  unfolding view_name at_place
  cap_here p d ds so cs h rest =
      let same : p ≡ p + 0 = omega arith in
      let here : at_place p ≡ view_name d = ap (λ q. option_and_then view_name (slice_get all q)) same ∙ ap (λ o. option_and_then view_name o) (so 0 d refl) in
      cap_more (view_name d) (at_place p) (map (descriptor_named names other e) ds) (map at_place (places_from (p + 1) ds)) cs h here
      (λ x named. let view = then_is names.cap (descriptor_view (view_of_reference other) other e d) x named in are_caps view.0 x view.2) rest

  places_named : (p : ℕ) (ds : List Descriptor) → Shows p ds → (cs : List Cap) → all_there (map (descriptor_named names other e) ds) ≡ Some cs → all_there (map at_place (places_from p ds)) ≡ Some (present cs)
  unfolding view_name
  places_named p [] so cs h = ap (λ o. option_map present o) h
  places_named p (NoCap ∷ ds) so cs h =
      none_more (all_there (map (descriptor_named names other e) ds)) (all_there (map at_place (places_from (p + 1) ds))) cs h (places_named (p + 1) ds (shows_next p NoCap ds so))
  places_named p (SenderHosted n ∷ ds) so cs h = cap_here p (SenderHosted n) ds so cs h (places_named (p + 1) ds (shows_next p (SenderHosted n) ds so))
  places_named p (SenderPromise n ∷ ds) so cs h = cap_here p (SenderPromise n) ds so cs h (places_named (p + 1) ds (shows_next p (SenderPromise n) ds so))
  places_named p (ReceiverHosted n ∷ ds) so cs h = cap_here p (ReceiverHosted n) ds so cs h (places_named (p + 1) ds (shows_next p (ReceiverHosted n) ds so))
  places_named p (ReceiverAnswer q path ∷ ds) so cs h = cap_here p (ReceiverAnswer q path) ds so cs h (places_named (p + 1) ds (shows_next p (ReceiverAnswer q path) ds so))

-- ---- what the references noted beside a message are bound to

-- where one reference is noted for each descriptor that isn't none, they are bound to the caps that are there
pub noted_bound : (names : Naming) (other : Past) (k d : ℕ) (references : List ℕ) (m : RpcMessage) → ((view : View) (x : Cap) → names.cap view ≡ Some x → is_present x ≡ true) → is_distinct references ≡ true →
    length references ≡ length (places (Wire false k d references m)) → (caps : List Cap) → caps_named names other (Wire false k d references m) ≡ Some caps →
    all_there (map (reference_named names (Wire false k d references m ∷ other)) references) ≡ Some (present caps)
unfolding at_place view_name
noted_bound names other k d references m are_caps distinct as_long caps h =
    let e = Wire false k d references m in
    let ds = descriptors_of m in
    named_alike (reference_named names (e ∷ other)) (at_place names other e are_caps ds) references (places e) as_long bound (present caps)
    (places_named names other e are_caps ds 0 ds (λ j x there. let same : 0 + j ≡ j = omega arith in ap (slice_get ds) same ∙ there) caps h)
  where
    bound : (i r p : ℕ) (x : Cap) → slice_get references i ≡ Some r → slice_get (places (Wire false k d references m)) i ≡ Some p → at_place names other (Wire false k d references m) are_caps (descriptors_of m) p ≡ Some x →
        reference_named names (Wire false k d references m ∷ other) r ≡ Some x
    bound i r p x noted place named =
        let e = Wire false k d references m in
        let old = view_of_reference other in
        let dsc = then_is (view_name names other e are_caps (descriptors_of m)) (slice_get (descriptors_of m) p) x named in
        let view = then_is names.cap (descriptor_view old other e dsc.0) x dsc.2 in
        ap (λ o. option_and_then names.cap (option_or (option_and_then (λ n. described_at old other e n.1) o) (old r))) (found_with references (places e) i r p distinct noted place)
        ∙ ap (λ o. option_and_then names.cap (option_or (option_and_then (descriptor_view old other e) o) (old r))) dsc.1
        ∙ ap (λ o. option_and_then names.cap (option_or o (old r))) view.1
        ∙ view.2

-- ---- what a receipt may bind

may_bind : (m : Message) (bound : List Cap) → bound ≡ present (caps_brought m) → MayBind m bound
may_bind (message.Return c results caps) bound h = inl h
may_bind m bound h = h

-- nothing, where a Return comes late
late_binds : (names : Naming) (es : Past) (k c : ℕ) (rs : List ℕ) (m : RpcMessage) (M : Message) (before : Past) (d : ℕ) (references : List ℕ) → is_late before (Wire false k d references m) ≡ true →
    message_of_record names es (Wire true k c rs m) ≡ Some M → MayBind M []
late_binds names es k c rs (Return head (Results payload)) M before d references late h =
    let e = Wire true k c rs (Return head (Results payload)) in
    let name = then_is (λ name. say_return (is_late es e) payload.fields name (caps_named names es e)) (call_answered names es k true head.answer) M h in
    at (is_late es e) name.0 (caps_named names es e) name.2
  where
    at : (b : Bool) (name : Name) (caps : Option (List Cap)) → say_return b payload.fields name caps ≡ Some M → MayBind M []
    at true name caps h = let same : message.Late name ≡ M = cc in subst (λ M. MayBind M []) same refl
    at false name None h = absurd (let no : ⊥ = cc in no)
    at false name (Some caps) h = let same : message.Return name (caps_at_paths caps payload.fields) caps ≡ M = cc in subst (λ M. MayBind M []) same (inr refl)
late_binds names es k c rs (Return head Exception) M before d references late h =
    let name = mapped_is message.Failed (call_answered names es k true head.answer) M h in subst (λ M. MayBind M []) name.2 refl
late_binds names es k c rs (Return head Canceled) M before d references late h =
    let name = mapped_is message.Failed (call_answered names es k true head.answer) M h in subst (λ M. MayBind M []) name.2 refl
late_binds names es k c rs (Return head Elsewhere) M before d references late h =
    let name = mapped_is message.Elsewhere (call_answered names es k true head.answer) M h in subst (λ M. MayBind M []) name.2 refl
late_binds names es k c rs (Return head (TakeFrom n)) M before d references late h =
    let gone = is_late es (Wire true k c rs (Return head (TakeFrom n))) in
    let by = option_and_then names.call (call_of (id k true n) es) in
    let name = then_is (λ name. say_taken gone name by) (call_answered names es k true head.answer) M h in
    at gone name.0 by name.2
  where
    at : (b : Bool) (name : Name) (by : Option Name) → say_taken b name by ≡ Some M → MayBind M []
    at true name by h = let same : message.Late name ≡ M = cc in subst (λ M. MayBind M []) same refl
    at false name by h = let other = mapped_is (λ by. message.Taken name by) by M h in subst (λ M. MayBind M []) other.2 refl
late_binds names es k c rs m M before d references late h = absurd (false≢true late)

-- ---- together

module _ (k v : ℕ) (one : Past) (its_steps : List Step) (w : ℕ) (other : Past) (steps : List Step) (d : ℕ) (references : List ℕ) (m : RpcMessage) (from : Past) (sent : DecodedRecord) (message : Message)
    (met : AreMet k v one its_steps w other steps) (linked : AreLinked k one (Wire false k d references m ∷ other)) (good : IsGood other (Wire false k d references m))
    (p : IsPassed k m one (Wire false k d references m ∷ other) from other sent (Wire false k d references m)) (is_said : message_at (length from) its_steps ≡ Some message) where
  abbrev received : DecodedRecord
  received = Wire false k d references m

  pub pair : IsPaired v its_steps p.sent_there.0 sent from
  pair = paired_at v p.sent_there.0 sent from its_steps (subst (λ es. PairsOff v es its_steps) p.sent_there.1 met.one_paired)

  message_is : message_of_step pair.step ≡ Some message
  message_is = sym (message_of_pair v its_steps p.sent_there.0 sent from pair) ∙ is_said

  says_it : message_of_record (naming v (sent ∷ from) (pair.step ∷ pair.earlier)) from sent ≡ Some message
  says_it =
      let wire = passing_is k true m sent p.sends in
      let M = send_is v from pair.earlier k wire.0 wire.1 m sent pair.step wire.2 pair.paired.0 in
      let same : ◌≡◌ {A = Option Message} (Some M.0) (Some message) = sym M.2 ∙ message_is in M.1 ∙ same

  -- the message is heard, where questions have one call name at both ends
  pub is_heard : CallsAreOne k v from pair.earlier w other steps → IsHeard k v one its_steps w other steps received m from pair.earlier sent pair.step message
  is_heard calls = record { met = met; linked = linked; good = good; passed = p; added = pair.added; whole = pair.whole; paired = pair.paired; says = says_it; one_call = calls }

  abbrev Bound : List Cap → List Cap → Type 0
  Bound any bound = all_there (map (reference_named (naming w (received ∷ other) (step.Receive w k message any ∷ steps)) (received ∷ other)) references) ≡ Some bound

  as_noted : (late : Bool) → is_late other received ≡ late → length references ≡ (if late then 0 else length (places received))
  as_noted late is = good rule.RecvRef refl ∙ ap (λ b. if b then 0 else length (places received)) is

  bound_late : (any : List Cap) → length references ≡ 0 → Bound any []
  bound_late any none = at references none
    where
      at : (rs : List ℕ) → length rs ≡ 0 → all_there (map (reference_named (naming w (received ∷ other) (step.Receive w k message any ∷ steps)) (received ∷ other)) rs) ≡ Some []
      at [] e = refl
      at (r ∷ rs) e = absurd (omega (arith, e))

  -- the references noted beside a received message are bound to the caps that it brings
  pub receipt_binds : CallsAreOne k v from pair.earlier w other steps → (bound : List Cap) × ((any : List Cap) → Bound any bound) × MayBind message bound
  receipt_binds calls =
      let wire = passing_is k true m sent p.sends in
      let names = naming v (sent ∷ from) (pair.step ∷ pair.earlier) in
      let says = ap (λ e. message_of_record names from e) (sym wire.2) ∙ says_it in
      elim (cases_Bool (is_late other received)) [
        | inl late ↦ ([], λ any. bound_late any (as_noted true late), late_binds names from k wire.0 wire.1 m message other d references late says)
        | inr in_time ↦
            let heard = is_heard calls in
            let early = sent_in_time k v one its_steps w other steps d references m from pair.earlier pair.step message sent heard in_time in
            let caps = says_brings names from k wire.0 wire.1 m message (ap (λ e. is_late from e) (sym wire.2) ∙ early) says in
            let its = ap (λ e. caps_named names from e) wire.2 ∙ caps.1 in (
              present caps.0,
              λ any. noted_bound (naming w (received ∷ other) (step.Receive w k message any ∷ steps)) other k d references m (λ view x h. names_are_caps w (received ∷ other) (step.Receive w k message any ∷ steps) view x h)
                  (good rule.Ref).distinct (as_noted false in_time) caps.0
                  (caps_are_one k v one its_steps w other steps d references m from pair.earlier pair.step message sent any in_time heard caps.0 its),
              may_bind message (present caps.0) (sym caps.2.1),
            )
      ]

  -- questions have one call name at both ends
  calls_are_one : CallsAreOne k v from pair.earlier w other steps
  calls_are_one q c name used h named =
      call_is_one k v w one its_steps other steps m from sent received met linked good p q c name used h
      (call_lasts v one from its_steps pair.earlier (before_it one sent from p.sent_there) (pair.added ++ pair.step ∷ [], pair.whole ∙ sym (append_assoc pair.added (pair.step ∷ []) pair.earlier))
      (pairs_as_long v one its_steps met.one_paired) (pairs_as_long v from pair.earlier pair.paired.1) (all_refer one met.one_good) c name named)

  -- so what is heard names its descriptors and its target alike
  pub passed_is_heard : IsHeard k v one its_steps w other steps received m from pair.earlier sent pair.step message
  passed_is_heard = is_heard calls_are_one

  -- what a receipt binds, whatever its step is said to bind, which no name rests on
  pub receipt_is_bound : (bound : List Cap) × ((any : List Cap) → Bound any bound) × MayBind message bound
  receipt_is_bound = receipt_binds calls_are_one

-- of a step that binds nothing yet
pub receipts_bind : (k v w c : ℕ) (one : Past) (its_steps : List Step) (other : Past) (steps : List Step) (references : List ℕ) (m : RpcMessage) (from : Past) (sent : DecodedRecord) (message : Message) →
    AreMet k v one its_steps w other steps → AreLinked k one (Wire false k c references m ∷ other) → IsGood other (Wire false k c references m) →
    IsPassed k m one (Wire false k c references m ∷ other) from other sent (Wire false k c references m) → message_at (length from) its_steps ≡ Some message →
    (bound : List Cap)
    × (all_there (map (reference_named (naming w (Wire false k c references m ∷ other) (step.Receive w k message [] ∷ steps)) (Wire false k c references m ∷ other)) references) ≡ Some bound)
    × MayBind message bound
receipts_bind k v w c one its_steps other steps references m from sent message met linked good p is_said =
    let r = receipt_is_bound k v one its_steps w other steps c references m from sent message met linked good p is_said in (r.0, r.1 [], r.2)
