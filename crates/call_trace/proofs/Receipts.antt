-- What a received message says, by the receiver's log, is the message that was sent, but for what is left unread.
use Rattle.std.proofs.Common.{◌≡◌, refl, sym, ◌∙◌, ap, ap₂, subst, ℕ, List, [], ◌∷◌, ◌++◌, length, Bool, true, false, not, Option, Some, None, if◌then◌else◌, option_and_then, option_map, append_assoc, inl, inr}
use Rattle.std.specs.Prelude.{unwrap_or}
use Rattle.std.proofs.lemmas.Bool.{cases_Bool, eq-eqb}
use Rattle.agree.specs.Streams.{IsPassed}
use Rattle.agree.specs.Agreeing.{AreLinked}
use Rattle.agree.proofs.Points.{before_it, each_before}
use Rattle.agree.proofs.Asking.{asks}
use Rattle.agree.proofs.Good.{good_agree}
use Rattle.agree.proofs.Openings.{passing_is}
use Rattle.agree.proofs.Standing.{linked_before}
use Rattle.vat_rules.specs.Judged.{IsGood}
use Rattle.vat_rules.specs.declared.rule.Rule.TheVariants as rule
use Rattle.decoded_records.specs.Past.{Past, Each, id, last_answer}
use Rattle.decoded_records.specs.Lives.{begins, is_in_life}
use Rattle.decoded_records.specs.Questions.{is_late, is_unfinished, is_unreturned, call_of}
use Rattle.decoded_records.specs.Views.{view_of_reference, view_of_number, view_of_target, view_given}
use Rattle.rpc_view.specs.declared.message.Payload.{Payload}
use Rattle.call_trace.specs.Types.{Target, Outcome, Results, Exception, Canceled, Elsewhere, TakeFrom, Resolution, RpcMessage, Bootstrap, Call, CallHead, Return, ReturnHead, Finish, Resolve, Release, Disembargo, Abort, DecodedRecord, Wire, Name, Cap, Message, Step}
use Rattle.call_trace.specs.Naming.{Naming, naming, cap_named, call_named, message_at}
use Rattle.call_trace.specs.Said.{message_of_record, say_call, say_return, say_taken, say_resolve, caps_named, promise_named, call_answered, caps_at_paths}
use Rattle.call_trace.specs.Part.{resolves_released, ReadsAsSent}
use Rattle.call_trace.specs.Carried.{HasOneName}
use Rattle.call_trace.specs.Running.{AreMet}
use Rattle.call_trace.proofs.AsSent.{read, reads_so, reads_late}
use Rattle.call_trace.proofs.Naming.{mapped_is, then_is, cap_step, call_keeps, calls_named}
use Rattle.call_trace.proofs.Carried.{pairs_as_long, one_name}
use Rattle.call_trace.proofs.Asking.{answerer_names, call_lasts, all_refer, answer_is_one, call_is_one}
use Rattle.call_trace.proofs.Using.{unfinished_bound, taken_unfinished}
use Rattle.call_trace.proofs.Describing.{IsHeard, met_before, caps_are_one, targets_are_one}
use Rattle.call_trace.proofs.Binding.{pair, passed_is_heard}
use Rattle.run_model.specs.Has.{call_in_message}
use Rattle.run_model.specs.declared.cap.Cap.TheVariants as cap
use Rattle.run_model.specs.declared.message.Message.TheVariants as message
use Rattle.run_model.specs.declared.plain.Plain.TheVariants as plain
use Rattle.run_model.specs.declared.step.Step.TheVariants as step

-- ---- what is read of each kind

call_parts : (interface method : ℕ) (caps : Option (List Cap)) (name : Option Name) (target : Option Cap) (m : Message) → say_call interface method caps name target ≡ Some m →
    (cs : List Cap) × (n : Name) × (t : Cap) × (caps ≡ Some cs) × (name ≡ Some n) × (target ≡ Some t) × (message.Call n t interface method cs ≡ m)
call_parts interface method (Some cs) (Some n) (Some t) m h = (cs, n, t, refl, refl, refl, let same : message.Call n t interface method cs ≡ m = cc in same)
call_parts interface method None name target m h = absurd (let no : ⊥ = cc in no)
call_parts interface method (Some cs) None target m h = absurd (let no : ⊥ = cc in no)
call_parts interface method (Some cs) (Some n) None m h = absurd (let no : ⊥ = cc in no)

-- a Return is read as late where it comes late
return_read : (es : Past) (e : DecodedRecord) (went came : Bool) (fields : List (List ℕ × ℕ)) (name : Name) (caps got : Option (List Cap)) (m : Message) → (went ≡ true → came ≡ true) →
    (came ≡ false → (cs : List Cap) → caps ≡ Some cs → got ≡ Some cs) → is_late es e ≡ came → say_return went fields name caps ≡ Some m → say_return came fields name got ≡ Some (read es e m)
return_read es e true true fields name caps got m on there late h = let same : message.Late name ≡ m = cc in ap (λ m. Some (read es e m)) same
return_read es e true false fields name caps got m on there late h = let no = on refl in absurd (let n : ⊥ = cc in n)
return_read es e false came fields name None got m on there late h = absurd (let no : ⊥ = cc in no)
return_read es e false true fields name (Some cs) got m on there late h =
    let same : message.Return name (caps_at_paths cs fields) cs ≡ m = cc in
    ap (λ b. Some (if b then message.Late name else message.Return name (caps_at_paths cs fields) cs)) (sym late) ∙ ap (λ m. Some (read es e m)) same
return_read es e false false fields name (Some cs) got m on there late h =
    let same : message.Return name (caps_at_paths cs fields) cs ≡ m = cc in
    ap (λ o. option_map (λ caps. message.Return name (caps_at_paths caps fields) caps) o) (there refl cs refl)
    ∙ ap (λ b. Some (if b then message.Late name else message.Return name (caps_at_paths cs fields) cs)) (sym late) ∙ ap (λ m. Some (read es e m)) same

-- and a Resolve of a number out of life as one of Nothing
broken_so : (b : Bool) (x : Cap) → message.Broken (if b then cap.Nothing else x) ≡ (if b then message.Broken cap.Nothing else message.Broken x)
broken_so true x = refl
broken_so false x = refl

resolved_so : (b : Bool) (x c : Cap) → message.Resolve (if b then cap.Nothing else x) c ≡ (if b then message.Resolve cap.Nothing c else message.Resolve x c)
resolved_so true x c = refl
resolved_so false x c = refl

resolve_read : (es : Past) (e : DecodedRecord) (x : Cap) (cs : List Cap) → say_resolve (if resolves_released es e then cap.Nothing else x) cs ≡ read es e (say_resolve x cs)
resolve_read es e x [] = broken_so (resolves_released es e) x
resolve_read es e x (cap.Nothing ∷ rest) = broken_so (resolves_released es e) x
resolve_read es e x (c ∷ rest) = resolved_so (resolves_released es e) x c

-- ---- one message, named at both ends

-- what the ends of a message agree on
pub record IsReadAlike (mine : Naming) (from : Past) (sent : DecodedRecord) (theirs : Naming) (other : Past) (e : DecodedRecord) (k c : ℕ) (m : RpcMessage) (said_message : Message) : Type 0 where
  pub calls : (name : Name) → call_in_message said_message ≡ Some name → (q : ℕ) → asks q m ≡ true → theirs.call c ≡ Some name
  pub caps : is_late other e ≡ false → (cs : List Cap) → caps_named mine from sent ≡ Some cs → caps_named theirs other e ≡ Some cs
  pub target : (t : Cap) → option_and_then mine.cap (view_of_target from sent) ≡ Some t → option_and_then theirs.cap (view_of_target other e) ≡ Some t
  pub late : is_late from sent ≡ true → is_late other e ≡ true
  pub answers : (head : ReturnHead) (outcome : Outcome) → m ≡ Return head outcome → (name : Name) → call_answered mine from k true head.answer ≡ Some name → call_answered theirs other k false head.answer ≡ Some name
  pub taken : (head : ReturnHead) (n : ℕ) → m ≡ Return head (TakeFrom n) → (by : Name) → option_and_then mine.call (call_of (id k true n) from) ≡ Some by →
      option_and_then theirs.call (call_of (id k false n) other) ≡ Some by
  pub takes : (head : ReturnHead) (n : ℕ) → m ≡ Return head (TakeFrom n) → (by : Name) × (option_and_then theirs.call (call_of (id k false n) other) ≡ Some by)
  pub promise : (n : ℕ) (x : Cap) → promise_named mine from k true n ≡ Some x → promise_named theirs other k false n ≡ Some (if not (is_in_life (id k false n) other) then cap.Nothing else x)

module _ (mine : Naming) (from : Past) (theirs : Naming) (other : Past) (k d c : ℕ) (noted references : List ℕ) (M : Message) where
  abbrev Alike : RpcMessage → Type 0
  Alike m = IsReadAlike mine from (Wire true k d noted m) theirs other (Wire false k c references m) k c m M

  abbrev IsRead : RpcMessage → Type 0
  IsRead m = message_of_record mine from (Wire true k d noted m) ≡ Some M → message_of_record theirs other (Wire false k c references m) ≡ Some (read other (Wire false k c references m) M)

  boot_read : (q : ℕ) → Alike (Bootstrap q) → IsRead (Bootstrap q)
  boot_read q alike h =
      let e = Wire false k c references (Bootstrap q) in
      let name = mapped_is message.Boot (mine.call d) M h in
      ap (λ o. option_map message.Boot o) (alike.calls name.0 (ap call_in_message (sym name.2)) q (eq-eqb q q refl)) ∙ ap (λ m. Some (read other e m)) name.2

  call_read : (head : CallHead) (target : Target) (params : Payload) → Alike (Call head target params) → IsRead (Call head target params)
  call_read head target params alike h =
      let m = Call head target params in
      let sent = Wire true k d noted m in
      let e = Wire false k c references m in
      let p = call_parts head.interface head.method (caps_named mine from sent) (mine.call d) (option_and_then mine.cap (view_of_target from sent)) M h in
      ap₂ (λ caps name. say_call head.interface head.method caps name (option_and_then theirs.cap (view_of_target other e))) (alike.caps refl p.0 p.3) (alike.calls p.1 (ap call_in_message (sym p.6)) head.question (eq-eqb head.question head.question refl))
      ∙ ap (λ t. say_call head.interface head.method (Some p.0) (Some p.1) t) (alike.target p.2 p.5) ∙ ap (λ m. Some (read other e m)) p.6

  results_read : (head : ReturnHead) (payload : Payload) → Alike (Return head (Results payload)) → IsRead (Return head (Results payload))
  results_read head payload alike h =
      let m = Return head (Results payload) in
      let sent = Wire true k d noted m in
      let e = Wire false k c references m in
      let name = then_is (λ name. say_return (is_late from sent) payload.fields name (caps_named mine from sent)) (call_answered mine from k true head.answer) M h in
      ap (λ o. option_and_then (λ name. say_return (is_late other e) payload.fields name (caps_named theirs other e)) o) (alike.answers head (Results payload) refl name.0 name.1)
      ∙ return_read other e (is_late from sent) (is_late other e) payload.fields name.0 (caps_named mine from sent) (caps_named theirs other e) M alike.late alike.caps refl name.2

  -- a Return that says its call alone
  bare_read : (head : ReturnHead) (outcome : Outcome) (answer : Name → Message) → ((name : Name) → answer name ≡ read other (Wire false k c references (Return head outcome)) (answer name)) →
      Alike (Return head outcome) → option_map answer (call_answered mine from k true head.answer) ≡ Some M →
      option_map answer (call_answered theirs other k false head.answer) ≡ Some (read other (Wire false k c references (Return head outcome)) M)
  bare_read head outcome answer same alike h =
      let e = Wire false k c references (Return head outcome) in
      let name = mapped_is answer (call_answered mine from k true head.answer) M h in
      ap (λ o. option_map answer o) (alike.answers head outcome refl name.0 name.1) ∙ ap (λ m. Some m) (same name.0) ∙ ap (λ m. Some (read other e m)) name.2

  -- one that takes the results of another call: it is read whole, or was late where it was sent
  module _ (head : ReturnHead) (n : ℕ) (alike : Alike (Return head (TakeFrom n))) where
    abbrev taking : DecodedRecord
    taking = Wire false k c references (Return head (TakeFrom n))

    taken_said : (name by : Name) → call_answered mine from k true head.answer ≡ Some name → option_and_then theirs.call (call_of (id k false n) other) ≡ Some by → message_of_record theirs other taking ≡ Some (message.Taken name by)
    taken_said name by answered from_named =
        ap (λ o. option_and_then (λ name. say_taken false name (option_and_then theirs.call (call_of (id k false n) other))) o) (alike.answers head (TakeFrom n) refl name answered)
        ∙ ap (λ o. say_taken false name o) from_named

    taken_read : (gone : Bool) → is_late from (Wire true k d noted (Return head (TakeFrom n))) ≡ gone → (name : Name) → call_answered mine from k true head.answer ≡ Some name →
        say_taken gone name (option_and_then mine.call (call_of (id k true n) from)) ≡ Some M → ReadsAsSent theirs other taking M
    taken_read true gone name answered h =
        let by = alike.takes head n refl in
        let is : message.Late name ≡ M = cc in
        subst (ReadsAsSent theirs other taking) is (reads_late theirs other taking name by.0 (alike.late gone) (taken_said name by.0 answered by.1))
    taken_read false gone name answered h =
        let by = mapped_is (λ by. message.Taken name by) (option_and_then mine.call (call_of (id k true n) from)) M h in
        subst (ReadsAsSent theirs other taking) by.2 (taken_said name by.0 answered (alike.taken head n refl by.0 by.1))

    taking_read : message_of_record mine from (Wire true k d noted (Return head (TakeFrom n))) ≡ Some M → ReadsAsSent theirs other taking M
    taking_read h =
        let gone = is_late from (Wire true k d noted (Return head (TakeFrom n))) in
        let name = then_is (λ name. say_taken gone name (option_and_then mine.call (call_of (id k true n) from))) (call_answered mine from k true head.answer) M h in
        taken_read gone refl name.0 name.1 name.2

  resolved_read : (n : ℕ) (resolution : Resolution) → Alike (Resolve n resolution) → IsRead (Resolve n resolution)
  resolved_read n resolution alike h =
      let m = Resolve n resolution in
      let sent = Wire true k d noted m in
      let e = Wire false k c references m in
      let x = then_is (λ promise. option_map (say_resolve promise) (caps_named mine from sent)) (promise_named mine from k true n) M h in
      let cs = mapped_is (say_resolve x.0) (caps_named mine from sent) M x.2 in
      ap₂ (λ p caps. option_and_then (λ promise. option_map (say_resolve promise) caps) p) (alike.promise n x.0 x.1) (alike.caps refl cs.0 cs.1)
      ∙ ap (λ m. Some m) (resolve_read other e x.0 cs.0) ∙ ap (λ m. Some (read other e m)) cs.2

  plain_read : (e : DecodedRecord) (p : Message) → read other e p ≡ p → ◌≡◌ {A = Option Message} (Some p) (Some M) → ◌≡◌ {A = Option Message} (Some p) (Some (read other e M))
  plain_read e p same h = let is : p ≡ M = cc in ap (λ m. Some m) (sym same) ∙ ap (λ m. Some (read other e m)) is

  -- it is read as its log says
  so : (m : RpcMessage) → message_of_record theirs other (Wire false k c references m) ≡ Some (read other (Wire false k c references m) M) → ReadsAsSent theirs other (Wire false k c references m) M
  so m h = reads_so theirs other (Wire false k c references m) M h

  pub read_as_said : (m : RpcMessage) → Alike m → message_of_record mine from (Wire true k d noted m) ≡ Some M → ReadsAsSent theirs other (Wire false k c references m) M
  read_as_said (Bootstrap q) alike h = so (Bootstrap q) (boot_read q alike h)
  read_as_said (Call head target params) alike h = so (Call head target params) (call_read head target params alike h)
  read_as_said (Return head (Results payload)) alike h = so (Return head (Results payload)) (results_read head payload alike h)
  read_as_said (Return head Exception) alike h = so (Return head Exception) (bare_read head Exception message.Failed (λ name. refl) alike h)
  read_as_said (Return head Canceled) alike h = so (Return head Canceled) (bare_read head Canceled message.Failed (λ name. refl) alike h)
  read_as_said (Return head Elsewhere) alike h = so (Return head Elsewhere) (bare_read head Elsewhere message.Elsewhere (λ name. refl) alike h)
  read_as_said (Return head (TakeFrom n)) alike h = taking_read head n alike h
  read_as_said (Resolve n resolution) alike h = so (Resolve n resolution) (resolved_read n resolution alike h)
  read_as_said (Finish q release) alike h = so (Finish q release) (plain_read (Wire false k c references (Finish q release)) (message.Plain plain.Finish) refl h)
  read_as_said (Release n count) alike h = so (Release n count) (plain_read (Wire false k c references (Release n count)) (message.Plain plain.Release) refl h)
  read_as_said (Disembargo n loopback target) alike h =
      so (Disembargo n loopback target) (plain_read (Wire false k c references (Disembargo n loopback target)) (message.Plain plain.Disembargo) refl h)
  read_as_said Abort alike h = so Abort (plain_read (Wire false k c references Abort) (message.Plain plain.Abort) refl h)

-- ---- what the ends agree on

promise_gone : (k n : ℕ) (es : Past) → is_in_life (id k false n) es ≡ false → view_of_number (id k false n) es ≡ None
promise_gone k n es h = ap (λ b. option_and_then (view_given (view_of_reference es) false) (if b then last_answer (begins (id k false n)) es else None)) h

module _ (k v : ℕ) (one : Past) (its_steps : List Step) (w : ℕ) (other : Past) (steps : List Step) (e : DecodedRecord) (m : RpcMessage) (from : Past) (its_from : List Step) (sent : DecodedRecord) (s : Step) (message : Message)
    (h : IsHeard k v one its_steps w other steps e m from its_from sent s message) where
  sent_good : Each IsGood (sent ∷ from)
  sent_good = each_before IsGood one (sent ∷ from) h.passed.sent_there h.met.one_good

  -- a number in life where the message comes has one name at both ends
  number_there : (n : ℕ) → is_in_life (id k false n) other ≡ true → HasOneName k n v from its_from w other steps
  number_there n alive =
      let before = before_it one sent from h.passed.sent_there in
      let met = met_before k v one its_steps w other steps from its_from (h.added ++ s ∷ []) h.met before (h.whole ∙ sym (append_assoc h.added (s ∷ []) its_from)) h.paired.1 in
      let cut = h.linked.there m from other sent e h.passed in
      let agree = good_agree k from other sent_good.1 h.met.other_good (linked_before k one (e ∷ other) from other before (e ∷ [], refl) cut h.linked) in
      one_name k n v w from other its_from steps h.paired.1 (all_refer from sent_good.1) cut agree.there met.there alive

  -- a promise is named alike, or is Nothing where it is out of life
  promise_alike : (r : Step) (n : ℕ) (x : Cap) → promise_named (naming v (sent ∷ from) (s ∷ its_from)) from k true n ≡ Some x →
      promise_named (naming w (e ∷ other) (r ∷ steps)) other k false n ≡ Some (if not (is_in_life (id k false n) other) then cap.Nothing else x)
  promise_alike r n x named = elim (cases_Bool (is_in_life (id k false n) other)) [
    | inl alive ↦
        let one = number_there n alive in
        let view = then_is (cap_named v from its_from) (view_of_number (id k true n) from) one.0 one.1 in
        let got = then_is (cap_named w other steps) (view_of_number (id k false n) other) one.0 one.2 in
        let is_sent : option_and_then (cap_named v (sent ∷ from) (s ∷ its_from)) (view_of_number (id k true n) from) ≡ Some one.0 =
        ap (λ o. option_and_then (cap_named v (sent ∷ from) (s ∷ its_from)) o) view.1 ∙ cap_step v from sent its_from s view.0 one.0 (sent_good.0 rule.Ref) view.2 in
        let is_got : option_and_then (cap_named w (e ∷ other) (r ∷ steps)) (view_of_number (id k false n) other) ≡ Some one.0 =
        ap (λ o. option_and_then (cap_named w (e ∷ other) (r ∷ steps)) o) got.1 ∙ cap_step w other e steps r got.0 one.0 (h.good rule.Ref) got.2 in
        let same : ◌≡◌ {A = Option Cap} (Some one.0) (Some x) = sym is_sent ∙ named in
        ap (λ o. Some (unwrap_or o cap.Nothing)) (is_got ∙ same) ∙ ap (λ b. Some (if not b then cap.Nothing else x)) (sym alive)
    | inr gone ↦
        ap (λ o. Some (unwrap_or (option_and_then (cap_named w (e ∷ other) (r ∷ steps)) o) cap.Nothing)) (promise_gone k n other gone)
        ∙ ap (λ b. Some (if not b then cap.Nothing else x)) (sym gone)
  ]

  -- the call that a Return answers is named alike
  answers_alike : (r : Step) (head : ReturnHead) (outcome : Outcome) → m ≡ Return head outcome → is_unreturned (id k true head.answer) other ≡ true → (name : Name) →
      call_answered (naming v (sent ∷ from) (s ∷ its_from)) from k true head.answer ≡ Some name → call_answered (naming w (e ∷ other) (r ∷ steps)) other k false head.answer ≡ Some name
  answers_alike r head outcome is used name named =
      let c = then_is (call_named v (sent ∷ from) (s ∷ its_from)) (call_of (id k false head.answer) from) name named in
      let lasts =
      call_lasts v one (sent ∷ from) its_steps (s ∷ its_from) h.passed.sent_there (h.added, h.whole) (pairs_as_long v one its_steps h.met.one_paired)
      (pairs_as_long v (sent ∷ from) (s ∷ its_from) h.paired) (all_refer one h.met.one_good) c.0 name c.2 in
      let d = answer_is_one k v w one its_steps other steps m from sent e h.met h.linked h.good h.passed head outcome c.0 name is used c.1 lasts in
      ap (λ o. option_and_then (call_named w (e ∷ other) (r ∷ steps)) o) d.1 ∙ call_keeps w (e ∷ []) other (r ∷ []) steps refl (h.good rule.Ref, tt) d.0 name d.2

  -- the call whose results a Return takes is named alike, and has a name in any case
  taken_alike : (r : Step) (n : ℕ) → is_unfinished (id k false n) other ≡ true → (by : Name) → option_and_then (call_named v (sent ∷ from) (s ∷ its_from)) (call_of (id k true n) from) ≡ Some by →
      option_and_then (call_named w (e ∷ other) (r ∷ steps)) (call_of (id k false n) other) ≡ Some by
  taken_alike r n used by named =
      let c = then_is (call_named v (sent ∷ from) (s ∷ its_from)) (call_of (id k true n) from) by named in
      let lasts =
      call_lasts v one (sent ∷ from) its_steps (s ∷ its_from) h.passed.sent_there (h.added, h.whole) (pairs_as_long v one its_steps h.met.one_paired)
      (pairs_as_long v (sent ∷ from) (s ∷ its_from) h.paired) (all_refer one h.met.one_good) c.0 by c.2 in
      let d = call_is_one k v w one its_steps other steps m from sent e h.met h.linked h.good h.passed n c.0 by used c.1 lasts in
      ap (λ o. option_and_then (call_named w (e ∷ other) (r ∷ steps)) o) d.1 ∙ call_keeps w (e ∷ []) other (r ∷ []) steps refl (h.good rule.Ref, tt) d.0 by d.2

  taken_there : (r : Step) (n : ℕ) → is_unfinished (id k false n) other ≡ true → (by : Name) × (option_and_then (call_named w (e ∷ other) (r ∷ steps)) (call_of (id k false n) other) ≡ Some by)
  taken_there r n used =
      let c = unfinished_bound other (all_refer other h.met.other_good) (id k false n) used in
      let name = calls_named w other steps h.met.other_paired c.0 c.2 in
      (name.0, ap (λ o. option_and_then (call_named w (e ∷ other) (r ∷ steps)) o) c.1 ∙ call_keeps w (e ∷ []) other (r ∷ []) steps refl (h.good rule.Ref, tt) c.0 name.0 name.1)

-- ---- together

taken_waiting : (k c : ℕ) (head : ReturnHead) (n : ℕ) (references : List ℕ) (es : Past) → IsGood es (Wire false k c references (Return head (TakeFrom n))) → is_unfinished (id k false n) es ≡ true
taken_waiting k c head n references es good = taken_unfinished es false k c references head n (good rule.QUse)

returns_waiting : (k c : ℕ) (head : ReturnHead) (references : List ℕ) (outcome : Outcome) (es : Past) → IsGood es (Wire false k c references (Return head outcome)) → is_unreturned (id k true head.answer) es ≡ true
returns_waiting k c head references outcome es good = (good rule.QUse).returned_once

module _ (k v w c : ℕ) (one : Past) (its_steps : List Step) (other : Past) (steps : List Step) (references : List ℕ) (m : RpcMessage) (from : Past) (sent : DecodedRecord) (message : Message) where
  abbrev received : DecodedRecord
  received = Wire false k c references m

  -- a message that is heard is read as it was sent
  heard_read : (its_from : List Step) (s : Step) (bound : List Cap) → IsHeard k v one its_steps w other steps received m from its_from sent s message →
      ReadsAsSent (naming w (received ∷ other) (step.Receive w k message bound ∷ steps)) other received message
  heard_read its_from s bound h =
      let r = step.Receive w k message bound in
      let mine = naming v (sent ∷ from) (s ∷ its_from) in
      let theirs = naming w (received ∷ other) (r ∷ steps) in
      let went = passing_is k true m sent h.passed.sends in
      let late = (good_agree k one (received ∷ other) h.met.one_good (h.good, h.met.other_good) h.linked).there.late m from other sent received h.passed in
      let alike : IsReadAlike mine from sent theirs other received k c m message = record {
        calls = λ name is asked asks. answerer_names w other steps r k c references m asked message name asks refl is;
        caps = λ in_time cs named. caps_are_one k v one its_steps w other steps c references m from its_from s message sent bound in_time h cs named;
        target = λ t named. targets_are_one k v one its_steps w other steps c references m from its_from s message sent bound h t named;
        late = late;
        answers = λ head outcome is name named. answers_alike k v one its_steps w other steps received m from its_from sent s message h r head outcome is
            (returns_waiting k c head references outcome other (subst (λ m. IsGood other (Wire false k c references m)) is h.good)) name named;
        taken = λ head n is by named. taken_alike k v one its_steps w other steps received m from its_from sent s message h r n
            (taken_waiting k c head n references other (subst (λ m. IsGood other (Wire false k c references m)) is h.good)) by named;
        takes = λ head n is. taken_there k v one its_steps w other steps received m from its_from sent s message h r n
            (taken_waiting k c head n references other (subst (λ m. IsGood other (Wire false k c references m)) is h.good));
        promise = promise_alike k v one its_steps w other steps received m from its_from sent s message h r;
      } in
      read_as_said mine from theirs other k went.0 c went.1 references message m (subst (λ x. IsReadAlike mine from x theirs other received k c m message) went.2 alike)
      (ap (message_of_record mine from) (sym went.2) ∙ h.says)

  pub message_read : (bound : List Cap) → AreMet k v one its_steps w other steps → AreLinked k one (received ∷ other) → IsGood other received → IsPassed k m one (received ∷ other) from other sent received →
      message_at (length from) its_steps ≡ Some message → ReadsAsSent (naming w (received ∷ other) (step.Receive w k message bound ∷ steps)) other received message
  message_read bound met linked good passed there =
      let p = pair k v one its_steps w other steps c references m from sent message met linked good passed there in
      heard_read p.earlier p.step bound (passed_is_heard k v one its_steps w other steps c references m from sent message met linked good passed there)
