-- A question has one call name at both ends: that of the Bootstrap or Call that opened it.
use Rattle.std.proofs.Common.{◌≡◌, refl, sym, ◌∙◌, ap, ap₂, subst, ℕ, suc, ◌<◌, List, [], ◌∷◌, ◌++◌, length, Bool, true, false, not, ◌&&◌, ◌||◌, Option, Some, None, if◌then◌else◌, option_and_then, option_map, length-append, arith, inl, inr}
use Rattle.std.specs.List.{cons_option}
use Rattle.std.specs.Option.{option_or}
use Rattle.std.proofs.lemmas.Bool.{cases_Bool, eq-eqb}
use Rattle.agree.specs.Points.{GoesOn}
use Rattle.agree.specs.Streams.{passing, stream, IsPassed, opening_number}
use Rattle.agree.specs.Agreeing.{AreLinked}
use Rattle.agree.proofs.Points.{through, before_it, same_length, kept, heads, each_so}
use Rattle.agree.proofs.Asking.{asks, opens_is}
use Rattle.agree.proofs.Cuts.{other_way}
use Rattle.agree.proofs.Dying.{asked_some}
use Rattle.agree.proofs.Good.{good_agree}
use Rattle.agree.proofs.Openings.{passing_is, own_linked}
use Rattle.vat_rules.specs.Judged.{IsGood}
use Rattle.vat_rules.specs.declared.rule.Rule.TheVariants as rule
use Rattle.decoded_records.specs.Past.{Past, Point, point, Each, id, last_where}
use Rattle.decoded_records.specs.Questions.{opens, opening, is_over, is_opened, is_returned, is_finished, is_unfinished, is_unreturned, noted_call, call_at, call_of}
use Rattle.decoded_records.specs.Bindings.{Refers}
use Rattle.decoded_records.specs.declared.table_key.TableKey.{TableKey}
use Rattle.call_trace.specs.Types.{Outcome, RpcMessage, Bootstrap, Call, Return, ReturnHead, DecodedRecord, Wire, Name, Cap, Message, Step}
use Rattle.call_trace.specs.Naming.{naming, call_named, message_at, message_of_step}
use Rattle.call_trace.specs.Said.{message_of_record, say_call, caps_named}
use Rattle.call_trace.specs.Part.{Says, PairsOff}
use Rattle.call_trace.specs.Carried.{IsCarried}
use Rattle.call_trace.specs.Running.{AreMet}
use Rattle.call_trace.proofs.Naming.{mapped_is, call_keeps}
use Rattle.call_trace.proofs.Carried.{IsPaired, paired_at, pairs_as_long, each_after}
use Rattle.call_trace.proofs.Within.{message_back}
use Rattle.run_model.specs.Has.{call_in_message}
use Rattle.run_model.specs.declared.message.Message.TheVariants as message
use Rattle.run_model.specs.declared.step.Step.TheVariants as step
use Rattle.decoded_records.specs.Views.{view_of_target}

-- ---- the record that opened a question

pub found_there : (test : Past → DecodedRecord → Bool) (past : Past) (p : Point) → last_where test past ≡ Some p → GoesOn past (p.event ∷ p.before) × (test p.before p.event ≡ true)
found_there test [] p h = absurd (let no : ⊥ = cc in no)
found_there test (e ∷ before) p h = elim (cases_Bool (test before e)) [
  | inl here ↦
      let same : point before e ≡ p = some_is (sym (ap (λ b. if b then Some (point before e) else last_where test before) here) ∙ h) in
      (([], ap (λ p. p.event ∷ p.before) same), sym (ap (λ p. test p.before p.event) same) ∙ here)
  | inr other ↦
      let rest = found_there test before p (sym (ap (λ b. if b then Some (point before e) else last_where test before) other) ∙ h) in
      ((e ∷ rest.0.0, ap (λ l. e ∷ l) rest.0.1), rest.1)
]
  where
    some_is : {a b : Point} → Some a ≡ Some b → a ≡ b
    some_is e = cc

-- a question was opened last by this message, as the n-th that went its way
pub record IsOpened (k : ℕ) (s : Bool) (q n : ℕ) (past : Past) : Type 0 where
  pub event : DecodedRecord
  pub before : Past
  pub message : RpcMessage
  pub there : GoesOn past (event ∷ before)
  pub noted : call_at (opening (id k s q) past) ≡ Some (noted_call event)
  pub passed : passing k s event ≡ Some message
  pub asked : asks q message ≡ true
  pub number : length (stream k s before) ≡ n

pub opened_at : (k : ℕ) (s : Bool) (q n : ℕ) (past : Past) → opening_number (id k s q) past ≡ Some n → IsOpened k s q n past
opened_at k s q n past h =
    let p = mapped_is (λ p. length (stream k s p.before)) (opening (id k s q) past) n h in
    let found = found_there (opens (id k s q)) past p.0 p.1 in
    let m = asked_some (asks q) (passing k s p.0.event) (sym (opens_is (id k s q) p.0.event) ∙ found.1) in
    record { event = p.0.event; before = p.0.before; message = m.0; there = found.0; noted = ap call_at p.1; passed = m.1; asked = m.2; number = p.2 }

-- where a question has a call, it has an opening
pub opening_of_call : (q : TableKey) (past : Past) (c : ℕ) → call_at (opening q past) ≡ Some c → (n : ℕ) × (opening_number q past ≡ Some n)
opening_of_call q past c h =
    let p = mapped_is (λ p. noted_call p.event) (opening q past) c h in
    (length (stream q.connection q.ours p.0.before), ap (λ o. option_map (λ p. length (stream q.connection q.ours p.before)) o) p.1)

-- the n-th messages of two ends are one
pub passed_alike : (k q n : ℕ) (asker answerer a b : Past) → GoesOn (stream k true asker) (stream k false answerer) → GoesOn asker a → GoesOn answerer b →
    (x : IsOpened k true q n a) → (y : IsOpened k false q n b) → IsPassed k x.message asker answerer x.before y.before x.event y.event
passed_alike k q n asker answerer a b link to_a to_b x y =
    let there = through asker a (x.event ∷ x.before) to_a x.there in
    let came = through answerer b (y.event ∷ y.before) to_b y.there in
    let gone : GoesOn (stream k true asker) (x.message ∷ stream k true x.before) =
    subst (λ o. GoesOn (stream k true asker) (cons_option o (stream k true x.before))) x.passed (kept (passing k true) asker (x.event ∷ x.before) there) in
    let got : GoesOn (stream k true asker) (y.message ∷ stream k false y.before) =
    through (stream k true asker) (stream k false answerer) (y.message ∷ stream k false y.before) link
    (subst (λ o. GoesOn (stream k false answerer) (cons_option o (stream k false y.before))) y.passed (kept (passing k false) answerer (y.event ∷ y.before) came)) in
    let same = same_length (stream k true asker) (x.message ∷ stream k true x.before) (y.message ∷ stream k false y.before) gone got (ap suc (x.number ∙ sym y.number)) in
    record {
      sent_there = there;
      received_there = came;
      sends = x.passed;
      receives = y.passed ∙ ap (λ m. Some m) (sym (heads same));
      same_number = x.number ∙ sym y.number;
    }

-- ---- its name at each end

-- the message of a Bootstrap or Call that is sent has the name of the call noted beside it
pub record NamesCall (v : ℕ) (before : Past) (earlier : List Step) (e : DecodedRecord) (s : Step) : Type 0 where
  pub message : Message
  pub name : Name
  pub sent : message_of_step s ≡ Some message
  pub calls : call_in_message message ≡ Some name
  pub named : call_named v (e ∷ before) (s ∷ earlier) (noted_call e) ≡ Some name

call_said : (interface method : ℕ) (caps : Option (List Cap)) (name : Option Name) (target : Option Cap) (m : Message) → say_call interface method caps name target ≡ Some m → (n : Name) × (name ≡ Some n) × (call_in_message m ≡ Some n)
call_said interface method (Some caps) (Some name) (Some target) m h = (name, refl, let same : message.Call name target interface method caps ≡ m = cc in ap call_in_message (sym same))
call_said interface method None name target m h = absurd (let no : ⊥ = cc in no)
call_said interface method (Some caps) None target m h = absurd (let no : ⊥ = cc in no)
call_said interface method (Some caps) (Some name) None m h = absurd (let no : ⊥ = cc in no)

asker_names : (v : ℕ) (before : Past) (earlier : List Step) (s : Step) (k c : ℕ) (rs : List ℕ) (m : RpcMessage) (q : ℕ) → asks q m ≡ true → Says v before earlier (Wire true k c rs m) s → NamesCall v before earlier (Wire true k c rs m) s
asker_names v before earlier s k c rs (Bootstrap p) q h says =
    let e = Wire true k c rs (Bootstrap p) in
    let names = naming v (e ∷ before) (s ∷ earlier) in
    let M = mapped_is (λ M. step.Send v k M) (message_of_record names before e) s says in
    let boot = mapped_is message.Boot (names.call c) M.0 M.1 in
    record { message = M.0; name = boot.0; sent = ap message_of_step (sym M.2); calls = ap call_in_message (sym boot.2); named = boot.1 }
asker_names v before earlier s k c rs (Call head target params) q h says =
    let e = Wire true k c rs (Call head target params) in
    let names = naming v (e ∷ before) (s ∷ earlier) in
    let M = mapped_is (λ M. step.Send v k M) (message_of_record names before e) s says in
    let name = call_said head.interface head.method (caps_named names before e) (names.call c) (option_and_then names.cap (view_of_target before e)) M.0 M.1 in
    record { message = M.0; name = name.0; sent = ap message_of_step (sym M.2); calls = name.2; named = name.1 }
asker_names v before earlier s k c rs m q h says = absurd (let no : ⊥ = cc in no)

pub answerer_names : (w : ℕ) (before : Past) (earlier : List Step) (s : Step) (k c : ℕ) (rs : List ℕ) (m : RpcMessage) (q : ℕ) (M : Message) (name : Name) → asks q m ≡ true → message_of_step s ≡ Some M → call_in_message M ≡ Some name →
    call_named w (Wire false k c rs m ∷ before) (s ∷ earlier) c ≡ Some name
answerer_names w before earlier s k c rs (Bootstrap p) q M name h is calls =
    ap (λ b. option_or (if b then option_and_then call_in_message (message_of_step s) else None) (call_named w before earlier c)) (eq-eqb c c refl)
    ∙ ap (λ o. option_or (option_and_then call_in_message o) (call_named w before earlier c)) is ∙ ap (λ o. option_or o (call_named w before earlier c)) calls
answerer_names w before earlier s k c rs (Call head target params) q M name h is calls =
    ap (λ b. option_or (if b then option_and_then call_in_message (message_of_step s) else None) (call_named w before earlier c)) (eq-eqb c c refl)
    ∙ ap (λ o. option_or (option_and_then call_in_message o) (call_named w before earlier c)) is ∙ ap (λ o. option_or o (call_named w before earlier c)) calls
answerer_names w before earlier s k c rs m q M name h is calls = absurd (let no : ⊥ = cc in no)

-- ---- names of a point last

suffix_as_long : {A B : Type 0} (one later es : List A) (xs added steps : List B) → one ≡ later ++ es → xs ≡ added ++ steps → length one ≡ length xs → length es ≡ length steps → length later ≡ length added
suffix_as_long one later es xs added steps p q e f = omega (arith, ap length p, ap length q, e, f, length-append later es, length-append added steps)

pub call_lasts : (v : ℕ) (one es : Past) (xs steps : List Step) → GoesOn one es → GoesOn xs steps → length one ≡ length xs → length es ≡ length steps → Each Refers one → (c : ℕ) (name : Name) →
    call_named v es steps c ≡ Some name → call_named v one xs c ≡ Some name
call_lasts v one es xs steps log run all some refers c name h =
    ap₂ (λ es steps. call_named v es steps c) log.1 run.1
    ∙ call_keeps v log.0 es run.0 steps (suffix_as_long one log.0 es xs run.0 steps log.1 run.1 all some) (each_after log.0 es (subst (Each Refers) log.1 refers)) c name h

-- the message of a step stands at its number in the whole
pub message_from : (xs steps : List Step) → GoesOn xs steps → (i : ℕ) → i < length steps → message_at i xs ≡ message_at i steps
message_from xs steps run i lt = ap (message_at i) run.1 ∙ message_back i run.0 steps lt

pub message_of_pair : (v : ℕ) (xs : List Step) (later : List DecodedRecord) (e : DecodedRecord) (before : Past) (p : IsPaired v xs later e before) → message_at (length before) xs ≡ message_of_step p.step
message_of_pair v xs later e before p =
    let same : length p.earlier ≡ length before = sym (pairs_as_long v before p.earlier p.paired.1) in
    message_from xs (p.step ∷ p.earlier) (p.added, p.whole) (length before) (omega (arith, same))
    ∙ ap (λ b. if b then message_of_step p.step else message_at (length before) p.earlier) (eq-eqb (length p.earlier) (length before) same)

-- ---- both ends

module _ (k v w : ℕ) (asker : Past) (xs : List Step) (answerer : Past) (ys : List Step) (part : PairsOff v asker xs) (other_part : PairsOff w answerer ys) (refers : Each Refers asker)
    (other_refers : Each Refers answerer) (carried : IsCarried k asker xs answerer ys) where
  -- the call of an opening that passed has one name at both ends
  both_named : (m : RpcMessage) (q : ℕ) (a b : Past) (x y : DecodedRecord) → asks q m ≡ true → IsPassed k m asker answerer a b x y →
      (name : Name) × (call_named v asker xs (noted_call x) ≡ Some name) × (call_named w answerer ys (noted_call y) ≡ Some name)
  both_named m q a b x y h p =
      let left = paired_at v p.sent_there.0 x a xs (subst (λ es. PairsOff v es xs) p.sent_there.1 part) in
      let right = paired_at w p.received_there.0 y b ys (subst (λ es. PairsOff w es ys) p.received_there.1 other_part) in
      let went = passing_is k true m x p.sends in
      let came = passing_is k false m y p.receives in
      let e = Wire true k went.0 went.1 m in
      let n = asker_names v a left.earlier left.step k went.0 went.1 m q h (subst (λ e. Says v a left.earlier e left.step) went.2 left.paired.0) in
      let got : message_of_step right.step ≡ Some n.message =
      sym (message_of_pair w ys p.received_there.0 y b right) ∙ carried m a b x y p ∙ message_of_pair v xs p.sent_there.0 x a left ∙ n.sent in
      let there : call_named v (x ∷ a) (left.step ∷ left.earlier) (noted_call x) ≡ Some n.name =
      ap (λ e. call_named v (e ∷ a) (left.step ∷ left.earlier) (noted_call e)) went.2 ∙ n.named in
      let here : call_named w (y ∷ b) (right.step ∷ right.earlier) (noted_call y) ≡ Some n.name =
      ap (λ e. call_named w (e ∷ b) (right.step ∷ right.earlier) (noted_call e)) came.2 ∙ answerer_names w b right.earlier right.step k came.0 came.1 m q n.message n.name h got n.calls in (
        n.name,
        call_lasts v asker (x ∷ a) xs (left.step ∷ left.earlier) p.sent_there (left.added, left.whole) (pairs_as_long v asker xs part) (pairs_as_long v (x ∷ a) (left.step ∷ left.earlier) left.paired) refers
            (noted_call x) n.name there,
        call_lasts w answerer (y ∷ b) ys (right.step ∷ right.earlier) p.received_there (right.added, right.whole) (pairs_as_long w answerer ys other_part)
            (pairs_as_long w (y ∷ b) (right.step ∷ right.earlier) right.paired) other_refers (noted_call y) n.name here,
      )

  -- so the call of a question, where both ends speak of one opening
  pub record IsOneCall (q : ℕ) (a b : Past) : Type 0 where
    pub mine : ℕ
    pub theirs : ℕ
    pub name : Name
    pub asked : call_at (opening (id k true q) a) ≡ Some mine
    pub answered : call_at (opening (id k false q) b) ≡ Some theirs
    pub asker_names : call_named v asker xs mine ≡ Some name
    pub answerer_names : call_named w answerer ys theirs ≡ Some name

  question_named : GoesOn (stream k true asker) (stream k false answerer) → (q n : ℕ) (a b : Past) → GoesOn asker a → GoesOn answerer b → opening_number (id k true q) a ≡ Some n →
      opening_number (id k false q) b ≡ Some n → IsOneCall q a b
  question_named link q n a b to_a to_b h g =
      let x = opened_at k true q n a h in
      let y = opened_at k false q n b g in
      let names = both_named x.message q x.before y.before x.event y.event x.asked (passed_alike k q n asker answerer a b link to_a to_b x y) in
      record { mine = noted_call x.event; theirs = noted_call y.event; name = names.0; asked = x.noted; answered = y.noted; asker_names = names.1; answerer_names = names.2 }

-- ---- a question that a message names

unfinished_used : (o r f : Bool) → (o && not f) ≡ true → (not o || (r && f)) ≡ false
unfinished_used true true false h = refl
unfinished_used true false false h = refl
unfinished_used true r true h = absurd (let no : ⊥ = cc in no)
unfinished_used false r f h = absurd (let no : ⊥ = cc in no)

unreturned_used : (o r f : Bool) → (o && not r) ≡ true → (not o || (r && f)) ≡ false
unreturned_used true false f h = refl
unreturned_used true true f h = absurd (let no : ⊥ = cc in no)
unreturned_used false r f h = absurd (let no : ⊥ = cc in no)

pub call_in_use : (q : TableKey) (past : Past) (c : ℕ) → call_of q past ≡ Some c → call_at (opening q past) ≡ Some c
call_in_use q past c h = at (is_over q past) h
  where
    at : (b : Bool) → (if b then None else call_at (opening q past)) ≡ Some c → call_at (opening q past) ≡ Some c
    at true h = absurd (let no : ⊥ = cc in no)
    at false h = h

pub all_refer : (past : Past) → Each IsGood past → Each Refers past
all_refer past good = each_so IsGood Refers (λ b e g. g rule.Ref) past good

same_some : {A : Type 0} (x y : A) → Some x ≡ Some y → x ≡ y
same_some x y h = cc

-- where a message from one end comes to the other
module _ (k v w : ℕ) (one : Past) (its_steps : List Step) (other : Past) (steps : List Step) (m : RpcMessage) (from : Past) (sent e : DecodedRecord) (met : AreMet k v one its_steps w other steps)
    (linked : AreLinked k one (e ∷ other)) (good : IsGood other e) (passed : IsPassed k m one (e ∷ other) from other sent e) where
  -- a question of its sender's that it uses has one call at both ends
  pub call_is_one : (q c : ℕ) (name : Name) → is_unfinished (id k false q) other ≡ true → call_of (id k true q) from ≡ Some c → call_named v one its_steps c ≡ Some name →
      (d : ℕ) × (call_of (id k false q) other ≡ Some d) × (call_named w other steps d ≡ Some name)
  call_is_one q c name used h named =
      let asked = call_in_use (id k true q) from c h in
      let n = opening_of_call (id k true q) from c asked in
      let link = through (stream k true one) (stream k false (e ∷ other)) (stream k false other) linked.cut.to_other (kept (passing k false) (e ∷ other) other (e ∷ [], refl)) in
      let r = question_named k v w one its_steps other steps met.one_paired met.other_paired (all_refer one met.one_good) (all_refer other met.other_good) met.there link q n.0 from other
      (before_it one sent from passed.sent_there) ([], refl) n.1 (sym (own_linked k one (e ∷ other) linked q m from other sent e passed) ∙ n.1) in
      let same : r.mine ≡ c = same_some r.mine c (sym r.asked ∙ asked) in
      let as_named : r.name ≡ name = same_some r.name name (sym r.asker_names ∙ ap (call_named v one its_steps) same ∙ named) in (
        r.theirs,
        ap (λ b. if b then None else call_at (opening (id k false q) other))
            (unfinished_used (is_opened (id k false q) other) (is_returned (id k false q) other) (is_finished (id k false q) other) used) ∙ r.answered,
        r.answerer_names ∙ ap (λ n. Some n) as_named,
      )

  -- and so the question of its receiver's that a Return answers
  pub answer_is_one : (head : ReturnHead) (outcome : Outcome) (c : ℕ) (name : Name) → m ≡ Return head outcome → is_unreturned (id k true head.answer) other ≡ true → call_of (id k false head.answer) from ≡ Some c →
      call_named v one its_steps c ≡ Some name → (d : ℕ) × (call_of (id k true head.answer) other ≡ Some d) × (call_named w other steps d ≡ Some name)
  answer_is_one head outcome c name is used h named =
      let answered = call_in_use (id k false head.answer) from c h in
      let n = opening_of_call (id k false head.answer) from c answered in
      let agree = (good_agree k one (e ∷ other) met.one_good (good, met.other_good) linked).there.openings in
      let same_opening = agree head outcome from other sent e (subst (λ m. IsPassed k m one (e ∷ other) from other sent e) is passed) in
      let nothing : passing k true e ≡ None = other_way k false m e passed.receives in
      let link : GoesOn (stream k true other) (stream k false one) = subst (λ o. GoesOn (cons_option o (stream k true other)) (stream k false one)) nothing linked.cut.to_one in
      let r = question_named k w v other steps one its_steps met.other_paired met.one_paired (all_refer other met.other_good) (all_refer one met.one_good) met.back link head.answer n.0 other from ([], refl)
      (before_it one sent from passed.sent_there) (sym same_opening ∙ n.1) n.1 in
      let same : r.theirs ≡ c = same_some r.theirs c (sym r.answered ∙ answered) in
      let as_named : r.name ≡ name = same_some r.name name (sym r.answerer_names ∙ ap (call_named v one its_steps) same ∙ named) in (
        r.mine,
        ap (λ b. if b then None else call_at (opening (id k true head.answer) other))
            (unreturned_used (is_opened (id k true head.answer) other) (is_returned (id k true head.answer) other) (is_finished (id k true head.answer) other) used) ∙ r.asked,
        r.asker_names ∙ ap (λ n. Some n) as_named,
      )
