-- What is good by the first edition is good by the later one, and is read so.
use Rattle.std.proofs.Common.{◌≡◌, inl, inr, refl, sym, ◌∙◌, ap, subst, ℕ, zero, suc, ◌+◌, ◌<◌, List, [], ◌∷◌, ◌++◌, Bool, true, false, not, Option, Some, None, if◌then◌else◌, length, take, arith}
use Rattle.std.specs.Prelude.{Result, Ok, Err, is_some, slice_get, reverse, IsSomeAnd, count_by}
use Rattle.std.specs.List.{AllByRecursion, cons_option, filter_map}
use Rattle.std.proofs.lemmas.Bool.{cases_Bool, not-true, false≢true}
use Rattle.std.proofs.lemmas.List.{reverse-append, reverse-reverse}
use Rattle.cap_frame.specs.Segments.{segments_of}
use Rattle.cap_reader.specs.declared.limits.Limits.{Limits}
use Rattle.rpc_view.specs.declared.view_error.ViewError.{ViewError}
use Rattle.rpc_view.specs.Message.{message_of_bytes, is_light}
use Rattle.rpc_view.proofs.Editions.{more_in_frame}
use Rattle.vat_log.specs.Log.{Log, version_number}
use Rattle.vat_log.specs.declared.version.LogVersion.{LogVersion}
use Rattle.vat_log.specs.declared.version.LogVersion.TheVariants.{One, Two, Three}
use Rattle.vat_log.specs.declared.body.Body.{Body}
use Rattle.vat_log.specs.declared.body.Body.TheVariants as body
use Rattle.decoded_records.specs.declared.table_key.TableKey.{TableKey}
use Rattle.decoded_records.specs.Past.{Past, point, id, is, names, last_since}
use Rattle.decoded_records.specs.Questions.{opens, opening, call_at, call_of, question_returned_lightly, returns_lightly, is_returned_lightly}
use Rattle.decoded_records.specs.Views.{view_of_target, view_of_reference, view_of_descriptor, placed_references}
use Rattle.vat_view.specs.Connections.{abort_sent_on, aborts, is_aborted, is_aborted_here, reached_over, is_another, is_elsewhere}
use Rattle.vat_rules.specs.declared.rule.Rule.TheVariants as rule
use Rattle.vat_rules.specs.declared.outcome.Why.{Why}
use Rattle.vat_rules.specs.declared.outcome.Outcome.TheVariants.{Good}
use Rattle.vat_rules.specs.Types.{Edition, First, Later, RpcMessage, Abort, Results, TakeFrom, Call, Return, Resolve, Sender, Disembargo, DecodedRecord, Host, Vow, Fulfil, Break, Make, Field, Deliver, Answer, AnswerBy, Fault, Wire, View, Object, Promise, FieldOf, Import}
use Rattle.vat_rules.specs.Judged.{IsGoodBy}
use Rattle.vat_rules.specs.OfConnections.{IsOpen, LeadsAway, KeepsEmbargo}
use Rattle.vat_rules.specs.OfResults.{ReturnsField, ReturnsFields, ReturnsTaken, ReturnsKnown}
use Rattle.vat_rules.specs.OfCalls.{GoesToGoal}
use Rattle.vat_rules.specs.OfCaps.{is_own_number, NotesView, Describes}
use Rattle.vat_rules.specs.OfPromises.{ResolvesPromise}
use Rattle.vat_rules.specs.Ways.{LeadsTo, LeadsOnTo, AreOneThere, BecameThere, WentOn}
use Rattle.vat_view.specs.Walks.{Leads, LeadsByTurns, AreOne, Became}
use Rattle.vat_view.proofs.Joining.{led_one, led_became}
use Rattle.decoded_records.specs.Lives.{descriptors}
use Rattle.decoded_records.specs.Calls.{request_of}
use Rattle.vat_rules.specs.LogFacts.{Told}
use Rattle.vat_rules.specs.Events.{Reader, event_of, event_or_none, events_before, past_at}
use Rattle.decoded_records.specs.Decoding.{made_with}
use Rattle.vat_rules.specs.Telling.{entries_back, is_delivery, told_of}
use Rattle.vat_rules.specs.First.{AllGood, IsFirst}
use Rattle.vat_rules.specs.Audit.{read_as, why_of, reads_by, reads_within, edition_of_version, edition_of, IsTrueOf}
use Rattle.vat_rules.proofs.Firsts.{told, past_at-more}
use Rattle.vat_rules.proofs.Once.{passed_or, passed_later, passed_now, clash}
use Rattle.vat_rules.proofs.Unique.{as_read, event_is, read_outside}

-- ---- the edition of a version

pub later_if : (v : LogVersion) → version_number v ≡ 3 → Later ≡ edition_of_version v
later_if One h = absurd (let no : ⊥ = omega (arith, h) in no)
later_if Two h = absurd (let no : ⊥ = omega (arith, h) in no)
later_if Three h = refl

pub first_if : (v : LogVersion) → (version_number v ≡ 3 → ⊥) → First ≡ edition_of_version v
first_if One h = refl
first_if Two h = refl
first_if Three h = absurd (h refl)

-- ---- the rules that let more pass

some_and_more : {X : Type 0} (P Q : X → Type 0) → ((x : X) → P x → Q x) → (o : Option X) → IsSomeAnd o P → IsSomeAnd o Q
some_and_more P Q so (Some x) h = so x h
some_and_more P Q so None h = h

aborts_too : (k : ℕ) (e : DecodedRecord) → is k (abort_sent_on e) ≡ true → aborts k e ≡ true
aborts_too k (Wire true j c rs Abort) h = h
aborts_too k _ h = absurd (false≢true h)

aborted_too : (k : ℕ) (past : Past) → is_aborted_here k past ≡ true → is_aborted k past ≡ true
aborted_too k [] h = absurd (false≢true h)
aborted_too k (e ∷ before) h = elim (passed_or (λ b e. is k (abort_sent_on e)) before e h) [
  | inl now ↦ passed_now (λ b e. aborts k e) before e (aborts_too k e now)
  | inr old ↦ passed_later (λ b e. aborts k e) before e (aborted_too k before old)
]

open_more : (before : Past) (e : DecodedRecord) → IsOpen First before e → IsOpen Later before e
open_more before (Wire true k c rs m) h = elim (cases_Bool (is_aborted_here k before)) [
  | inl here ↦ absurd (clash (aborted_too k before here) (not-true (is_aborted k before) h))
  | inr none ↦ ap not none
]
open_more before _ h = h

-- views that may be missing

goes_for_more : (past : Past) (from to : Option View) → LeadsTo past from to → AreOneThere past from to
goes_for_more past from to = some_and_more (λ a. IsSomeAnd to (λ b. Leads past a b)) (λ a. IsSomeAnd to (λ b. AreOne past a b)) (λ a. some_and_more (λ b. Leads past a b) (λ b. AreOne past a b) (λ b. led_one past a b) to) from

became_more : (past : Past) (from to : Option View) → LeadsOnTo past from to → BecameThere past from to
became_more past from to =
    some_and_more (λ a. IsSomeAnd to (λ b. LeadsByTurns past a b)) (λ a. IsSomeAnd to (λ b. Became past a b)) (λ a. some_and_more (λ b. LeadsByTurns past a b) (λ b. Became past a b) (λ b. led_became past a b) to) from

went_on_more : (own : Bool) (past : Past) (from to : Option View) → WentOn First own past from to → WentOn Later own past from to
went_on_more true past from to = became_more past from to
went_on_more false past from to = λ h. h

each_more : {X : Type 0} (P Q : X → Type 0) → ((x : X) → P x → Q x) → (xs : List X) → AllByRecursion P xs → AllByRecursion Q xs
each_more P Q so [] h = tt
each_more P Q so (x ∷ xs) h = (so x h.0, each_more P Q so xs h.1)

goal_more : (before : Past) (e : DecodedRecord) → GoesToGoal First before e → GoesToGoal Later before e
goal_more before (Wire true k call rs (Call head target params)) h =
    let there = view_of_target before (Wire true k call rs (Call head target params)) in
    some_and_more (λ a. LeadsTo before a.goal there × (head.interface ≡ a.interface) × (head.method ≡ a.method)) (λ a. AreOneThere before a.goal there × (head.interface ≡ a.interface) × (head.method ≡ a.method))
    (λ a led. (goes_for_more before a.goal there led.0, led.1, led.2)) (request_of call before) h
goal_more before (Deliver call object) h = h
goal_more before _ h = h

describes_more : (before : Past) (e : DecodedRecord) → Describes First before e → Describes Later before e
describes_more before e h = record {
  noted_each = h.noted_each;
  leads = λ sent in_time. each_more (NotesView First before e) (NotesView Later before e)
      (λ n noted. (goes_for_more before (view_of_reference before n.0) (view_of_descriptor before e n.1) noted.0, noted.1)) (placed_references e) (h.leads sent in_time);
  light = h.light;
  kinds = h.kinds;
}

resolve_more : (before : Past) (e : DecodedRecord) → ResolvesPromise First before e → ResolvesPromise Later before e
resolve_more before (Wire true k c rs (Resolve n resolution)) h = (h.0, λ cap. inl (h.1 cap))
resolve_more before (Wire false k c rs (Resolve n resolution)) h = h
resolve_more before _ h = h

fields_more : (before : Past) (e : DecodedRecord) (fields : List (List ℕ × ℕ)) (call : ℕ) → ReturnsFields First before e fields call → ReturnsFields Later before e fields call
fields_more before e fields call h = (
  h.0,
  each_more (ReturnsField First before e call) (ReturnsField Later before e call)
      (λ field given cap. went_on_more (is_own_number (slice_get (descriptors e) field.1)) before (Some (FieldOf call field.0)) (view_of_descriptor before e field.1) (given cap)) fields h.1,
)

results_more : (before : Past) (e : DecodedRecord) → ReturnsKnown First before e → ReturnsKnown Later before e
results_more before (Wire true k c rs (Return head (TakeFrom n))) h =
    λ in_time. some_and_more (ReturnsTaken First before (call_of (id k true n) before)) (ReturnsTaken Later before (call_of (id k true n) before)) (λ call taken. inl taken)
    (call_at (opening (id k false head.answer) before)) (h in_time)
results_more before (Wire true k c rs (Return head (Results payload))) h = λ in_time.
    let e : DecodedRecord = Wire true k c rs (Return head (Results payload)) in
    let there = h in_time in
    (there.0, some_and_more (ReturnsFields First before e payload.fields) (ReturnsFields Later before e payload.fields) (fields_more before e payload.fields) (call_at (opening (id k false head.answer) before)) there.1)
results_more before _ h = h

elsewhere_if : (k : ℕ) (o : Option ℕ) → is_another k o ≡ true → not (is k o) ≡ true
elsewhere_if k None h = refl
elsewhere_if k (Some j) h = h

elsewhere_more : (k : ℕ) (past : Past) (v : View) → is_elsewhere First k past v ≡ true → is_elsewhere Later k past v ≡ true
elsewhere_more k past (Object object) h = refl
elsewhere_more k past (Promise p) h = refl
elsewhere_more k past (FieldOf call path) h = elsewhere_if k (reached_over past (FieldOf call path)) h
elsewhere_more k past (Import number place) h = elsewhere_if k (reached_over past (Import number place)) h

embargo_more : (before : Past) (e : DecodedRecord) → KeepsEmbargo First before e → KeepsEmbargo Later before e
embargo_more before (Wire true k c rs (Disembargo n Sender target)) h = (
  h.0,
  some_and_more (λ v. LeadsAway First before v k) (λ v. LeadsAway Later before v k) (λ v leads. inl (leads.0, leads.1, elsewhere_more k before leads.0 leads.2))
      (view_of_target before (Wire true k c rs (Disembargo n Sender target))) h.1,
)
embargo_more before _ h = h

-- a record that is good by the first edition is good by the later one
pub keeps_more : (before : Past) (e : DecodedRecord) → IsGoodBy First before e → IsGoodBy Later before e
keeps_more before e good rule.Closed = open_more before e (good rule.Closed)
keeps_more before e good rule.Result = results_more before e (good rule.Result)
keeps_more before e good rule.Emb = embargo_more before e (good rule.Emb)
keeps_more before e good rule.Ref = good rule.Ref
keeps_more before e good rule.Vow = good rule.Vow
keeps_more before e good rule.Here = good rule.Here
keeps_more before e good rule.QNew = good rule.QNew
keeps_more before e good rule.QUse = good rule.QUse
keeps_more before e good rule.XUse = good rule.XUse
keeps_more before e good rule.Goal = goal_more before e (good rule.Goal)
keeps_more before e good rule.Answer = good rule.Answer
keeps_more before e good rule.Desc = describes_more before e (good rule.Desc)
keeps_more before e good rule.Count = good rule.Count
keeps_more before e good rule.Resolve = resolve_more before e (good rule.Resolve)
keeps_more before e good rule.RecvRef = good rule.RecvRef

-- ---- what is read by the first edition

abbrev as_message : RpcMessage → Result RpcMessage Why
as_message m = Ok m

abbrev as_why : Why → Result RpcMessage Why
as_why why = Err why

message_is : (a b : RpcMessage) → as_message a ≡ as_message b → a ≡ b
message_is a b e = cc

why_not : (a : Why) (b : RpcMessage) → as_why a ≡ as_message b → ⊥
why_not a b e = cc

was_read : (r : Result RpcMessage ViewError) (m : RpcMessage) → read_as r ≡ as_message m → r ≡ Ok m
was_read (Ok n) m h = ap (λ (x : RpcMessage). let r : Result RpcMessage ViewError = Ok x in r) (message_is n m h)
was_read (Err e) m h = absurd (why_not (why_of e) m h)

-- a frame that is read by the first edition is read as the same message by the later one
frame_more : (limits : Limits) (bytes : List ℕ) (m : RpcMessage) → reads_by First limits bytes ≡ Ok m → reads_within limits bytes ≡ Ok m
frame_more limits bytes m h = ap read_as (more_in_frame (segments_of bytes) limits m (was_read (message_of_bytes First bytes limits) m h)).0

frame_plain : (limits : Limits) (bytes : List ℕ) (m : RpcMessage) → reads_by First limits bytes ≡ Ok m → is_light m ≡ false
frame_plain limits bytes m h = (more_in_frame (segments_of bytes) limits m (was_read (message_of_bytes First bytes limits) m h)).1

with_more : (f : RpcMessage → DecodedRecord) (r s : Result RpcMessage Why) (e : DecodedRecord) → ((m : RpcMessage) → r ≡ Ok m → s ≡ Ok m) → made_with f r ≡ Ok e → made_with f s ≡ Ok e
with_more f (Ok m) s e so h = ap (made_with f) (so m refl) ∙ h
with_more f (Err why) s e so h = absurd (read_outside e why (sym h))

event_more : (limits : Limits) (b : Body) (e : DecodedRecord) → event_of (reads_by First limits) b ≡ Ok e → event_of (reads_within limits) b ≡ Ok e
event_more limits (body.Send k c rs frame) e h = with_more (Wire true k c rs) (reads_by First limits frame) (reads_within limits frame) e (frame_more limits frame) h
event_more limits (body.Receive k c rs frame) e h = with_more (Wire false k c rs) (reads_by First limits frame) (reads_within limits frame) e (frame_more limits frame) h
event_more limits _ e h = h

-- ---- a log that is good by the first edition

found : (P : Body → Type 0) (o : Option Body) → IsSomeAnd o P → (b : Body) × (o ≡ Some b) × P b
found P (Some b) p = (b, refl, p)
found P None p = absurd p

module _ (limits : Limits) (log : List Body) where
  abbrev first : Reader
  first bytes = reads_by First limits bytes

  abbrev later : Reader
  later bytes = reads_within limits bytes

  past_same : (n : ℕ) → AllGood First first log n → past_at first log n ≡ past_at later log n
  past_same zero all = refl
  past_same (suc n) all =
      let one : suc n ≡ n + 1 = omega arith in
      let this = all n (omega arith) in
      let b = found (λ b. event_of first b ≡ Ok this.0) (slice_get log n) this.1 in
      ap (past_at first log) one ∙ past_at-more first log n b.0 this.0 b.1 b.2 ∙ ap (λ p. this.0 ∷ p) (past_same n (λ j lt. all j (let less : j < suc n = omega (arith, lt) in less)))
      ∙ sym (past_at-more later log n b.0 this.0 b.1 (event_more limits b.0 this.0 b.2)) ∙ sym (ap (past_at later log) one)

  all_more : (n : ℕ) → AllGood First first log n → AllGood Later later log n
  all_more n all i lt =
      let this = all i lt in (
        this.0,
        some_and_more (λ b. event_of first b ≡ Ok this.0) (λ b. event_of later b ≡ Ok this.0) (λ b. event_more limits b this.0) (slice_get log i) this.1,
        subst (λ p. IsGoodBy Later p this.0) (past_same i (λ j less. all j (let fewer : j < n = omega (arith, lt, less) in fewer))) (keeps_more (past_at first log i) this.0 this.2),
      )

  told_same : AllGood First first log (length log) → told_of first log ≡ told_of later log
  told_same all =
      let same : events_before first log (length log) ≡ events_before later log (length log) =
      sym (reverse-reverse (events_before first log (length log))) ∙ ap reverse (past_same (length log) all) ∙ reverse-reverse (events_before later log (length log)) in
      ap (λ (es : List DecodedRecord). told (reverse (entries_back (reverse es))) (count_by is_delivery es)) same

good_by_later : (edition : Edition) (limits : Limits) (log : List Body) (story : Told) → IsFirst edition (reads_by edition limits) log (Good story) → IsFirst Later (reads_within limits) log (Good story)
good_by_later First limits log story h = (all_more limits log (length log) h.0, h.1 ∙ told_same limits log h.0)
good_by_later Later limits log story h = h

-- a log that is good by its edition is good by the later one, with the same records, and tells the same
pub good_logs_good : (log : Log) (limits : Limits) (story : Told) → IsTrueOf log limits (Good story) → IsFirst Later (reads_within limits) log.records (Good story)
good_logs_good log limits story h = good_by_later (edition_of log) limits log.records story h

-- so are its first records
all_by_later : (edition : Edition) (limits : Limits) (log : List Body) (n : ℕ) → AllGood edition (reads_by edition limits) log n → AllGood Later (reads_within limits) log n
all_by_later First limits log n h = all_more limits log n h
all_by_later Later limits log n h = h

pub all_good_later : (log : Log) (limits : Limits) (n : ℕ) → AllGood (edition_of log) (reads_by (edition_of log) limits) log.records n → AllGood Later (reads_within limits) log.records n
all_good_later log limits n h = all_by_later (edition_of log) limits log.records n h

-- ---- by the first edition no Return is light

abbrev IsPlain : DecodedRecord → Type 0
IsPlain e = question_returned_lightly e ≡ None

plain_message : (sent : Bool) (k c : ℕ) (rs : List ℕ) (m : RpcMessage) → is_light m ≡ false → IsPlain (Wire sent k c rs m)
plain_message sent k c rs (Return head outcome) h = ap (λ (light : Bool). if light then Some (id k (not sent) head.answer) else None) h
plain_message sent k c rs _ h = refl

plain_if : (a e : DecodedRecord) → IsPlain a → as_read a ≡ as_read e → IsPlain e
plain_if a e h is = subst IsPlain (event_is a e is) h

plain_with : (sent : Bool) (k c : ℕ) (rs : List ℕ) (r : Result RpcMessage Why) (e : DecodedRecord) → ((m : RpcMessage) → r ≡ Ok m → is_light m ≡ false) → made_with (Wire sent k c rs) r ≡ Ok e → IsPlain e
plain_with sent k c rs (Ok m) e so h = plain_if (Wire sent k c rs m) e (plain_message sent k c rs m (so m refl)) h
plain_with sent k c rs (Err why) e so h = absurd (read_outside e why (sym h))

plain_event : (limits : Limits) (b : Body) (e : DecodedRecord) → event_of (reads_by First limits) b ≡ Ok e → IsPlain e
plain_event limits (body.Host r object) e h = plain_if (Host r object) e refl h
plain_event limits (body.Vow r) e h = plain_if (Vow r) e refl h
plain_event limits (body.Fulfil r to) e h = plain_if (Fulfil r to) e refl h
plain_event limits (body.Break r) e h = plain_if (Break r) e refl h
plain_event limits (body.Make call r interface method) e h = plain_if (Make call r interface method) e refl h
plain_event limits (body.Field r call path) e h = plain_if (Field r call path) e refl h
plain_event limits (body.Deliver call object) e h = plain_if (Deliver call object) e refl h
plain_event limits (body.Answer call results) e h = plain_if (Answer call results) e refl h
plain_event limits (body.Fault call) e h = plain_if (Fault call) e refl h
plain_event limits (body.AnswerBy call by) e h = plain_if (AnswerBy call by) e refl h
plain_event limits (body.Send k c rs frame) e h = plain_with true k c rs (reads_by First limits frame) e (frame_plain limits frame) h
plain_event limits (body.Receive k c rs frame) e h = plain_with false k c rs (reads_by First limits frame) e (frame_plain limits frame) h

all_plain : (limits : Limits) (bs : List Body) → AllByRecursion IsPlain (filter_map (λ b. event_or_none (event_of (reads_by First limits) b)) bs)
all_plain limits [] = tt
all_plain limits (b ∷ bs) = go (event_of (reads_by First limits) b) (plain_event limits b) _ (all_plain limits bs)
  where
    go : (r : Result DecodedRecord Why) → ((e : DecodedRecord) → r ≡ Ok e → IsPlain e) → (rest : List DecodedRecord) → AllByRecursion IsPlain rest → AllByRecursion IsPlain (cons_option (event_or_none r) rest)
    go (Ok e) so rest all = (so e refl, all)
    go (Err why) so rest all = all

all_behind : {X : Type 0} (P : X → Type 0) (xs : List X) (x : X) → AllByRecursion P xs → P x → AllByRecursion P (xs ++ x ∷ [])
all_behind P [] x all h = (h, tt)
all_behind P (y ∷ xs) x all h = (all.0, all_behind P xs x all.1 h)

all_reversed : {X : Type 0} (P : X → Type 0) (xs : List X) → AllByRecursion P xs → AllByRecursion P (reverse xs)
all_reversed P [] all = tt
all_reversed P (x ∷ xs) all = subst (AllByRecursion P) (sym (reverse-append (x ∷ []) xs)) (all_behind P (reverse xs) x (all_reversed P xs all.1) all.0)

none_light : (q : TableKey) (past : Past) → AllByRecursion IsPlain past → is_returned_lightly q past ≡ false
none_light q [] all = refl
none_light q (e ∷ before) all = elim (cases_Bool (opens q before e)) [
  | inl new ↦ ap (λ b. is_some (if b then None else if returns_lightly q before e then Some (point before e) else last_since (opens q) (returns_lightly q) before)) new
  | inr old ↦
      ap (λ b. is_some (if b then None else if returns_lightly q before e then Some (point before e) else last_since (opens q) (returns_lightly q) before)) old
      ∙ ap (λ o. is_some (if names q o then Some (point before e) else last_since (opens q) (returns_lightly q) before)) all.0 ∙ none_light q before all.1
]

-- in a log that is read by the first edition no Return says that no Finish is needed
pub never_light : (limits : Limits) (log : List Body) (i : ℕ) (q : TableKey) → is_returned_lightly q (past_at (reads_by First limits) log i) ≡ false
never_light limits log i q =
    none_light q (past_at (reads_by First limits) log i) (all_reversed IsPlain (events_before (reads_by First limits) log i) (all_plain limits (take i log)))
