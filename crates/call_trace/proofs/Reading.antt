-- What a good finding says of its log, and how the frames that a vat sent and received are the messages of its past.
use Rattle.std.proofs.Common.{◌≡◌, refl, sym, ◌∙◌, ap, ap₂, subst, ℕ, zero, suc, ◌+◌, ◌<◌, ◌≤◌, ◌==◌, List, [], ◌∷◌, ◌++◌, length, take, reverse, Bool, true, false, cond, ◌&&◌, Option, Some, None, Result, Ok, Err, if◌then◌else◌, option_and_then, slice_get, arith}
use Rattle.std.specs.Prelude.{IsSomeAnd}
use Rattle.std.specs.Bool.{beq}
use Rattle.std.specs.List.{cons_option, filter_map, count_by}
use Rattle.std.proofs.lemmas.List.{append-nil, reverse-append}
use Rattle.std.proofs.lemmas.List.Elements.{filter_map-append}
use Rattle.std.proofs.lemmas.List.Sums.{sum_by_push}
use Rattle.std.proofs.lemmas.Option.{slice_get_within, get_or_from_slice_get}
use Rattle.std.proofs.Math.Seq.{take-suc}
use Rattle.agree.specs.Streams.{passing, stream}
use Rattle.agree.proofs.Dying.{eqb_turns}
use Rattle.cap_reader.specs.declared.limits.Limits.{Limits}
use Rattle.vat_log.specs.Log.{Log}
use Rattle.vat_log.specs.declared.body.Body.{Body}
use Rattle.vat_log.specs.declared.body.Body.TheVariants as body
use Rattle.vat_log.specs.Passages.{frame_sent, frame_received, sends_frame, receives_frame}
use Rattle.vat_rules.specs.declared.outcome.Why.{Why}
use Rattle.vat_rules.specs.declared.outcome.Outcome.{Outcome}
use Rattle.vat_rules.specs.declared.outcome.Outcome.TheVariants as outcome
use Rattle.vat_rules.specs.Audit.{Found, IsTrueOf, reads_within}
use Rattle.vat_rules.specs.Events.{Reader, event_of, event_or_none}
use Rattle.decoded_records.specs.Decoding.{made_with}
use Rattle.vat_rules.specs.First.{IsGoodAt, AllGood}
use Rattle.vat_rules.specs.Types.{Later}
use Rattle.vat_rules.proofs.Editions.{good_logs_good}
use Rattle.vat_rules.specs.Judged.{IsGood}
use Rattle.decoded_records.specs.Past.{Each}
use Rattle.call_trace.specs.Types.{RpcMessage, DecodedRecord, Wire}
use Rattle.call_trace.specs.Findings.{is_good}
use Rattle.call_trace.specs.Named.{past_before}
use Rattle.call_trace.specs.Taking.{event_in, record_in}
use Rattle.call_trace.proofs.Taking.{log_more}

-- ---- good records

-- record i of a finding's log is there, is read, and is good after those before it
pub record IsGoodRecord (f : Found) (i : ℕ) : Type 0 where
  pub body : Body
  pub event : DecodedRecord
  pub there : slice_get f.log.records i ≡ Some body
  pub reads : event_of (reads_within f.limits) body ≡ Ok event
  pub good : IsGood (past_before f i) event

abbrev pub AllRecordsGood : Found → Type 0
AllRecordsGood f = (i : ℕ) → i < length f.log.records → IsGoodRecord f i

pub there_is : (P : Body → Type 0) (o : Option Body) → IsSomeAnd o P → (b : Body) × (o ≡ Some b) × P b
there_is P (Some b) p = (b, refl, p)
there_is P None p = absurd p

good_record : (f : Found) (i : ℕ) → IsGoodAt Later (reads_within f.limits) f.log.records i → IsGoodRecord f i
good_record f i g =
    let b = there_is (λ b. event_of (reads_within f.limits) b ≡ Ok g.0) (slice_get f.log.records i) g.1 in
    record { body = b.0; event = g.0; there = b.1; reads = b.2; good = g.2 }

-- whichever edition a log is judged by, its records are good by the later one
all_of : (log : Log) (limits : Limits) (o : Outcome) → IsTrueOf log limits o → is_good o ≡ true → AllGood Later (reads_within limits) log.records (length log.records)
all_of log limits (outcome.Good story) first good = (good_logs_good log limits story first).0
all_of log limits (outcome.Broken at rule) first good = absurd (let no : ⊥ = cc in no)
all_of log limits (outcome.Outside at why) first good = absurd (let no : ⊥ = cc in no)

pub records_good : (f : Found) → IsTrueOf f.log f.limits f.outcome → is_good f.outcome ≡ true → AllRecordsGood f
records_good f first good = λ i lt. good_record f i (all_of f.log f.limits f.outcome first good i lt)

pub reads_record : (f : Found) (i : ℕ) (r : IsGoodRecord f i) → record_in f i ≡ Some r.event
reads_record f i r = ap (λ o. option_and_then (event_in f) o) r.there ∙ ap event_or_none r.reads

-- one record more of a good log
pub good_more : (f : Found) (i : ℕ) (r : IsGoodRecord f i) → past_before f (i + 1) ≡ r.event ∷ past_before f i
good_more f i r = log_more f i ∙ ap (λ o. cons_option o (past_before f i)) (reads_record f i r)

pub each_good : (f : Found) → AllRecordsGood f → (n : ℕ) → n ≤ length f.log.records → Each IsGood (past_before f n)
each_good f all zero le = tt
each_good f all (suc n) le =
    let r = all n (omega (arith, le)) in
    let one : n + 1 ≡ suc n = omega arith in
    subst (λ p. Each IsGood p) (sym (good_more f n r) ∙ ap (past_before f) one) (r.good, each_good f all n (omega (arith, le)))

-- ---- how many messages passed

pub with_is : (event : RpcMessage → DecodedRecord) (r : Result RpcMessage Why) (e : DecodedRecord) → made_with event r ≡ Ok e → (m : RpcMessage) × (r ≡ Ok m) × (e ≡ event m)
with_is event (Ok m) e h = (m, refl, let same : e ≡ event m = cc in same)
with_is event (Err why) e h = absurd (let no : ⊥ = cc in no)

counts_if : (b : Bool) (m : RpcMessage) (str : List RpcMessage) → length (cons_option (if b && true then Some m else None) str) ≡ length str + cond b 1 0
counts_if true m str = omega arith
counts_if false m str = omega arith

none_if : (b : Bool) (m : RpcMessage) (str : List RpcMessage) → length (cons_option (if b && false then Some m else None) str) ≡ length str + 0
none_if true m str = omega arith
none_if false m str = omega arith

-- a record of the vat's own passes nothing
passes_none : (k : ℕ) (s : Bool) (x e : DecodedRecord) → ◌≡◌ {A = Result DecodedRecord Why} (Ok x) (Ok e) → passing k s x ≡ None → (str : List RpcMessage) → length (cons_option (passing k s e) str) ≡ length str + 0
passes_none k s x e same none str =
    let at : x ≡ e = cc in
    ap (λ o. length (cons_option o str)) (ap (passing k s) (sym at) ∙ none) ∙ (let more : length str ≡ length str + 0 = omega arith in more)

-- a record that is read passes a message on the connection exactly where it sends a frame there
pub read_sends : (k : ℕ) (read : Reader) (b : Body) (e : DecodedRecord) → event_of read b ≡ Ok e → (str : List RpcMessage) → length (cons_option (passing k true e) str) ≡ length str + cond (sends_frame k b) 1 0
read_sends k read (body.Send on c rs fr) e h str =
    let at = with_is (Wire true on c rs) (read fr) e h in
    ap (λ e. length (cons_option (passing k true e) str)) at.2 ∙ ap (λ b. length (cons_option (if b && true then Some at.0 else None) str)) (eqb_turns k on) ∙ counts_if (on == k) at.0 str
read_sends k read (body.Receive on c rs fr) e h str =
    let at = with_is (Wire false on c rs) (read fr) e h in
    ap (λ e. length (cons_option (passing k true e) str)) at.2 ∙ none_if (k == on) at.0 str
read_sends k read b e h str = passes_none k true _ e h refl str

-- or receives one
pub read_receives : (k : ℕ) (read : Reader) (b : Body) (e : DecodedRecord) → event_of read b ≡ Ok e → (str : List RpcMessage) → length (cons_option (passing k false e) str) ≡ length str + cond (receives_frame k b) 1 0
read_receives k read (body.Receive on c rs fr) e h str =
    let at = with_is (Wire false on c rs) (read fr) e h in
    ap (λ e. length (cons_option (passing k false e) str)) at.2 ∙ ap (λ b. length (cons_option (if b && true then Some at.0 else None) str)) (eqb_turns k on) ∙ counts_if (on == k) at.0 str
read_receives k read (body.Send on c rs fr) e h str =
    let at = with_is (Wire true on c rs) (read fr) e h in
    ap (λ e. length (cons_option (passing k false e) str)) at.2 ∙ none_if (k == on) at.0 str
read_receives k read b e h str = passes_none k false _ e h refl str

take-more : {A : Type 0} (xs : List A) (at : ℕ) (x : A) → slice_get xs at ≡ Some x → take (at + 1) xs ≡ take at xs ++ x ∷ []
take-more xs at x here =
    let within : at < length xs = slice_get_within xs at x here in
    let one : at + 1 ≡ suc at = omega arith in
    rw (one, take-suc xs at x within, get_or_from_slice_get xs at x x here) refl

count_more : (p : Body → Bool) (xs : List Body) (n : ℕ) (b : Body) → slice_get xs n ≡ Some b → count_by p (take (suc n) xs) ≡ count_by p (take n xs) + cond (p b) 1 0
count_more p xs n b there =
    let one : n + 1 ≡ suc n = omega arith in
    let within : n < length xs = slice_get_within xs n b there in
    ap (λ m. count_by p (take m xs)) (sym one) ∙ ap (count_by p) (take-more xs n b there) ∙ sum_by_push (λ x. cond (p x) 1 0) (take n xs) b

-- so many messages passed by the first n records of a good log as frames did
module _ (k : ℕ) (s : Bool) (counts : Body → Bool)
    (each : (read : Reader) (b : Body) (e : DecodedRecord) → event_of read b ≡ Ok e → (str : List RpcMessage) → length (cons_option (passing k s e) str) ≡ length str + cond (counts b) 1 0) where
  pub as_many : (f : Found) → AllRecordsGood f → (n : ℕ) → n ≤ length f.log.records → length (stream k s (past_before f n)) ≡ count_by counts (take n f.log.records)
  as_many f all zero le = refl
  as_many f all (suc n) le =
      let r = all n (omega (arith, le)) in
      let one : n + 1 ≡ suc n = omega arith in
      let so_far = as_many f all n (omega (arith, le)) in
      ap (λ m. length (stream k s (past_before f m))) (sym one) ∙ ap (λ p. length (stream k s p)) (good_more f n r) ∙ each (reads_within f.limits) r.body r.event r.reads (stream k s (past_before f n))
      ∙ ap (λ m. m + cond (counts r.body) 1 0) so_far ∙ sym (count_more counts f.log.records n r.body r.there)

pub as_many_sent : (k : ℕ) (f : Found) → AllRecordsGood f → (n : ℕ) → n ≤ length f.log.records → length (stream k true (past_before f n)) ≡ count_by (sends_frame k) (take n f.log.records)
as_many_sent k = as_many k true (sends_frame k) (read_sends k)

pub as_many_received : (k : ℕ) (f : Found) → AllRecordsGood f → (n : ℕ) → n ≤ length f.log.records → length (stream k false (past_before f n)) ≡ count_by (receives_frame k) (take n f.log.records)
as_many_received k = as_many k false (receives_frame k) (read_receives k)

-- ---- which messages passed

-- the message of a frame, where it is one
abbrev pub message_or_none : Result RpcMessage Why → Option RpcMessage
message_or_none (Ok m) = Some m
message_or_none (Err why) = None

abbrev pub message_in : Found → List ℕ → Option RpcMessage
message_in f frame = message_or_none (reads_within f.limits frame)

frame_if : (b : Bool) (m : Option RpcMessage) (get : List ℕ → Option RpcMessage) (frame : List ℕ) → get frame ≡ m → (if b && true then m else None) ≡ option_and_then get (if b then Some frame else None)
frame_if true m get frame e = sym e
frame_if false m get frame e = refl

frame_passed : (k on c : ℕ) (rs frame : List ℕ) (s : Bool) (get : List ℕ → Option RpcMessage) (r : Result RpcMessage Why) → beq s s ≡ true → get frame ≡ message_or_none r →
    option_and_then (passing k s) (event_or_none (made_with (Wire s on c rs) r)) ≡ option_and_then get (if on == k then Some frame else None)
frame_passed k on c rs frame s get (Ok m) same e =
    ap (λ b. if (k == on) && b then Some m else None) same ∙ ap (λ b. if b && true then Some m else None) (eqb_turns k on) ∙ frame_if (on == k) (Some m) get frame e
frame_passed k on c rs frame s get (Err why) same e = nothing (on == k)
  where
    nothing : (b : Bool) → None ≡ option_and_then get (if b then Some frame else None)
    nothing true = sym e
    nothing false = refl

none_passed : (k on c : ℕ) (rs : List ℕ) (s t : Bool) (r : Result RpcMessage Why) → beq s t ≡ false → option_and_then (passing k s) (event_or_none (made_with (Wire t on c rs) r)) ≡ None
none_passed k on c rs s t (Err why) apart = refl
none_passed k on c rs s t (Ok m) apart = ap (λ b. if (k == on) && b then Some m else None) apart ∙ at (k == on)
  where
    at : (b : Bool) → (if b && false then Some m else None) ≡ None
    at true = refl
    at false = refl

pub message_sent : (k : ℕ) (f : Found) (b : Body) → option_and_then (passing k true) (event_in f b) ≡ option_and_then (message_in f) (frame_sent k b)
message_sent k f (body.Send on c rs fr) = frame_passed k on c rs fr true (message_in f) (reads_within f.limits fr) refl refl
message_sent k f (body.Receive on c rs fr) = none_passed k on c rs true false (reads_within f.limits fr) refl
message_sent k f b = refl

pub message_received : (k : ℕ) (f : Found) (b : Body) → option_and_then (passing k false) (event_in f b) ≡ option_and_then (message_in f) (frame_received k b)
message_received k f (body.Receive on c rs fr) = frame_passed k on c rs fr false (message_in f) (reads_within f.limits fr) refl refl
message_received k f (body.Send on c rs fr) = none_passed k on c rs false true (reads_within f.limits fr) refl
message_received k f b = refl

-- ---- what one vat received and the other sent

kept_through : {A B C : Type 0} (f : A → Option B) (g : B → Option C) (xs : List A) → filter_map g (filter_map f xs) ≡ filter_map (λ x. option_and_then g (f x)) xs
kept_through f g [] = refl
kept_through f g (x ∷ xs) = at (f x) ∙ ap (λ l. cons_option (option_and_then g (f x)) l) (kept_through f g xs)
  where
    at : (o : Option _) → filter_map g (cons_option o (filter_map f xs)) ≡ cons_option (option_and_then g o) (filter_map g (filter_map f xs))
    at None = refl
    at (Some y) = refl

kept_alike : {A B : Type 0} (f g : A → Option B) → ((x : A) → f x ≡ g x) → (xs : List A) → filter_map f xs ≡ filter_map g xs
kept_alike f g same [] = refl
kept_alike f g same (x ∷ xs) = ap₂ (λ o l. cons_option o l) (same x) (kept_alike f g same xs)

back_one : {A : Type 0} (o : Option A) (xs : List A) → reverse (cons_option o xs) ≡ reverse xs ++ cons_option o []
back_one None xs = sym (append-nil (reverse xs))
back_one (Some x) xs = reverse-append (x ∷ []) xs

pub kept_back : {A B : Type 0} (f : A → Option B) (xs : List A) → filter_map f (reverse xs) ≡ reverse (filter_map f xs)
kept_back f [] = refl
kept_back f (x ∷ xs) =
    ap (filter_map f) (reverse-append (x ∷ []) xs) ∙ filter_map-append f (reverse xs) (x ∷ []) ∙ ap (λ l. l ++ cons_option (f x) []) (kept_back f xs) ∙ sym (back_one (f x) (filter_map f xs))

-- the messages that passed are those of the frames, turned round
pub passed_are : (k : ℕ) (s : Bool) (f : Found) (frames : Body → Option (List ℕ)) → ((b : Body) → option_and_then (passing k s) (event_in f b) ≡ option_and_then (message_in f) (frames b)) →
    (xs : List Body) → stream k s (reverse (filter_map (event_in f) xs)) ≡ reverse (filter_map (message_in f) (filter_map frames xs))
passed_are k s f frames same xs =
    kept_back (passing k s) (filter_map (event_in f) xs)
    ∙ ap reverse (kept_through (event_in f) (passing k s) xs ∙ kept_alike _ _ same xs ∙ sym (kept_through frames (message_in f) xs))
