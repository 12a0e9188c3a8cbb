-- Streams of steps beside streams of logs: what a vat receives in the run is what the other end sent, message for message.
use Rattle.std.proofs.Common.{◌≡◌, ◌≢◌, refl, sym, ◌∙◌, ap, ap₂, subst, ℕ, suc, ◌<◌, ◌==◌, List, [], ◌∷◌, ◌++◌, length, map, reverse, Bool, true, false, not, ◌&&◌, Option, Some, None, if◌then◌else◌, option_map, append_assoc, arith, eqb-true, slice_get, is_some, inl, inr}
use Rattle.std.specs.List.{cons_option, filter_map}
use Rattle.std.proofs.lemmas.List.{reverse-append, length-reverse}
use Rattle.std.proofs.lemmas.List.Elements.{filter-append, filter_map-append}
use Rattle.std.proofs.lemmas.Bool.{eq-eqb, cases_Bool, cases_lt}
use Rattle.agree.specs.Points.{GoesOn, IsNth, AtEach}
use Rattle.agree.specs.Rows.{Row, record_of_vat, log_of_vat, IsTheirs, IsShared}
use Rattle.agree.specs.Streams.{passing, stream, IsPassed}
use Rattle.agree.proofs.Cuts.{taken, turned, others_are}
use Rattle.agree.proofs.Dying.{eqb_turns}
use Rattle.agree.proofs.Openings.{passing_is}
use Rattle.agree.proofs.Points.{before_it, heads, tails, shorter, no_longer, kept, at_each_before}
use Rattle.decoded_records.specs.Past.{Past, Each}
use Rattle.vat_rules.specs.Judged.{IsGood}
use Rattle.call_trace.specs.Types.{RpcMessage, DecodedRecord, Host, Vow, Fulfil, Break, Make, Field, Deliver, Answer, AnswerBy, Fault, Wire, Cap, Message, Step}
use Rattle.call_trace.specs.Carried.{IsCarried}
use Rattle.call_trace.specs.Naming.{naming, message_at, message_of_step}
use Rattle.call_trace.specs.Part.{reference_named, promise_in, result_named, Says, PairsOff}
use Rattle.call_trace.specs.Running.{coming_next, steps_by, AreMet, IsNamedRow}
use Rattle.call_trace.specs.Said.{all_there, message_of_record}
use Rattle.call_trace.proofs.Carried.{paired_at, pairs_as_long, message_there, message_later}
use Rattle.call_trace.proofs.Naming.{mapped_is, then_is}
use Rattle.call_trace.proofs.Reading.{kept_back}
use Rattle.decoded_records.specs.Views.{view_of_reference}
use Rattle.run_model.specs.Legal.{IsLegal}
use Rattle.run_model.specs.Links.{IsLinked, sent_to, receives_on}
use Rattle.run_model.specs.Steps.{count_steps, vat_of}
use Rattle.run_model.specs.declared.cap.Cap.TheVariants as cap
use Rattle.run_model.specs.declared.step.Step.TheVariants as step

-- ---- the message that a step passes on a connection: sent, or received

abbrev pub passed : ℕ → Bool → Step → Option Message
passed k sent (step.Send v j m) = if (j == k) && sent then Some m else None
passed k sent (step.Receive v j m bound) = if (j == k) && not sent then Some m else None
passed k sent _ = None

-- a record's step is its vat's, and passes a message exactly where the record does
pub record IsAlike (v : ℕ) (e : DecodedRecord) (s : Step) : Type 0 where
  pub vat : vat_of s ≡ v
  pub passes : (k : ℕ) (sent : Bool) → is_some (passed k sent s) ≡ is_some (passing k sent e)

alike_of : (v : ℕ) (e : DecodedRecord) (s t : Step) → s ≡ t → vat_of s ≡ v → ((k : ℕ) (sent : Bool) → is_some (passed k sent s) ≡ is_some (passing k sent e)) → IsAlike v e t
alike_of v e s t same vat passes = subst (IsAlike v e) same (record { vat = vat; passes = passes })

if_there : {A : Type 0} (b : Bool) (x : A) → is_some (if b then Some x else None) ≡ b
if_there true x = refl
if_there false x = refl

send_passes : (v j c : ℕ) (rs : List ℕ) (m : RpcMessage) (M : Message) (k : ℕ) (sent : Bool) → is_some (passed k sent (step.Send v j M)) ≡ is_some (passing k sent (Wire true j c rs m))
send_passes v j c rs m M k true = if_there ((j == k) && true) M ∙ ap (λ b. b && true) (eqb_turns j k) ∙ sym (if_there ((k == j) && true) m)
send_passes v j c rs m M k false = if_there ((j == k) && false) M ∙ ap (λ b. b && false) (eqb_turns j k) ∙ sym (if_there ((k == j) && false) m)

receive_passes : (v j c : ℕ) (rs : List ℕ) (m : RpcMessage) (M : Message) (bound : List Cap) (k : ℕ) (sent : Bool) →
    is_some (passed k sent (step.Receive v j M bound)) ≡ is_some (passing k sent (Wire false j c rs m))
receive_passes v j c rs m M bound k true = if_there ((j == k) && false) M ∙ ap (λ b. b && false) (eqb_turns j k) ∙ sym (if_there ((k == j) && false) m)
receive_passes v j c rs m M bound k false = if_there ((j == k) && true) M ∙ ap (λ b. b && true) (eqb_turns j k) ∙ sym (if_there ((k == j) && true) m)

some_step : (s t : Step) → ◌≡◌ {A = Option Step} (Some s) (Some t) → s ≡ t
some_step s t h = cc

pub says_alike : (v : ℕ) (es : Past) (steps : List Step) (e : DecodedRecord) (s : Step) → Says v es steps e s → IsAlike v e s
says_alike v es steps (Host r object) s says = alike_of v (Host r object) (step.Host v object) s (some_step _ _ says) refl (λ k sent. refl)
says_alike v es steps (Vow r) s says = alike_of v (Vow r) (step.Vow v r) s (some_step _ _ says) refl (λ k sent. refl)
says_alike v es steps (Fulfil r to) s says =
    let names = naming v (Fulfil r to ∷ es) (s ∷ steps) in
    let p = then_is (λ p. option_map (λ c. step.Fulfil v p c) (reference_named names es to)) (promise_in (view_of_reference es r)) s says in
    let c = mapped_is (λ c. step.Fulfil v p.0 c) (reference_named names es to) s p.2 in
    alike_of v (Fulfil r to) (step.Fulfil v p.0 c.0) s c.2 refl (λ k sent. refl)
says_alike v es steps (Break r) s says =
    let p = mapped_is (λ p. step.Break v p) (promise_in (view_of_reference es r)) s says in
    alike_of v (Break r) (step.Break v p.0) s p.2 refl (λ k sent. refl)
says_alike v es steps (Make c r interface method) s says =
    let names = naming v (Make c r interface method ∷ es) (s ∷ steps) in
    let to = mapped_is (λ to. step.Make v c to r interface method) (reference_named names es r) s says in
    alike_of v (Make c r interface method) (step.Make v c to.0 r interface method) s to.2 refl (λ k sent. refl)
says_alike v es steps (Field r c path) s says =
    let names = naming v (Field r c path ∷ es) (s ∷ steps) in
    let name = mapped_is (λ name. step.Name v (cap.Field name path)) (names.call c) s says in
    alike_of v (Field r c path) (step.Name v (cap.Field name.0 path)) s name.2 refl (λ k sent. refl)
says_alike v es steps (Deliver c object) s says =
    let names = naming v (Deliver c object ∷ es) (s ∷ steps) in
    let name = mapped_is (λ name. step.Deliver v name object) (names.call c) s says in
    alike_of v (Deliver c object) (step.Deliver v name.0 object) s name.2 refl (λ k sent. refl)
says_alike v es steps (Answer c results) s says =
    let names = naming v (Answer c results ∷ es) (s ∷ steps) in
    let name = then_is (λ name. option_map (λ caps. step.Answer v name caps) (all_there (map (result_named names es) results))) (names.call c) s says in
    let caps = mapped_is (λ caps. step.Answer v name.0 caps) (all_there (map (result_named names es) results)) s name.2 in
    alike_of v (Answer c results) (step.Answer v name.0 caps.0) s caps.2 refl (λ k sent. refl)
says_alike v es steps (AnswerBy c by) s says =
    let names = naming v (AnswerBy c by ∷ es) (s ∷ steps) in
    let name = then_is (λ name. option_map (λ other. step.AnswerBy v name other) (names.call by)) (names.call c) s says in
    let other = mapped_is (λ other. step.AnswerBy v name.0 other) (names.call by) s name.2 in
    alike_of v (AnswerBy c by) (step.AnswerBy v name.0 other.0) s other.2 refl (λ k sent. refl)
says_alike v es steps (Fault c) s says =
    let names = naming v (Fault c ∷ es) (s ∷ steps) in
    let name = mapped_is (λ name. step.Fault v name) (names.call c) s says in
    alike_of v (Fault c) (step.Fault v name.0) s name.2 refl (λ k sent. refl)
says_alike v es steps (Wire true j c rs m) s says =
    let e = Wire true j c rs m in
    let sent = mapped_is (λ M. step.Send v j M) (message_of_record (naming v (e ∷ es) (s ∷ steps)) es e) s says in
    alike_of v e (step.Send v j sent.0) s sent.2 refl (send_passes v j c rs m sent.0)
says_alike v es steps (Wire false j c rs m) s says =
    alike_of v (Wire false j c rs m) (step.Receive v j says.message says.bound) s (sym says.step) refl (receive_passes v j c rs m says.message says.bound)

-- what a step passes is its message
passed_message : (k : ℕ) (sent : Bool) (s : Step) (M : Message) → passed k sent s ≡ Some M → message_of_step s ≡ Some M
passed_message k sent (step.Send v j m) M h = at ((j == k) && sent) h
  where
    at : (b : Bool) → (if b then Some m else None) ≡ Some M → Some m ≡ Some M
    at true h = h
    at false h = absurd (let no : ⊥ = cc in no)
passed_message k sent (step.Receive v j m bound) M h = at ((j == k) && not sent) h
  where
    at : (b : Bool) → (if b then Some m else None) ≡ Some M → Some m ≡ Some M
    at true h = h
    at false h = absurd (let no : ⊥ = cc in no)
passed_message k sent s M h = absurd (let no : ⊥ = cc in no)

pub there_too : {A B : Type 0} (o : Option A) (p : Option B) (y : B) → is_some o ≡ is_some p → p ≡ Some y → (x : A) × (o ≡ Some x)
there_too (Some x) p y same h = (x, refl)
there_too None p y same h = absurd (let no : false ≡ true = same ∙ ap is_some h in let n : ⊥ = cc in n)

none_too : {A B : Type 0} (o : Option A) (p : Option B) → is_some o ≡ is_some p → p ≡ None → o ≡ None
none_too None p same h = refl
none_too (Some x) p same h = absurd (let no : true ≡ false = same ∙ ap is_some h in let n : ⊥ = cc in n)

as_long : {A B : Type 0} (o : Option A) (p : Option B) (xs : List A) (ys : List B) → is_some o ≡ is_some p → length xs ≡ length ys → length (cons_option o xs) ≡ length (cons_option p ys)
as_long None None xs ys same h = h
as_long (Some x) (Some y) xs ys same h = ap suc h
as_long None (Some y) xs ys same h = absurd (let no : ⊥ = cc in no)
as_long (Some x) None xs ys same h = absurd (let no : ⊥ = cc in no)

-- a vat's steps pass as many messages as its log does
pub as_many_passed : (k : ℕ) (sent : Bool) (v : ℕ) (es : Past) (steps : List Step) → PairsOff v es steps → length (filter_map (passed k sent) steps) ≡ length (stream k sent es)
as_many_passed k sent v [] [] part = refl
as_many_passed k sent v [] (s ∷ steps) part = absurd part
as_many_passed k sent v (e ∷ es) [] part = absurd part
as_many_passed k sent v (e ∷ es) (s ∷ steps) part =
    as_long (passed k sent s) (passing k sent e) (filter_map (passed k sent) steps) (stream k sent es) ((says_alike v es steps e s part.0).passes k sent) (as_many_passed k sent v es steps part.1)

-- ---- a row and its steps, record by record

-- the step of a row's last record, and the steps before it
pub record IsNext (v : ℕ) (e : DecodedRecord) (row : Row) (whole : List Step) : Type 0 where
  pub step : Step
  pub before : List Step
  pub all : whole ≡ step ∷ before
  pub vat : vat_of step ≡ v
  pub alike : IsAlike v e step
  pub says : Says v (log_of_vat v row) (steps_by v before) e step
  pub legal : IsLegal before step
  pub linked : IsLinked before step
  pub rest : IsNamedRow row before

pub log_here : (v u : ℕ) (e : DecodedRecord) (row : Row) → u ≡ v → log_of_vat v ((u, e) ∷ row) ≡ e ∷ log_of_vat v row
log_here v u e row same = ap (λ b. cons_option (if b then Some e else None) (log_of_vat v row)) (eq-eqb u v same)

pub log_there : (v u : ℕ) (e : DecodedRecord) (row : Row) → (u == v) ≡ false → log_of_vat v ((u, e) ∷ row) ≡ log_of_vat v row
log_there v u e row apart = ap (λ b. cons_option (if b then Some e else None) (log_of_vat v row)) apart

pub steps_here : (v : ℕ) (s : Step) (before : List Step) → vat_of s ≡ v → steps_by v (s ∷ before) ≡ s ∷ steps_by v before
steps_here v s before same = ap (λ b. if b then s ∷ steps_by v before else steps_by v before) (eq-eqb (vat_of s) v same)

pub steps_there : (v : ℕ) (s : Step) (before : List Step) → (vat_of s == v) ≡ false → steps_by v (s ∷ before) ≡ steps_by v before
steps_there v s before apart = ap (λ b. if b then s ∷ steps_by v before else steps_by v before) apart

pairs_here : (v u : ℕ) (e : DecodedRecord) (row : Row) (s : Step) (before : List Step) → vat_of s ≡ u → u ≡ v → PairsOff v (log_of_vat v ((u, e) ∷ row)) (steps_by v (s ∷ before)) →
    Says v (log_of_vat v row) (steps_by v before) e s × PairsOff v (log_of_vat v row) (steps_by v before)
pairs_here v u e row s before is same pairs =
    subst (λ es. PairsOff v es (s ∷ steps_by v before)) (log_here v u e row same)
    (subst (λ steps. PairsOff v (log_of_vat v ((u, e) ∷ row)) steps) (steps_here v s before (is ∙ same)) pairs)

pairs_there : (v u : ℕ) (e : DecodedRecord) (row : Row) (s : Step) (before : List Step) → vat_of s ≡ u → (u == v) ≡ false → PairsOff v (log_of_vat v ((u, e) ∷ row)) (steps_by v (s ∷ before)) →
    PairsOff v (log_of_vat v row) (steps_by v before)
pairs_there v u e row s before is apart pairs =
    subst (λ es. PairsOff v es (steps_by v before)) (log_there v u e row apart)
    (subst (λ steps. PairsOff v (log_of_vat v ((u, e) ∷ row)) steps) (steps_there v s before (ap (λ w. w == v) is ∙ apart)) pairs)

pairs_earlier : (v u : ℕ) (e : DecodedRecord) (row : Row) (s : Step) (before : List Step) → vat_of s ≡ u → PairsOff v (log_of_vat v ((u, e) ∷ row)) (steps_by v (s ∷ before)) →
    PairsOff v (log_of_vat v row) (steps_by v before)
pairs_earlier v u e row s before is pairs = elim (cases_Bool (u == v)) [
  | inl own ↦ (pairs_here v u e row s before is (eqb-true u v own) pairs).1
  | inr apart ↦ pairs_there v u e row s before is apart pairs
]

none_first : {A : Type 0} {x : A} {xs : List A} → [] ≡ (x ∷ xs) → ⊥
none_first e = cc

pub named_next : (v : ℕ) (e : DecodedRecord) (row : Row) (whole : List Step) → IsNamedRow ((v, e) ∷ row) whole → IsNext v e row whole
named_next v e row [] named = absurd (none_first named.by_row)
named_next v e row (s ∷ before) named =
    let is : vat_of s ≡ v = heads named.by_row in
    let own = pairs_here v v e row s before is refl (named.paired v) in
    record {
      step = s;
      before = before;
      all = refl;
      vat = is;
      alike = says_alike v (log_of_vat v row) (steps_by v before) e s own.0;
      says = own.0;
      legal = named.legal.0;
      linked = named.linked.0;
      rest = record { by_row = tails named.by_row; paired = λ w. pairs_earlier w v e row s before is (named.paired w); legal = named.legal.1; linked = named.linked.1 };
    }

-- the steps of a point of a row
pub record IsSplit (row : Row) (whole : List Step) : Type 0 where
  pub added : List Step
  pub before : List Step
  pub all : whole ≡ added ++ before
  pub named : IsNamedRow row before

pub named_before : (later row : Row) (whole : List Step) → IsNamedRow (later ++ row) whole → IsSplit row whole
named_before [] row whole named = record { added = []; before = whole; all = refl; named = named }
named_before ((v, e) ∷ later) row whole named =
    let n = named_next v e (later ++ row) whole named in
    let r = named_before later row n.before n.rest in
    record { added = n.step ∷ r.added; before = r.before; all = n.all ∙ ap (λ l. n.step ∷ l) r.all; named = r.named }

-- ---- what comes next

received_alike : (v k : ℕ) (s : Step) → receives_on v k s ≡ ((vat_of s == v) && is_some (passed k false s))
received_alike v k (step.Receive w j m bound) = ap (λ b. (w == v) && b) (sym (if_there ((j == k) && true) m ∙ plain (j == k)))
  where
    plain : (b : Bool) → (b && true) ≡ b
    plain true = refl
    plain false = refl
received_alike v k (step.Send w j m) = sym (ap (λ b. (w == v) && b) (if_there ((j == k) && false) m) ∙ none (w == v) (j == k))
  where
    none : (a b : Bool) → (a && (b && false)) ≡ false
    none true true = refl
    none true false = refl
    none false b = refl
received_alike v k s = none (vat_of s == v)
  where
    none : (b : Bool) → false ≡ (b && false)
    none true = refl
    none false = refl

-- a vat received in the run as often as its steps say
counted : (v k : ℕ) (before : List Step) → count_steps (receives_on v k) before ≡ length (filter_map (passed k false) (steps_by v before))
counted v k [] = refl
counted v k (s ∷ before) =
    ap (λ b. if b then suc (count_steps (receives_on v k) before) else count_steps (receives_on v k) before) (received_alike v k s)
    ∙ at (vat_of s == v) (passed k false s) refl refl (counted v k before)
  where
    at : (b : Bool) (o : Option Message) → (vat_of s == v) ≡ b → passed k false s ≡ o → count_steps (receives_on v k) before ≡ length (filter_map (passed k false) (steps_by v before)) →
        (if b && is_some o then suc (count_steps (receives_on v k) before) else count_steps (receives_on v k) before)
        ≡ length (filter_map (passed k false) (if b then s ∷ steps_by v before else steps_by v before))
    at true None own none rest = rest ∙ sym (ap (λ o. length (cons_option o (filter_map (passed k false) (steps_by v before)))) none)
    at true (Some m) own some rest = ap suc rest ∙ sym (ap (λ o. length (cons_option o (filter_map (passed k false) (steps_by v before)))) some)
    at false o apart is rest = rest

sent_alike : (v k : ℕ) (s : Step) → sent_to v k s ≡ (if vat_of s == v then None else passed k true s)
sent_alike v k (step.Send w j m) = at (j == k) (w == v)
  where
    at : (a b : Bool) → (if a && not b then Some m else None) ≡ (if b then None else (if a && true then Some m else None))
    at true true = refl
    at true false = refl
    at false true = refl
    at false false = refl
sent_alike v k (step.Receive w j m bound) = at (j == k) (w == v)
  where
    at : (a b : Bool) → None ≡ (if b then None else (if a && false then Some m else None))
    at true true = refl
    at true false = refl
    at false true = refl
    at false false = refl
sent_alike v k s = none (vat_of s == v)
  where
    none : (b : Bool) → ◌≡◌ {A = Option Message} None (if b then None else None)
    none true = refl
    none false = refl

pub apart_from : (m n : ℕ) → (m == n) ≡ false → m ≢ n
apart_from m n e same = let no : true ≡ false = sym (eq-eqb m n same) ∙ e in absurd (let n : ⊥ = cc in n)

-- what the others sent in the run is what the one other's steps say, where no third vat sends there
sent_by_steps : (k v w : ℕ) (row : Row) (whole : List Step) → v ≢ w → AtEach (IsTheirs k v w) row → IsNamedRow row whole → filter_map (sent_to v k) whole ≡ filter_map (passed k true) (steps_by w whole)
sent_by_steps k v w [] [] apart theirs named = refl
sent_by_steps k v w [] (s ∷ before) apart theirs named = absurd (none_first (sym named.by_row))
sent_by_steps k v w ((u, e) ∷ row) whole apart theirs named =
    let n = named_next u e row whole named in
    let rest = sent_by_steps k v w row n.before apart (at_each_before (IsTheirs k v w) ((u, e) ∷ row) row ((u, e) ∷ [], refl) theirs) n.rest in
    ap (filter_map (sent_to v k)) n.all
    ∙ ap₂ (λ o l. cons_option o l) (sent_alike v k n.step ∙ ap (λ x. if x == v then None else passed k true n.step) n.vat) rest
    ∙ at n (u == v) (u == w) refl refl
    ∙ sym (ap (λ l. filter_map (passed k true) (steps_by w l)) n.all)
  where
    at : (n : IsNext u e row whole) (b c : Bool) → (u == v) ≡ b → (u == w) ≡ c → cons_option (if b then None else passed k true n.step) (filter_map (passed k true) (steps_by w n.before)) ≡ filter_map (passed k true) (steps_by w (n.step ∷ n.before))
    at n true true own other = absurd (apart (sym (eqb-true u v own) ∙ eqb-true u w other))
    at n true false own other = sym (ap (filter_map (passed k true)) (steps_there w n.step n.before (ap (λ x. x == w) n.vat ∙ other)))
    at n false true own other = sym (ap (filter_map (passed k true)) (steps_here w n.step n.before (n.vat ∙ eqb-true u w other)))
    at n false false own other =
        ap (λ o. cons_option o (filter_map (passed k true) (steps_by w n.before)))
        (none_too (passed k true n.step) (passing k true e) (n.alike.passes k true) (theirs row (u, e) ([], refl) (apart_from u v own) (apart_from u w other)))
        ∙ sym (ap (filter_map (passed k true)) (steps_there w n.step n.before (ap (λ x. x == w) n.vat ∙ other)))

at_seam : {A : Type 0} (xs : List A) (x : A) (ys : List A) → slice_get (xs ++ x ∷ ys) (length xs) ≡ Some x
at_seam [] x ys = refl
at_seam (y ∷ xs) x ys = at_seam xs x ys

-- of a list turned round, the element at the number of those after it
at_turned : {A : Type 0} (xs : List A) (x : A) (ys : List A) → slice_get (reverse (xs ++ x ∷ ys)) (length ys) ≡ Some x
at_turned xs x ys =
    let turned_list : reverse (xs ++ x ∷ ys) ≡ reverse ys ++ x ∷ reverse xs =
    reverse-append xs (x ∷ ys) ∙ ap (λ l. l ++ reverse xs) (reverse-append (x ∷ []) ys) ∙ append_assoc (reverse ys) (x ∷ []) (reverse xs) in
    ap₂ (λ l n. slice_get l n) turned_list (sym (length-reverse ys)) ∙ at_seam (reverse ys) x (reverse xs)

-- the message that a vat receives next: what the step of the record by which the other end sent it says
abbrev pub ComesNext : ℕ → ℕ → ℕ → Past → List Step → Type 0
ComesNext k v w from whole = (M : Message) × (coming_next v k whole ≡ Some M) × (message_at (length from) (steps_by w whole) ≡ Some M)

pub comes_next : (k v w : ℕ) (row : Row) (whole : List Step) → v ≢ w → AtEach (IsTheirs k v w) row → IsNamedRow row whole → (m : RpcMessage) (from : Past) (sent : DecodedRecord) → GoesOn (log_of_vat w row) (sent ∷ from) →
    passing k true sent ≡ Some m → length (stream k true from) ≡ length (stream k false (log_of_vat v row)) → ComesNext k v w from whole
comes_next k v w row whole apart theirs named m from sent there sends number =
    let pair = paired_at w there.0 sent from (steps_by w whole) (subst (λ es. PairsOff w es (steps_by w whole)) there.1 (named.paired w)) in
    let alike = says_alike w from pair.earlier sent pair.step pair.paired.0 in
    let M = there_too (passed k true pair.step) (passing k true sent) m (alike.passes k true) sends in
    let later = filter_map (passed k true) pair.added in
    let earlier = filter_map (passed k true) pair.earlier in
    let list : filter_map (passed k true) (steps_by w whole) ≡ later ++ M.0 ∷ earlier =
    ap (filter_map (passed k true)) pair.whole ∙ filter_map-append (passed k true) pair.added (pair.step ∷ pair.earlier) ∙ ap (λ o. later ++ cons_option o earlier) M.1 in
    let streamed : filter_map (sent_to v k) (reverse whole) ≡ reverse (later ++ M.0 ∷ earlier) =
    kept_back (sent_to v k) whole ∙ ap reverse (sent_by_steps k v w row whole apart theirs named ∙ list) in
    let so_many : count_steps (receives_on v k) whole ≡ length earlier =
    counted v k whole ∙ as_many_passed k false v (log_of_vat v row) (steps_by v whole) (named.paired v) ∙ sym number ∙ sym (as_many_passed k true w from pair.earlier pair.paired.1) in (
      M.0,
      ap₂ (λ l n. slice_get l n) streamed so_many ∙ at_turned later M.0 earlier,
      ap (message_at (length from)) pair.whole
          ∙ message_later (length from) pair.added (pair.step ∷ pair.earlier) M.0
          (message_there (length from) pair.step pair.earlier M.0 (sym (pairs_as_long w from pair.earlier pair.paired.1)) (passed_message k true pair.step M.0 M.1)),
    )

-- ---- what was received in the run was received as it was sent

-- the n-th of a list stands in each point of the list that keeps more than n
nth_there : {A B : Type 0} (f : A → Option B) (n : ℕ) (xs l b : List A) (x : A) → IsNth f n xs b x → GoesOn xs l → n < length (filter_map f l) → GoesOn l (x ∷ b)
nth_there f n xs l b x p q lt = elim (cases_lt (length b) (length l)) [
  | inl less ↦ shorter xs (x ∷ b) l p.there q less
  | inr more ↦ absurd (omega (arith, no_longer _ _ (kept f b l (shorter xs l b q (before_it xs x b p.there) more)), p.number, lt))
]

pub steps_on : (v : ℕ) (added before whole : List Step) → whole ≡ added ++ before → steps_by v whole ≡ steps_by v added ++ steps_by v before
steps_on v added before whole all = ap (steps_by v) all ∙ filter-append (λ s. vat_of s == v) added before

-- a received record's step: what comes next, on its connection
received_next : (w k c : ℕ) (rs : List ℕ) (m : RpcMessage) (row : Row) (before : List Step) (s : Step) → Says w (log_of_vat w row) (steps_by w before) (Wire false k c rs m) s → IsLinked before s →
    (M : Message) × (message_of_step s ≡ Some M) × (coming_next w k before ≡ Some M)
received_next w k c rs m row before s says linked =
    let linked_there : IsLinked before (step.Receive w k says.message says.bound) = subst (IsLinked before) says.step linked in
    (says.message, ap message_of_step says.step, linked_there.1)

module _ (k v w : ℕ) (row : Row) (whole : List Step) (shared : IsShared k v w row) (named : IsNamedRow row whole) where
  -- so of one message
  carried_at : (m : RpcMessage) (from to : Past) (sent received : DecodedRecord) → IsPassed k m (log_of_vat v row) (log_of_vat w row) from to sent received →
      message_at (length to) (steps_by w whole) ≡ message_at (length from) (steps_by v whole)
  carried_at m from to sent received p =
      let b = taken w row received to p.received_there in
      let back : IsShared k w v row = turned k v w row shared in
      let earlier : GoesOn row b.0 = before_it row (w, received) b.0 b.1 in
      let theirs : AtEach (IsTheirs k w v) b.0 = at_each_before (IsTheirs k w v) row b.0 earlier back.theirs in
      let others = others_are k w v b.0 back.apart theirs in
      let there = nth_there (passing k true) (length (stream k false to)) (log_of_vat v row) (log_of_vat v b.0) from sent
      (record { there = p.sent_there; some = (m, p.sends); number = p.same_number }) (kept (record_of_vat v) row b.0 earlier)
      (omega (arith, shared.fits b.0 (w, received) b.1 m p.receives, ap (λ l. length (stream k false l)) b.2, ap length others)) in
      let point = named_before b.1.0 ((w, received) ∷ b.0) whole (subst (λ r. IsNamedRow r whole) b.1.1 named) in
      let n = named_next w received b.0 point.before point.named in
      let number : length (stream k true from) ≡ length (stream k false (log_of_vat w b.0)) = p.same_number ∙ ap (λ l. length (stream k false l)) (sym b.2) in
      let comes = comes_next k w v b.0 n.before back.apart theirs n.rest m from sent there p.sends number in
      let wire = passing_is k false m received p.receives in
      let got = received_next w k wire.0 wire.1 m b.0 n.before n.step (subst (λ e. Says w (log_of_vat w b.0) (steps_by w n.before) e n.step) wire.2 n.says) n.linked in
      let all : whole ≡ (point.added ++ n.step ∷ []) ++ n.before = point.all ∙ ap (λ l. point.added ++ l) n.all ∙ sym (append_assoc point.added (n.step ∷ []) n.before) in
      let one : message_at (length from) (steps_by v whole) ≡ Some comes.0 =
      ap (message_at (length from)) (steps_on v (point.added ++ n.step ∷ []) n.before whole all)
      ∙ message_later (length from) (steps_by v (point.added ++ n.step ∷ [])) (steps_by v n.before) comes.0 comes.2 in
      let its : steps_by w whole ≡ steps_by w point.added ++ n.step ∷ steps_by w n.before =
      steps_on w point.added point.before whole point.all ∙ ap (λ l. steps_by w point.added ++ l) (ap (steps_by w) n.all ∙ steps_here w n.step n.before n.vat) in
      let len : length (steps_by w n.before) ≡ length to = sym (pairs_as_long w (log_of_vat w b.0) (steps_by w n.before) (n.rest.paired w)) ∙ ap length b.2 in
      let other : message_at (length to) (steps_by w whole) ≡ Some got.0 =
      ap (message_at (length to)) its
      ∙ message_later (length to) (steps_by w point.added) (n.step ∷ steps_by w n.before) got.0 (message_there (length to) n.step (steps_by w n.before) got.0 len got.1) in
      let same : ◌≡◌ {A = Option Message} (Some got.0) (Some comes.0) = sym got.2 ∙ comes.1 in
      other ∙ same ∙ sym one

-- each message that one vat sent the other is received in the run as it was sent
pub carried : (k v w : ℕ) (row : Row) (whole : List Step) → IsShared k v w row → IsNamedRow row whole → IsCarried k (log_of_vat v row) (steps_by v whole) (log_of_vat w row) (steps_by w whole)
carried k v w row whole shared named = λ m from to sent received p. carried_at k v w row whole shared named m from to sent received p

-- the logs of two vats that share a connection met in the run
pub are_met : (k v w : ℕ) (row : Row) (whole : List Step) → IsShared k v w row → IsNamedRow row whole → Each IsGood (log_of_vat v row) → Each IsGood (log_of_vat w row) →
    AreMet k v (log_of_vat v row) (steps_by v whole) w (log_of_vat w row) (steps_by w whole)
are_met k v w row whole shared named good good_other = record {
  one_paired = named.paired v;
  other_paired = named.paired w;
  one_good = good;
  other_good = good_other;
  there = carried k v w row whole shared named;
  back = carried k w v row whole (turned k v w row shared) named;
}
