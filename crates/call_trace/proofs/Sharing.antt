-- Where good findings, an order and their links are as is asked, two vats that share a connection share it in the row that
-- the order takes.
use Rattle.std.proofs.Common.{◌≡◌, refl, sym, ◌∙◌, ap, subst, ℕ, zero, suc, ◌+◌, ◌<◌, ◌≤◌, ◌==◌, List, [], ◌∷◌, length, map, take, reverse, Bool, true, false, cond, ◌&&◌, ◌||◌, Option, Some, None, Result, Ok, Err, if◌then◌else◌, option_and_then, option_map, slice_get, arith, eqb-true, inl, inr}
use Rattle.std.specs.Prelude.{Contains, nat_lt, nat_le}
use Rattle.std.specs.List.{cons_option, filter_map, AllByRecursion, count_by, list_all, list_any}
use Rattle.std.proofs.lemmas.List.{append-nil, take_all}
use Rattle.std.proofs.lemmas.List.Sums.{sum_by-cons}
use Rattle.agree.proofs.Cuts.{received_few, others_are}
use Rattle.std.proofs.lemmas.List.Folds.{list_any_at}
use Rattle.std.proofs.lemmas.Option.{slice_get_within, get_or_from_slice_get}
use Rattle.std.proofs.lemmas.Bool.{eq-eqb, cases_Bool, cases_lt, ltb-true, leb-true}
use Rattle.agree.specs.Points.{GoesOn, AtEach}
use Rattle.agree.specs.Rows.{Row, log_of_vat, FitsAt, IsTheirs, IsShared}
use Rattle.agree.specs.Rows.{received_stream as row_received, sent_stream as row_sent, stream_of_others as row_others}
use Rattle.agree.specs.Streams.{passing, stream}
use Rattle.agree.proofs.Points.{heads, tails}
use Rattle.vat_log.specs.Log.{Log}
use Rattle.vat_log.specs.declared.body.Body.{Body}
use Rattle.vat_log.specs.declared.body.Body.TheVariants as body
use Rattle.merge_order.proofs.Greedy.{eqb_apart}
use Rattle.merge_order.specs.Fits.{Part, sent_so_far, received_so_far, sent_by_the_others, may_come, may_come_from, may_come_behind, part_of, used_up}
use Rattle.vat_log.specs.Passages.{sends_frame, receives_frame}
use Rattle.vat_rules.specs.declared.outcome.Why.{Why}
use Rattle.vat_rules.specs.Audit.{Found, IsTrueOf, reads_within}
use Rattle.vat_rules.specs.Events.{Reader, event_of, event_or_none}
use Rattle.call_trace.specs.Types.{RpcMessage, DecodedRecord}
use Rattle.call_trace.specs.Findings.{is_good, uses, AreEnds, logs_of, AreTrue, MayBeNamed}
use Rattle.call_trace.specs.Named.{past_before, past_of}
use Rattle.call_trace.specs.Taking.{finding_of, event_in, record_in, steps_counted_by, next_record, taken_by, row_of}
use Rattle.call_trace.proofs.Taking.{log_taken}
use Rattle.call_trace.proofs.Reading.{AllRecordsGood, records_good, as_many_sent, as_many_received, read_sends, read_receives}
use Rattle.call_trace.proofs.Linking.{received_first}
use Rattle.call_trace.proofs.Fitting.{part_after, parts_after, fits_all, member, Rises, rises, others_sent}

-- ---- findings by their vats

test_more : {A : Type 0} (p : A → Bool) (x : A) (xs : List A) (b : Bool) → p x ≡ b → (b && list_all p xs) ≡ true → (p x ≡ true) × (list_all p xs ≡ true)
test_more p x xs true e h = (e, h)
test_more p x xs false e h = absurd (let no : ⊥ = cc in no)

pub all_test : {A : Type 0} (p : A → Bool) (xs : List A) → list_all p xs ≡ true → AllByRecursion (λ x. p x ≡ true) xs
all_test p [] h = tt
all_test p (x ∷ xs) h = let both = test_more p x xs (p x) refl h in (both.0, all_test p xs both.1)

-- what is found is there
abbrev pub IsFoundIn : ℕ → List Found → Found → Type 0
IsFoundIn v findings f = (f.log.vat ≡ v) × Contains findings f × Contains (logs_of findings) f.log

found_later : (v : ℕ) (g : Found) (gs : List Found) (f : Found) → IsFoundIn v gs f → IsFoundIn v (g ∷ gs) f
found_later v g gs f r = (r.0, (suc r.1.0, omega (arith, r.1.1), r.1.2), (suc r.2.0, omega (arith, r.2.1), r.2.2))

pub found_in : (v : ℕ) (findings : List Found) (f : Found) → finding_of v findings ≡ Some f → IsFoundIn v findings f
found_in v [] f h = absurd (let no : ⊥ = cc in no)
found_in v (g ∷ gs) f h = elim (cases_Bool (g.log.vat == v)) [
  | inl here ↦
      let at : Some g ≡ Some f = sym (ap (λ b. if b then Some g else finding_of v gs) here) ∙ h in
      let same : g ≡ f = cc in
      (ap (λ x. x.log.vat) (sym same) ∙ eqb-true g.log.vat v here, (0, omega arith, same), (0, omega arith, ap (λ x. x.log) same))
  | inr other ↦ found_later v g gs f (found_in v gs f (sym (ap (λ b. if b then Some g else finding_of v gs) other) ∙ h))
]

-- each finding is found by its vat
below_found : (u : ℕ) (gs : List Found) (f : Found) → AllByRecursion (λ w. u < w) (map (λ log. log.vat) (logs_of gs)) → Contains gs f → u < f.log.vat
below_found u [] f all there = absurd (let lt = there.1 in omega (arith, lt))
below_found u (g ∷ gs) f all (zero, lt, e) = subst (λ (x : Found). u < x.log.vat) e all.0
below_found u (g ∷ gs) f all (suc k, lt, e) = below_found u gs f all.1 (k, omega (arith, lt), e)

pub own_found : (findings : List Found) (f : Found) → Rises (map (λ log. log.vat) (logs_of findings)) → Contains findings f → finding_of f.log.vat findings ≡ Some f
own_found [] f up there = absurd (let lt = there.1 in omega (arith, lt))
own_found (g ∷ gs) f up (zero, lt, e) =
    let same : g ≡ f = e in
    ap (λ b. if b then Some g else finding_of f.log.vat gs) (eq-eqb g.log.vat f.log.vat (ap (λ x. x.log.vat) same)) ∙ ap (λ x. Some x) same
own_found (g ∷ gs) f up (suc k, lt, e) =
    let there : Contains gs f = (k, omega (arith, lt), e) in
    let less = below_found g.log.vat gs f up.0 there in
    let apart : (g.log.vat == f.log.vat) ≡ false = eqb_apart g.log.vat f.log.vat (λ same. omega (arith, less, same)) in
    ap (λ b. if b then Some g else finding_of f.log.vat gs) apart ∙ own_found gs f up.1 there

pub part_found : (v : ℕ) (steps : List ℕ) (findings : List Found) → part_of v (parts_after (logs_of findings) steps) ≡ option_map (λ f. part_after steps f.log) (finding_of v findings)
part_found v steps [] = refl
part_found v steps (g ∷ gs) = at (g.log.vat == v) (part_found v steps gs)
  where
    at : (b : Bool) → part_of v (parts_after (logs_of gs) steps) ≡ option_map (λ f. part_after steps f.log) (finding_of v gs) →
        (if b then Some (part_after steps g.log) else part_of v (parts_after (logs_of gs) steps)) ≡ option_map (λ f. part_after steps f.log) (if b then Some g else finding_of v gs)
    at true rest = refl
    at false rest = rest

-- ---- a record of the row, and the step that takes it

pub record IsTaken (findings : List Found) (steps : List ℕ) (r : ℕ × DecodedRecord) (rest : Row) : Type 0 where
  pub vat : ℕ
  pub before : List ℕ
  pub there : GoesOn steps (vat ∷ before)
  pub own : r.0 ≡ vat
  pub next : next_record findings before vat ≡ Some r.1
  pub earlier : taken_by findings before ≡ rest

taken_later : (findings : List Found) (u : ℕ) (steps : List ℕ) (r : ℕ × DecodedRecord) (rest : Row) → IsTaken findings steps r rest → IsTaken findings (u ∷ steps) r rest
taken_later findings u steps r rest t =
    record { vat = t.vat; before = t.before; there = (u ∷ t.there.0, ap (λ l. u ∷ l) t.there.1); own = t.own; next = t.next; earlier = t.earlier }

pub taken_at : (findings : List Found) (steps : List ℕ) (r : ℕ × DecodedRecord) (rest : Row) → GoesOn (taken_by findings steps) (r ∷ rest) → IsTaken findings steps r rest
taken_at findings [] r rest ([], e) = absurd (let no : ⊥ = cc in no)
taken_at findings [] r rest (x ∷ l, e) = absurd (let no : ⊥ = cc in no)
taken_at findings (u ∷ steps) r rest p = at (next_record findings steps u) refl p (taken_at findings steps r rest)
  where
    at : (o : Option DecodedRecord) → next_record findings steps u ≡ o → GoesOn (cons_option (option_map (λ e. (u, e)) o) (taken_by findings steps)) (r ∷ rest) →
        (GoesOn (taken_by findings steps) (r ∷ rest) → IsTaken findings steps r rest) → IsTaken findings (u ∷ steps) r rest
    at None n p earlier = taken_later findings u steps r rest (earlier p)
    at (Some e) n (x ∷ l, h) earlier = taken_later findings u steps r rest (earlier (l, tails h))
    at (Some e) n ([], h) earlier =
        let same : (u, e) ≡ r = heads h in
        record { vat = u; before = steps; there = ([], refl); own = ap (λ x. x.0) (sym same); next = n ∙ ap (λ x. Some x.1) same; earlier = tails h }

and_then_is : {A B : Type 0} (g : A → Option B) (o : Option A) (y : B) → option_and_then g o ≡ Some y → (x : A) × (o ≡ Some x) × (g x ≡ Some y)
and_then_is g (Some x) y h = (x, refl, h)
and_then_is g None y h = absurd (let no : ⊥ = cc in no)

event_is : (r : Result DecodedRecord Why) (e : DecodedRecord) → event_or_none r ≡ Some e → r ≡ Ok e
event_is (Ok x) e h = let same : x ≡ e = cc in ap (λ e. Ok e) same
event_is (Err why) e h = absurd (let no : ⊥ = cc in no)

-- the finding of the step's vat, and the stored record
pub record IsStored (findings : List Found) (v : ℕ) (before : List ℕ) (e : DecodedRecord) : Type 0 where
  pub finding : Found
  pub stored : Body
  pub found : finding_of v findings ≡ Some finding
  pub there : slice_get finding.log.records (steps_counted_by v before) ≡ Some stored
  pub reads : event_of (reads_within finding.limits) stored ≡ Ok e

pub stored_at : (findings : List Found) (v : ℕ) (before : List ℕ) (e : DecodedRecord) → next_record findings before v ≡ Some e → IsStored findings v before e
stored_at findings v before e h =
    let f = and_then_is (λ f. record_in f (steps_counted_by v before)) (finding_of v findings) e h in
    let b = and_then_is (event_in f.0) (slice_get f.0.log.records (steps_counted_by v before)) e f.2 in
    record { finding = f.0; stored = b.0; found = f.1; there = b.1; reads = event_is (event_of (reads_within f.0.limits) b.0) e b.2 }

counts_one : (b : Bool) (o : Option RpcMessage) (m : RpcMessage) → length (cons_option o []) ≡ 0 + cond b 1 0 → o ≡ Some m → b ≡ true
counts_one true o m e h = refl
counts_one false None m e h = absurd (let no : ⊥ = cc in no)
counts_one false (Some n) m e h = absurd (omega (arith, e))

pub sends_it : (k : ℕ) (read : Reader) (b : Body) (e : DecodedRecord) (m : RpcMessage) → event_of read b ≡ Ok e → passing k true e ≡ Some m → sends_frame k b ≡ true
sends_it k read b e m h p = counts_one (sends_frame k b) (passing k true e) m (read_sends k read b e h []) p

pub receives_it : (k : ℕ) (read : Reader) (b : Body) (e : DecodedRecord) (m : RpcMessage) → event_of read b ≡ Ok e → passing k false e ≡ Some m → receives_frame k b ≡ true
receives_it k read b e m h p = counts_one (receives_frame k b) (passing k false e) m (read_receives k read b e h []) p

-- ---- a RECV comes after its frame was sent

follows : (v k : ℕ) (parts : List Part) (own : Part) (b : Body) → receives_frame k b ≡ true → may_come_behind v parts own (Some b) ≡ true → nat_lt (received_so_far k own) (sent_by_the_others v k parts) ≡ true
follows v k parts own (body.Receive on c rs fr) is may =
    let same : on ≡ k = eqb-true on k is in subst (λ j. nat_lt (received_so_far j own) (sent_by_the_others v j parts) ≡ true) same may
follows v k parts own b is may = absurd (let no : ⊥ = cc in no)

comes_received : (v k : ℕ) (parts : List Part) (own : Part) (b : Body) → part_of v parts ≡ Some own → slice_get own.log.records own.came ≡ Some b → receives_frame k b ≡ true →
    may_come parts v ≡ true → received_so_far k own < sent_by_the_others v k parts
unfolding may_come
comes_received v k parts own b is next receives_frame may =
    ltb-true (received_so_far k own) (sent_by_the_others v k parts)
    (follows v k parts own b receives_frame (sym (ap (λ o. may_come_behind v parts own o) next) ∙ sym (ap (λ o. may_come_from v parts o) is) ∙ may))

-- ---- all records are taken

used_logs : (steps : List ℕ) (logs : List Log) → used_up (parts_after logs steps) ≡ true → AllByRecursion (λ log. length log.records ≤ steps_counted_by log.vat steps) logs
unfolding used_up
used_logs steps [] h = tt
used_logs steps (log ∷ logs) h =
    let both = test_more (λ part. nat_le (length part.log.records) part.came) (part_after steps log) (parts_after logs steps) _ refl h in
    (leb-true (length log.records) (steps_counted_by log.vat steps) both.0, used_logs steps logs both.1)

log_there : (findings : List Found) (f : Found) → Contains findings f → Contains (logs_of findings) f.log
log_there [] f there = absurd (let lt = there.1 in omega (arith, lt))
log_there (g ∷ gs) f (zero, lt, e) = (0, omega arith, ap (λ x. x.log) e)
log_there (g ∷ gs) f (suc k, lt, e) = let r = log_there gs f (k, omega (arith, lt), e) in (suc r.0, omega (arith, r.1), r.2)

each_log : (P : Log → Type 0) (findings : List Found) → ((f : Found) → Contains findings f → P f.log) → AllByRecursion P (logs_of findings)
each_log P [] h = tt
each_log P (g ∷ gs) h = (h g (0, omega arith, refl), each_log P gs (λ f there. h f (suc there.0, omega (arith, there.1), there.2)))

pub past_whole : (f : Found) (n : ℕ) → length f.log.records ≤ n → past_before f n ≡ past_of f
past_whole f n le =
    let all = take_all n f.log.records le in
    let same = take_all (length f.log.records) f.log.records (omega arith) in
    ap (λ l. reverse (filter_map (event_in f) l)) (all ∙ sym same)

-- so many messages passed by any number of records
module _ (k : ℕ) (f : Found) (all : AllRecordsGood f) (n : ℕ) where
  sent_any : length (stream k true (past_before f n)) ≡ count_by (sends_frame k) (take n f.log.records)
  sent_any = elim (cases_lt n (length f.log.records)) [
    | inl less ↦ as_many_sent k f all n (omega (arith, less))
    | inr more ↦
        ap (λ p. length (stream k true p)) (past_whole f n more) ∙ as_many_sent k f all (length f.log.records) (omega arith)
        ∙ ap (count_by (sends_frame k)) (take_all (length f.log.records) f.log.records (omega arith) ∙ sym (take_all n f.log.records more))
  ]

  received_any : length (stream k false (past_before f n)) ≡ count_by (receives_frame k) (take n f.log.records)
  received_any = elim (cases_lt n (length f.log.records)) [
    | inl less ↦ as_many_received k f all n (omega (arith, less))
    | inr more ↦
        ap (λ p. length (stream k false p)) (past_whole f n more) ∙ as_many_received k f all (length f.log.records) (omega arith)
        ∙ ap (count_by (receives_frame k)) (take_all (length f.log.records) f.log.records (omega arith) ∙ sym (take_all n f.log.records more))
  ]

-- ---- who doesn't use a connection

first_false : (a b : Bool) → (a || b) ≡ false → a ≡ false
first_false false b h = refl
first_false true b h = h

second_false : (a b : Bool) → (a || b) ≡ false → b ≡ false
second_false false b h = h
second_false true b h = absurd (let no : ⊥ = cc in no)

none_counted : {A : Type 0} (p q : A → Bool) → ((x : A) → q x ≡ false → p x ≡ false) → (xs : List A) → list_any q xs ≡ false → count_by p xs ≡ 0
none_counted p q so [] h = refl
none_counted p q so (x ∷ xs) h =
    let none : ◌≡◌ {A = ℕ} (cond (p x) 1 0) 0 = ap (λ b. cond b 1 0) (so x (first_false (q x) (list_any q xs) h)) in
    omega (arith, sum_by-cons (λ x. cond (p x) 1 0) x xs, none, none_counted p q so xs (second_false (q x) (list_any q xs) h))

nothing_first : {A : Type 0} (xs ys : List A) → length ys ≡ 0 → GoesOn xs ys
nothing_first xs [] e = (xs, sym (append-nil xs))
nothing_first xs (y ∷ ys) e = absurd (omega (arith, e))

-- ---- together

module _ (findings : List Found) (order : List ℕ) (true_all : AreTrue findings) (asked : MayBeNamed findings order) where
  up : Rises (map (λ log. log.vat) (logs_of findings))
  up = rises _ asked.rising

  pub says_good : (f : Found) → Contains findings f → is_good f.outcome ≡ true
  says_good f there = member findings f (λ f. is_good f.outcome ≡ true) (all_test (λ f. is_good f.outcome) findings asked.good) there

  pub says_true : (f : Found) → Contains findings f → IsTrueOf f.log f.limits f.outcome
  says_true f there = subst (λ (g : Found). IsTrueOf g.log g.limits g.outcome) there.2 (true_all there.0 f there.1)

  pub all_good : (f : Found) → Contains findings f → AllRecordsGood f
  all_good f there = records_good f (says_true f there) (says_good f there)

  pub found_own : (f : Found) → Contains findings f → finding_of f.log.vat findings ≡ Some f
  found_own f there = own_found findings f up there

  -- of each log as many records are taken as steps are its vat's
  pub log_by : (f : Found) → Contains findings f → (steps : List ℕ) → log_of_vat f.log.vat (taken_by findings steps) ≡ past_before f (steps_counted_by f.log.vat steps)
  log_by f there steps = log_taken findings f.log.vat f (found_own f there) steps

  sent_same : (k : ℕ) (steps : List ℕ) (f : Found) → Contains findings f → sent_so_far k (part_after steps f.log) ≡ length (row_sent k f.log.vat (taken_by findings steps))
  sent_same k steps f there = sym (sent_any k f (all_good f there) (steps_counted_by f.log.vat steps)) ∙ ap (λ p. length (stream k true p)) (sym (log_by f there steps))

  received_same : (k : ℕ) (steps : List ℕ) (f : Found) → Contains findings f → received_so_far k (part_after steps f.log) ≡ length (row_received k f.log.vat (taken_by findings steps))
  received_same k steps f there = sym (received_any k f (all_good f there) (steps_counted_by f.log.vat steps)) ∙ ap (λ p. length (stream k false p)) (sym (log_by f there steps))

  -- a record that is received comes where the others sent more
  pub fits : (k : ℕ) → AtEach (FitsAt k) (row_of findings order)
  fits k before r p m h =
      let t = taken_at findings (reverse order) r before p in
      let s = stored_at findings t.vat t.before r.1 t.next in
      let f = s.finding in
      let at = found_in t.vat findings f s.found in
      let part = part_found t.vat t.before findings ∙ ap (λ o. option_map (λ f. part_after t.before f.log) o) s.found in
      let there : slice_get f.log.records (steps_counted_by f.log.vat t.before) ≡ Some s.stored = ap (λ v. slice_get f.log.records (steps_counted_by v t.before)) at.0 ∙ s.there in
      let lt = comes_received t.vat k (parts_after (logs_of findings) t.before) (part_after t.before f.log) s.stored part there
      (receives_it k (reads_within f.limits) s.stored r.1 m s.reads h) ((fits_all (logs_of findings) order asked.fits).come t.before t.vat t.there) in
      let le = others_sent k t.vat t.before (taken_by findings t.before) (logs_of findings) asked.rising (each_log _ findings (sent_same k t.before)) in
      let same : received_so_far k (part_after t.before f.log) ≡ length (row_received k t.vat (taken_by findings t.before)) =
      received_same k t.before f at.1 ∙ ap (λ v. length (row_received k v (taken_by findings t.before))) at.0 in
      let less : length (row_received k t.vat (taken_by findings t.before)) < length (row_others k t.vat (taken_by findings t.before)) = omega (arith, lt, le, same) in
      subst (λ v. length (row_received k v before) < length (row_others k v before)) (sym t.own)
      (subst (λ b. length (row_received k t.vat b) < length (row_others k t.vat b)) t.earlier less)

  -- whoever else sends on the connection uses it
  uses_it : (k : ℕ) (f : Found) (i : ℕ) (b : Body) → slice_get f.log.records i ≡ Some b → sends_frame k b ≡ true → uses k f.log ≡ true
  uses_it k f i b there is =
      list_any_at (λ b. sends_frame k b || receives_frame k b) f.log.records i b (slice_get_within f.log.records i b there)
      (ap (λ b. sends_frame k b || receives_frame k b) (get_or_from_slice_get f.log.records i b b there) ∙ ap (λ c. c || receives_frame k b) is)

  -- a record of the row that sends on the connection is of a log that uses it
  record IsSender (k : ℕ) (r : ℕ × DecodedRecord) : Type 0 where
    pub finding : Found
    pub there : Contains (logs_of findings) finding.log
    pub own : finding.log.vat ≡ r.0
    pub used : uses k finding.log ≡ true

  sender_of : (k : ℕ) (before : Row) (r : ℕ × DecodedRecord) (m : RpcMessage) → GoesOn (row_of findings order) (r ∷ before) → passing k true r.1 ≡ Some m → IsSender k r
  sender_of k before r m p h =
      let t = taken_at findings (reverse order) r before p in
      let s = stored_at findings t.vat t.before r.1 t.next in
      let at = found_in t.vat findings s.finding s.found in
      record {
        finding = s.finding;
        there = at.2;
        own = at.0 ∙ sym t.own;
        used = uses_it k s.finding (steps_counted_by t.vat t.before) s.stored s.there (sends_it k (reads_within s.finding.limits) s.stored r.1 m s.reads h);
      }

  theirs : (k : ℕ) (one other : Found) → AreEnds (logs_of findings) k one.log other.log → AtEach (IsTheirs k one.log.vat other.log.vat) (row_of findings order)
  theirs k one other ends before r p apart_one apart_other = at (passing k true r.1) refl
    where
      at : (o : Option RpcMessage) → passing k true r.1 ≡ o → o ≡ None
      at None h = refl
      at (Some m) h =
          let s = sender_of k before r m p h in
          elim (ends.no_third s.finding.log s.there s.used) [
            | inl first ↦ absurd (apart_one (sym s.own ∙ first))
            | inr second ↦ absurd (apart_other (sym s.own ∙ second))
          ]

  -- all records of each log are taken
  pub whole_log : (f : Found) → Contains findings f → log_of_vat f.log.vat (row_of findings order) ≡ past_of f
  whole_log f there =
      let used = used_logs (reverse order) (logs_of findings) (fits_all (logs_of findings) order asked.fits).all in
      log_by f there (reverse order) ∙ past_whole f (steps_counted_by f.log.vat (reverse order)) (member (logs_of findings) f.log (λ log. length log.records ≤ steps_counted_by log.vat (reverse order)) used (log_there findings f there))

  -- who doesn't use a connection passes nothing on it
  none_sent : (k : ℕ) (f : Found) → Contains findings f → uses k f.log ≡ false → length (stream k true (past_of f)) ≡ 0
  none_sent k f there out =
      sent_any k f (all_good f there) (length f.log.records) ∙ ap (count_by (sends_frame k)) (take_all (length f.log.records) f.log.records (omega arith))
      ∙ none_counted (sends_frame k) (λ b. sends_frame k b || receives_frame k b) (λ b. first_false (sends_frame k b) (receives_frame k b)) f.log.records out

  none_received : (k : ℕ) (f : Found) → Contains findings f → uses k f.log ≡ false → length (stream k false (past_of f)) ≡ 0
  none_received k f there out =
      received_any k f (all_good f there) (length f.log.records) ∙ ap (count_by (receives_frame k)) (take_all (length f.log.records) f.log.records (omega arith))
      ∙ none_counted (receives_frame k) (λ b. sends_frame k b || receives_frame k b) (λ b. second_false (sends_frame k b) (receives_frame k b)) f.log.records out

  -- what one end received is the beginning of what the other sent: by the link, where both use the connection; else
  -- nothing was received
  first_sent : (k : ℕ) (one other : Found) → Contains findings one → Contains findings other → AreEnds (logs_of findings) k one.log other.log → GoesOn (stream k true (past_of other)) (stream k false (past_of one))
  first_sent k one other there_one there_other ends = elim (cases_Bool (uses k one.log)) [
    | inr out ↦ nothing_first _ _ (none_received k one there_one out)
    | inl one_uses ↦ elim (cases_Bool (uses k other.log)) [
      | inl other_uses ↦
          received_first k one other (all_good one there_one) (all_good other there_other) (asked.linked k one.log other.log
          (record { one_there = ends.one_there; other_there = ends.other_there; apart = ends.apart; one_uses = one_uses; other_uses = other_uses }))
      | inr out ↦
          let row = row_of findings order in
          let few = received_few k one.log.vat row (fits k) in
          let others = ap length (others_are k one.log.vat other.log.vat row ends.apart (theirs k one other ends)) in
          let mine = ap (λ p. length (stream k false p)) (whole_log one there_one) in
          let its = ap (λ p. length (stream k true p)) (whole_log other there_other) in
          let none = none_sent k other there_other out in
          nothing_first _ _ (omega (arith, few, others, mine, its, none))
    ]
  ]

  one_way : (k : ℕ) (one other : Found) → Contains findings one → Contains findings other → AreEnds (logs_of findings) k one.log other.log →
      GoesOn (row_sent k other.log.vat (row_of findings order)) (row_received k one.log.vat (row_of findings order))
  one_way k one other there_one there_other ends =
      subst (λ p. GoesOn (stream k true p) (row_received k one.log.vat (row_of findings order))) (sym (whole_log other there_other))
      (subst (λ p. GoesOn (stream k true (past_of other)) (stream k false p)) (sym (whole_log one there_one)) (first_sent k one other there_one there_other ends))

  ends_turned : (k : ℕ) (one other : Log) → AreEnds (logs_of findings) k one other → AreEnds (logs_of findings) k other one
  ends_turned k one other ends = record {
    one_there = ends.other_there;
    other_there = ends.one_there;
    apart = λ e. ends.apart (sym e);
    no_third = λ third there uses. elim (ends.no_third third there uses) [
      | inl first ↦ inr first
      | inr second ↦ inl second
    ];
  }

  -- the two ends of a connection share it in the row
  pub shared : (k : ℕ) (one other : Found) → Contains findings one → Contains findings other → AreEnds (logs_of findings) k one.log other.log →
      IsShared k one.log.vat other.log.vat (row_of findings order)
  shared k one other there_one there_other ends = record {
    apart = ends.apart;
    fits = fits k;
    theirs = theirs k one other ends;
    to_one = one_way k one other there_one there_other ends;
    to_other = one_way k other one there_other there_one (ends_turned k one.log other.log ends);
  }
