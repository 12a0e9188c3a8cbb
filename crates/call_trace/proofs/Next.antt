-- The next record of a row that may run: its step keeps to its link, and what it receives is what comes next.
use Rattle.std.proofs.Common.{◌≡◌, ◌≢◌, refl, sym, ◌∙◌, ap, ap₂, subst, ℕ, ◌<◌, ◌==◌, List, [], ◌∷◌, length, reverse, Bool, true, false, not, ◌&&◌, ◌||◌, Option, Some, None, Result, Ok, if◌then◌else◌, arith, eqb-true, slice_get, inl, inr}
use Rattle.std.specs.Prelude.{Contains, IsTrue}
use Rattle.std.specs.List.{cons_option, filter_map, list_all, AllByRecursion}
use Rattle.std.proofs.lemmas.List.Folds.{list_any_at}
use Rattle.std.proofs.lemmas.Option.{slice_get_within, get_or_from_slice_get}
use Rattle.std.proofs.lemmas.Bool.{eq-eqb, cases_Bool}
use Rattle.agree.specs.Agreeing.{AreLinked}
use Rattle.agree.specs.Points.{GoesOn, AtEach}
use Rattle.agree.specs.Rows.{Row, log_of_vat, received_stream, sent_stream, stream_of_others, FitsAt, IsTheirs, IsShared}
use Rattle.agree.specs.Streams.{passing, stream, IsPassed}
use Rattle.agree.proofs.Cuts.{row_cut, turned, shared_linked}
use Rattle.agree.proofs.Openings.{passing_is}
use Rattle.agree.proofs.Points.{through, before_it, at_each_before, lifted}
use Rattle.vat_log.specs.declared.body.Body.{Body}
use Rattle.vat_log.specs.Passages.{sends_frame, receives_frame}
use Rattle.vat_rules.specs.Audit.{Found, reads_within}
use Rattle.vat_rules.specs.Events.{event_of}
use Rattle.vat_rules.specs.Judged.{IsGood}
use Rattle.vat_rules.specs.OfCaps.{is_received}
use Rattle.vat_rules.specs.declared.outcome.Why.{Why}
use Rattle.decoded_records.specs.Past.{Past, Each}
use Rattle.call_trace.specs.Findings.{uses, Share, AreEnds, logs_of, AreTrue, MayBeNamed}
use Rattle.call_trace.specs.Named.{past_before}
use Rattle.call_trace.specs.Running.{coming_next, steps_by, AreMet, IsNamedRow, Passes, IsUser, IsGoodNext, MayRun}
use Rattle.call_trace.specs.Naming.{message_at}
use Rattle.call_trace.specs.Taking.{row_of}
use Rattle.call_trace.specs.Taking.{steps_counted_by as turns_of}
use Rattle.call_trace.specs.Types.{RpcMessage, DecodedRecord, Wire, Message, Step}
use Rattle.call_trace.proofs.Carrying.{apart_from, passed, IsAlike, there_too, named_next, log_here, log_there, comes_next, are_met}
use Rattle.call_trace.proofs.Reading.{IsGoodRecord}
use Rattle.call_trace.proofs.Sharing.{found_in, taken_at, stored_at, sends_it, receives_it, all_good, fits, shared}
use Rattle.call_trace.proofs.Taking.{log_taken}
use Rattle.run_model.specs.Links.{IsEnd, IsLinked, other_user, are_one}
use Rattle.run_model.specs.Steps.{vat_of}
use Rattle.run_model.specs.declared.step.Step.TheVariants as step

-- ---- the row that an order takes may run

right_true : (a b : Bool) → b ≡ true → (a || b) ≡ true
right_true true b h = refl
right_true false b h = h

passes_it : (k : ℕ) (f : Found) (b : Body) (e : DecodedRecord) (sent : Bool) (m : RpcMessage) → event_of (reads_within f.limits) b ≡ Ok e → passing k sent e ≡ Some m → (sends_frame k b || receives_frame k b) ≡ true
passes_it k f b e true m reads h = ap (λ c. c || receives_frame k b) (sends_it k (reads_within f.limits) b e m reads h)
passes_it k f b e false m reads h = right_true (sends_frame k b) (receives_frame k b) (receives_it k (reads_within f.limits) b e m reads h)

-- the finding of a user of a connection
record IsUsing (findings : List Found) (k v : ℕ) : Type 0 where
  pub finding : Found
  pub there : Contains findings finding
  pub log_there : Contains (logs_of findings) finding.log
  pub own : finding.log.vat ≡ v
  pub used : IsTrue (uses k finding.log)

pub some_same : {A : Type 0} (o : Option A) (x y : A) → o ≡ Some x → o ≡ Some y → x ≡ y
some_same o x y h g = let same : Some x ≡ Some y = sym h ∙ g in cc

pub ok_same : (r : Result DecodedRecord Why) (x y : DecodedRecord) → r ≡ Ok x → r ≡ Ok y → x ≡ y
ok_same r x y h g = let same : ◌≡◌ {A = Result DecodedRecord Why} (Ok x) (Ok y) = sym h ∙ g in cc

module _ (findings : List Found) (order : List ℕ) (true_all : AreTrue findings) (asked : MayBeNamed findings order) where
  -- what each record of a log is after those before it, each record of the row is after those of its vat
  pub each_next : (P : Past → DecodedRecord → Type 0) → ((f : Found) → Contains findings f → (i : ℕ) (r : IsGoodRecord f i) → P (past_before f i) r.event) → AtEach (λ before r. P (log_of_vat r.0 before) r.1) (row_of findings order)
  each_next P so before r p =
      let t = taken_at findings (reverse order) r before p in
      let s = stored_at findings t.vat t.before r.1 t.next in
      let f = s.finding in
      let i = turns_of t.vat t.before in
      let at = found_in t.vat findings f s.found in
      let g = all_good findings order true_all asked f at.1 i (slice_get_within f.log.records i s.stored s.there) in
      let body = some_same (slice_get f.log.records i) g.body s.stored g.there s.there in
      let event = ok_same (event_of (reads_within f.limits) s.stored) g.event r.1 (ap (event_of (reads_within f.limits)) (sym body) ∙ g.reads) s.reads in
      let log : past_before f i ≡ log_of_vat r.0 before =
      sym (log_taken findings t.vat f s.found t.before) ∙ ap₂ (λ v row. log_of_vat v row) (sym t.own) t.earlier in
      subst (λ es. P es r.1) log (subst (P (past_before f i)) event (so f at.1 i g))

  goods : AtEach IsGoodNext (row_of findings order)
  goods = each_next IsGood (λ f there i r. r.good)

  using : (k v : ℕ) → IsUser k v (row_of findings order) → IsUsing findings k v
  using k v (before, e, p, passes) =
      let t = taken_at findings (reverse order) (v, e) before p in
      let s = stored_at findings t.vat t.before e t.next in
      let f = s.finding in
      let i = turns_of t.vat t.before in
      let at = found_in t.vat findings f s.found in
      record {
        finding = f;
        there = at.1;
        log_there = at.2;
        own = at.0 ∙ sym t.own;
        used = list_any_at (λ b. sends_frame k b || receives_frame k b) f.log.records i s.stored (slice_get_within f.log.records i s.stored s.there)
            (ap (λ b. sends_frame k b || receives_frame k b) (get_or_from_slice_get f.log.records i s.stored s.stored s.there) ∙ passes_it k f s.stored e passes.0 passes.1 s.reads passes.2);
      }

  share : (k v w : ℕ) (one : IsUsing findings k v) (other : IsUsing findings k w) → v ≢ w → Share (logs_of findings) k one.finding.log other.finding.log
  share k v w one other apart = record {
    one_there = one.log_there;
    other_there = other.log_there;
    apart = λ e. apart (sym one.own ∙ e ∙ other.own);
    one_uses = one.used;
    other_uses = other.used;
  }

  two_ends : (k v w u : ℕ) → IsUser k v (row_of findings order) → IsUser k w (row_of findings order) → IsUser k u (row_of findings order) → v ≢ w → v ≢ u → w ≡ u
  two_ends k v w u at_v at_w at_u apart other_apart =
      let one = using k v at_v in
      let other = using k w at_w in
      let third = using k u at_u in
      sym other.own ∙ asked.two_ends k one.finding.log other.finding.log third.finding.log (share k v w one other apart) (share k v u one third other_apart) ∙ third.own

  are_ends : (k v w : ℕ) (one : IsUsing findings k v) (other : IsUsing findings k w) → v ≢ w → AreEnds (logs_of findings) k one.finding.log other.finding.log
  are_ends k v w one other apart = record {
    one_there = one.log_there;
    other_there = other.log_there;
    apart = λ e. apart (sym one.own ∙ e ∙ other.own);
    no_third = λ third there used. elim (cases_Bool (third.vat == one.finding.log.vat)) [
      | inl same ↦ inl (eqb-true third.vat one.finding.log.vat same)
      | inr other_vat ↦
          inr (sym (asked.two_ends k one.finding.log other.finding.log third (share k v w one other apart) (record {
            one_there = one.log_there;
            other_there = there;
            apart = λ e. let no : true ≡ false = sym (eq-eqb third.vat one.finding.log.vat (sym e)) ∙ other_vat in absurd (let n : ⊥ = cc in n);
            one_uses = one.used;
            other_uses = used;
          })))
    ];
  }

  linked_ends : (k v w : ℕ) → IsUser k v (row_of findings order) → IsUser k w (row_of findings order) → v ≢ w → GoesOn (sent_stream k w (row_of findings order)) (received_stream k v (row_of findings order))
  linked_ends k v w at_v at_w apart =
      let one = using k v at_v in
      let other = using k w at_w in
      let s = shared findings order true_all asked k one.finding other.finding one.there other.there (are_ends k v w one other apart) in
      subst (λ u. GoesOn (sent_stream k w (row_of findings order)) (received_stream k u (row_of findings order))) one.own
      (subst (λ u. GoesOn (sent_stream k u (row_of findings order)) (received_stream k one.finding.log.vat (row_of findings order))) other.own s.to_one)

  pub may_run : MayRun (row_of findings order)
  may_run = record { good = goods; fits = fits findings order true_all asked; two_ends = two_ends; linked = linked_ends }

-- ---- points of a row that may run

user_before : (k v : ℕ) (row before : Row) → GoesOn row before → IsUser k v before → IsUser k v row
user_before k v row before p (earlier, e, there, passes) = (earlier, e, through row before ((v, e) ∷ earlier) p there, passes)

-- two users of a connection share it
shared_users : (k v w : ℕ) (row : Row) → MayRun row → IsUser k v row → IsUser k w row → v ≢ w → IsShared k v w row
shared_users k v w row run at_v at_w apart = record {
  apart = apart;
  fits = run.fits k;
  theirs = theirs;
  to_one = run.linked k v w at_v at_w apart;
  to_other = run.linked k w v at_w at_v (λ e. apart (sym e));
}
  where
    theirs : AtEach (IsTheirs k v w) row
    theirs before r p not_v not_w = at (passing k true r.1) refl
      where
        at : (o : Option RpcMessage) → passing k true r.1 ≡ o → o ≡ None
        at None h = refl
        at (Some m) h = absurd (not_w (sym (run.two_ends k v w r.0 at_v at_w (before, r.1, p, (true, m, h)) apart (λ e. not_v (sym e)))))

shared_before : (k v w : ℕ) (row before : Row) → GoesOn row before → IsShared k v w row → IsShared k v w before
shared_before k v w row before p s =
    let cut = row_cut k v w row before s p in
    record {
      apart = s.apart;
      fits = at_each_before (FitsAt k) row before p s.fits;
      theirs = at_each_before (IsTheirs k v w) row before p s.theirs;
      to_one = cut.to_one;
      to_other = cut.to_other;
    }

pub run_before : (row before : Row) → GoesOn row before → MayRun row → MayRun before
run_before row before p run = record {
  good = at_each_before IsGoodNext row before p run.good;
  fits = λ k. at_each_before (FitsAt k) row before p (run.fits k);
  two_ends = λ k v w u at_v at_w at_u. run.two_ends k v w u (user_before k v row before p at_v) (user_before k w row before p at_w) (user_before k u row before p at_u);
  linked = λ k v w at_v at_w apart.
      (row_cut k v w row before (shared_users k v w row run (user_before k v row before p at_v) (user_before k w row before p at_w) apart) p).to_one;
}

pub logs_good : (v : ℕ) (row : Row) → AtEach IsGoodNext row → Each IsGood (log_of_vat v row)
logs_good v [] good = tt
logs_good v ((u, e) ∷ row) good = at (u == v) refl (logs_good v row (at_each_before IsGoodNext ((u, e) ∷ row) row ((u, e) ∷ [], refl) good))
  where
    at : (b : Bool) → (u == v) ≡ b → Each IsGood (log_of_vat v row) → Each IsGood (cons_option (if b then Some e else None) (log_of_vat v row))
    at true same rest = (subst (λ w. IsGood (log_of_vat w row) e) (eqb-true u v same) (good row (u, e) ([], refl)), rest)
    at false apart rest = rest

-- ---- a connection has two ends

all_one : (P : ℕ → Type 0) → ((a b : ℕ) → P a → P b → a ≡ b) → (xs : List ℕ) → AllByRecursion P xs → are_one xs ≡ true
all_one P one [] all = refl
all_one P one (n ∷ rest) all = at rest all.1
  where
    at : (xs : List ℕ) → AllByRecursion P xs → list_all (λ m. m == n) xs ≡ true
    at [] h = refl
    at (m ∷ xs) h = ap (λ b. b && list_all (λ m. m == n) xs) (eq-eqb m n (one m n h.0 all.0)) ∙ at xs h.1

record IsOther (v k : ℕ) (s : Step) (u : ℕ) : Type 0 where
  pub vat : vat_of s ≡ u
  pub apart : u ≢ v
  pub sent : Bool
  pub message : Message
  pub passes : passed k sent s ≡ Some message

other_is : (v k : ℕ) (s : Step) (u : ℕ) → other_user v k s ≡ Some u → IsOther v k s u
other_is v k (step.Send w j m) u h = at (j == k) (w == v) refl refl h
  where
    at : (a b : Bool) → (j == k) ≡ a → (w == v) ≡ b → (if a && not b then Some w else None) ≡ Some u → IsOther v k (step.Send w j m) u
    at true false here apart h =
        let same : w ≡ u = cc in
        record { vat = same; apart = subst (λ x. x ≢ v) same (apart_from w v apart); sent = true; message = m; passes = ap (λ b. if b && true then Some m else None) here }
    at true true here apart h = absurd (let no : ⊥ = cc in no)
    at false b here apart h = absurd (let no : ⊥ = cc in no)
other_is v k (step.Receive w j m bound) u h = at (j == k) (w == v) refl refl h
  where
    at : (a b : Bool) → (j == k) ≡ a → (w == v) ≡ b → (if a && not b then Some w else None) ≡ Some u → IsOther v k (step.Receive w j m bound) u
    at true false here apart h =
        let same : w ≡ u = cc in
        record { vat = same; apart = subst (λ x. x ≢ v) same (apart_from w v apart); sent = false; message = m; passes = ap (λ b. if b && true then Some m else None) here }
    at true true here apart h = absurd (let no : ⊥ = cc in no)
    at false b here apart h = absurd (let no : ⊥ = cc in no)
other_is v k s u h = absurd (let no : ⊥ = cc in no)

abbrev IsOtherUser : ℕ → ℕ → Row → ℕ → Type 0
IsOtherUser k v whole u = (u ≢ v) × IsUser k u whole

-- whoever else used the connection in the run used it in the row
others_use : (k v : ℕ) (whole row : Row) (before : List Step) → GoesOn whole row → IsNamedRow row before → AllByRecursion (IsOtherUser k v whole) (filter_map (other_user v k) before)
others_use k v whole [] [] p named = tt
others_use k v whole [] (s ∷ before) p named = absurd (let no : ⊥ = let by = named.by_row in cc in no)
others_use k v whole ((u, e) ∷ row) before p named =
    let n = named_next u e row before named in
    subst (λ l. AllByRecursion (IsOtherUser k v whole) (filter_map (other_user v k) l)) (sym n.all)
    (at n.step n.before (other_user v k n.step) refl n.vat n.alike (others_use k v whole row n.before (before_it whole (u, e) row p) n.rest))
  where
    at : (s : Step) (before : List Step) (o : Option ℕ) → other_user v k s ≡ o → vat_of s ≡ u → IsAlike u e s → AllByRecursion (IsOtherUser k v whole) (filter_map (other_user v k) before) →
        AllByRecursion (IsOtherUser k v whole) (cons_option o (filter_map (other_user v k) before))
    at s before None h vat alike rest = rest
    at s before (Some x) h vat alike rest =
        let other = other_is v k s x h in
        let m = there_too (passing k other.sent e) (passed k other.sent s) other.message (sym (alike.passes k other.sent)) other.passes in
        let user : IsUser k u whole = (row, e, p, (other.sent, m.0, m.1)) in
        ((other.apart, subst (λ x. IsUser k x whole) (sym vat ∙ other.vat) user), rest)

pub is_end : (k v : ℕ) (e : DecodedRecord) (row : Row) (before : List Step) → MayRun ((v, e) ∷ row) → Passes k e → IsNamedRow row before → IsEnd before v k
is_end k v e row before run passes named =
    let whole : Row = (v, e) ∷ row in
    let own : IsUser k v whole = (row, e, ([], refl), passes) in
    all_one (IsOtherUser k v whole) (λ a b at_a at_b. run.two_ends k v a b own at_a.1 at_b.1 (λ s. at_a.0 (sym s)) (λ s. at_b.0 (sym s))) (filter_map (other_user v k) before)
    (others_use k v whole row before ((v, e) ∷ [], refl) named)

-- a record that isn't received keeps to its link
pub keeps_link : (v : ℕ) (e : DecodedRecord) (row : Row) (before : List Step) (s : Step) → MayRun ((v, e) ∷ row) → IsNamedRow row before → is_received e ≡ false → IsAlike v e s → IsLinked before s
keeps_link v e row before (step.Send u j m) run named own alike =
    let here : passed j true (step.Send u j m) ≡ Some m = ap (λ b. if b && true then Some m else None) (eq-eqb j j refl) in
    let sent = there_too (passing j true e) (passed j true (step.Send u j m)) m (sym (alike.passes j true)) here in
    subst (λ w. IsEnd before w j) (sym alike.vat) (is_end j v e row before run (true, sent.0, sent.1) named)
keeps_link v e row before (step.Receive u j m bound) run named own alike =
    let here : passed j false (step.Receive u j m bound) ≡ Some m = ap (λ b. if b && true then Some m else None) (eq-eqb j j refl) in
    let got = there_too (passing j false e) (passed j false (step.Receive u j m bound)) m (sym (alike.passes j false)) here in
    let wire = passing_is j false got.0 e got.1 in
    absurd (let no : true ≡ false = ap is_received (sym wire.2) ∙ own in let n : ⊥ = cc in n)
keeps_link v e row before s run named own alike = tt

-- ---- what a vat receives next

-- another vat that sent there, where others sent
record IsSender (k v : ℕ) (row : Row) : Type 0 where
  pub vat : ℕ
  pub apart : v ≢ vat
  pub used : IsUser k vat row

sent_by_one : (k v : ℕ) (row : Row) (sent : List RpcMessage) → stream_of_others k v row ≡ sent → 0 < length sent → IsSender k v row
sent_by_one k v row [] same lt = absurd (omega (arith, lt))
sent_by_one k v row (m ∷ rest) same lt =
    let r = lifted (λ (r : ℕ × DecodedRecord). if r.0 == v then None else passing k true r.1) row m rest ([], same) in
    at r.0 r.1 r.2 (r.0.0 == v) refl r.3
  where
    at : (x : ℕ × DecodedRecord) (before : Row) → GoesOn row (x ∷ before) → (b : Bool) → (x.0 == v) ≡ b → (if b then None else passing k true x.1) ≡ Some m → IsSender k v row
    at x before p true own h = absurd (let no : ⊥ = cc in no)
    at x before p false apart h = record { vat = x.0; apart = λ e. apart_from x.0 v apart (sym e); used = (before, x.1, p, (true, m, h)) }

-- a record that receives, and what was sent to it
pub record IsComing (k c v : ℕ) (rs : List ℕ) (m : RpcMessage) (row : Row) (before : List Step) : Type 0 where
  pub other : ℕ
  pub apart : v ≢ other
  pub from : Past
  pub sent : DecodedRecord
  pub message : Message
  pub met : AreMet k other (log_of_vat other row) (steps_by other before) v (log_of_vat v row) (steps_by v before)
  pub linked : AreLinked k (log_of_vat other row) (Wire false k c rs m ∷ log_of_vat v row)
  pub passed : IsPassed k m (log_of_vat other row) (Wire false k c rs m ∷ log_of_vat v row) from (log_of_vat v row) sent (Wire false k c rs m)
  pub comes : coming_next v k before ≡ Some message
  pub was : message_at (length from) (steps_by other before) ≡ Some message

pub received_here : (k c : ℕ) (rs : List ℕ) (m : RpcMessage) → passing k false (Wire false k c rs m) ≡ Some m
received_here k c rs m = ap (λ b. if b && true then Some m else None) (eq-eqb k k refl)

module _ (k c v : ℕ) (rs : List ℕ) (m : RpcMessage) (row : Row) (before : List Step) (run : MayRun ((v, Wire false k c rs m) ∷ row)) (named : IsNamedRow row before) where
  coming_of : (w : ℕ) → IsShared k v w ((v, Wire false k c rs m) ∷ row) → IsComing k c v rs m row before
  coming_of w shared =
      let e : DecodedRecord = Wire false k c rs m in
      let whole : Row = (v, e) ∷ row in
      let p : GoesOn whole row = ((v, e) ∷ [], refl) in
      let before_now = shared_before k v w whole row p shared in
      let apart : (v == w) ≡ false = at (v == w) refl shared.apart in
      let own : log_of_vat v whole ≡ e ∷ log_of_vat v row = log_here v v e row refl in
      let its : log_of_vat w whole ≡ log_of_vat w row = log_there w v e row apart in
      let streams : GoesOn (stream k true (log_of_vat w row)) (stream k false (e ∷ log_of_vat v row)) =
      subst (λ es. GoesOn (stream k true es) (stream k false (e ∷ log_of_vat v row))) its (subst (λ es. GoesOn (sent_stream k w whole) (stream k false es)) own shared.to_one) in
      let with_it : GoesOn (stream k true (log_of_vat w row)) (m ∷ stream k false (log_of_vat v row)) =
      subst (λ o. GoesOn (stream k true (log_of_vat w row)) (cons_option o (stream k false (log_of_vat v row)))) (received_here k c rs m) streams in
      let l = lifted (passing k true) (log_of_vat w row) m (stream k false (log_of_vat v row)) with_it in
      let comes = comes_next k v w row before shared.apart before_now.theirs named m l.1 l.0 l.2 l.3 (ap length l.4) in
      let good = logs_good v row (at_each_before IsGoodNext whole row p run.good) in
      let good_other = logs_good w row (at_each_before IsGoodNext whole row p run.good) in
      let back : IsShared k w v whole = turned k v w whole shared in
      record {
        other = w;
        apart = shared.apart;
        from = l.1;
        sent = l.0;
        message = comes.0;
        met = are_met k w v row before (turned k v w row before_now) named good_other good;
        linked = subst (λ es. AreLinked k es (e ∷ log_of_vat v row)) its (subst (AreLinked k (log_of_vat w whole)) own (shared_linked k w v whole back));
        passed = record { sent_there = l.2; received_there = ([], refl); sends = l.3; receives = received_here k c rs m; same_number = ap length l.4 };
        comes = comes.1;
        was = comes.2;
      }
    where
      at : (b : Bool) → (v == w) ≡ b → v ≢ w → b ≡ false
      at true same apart = absurd (apart (eqb-true v w same))
      at false other apart = refl

  pub is_coming : IsComing k c v rs m row before
  is_coming =
      let e : DecodedRecord = Wire false k c rs m in
      let whole : Row = (v, e) ∷ row in
      let less = run.fits k row (v, e) ([], refl) m (received_here k c rs m) in
      let sender = sent_by_one k v row (stream_of_others k v row) refl (omega (arith, less)) in
      let own : IsUser k v whole = (row, e, ([], refl), (false, m, received_here k c rs m)) in
      let its : IsUser k sender.vat whole = user_before k sender.vat whole row ((v, e) ∷ [], refl) sender.used in
      coming_of sender.vat (shared_users k v sender.vat whole run own its sender.apart)
