-- The order of several logs' records, and consistent cuts.
use Rattle.std.proofs.Common.{◌≡◌, ◌≢◌, refl, sym, ◌∙◌, ap, ap₂, subst, ℕ, ◌<◌, ◌≤◌, ◌==◌, List, [], ◌∷◌, ◌++◌, length, Bool, true, false, not, ◌&&◌, Option, Some, None, if◌then◌else◌, arith, eqb-true}
use Rattle.std.specs.Bool.{beq}
use Rattle.std.specs.List.{cons_option}
use Rattle.std.proofs.lemmas.List.{append-nil}
use Rattle.std.proofs.lemmas.Bool.{false≢true, eq-eqb}
use Rattle.std.proofs.lemmas.Bool.Decides.{nat_tests}
use Rattle.agree.specs.Types.{RpcMessage, DecodedRecord, Host, Wire}
use Rattle.decoded_records.specs.Past.{Past}
use Rattle.agree.specs.Points.{GoesOn, AtEach}
use Rattle.agree.specs.Streams.{passing, stream, IsCut, IsPassed}
use Rattle.agree.specs.Agreeing.{AreLinked}
use Rattle.agree.specs.Rows.{Row, record_of_vat, log_of_vat, received_stream, sent_stream, stream_of_others, AllBefore, FitsAt, IsTheirs, IsShared}
use Rattle.agree.proofs.Points.{through, before_it, shorter, same_length, kept, lifted, nth_within, at_each_before}

few_more : (o : Option RpcMessage) (n : ℕ) (str : List RpcMessage) → n ≤ length str → n ≤ length (cons_option o str)
few_more None n str le = le
few_more (Some m) n str le = omega arith

one_more : (o : Option RpcMessage) (n : ℕ) (str : List RpcMessage) → length str ≤ n → ((m : RpcMessage) → o ≡ Some m → length str < n) → length (cons_option o str) ≤ n
one_more None n str le lt = le
one_more (Some m) n str le lt = lt m refl

few_at : (k v : ℕ) (r : ℕ × DecodedRecord) (before : Row) (b : Bool) → (r.0 == v) ≡ b → FitsAt k before r → length (received_stream k v before) ≤ length (stream_of_others k v before) →
    length (stream k false (cons_option (if b then Some r.1 else None) (log_of_vat v before))) ≤ length (cons_option (if b then None else passing k true r.1) (stream_of_others k v before))
few_at k v r before true e fits le = one_more (passing k false r.1) _ (received_stream k v before) le (λ m g. subst (λ x. length (received_stream k x before) < length (stream_of_others k x before)) (eqb-true r.0 v e) (fits m g))
few_at k v r before false e fits le = few_more (passing k true r.1) _ _ le

-- a vat received no more than the others sent
pub received_few : (k v : ℕ) (row : Row) → AtEach (FitsAt k) row → length (received_stream k v row) ≤ length (stream_of_others k v row)
received_few k v [] fits = omega arith
received_few k v (r ∷ before) fits =
    few_at k v r before (r.0 == v) refl (fits before r ([], refl)) (received_few k v before (at_each_before (FitsAt k) (r ∷ before) before (r ∷ [], refl) fits))

apart_from : (m n : ℕ) → (m == n) ≡ false → m ≢ n
apart_from m n e same = false≢true (sym e ∙ eq-eqb m n same)

theirs_at : (k v w : ℕ) (r : ℕ × DecodedRecord) (before : Row) (b c : Bool) → (r.0 == v) ≡ b → (r.0 == w) ≡ c → v ≢ w → IsTheirs k v w before r → (others : List RpcMessage) → others ≡ sent_stream k w before →
    cons_option (if b then None else passing k true r.1) others ≡ stream k true (cons_option (if c then Some r.1 else None) (log_of_vat w before))
theirs_at k v w r before true true e f apart theirs others h = absurd (apart (sym (eqb-true r.0 v e) ∙ eqb-true r.0 w f))
theirs_at k v w r before true false e f apart theirs others h = h
theirs_at k v w r before false true e f apart theirs others h = ap (λ l. cons_option (passing k true r.1) l) h
theirs_at k v w r before false false e f apart theirs others h = ap (λ o. cons_option o others) (theirs (apart_from r.0 v e) (apart_from r.0 w f)) ∙ h

-- what the others sent is what the one other sent
pub others_are : (k v w : ℕ) (row : Row) → v ≢ w → AtEach (IsTheirs k v w) row → stream_of_others k v row ≡ sent_stream k w row
others_are k v w [] apart theirs = refl
others_are k v w (r ∷ before) apart theirs = theirs_at k v w r before (r.0 == v) (r.0 == w) refl refl apart (theirs before r ([], refl)) _
    (others_are k v w before apart (at_each_before (IsTheirs k v w) (r ∷ before) before (r ∷ [], refl) theirs))

-- the two ends may be named the other way round
pub turned : (k v w : ℕ) (row : Row) → IsShared k v w row → IsShared k w v row
turned k v w row s = record {
  apart = λ e. s.apart (sym e);
  fits = s.fits;
  theirs = λ b r p f g. s.theirs b r p g f;
  to_one = s.to_other;
  to_other = s.to_one;
}

-- of one direction: what was received by a point was sent by then
sent_first : (k v w : ℕ) (row before : Row) → IsShared k v w row → GoesOn row before → GoesOn (sent_stream k w before) (received_stream k v before)
sent_first k v w row before s p =
    shorter (sent_stream k w row) _ _ (through _ _ _ s.to_one (kept (passing k false) _ _ (kept (record_of_vat v) row before p))) (kept (passing k true) _ _ (kept (record_of_vat w) row before p))
    (subst (λ l. length (received_stream k v before) ≤ length l) (others_are k v w before s.apart (at_each_before (IsTheirs k v w) row before p s.theirs))
    (received_few k v before (at_each_before (FitsAt k) row before p s.fits)))

-- at each point of the order the two logs are at a consistent cut
pub row_cut : (k v w : ℕ) (row before : Row) → IsShared k v w row → GoesOn row before → IsCut k (log_of_vat v before) (log_of_vat w before)
row_cut k v w row before s p = record { to_one = sent_first k v w row before s p; to_other = sent_first k w v row before (turned k v w row s) p }

-- a record of a vat's log stands in the row
abbrev pub Taken : ℕ → Row → DecodedRecord → Past → Type 0
Taken v row e past = (before : Row) × GoesOn row ((v, e) ∷ before) × (log_of_vat v before ≡ past)

pair_of : (v : ℕ) (r : ℕ × DecodedRecord) (e : DecodedRecord) (b : Bool) → (r.0 == v) ≡ b → (if b then Some r.1 else None) ≡ Some e → r ≡ (v, e)
pair_of v r e true f g = let same : r.1 ≡ e = cc in ap₂ (λ x y. (x, y)) (eqb-true r.0 v f) same
pair_of v r e false f g = absurd (let no : ⊥ = cc in no)

pub taken : (v : ℕ) (row : Row) (e : DecodedRecord) (past : Past) → GoesOn (log_of_vat v row) (e ∷ past) → Taken v row e past
taken v row e past p =
    let r = lifted (record_of_vat v) row e past p in (r.1, subst (λ x. GoesOn row (x ∷ r.1)) (pair_of v r.0 e (r.0.0 == v) refl r.3) r.2, r.4)

of_own : (v : ℕ) (e : DecodedRecord) → record_of_vat v (v, e) ≡ Some e
of_own v e = ap (λ b. if b then Some e else None) (eq-eqb v v refl)

-- if each record of one vat up to a point is taken before a record of the other, what it received the other had sent
-- before that record
pub earlier_sent : (k v w : ℕ) (row : Row) (one other : Past) (f : DecodedRecord) → IsShared k v w row → GoesOn (log_of_vat v row) one → GoesOn (log_of_vat w row) (f ∷ other) →
    AllBefore v (length one) w (length other) row → GoesOn (stream k true other) (stream k false one)
earlier_sent k v w row [] other f s p q before = (stream k true other, sym (append-nil (stream k true other)))
earlier_sent k v w row (e ∷ one) other f s p q before =
    let a = taken v row e one p in
    let b = taken w row f other q in
    let lt : length a.0 < length b.0 = before (length one) a.0 b.0 (v, e) (w, f) (omega arith)
    (record { there = a.1; some = (e, of_own v e); number = ap length a.2 }) (record { there = b.1; some = (f, of_own w f); number = ap length b.2 }) in
    let g : GoesOn b.0 ((v, e) ∷ a.0) = shorter row _ _ a.1 (before_it row (w, f) b.0 b.1) lt in
    let there : log_of_vat v ((v, e) ∷ a.0) ≡ e ∷ one = ap₂ (λ o l. cons_option o l) (of_own v e) a.2 in
    through _ _ _ (subst (λ l. GoesOn (stream k true l) (sent_stream k w ((v, e) ∷ a.0))) b.2 (kept (passing k true) _ _ (kept (record_of_vat w) _ _ g)))
    (subst (λ l. GoesOn (sent_stream k w ((v, e) ∷ a.0)) (stream k false l)) there (sent_first k v w row ((v, e) ∷ a.0) s a.1))

-- a consistent cut at which nothing is under way from one to the other
pub record IsMet (k : ℕ) (from to : Past) : Type 0 where
  pub cut : IsCut k from to
  pub all : stream k true from ≡ stream k false to

one_way : (s t c : Bool) (m n : RpcMessage) → (if c && beq s t then Some n else None) ≡ Some m → (if c && beq (not s) t then Some n else None) ≡ None
one_way s t c m n e = grind (arith, nat_tests)

-- what goes one way doesn't go the other
pub other_way : (k : ℕ) (s : Bool) (m : RpcMessage) (e : DecodedRecord) → passing k s e ≡ Some m → passing k (not s) e ≡ None
other_way k s m (Wire t j c rs n) h = one_way s t (k == j) m n h
other_way k s m (Host r o) h = refl
other_way k s m _ h = refl

-- by the links alone: what stands before a message in its stream is the same at both ends
pub same_before : (k : ℕ) (m : RpcMessage) (one other from to : Past) (sent received : DecodedRecord) → GoesOn (stream k true one) (stream k false other) →
    IsPassed k m one other from to sent received → stream k true from ≡ stream k false to
same_before k m one other from to sent received link p =
    same_length (stream k true one) _ _ (kept (passing k true) one from (before_it one sent from p.sent_there))
    (through _ _ _ link (kept (passing k false) other to (before_it other received to p.received_there))) p.same_number

-- where a message is received, the points before the two records are such a cut, and those after them
module _ (k v w : ℕ) (row : Row) (m : RpcMessage) (from to : Past) (sent received : DecodedRecord) (s : IsShared k v w row) (p : IsPassed k m (log_of_vat v row) (log_of_vat w row) from to sent received) where
  pub met_before : IsMet k from to
  met_before =
      let b = taken w row received to p.received_there in
      let earlier : GoesOn row b.0 = before_it row (w, received) b.0 b.1 in
      let back : IsShared k w v row = turned k v w row s in
      let others = others_are k w v b.0 back.apart (at_each_before (IsTheirs k w v) row b.0 earlier back.theirs) in
      let there = nth_within (passing k true) (length (stream k false to)) (log_of_vat v row) (log_of_vat v b.0) from sent
      (record { there = p.sent_there; some = (m, p.sends); number = p.same_number }) (kept (record_of_vat v) row b.0 earlier)
      (omega (arith, s.fits b.0 (w, received) b.1 m p.receives, ap (λ l. length (stream k false l)) b.2, ap length others)) in
      let all = same_before k m (log_of_vat v row) (log_of_vat w row) from to sent received s.to_other p in
      let to_one = subst (λ x. GoesOn (stream k true x) (stream k false from)) b.2 (through _ _ _ (sent_first k v w row b.0 s earlier) (kept (passing k false) (log_of_vat v b.0) from there)) in
      record { cut = record { to_one = to_one; to_other = ([], all) }; all = all }

-- and those after them, where those before them are
pub met_after : (k : ℕ) (m : RpcMessage) (one other from to : Past) (sent received : DecodedRecord) → IsPassed k m one other from to sent received → IsMet k from to → IsMet k (sent ∷ from) (received ∷ to)
met_after k m one other from to sent received p met =
    let all : stream k true (sent ∷ from) ≡ stream k false (received ∷ to) = ap₂ (λ o l. cons_option o l) (p.sends ∙ sym p.receives) met.all in
    let back : stream k false (sent ∷ from) ≡ stream k false from = ap (λ o. cons_option o (stream k false from)) (other_way k true m sent p.sends) in
    let on : stream k true (received ∷ to) ≡ stream k true to = ap (λ o. cons_option o (stream k true to)) (other_way k false m received p.receives) in
    record { cut = record { to_one = (met.cut.to_one.0, on ∙ met.cut.to_one.1 ∙ ap (λ l. met.cut.to_one.0 ++ l) (sym back)); to_other = ([], all) }; all = all }

-- the logs of two vats that share a connection are linked
pub shared_linked : (k v w : ℕ) (row : Row) → IsShared k v w row → AreLinked k (log_of_vat v row) (log_of_vat w row)
shared_linked k v w row s = record {
  cut = record { to_one = s.to_one; to_other = s.to_other };
  there = λ m from to sent received p. (met_before k v w row m from to sent received s p).cut;
  back = λ m from to sent received p. (met_before k w v row m from to sent received (turned k v w row s) p).cut;
}

-- the other way round
pub linked_back : (k : ℕ) (one other : Past) → AreLinked k one other → AreLinked k other one
linked_back k one other linked = record { cut = record { to_one = linked.cut.to_other; to_other = linked.cut.to_one }; there = linked.back; back = linked.there }
