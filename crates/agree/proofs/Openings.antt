-- The two ends of a connection speak of the same openings.
use Rattle.std.proofs.Common.{◌≡◌, refl, sym, ◌∙◌, ap, ℕ, ◌+◌, ◌≤◌, ◌==◌, List, Bool, true, false, not, ◌&&◌, Some, None, if◌then◌else◌, arith, eqb-true}
use Rattle.std.specs.Bool.{beq}
use Rattle.std.proofs.lemmas.Bool.{false≢true, eq-eqb}
use Rattle.std.proofs.lemmas.Bool.Decides.{nat_tests}
use Rattle.agree.specs.Types.{RpcMessage, Bootstrap, Return, ReturnHead, Outcome, DecodedRecord, Host, Wire}
use Rattle.decoded_records.specs.Past.{Past, id, Each}
use Rattle.decoded_records.specs.Questions.{returns, is_released, is_late}
use Rattle.decoded_records.specs.Uses.{OpensFree, UsesQuestions}
use Rattle.agree.specs.Points.{GoesOn}
use Rattle.agree.specs.Streams.{passing, stream, IsPassed, opening_number}
use Rattle.agree.specs.Agreeing.{AreLinked, AgreeOnOpenings, AgreeOnLate}
use Rattle.agree.proofs.Points.{before_it, each_before, each_at, each_so}
use Rattle.agree.proofs.Asking.{asks, answers, frees, passes, count, count-append, came_since, last_number, one_if, returns_is, released_stream, number_stream, last_number_same, since_more, is_due, returns_waiting, opens_idle, ReturnsDue, OpensIdle, fewer_returns, more_returns}
use Rattle.agree.proofs.Cuts.{IsMet, same_before}

-- a question opened the way in which a message goes has one last opening before it at both ends
pub own_agree : (k n : ℕ) (m : RpcMessage) (one other from to : Past) (sent received : DecodedRecord) → GoesOn (stream k true one) (stream k false other) →
    IsPassed k m one other from to sent received → opening_number (id k true n) from ≡ opening_number (id k false n) to
own_agree k n m one other from to sent received link p =
    number_stream (id k true n) from ∙ ap (λ l. last_number (asks n) l) (same_before k m one other from to sent received link p) ∙ sym (number_stream (id k false n) to)

pub one_way : (a b : Bool) (m n : RpcMessage) → (if a && b then Some n else None) ≡ Some m → (a ≡ true) × (b ≡ true) × (n ≡ m)
one_way true true m n h = let same : n ≡ m = cc in (refl, refl, same)
one_way true false m n h = absurd (let no : ⊥ = cc in no)
one_way false b m n h = absurd (let no : ⊥ = cc in no)

pub same_way : (s o : Bool) → beq s o ≡ true → o ≡ s
same_way s o e = grind (arith, nat_tests)

-- a record through which a message passed
pub passing_is : (k : ℕ) (s : Bool) (m : RpcMessage) (e : DecodedRecord) → passing k s e ≡ Some m → (call : ℕ) × (references : List ℕ) × (e ≡ Wire s k call references m)
passing_is k s m (Wire t j c rs n) h =
    let parts = one_way (k == j) (beq s t) m n h in
    let one : k ≡ j = eqb-true k j parts.0 in
    let two : t ≡ s = same_way s t parts.1 in
    let three : n ≡ m = parts.2 in (c, rs, cc)
passing_is k s m (Host r o) h = absurd (let no : ⊥ = cc in no)
passing_is k s m _ h = absurd (let no : ⊥ = cc in no)

late_is : (k : ℕ) (s : Bool) (head : ReturnHead) (outcome : Outcome) (before : Past) (e : DecodedRecord) → passing k s e ≡ Some (Return head outcome) →
    is_late before e ≡ is_released (id k (not s) head.answer) before
late_is k s head outcome before e h = ap (λ x. is_late before x) (passing_is k s (Return head outcome) e h).2

small : (b : Bool) → one_if b ≤ 1
small b = grind (arith, nat_tests)

module _ (k : ℕ) (head : ReturnHead) (outcome : Outcome) (one other from to : Past) (sent received : DecodedRecord) (uses : Each (ReturnsDue (id k false head.answer)) one) (free : Each (OpensIdle (id k true head.answer)) other)
    (p : IsPassed k (Return head outcome) one other from to sent received) (met : IsMet k from to) where
  -- where a Return left and came, no opening of its question is on its way to the one who returns
  none_opened : count (asks head.answer) met.cut.to_one.0 ≡ 0
  none_opened =
      let back : returns (id k false head.answer) from sent ≡ true = returns_is (id k false head.answer) sent ∙ ap (λ o. passes (answers head.answer) o) p.sends ∙ eq-eqb head.answer head.answer refl in
      let waits = ap (λ b. one_if b) (each_at (ReturnsDue (id k false head.answer)) one uses from sent p.sent_there back) in
      let fewer = fewer_returns (id k false head.answer) from (each_before (ReturnsDue (id k false head.answer)) one from (before_it one sent from p.sent_there) uses) in
      let more = more_returns (id k true head.answer) to (each_before (OpensIdle (id k true head.answer)) other to (before_it other received to p.received_there) free) in
      let parts : count (asks head.answer) (stream k true to) ≡ count (asks head.answer) met.cut.to_one.0 + count (asks head.answer) (stream k false from) =
      ap (λ l. count (asks head.answer) l) met.cut.to_one.1 ∙ count-append (asks head.answer) met.cut.to_one.0 (stream k false from) in
      omega (arith, waits, fewer, more, small (is_due (id k true head.answer) (returns (id k true head.answer)) to), ap (λ l. count (answers head.answer) l) met.all, parts)

  -- a Return belongs to one opening at both ends
  pub returns_agree : opening_number (id k false head.answer) from ≡ opening_number (id k true head.answer) to
  returns_agree =
      number_stream (id k false head.answer) from ∙ sym (last_number_same (asks head.answer) met.cut.to_one.0 (stream k false from) none_opened)
      ∙ ap (λ l. last_number (asks head.answer) l) (sym met.cut.to_one.1) ∙ sym (number_stream (id k true head.answer) to)

  -- a Return late at its sender is late at its receiver
  pub late_agree : is_late from sent ≡ true → is_late to received ≡ true
  late_agree late =
      late_is k false head outcome to received p.receives ∙ released_stream (id k true head.answer) to
      ∙ ap (λ l. came_since (asks head.answer) (frees head.answer) l) met.cut.to_one.1
      ∙ since_more (asks head.answer) (frees head.answer) met.cut.to_one.0 (stream k false from) none_opened
      (sym (released_stream (id k false head.answer) from) ∙ sym (late_is k true head outcome from sent p.sends) ∙ late)

-- ---- of logs that are linked

module _ (k : ℕ) (one other : Past) (linked : AreLinked k one other) where
  met : (m : RpcMessage) (from to : Past) (sent received : DecodedRecord) → IsPassed k m one other from to sent received → IsMet k from to
  met m from to sent received p =
      record { cut = linked.there m from to sent received p; all = same_before k m one other from to sent received linked.cut.to_other p }

  pub own_linked : (n : ℕ) (m : RpcMessage) (from to : Past) (sent received : DecodedRecord) → IsPassed k m one other from to sent received →
      opening_number (id k true n) from ≡ opening_number (id k false n) to
  own_linked n m from to sent received p = own_agree k n m one other from to sent received linked.cut.to_other p

  module _ (uses : (q : ℕ) → Each (ReturnsDue (id k false q)) one) (free : (q : ℕ) → Each (OpensIdle (id k true q)) other) where
    pub openings_so : AgreeOnOpenings k one other
    openings_so head outcome from to sent received p =
        returns_agree k head outcome one other from to sent received (uses head.answer) (free head.answer) p (met (Return head outcome) from to sent received p)

    never : (m : RpcMessage) (from to : Past) (sent received : DecodedRecord) → IsPassed k m one other from to sent received → ((c : ℕ) (rs : List ℕ) → is_late from (Wire true k c rs m) ≡ false) →
        is_late from sent ≡ true → is_late to received ≡ true
    never m from to sent received p not_late late =
        let s = passing_is k true m sent p.sends in absurd (false≢true (sym (not_late s.0 s.1) ∙ sym (ap (λ x. is_late from x) s.2) ∙ late))

    pub late_so : AgreeOnLate k one other
    late_so (Return head outcome) from to sent received p late =
        late_agree k head outcome one other from to sent received (uses head.answer) (free head.answer) p (met (Return head outcome) from to sent received p) late
    late_so (Bootstrap q) from to sent received p late = never (Bootstrap q) from to sent received p (λ c rs. refl) late
    late_so m from to sent received p late = never m from to sent received p (λ c rs. refl) late

  module _ (uses : Each UsesQuestions one) (free : Each OpensFree other) where
    due : (q : ℕ) → Each (ReturnsDue (id k false q)) one
    due q = each_so UsesQuestions (ReturnsDue (id k false q)) (returns_waiting (id k false q)) one uses

    idle : (q : ℕ) → Each (OpensIdle (id k true q)) other
    idle q = each_so OpensFree (OpensIdle (id k true q)) (opens_idle (id k true q)) other free

    pub openings_linked : AgreeOnOpenings k one other
    openings_linked = openings_so due idle

    pub late_linked : AgreeOnLate k one other
    late_linked = late_so due idle
