-- Two logs after all that was under way came in.
use Rattle.std.proofs.Common.{◌≡◌, ◌≤◌, ◌⊎◌, inl, inr, refl, sym, ◌∙◌, ap, subst, ℕ, ◌+◌, List, [], ◌∷◌, ◌++◌, Bool, true, false, ◌&&◌, Some, None, if◌then◌else◌, arith, append_assoc}
use Rattle.std.proofs.lemmas.Bool.{false≢true, eq-eqb}
use Rattle.std.proofs.lemmas.Bool.Decides.{nat_tests}
use Rattle.agree.specs.Types.{RpcMessage, Bootstrap, Return, Finish, DecodedRecord}
use Rattle.decoded_records.specs.Past.{Past, id, names, sum_back, Each}
use Rattle.decoded_records.specs.Questions.{question_returned, is_unfinished, returns}
use Rattle.decoded_records.specs.Uses.{OpensFree, UsesQuestions}
use Rattle.agree.specs.Points.{GoesOn}
use Rattle.agree.specs.Streams.{passing, stream}
use Rattle.agree.specs.Agreeing.{AreLinked, IsCausal}
use Rattle.agree.specs.Balance.{AreUnderWay, as_received, after_coming, sum_coming}
use Rattle.agree.proofs.Points.{through, heads, tails, kept, lifted, each_so, each_at, each_before, before_it}
use Rattle.agree.proofs.Asking.{asks, answers, passes, count, count-append, one_if, opens_is, returns_is, EndsOnce, ends_once, ReturnsDue, OpensIdle, returns_waiting, opens_idle, fewer_returns, more_returns, is_due, unfinished_in, unfinished_stream}
use Rattle.agree.proofs.Cuts.{other_way, same_before}
use Rattle.agree.proofs.Openings.{passing_is}
use Rattle.agree.proofs.Telling.{stream_of}

-- ---- a message that comes in

pub comes : (k : ℕ) (m : RpcMessage) → passing k false (as_received k m) ≡ Some m
comes k m = ap (λ b. if b && true then Some m else None) (eq-eqb k k refl)

pub goes_not : (k : ℕ) (m : RpcMessage) → passing k true (as_received k m) ≡ None
goes_not k m = other_way k false m (as_received k m) (comes k m)

pub stream_after : (k : ℕ) (ms : List RpcMessage) (past : Past) → stream k false (after_coming k ms past) ≡ ms ++ stream k false past
stream_after k [] past = refl
stream_after k (m ∷ earlier) past = stream_of k false (after_coming k earlier past) (as_received k m) (Some m) (comes k m) ∙ ap (λ l. m ∷ l) (stream_after k earlier past)

pub stream_kept : (k : ℕ) (ms : List RpcMessage) (past : Past) → stream k true (after_coming k ms past) ≡ stream k true past
stream_kept k [] past = refl
stream_kept k (m ∷ earlier) past = stream_of k true (after_coming k earlier past) (as_received k m) None (goes_not k m) ∙ stream_kept k earlier past

-- what more records count
pub sum_after : (f : Past → DecodedRecord → ℕ) (k : ℕ) (ms : List RpcMessage) (past : Past) → sum_back f (after_coming k ms past) ≡ sum_coming f k ms past + sum_back f past
sum_after f k [] past = omega arith
sum_after f k (m ∷ earlier) past = let rest = sum_after f k earlier past in omega (arith, rest)

pub none_coming : (f : Past → DecodedRecord → ℕ) (k : ℕ) → ((before : Past) (m : RpcMessage) → f before (as_received k m) ≡ 0) → (ms : List RpcMessage) (past : Past) → sum_coming f k ms past ≡ 0
none_coming f k none [] past = refl
none_coming f k none (m ∷ earlier) past = let here = none (after_coming k earlier past) m in let rest = none_coming f k none earlier past in omega (arith, here, rest)

-- each record is so where those that came were, and those that come in are
each_coming : (P : Past → DecodedRecord → Type 0) (k : ℕ) (past : Past) → Each P past → (ms : List RpcMessage) →
    ((m : RpcMessage) (earlier : List RpcMessage) → GoesOn ms (m ∷ earlier) → P (after_coming k earlier past) (as_received k m)) → Each P (after_coming k ms past)
each_coming P k past all [] one = all
each_coming P k past all (m ∷ earlier) one =
    (one m earlier ([], refl), each_coming P k past all earlier (λ n e g. one n e (m ∷ g.0, ap (λ l. m ∷ l) g.1)))

-- a record stood there before, or came in
abbrev Came : ℕ → List RpcMessage → Past → DecodedRecord → Past → Type 0
Came k ms past e p = GoesOn past (e ∷ p) ⊎ ((earlier : List RpcMessage) × (p ≡ after_coming k earlier past))

later_came : (k : ℕ) (past : Past) (m : RpcMessage) (earlier : List RpcMessage) (e : DecodedRecord) (p : Past) → (GoesOn (after_coming k earlier past) (e ∷ p) → Came k earlier past e p) →
    GoesOn (after_coming k (m ∷ earlier) past) (e ∷ p) → Came k (m ∷ earlier) past e p
later_came k past m earlier e p rest ([], h) = inr (earlier, sym (tails h))
later_came k past m earlier e p rest (x ∷ l, h) = rest (l, tails h)

came_at : (k : ℕ) (past : Past) (ms : List RpcMessage) (e : DecodedRecord) (p : Past) → GoesOn (after_coming k ms past) (e ∷ p) → Came k ms past e p
came_at k past [] e p g = inl g
came_at k past (m ∷ earlier) e p g = later_came k past m earlier e p (came_at k past earlier e p) g

-- what was sent stood there before
later_sent : (k : ℕ) (past : Past) (m n : RpcMessage) (earlier : List RpcMessage) (e : DecodedRecord) (p : Past) → passing k true e ≡ Some n → (GoesOn (after_coming k earlier past) (e ∷ p) → GoesOn past (e ∷ p)) →
    GoesOn (after_coming k (m ∷ earlier) past) (e ∷ p) → GoesOn past (e ∷ p)
later_sent k past m n earlier e p s rest ([], h) =
    absurd (let none : None ≡ Some n = sym (goes_not k m) ∙ ap (λ x. passing k true x) (heads h) ∙ s in let no : ⊥ = cc in no)
later_sent k past m n earlier e p s rest (x ∷ l, h) = rest (l, tails h)

sent_before : (k : ℕ) (past : Past) (ms : List RpcMessage) (n : RpcMessage) (e : DecodedRecord) (p : Past) → passing k true e ≡ Some n → GoesOn (after_coming k ms past) (e ∷ p) → GoesOn past (e ∷ p)
sent_before k past [] n e p s g = g
sent_before k past (m ∷ earlier) n e p s g = later_sent k past m n earlier e p s (sent_before k past earlier n e p s) g

-- ---- counting

pub more_counted : (test : RpcMessage → Bool) (a b : List RpcMessage) → GoesOn a b → count test b ≤ count test a
more_counted test a b g = let all = ap (λ l. count test l) g.1 in let parts = count-append test g.0 b in omega (arith, all, parts)

at_least_one : (b : Bool) → 1 ≤ one_if b → b ≡ true
at_least_one b le = grind (arith, nat_tests)

-- ---- one way

-- what one of two logs sent the other, after all of it came
module _ (k : ℕ) (x y : Past) (to_x to_y : List RpcMessage) (linked : AreLinked k x y) (there : AreUnderWay k x y to_y) (back : AreUnderWay k y x to_x) where
  -- all that one sent the other received
  all_there : stream k true (after_coming k to_x x) ≡ stream k false (after_coming k to_y y)
  all_there = stream_kept k to_x x ∙ there ∙ sym (stream_after k to_y y)

  pub causal : IsCausal k (after_coming k to_x x) (after_coming k to_y y)
  causal m from to sent received p =
      let sent_there = sent_before k x to_x m sent from p.sends p.sent_there in
      elim (came_at k y to_y received to p.received_there) [
        | inl old ↦ linked.there m from to sent received record { sent_there = sent_there; received_there = old; sends = p.sends; receives = p.receives; same_number = p.same_number }
        | inr new ↦ record {
          to_one = subst (λ l. GoesOn l (stream k false from)) (sym (ap (λ p. stream k true p) new.1 ∙ stream_kept k new.0 y))
              (through _ _ _ linked.cut.to_one (kept (passing k false) x from (before_it x sent from sent_there)));
          to_other = ([], same_before k m (after_coming k to_x x) (after_coming k to_y y) from to sent received ([], all_there) p);
        }
      ]

  module _ (uses_x : Each UsesQuestions x) (uses_y : Each UsesQuestions y) (free_x : Each OpensFree x) (free_y : Each OpensFree y) where
    -- Returns that x sent were due, and questions that y asked were idle
    pub due : (q : ℕ) → Each (ReturnsDue (id k false q)) (after_coming k to_x x)
    due q = each_coming (ReturnsDue (id k false q)) k x (each_so UsesQuestions (ReturnsDue (id k false q)) (returns_waiting (id k false q)) x uses_x) to_x
        (λ m earlier g h. absurd (false≢true (sym (returns_is (id k false q) (as_received k m) ∙ ap (λ o. passes (answers q) o) (goes_not k m)) ∙ h)))

    idle_after : (ms : List RpcMessage) (q : ℕ) → Each (OpensIdle (id k true q)) (after_coming k ms y)
    idle_after ms q = each_coming (OpensIdle (id k true q)) k y (each_so OpensFree (OpensIdle (id k true q)) (opens_idle (id k true q)) y free_y) ms
        (λ m earlier g h. absurd (false≢true (sym (opens_is (id k true q) (as_received k m) ∙ ap (λ o. passes (asks q) o) (goes_not k m)) ∙ h)))

    pub idle : (q : ℕ) → Each (OpensIdle (id k true q)) (after_coming k to_y y)
    idle q = idle_after to_y q

    -- a Return that comes in is due
    pub return_comes : (earlier : List RpcMessage) (m : RpcMessage) (sent : DecodedRecord) (from : Past) (q : ℕ) → GoesOn x (sent ∷ from) → passing k true sent ≡ Some m → stream k true from ≡ stream k false (after_coming k earlier y) →
        answers q m ≡ true → is_due (id k true q) (returns (id k true q)) (after_coming k earlier y) ≡ true
    return_comes earlier m sent from q there sends same h =
        let to : Past = after_coming k earlier y in
        let all = each_so UsesQuestions (ReturnsDue (id k false q)) (returns_waiting (id k false q)) x uses_x in
        let is_return : names (id k false q) (question_returned sent) ≡ true = returns_is (id k false q) sent ∙ ap (λ o. passes (answers q) o) sends ∙ h in
        let waits = ap (λ b. one_if b) (each_at (ReturnsDue (id k false q)) x all from sent there is_return) in
        let fewer = fewer_returns (id k false q) from (each_before (ReturnsDue (id k false q)) x from (before_it x sent from there) all) in
        let more = more_returns (id k true q) to (idle_after earlier q) in
        let received : GoesOn (stream k true y) (stream k false from) = through _ _ _ linked.cut.to_one (kept (passing k false) x from (before_it x sent from there)) in
        let asked = more_counted (asks q) (stream k true y) (stream k false from) received in
        let kept_asked = ap (λ l. count (asks q) l) (stream_kept k earlier y) in
        let answered = ap (λ l. count (answers q) l) same in
        at_least_one (is_due (id k true q) (returns (id k true q)) to) (omega (arith, waits, fewer, more, asked, kept_asked, answered))

    -- a Finish that comes in is due
    pub finish_comes : (earlier : List RpcMessage) (q : ℕ) (release : Bool) (sent : DecodedRecord) (from : Past) → GoesOn x (sent ∷ from) → passing k true sent ≡ Some (Finish q release) →
        stream k true from ≡ stream k false (after_coming k earlier y) → is_unfinished (id k false q) (after_coming k earlier y) ≡ true
    finish_comes earlier q release sent from there sends same =
        let s = passing_is k true (Finish q release) sent sends in
        let once : EndsOnce from sent = ends_once from sent (each_at UsesQuestions x uses_x from sent there) in
        let was : is_unfinished (id k true q) from ≡ true = (subst (λ e. EndsOnce from e) s.2 once).1 in
        unfinished_stream (id k false q) (after_coming k earlier y) ∙ ap (λ l. unfinished_in q l) (sym same) ∙ sym (unfinished_stream (id k true q) from) ∙ was

    coming_once : (earlier : List RpcMessage) (m : RpcMessage) (sent : DecodedRecord) (from : Past) → GoesOn x (sent ∷ from) → passing k true sent ≡ Some m → stream k true from ≡ stream k false (after_coming k earlier y) →
        EndsOnce (after_coming k earlier y) (as_received k m)
    coming_once earlier (Return head outcome) sent from there sends same = (return_comes earlier (Return head outcome) sent from head.answer there sends same (eq-eqb head.answer head.answer refl), tt)
    coming_once earlier (Finish q release) sent from there sends same = (tt, finish_comes earlier q release sent from there sends same)
    coming_once earlier (Bootstrap q) sent from there sends same = (tt, tt)
    coming_once earlier _ sent from there sends same = (tt, tt)

    -- so openings end once there too
    pub ends_there : Each EndsOnce (after_coming k to_y y)
    ends_there = each_coming EndsOnce k y (each_so UsesQuestions EndsOnce ends_once y uses_y) to_y
        (λ m earlier g.
        let all : stream k true x ≡ g.0 ++ (m ∷ stream k false (after_coming k earlier y)) =
        there ∙ ap (λ l. l ++ stream k false y) g.1 ∙ append_assoc g.0 (m ∷ earlier) (stream k false y) ∙ ap (λ l. g.0 ++ (m ∷ l)) (sym (stream_after k earlier y)) in
        let z = lifted (passing k true) x m (stream k false (after_coming k earlier y)) (g.0, all) in
        coming_once earlier m z.0 z.1 z.2 z.3 z.4)
