-- A message that was sent as it should be arrives so.
use Rattle.std.proofs.Common.{◌≡◌, ◌≤◌, inl, inr, refl, sym, ◌∙◌, ap, ap₂, subst, ℕ, ◌==◌, List, [], ◌∷◌, ◌++◌, Bool, true, false, not, ◌&&◌, ◌||◌, Some, None, arith, eqb-true}
use Rattle.std.specs.Prelude.{is_some, option_to_list, IfSome}
use Rattle.std.specs.List.{list_all, filter_map}
use Rattle.std.specs.Bool.{beq}
use Rattle.std.proofs.lemmas.Bool.{false≢true, eq-eqb, and_parts, and_from, or_cases, or_left, or_right, ltb-true, lt-ltb}
use Rattle.std.proofs.lemmas.Bool.Decides.{nat_tests}
use Rattle.agree.specs.Types.{Descriptor, SenderHosted, ReceiverHosted, ReceiverAnswer, Imported, Promised, Results, Exception, Canceled, Elsewhere, TakeFrom, RpcMessage, Bootstrap, Call, Return, Finish, Release, Disembargo, DecodedRecord, Wire, TableKey}
use Rattle.decoded_records.specs.Past.{Past, id, Each}
use Rattle.decoded_records.specs.Questions.{question_returned, question_finished, question_taken, returns, opening, is_tail, is_taken, is_opened, is_returned, is_returned_lightly, is_finished, is_over, is_free, is_unfinished, is_unreturned}
use Rattle.decoded_records.specs.Lives.{gives_back, held, is_in_life, descriptors_of, GivesBackHeld}
use Rattle.decoded_records.specs.Uses.{OpensFree, UsesQuestions, UsesNumbers, question_targeted, question_described, questions_used, number_targeted, number_described, number_released, numbers_used}
use Rattle.agree.specs.Streams.{passing, stream, IsPassed}
use Rattle.agree.specs.Agreeing.{AreLinked}
use Rattle.agree.specs.Told.{AreTold}
use Rattle.agree.specs.Arrival.{ArrivesWell}
use Rattle.agree.proofs.Points.{before_it, each_so}
use Rattle.agree.proofs.Asking.{asks, answers, count, one_if, last_number, came_since, ends, opened_stream, finished_stream, takes, taken_stream, asked_away, tail_stream, unfinished_in, unfinished_stream, over_parts, ReturnsDue, OpensIdle, returns_waiting, opens_idle, fewer_returns, more_returns, is_due}
use Rattle.agree.proofs.Cuts.{IsMet, other_way, same_before, met_after, linked_back}
use Rattle.agree.proofs.Openings.{openings_linked, passing_is, one_way, same_way}
use Rattle.agree.proofs.Telling.{none_or_some, stream_of}
use Rattle.agree.proofs.Mates.{are_told}
use Rattle.agree.proofs.Covered.{held_at_cut, exporter_counts}
use Rattle.agree.proofs.Closing.{introduces_none}
use Rattle.agree.proofs.Held.{gives_none}
use Rattle.agree.proofs.Coming.{more_counted, return_comes}
use Rattle.agree.proofs.Freed.{lightly_there}
use Rattle.agree.proofs.Standing.{linked_before}

-- ---- lists of numbers at the two ends

-- what is so of one list at one end is so of another at the other
abbrev Follows : (TableKey → Bool) → (TableKey → Bool) → List TableKey → List TableKey → Type 0
Follows P Q xs ys = list_all P xs ≡ true → list_all Q ys ≡ true

one_follows : (P Q : TableKey → Bool) (i j : TableKey) → (P i ≡ true → Q j ≡ true) → Follows P Q (i ∷ []) (j ∷ [])
one_follows P Q i j f h = and_from (Q j) true (f (and_parts (P i) true h).0) refl

more_follows : (P Q : TableKey → Bool) (i j : TableKey) (xs ys : List TableKey) → (P i ≡ true → Q j ≡ true) → Follows P Q xs ys → Follows P Q (i ∷ xs) (j ∷ ys)
more_follows P Q i j xs ys f rest h = let both = and_parts (P i) (list_all P xs) h in and_from (Q j) (list_all Q ys) (f both.0) (rest both.1)

front : (P : TableKey → Bool) (xs ys : List TableKey) → list_all P (xs ++ ys) ≡ true → (list_all P xs ≡ true) × (list_all P ys ≡ true)
front P [] ys h = (refl, h)
front P (x ∷ xs) ys h =
    let both = and_parts (P x) (list_all P (xs ++ ys)) h in
    let rest = front P xs ys both.1 in (and_from (P x) (list_all P xs) both.0 rest.0, rest.1)

join : (P : TableKey → Bool) (xs ys : List TableKey) → list_all P xs ≡ true → list_all P ys ≡ true → list_all P (xs ++ ys) ≡ true
join P [] ys h g = g
join P (x ∷ xs) ys h g = let both = and_parts (P x) (list_all P xs) h in and_from (P x) (list_all P (xs ++ ys)) both.0 (join P xs ys both.1 g)

two_follow : (P Q : TableKey → Bool) (a b x y : List TableKey) → Follows P Q a x → Follows P Q b y → Follows P Q (a ++ b) (x ++ y)
two_follow P Q a b x y f g all = let both = front P a b all in join Q x y (f both.0) (g both.1)

three_follow : (P Q : TableKey → Bool) (a b c x y z : List TableKey) → Follows P Q a x → Follows P Q b y → Follows P Q c z → Follows P Q (a ++ b ++ c) (x ++ y ++ z)
three_follow P Q a b c x y z f g h = two_follow P Q (a ++ b) c (x ++ y) z (two_follow P Q a b x y f g) h

-- the questions that a message uses, at its sender and at its receiver
module _ (k c d : ℕ) (rs ss : List ℕ) (P Q : TableKey → Bool) (same : (n : ℕ) → P (id k true n) ≡ true → Q (id k false n) ≡ true) where
  targets_follow : (m : RpcMessage) → Follows P Q (option_to_list (question_targeted (Wire true k c rs m))) (option_to_list (question_targeted (Wire false k d ss m)))
  targets_follow (Call head (Promised n path) b) = one_follows P Q (id k true n) (id k false n) (same n)
  targets_follow (Call head (Imported n) b) = λ h. h
  targets_follow (Disembargo q loopback (Promised n path)) = one_follows P Q (id k true n) (id k false n) (same n)
  targets_follow (Disembargo q loopback (Imported n)) = λ h. h
  targets_follow (Bootstrap q) = λ h. h
  targets_follow _ = λ h. h

  described_follow : (m : RpcMessage) (ds : List Descriptor) → Follows P Q (filter_map (question_described (Wire true k c rs m)) ds) (filter_map (question_described (Wire false k d ss m)) ds)
  described_follow m [] = λ h. h
  described_follow m (ReceiverAnswer n path ∷ ds) =
      more_follows P Q (id k true n) (id k false n) (filter_map (question_described (Wire true k c rs m)) ds) (filter_map (question_described (Wire false k d ss m)) ds) (same n) (described_follow m ds)
  described_follow m (SenderHosted n ∷ ds) = described_follow m ds
  described_follow m (_ ∷ ds) = described_follow m ds

  finished_follow : (m : RpcMessage) → Follows P Q (option_to_list (question_finished (Wire true k c rs m))) (option_to_list (question_finished (Wire false k d ss m)))
  finished_follow (Finish n release) = one_follows P Q (id k true n) (id k false n) (same n)
  finished_follow (Bootstrap q) = λ h. h
  finished_follow _ = λ h. h

  taken_follow : (m : RpcMessage) → Follows P Q (option_to_list (question_taken (Wire true k c rs m))) (option_to_list (question_taken (Wire false k d ss m)))
  taken_follow (Return head (TakeFrom n)) = one_follows P Q (id k true n) (id k false n) (same n)
  taken_follow (Return head (Results payload)) = λ h. h
  taken_follow (Return head Exception) = λ h. h
  taken_follow (Return head Canceled) = λ h. h
  taken_follow (Return head Elsewhere) = λ h. h
  taken_follow (Bootstrap q) = λ h. h
  taken_follow _ = λ h. h

  questions_follow : (m : RpcMessage) → Follows P Q (questions_used (Wire true k c rs m)) (questions_used (Wire false k d ss m))
  questions_follow m = two_follow P Q _ _ _ _ (three_follow P Q _ _ _ _ _ _ (targets_follow m) (described_follow m (descriptors_of m)) (finished_follow m)) (taken_follow m)

-- the numbers that it uses
module _ (k c d : ℕ) (rs ss : List ℕ) (P Q : TableKey → Bool) (same : (n : ℕ) → P (id k false n) ≡ true → Q (id k true n) ≡ true) where
  number_targets_follow : (m : RpcMessage) → Follows P Q (option_to_list (number_targeted (Wire true k c rs m))) (option_to_list (number_targeted (Wire false k d ss m)))
  number_targets_follow (Call head (Imported n) b) = one_follows P Q (id k false n) (id k true n) (same n)
  number_targets_follow (Call head (Promised n path) b) = λ h. h
  number_targets_follow (Disembargo q loopback (Imported n)) = one_follows P Q (id k false n) (id k true n) (same n)
  number_targets_follow (Disembargo q loopback (Promised n path)) = λ h. h
  number_targets_follow (Bootstrap q) = λ h. h
  number_targets_follow _ = λ h. h

  numbers_described_follow : (m : RpcMessage) (ds : List Descriptor) → Follows P Q (filter_map (number_described (Wire true k c rs m)) ds) (filter_map (number_described (Wire false k d ss m)) ds)
  numbers_described_follow m [] = λ h. h
  numbers_described_follow m (ReceiverHosted n ∷ ds) =
      more_follows P Q (id k false n) (id k true n) (filter_map (number_described (Wire true k c rs m)) ds) (filter_map (number_described (Wire false k d ss m)) ds) (same n) (numbers_described_follow m ds)
  numbers_described_follow m (SenderHosted n ∷ ds) = numbers_described_follow m ds
  numbers_described_follow m (_ ∷ ds) = numbers_described_follow m ds

  released_follow : (m : RpcMessage) → Follows P Q (option_to_list (number_released (Wire true k c rs m))) (option_to_list (number_released (Wire false k d ss m)))
  released_follow (Release n count) = one_follows P Q (id k false n) (id k true n) (same n)
  released_follow (Bootstrap q) = λ h. h
  released_follow _ = λ h. h

  numbers_follow : (m : RpcMessage) → Follows P Q (numbers_used (Wire true k c rs m)) (numbers_used (Wire false k d ss m))
  numbers_follow m = three_follow P Q _ _ _ _ _ _ (number_targets_follow m) (numbers_described_follow m (descriptors_of m)) (released_follow m)

-- ---- a message that is sent and received

over_still : (o r f s : Bool) → (not o || (r && f)) ≡ true → (o && not s) ≡ false → (not o || (s && f)) ≡ true
over_still o r f s h g = grind (arith, nat_tests)

not_one : (b : Bool) → one_if b ≤ 0 → b ≡ false
not_one b le = grind (arith, nat_tests)

module _ (k : ℕ) (from to : Past) (linked : AreLinked k from to) (same : stream k true from ≡ stream k false to)
    (uses_x : Each UsesQuestions from) (uses_y : Each UsesQuestions to) (free_x : Each OpensFree from) (free_y : Each OpensFree to) where
  -- a question that is over at its asker is over at the other end
  over_there : (q : ℕ) → is_over (id k true q) from ≡ true → is_over (id k false q) to ≡ true
  over_there q h =
      let mine : TableKey = id k true q in
      let theirs : TableKey = id k false q in
      let more = more_returns mine from (each_so OpensFree (OpensIdle mine) (opens_idle mine) from free_x) in
      let fewer = fewer_returns theirs to (each_so UsesQuestions (ReturnsDue theirs) (returns_waiting theirs) to uses_y) in
      let idle = ap (λ b. one_if b) (over_parts (is_opened mine from) (is_returned mine from) (is_finished mine from) h) in
      let asked = ap (λ l. count (asks q) l) same in
      let answered = more_counted (answers q) (stream k true to) (stream k false from) linked.cut.to_one in
      let none : is_due theirs (returns theirs) to ≡ false = not_one (is_due theirs (returns theirs) to) (omega (arith, more, fewer, idle, asked, answered)) in
      let opened_same : is_opened mine from ≡ is_opened theirs to =
      opened_stream mine from ∙ ap (λ l. is_some (last_number (asks q) l)) same ∙ sym (opened_stream theirs to) in
      let finished_same : is_finished mine from ≡ is_finished theirs to = finished_stream mine from ∙ ap (λ l. came_since (asks q) (ends q) l) same ∙ sym (finished_stream theirs to) in
      over_still (is_opened theirs to) (is_returned mine from) (is_finished theirs to) (is_returned theirs to) (ap₂ (λ a b. not a || (is_returned mine from && b)) (sym opened_same) (sym finished_same) ∙ h) none

  -- and one that is free is free
  free_there : (q : ℕ) → is_free (id k true q) from ≡ true → is_free (id k false q) to ≡ true
  free_there q h = elim (or_cases (is_over (id k true q) from) (is_returned_lightly (id k true q) from) h) [
    | inl over ↦ or_left (is_over (id k false q) to) (is_returned_lightly (id k false q) to) (over_there q over)
    | inr light ↦ or_right (is_over (id k false q) to) (is_returned_lightly (id k false q) to) (lightly_there k from to linked same uses_y free_x q light)
  ]

  unfinished_there : (q : ℕ) → is_unfinished (id k true q) from ≡ true → is_unfinished (id k false q) to ≡ true
  unfinished_there q h = unfinished_stream (id k false q) to ∙ ap (λ l. unfinished_in q l) (sym same) ∙ sym (unfinished_stream (id k true q) from) ∙ h

  -- a question was opened by the same message at both ends, and its results were taken by the same ones
  may_take_there : (q : ℕ) → (is_tail (opening (id k true q) from) && not (is_taken (id k true q) from)) ≡ true → (is_tail (opening (id k false q) to) && not (is_taken (id k false q) to)) ≡ true
  may_take_there q h =
      let mine : TableKey = id k true q in
      let theirs : TableKey = id k false q in
      let tail_same : is_tail (opening theirs to) ≡ is_tail (opening mine from) = tail_stream theirs to ∙ ap (λ l. asked_away q l) (sym same) ∙ sym (tail_stream mine from) in
      let taken_same : is_taken theirs to ≡ is_taken mine from = taken_stream theirs to ∙ ap (λ l. came_since (asks q) (takes q) l) (sym same) ∙ sym (taken_stream mine from) in
      ap₂ (λ a b. a && not b) tail_same taken_same ∙ h

  told_there : AreTold k to from
  told_there = let back = linked_back k from to linked in
      are_told k to from back.cut (openings_linked k to from back uses_y free_x) (openings_linked k from to linked uses_x free_y)

  -- a number in life at the importer that names it is in life at the exporter
  alive_there : (n : ℕ) → is_in_life (id k false n) from ≡ true → is_in_life (id k true n) to ≡ true
  alive_there n h =
      let le = held_at_cut k n to from told_there uses_y uses_x in
      let lt = ltb-true 0 (held (id k false n) from) h in lt-ltb 0 (held (id k true n) to) (omega (arith, le, lt))

  opens_there : (c d : ℕ) (rs ss : List ℕ) (m : RpcMessage) → OpensFree from (Wire true k c rs m) → OpensFree to (Wire false k d ss m)
  opens_there c d rs ss (Bootstrap q) h = free_there q h
  opens_there c d rs ss (Call head target b) h = free_there head.question h
  opens_there c d rs ss _ h = tt

  numbers_there : (c d : ℕ) (rs ss : List ℕ) (m : RpcMessage) → UsesNumbers from (Wire true k c rs m) → UsesNumbers to (Wire false k d ss m)
  numbers_there c d rs ss m h = numbers_follow k c d rs ss (λ i. is_in_life i from) (λ i. is_in_life i to) alive_there m h

  questions_there : (c d : ℕ) (rs ss : List ℕ) (m : RpcMessage) → ((q : ℕ) → answers q m ≡ true → is_unreturned (id k true q) to ≡ true) → UsesQuestions from (Wire true k c rs m) → UsesQuestions to (Wire false k d ss m)
  questions_there c d rs ss m due h = record {
    used = questions_follow k c d rs ss (λ q. is_unfinished q from) (λ q. is_unfinished q to) unfinished_there m h.used;
    returned_once = once m due;
    taken_once = taking m h.taken_once;
  }
    where
      taking : (m : RpcMessage) → IfSome (question_taken (Wire true k c rs m)) (λ q. (is_tail (opening q from) && not (is_taken q from)) ≡ true) →
          IfSome (question_taken (Wire false k d ss m)) (λ q. (is_tail (opening q to) && not (is_taken q to)) ≡ true)
      taking (Return head (TakeFrom n)) g = may_take_there n g
      taking (Return head (Results payload)) g = tt
      taking (Return head Exception) g = tt
      taking (Return head Canceled) g = tt
      taking (Return head Elsewhere) g = tt
      taking (Bootstrap q) g = tt
      taking _ g = tt

      once : (m : RpcMessage) → ((q : ℕ) → answers q m ≡ true → is_unreturned (id k true q) to ≡ true) → IfSome (question_returned (Wire false k d ss m)) (λ q. is_unreturned q to ≡ true)
      once (Return head outcome) due = due head.answer (eq-eqb head.answer head.answer refl)
      once (Bootstrap q) due = tt
      once _ due = tt

ours_by : (b : Bool) → false ≡ not b → true ≡ b
ours_by true e = refl
ours_by false e = absurd (false≢true e)

module _ (k : ℕ) (one other : Past) (linked : AreLinked k one other) (m : RpcMessage) (from to : Past) (sent received : DecodedRecord) (p : IsPassed k m one other from to sent received)
    (uses_x : Each UsesQuestions (sent ∷ from)) (free_x : Each OpensFree (sent ∷ from)) (counts : Each GivesBackHeld (sent ∷ from)) (numbers : UsesNumbers from sent) (uses_y : Each UsesQuestions to) (free_y : Each OpensFree to) where
  met : IsMet k from to
  met = record { cut = linked.there m from to sent received p; all = same_before k m one other from to sent received linked.cut.to_other p }

  linked_met : AreLinked k from to
  linked_met = linked_before k one other from to (before_it one sent from p.sent_there) (before_it other received to p.received_there) met.cut linked

  -- the message itself is under way
  one_under_way : stream k true (sent ∷ from) ≡ (m ∷ []) ++ stream k false to
  one_under_way = stream_of k true from sent (Some m) p.sends ∙ ap (λ l. m ∷ l) met.all

  back_under_way : stream k true to ≡ met.cut.to_one.0 ++ stream k false (sent ∷ from)
  back_under_way = met.cut.to_one.1 ∙ ap (λ l. met.cut.to_one.0 ++ l) (sym (stream_of k false from sent None (other_way k true m sent p.sends)))

  linked_sent : AreLinked k (sent ∷ from) to
  linked_sent = linked_before k one other (sent ∷ from) to p.sent_there (before_it other received to p.received_there)
      record { to_one = (met.cut.to_one.0, back_under_way); to_other = (m ∷ [], one_under_way) } linked

  due : (q : ℕ) → answers q m ≡ true → is_unreturned (id k true q) to ≡ true
  due q a =
      return_comes k (sent ∷ from) to met.cut.to_one.0 (m ∷ []) linked_sent one_under_way back_under_way uses_x uses_y free_x free_y [] m sent from q ([], refl) p.sends met.all a

  its_opening : OpensFree to received
  its_opening =
      let s = passing_is k true m sent p.sends in
      let r = passing_is k false m received p.receives in
      subst (λ e. OpensFree to e) (sym r.2) (opens_there k from to linked_met met.all uses_x.1 uses_y free_x.1 free_y s.0 r.0 s.1 r.1 m (subst (λ e. OpensFree from e) s.2 free_x.0))

  its_questions : UsesQuestions to received
  its_questions =
      let s = passing_is k true m sent p.sends in
      let r = passing_is k false m received p.receives in
      subst (λ e. UsesQuestions to e) (sym r.2) (questions_there k from to linked_met met.all uses_x.1 uses_y free_x.1 free_y s.0 r.0 s.1 r.1 m due (subst (λ e. UsesQuestions from e) s.2 uses_x.0))

  its_numbers : UsesNumbers to received
  its_numbers =
      let s = passing_is k true m sent p.sends in
      let r = passing_is k false m received p.receives in
      subst (λ e. UsesNumbers to e) (sym r.2) (numbers_there k from to linked_met met.all uses_x.1 uses_y free_x.1 free_y s.0 r.0 s.1 r.1 m (subst (λ e. UsesNumbers from e) s.2 numbers))

  its_own : (n : ℕ) → gives_back (id k true n) to received ≤ held (id k true n) to
  its_own n =
      let after : IsMet k (sent ∷ from) (received ∷ to) = met_after k m one other from to sent received p met in
      let on : AreLinked k (sent ∷ from) (received ∷ to) = linked_before k one other (sent ∷ from) (received ∷ to) p.sent_there p.received_there after.cut linked in
      let back : AreLinked k (received ∷ to) (sent ∷ from) = linked_back k (sent ∷ from) (received ∷ to) on in
      let told = are_told k (received ∷ to) (sent ∷ from) back.cut (openings_linked k (received ∷ to) (sent ∷ from) back (its_questions, uses_y) free_x)
      (openings_linked k (sent ∷ from) (received ∷ to) on uses_x (its_opening, free_y)) in
      let le = exporter_counts k n (received ∷ to) (sent ∷ from) told (its_questions, uses_y) uses_x counts in
      let none = introduces_none k true n to received (other_way k false m received p.receives) in
      omega (arith, le, none)

  its_numbers_back : GivesBackHeld to received
  its_numbers_back i = elim (none_or_some (passing i.connection (not i.ours) received)) [
    | inl none ↦ let zero = gives_none i.connection i.ours i.number to received none in omega (arith, zero)
    | inr n ↦
        let r = passing_is k false m received p.receives in
        let parts = one_way (i.connection == k) (beq (not i.ours) false) n.0 m (sym (ap (λ e. passing i.connection (not i.ours) e) r.2) ∙ n.1) in
        let ours : true ≡ i.ours = ours_by i.ours (same_way (not i.ours) false parts.1) in
        subst (λ j. gives_back j to received ≤ held j to) (ap₂ (λ a b. id a b i.number) (sym (eqb-true i.connection k parts.0)) ours) (its_own i.number)
  ]

  pub arrives : ArrivesWell to received
  arrives = record { opens_free = its_opening; uses_questions = its_questions; uses_numbers = its_numbers; gives_back_held = its_numbers_back }
