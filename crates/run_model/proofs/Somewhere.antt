-- A call that was made is at a vat, or under way, or gone.
use Rattle.std.proofs.Common.{◌≡◌, ◌≢◌, ◌≤◌, ◌<◌, inl, inr, refl, sym, ◌∙◌, ap, subst, ℕ, zero, suc, ◌==◌, List, [], ◌∷◌, ◌++◌, length, Bool, true, false, not, ◌&&◌, Option, Some, None, if◌then◌else◌, reverse, filter_map, slice_get, IsSome, is_some, arith, append_assoc, eqb-true, ne_eqb}
use Rattle.std.specs.List.{list_any, cons_option}
use Rattle.std.specs.Option.{option_or}
use Rattle.std.proofs.lemmas.List.{reverse-append}
use Rattle.std.proofs.lemmas.Bool.{and_parts, and_from, or_left, or_right, eq-eqb, false≢true, cases_eq}
use Rattle.run_model.specs.Types.{Name, Cap, Message, Boot, Call, Step, Host, Make, Deliver, Fault, Send, Receive}
use Rattle.run_model.specs.Steps.{PastSteps, EachStep, call, count_steps, is_same_call, last_step_answer}
use Rattle.run_model.specs.Places.{Asked, asked_by_parts, Move, brings_it, takes_it_away, leaves_it, move_of, asked_after, at_vat}
use Rattle.run_model.specs.Links.{IsLinked, receives_on, sent_to}
use Rattle.run_model.specs.UnderWay.{IsUnderWay, IsSomewhere, takes_for_good}
use Rattle.run_model.specs.Right.{request_in_make}
use Rattle.run_model.proofs.Once.{names_same}
use Rattle.run_model.proofs.Turning.{same_to_itself}
use Rattle.run_model.proofs.Token.{number_at}
use Rattle.run_model.proofs.Places.{this_call}

none_some : {A : Type 0} {x : A} → None ≡ Some x → ⊥
none_some e = cc

left_taken : leaves_it ≡ takes_it_away → ⊥
left_taken e = cc

taken_if : (b : Bool) → (if b then takes_it_away else leaves_it) ≡ takes_it_away → b ≡ true
taken_if true e = refl
taken_if false e = absurd (left_taken e)

not_taken : (b : Bool) (a : Asked) → (if b then brings_it a else leaves_it) ≡ takes_it_away → ⊥
not_taken true a e = cc
not_taken false a e = cc

from_if : {A : Type 0} (b : Bool) (x y : A) → (if b then Some x else None) ≡ Some y → (b ≡ true) × (x ≡ y)
from_if true x y e = (refl, cc)
from_if false x y e = absurd (none_some e)

-- what a list has at a place, it has that many of
below : {A : Type 0} (xs : List A) (n : ℕ) (y : A) → slice_get xs n ≡ Some y → n < length xs
below [] n y e = absurd (none_some e)
below (x ∷ xs) zero y e = omega arith
below (x ∷ xs) (suc n) y e = let le = below xs n y e in omega (arith, le)

-- an element that a filter lets through stands behind those before it
past_one : {A : Type 0} (o : Option A) (xs ys : List A) (y : A) → slice_get xs (length ys) ≡ Some y → slice_get (cons_option o xs) (length (cons_option o ys)) ≡ Some y
past_one None xs ys y e = e
past_one (Some w) xs ys y e = e

at_place : {A B : Type 0} (f : A → Option B) (front : List A) (x : A) (back : List A) (y : B) → f x ≡ Some y →
    slice_get (filter_map f (front ++ x ∷ back)) (length (filter_map f front)) ≡ Some y
at_place f [] x back y e = ap (λ o. slice_get (cons_option o (filter_map f back)) 0) e
at_place f (z ∷ front) x back y e = past_one (f z) (filter_map f (front ++ x ∷ back)) (filter_map f front) y (at_place f front x back y e)

one_more : {A : Type 0} (o : Option A) (xs ys : List A) → length xs ≤ length ys → length (cons_option o xs) ≤ length (cons_option o ys)
one_more None xs ys le = le
one_more (Some w) xs ys le = omega (arith, le)

longer : {A B : Type 0} (f : A → Option B) (front back : List A) → length (filter_map f front) ≤ length (filter_map f (front ++ back))
longer f [] back = omega arith
longer f (z ∷ front) back = one_more (f z) (filter_map f front) (filter_map f (front ++ back)) (longer f front back)

number_grows : (v k : ℕ) (s : Step) (past : PastSteps) → number_at v k past ≤ number_at v k (s ∷ past)
number_grows v k s past =
    subst (λ l. number_at v k past ≤ length (filter_map (sent_to v k) l)) (sym (reverse-append (s ∷ []) past)) (longer (sent_to v k) (reverse past) (s ∷ []))

-- a vat that receives a message hasn't received all that was sent to it
not_all : (v k : ℕ) (s : Step) (past : PastSteps) → IsLinked past s → receives_on v k s ≡ true → count_steps (receives_on v k) past < number_at v k past
not_all v k (Receive w j m bound) past linked e =
    let parts = and_parts (w == v) (j == k) e in
    subst (λ x. count_steps (receives_on v x) past < number_at v x past) (eqb-true j k parts.1)
    (subst (λ x. count_steps (receives_on x j) past < number_at x j past) (eqb-true w v parts.0)
    (below (filter_map (sent_to w j) (reverse past)) (count_steps (receives_on w j) past) m linked.1))
not_all v k (Host w o) past linked e = absurd (false≢true e)
not_all v k _ past linked e = absurd (false≢true e)

up_to : (b : Bool) (n m l : ℕ) → n ≤ m → m ≤ l → (b ≡ true → n < m) → (if b then suc n else n) ≤ l
up_to true n m l le more lt = let now = lt refl in omega (arith, now, more)
up_to false n m l le more lt = omega (arith, le, more)

-- a vat received no more than was sent to it
no_more : (past : PastSteps) (v k : ℕ) → EachStep IsLinked past → count_steps (receives_on v k) past ≤ number_at v k past
no_more [] v k linked = omega arith
no_more (s ∷ past) v k linked =
    up_to (receives_on v k s) (count_steps (receives_on v k) past) (number_at v k past) (number_at v k (s ∷ past)) (no_more past v k linked.1) (number_grows v k s past) (not_all v k s past linked.0)

-- where a call went that left a vat
left : (s : Step) (past : PastSteps) (c : Name) (v : ℕ) → EachStep IsLinked past → move_of c v s ≡ takes_it_away → IsSomewhere (s ∷ past) c
left (Send w k (Call d target i j caps)) past c v linked e =
    let same = names_same d c (and_parts (w == v) (is_same_call d c) (taken_if ((w == v) && is_same_call d c) e)).1 in
    inr (inl record {
      from = w;
      connection = k;
      target = target;
      interface = i;
      method = j;
      caps = caps;
      later = [];
      earlier = past;
      sent = ap (λ x. Send w k (Call x target i j caps) ∷ past) same;
      waits = λ u apart. no_more past u k linked;
    })
left (Send w k (Boot d)) past c v linked e = absurd (left_taken e)
left (Send w k m) past c v linked e = absurd (left_taken e)
left (Deliver w d o) past c v linked e =
    inr (inr (or_left (is_same_call d c) (list_any (takes_for_good c) past) (and_parts (w == v) (is_same_call d c) (taken_if ((w == v) && is_same_call d c) e)).1))
left (Fault w d) past c v linked e =
    inr (inr (or_left (is_same_call d c) (list_any (takes_for_good c) past) (and_parts (w == v) (is_same_call d c) (taken_if ((w == v) && is_same_call d c) e)).1))
left (Make w n cap r i j) past c v linked e = absurd (not_taken ((w == v) && is_same_call (call w n) c) (asked_by_parts cap i j) e)
left (Receive w k (Call d target i j caps) bound) past c v linked e = absurd (not_taken ((w == v) && is_same_call d c) (asked_by_parts target i j) e)
left (Receive w k (Boot d) bound) past c v linked e = absurd (left_taken e)
left (Receive w k m bound) past c v linked e = absurd (left_taken e)
left (Host w o) past c v linked e = absurd (left_taken e)
left _ past c v linked e = absurd (left_taken e)

-- a call that is at a vat, one step later
from_vat : (s : Step) (past : PastSteps) (c : Name) (v : ℕ) → EachStep IsLinked past → IsSome (at_vat past c v) → (m : Move) → move_of c v s ≡ m → IsSomewhere (s ∷ past) c
from_vat s past c v linked here leaves_it e = inl (v, ap (λ m. is_some (asked_after m (at_vat past c v))) e ∙ here)
from_vat s past c v linked here takes_it_away e = left s past c v linked e
from_vat s past c v linked here (brings_it a) e = inl (v, ap (λ m. is_some (asked_after m (at_vat past c v))) e)

-- a call that stays under way
stays : (s : Step) (past : PastSteps) (c : Name) (u : IsUnderWay past c) →
    ((v : ℕ) → v ≢ u.from → receives_on v u.connection s ≡ true → count_steps (receives_on v u.connection) past < number_at v u.connection u.earlier) → IsSomewhere (s ∷ past) c
stays s past c u before = inr (inl record {
  from = u.from;
  connection = u.connection;
  target = u.target;
  interface = u.interface;
  method = u.method;
  caps = u.caps;
  later = s ∷ u.later;
  earlier = u.earlier;
  sent = ap (λ l. s ∷ l) u.sent;
  waits = λ v apart. up_to (receives_on v u.connection s) (count_steps (receives_on v u.connection) past) (number_at v u.connection u.earlier) (number_at v u.connection u.earlier)
      (u.waits v apart) (omega arith) (before v apart);
})

-- the message that comes after all that were sent before a Send is that one
in_order : (past later earlier : PastSteps) (s : Step) → past ≡ later ++ s ∷ earlier → reverse past ≡ reverse earlier ++ s ∷ reverse later
in_order past later earlier s e =
    ap (λ l. reverse l) e ∙ reverse-append later (s ∷ earlier) ∙ ap (λ l. l ++ reverse later) (reverse-append (s ∷ []) earlier) ∙ append_assoc (reverse earlier) (s ∷ []) (reverse later)

comes : (past : PastSteps) (c : Name) (u : IsUnderWay past c) (v : ℕ) (m : Message) → v ≢ u.from → slice_get (filter_map (sent_to v u.connection) (reverse past)) (number_at v u.connection u.earlier) ≡ Some m →
    m ≡ Call c u.target u.interface u.method u.caps
comes past c u v m apart e =
    let sent : Message = Call c u.target u.interface u.method u.caps in
    let s : Step = Send u.from u.connection sent in
    let passes : sent_to v u.connection s ≡ Some sent =
    ap (λ b. if b then Some sent else None) (and_from (u.connection == u.connection) (not (u.from == v)) (eq-eqb u.connection u.connection refl) (ap not (ne_eqb u.from v (λ e. apart (sym e))))) in
    let there = at_place (sent_to v u.connection) (reverse u.earlier) s (reverse u.later) sent passes in
    let here = subst (λ l. slice_get (filter_map (sent_to v u.connection) l) (number_at v u.connection u.earlier) ≡ Some m) (in_order past u.later u.earlier s u.sent) e in
    one_of_two (sym here ∙ there) where
      one_of_two : {A : Type 0} {x y : A} → Some x ≡ Some y → x ≡ y
      one_of_two e = cc

arrives_at : (past : PastSteps) (c : Name) (v k : ℕ) (target : Cap) (i j : ℕ) (caps bound : List Cap) (m : Message) → m ≡ Call c target i j caps → IsSomewhere (Receive v k m bound ∷ past) c
arrives_at past c v k target i j caps bound m e =
    subst (λ x. IsSomewhere (Receive v k x bound ∷ past) c) (sym e)
    (inl (v, ap (λ m. is_some (asked_after m (at_vat past c v))) (this_call v (is_same_call c c) (brings_it (asked_by_parts target i j)) (same_to_itself c))))

-- a call that is under way, when a vat receives a message
received : (past : PastSteps) (c : Name) (u : IsUnderWay past c) (v k : ℕ) (m : Message) (bound : List Cap) → IsLinked past (Receive v k m bound) → IsSomewhere (Receive v k m bound ∷ past) c
received past c u v k m bound linked = elim (cases_eq v u.from) [
  | inl same ↦ stays (Receive v k m bound) past c u (λ w apart e. absurd (apart (sym (eqb-true v w (and_parts (v == w) (k == u.connection) e).0) ∙ same)))
  | inr apart ↦ elim (cases_eq k u.connection) [
    | inr off ↦ stays (Receive v k m bound) past c u (λ w far e. absurd (off (eqb-true k u.connection (and_parts (v == w) (k == u.connection) e).1)))
    | inl on ↦ elim (cases_eq (count_steps (receives_on v u.connection) past) (number_at v u.connection u.earlier)) [
      | inl equal ↦
          let next = subst (λ x. slice_get (filter_map (sent_to v x) (reverse past)) (count_steps (receives_on v x) past) ≡ Some m) on linked.1 in
          arrives_at past c v k u.target u.interface u.method u.caps bound m
          (comes past c u v m apart (subst (λ n. slice_get (filter_map (sent_to v u.connection) (reverse past)) n ≡ Some m) equal next))
      | inr fewer ↦ stays (Receive v k m bound) past c u
          (λ w far e. subst (λ x. count_steps (receives_on x u.connection) past < number_at x u.connection u.earlier) (eqb-true v w (and_parts (v == w) (k == u.connection) e).0)
          (less _ _ (u.waits v apart) fewer))
    ]
  ]
] where
  less : (n m : ℕ) → n ≤ m → n ≢ m → n < m
  less n m le apart = omega (arith, le, apart)

from_link : (s : Step) (past : PastSteps) (c : Name) → IsLinked past s → IsUnderWay past c → IsSomewhere (s ∷ past) c
from_link (Receive v k m bound) past c linked u = received past c u v k m bound linked
from_link (Host v o) past c linked u = stays (Host v o) past c u (λ w apart e. absurd (false≢true e))
from_link s past c linked u = stays s past c u (λ w apart e. absurd (false≢true e))

later_on : (s : Step) (past : PastSteps) (c : Name) → IsLinked past s → EachStep IsLinked past → IsSomewhere past c → IsSomewhere (s ∷ past) c
later_on s past c linked before (inl (v, here)) = from_vat s past c v before here (move_of c v s) refl
later_on s past c linked before (inr (inl u)) = from_link s past c linked u
later_on s past c linked before (inr (inr gone)) = inr (inr (or_right (takes_for_good c s) (list_any (takes_for_good c) past) gone))

-- a call that is made now is at its maker
made_now : (s : Step) (past : PastSteps) (c : Name) (a : Asked) → request_in_make c s ≡ Some a → IsSomewhere (s ∷ past) c
made_now (Make v n cap r i j) past c a e =
    let same = (from_if (is_same_call (call v n) c) (asked_by_parts cap i j) a e).0 in
    inl (v, ap (λ m. is_some (asked_after m (at_vat past c v))) (this_call v (is_same_call (call v n) c) (brings_it (asked_by_parts cap i j)) same))
made_now (Host v o) past c a e = absurd (none_some e)
made_now _ past c a e = absurd (none_some e)

by_making : (s : Step) (past : PastSteps) (c : Name) → IsLinked past s → EachStep IsLinked past → (o : Option Asked) → request_in_make c s ≡ o → (IsSome (last_step_answer (request_in_make c) past) → IsSomewhere past c) →
    IsSome (option_or o (last_step_answer (request_in_make c) past)) → IsSomewhere (s ∷ past) c
by_making s past c linked before None e rest some = later_on s past c linked before (rest some)
by_making s past c linked before (Some a) e rest some = made_now s past c a e

pub somewhere : (past : PastSteps) → EachStep IsLinked past → (c : Name) → IsSome (last_step_answer (request_in_make c) past) → IsSomewhere past c
somewhere [] linked c some = absurd (false≢true some)
somewhere (s ∷ past) linked c some = by_making s past c linked.0 linked.1 (request_in_make c s) refl (somewhere past linked.1 c) some
