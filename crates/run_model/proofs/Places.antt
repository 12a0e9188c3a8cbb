-- A call is at one vat at most, and at none while it is under way.
use Rattle.std.proofs.Common.{◌≡◌, ◌≤◌, ◌≢◌, ◌⊎◌, inl, inr, refl, sym, ◌∙◌, ap, subst, ℕ, ◌==◌, List, [], ◌∷◌, Bool, true, false, ◌&&◌, None, if◌then◌else◌, IsSomeAnd, IsSome, is_some, ne_eqb}
use Rattle.std.specs.List.{list_any}
use Rattle.std.proofs.lemmas.Bool.{and_from, and_left, and_right, or_left, or_right, or_from, false_from_ne_true, eq-eqb, false≢true, cases_eq}
use Rattle.run_model.specs.Types.{Name, Cap, Boot, Call, Step, Host, Vow, Fulfil, Break, Make, Named, Deliver, Answer, AnswerBy, Fault, Send, Receive}
use Rattle.run_model.proofs.Once.{names_same, none_of, once, or_either}
use Rattle.run_model.proofs.Turning.{clash, same_to_itself}
use Rattle.run_model.proofs.Goals.{begun}
use Rattle.run_model.proofs.Spent.{spends, delivers_spends, IsSpentWhereItArrived, arrived_spent, spent_begun}
use Rattle.run_model.proofs.Token.{is_call, AllDone, AllButLast, sends, all_grow, but_last_grows, no_send, nothing_to_receive, all_received}
use Rattle.run_model.specs.Legal.{IsLegal, arrives, begins_call, delivers_call}
use Rattle.run_model.specs.Links.{IsLinked}
use Rattle.run_model.specs.Places.{Asked, asked_by_parts, Move, brings_it, takes_it_away, leaves_it, move_of, asked_after, at_vat}
use Rattle.run_model.specs.Steps.{EachStep, PastSteps, call, count_steps, is_same_call}

-- where a call is
pub data Place (c : Name) (past : PastSteps) : Type 0 where
  idle : ((w : ℕ) → at_vat past c w ≡ None) → AllDone (is_call c) past past → Place c past
  held : (v : ℕ) → ((w : ℕ) → w ≢ v → at_vat past c w ≡ None) → AllDone (is_call c) past past → list_any (begins_call c) past ≡ true → list_any (spends c) past ≡ false → Place c past
  flying : ((w : ℕ) → at_vat past c w ≡ None) → AllButLast (is_call c) past past → list_any (begins_call c) past ≡ true → list_any (spends c) past ≡ false → Place c past

same_place : (s : Step) (past : PastSteps) (c : Name) (w : ℕ) → move_of c w s ≡ leaves_it → at_vat past c w ≡ None → at_vat (s ∷ past) c w ≡ None
same_place s past c w e h = ap (λ m. asked_after m (at_vat past c w)) e ∙ h

left_place : (s : Step) (past : PastSteps) (c : Name) (w : ℕ) → move_of c w s ≡ takes_it_away → at_vat (s ∷ past) c w ≡ None
left_place s past c w e = ap (λ m. asked_after m (at_vat past c w)) e

-- a step that neither moves the call nor sends it on, and doesn't spend it while it has a place
still : (s : Step) (past : PastSteps) (c : Name) → ((w : ℕ) → move_of c w s ≡ leaves_it) → sends (is_call c) s ≡ false →
    (list_any (begins_call c) past ≡ true → list_any (spends c) past ≡ false → spends c s ≡ false) → Place c past → Place c (s ∷ past)
still s past c unmoved unsent spares (idle n a) =
    idle (λ w. same_place s past c w (unmoved w) (n w)) (no_send (is_call c) (s ∷ past) past s unsent, all_grow (is_call c) s past past a)
still s past c unmoved unsent spares (held v n a b f) =
    held v (λ w apart. same_place s past c w (unmoved w) (n w apart)) (no_send (is_call c) (s ∷ past) past s unsent, all_grow (is_call c) s past past a)
    (or_right (begins_call c s) (list_any (begins_call c) past) b) (or_from (spends c s) (list_any (spends c) past) (spares b f) f)
still s past c unmoved unsent spares (flying n l b f) =
    flying (λ w. same_place s past c w (unmoved w) (n w)) (inr (unsent, but_last_grows (is_call c) s past past l))
    (or_right (begins_call c s) (list_any (begins_call c) past) b) (or_from (spends c s) (list_any (spends c) past) (spares b f) f)

-- the tests of a move
other_vat : (v w : ℕ) (b : Bool) (m : Move) → v ≢ w → (if (v == w) && b then m else leaves_it) ≡ leaves_it
other_vat v w b m apart = ap (λ t. if t then m else leaves_it) (and_left (v == w) b (ne_eqb v w apart))

other_call : (v w : ℕ) (b : Bool) (m : Move) → b ≡ false → (if (v == w) && b then m else leaves_it) ≡ leaves_it
other_call v w b m e = ap (λ t. if t then m else leaves_it) (and_right (v == w) b e)

pub this_call : (v : ℕ) (b : Bool) (m : Move) → b ≡ true → (if (v == v) && b then m else leaves_it) ≡ m
this_call v b m e = ap (λ t. if t then m else leaves_it) (and_from (v == v) b (eq-eqb v v refl) e)

-- a step by which the call leaves this vat leaves it nowhere, where it was nowhere else
leaves : (s : Step) (past : PastSteps) (c : Name) (v u w : ℕ) → move_of c v s ≡ takes_it_away → ((x : ℕ) → x ≢ v → move_of c x s ≡ leaves_it) → (w ≢ u → at_vat past c w ≡ None) → v ≡ u ⊎ at_vat past c w ≡ None →
    at_vat (s ∷ past) c w ≡ None
leaves s past c v u w here there rest at = elim (cases_eq w v) [
  | inl e ↦ left_place s past c w (subst (λ x. move_of c x s ≡ takes_it_away) (sym e) here)
  | inr apart ↦ elim at [
    | inl same ↦ same_place s past c w (there w apart) (rest (λ e. apart (e ∙ sym same)))
    | inr none ↦ same_place s past c w (there w apart) none
  ]
]

not_at : (P : Asked → Type 0) (past : PastSteps) (c : Name) (v : ℕ) → IsSomeAnd (at_vat past c v) P → at_vat past c v ≡ None → ⊥
not_at P past c v h e = subst (λ o. IsSomeAnd o P) e h

-- a call that is at a vat is there alone
is_there : (P : Asked → Type 0) (past : PastSteps) (c : Name) (v u : ℕ) → IsSomeAnd (at_vat past c v) P → ((w : ℕ) → w ≢ u → at_vat past c w ≡ None) → v ≡ u
is_there P past c v u h rest = elim (cases_eq v u) [
  | inl e ↦ e
  | inr apart ↦ absurd (subst (λ o. IsSomeAnd o P) (rest v apart) h)
]

make_place : (v n : ℕ) (cap : Cap) (r i j : ℕ) (past : PastSteps) (c : Name) → IsLegal past (Make v n cap r i j) → (list_any (begins_call c) past ≡ false → list_any (spends c) past ≡ false) → (b : Bool) → is_same_call (call v n) c ≡ b → Place c past → Place c (Make v n cap r i j ∷ past)
make_place v n cap r i j past c legal unborn true same (idle none all) = held v
    (λ w apart. same_place (Make v n cap r i j) past c w (other_vat v w (is_same_call (call v n) c) (brings_it (asked_by_parts cap i j)) (λ e. apart (sym e))) (none w))
    (tt, all_grow (is_call c) (Make v n cap r i j) past past all) (or_left (is_same_call (call v n) c) (list_any (begins_call c) past) same)
    (unborn (subst (λ d. list_any (begins_call d) past ≡ false) (names_same (call v n) c same) legal.1))
make_place v n cap r i j past c legal unborn true same (held u none all begun fresh) = absurd (clash begun (subst (λ d. list_any (begins_call d) past ≡ false) (names_same (call v n) c same) legal.1))
make_place v n cap r i j past c legal unborn true same (flying none left begun fresh) = absurd (clash begun (subst (λ d. list_any (begins_call d) past ≡ false) (names_same (call v n) c same) legal.1))
make_place v n cap r i j past c legal unborn false same place =
    still (Make v n cap r i j) past c (λ w. other_call v w (is_same_call (call v n) c) (brings_it (asked_by_parts cap i j)) same) refl (λ b f. refl) place

receive_place : (v k : ℕ) (d : Name) (target : Cap) (i j : ℕ) (caps bound : List Cap) (past : PastSteps) (c : Name) → IsLinked past (Receive v k (Call d target i j caps) bound) →
    (b : Bool) → is_same_call d c ≡ b → Place c past → Place c (Receive v k (Call d target i j caps) bound ∷ past)
receive_place v k d target i j caps bound past c linked true same (idle none all) = absurd (nothing_to_receive (is_call c) past v k (Call d target i j caps) same linked.0 linked.1 all)
receive_place v k d target i j caps bound past c linked true same (held u none all begun fresh) = absurd (nothing_to_receive (is_call c) past v k (Call d target i j caps) same linked.0 linked.1 all)
receive_place v k d target i j caps bound past c linked true same (flying none left begun fresh) =
    let t : Step = Receive v k (Call d target i j caps) bound in
    held v (λ w apart. same_place t past c w (other_vat v w (is_same_call d c) (brings_it (asked_by_parts target i j)) (λ e. apart (sym e))) (none w))
    (all_received (is_call c) past v k (Call d target i j caps) bound same linked left) begun fresh
receive_place v k d target i j caps bound past c linked false same place =
    still (Receive v k (Call d target i j caps) bound) past c (λ w. other_call v w (is_same_call d c) (brings_it (asked_by_parts target i j)) same) refl (λ b f. refl) place

send_place : (v k : ℕ) (d : Name) (target : Cap) (i j : ℕ) (caps : List Cap) (past : PastSteps) (c : Name) → IsLegal past (Send v k (Call d target i j caps)) →
    (b : Bool) → is_same_call d c ≡ b → Place c past → Place c (Send v k (Call d target i j caps) ∷ past)
send_place v k d target i j caps past c legal true same (idle none all) =
    absurd (not_at _ past d v legal.1 (subst (λ x. at_vat past x v ≡ None) (sym (names_same d c same)) (none v)))
send_place v k d target i j caps past c legal true same (flying none left begun fresh) =
    absurd (not_at _ past d v legal.1 (subst (λ x. at_vat past x v ≡ None) (sym (names_same d c same)) (none v)))
send_place v k d target i j caps past c legal true same (held u none all begun fresh) =
    let s : Step = Send v k (Call d target i j caps) in
    let there = is_there _ past d v u legal.1 (λ w apart. subst (λ x. at_vat past x w ≡ None) (sym (names_same d c same)) (none w apart)) in
    flying (λ w. leaves s past c v u w (this_call v (is_same_call d c) takes_it_away same) (λ x apart. other_vat v x (is_same_call d c) takes_it_away (λ e. apart (sym e))) (none w) (inl there))
    (inl (same, all_grow (is_call c) s past past all)) begun fresh
send_place v k d target i j caps past c legal false same place =
    still (Send v k (Call d target i j caps)) past c (λ w. other_call v w (is_same_call d c) takes_it_away same) same (λ b f. refl) place

deliver_place : (v : ℕ) (d : Name) (o : ℕ) (past : PastSteps) (c : Name) → IsLegal past (Deliver v d o) → (b : Bool) → is_same_call d c ≡ b → Place c past → Place c (Deliver v d o ∷ past)
deliver_place v d o past c legal true same (idle none all) =
    absurd (not_at _ past d v legal.1 (subst (λ x. at_vat past x v ≡ None) (sym (names_same d c same)) (none v)))
deliver_place v d o past c legal true same (flying none left begun fresh) =
    absurd (not_at _ past d v legal.1 (subst (λ x. at_vat past x v ≡ None) (sym (names_same d c same)) (none v)))
deliver_place v d o past c legal true same (held u none all begun fresh) =
    let s : Step = Deliver v d o in
    let there = is_there _ past d v u legal.1 (λ w apart. subst (λ x. at_vat past x w ≡ None) (sym (names_same d c same)) (none w apart)) in
    idle (λ w. leaves s past c v u w (this_call v (is_same_call d c) takes_it_away same) (λ x apart. other_vat v x (is_same_call d c) takes_it_away (λ e. apart (sym e))) (none w) (inl there)) (tt, all_grow (is_call c) s past past all)
deliver_place v d o past c legal false same place = still (Deliver v d o) past c (λ w. other_call v w (is_same_call d c) takes_it_away same) refl (λ b f. same) place

there_alone : (past : PastSteps) (c : Name) (u v : ℕ) → ((w : ℕ) → w ≢ u → at_vat past c w ≡ None) → IsSome (at_vat past c v) → v ≡ u
there_alone past c u v rest some = elim (cases_eq v u) [
  | inl e ↦ e
  | inr apart ↦ absurd (clash some (ap (λ o. is_some o) (rest v apart)))
]

-- so a call that isn't spent is faulted where it is
faulted_here : (v : ℕ) (d : Name) (past : PastSteps) (c : Name) → IsSpentWhereItArrived past → IsLegal past (Fault v d) → is_same_call d c ≡ true → list_any (spends c) past ≡ false →
    IsSome (at_vat past c v)
faulted_here v d past c spent legal same fresh = subst (λ x. IsSome (at_vat past x v)) (names_same d c same) (elim (or_either (list_any (arrives d v) past) (is_some (at_vat past d v)) legal.1.0) [
  | inl there ↦ absurd (clash (subst (λ x. list_any (spends x) past ≡ true) (names_same d c same) (spent d v there)) fresh)
  | inr here ↦ here
])

fault_place : (v : ℕ) (d : Name) (past : PastSteps) (c : Name) → IsSpentWhereItArrived past → IsLegal past (Fault v d) → (b : Bool) → is_same_call d c ≡ b → Place c past → Place c (Fault v d ∷ past)
fault_place v d past c spent legal true same (idle none all) =
    idle (λ w. leaves (Fault v d) past c v v w (this_call v (is_same_call d c) takes_it_away same) (λ x apart. other_vat v x (is_same_call d c) takes_it_away (λ e. apart (sym e))) (λ e. none w) (inr (none w)))
    (tt, all_grow (is_call c) (Fault v d) past past all)
fault_place v d past c spent legal true same (flying none left begun fresh) =
    absurd (clash (faulted_here v d past c spent legal same fresh) (ap (λ o. is_some o) (none v)))
fault_place v d past c spent legal true same (held u none all begun fresh) =
    let there = there_alone past c u v none (faulted_here v d past c spent legal same fresh) in
    idle (λ w. leaves (Fault v d) past c v u w (this_call v (is_same_call d c) takes_it_away same) (λ x apart. other_vat v x (is_same_call d c) takes_it_away (λ e. apart (sym e))) (none w) (inl there))
    (tt, all_grow (is_call c) (Fault v d) past past all)
fault_place v d past c spent legal false same place = still (Fault v d) past c (λ w. other_call v w (is_same_call d c) takes_it_away same) refl (λ b f. same) place

answer_spares : (v : ℕ) (d : Name) (past : PastSteps) (c : Name) → IsSpentWhereItArrived past → list_any (arrives d v) past ≡ true → list_any (spends c) past ≡ false → is_same_call d c ≡ false
answer_spares v d past c spent there f = false_from_ne_true (is_same_call d c)
    (λ e. clash (subst (λ x. list_any (spends x) past ≡ true) (names_same d c e) (spent d v there)) f)

boot_spares : (v k : ℕ) (d : Name) (past : PastSteps) (c : Name) → IsLegal past (Send v k (Boot d)) → list_any (begins_call c) past ≡ true → is_same_call d c ≡ false
boot_spares v k d past c legal b = false_from_ne_true (is_same_call d c)
    (λ e. clash b (subst (λ x. list_any (begins_call x) past ≡ false) (names_same d c e) legal.1.1))

next_place : (s : Step) (past : PastSteps) (c : Name) → IsLegal past s → IsLinked past s → IsSpentWhereItArrived past → (list_any (begins_call c) past ≡ false → list_any (spends c) past ≡ false) → Place c past → Place c (s ∷ past)
next_place (Make v n cap r i j) past c legal linked spent unborn place = make_place v n cap r i j past c legal unborn _ refl place
next_place (Receive v k (Call d target i j caps) bound) past c legal linked spent unborn place = receive_place v k d target i j caps bound past c linked _ refl place
next_place (Receive v k (Boot d) bound) past c legal linked spent unborn place = still (Receive v k (Boot d) bound) past c (λ w. refl) refl (λ b f. refl) place
next_place (Receive v k m bound) past c legal linked spent unborn place = still (Receive v k m bound) past c (λ w. refl) refl (λ b f. refl) place
next_place (Send v k (Call d target i j caps)) past c legal linked spent unborn place = send_place v k d target i j caps past c legal _ refl place
next_place (Send v k (Boot d)) past c legal linked spent unborn place = still (Send v k (Boot d)) past c (λ w. refl) refl (λ b f. boot_spares v k d past c legal b) place
next_place (Send v k m) past c legal linked spent unborn place = still (Send v k m) past c (λ w. refl) refl (λ b f. refl) place
next_place (Deliver v d o) past c legal linked spent unborn place = deliver_place v d o past c legal _ refl place
next_place (Fault v d) past c legal linked spent unborn place = fault_place v d past c spent legal _ refl place
next_place (Host v o) past c legal linked spent unborn place = still (Host v o) past c (λ w. refl) refl (λ b f. refl) place
next_place (Vow v p) past c legal linked spent unborn place = still (Vow v p) past c (λ w. refl) refl (λ b f. refl) place
next_place (Fulfil v p to) past c legal linked spent unborn place = still (Fulfil v p to) past c (λ w. refl) refl (λ b f. refl) place
next_place (Break v p) past c legal linked spent unborn place = still (Break v p) past c (λ w. refl) refl (λ b f. refl) place
next_place (Named v x) past c legal linked spent unborn place = still (Named v x) past c (λ w. refl) refl (λ b f. refl) place
next_place (Answer v d results) past c legal linked spent unborn place = still (Answer v d results) past c (λ w. refl) refl (λ b f. answer_spares v d past c spent legal.1.0 f) place
next_place (AnswerBy v d by) past c legal linked spent unborn place = still (AnswerBy v d by) past c (λ w. refl) refl (λ b f. answer_spares v d past c spent legal.1.0 f) place

-- wherever a run is, a call is in one place
pub place : (past : PastSteps) (c : Name) → EachStep IsLegal past → EachStep IsLinked past → Place c past
place [] c legal linked = idle (λ w. refl) tt
place (s ∷ past) c legal linked =
    next_place s past c legal.0 linked.0 (arrived_spent past linked.1) (λ e. false_from_ne_true _ (λ f. clash (spent_begun past legal.1 linked.1 c f) e)) (place past c legal.1 linked.1)

at_one : (past : PastSteps) (c : Name) → Place c past → (v w : ℕ) → IsSome (at_vat past c v) → IsSome (at_vat past c w) → v ≡ w
at_one past c (idle none all) v w h k = absurd (clash h (ap (λ o. is_some o) (none v)))
at_one past c (held u rest all b f) v w h k = there_alone past c u v rest h ∙ sym (there_alone past c u w rest k)
at_one past c (flying none left b f) v w h k = absurd (clash h (ap (λ o. is_some o) (none v)))

at_none : (past : PastSteps) (c : Name) → Place c past → (v k w : ℕ) (target : Cap) (i j : ℕ) (caps bound : List Cap) → IsLinked past (Receive v k (Call c target i j caps) bound) → at_vat past c w ≡ None
at_none past c (idle none all) v k w target i j caps bound linked = none w
at_none past c (held u rest all b f) v k w target i j caps bound linked = absurd (nothing_to_receive (is_call c) past v k (Call c target i j caps) (same_to_itself c) linked.0 linked.1 all)
at_none past c (flying none left b f) v k w target i j caps bound linked = none w

pub fresh_there : (P : Asked → Type 0) (past : PastSteps) (c : Name) (v : ℕ) → Place c past → IsSomeAnd (at_vat past c v) P → list_any (spends c) past ≡ false
fresh_there P past c v (idle none all) h = absurd (not_at P past c v h (none v))
fresh_there P past c v (held u rest all b f) h = f
fresh_there P past c v (flying none left b f) h = f

pub delivered_fresh : (s : Step) (past : PastSteps) (c : Name) → IsLegal past s → ((d : Name) → Place d past) → delivers_call c s ≡ true → list_any (delivers_call c) past ≡ false
delivered_fresh (Deliver v d o) past c legal places e =
    none_of (delivers_call c) (spends c) (delivers_spends c) past (subst (λ x. list_any (spends x) past ≡ false) (names_same d c e) (fresh_there _ past d v (places d) legal.1))
delivered_fresh (Host v o) past c legal places e = absurd (false≢true e)
delivered_fresh _ past c legal places e = absurd (false≢true e)

each_fresh : (past : PastSteps) (c : Name) → EachStep IsLegal past → EachStep IsLinked past → EachStep (λ b s. delivers_call c s ≡ true → list_any (delivers_call c) b ≡ false) past
each_fresh [] c legal linked = tt
each_fresh (s ∷ past) c legal linked = (delivered_fresh s past c legal.0 (λ d. place past d legal.1 linked.1), each_fresh past c legal.1 linked.1)

pub at_one_vat : (before : PastSteps) → EachStep IsLegal before → EachStep IsLinked before → (c : Name) (v w : ℕ) → IsSome (at_vat before c v) → IsSome (at_vat before c w) → v ≡ w
at_one_vat before legal linked c = at_one before c (place before c legal linked)

pub at_no_vat : (before : PastSteps) → EachStep IsLegal before → EachStep IsLinked before → (c : Name) (v k w : ℕ) (target : Cap) (i j : ℕ) (caps bound : List Cap) →
    IsLinked before (Receive v k (Call c target i j caps) bound) → at_vat before c w ≡ None
at_no_vat before legal linked c = at_none before c (place before c legal linked)

pub delivered_once : (before : PastSteps) → EachStep IsLegal before → EachStep IsLinked before → (c : Name) → count_steps (delivers_call c) before ≤ 1
delivered_once before legal linked c = once (delivers_call c) before (each_fresh before c legal linked)
