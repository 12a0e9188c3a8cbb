-- A Bootstrap is received once, and a call arrives once.
use Rattle.std.proofs.Common.{◌≡◌, ◌≤◌, ◌⊎◌, inl, inr, refl, sym, ◌∙◌, subst, ℕ, ◌==◌, List, [], ◌∷◌, Bool, true, false, is_some, eqb-true}
use Rattle.std.specs.Prelude.{⊤}
use Rattle.std.specs.List.{list_any}
use Rattle.std.proofs.lemmas.Bool.{and_parts, or_left, or_right, or_from, false_from_ne_true, false≢true}
use Rattle.run_model.specs.Types.{Name, Cap, Message, Boot, Step, Host, Deliver, Answer, AnswerBy, Fault, Send, Receive}
use Rattle.run_model.specs.Steps.{PastSteps, EachStep, count_steps, is_same_call}
use Rattle.run_model.specs.Places.{at_vat}
use Rattle.run_model.specs.Legal.{IsLegal, arrives, begins_call, answers_or_faults}
use Rattle.run_model.specs.Links.{IsLinked}
use Rattle.run_model.proofs.Once.{names_same, none_of, once, or_either}
use Rattle.run_model.proofs.Turning.{clash, same_to_itself}
use Rattle.run_model.proofs.Spent.{spends, some_here, reaches, arrives_reaches, settles_reaches, reached_spent, arrived_spent, spent_begun}
use Rattle.run_model.proofs.Token.{AllDone, AllButLast, sends, all_grow, but_last_grows, no_send, nothing_to_receive, all_received}
use Rattle.run_model.proofs.Places.{Place, place, fresh_there}

-- a message is the Bootstrap of this call
abbrev pub is_boot : Name → Message → Bool
is_boot c (Boot d) = is_same_call d c
is_boot c _ = false

-- what is known of the Bootstraps of a call: each was received, or the newest is under way, and the call reached no vat
pub data Booting (c : Name) (past : PastSteps) : Type 0 where
  done : AllDone (is_boot c) past past → Booting c past
  coming : AllButLast (is_boot c) past past → list_any (spends c) past ≡ true → list_any (reaches c) past ≡ false → Booting c past

-- a step that sends no Bootstrap of the call, and by which it reaches no vat while its Bootstrap is under way
quiet : (s : Step) (past : PastSteps) (c : Name) → sends (is_boot c) s ≡ false → (list_any (spends c) past ≡ true → list_any (reaches c) past ≡ false → reaches c s ≡ false) →
    Booting c past → Booting c (s ∷ past)
quiet s past c unsent apart (done all) = done (no_send (is_boot c) (s ∷ past) past s unsent, all_grow (is_boot c) s past past all)
quiet s past c unsent apart (coming left spent new) = coming (inr (unsent, but_last_grows (is_boot c) s past past left)) (or_right (spends c s) (list_any (spends c) past) spent)
    (or_from (reaches c s) (list_any (reaches c) past) (apart spent new) new)

boot_sent : (v k : ℕ) (d : Name) (past : PastSteps) (c : Name) → IsLegal past (Send v k (Boot d)) → EachStep IsLegal past → EachStep IsLinked past → (b : Bool) → is_same_call d c ≡ b → Booting c past →
    Booting c (Send v k (Boot d) ∷ past)
boot_sent v k d past c legal before linked true same (done all) =
    let new = subst (λ x. list_any (begins_call x) past ≡ false) (names_same d c same) legal.1.1 in
    coming (inl (same, all_grow (is_boot c) (Send v k (Boot d)) past past all)) (or_left (is_same_call d c) (list_any (spends c) past) same)
    (false_from_ne_true (list_any (reaches c) past) (λ e. clash (spent_begun past before linked c (reached_spent past linked c e)) new))
boot_sent v k d past c legal before linked true same (coming left spent new) =
    absurd (clash (spent_begun past before linked c spent) (subst (λ x. list_any (begins_call x) past ≡ false) (names_same d c same) legal.1.1))
boot_sent v k d past c legal before linked false same booting = quiet (Send v k (Boot d)) past c same (λ e f. refl) booting

boot_received : (v k : ℕ) (d : Name) (bound : List Cap) (past : PastSteps) (c : Name) → IsLinked past (Receive v k (Boot d) bound) → (b : Bool) → is_same_call d c ≡ b → Booting c past →
    Booting c (Receive v k (Boot d) bound ∷ past)
boot_received v k d bound past c linked true same (done all) = absurd (nothing_to_receive (is_boot c) past v k (Boot d) same linked.0 linked.1 all)
boot_received v k d bound past c linked true same (coming left spent new) = done (all_received (is_boot c) past v k (Boot d) bound same linked left)
boot_received v k d bound past c linked false same booting = quiet (Receive v k (Boot d) bound) past c refl (λ e f. same) booting

-- a call that reached no vat arrived nowhere
not_arrived : (c : Name) (v : ℕ) (past : PastSteps) → list_any (reaches c) past ≡ false → list_any (arrives c v) past ≡ false
not_arrived c v past new = none_of (arrives c v) (reaches c) (arrives_reaches c v) past new

-- while its Bootstrap is under way, a call isn't delivered, answered or faulted
undelivered : (v : ℕ) (d : Name) (o : ℕ) (past : PastSteps) (c : Name) → IsLegal past (Deliver v d o) → Place d past → list_any (spends c) past ≡ true → is_same_call d c ≡ false
undelivered v d o past c legal place spent = false_from_ne_true (is_same_call d c)
    (λ e. clash spent (subst (λ x. list_any (spends x) past ≡ false) (names_same d c e) (fresh_there _ past d v place legal.1)))

unanswered : (v : ℕ) (d : Name) (past : PastSteps) (c : Name) → list_any (arrives d v) past ≡ true → list_any (reaches c) past ≡ false → is_same_call d c ≡ false
unanswered v d past c there new = false_from_ne_true (is_same_call d c)
    (λ e. clash (subst (λ x. list_any (arrives x v) past ≡ true) (names_same d c e) there) (not_arrived c v past new))

unfaulted : (v : ℕ) (d : Name) (past : PastSteps) (c : Name) → IsLegal past (Fault v d) → Place d past → list_any (spends c) past ≡ true → list_any (reaches c) past ≡ false → is_same_call d c ≡ false
unfaulted v d past c legal place spent new = false_from_ne_true (is_same_call d c) (λ e. elim (or_either (list_any (arrives d v) past) (is_some (at_vat past d v)) legal.1.0) [
  | inl there ↦ clash (subst (λ x. list_any (arrives x v) past ≡ true) (names_same d c e) there) (not_arrived c v past new)
  | inr here ↦ clash spent
      (subst (λ x. list_any (spends x) past ≡ false) (names_same d c e) (fresh_there (λ a. ⊤) past d v place (some_here (at_vat past d v) here)))
])

next_booting : (s : Step) (past : PastSteps) (c : Name) → IsLegal past s → IsLinked past s → EachStep IsLegal past → EachStep IsLinked past → Booting c past → Booting c (s ∷ past)
next_booting (Send v k (Boot d)) past c legal linked before links booting = boot_sent v k d past c legal before links _ refl booting
next_booting (Send v k m) past c legal linked before links booting = quiet (Send v k m) past c refl (λ e f. refl) booting
next_booting (Receive v k (Boot d) bound) past c legal linked before links booting = boot_received v k d bound past c linked _ refl booting
next_booting (Receive v k m bound) past c legal linked before links booting = quiet (Receive v k m bound) past c refl (λ e f. refl) booting
next_booting (Deliver v d o) past c legal linked before links booting =
    quiet (Deliver v d o) past c refl (λ e f. undelivered v d o past c legal (place past d before links) e) booting
next_booting (Answer v d results) past c legal linked before links booting = quiet (Answer v d results) past c refl (λ e f. unanswered v d past c legal.1.0 f) booting
next_booting (AnswerBy v d by) past c legal linked before links booting = quiet (AnswerBy v d by) past c refl (λ e f. unanswered v d past c legal.1.0 f) booting
next_booting (Fault v d) past c legal linked before links booting = quiet (Fault v d) past c refl (λ e f. unfaulted v d past c legal (place past d before links) e f) booting
next_booting (Host v o) past c legal linked before links booting = quiet (Host v o) past c refl (λ e f. refl) booting
next_booting s past c legal linked before links booting = quiet s past c refl (λ e f. refl) booting

booting : (past : PastSteps) → EachStep IsLegal past → EachStep IsLinked past → (c : Name) → Booting c past
booting [] legal linked c = done tt
booting (s ∷ past) legal linked c = next_booting s past c legal.0 linked.0 legal.1 linked.1 (booting past legal.1 linked.1 c)

-- a call whose Bootstrap is received reached no vat before
new_there : (past : PastSteps) (c : Name) → Booting c past → (v k : ℕ) (bound : List Cap) → IsLinked past (Receive v k (Boot c) bound) → list_any (reaches c) past ≡ false
new_there past c (done all) v k bound linked = absurd (nothing_to_receive (is_boot c) past v k (Boot c) (same_to_itself c) linked.0 linked.1 all)
new_there past c (coming left spent new) v k bound linked = new

pub booted_new : (before : PastSteps) → EachStep IsLegal before → EachStep IsLinked before → (c : Name) (v k w : ℕ) (bound : List Cap) → IsLinked before (Receive v k (Boot c) bound) →
    list_any (arrives c w) before ≡ false
booted_new before legal linked c v k w bound now = not_arrived c w before (new_there before c (booting before legal linked c) v k bound now)

pub booted_unsettled : (before : PastSteps) → EachStep IsLegal before → EachStep IsLinked before → (c : Name) (v k : ℕ) (bound : List Cap) → IsLinked before (Receive v k (Boot c) bound) →
    list_any (answers_or_faults c) before ≡ false
booted_unsettled before legal linked c v k bound now =
    none_of (answers_or_faults c) (reaches c) (settles_reaches c) before (new_there before c (booting before legal linked c) v k bound now)

-- a call that arrives arrived nowhere before
arrives_new : (s : Step) (past : PastSteps) → EachStep IsLegal (s ∷ past) → EachStep IsLinked (s ∷ past) → (c : Name) (v w : ℕ) → arrives c v s ≡ true → list_any (arrives c w) past ≡ false
arrives_new (Deliver u d o) past legal linked c v w e =
    let fresh = fresh_there _ past d u (place past d legal.1 linked.1) legal.0.1 in
    subst (λ x. list_any (arrives x w) past ≡ false) (names_same d c (and_parts (u == v) (is_same_call d c) e).1)
    (false_from_ne_true (list_any (arrives d w) past) (λ f. clash (arrived_spent past linked.1 d w f) fresh))
arrives_new (Receive u k (Boot d) bound) past legal linked c v w e =
    subst (λ x. list_any (arrives x w) past ≡ false) (names_same d c (and_parts (u == v) (is_same_call d c) e).1) (booted_new past legal.1 linked.1 d u k w bound linked.0)
arrives_new (Receive u k m bound) past legal linked c v w e = absurd (false≢true e)
arrives_new (Host u o) past legal linked c v w e = absurd (false≢true e)
arrives_new _ past legal linked c v w e = absurd (false≢true e)

each_new : (past : PastSteps) → EachStep IsLegal past → EachStep IsLinked past → (c : Name) (v : ℕ) → EachStep (λ b s. arrives c v s ≡ true → list_any (arrives c v) b ≡ false) past
each_new [] legal linked c v = tt
each_new (s ∷ past) legal linked c v = (arrives_new s past legal linked c v v, each_new past legal.1 linked.1 c v)

pub arrives_once : (before : PastSteps) → EachStep IsLegal before → EachStep IsLinked before → (c : Name) (v : ℕ) → count_steps (arrives c v) before ≤ 1
arrives_once before legal linked c v = once (arrives c v) before (each_new before legal linked c v)

at_this : (s : Step) (c : Name) (v w : ℕ) → arrives c v s ≡ true → arrives c w s ≡ true → v ≡ w
at_this (Deliver u d o) c v w e f = sym (eqb-true u v (and_parts (u == v) (is_same_call d c) e).0) ∙ eqb-true u w (and_parts (u == w) (is_same_call d c) f).0
at_this (Receive u k (Boot d) bound) c v w e f = sym (eqb-true u v (and_parts (u == v) (is_same_call d c) e).0) ∙ eqb-true u w (and_parts (u == w) (is_same_call d c) f).0
at_this (Receive u k m bound) c v w e f = absurd (false≢true e)
at_this (Host u o) c v w e f = absurd (false≢true e)
at_this _ c v w e f = absurd (false≢true e)

pub arrives_at_one : (before : PastSteps) → EachStep IsLegal before → EachStep IsLinked before → (c : Name) (v w : ℕ) → list_any (arrives c v) before ≡ true → list_any (arrives c w) before ≡ true → v ≡ w
arrives_at_one [] legal linked c v w e f = absurd (false≢true e)
arrives_at_one (s ∷ past) legal linked c v w e f = by_either (arrives_at_one past legal.1 linked.1 c v w)
    (or_either (arrives c v s) (list_any (arrives c v) past) e) (or_either (arrives c w s) (list_any (arrives c w) past) f) where
      by_either : (list_any (arrives c v) past ≡ true → list_any (arrives c w) past ≡ true → v ≡ w) → (arrives c v s ≡ true) ⊎ (list_any (arrives c v) past ≡ true) →
          (arrives c w s ≡ true) ⊎ (list_any (arrives c w) past ≡ true) → v ≡ w
      by_either before (inl h) (inl k) = at_this s c v w h k
      by_either before (inl h) (inr k) = absurd (clash k (arrives_new s past legal linked c v w h))
      by_either before (inr h) (inl k) = absurd (clash h (arrives_new s past legal linked c w v k))
      by_either before (inr h) (inr k) = before h k
