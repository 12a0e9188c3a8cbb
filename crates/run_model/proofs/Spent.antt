-- Which calls are no more to be delivered, and that they were begun.
use Rattle.std.proofs.Common.{◌≡◌, inl, inr, refl, sym, subst, ℕ, [], ◌∷◌, ◌++◌, Bool, true, false, ◌==◌, Option, Some, None, IsSomeAnd, is_some}
use Rattle.std.specs.Prelude.{⊤}
use Rattle.std.specs.List.{list_any}
use Rattle.std.proofs.lemmas.Bool.{and_parts, or_left, or_right, false≢true}
use Rattle.run_model.specs.Types.{Name, Boot, Step, Host, Deliver, Answer, AnswerBy, Fault, Send, Receive}
use Rattle.run_model.specs.Steps.{EachStep, PastSteps, is_same_call}
use Rattle.run_model.specs.Places.{Asked, at_vat}
use Rattle.run_model.specs.Legal.{IsLegal, arrives, begins_call, delivers_call, answers_or_faults}
use Rattle.run_model.specs.Links.{IsLinked}
use Rattle.run_model.proofs.Growing.{passes_later}
use Rattle.run_model.proofs.Sending.{was_sent}
use Rattle.run_model.proofs.Once.{names_same, or_either, some_of}
use Rattle.run_model.proofs.Turning.{same_to_itself}
use Rattle.run_model.proofs.Goals.{begun, goes_to_goal}

-- a step by which a call is no more to be delivered, or never was: it is delivered, answered or faulted, or it is a Bootstrap
abbrev pub spends : Name → Step → Bool
spends c (Send v k (Boot d)) = is_same_call d c
spends c (Deliver v d o) = is_same_call d c
spends c (Answer v d results) = is_same_call d c
spends c (AnswerBy v d by) = is_same_call d c
spends c (Fault v d) = is_same_call d c
spends c _ = false

pub delivers_spends : (c : Name) (s : Step) → delivers_call c s ≡ true → spends c s ≡ true
delivers_spends c (Deliver v d o) e = e
delivers_spends c (Host v o) e = absurd (false≢true e)
delivers_spends c _ e = absurd (false≢true e)

pub settles_spends : (c : Name) (s : Step) → answers_or_faults c s ≡ true → spends c s ≡ true
settles_spends c (Answer v d results) e = e
settles_spends c (AnswerBy v d by) e = e
settles_spends c (Fault v d) e = e
settles_spends c (Host v o) e = absurd (false≢true e)
settles_spends c _ e = absurd (false≢true e)

-- a step by which a call becomes a vat's to answer, or is answered or faulted
abbrev pub reaches : Name → Step → Bool
reaches c (Deliver v d o) = is_same_call d c
reaches c (Receive v k (Boot d) bound) = is_same_call d c
reaches c (Answer v d results) = is_same_call d c
reaches c (AnswerBy v d by) = is_same_call d c
reaches c (Fault v d) = is_same_call d c
reaches c _ = false

pub arrives_reaches : (c : Name) (v : ℕ) (s : Step) → arrives c v s ≡ true → reaches c s ≡ true
arrives_reaches c v (Deliver w d o) e = (and_parts (w == v) (is_same_call d c) e).1
arrives_reaches c v (Receive w k (Boot d) bound) e = (and_parts (w == v) (is_same_call d c) e).1
arrives_reaches c v (Receive w k m bound) e = absurd (false≢true e)
arrives_reaches c v (Host w o) e = absurd (false≢true e)
arrives_reaches c v _ e = absurd (false≢true e)

pub settles_reaches : (c : Name) (s : Step) → answers_or_faults c s ≡ true → reaches c s ≡ true
settles_reaches c (Answer v d results) e = e
settles_reaches c (AnswerBy v d by) e = e
settles_reaches c (Fault v d) e = e
settles_reaches c (Host v o) e = absurd (false≢true e)
settles_reaches c _ e = absurd (false≢true e)

-- a Bootstrap that was sent spent its call
boot_spent : (c : Name) (later earlier : PastSteps) (w k : ℕ) → list_any (spends c) (later ++ Send w k (Boot c) ∷ earlier) ≡ true
boot_spent c later earlier w k = passes_later (spends c) later (Send w k (Boot c) ∷ earlier) (or_left (is_same_call c c) (list_any (spends c) earlier) (same_to_itself c))

-- a call that reached its vat is spent
reached_at : (s : Step) (past : PastSteps) (c : Name) → IsLinked past s → reaches c s ≡ true → list_any (spends c) (s ∷ past) ≡ true
reached_at (Deliver v d o) past c linked e = or_left (is_same_call d c) (list_any (spends c) past) e
reached_at (Answer v d results) past c linked e = or_left (is_same_call d c) (list_any (spends c) past) e
reached_at (AnswerBy v d by) past c linked e = or_left (is_same_call d c) (list_any (spends c) past) e
reached_at (Fault v d) past c linked e = or_left (is_same_call d c) (list_any (spends c) past) e
reached_at (Receive v k (Boot d) bound) past c linked e =
    let was = was_sent past v k (Boot d) bound linked in
    let now : list_any (spends d) past ≡ true = subst (λ l. list_any (spends d) l ≡ true) (sym was.4) (boot_spent d was.1 was.2 was.0 k) in
    subst (λ x. list_any (spends x) past ≡ true) (names_same d c e) now
reached_at (Receive v k m bound) past c linked e = absurd (false≢true e)
reached_at (Host v o) past c linked e = absurd (false≢true e)
reached_at _ past c linked e = absurd (false≢true e)

pub reached_spent : (past : PastSteps) → EachStep IsLinked past → (c : Name) → list_any (reaches c) past ≡ true → list_any (spends c) past ≡ true
reached_spent [] linked c e = absurd (false≢true e)
reached_spent (s ∷ past) linked c e = elim (or_either (reaches c s) (list_any (reaches c) past) e) [
  | inl now ↦ reached_at s past c linked.0 now
  | inr before ↦ or_right (spends c s) (list_any (spends c) past) (reached_spent past linked.1 c before)
]

-- a call that is a vat's to answer is spent
abbrev pub IsSpentWhereItArrived : PastSteps → Type 0
IsSpentWhereItArrived past = (c : Name) (v : ℕ) → list_any (arrives c v) past ≡ true → list_any (spends c) past ≡ true

pub arrived_spent : (past : PastSteps) → EachStep IsLinked past → IsSpentWhereItArrived past
arrived_spent past linked c v e = reached_spent past linked c (some_of (arrives c v) (reaches c) (arrives_reaches c v) past e)

-- a call that is at a vat was begun
here_begun : (past : PastSteps) (d : Name) (v : ℕ) → EachStep IsLegal past → EachStep IsLinked past → (P : Asked → Type 0) (a : Option Asked) → at_vat past d v ≡ a → IsSomeAnd a P → list_any (begins_call d) past ≡ true
here_begun past d v legal linked P None f h = absurd h
here_begun past d v legal linked P (Some a) f h = begun past d _ (goes_to_goal past legal linked d v a f)

pub some_here : (o : Option Asked) → is_some o ≡ true → IsSomeAnd o (λ a. ⊤)
some_here None e = absurd (false≢true e)
some_here (Some a) e = tt

-- a call that is spent was begun
begun_at : (s : Step) (past : PastSteps) (c : Name) → IsLegal past s → EachStep IsLegal past → EachStep IsLinked past → ((d : Name) → list_any (spends d) past ≡ true → list_any (begins_call d) past ≡ true) →
    spends c s ≡ true → list_any (begins_call c) (s ∷ past) ≡ true
begun_at (Send v k (Boot d)) past c legal before linked rest e = or_left (is_same_call d c) (list_any (begins_call c) past) e
begun_at (Send v k m) past c legal before linked rest e = absurd (false≢true e)
begun_at (Deliver v d o) past c legal before linked rest e =
    subst (λ x. list_any (begins_call x) past ≡ true) (names_same d c e) (here_begun past d v before linked _ (at_vat past d v) refl legal.1)
begun_at (Answer v d results) past c legal before linked rest e =
    subst (λ x. list_any (begins_call x) past ≡ true) (names_same d c e) (rest d (arrived_spent past linked d v legal.1.0))
begun_at (AnswerBy v d by) past c legal before linked rest e =
    subst (λ x. list_any (begins_call x) past ≡ true) (names_same d c e) (rest d (arrived_spent past linked d v legal.1.0))
begun_at (Fault v d) past c legal before linked rest e =
    subst (λ x. list_any (begins_call x) past ≡ true) (names_same d c e) (elim (or_either (list_any (arrives d v) past) (is_some (at_vat past d v)) legal.1.0) [
      | inl there ↦ rest d (arrived_spent past linked d v there)
      | inr here ↦ here_begun past d v before linked (λ a. ⊤) (at_vat past d v) refl (some_here (at_vat past d v) here)
    ])
begun_at (Host v o) past c legal before linked rest e = absurd (false≢true e)
begun_at _ past c legal before linked rest e = absurd (false≢true e)

pub spent_begun : (past : PastSteps) → EachStep IsLegal past → EachStep IsLinked past → (c : Name) → list_any (spends c) past ≡ true → list_any (begins_call c) past ≡ true
spent_begun [] legal linked c e = absurd (false≢true e)
spent_begun (s ∷ past) legal linked c e = elim (or_either (spends c s) (list_any (spends c) past) e) [
  | inl now ↦ begun_at s past c legal.0 legal.1 linked.1 (spent_begun past legal.1 linked.1) now
  | inr before ↦ or_right (begins_call c s) (list_any (begins_call c) past) (spent_begun past legal.1 linked.1 c before)
]
