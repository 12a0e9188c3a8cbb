-- Where each step sends what is led to, what is received is led to as well.
use Rattle.std.proofs.Common.{◌≡◌, inl, inr, sym, ◌∙◌, subst, ℕ, List, [], ◌∷◌, ◌++◌, true, append_assoc}
use Rattle.std.specs.List.{AllByRecursion, list_any}
use Rattle.std.proofs.lemmas.Bool.{and_parts, false≢true}
use Rattle.run_model.specs.Types.{Name, Cap, FieldOf, Message, Return, Taken, Resolve, Step, Send, Receive}
use Rattle.run_model.specs.Leads.{LeadsByTurns}
use Rattle.run_model.specs.Led.{IsLedTo, SendsLedTo}
use Rattle.run_model.specs.Legal.{hands, passes_back, is_passed_back}
use Rattle.run_model.specs.Links.{IsLinked}
use Rattle.run_model.specs.Steps.{EachStep, PastSteps, is_same_call}
use Rattle.run_model.proofs.Growing.{leads_by_turns_grow, passes_later}
use Rattle.run_model.proofs.Once.{names_same, or_either}
use Rattle.run_model.proofs.Sending.{was_sent, step_at, all_grow}

-- ---- what is received was led to where it was sent

module _ (before : PastSteps) (led : EachStep SendsLedTo before) (v k : ℕ) where
  abbrev WasLedTo : Message → Type 0
  WasLedTo m = (w : ℕ) × (later earlier : PastSteps) × (before ≡ later ++ earlier) × IsLedTo earlier w m

  was_led : (m : Message) (bound : List Cap) → IsLinked before (Receive v k m bound) → WasLedTo m
  was_led m bound linked =
      let s = was_sent before v k m bound linked in
      let there = step_at SendsLedTo s.1 s.2 (Send s.0 k m) (subst (EachStep SendsLedTo) s.4 led) in
      (s.0, s.1 ++ Send s.0 k m ∷ [], s.2, s.4 ∙ sym (append_assoc s.1 (Send s.0 k m ∷ []) s.2), there)

  pub results_led : (c : Name) (results : List (List ℕ × Cap)) (caps bound : List Cap) → IsLinked before (Receive v k (Return c results caps) bound) →
      AllByRecursion (λ r. LeadsByTurns before (FieldOf c r.0) r.1) results
  results_led c results caps bound linked =
      let s = was_led (Return c results caps) bound linked in
      subst (λ l. AllByRecursion (λ r. LeadsByTurns l (FieldOf c r.0) r.1) results) (sym s.3) (all_grow LeadsByTurns leads_by_turns_grow s.1 s.2 c results s.4)

  pub promise_led : (promise cap : Cap) (bound : List Cap) → IsLinked before (Receive v k (Resolve promise cap) bound) → LeadsByTurns before promise cap
  promise_led promise cap bound linked =
      let s = was_led (Resolve promise cap) bound linked in subst (λ l. LeadsByTurns l promise cap) (sym s.3) (leads_by_turns_grow s.1 s.2 promise cap s.4)

  pub taken_led : (c by : Name) (bound : List Cap) → IsLinked before (Receive v k (Taken c by) bound) → list_any (hands c by) before ≡ true
  taken_led c by bound linked =
      let s = was_led (Taken c by) bound linked in subst (λ l. list_any (hands c by) l ≡ true) (sym s.3) (passes_later (hands c by) s.1 s.2 s.4)

-- ---- a call that was passed back was answered by itself

passing_hands : (before : PastSteps) (s : Step) → SendsLedTo before s → (c : Name) → passes_back c s ≡ true → list_any (hands c c) before ≡ true
passing_hands before (Send v k (Taken d by)) led c h =
    let parts = and_parts (is_same_call d c) (is_same_call by c) h in
    subst (λ x. list_any (hands c x) before ≡ true) (names_same by c parts.1) (subst (λ x. list_any (hands x by) before ≡ true) (names_same d c parts.0) led)
passing_hands before (Send v k m) led c h = absurd (false≢true h)
passing_hands before s led c h = absurd (false≢true h)

pub passed_hands : (before : PastSteps) → EachStep SendsLedTo before → (c : Name) → is_passed_back c before ≡ true → list_any (hands c c) before ≡ true
passed_hands [] led c h = absurd (false≢true h)
passed_hands (s ∷ before) led c h = elim (or_either (passes_back c s) (is_passed_back c before) h) [
  | inl now ↦ passes_later (hands c c) (s ∷ []) before (passing_hands before s led.0 c now)
  | inr old ↦ passes_later (hands c c) (s ∷ []) before (passed_hands before led.1 c old)
]
