-- What is received was sent before.
use Rattle.std.proofs.Common.{◌≡◌, ◌≢◌, inl, inr, refl, sym, ◌∙◌, ap, subst, ℕ, zero, suc, ◌==◌, List, [], ◌∷◌, ◌++◌, Bool, true, false, not, ◌&&◌, ◌||◌, Option, Some, None, reverse, slice_get, filter_map, if◌then◌else◌, append_assoc, true≢false, eqb-true}
use Rattle.std.proofs.lemmas.List.{reverse-append, reverse-reverse}
use Rattle.std.proofs.lemmas.Bool.{and_from, and_parts, or_left, or_right, eq-eqb, false≢true}
use Rattle.std.specs.List.{AllByRecursion, cons_option, list_any}
use Rattle.run_model.specs.Types.{Name, Cap, FieldOf, Message, Return, Taken, Resolve, Step, Host, AnswerBy, Send, Receive}
use Rattle.run_model.proofs.Growing.{passes_later}
use Rattle.run_model.proofs.Meeting.{became_later}
use Rattle.run_model.proofs.Once.{names_same, or_either}
use Rattle.run_model.specs.Leads.{MakesTurn, Turns}
use Rattle.run_model.specs.Legal.{IsLegal, Became, answers_call, hands, sends_on, passes_back, is_passed_back}
use Rattle.run_model.specs.Links.{IsLinked, receives_on, sent_to}
use Rattle.run_model.proofs.Turning.{same_to_itself}
use Rattle.run_model.specs.Steps.{EachStep, PastSteps, count_steps, is_same_call}

-- an element of the list gives this
abbrev pub Gives : {A B : Type 0} → (A → Option B) → List A → B → Type 0
Gives {A} f xs y = (front : List A) × (x : A) × (back : List A) × (xs ≡ front ++ x ∷ back) × (f x ≡ Some y)

after_none : {A B : Type 0} (f : A → Option B) (x : A) (xs : List A) (y : B) → Gives f xs y → Gives f (x ∷ xs) y
after_none f x xs y r = (x ∷ r.0, r.1, r.2, ap (λ l. x ∷ l) r.3, r.4)

gives_first : {A B : Type 0} (f : A → Option B) (x : A) (xs : List A) (y : B) (o : Option B) → f x ≡ o → ((n : ℕ) → slice_get (filter_map f xs) n ≡ Some y → Gives f xs y) →
    (n : ℕ) → slice_get (cons_option o (filter_map f xs)) n ≡ Some y → Gives f (x ∷ xs) y
gives_first f x xs y None g rest n e = after_none f x xs y (rest n e)
gives_first f x xs y (Some z) g rest zero e = ([], x, xs, refl, g ∙ e)
gives_first f x xs y (Some z) g rest (suc n) e = after_none f x xs y (rest n e)

none_some : {A : Type 0} {x : A} → None ≡ Some x → ⊥
none_some e = cc

gives : {A B : Type 0} (f : A → Option B) (xs : List A) (y : B) (n : ℕ) → slice_get (filter_map f xs) n ≡ Some y → Gives f xs y
gives f [] y n e = absurd (none_some e)
gives f (x ∷ xs) y n e = gives_first f x xs y (f x) refl (gives f xs y) n e

-- the step that sent a message
sender : (v k w j : ℕ) (m : Message) (n : Message) (b : Bool) → ((j == k) && not (w == v)) ≡ b → (if b then Some n else None) ≡ Some m → (w ≢ v) × (Send w j n ≡ Send w k m)
sender v k w j m n true test e =
    let parts = and_parts _ _ test in
    let j_same : j ≡ k = eqb-true j k parts.0 in
    let n_same : n ≡ m = cc in
    ((λ same. true≢false (sym parts.1 ∙ ap not (eq-eqb w v same))), cc)
sender v k w j m n false test e = absurd (none_some e)

pub sent_by : (v k : ℕ) (s : Step) (m : Message) → sent_to v k s ≡ Some m → (w : ℕ) × (w ≢ v) × (s ≡ Send w k m)
sent_by v k (Send w j n) m e = let r = sender v k w j m n _ refl e in (w, r.0, r.1)
sent_by v k (Host w o) m e = absurd (none_some e)
sent_by v k _ m e = absurd (none_some e)

pub back_again : (before front back : PastSteps) (s : Step) → reverse before ≡ front ++ s ∷ back → before ≡ reverse back ++ s ∷ reverse front
back_again before front back s e = sym (reverse-reverse before) ∙ ap (λ l. reverse l) e ∙ reverse-append front (s ∷ back)
    ∙ ap (λ l. l ++ reverse front) (reverse-append (s ∷ []) back) ∙ append_assoc (reverse back) (s ∷ []) (reverse front)

pub was_sent : (before : PastSteps) (v k : ℕ) (m : Message) (bound : List Cap) → IsLinked before (Receive v k m bound) →
    (w : ℕ) × (later earlier : PastSteps) × (w ≢ v) × (before ≡ later ++ Send w k m ∷ earlier)
was_sent before v k m bound linked =
    let g = gives (sent_to v k) (reverse before) m (count_steps (receives_on v k) before) linked.1 in
    let s = sent_by v k g.1 m g.4 in
    (s.0, reverse g.2, reverse g.0, s.1, back_again before g.0 g.2 g.1 g.3 ∙ ap (λ t. reverse g.2 ++ t ∷ reverse g.0) s.2)

-- the step that stands at a point is so after those before it
pub step_at : (P : PastSteps → Step → Type 0) (later earlier : PastSteps) (s : Step) → EachStep P (later ++ s ∷ earlier) → P earlier s
step_at P [] earlier s h = h.0
step_at P (x ∷ later) earlier s h = step_at P later earlier s h.1

-- fields and what is given at their paths stay so related
module _ (R : PastSteps → Cap → Cap → Type 0) (lasts : (later earlier : PastSteps) (a b : Cap) → R earlier a b → R (later ++ earlier) a b) where
  pub all_grow : (later earlier : PastSteps) (c : Name) (results : List (List ℕ × Cap)) → AllByRecursion (λ r. R earlier (FieldOf c r.0) r.1) results →
      AllByRecursion (λ r. R (later ++ earlier) (FieldOf c r.0) r.1) results
  all_grow later earlier c [] h = h
  all_grow later earlier c (r ∷ rs) h = (lasts later earlier (FieldOf c r.0) r.1 h.0, all_grow later earlier c rs h.1)

pub received_leads : (before : PastSteps) → EachStep IsLegal before → (v k : ℕ) (c : Name) (results : List (List ℕ × Cap)) (caps bound : List Cap) →
    IsLinked before (Receive v k (Return c results caps) bound) → AllByRecursion (λ r. Became before (FieldOf c r.0) r.1) results
received_leads before legal v k c results caps bound linked =
    let s = was_sent before v k (Return c results caps) bound linked in
    let there = step_at IsLegal s.1 s.2 (Send s.0 k (Return c results caps)) (subst (λ l. EachStep IsLegal l) s.4 legal) in
    subst (λ l. AllByRecursion (λ r. Became l (FieldOf c r.0) r.1) results) (sym s.4)
    (all_grow Became became_later s.1 (Send s.0 k (Return c results caps) ∷ s.2) c results (all_grow Became became_later (Send s.0 k (Return c results caps) ∷ []) s.2 c results there.1.1))

-- one of two tests that steps pass stays passed
pub either_later : (one other : Step → Bool) (later earlier : PastSteps) → (list_any one earlier || list_any other earlier) ≡ true → (list_any one (later ++ earlier) || list_any other (later ++ earlier)) ≡ true
either_later one other later earlier e = elim (or_either (list_any one earlier) (list_any other earlier) e) [
  | inl so ↦ or_left (list_any one (later ++ earlier)) (list_any other (later ++ earlier)) (passes_later one later earlier so)
  | inr so ↦ or_right (list_any one (later ++ earlier)) (list_any other (later ++ earlier)) (passes_later other later earlier so)
]

pub received_answered : (before : PastSteps) → EachStep IsLegal before → (v k : ℕ) (c : Name) (results : List (List ℕ × Cap)) (caps bound : List Cap) →
    IsLinked before (Receive v k (Return c results caps) bound) → (list_any (answers_call c) before || is_passed_back c before) ≡ true
received_answered before legal v k c results caps bound linked =
    let m : Message = Return c results caps in
    let s = was_sent before v k m bound linked in
    let there = step_at IsLegal s.1 s.2 (Send s.0 k m) (subst (λ l. EachStep IsLegal l) s.4 legal) in
    subst (λ l. (list_any (answers_call c) l || is_passed_back c l) ≡ true) (sym s.4)
    (either_later (answers_call c) (passes_back c) s.1 (Send s.0 k m ∷ s.2) (either_later (answers_call c) (passes_back c) (Send s.0 k m ∷ []) s.2 there.1.0))

pub resolved_leads : (before : PastSteps) → EachStep IsLegal before → (v k : ℕ) (promise cap : Cap) (bound : List Cap) → IsLinked before (Receive v k (Resolve promise cap) bound) →
    Became before promise cap
resolved_leads before legal v k promise cap bound linked =
    let s = was_sent before v k (Resolve promise cap) bound linked in
    let there = step_at IsLegal s.1 s.2 (Send s.0 k (Resolve promise cap)) (subst (λ l. EachStep IsLegal l) s.4 legal) in
    subst (λ l. Became l promise cap) (sym s.4)
    (became_later s.1 (Send s.0 k (Resolve promise cap) ∷ s.2) promise cap (became_later (Send s.0 k (Resolve promise cap) ∷ []) s.2 promise cap there.1))

-- a Return that takes its own call's results passes the call back
passed_now : (w k : ℕ) (c by : Name) (before : PastSteps) → is_same_call c by ≡ true → is_passed_back c (Send w k (Taken c by) ∷ before) ≡ true
passed_now w k c by before same =
    let by_same : is_same_call by c ≡ true = subst (λ d. is_same_call d c ≡ true) (names_same c by same) (same_to_itself c) in
    or_left (passes_back c (Send w k (Taken c by))) (is_passed_back c before) (and_from (is_same_call c c) (is_same_call by c) (same_to_itself c) by_same)

pub received_taken : (before : PastSteps) → EachStep IsLegal before → (v k : ℕ) (c by : Name) (bound : List Cap) → IsLinked before (Receive v k (Taken c by) bound) →
    (list_any (hands c by) before || (is_same_call c by && is_passed_back c before)) ≡ true
received_taken before legal v k c by bound linked =
    let m : Message = Taken c by in
    let s = was_sent before v k m bound linked in
    let there = step_at IsLegal s.1 s.2 (Send s.0 k m) (subst (λ l. EachStep IsLegal l) s.4 legal) in
    elim (or_either (list_any (hands c by) s.2) (is_same_call c by && list_any (sends_on c s.0) s.2) there.1) [
      | inl handed ↦
          or_left (list_any (hands c by) before) (is_same_call c by && is_passed_back c before)
          (subst (λ l. list_any (hands c by) l ≡ true) (sym s.4) (passes_later (hands c by) s.1 (Send s.0 k m ∷ s.2) handed))
      | inr back ↦
          let same = (and_parts (is_same_call c by) (list_any (sends_on c s.0) s.2) back).0 in
          or_right (list_any (hands c by) before) (is_same_call c by && is_passed_back c before)
          (and_from (is_same_call c by) (is_passed_back c before) same (subst (λ l. is_passed_back c l ≡ true) (sym s.4) (passes_later (passes_back c) s.1 (Send s.0 k m ∷ s.2) (passed_now s.0 k c by s.2 same))))
    ]

-- a call that is answered by another turns to it at each path
turned_by : (s : Step) (c by : Name) (path : List ℕ) → hands c by s ≡ true → MakesTurn (FieldOf c path) (FieldOf by path) s
turned_by (AnswerBy v x y) c by path e =
    let parts = and_parts _ _ e in (path, ap (λ name. FieldOf name path) (sym (names_same x c parts.0)), ap (λ name. FieldOf name path) (sym (names_same y by parts.1)))
turned_by (Host v o) c by path e = absurd (false≢true e)
turned_by _ c by path e = absurd (false≢true e)

pub fields_turn : (before : PastSteps) (c by : Name) (path : List ℕ) → list_any (hands c by) before ≡ true → Turns before (FieldOf c path) (FieldOf by path)
fields_turn [] c by path e = absurd (false≢true e)
fields_turn (s ∷ before) c by path e = elim (or_either (hands c by s) (list_any (hands c by) before) e) [
  | inl now ↦ inl (turned_by s c by path now)
  | inr old ↦ inr (fields_turn before c by path old)
]
