-- What comes once.
use Rattle.std.proofs.Common.{◌≡◌, ◌≤◌, ◌⊎◌, ◌||◌, ap₂, inl, inr, refl, sym, ◌∙◌, subst, ℕ, suc, [], ◌∷◌, Bool, true, false, arith, if◌then◌else◌, eqb-true}
use Rattle.std.specs.List.{list_any}
use Rattle.std.proofs.lemmas.Bool.{and_parts, or_parts, or_left, or_right, false_from_ne_true, false≢true}
use Rattle.run_model.specs.Types.{Name, Cap, Boot, Step, Host, Vow, Fulfil, Break, Make, Deliver, Answer, AnswerBy, Fault, Send, Receive}
use Rattle.run_model.specs.Edges.{IsForeign}
use Rattle.run_model.specs.Has.{Brings, Gets, Has}
use Rattle.run_model.specs.Legal.{IsLegal, begins_call, ends, answers_or_faults}
use Rattle.run_model.specs.Steps.{EachStep, OneOf, PastSteps, call, count_steps, is_same_call}

pub or_either : (a b : Bool) → (a || b) ≡ true → (a ≡ true) ⊎ (b ≡ true)
or_either true b e = inl refl
or_either false b e = inr e

none_counts : (test : Step → Bool) (before : PastSteps) → list_any test before ≡ false → count_steps test before ≡ 0
none_counts test [] e = refl
none_counts test (s ∷ before) e =
    let parts = or_parts (test s) (list_any test before) e in rw parts.0 (none_counts test before parts.1)

pick : (b : Bool) (n : ℕ) → (b ≡ true → n ≡ 0) → n ≤ 1 → (if b then suc n else n) ≤ 1
pick true n none le = let e : n ≡ 0 = none refl in omega (arith, e)
pick false n none le = le

-- a test that no two steps pass
pub once : (test : Step → Bool) (before : PastSteps) → EachStep (λ b s. test s ≡ true → list_any test b ≡ false) before → count_steps test before ≤ 1
once test [] h = omega arith
once test (s ∷ before) h = pick (test s) (count_steps test before) (λ e. none_counts test before (h.0 e)) (once test before h.1)

-- where each step that passes one test passes another, some step passes the other if some passes the one
pub some_of : (test other : Step → Bool) → ((s : Step) → test s ≡ true → other s ≡ true) → (before : PastSteps) → list_any test before ≡ true → list_any other before ≡ true
some_of test other so [] e = absurd (false≢true e)
some_of test other so (s ∷ before) e = elim (or_either (test s) (list_any test before) e) [
  | inl now ↦ or_left (other s) (list_any other before) (so s now)
  | inr old ↦ or_right (other s) (list_any other before) (some_of test other so before old)
]

pub none_of : (test other : Step → Bool) → ((s : Step) → test s ≡ true → other s ≡ true) → (before : PastSteps) → list_any other before ≡ false → list_any test before ≡ false
none_of test other so before e = false_from_ne_true (list_any test before) (λ f. false≢true (sym e ∙ some_of test other so before f))

each_so : (P Q : PastSteps → Step → Type 0) → ((b : PastSteps) (s : Step) → P b s → Q b s) → (before : PastSteps) → EachStep P before → EachStep Q before
each_so P Q f [] h = h
each_so P Q f (s ∷ before) h = (f before s h.0, each_so P Q f before h.1)

pub names_same : (c d : Name) → is_same_call c d ≡ true → c ≡ d
names_same c d e = let parts = and_parts _ _ e in ap₂ call (eqb-true c.maker d.maker parts.0) (eqb-true c.number d.number parts.1)

ended_once : (v p : ℕ) (before : PastSteps) (s : Step) → IsLegal before s → ends v p s ≡ true → list_any (ends v p) before ≡ false
ended_once v p before (Fulfil w q to) legal e =
    let parts = and_parts _ _ e in
    subst (λ y. list_any (ends v y) before ≡ false) (eqb-true q p parts.1) (subst (λ x. list_any (ends x q) before ≡ false) (eqb-true w v parts.0) legal.1.1)
ended_once v p before (Break w q) legal e =
    let parts = and_parts _ _ e in
    subst (λ y. list_any (ends v y) before ≡ false) (eqb-true q p parts.1) (subst (λ x. list_any (ends x q) before ≡ false) (eqb-true w v parts.0) legal.1.1)
ended_once v p before (Host w o) legal e = absurd (false≢true e)
ended_once v p before _ legal e = absurd (false≢true e)

settled_once : (c : Name) (before : PastSteps) (s : Step) → IsLegal before s → answers_or_faults c s ≡ true → list_any (answers_or_faults c) before ≡ false
settled_once c before (Answer v d results) legal e = subst (λ x. list_any (answers_or_faults x) before ≡ false) (names_same d c e) legal.1.1
settled_once c before (AnswerBy v d by) legal e = subst (λ x. list_any (answers_or_faults x) before ≡ false) (names_same d c e) legal.1.1
settled_once c before (Fault v d) legal e = subst (λ x. list_any (answers_or_faults x) before ≡ false) (names_same d c e) legal.1.1
settled_once c before (Host w o) legal e = absurd (false≢true e)
settled_once c before _ legal e = absurd (false≢true e)

pub ends_once : (before : PastSteps) → EachStep IsLegal before → (v p : ℕ) → count_steps (ends v p) before ≤ 1
ends_once before legal v p = once (ends v p) before (each_so IsLegal _ (ended_once v p) before legal)

pub settles_once : (before : PastSteps) → EachStep IsLegal before → (c : Name) → count_steps (answers_or_faults c) before ≤ 1
settles_once before legal c = once (answers_or_faults c) before (each_so IsLegal _ (settled_once c) before legal)

pub begun_once : (c : Name) (before : PastSteps) (s : Step) → IsLegal before s → begins_call c s ≡ true → list_any (begins_call c) before ≡ false
begun_once c before (Make v n cap r i m) legal e = subst (λ x. list_any (begins_call x) before ≡ false) (names_same (call v n) c e) legal.1
begun_once c before (Send v k (Boot d)) legal e = subst (λ x. list_any (begins_call x) before ≡ false) (names_same d c e) legal.1.1
begun_once c before (Host w o) legal e = absurd (false≢true e)
begun_once c before _ legal e = absurd (false≢true e)

pub begins_once : (before : PastSteps) → EachStep IsLegal before → (c : Name) → count_steps (begins_call c) before ≤ 1
begins_once before legal c = once (begins_call c) before (each_so IsLegal _ (begun_once c) before legal)

brings : (before : PastSteps) (s : Step) → IsLegal before s → (v : ℕ) (a : Cap) → IsForeign v a → Gets v a s → Brings v a s
brings before (Host w o) legal v a foreign h = absurd (subst (IsForeign v) h.1 foreign refl)
brings before (Vow w p) legal v a foreign h = absurd (subst (IsForeign v) h.1 foreign refl)
brings before (Make w n cap r i m) legal v a foreign h = absurd (subst (IsForeign v) h.1.1 foreign refl)
brings before (Send w k (Boot c)) legal v a foreign h = absurd (subst (IsForeign v) h.1.1 foreign (legal.1.0 ∙ h.0))
brings before (Receive w k m bound) legal v a foreign h = h
brings before (Deliver w c o) legal v a foreign h = h
brings before _ legal v a foreign h = absurd h

pub foreign_was_brought : (before : PastSteps) → EachStep IsLegal before → (v : ℕ) (a : Cap) → IsForeign v a → Has before v a → OneOf (Brings v a) before
foreign_was_brought [] legal v a foreign h = h
foreign_was_brought (s ∷ before) legal v a foreign (inl h) = inl (brings before s legal.0 v a foreign h)
foreign_was_brought (s ∷ before) legal v a foreign (inr h) = inr (foreign_was_brought before legal.1 v a foreign h)
