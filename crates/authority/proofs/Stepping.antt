-- The edges found, with one more step.
use Rattle.std.proofs.Common.{◌≡◌, ◌∙◌, ◌⊎◌, ℕ, ◌+◌, ◌<◌, ◌≤◌, inl, inr, refl, sym, ap, ap₂, subst, ◌==◌, List, ◌∷◌, true, false, not, reverse, take, length, get_or, Some, None, arith}
use Rattle.std.specs.Prelude.{slice_get}
use Rattle.std.proofs.lemmas.Bool.{cases_lt, eqb-false, false≢true, not-true, not-false, eqb-true}
use Rattle.std.proofs.lemmas.Option.{slice_get-get_or, slice_get_past}
use Rattle.run_model.specs.Edges.{Edge, IsForeign}
use Rattle.run_model.specs.StepNumbers.{step_count}
use Rattle.run_model.specs.Steps.{PastSteps, count_steps, vat_of}
use Rattle.run_model.specs.declared.cap.Cap.{Cap}
use Rattle.run_model.specs.declared.cap.Cap.TheVariants as cap
use Rattle.run_model.specs.declared.message.Message.{Message}
use Rattle.run_model.specs.declared.step.Step.{Step}
use Rattle.run_model.specs.declared.step.Step.TheVariants.{Host, Receive}
use Rattle.run_model.proofs.Numbers.{IsNumbered, past_more}
use Rattle.authority.specs.Glue.EdgeTables.{AddsFirst, EdgeComesBefore, IsBoundIn, IsFound, IsFoundBefore, IsStepNumber, edge_at, foreign}
use Rattle.authority.proofs.First.{found_more, found_own, found_same}
use Rattle.authority.proofs.Bound.{came_before}

-- what is bound by the steps before, or at the first places of this one
abbrev pub IsPartly : PastSteps → ℕ → ℕ → List Cap → ℕ → Edge → Type 0
IsPartly past v i caps p e = ((e.vat ≡ v) × (e.at_record ≡ i) × (e.bound_index < p) × (slice_get caps e.bound_index ≡ Some e.cap)) ⊎ IsBoundIn past e

is_foreign : (v : ℕ) (a : Cap) → foreign v a ≡ true → IsForeign v a
is_foreign v (cap.Object w o) e = λ same. eqb-false w v (not-true (w == v) e) same
is_foreign v (cap.Promise w o) e = λ same. eqb-false w v (not-true (w == v) e) same
is_foreign v (cap.Field c path) e = λ same. eqb-false c.maker v (not-true (c.maker == v) e) same
is_foreign v cap.Nothing e = false≢true e

is_own : (v : ℕ) (a : Cap) → foreign v a ≡ false → IsForeign v a → ⊥
is_own v (cap.Object w o) e apart = apart (eqb-true w v (not-false (w == v) e))
is_own v (cap.Promise w o) e apart = apart (eqb-true w v (not-false (w == v) e))
is_own v (cap.Field c path) e apart = apart (eqb-true c.maker v (not-false (c.maker == v) e))
is_own v cap.Nothing e apart = apart

pub partly_start : (past : PastSteps) (v i : ℕ) (caps : List Cap) (edges : List Edge) → IsFound (IsBoundIn past) edges → IsFound (IsPartly past v i caps 0) edges
partly_start past v i caps edges found =
    found_same (IsBoundIn past) (IsPartly past v i caps 0) edges found (λ f h. elim h [ inl none ↦ absurd (omega (arith, none.2)) | inr was ↦ was ]) (λ f h. inr h)

some_same : {A : Type 0} {x y : A} → Some x ≡ Some y → x ≡ y
some_same e = cc

module _ (past : PastSteps) (v i : ℕ) (caps : List Cap) (p : ℕ) (a : Cap) (at : slice_get caps p ≡ Some a) where
  only : (f : Edge) → IsPartly past v i caps (p + 1) f → IsPartly past v i caps p f ⊎ (f ≡ edge_at v a i p)
  only f (inr was) = inl (inr was)
  only f (inl h) = elim (cases_lt f.bound_index p) [
    | inl less ↦ inl (inl (h.0, h.1, less, h.3))
    | inr more ↦
        let place : f.bound_index ≡ p = omega (arith, h.2, more) in
        let same : f.cap ≡ a = some_same (sym h.3 ∙ ap (slice_get caps) place ∙ at) in
        inr (ap (λ w. edge_at w f.cap f.at_record f.bound_index) h.0 ∙ ap (λ j. edge_at v f.cap j f.bound_index) h.1 ∙ ap₂ (λ b q. edge_at v b i q) same place)
  ]

  kept : (f : Edge) → IsPartly past v i caps p f → IsPartly past v i caps (p + 1) f
  kept f (inr was) = inr was
  kept f (inl h) = inl (h.0, h.1, omega (arith, h.2), h.3)

  later : i ≡ count_steps (λ t. vat_of t == v) past → (f : Edge) → IsPartly past v i caps p f → f.vat ≡ v → EdgeComesBefore f (edge_at v a i p)
  later number f (inl h) same = inr (h.1, h.2)
  later number f (inr was) same = inl (subst (λ n. f.at_record < n) (ap (λ w. count_steps (λ t. vat_of t == w) past) same ∙ sym number) (came_before past f was))

  pub partly_more : (edges more : List Edge) → i ≡ count_steps (λ t. vat_of t == v) past → foreign v a ≡ true → AddsFirst (edge_at v a i p) edges more → IsFound (IsPartly past v i caps p) edges → IsFound (IsPartly past v i caps (p + 1)) more
  partly_more edges more number e adds found =
      found_more (IsPartly past v i caps p) (IsPartly past v i caps (p + 1)) (edge_at v a i p) edges more found only kept (inl (refl, refl, omega arith, at)) (later number) (is_foreign v a e) adds

  pub partly_own : (edges : List Edge) → foreign v a ≡ false → IsFound (IsPartly past v i caps p) edges → IsFound (IsPartly past v i caps (p + 1)) edges
  partly_own edges e found = found_own (IsPartly past v i caps p) (IsPartly past v i caps (p + 1)) (edge_at v a i p) edges found only kept (is_own v a e)

none_some : {A : Type 0} {x : A} → None ≡ Some x → ⊥
none_some e = cc

pub within : (caps : List Cap) (q : ℕ) (a : Cap) → slice_get caps q ≡ Some a → q < length caps
within caps q a e = elim (cases_lt q (length caps)) [ inl less ↦ less | inr more ↦ absurd (none_some (sym (slice_get_past caps q more) ∙ e)) ]

pub partly_all : (run : List Step) (at : ℕ) (s : Step) (v k : ℕ) (m : Message) (caps : List Cap) (i p : ℕ) (edges : List Edge) → at < length run → s ≡ get_or run at s → s ≡ Receive v k m caps
    → i ≡ count_steps (λ t. vat_of t == v) (reverse (take at run)) → length caps ≤ p → IsFound (IsPartly (reverse (take at run)) v i caps p) edges → IsFoundBefore run (at + 1) edges
partly_all run at s v k m caps i p edges lt item is number all found =
    let past = reverse (take at run) in
    subst (λ l. IsFound (IsBoundIn l) edges) (sym (past_more run at s lt item ∙ ap (λ t. t ∷ past) is))
    (found_same (IsPartly past v i caps p) (IsBoundIn (Receive v k m caps ∷ past)) edges found
    (λ f h. elim h [ inl here ↦ inl (here.0, here.1 ∙ sym number, (let l = within caps f.bound_index f.cap here.2 in omega (arith, l, all)), here.2) | inr was ↦ inr was ])
    (λ f h. elim h [ inl here ↦ inl (here.0, here.1 ∙ number, here.3) | inr was ↦ inr was ]))

pub back : (s : Step) (past : PastSteps) → ((v k : ℕ) (m : Message) (caps : List Cap) → s ≡ Receive v k m caps → ⊥) → (f : Edge) → IsBoundIn (s ∷ past) f → IsBoundIn past f
back (Receive v k m caps) past not f h = absurd (not v k m caps refl)
back (Host v o) past not f h = h
back _ past not f h = h

pub forth : (s : Step) (past : PastSteps) (f : Edge) → IsBoundIn past f → IsBoundIn (s ∷ past) f
forth (Receive v k m caps) past f h = inr h
forth (Host v o) past f h = h
forth _ past f h = h

pub partly_none : (run : List Step) (at : ℕ) (s : Step) (edges : List Edge) → at < length run → s ≡ get_or run at s → ((v k : ℕ) (m : Message) (caps : List Cap) → s ≡ Receive v k m caps → ⊥)
    → IsFoundBefore run at edges → IsFoundBefore run (at + 1) edges
partly_none run at s edges lt item not found =
    let past = reverse (take at run) in
    subst (λ l. IsFound (IsBoundIn l) edges) (sym (past_more run at s lt item)) (found_same (IsBoundIn past) (IsBoundIn (s ∷ past)) edges found (back s past not) (forth s past))

pub number_at : (run : List Step) (at number v k : ℕ) (m : Message) (caps : List Cap) (s : Step) → IsStepNumber run at number → at < length run → s ≡ get_or run at s → s ≡ Receive v k m caps
    → number ≡ count_steps (λ t. vat_of t == v) (reverse (take at run))
number_at run at number v k m caps s is lt item same =
    is s (slice_get-get_or run at s lt ∙ ap Some (sym item)) ∙ ap (λ w. count_steps (λ t. vat_of t == w) (reverse (take at run))) (ap vat_of same)

-- ---- counting

pub number_is : (run : List Step) (i number vat : ℕ) (s : Step) (table : List (ℕ × ℕ)) → i < length run → s ≡ get_or run i s → vat ≡ vat_of s → IsNumbered run i table → number ≡ step_count table vat → IsStepNumber run i number
number_is run i number vat s table lt item is before e t at =
    let same : s ≡ t = some_same (sym (slice_get-get_or run i s lt ∙ ap Some (sym item)) ∙ at) in
    e ∙ before vat ∙ ap (λ w. count_steps (λ u. vat_of u == w) (reverse (take i run))) (is ∙ ap vat_of same)
