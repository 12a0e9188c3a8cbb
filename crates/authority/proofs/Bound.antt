-- Where a vat binds a cap, looking back and by its steps.
use Rattle.std.proofs.Common.{◌≡◌, ◌∙◌, ◌⊎◌, ℕ, zero, suc, ◌+◌, ◌<◌, inl, inr, refl, sym, ap, ap₂, subst, ◌==◌, List, [], ◌∷◌, ◌++◌, Bool, true, false, if◌then◌else◌, reverse, length, Some, None, arith}
use Rattle.std.specs.Prelude.{slice_get}
use Rattle.std.proofs.lemmas.Bool.{eq-eqb, false≢true}
use Rattle.std.proofs.lemmas.List.{append-nil, length-append, reverse-append, reverse-reverse}
use Rattle.std.proofs.lemmas.List.Elements.{filter-append}
use Rattle.run_model.specs.Edges.{Edge, IsBound, IsWitness}
use Rattle.run_model.specs.Steps.{OneOf, PastSteps, count_steps, steps_of, vat_of}
use Rattle.run_model.specs.declared.cap.Cap.{Cap}
use Rattle.run_model.specs.declared.message.Message.{Message}
use Rattle.run_model.specs.declared.step.Step.{Step}
use Rattle.run_model.specs.declared.step.Step.TheVariants.{Host, Receive}
use Rattle.authority.specs.Glue.EdgeTables.{IsBoundIn, IsFound, edge_at}

-- ---- steps of a vat, with one more

steps_more : (v : ℕ) (s : Step) (past : PastSteps) → steps_of v (reverse (s ∷ past)) ≡ steps_of v (reverse past) ++ (if vat_of s == v then s ∷ [] else [])
steps_more v s past = ap (steps_of v) (reverse-append (s ∷ []) past) ∙ filter-append (λ t. vat_of t == v) (reverse past) (s ∷ [])

more_length : (b : Bool) (s : Step) (n k : ℕ) → n ≡ k → n + length (if b then s ∷ [] else []) ≡ (if b then suc k else k)
more_length true s n k e = omega (arith, e)
more_length false s n k e = omega (arith, e)

counted : (v : ℕ) (past : PastSteps) → length (steps_of v (reverse past)) ≡ count_steps (λ s. vat_of s == v) past
counted v [] = refl
counted v (s ∷ past) =
    ap (λ l. length l) (steps_more v s past)
    ∙ length-append (steps_of v (reverse past)) (if vat_of s == v then s ∷ [] else [])
    ∙ more_length (vat_of s == v) s (length (steps_of v (reverse past))) (count_steps (λ t. vat_of t == v) past) (counted v past)

-- ---- places in a list

none_some : {A : Type 0} {x : A} → None ≡ Some x → ⊥
none_some e = cc

some_same : {A : Type 0} {x y : A} → Some x ≡ Some y → x ≡ y
some_same e = cc

get_front : {A : Type 0} (xs ys : List A) (i : ℕ) (z : A) → slice_get xs i ≡ Some z → slice_get (xs ++ ys) i ≡ Some z
get_front [] ys i z e = absurd (none_some e)
get_front (x ∷ xs) ys zero z e = e
get_front (x ∷ xs) ys (suc i) z e = get_front xs ys i z e

get_last : {A : Type 0} (xs : List A) (y : A) → slice_get (xs ++ y ∷ []) (length xs) ≡ Some y
get_last [] y = refl
get_last (x ∷ xs) y = get_last xs y

get_pushed : {A : Type 0} (xs : List A) (y : A) (i : ℕ) (z : A) → slice_get (xs ++ y ∷ []) i ≡ Some z → (slice_get xs i ≡ Some z) ⊎ ((i ≡ length xs) × (y ≡ z))
get_pushed [] y zero z e = inr (refl, some_same e)
get_pushed [] y (suc i) z e = absurd (none_some e)
get_pushed (x ∷ xs) y zero z e = inl e
get_pushed (x ∷ xs) y (suc i) z e = elim (get_pushed xs y i z e) [ inl there ↦ inl there | inr last ↦ inr (ap suc last.0, last.1) ]

get_more : (b : Bool) (xs : List Step) (s : Step) (i : ℕ) (z : Step) → slice_get (xs ++ (if b then s ∷ [] else [])) i ≡ Some z → (slice_get xs i ≡ Some z) ⊎ ((i ≡ length xs) × (s ≡ z))
get_more true xs s i z e = get_pushed xs s i z e
get_more false xs s i z e = inl (sym (ap (λ l. slice_get l i) (append-nil xs)) ∙ e)

-- ---- there and back

pub bound_more : (s : Step) (past : PastSteps) (e : Edge) → IsBoundIn past e → IsBoundIn (s ∷ past) e
bound_more (Receive v k m bound) past e h = inr h
bound_more (Host v o) past e h = h
bound_more _ past e h = h

pub bound_in : (past : PastSteps) (e : Edge) → IsBound (reverse past) e.vat e.cap e.at_record e.bound_index → IsBoundIn past e
bound_in [] e b = absurd (none_some b.step)
bound_in (s ∷ past) e b =
    elim (get_more (vat_of s == e.vat) (steps_of e.vat (reverse past)) s e.at_record (Receive e.vat b.connection b.message b.bound) (sym (ap (λ l. slice_get l e.at_record) (steps_more e.vat s past)) ∙ b.step)) [
      | inl there ↦ bound_more s past e (bound_in past e (record { connection = b.connection; message = b.message; bound = b.bound; step = there; cap_bound = b.cap_bound }))
      | inr last ↦ subst (λ t. IsBoundIn (t ∷ past) e) (sym last.1) (inl (refl, last.0 ∙ counted e.vat past, b.cap_bound))
    ]

bound_later : (s : Step) (past : PastSteps) (v : ℕ) (a : Cap) (i p : ℕ) → IsBound (reverse past) v a i p → IsBound (reverse (s ∷ past)) v a i p
bound_later s past v a i p b = record {
  connection = b.connection;
  message = b.message;
  bound = b.bound;
  step = ap (λ l. slice_get l i) (steps_more v s past) ∙ get_front (steps_of v (reverse past)) (if vat_of s == v then s ∷ [] else []) i (Receive v b.connection b.message b.bound) b.step;
  cap_bound = b.cap_bound;
}

bound_last : (past : PastSteps) (v k : ℕ) (m : Message) (bound : List Cap) (a : Cap) (p : ℕ) → slice_get bound p ≡ Some a → IsBound (reverse (Receive v k m bound ∷ past)) v a (count_steps (λ s. vat_of s == v) past) p
bound_last past v k m bound a p at = record {
  connection = k;
  message = m;
  bound = bound;
  step =
      ap (λ l. slice_get l (count_steps (λ s. vat_of s == v) past)) (steps_more v (Receive v k m bound) past)
      ∙ ap₂ (λ b i. slice_get (steps_of v (reverse past) ++ (if b then Receive v k m bound ∷ [] else [])) i) (eq-eqb v v refl) (sym (counted v past))
      ∙ get_last (steps_of v (reverse past)) (Receive v k m bound);
  cap_bound = at;
}

pub bound_by : (past : PastSteps) (e : Edge) → IsBoundIn past e → IsBound (reverse past) e.vat e.cap e.at_record e.bound_index
bound_by [] e h = absurd h
bound_by (Receive v k m bound ∷ past) e (inl h) =
    subst (λ w. IsBound (reverse (Receive v k m bound ∷ past)) w e.cap e.at_record e.bound_index) (sym h.0)
    (subst (λ i. IsBound (reverse (Receive v k m bound ∷ past)) v e.cap i e.bound_index) (sym h.1) (bound_last past v k m bound e.cap e.bound_index h.2))
bound_by (Receive v k m bound ∷ past) e (inr h) = bound_later (Receive v k m bound) past e.vat e.cap e.at_record e.bound_index (bound_by past e h)
bound_by (Host v o ∷ past) e h = bound_later (Host v o) past e.vat e.cap e.at_record e.bound_index (bound_by past e h)
bound_by (s ∷ past) e h = bound_later s past e.vat e.cap e.at_record e.bound_index (bound_by past e h)

-- what is bound so far is bound by a step that came
fewer : (b : Bool) (i n : ℕ) → i < n → i < (if b then suc n else n)
fewer true i n l = omega (arith, l)
fewer false i n l = l

one_fewer : (b : Bool) (n : ℕ) → b ≡ true → n < (if b then suc n else n)
one_fewer true n e = omega arith
one_fewer false n e = absurd (false≢true e)

pub came_before : (past : PastSteps) (e : Edge) → IsBoundIn past e → e.at_record < count_steps (λ s. vat_of s == e.vat) past
came_before [] e h = absurd h
came_before (Receive v k m bound ∷ past) e (inl h) =
    subst (λ i. i < count_steps (λ s. vat_of s == e.vat) (Receive v k m bound ∷ past)) (sym (h.1 ∙ ap (λ w. count_steps (λ s. vat_of s == w) past) (sym h.0)))
    (one_fewer (v == e.vat) (count_steps (λ s. vat_of s == e.vat) past) (eq-eqb v e.vat (sym h.0)))
came_before (Receive v k m bound ∷ past) e (inr h) = fewer (v == e.vat) e.at_record (count_steps (λ s. vat_of s == e.vat) past) (came_before past e h)
came_before (Host v o ∷ past) e h = fewer (v == e.vat) e.at_record (count_steps (λ s. vat_of s == e.vat) past) (came_before past e h)
came_before (s ∷ past) e h = fewer (vat_of s == e.vat) e.at_record (count_steps (λ s. vat_of s == e.vat) past) (came_before past e h)

-- ---- the edges found are the witnesses

to_run : (run : List Step) (e : Edge) → IsBoundIn (reverse run) e → IsBound run e.vat e.cap e.at_record e.bound_index
to_run run e h = subst (λ l. IsBound l e.vat e.cap e.at_record e.bound_index) (reverse-reverse run) (bound_by (reverse run) e h)

from_run : (run : List Step) (e : Edge) → IsBound run e.vat e.cap e.at_record e.bound_index → IsBoundIn (reverse run) e
from_run run e b = bound_in (reverse run) e (subst (λ l. IsBound l e.vat e.cap e.at_record e.bound_index) (sym (reverse-reverse run)) b)

pub found_witness : (run : List Step) (edges : List Edge) → IsFound (IsBoundIn (reverse run)) edges → (e : Edge) → OneOf (λ x. x ≡ e) edges → IsWitness run e.vat e.cap e.at_record e.bound_index
found_witness run edges found e there =
    let s = found.sound e there in
    record { foreign = s.0; bound = to_run run e s.1; first = λ j other before b. s.2 (edge_at e.vat e.cap j other) (from_run run (edge_at e.vat e.cap j other) b) (refl, refl) before }

pub witness_found : (run : List Step) (edges : List Edge) → IsFound (IsBoundIn (reverse run)) edges → (e : Edge) → IsWitness run e.vat e.cap e.at_record e.bound_index → OneOf (λ x. x ≡ e) edges
witness_found run edges found e w =
    let r = found.covers e w.foreign (from_run run e w.bound) in
    elim r.3 [
      | inl before ↦
          absurd (w.first (r.0).at_record (r.0).bound_index before
          (subst (λ v. IsBound run v e.cap (r.0).at_record (r.0).bound_index) r.2.0 (subst (λ a. IsBound run (r.0).vat a (r.0).at_record (r.0).bound_index) r.2.1 (to_run run r.0 (found.sound r.0 r.1).1))))
      | inr same ↦ subst (λ x. OneOf (λ y. y ≡ x) edges) same r.1
    ]
