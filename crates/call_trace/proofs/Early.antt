-- The least early step of a run, one step further.
use Rattle.std.proofs.Common.{◌≡◌, ◌∙◌, ℕ, suc, ◌+◌, ◌<◌, ◌≤◌, inl, inr, refl, sym, ap, ap₂, subst, ◌==◌, List, [], ◌∷◌, ◌++◌, Bool, true, false, ◌&&◌, ◌||◌, if◌then◌else◌, reverse, take, drop, length, get_or, Option, Some, None, arith, nat_lt, nat_le}
use Rattle.std.specs.List.{filter, AllByRecursion}
use Rattle.std.proofs.lemmas.Bool.{false≢true, eq-eqb, and_cases, eqb-false, eqb-true, leb-false, leb-true, ltb-false, ltb-true, and_parts, or_cases, or_parts, cases_order}
use Rattle.std.proofs.lemmas.List.{take_all, drop_all, drop_more, reverse-append, length-append, take-append-drop}
use Rattle.std.proofs.lemmas.List.Elements.{filter-append}
use Rattle.run_model.specs.Early.{early, early_from, is_early, IsAtMost, IsLeastOf, IsOrderFault}
use Rattle.run_model.specs.Steps.{count_steps, steps_of, vat_of, OneOf}
use Rattle.run_model.specs.declared.step.Step.TheVariants.{Host, Deliver}
use Rattle.run_model.proofs.Numbers.{past_more}
use Rattle.run_model.proofs.Order.{ordered_unless_early}
use Rattle.call_trace.specs.Types.{Step}
use Rattle.call_trace.specs.declared.latest.Latest.{Latest}
use Rattle.call_trace.specs.Glue.Overtaking.{AreOvertaken, goes_before, least_place_with}

-- ---- counting

one_more : (b : Bool) (n k m : ℕ) → n ≡ k + m → (if b then suc n else n) ≡ (if b then suc k else k) + m
one_more true n k m e = omega (arith, e)
one_more false n k m e = e

count_append : (test : Step → Bool) (front back : List Step) → count_steps test (front ++ back) ≡ count_steps test front + count_steps test back
count_append test [] back = omega arith
count_append test (s ∷ front) back = one_more (test s) (count_steps test (front ++ back)) (count_steps test front) (count_steps test back) (count_append test front back)

filter_one : (b : Bool) (s : Step) (kept : List Step) (n : ℕ) → n ≡ length kept → n + (if b then 1 else 0) ≡ length (if b then s ∷ kept else kept)
filter_one true s kept n e = omega (arith, e)
filter_one false s kept n e = omega (arith, e)

count_reverse : (test : Step → Bool) (steps : List Step) → count_steps test (reverse steps) ≡ length (filter test steps)
count_reverse test [] = refl
count_reverse test (s ∷ steps) =
    ap (count_steps test) (reverse-append (s ∷ []) steps)
    ∙ count_append test (reverse steps) (s ∷ [])
    ∙ filter_one (test s) s (filter test steps) (count_steps test (reverse steps)) (count_reverse test steps)

-- the first steps have no more of these than all
count_first : (test : Step → Bool) (run : List Step) (i : ℕ) → count_steps test (reverse (take i run)) ≤ length (filter test run)
count_first test run i =
    let parts = filter-append test (take i run) (drop i run) in
    let whole : length (filter test run) ≡ length (filter test (take i run)) + length (filter test (drop i run)) =
    ap (λ l. length (filter test l)) (sym (take-append-drop i run)) ∙ ap (λ l. length l) parts ∙ length-append (filter test (take i run)) (filter test (drop i run)) in
    omega (arith, whole, count_reverse test (take i run))

if_true : (b : Bool) (n : ℕ) → b ≡ true → (if b then suc n else n) ≡ suc n
if_true true n e = refl
if_true false n e = absurd (false≢true e)

-- a step that is still to be counted leaves room
pub room : (run : List Step) (i : ℕ) (s : Step) (vat most : ℕ) → i < length run → s ≡ get_or run i s → vat ≡ vat_of s → length (steps_of vat run) < most
    → count_steps (λ t. vat_of t == vat) (reverse (take i run)) + 1 < most
room run i s vat most lt at is few =
    let more = ap (count_steps (λ t. vat_of t == vat)) (past_more run i s lt at) ∙ if_true (vat_of s == vat) (count_steps (λ t. vat_of t == vat) (reverse (take i run))) (eq-eqb (vat_of s) vat (sym is)) in
    let first = count_first (λ t. vat_of t == vat) run (i + 1) in
    omega (arith, more, first, few)

-- ---- the least

at_most_itself : (a : ℕ × ℕ) → IsAtMost a a
at_most_itself a = inr (refl, omega arith)

at_most_through : (a b c : ℕ × ℕ) → IsAtMost a b → IsAtMost b c → IsAtMost a c
at_most_through a b c (inl l) (inl m) = inl (omega (arith, l, m))
at_most_through a b c (inl l) (inr m) = inl (omega (arith, l, m.0))
at_most_through a b c (inr l) (inl m) = inl (omega (arith, l.0, m))
at_most_through a b c (inr l) (inr m) = inr (l.0 ∙ m.0, omega (arith, l.1, m.1))

all_through : (a b : ℕ × ℕ) (places : List (ℕ × ℕ)) → IsAtMost a b → AllByRecursion (IsAtMost b) places → AllByRecursion (IsAtMost a) places
all_through a b [] le all = all
all_through a b (p ∷ places) le all = (at_most_through a b p le all.0, all_through a b places le all.1)

known_least : (known place : ℕ × ℕ) → (nat_lt known.0 place.0 || ((known.0 == place.0) && nat_le known.1 place.1)) ≡ true → IsAtMost known place
known_least known place e = elim (or_cases _ _ e) [
  | inl less ↦ inl (ltb-true known.0 place.0 less)
  | inr same ↦ let parts = and_parts _ _ same in inr (eqb-true known.0 place.0 parts.0, leb-true known.1 place.1 parts.1)
]

place_least : (known place : ℕ × ℕ) → (nat_lt known.0 place.0 || ((known.0 == place.0) && nat_le known.1 place.1)) ≡ false → IsAtMost place known
place_least known place e =
    let parts = or_parts _ _ e in
    let le = ltb-false known.0 place.0 parts.0 in
    elim (cases_order place.0 known.0) [
      | inl same ↦ elim (and_cases _ _ parts.1) [
        | inl apart ↦ absurd (eqb-false known.0 place.0 apart (sym same))
        | inr more ↦ let l = leb-false known.1 place.1 more in inr (same, omega (arith, l))
      ]
      | inr other ↦ elim other [ inl less ↦ inl less | inr less ↦ absurd (omega (arith, less, le)) ]
    ]

lesser_at : (b : Bool) (known place : ℕ × ℕ) (places : List (ℕ × ℕ)) → (b ≡ true → IsAtMost known place) → (b ≡ false → IsAtMost place known)
    → IsLeastOf places (Some known) → IsLeastOf (place ∷ places) (Some (if b then known else place))
lesser_at true known place places below above least = (inr least.0, (below refl, least.1))
lesser_at false known place places below above least = (inl refl, (at_most_itself place, all_through place known places (above refl) least.1))

least_more : (known : Option (ℕ × ℕ)) (place : ℕ × ℕ) (places : List (ℕ × ℕ)) → IsLeastOf places known → IsLeastOf (place ∷ places) (Some (least_place_with known place))
least_more None place places none = (inl refl, (at_most_itself place, subst (AllByRecursion (IsAtMost place)) (sym none) tt))
least_more (Some known) place places least =
    lesser_at (nat_lt known.0 place.0 || ((known.0 == place.0) && nat_le known.1 place.1)) known place places (known_least known place) (place_least known place) least

-- ---- early steps

early_is : (run : List Step) (until : Latest) (place : ℕ) (s : Step) → AreOvertaken run until → goes_before until place s ≡ is_early (reverse run) s (drop place run)
early_is run until place (Deliver v c o) are = are c place
early_is run until place (Host v o) are = refl
early_is run until place _ are = refl

-- this is the least early step of the first ones
abbrev pub IsFault : List Step → ℕ → Option (ℕ × ℕ) → Type 0
IsFault run i known = IsLeastOf (early_from (reverse run) (drop i run) (reverse (take i run))) known

early_more : (run : List Step) (i : ℕ) (s : Step) → i < length run → s ≡ get_or run i s
    → early_from (reverse run) (drop (i + 1) run) (reverse (take (i + 1) run))
    ≡ (if is_early (reverse run) s (drop (i + 1) run) then (vat_of s, count_steps (λ t. vat_of t == vat_of s) (reverse (take i run))) ∷ early_from (reverse run) (drop i run) (reverse (take i run))
    else early_from (reverse run) (drop i run) (reverse (take i run)))
early_more run i s lt at =
    let back : s ∷ drop (i + 1) run ≡ drop i run = ap (λ t. t ∷ drop (i + 1) run) at ∙ sym (drop_more run i s lt) in
    ap (early_from (reverse run) (drop (i + 1) run)) (past_more run i s lt at)
    ∙ ap (λ l. if is_early (reverse run) s (drop (i + 1) run) then (vat_of s, count_steps (λ t. vat_of t == vat_of s) (reverse (take i run))) ∷ early_from (reverse run) l (reverse (take i run))
    else early_from (reverse run) l (reverse (take i run))) back

pub fault_more : (run : List Step) (i : ℕ) (s : Step) (until : Latest) (vat number : ℕ) (known : Option (ℕ × ℕ)) → i < length run → s ≡ get_or run i s → AreOvertaken run until → vat ≡ vat_of s
    → number ≡ count_steps (λ t. vat_of t == vat) (reverse (take i run)) → goes_before until (i + 1) s ≡ true → IsFault run i known → IsFault run (i + 1) (Some (least_place_with known (vat, number)))
fault_more run i s until vat number known lt at are is count_is goes before =
    let place : (vat, number) ≡ (vat_of s, count_steps (λ t. vat_of t == vat_of s) (reverse (take i run))) =
    ap₂ {C = ℕ × ℕ} (λ v n. (v, n)) is (count_is ∙ ap (λ v. count_steps (λ t. vat_of t == v) (reverse (take i run))) is) in
    let all = early_more run i s lt at ∙ ap (λ b. if b then (vat_of s, count_steps (λ t. vat_of t == vat_of s) (reverse (take i run))) ∷ early_from (reverse run) (drop i run) (reverse (take i run))
    else early_from (reverse run) (drop i run) (reverse (take i run))) (sym (early_is run until (i + 1) s are) ∙ goes) in
    subst (λ places. IsLeastOf places (Some (least_place_with known (vat, number)))) (sym all)
    (subst (λ p. IsLeastOf (p ∷ early_from (reverse run) (drop i run) (reverse (take i run))) (Some (least_place_with known (vat, number)))) place
    (least_more known (vat, number) (early_from (reverse run) (drop i run) (reverse (take i run))) before))

pub fault_same : (run : List Step) (i : ℕ) (s : Step) (until : Latest) (known : Option (ℕ × ℕ)) → i < length run → s ≡ get_or run i s → AreOvertaken run until → goes_before until (i + 1) s ≡ false
    → IsFault run i known → IsFault run (i + 1) known
fault_same run i s until known lt at are stays before =
    let all = early_more run i s lt at ∙ ap (λ b. if b then (vat_of s, count_steps (λ t. vat_of t == vat_of s) (reverse (take i run))) ∷ early_from (reverse run) (drop i run) (reverse (take i run))
    else early_from (reverse run) (drop i run) (reverse (take i run))) (sym (early_is run until (i + 1) s are) ∙ stays) in
    subst (λ places. IsLeastOf places known) (sym all) before

least_is_fault : (run : List Step) (known : Option (ℕ × ℕ)) → IsLeastOf (early run) known → IsOrderFault run known
least_is_fault run None none = (ordered_unless_early run).0 none
least_is_fault run (Some place) least = least

pub fault_is : (run : List Step) (i : ℕ) (known : Option (ℕ × ℕ)) → length run ≤ i → IsFault run i known → IsOrderFault run known
fault_is run i known le before =
    least_is_fault run known
    (subst (λ l. IsLeastOf (early_from (reverse run) l (reverse run)) known) (drop_all i run le) (subst (λ l. IsLeastOf (early_from (reverse run) (drop i run) (reverse l)) known) (take_all i run le) before))
