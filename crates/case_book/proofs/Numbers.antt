-- Least numbers, and how often a number stands in a list.
use Rattle.std.proofs.Common.{◌≡◌, ℕ, suc, ◌+◌, ◌<◌, ◌≤◌, Bool, true, false, cond, List, [], ◌∷◌, Some, None, fold, refl, sym, ap, ◌∙◌, inl, inr, arith}
use Rattle.std.specs.Prelude.{◌⊎◌, ◌==◌, filter, count_by, nat_lt}
use Rattle.std.specs.List.{AllByRecursion}
use Rattle.std.proofs.lemmas.Bool.{eqb-true, cases_lt, lt-ltb, ltb-true}
use Rattle.std.proofs.lemmas.List.Sums.{sum_by-cons}
use Rattle.case_book.specs.Least.{lower, least, is_repeated, least_repeated}

pub bool_cases : (b : Bool) → (b ≡ true) ⊎ (b ≡ false)
bool_cases true = inl refl
bool_cases false = inr refl

-- how often a number stands in a list
abbrev pub times : ℕ → List ℕ → ℕ
times n ns = count_by (λ other. other == n) ns

-- no number of a list is smaller
abbrev pub AreFrom : ℕ → List ℕ → Type 0
AreFrom n ns = AllByRecursion (λ other. n ≤ other) ns

pub not_below : (m n : ℕ) → n ≤ m → nat_lt m n ≡ false
not_below m n le =
    elim (bool_cases (nat_lt m n)) [
      | inl lt ↦ absurd (let h = ltb-true m n lt in omega arith)
      | inr fails ↦ fails
    ]

times-cons : (m n : ℕ) (ns : List ℕ) → times n (m ∷ ns) ≡ cond (m == n) 1 0 + times n ns
times-cons m n ns = sum_by-cons (λ (other : ℕ). cond (other == n) 1 0) m ns

one_up : (k : ℕ) → 1 + k ≡ suc k
one_up k = omega arith

zero_up : (k : ℕ) → 0 + k ≡ k
zero_up k = omega arith

-- a number stands first, or it stands as often in the rest
pub first_or_rest : (m n : ℕ) (ns : List ℕ) → ((m ≡ n) × (times n (m ∷ ns) ≡ suc (times n ns))) ⊎ (((m == n) ≡ false) × (times n (m ∷ ns) ≡ times n ns))
first_or_rest m n ns =
    elim (bool_cases (m == n)) [
      | inl same ↦ inl (eqb-true m n same, times-cons m n ns ∙ ap (λ (b : Bool). cond b 1 0 + times n ns) same ∙ one_up (times n ns))
      | inr other ↦ inr (other, times-cons m n ns ∙ ap (λ (b : Bool). cond b 1 0 + times n ns) other ∙ zero_up (times n ns))
    ]

-- a smaller number stands nowhere
pub none_below : (m n : ℕ) (ns : List ℕ) → AreFrom m ns → n < m → times n ns ≡ 0
none_below m n [] from lt = refl
none_below m n (k ∷ ns) from lt =
    elim (first_or_rest k n ns) [
      | inl first ↦ absurd (let e = first.0 in let le = from.0 in omega arith)
      | inr rest ↦ rest.1 ∙ none_below m n ns from.1 lt
    ]

lowest_from : (m n : ℕ) (ns : List ℕ) → n ≤ m → AreFrom n ns → (n ≡ m) ⊎ (0 < times n ns) → fold lower (Some m) ns ≡ Some n
lowest_from m n [] le from stands =
    elim stands [
      | inl first ↦ ap Some (sym first)
      | inr later ↦ absurd (omega arith)
    ]
lowest_from m n (k ∷ ns) le from stands =
    elim (cases_lt k m) [
      | inl lt ↦ rw (lt-ltb k m lt) (lowest_from k n ns from.0 from.1 (elim (first_or_rest k n ns) [
        | inl first ↦ inl (sym first.0)
        | inr rest ↦ elim stands [
          | inl same ↦ absurd (let h = from.0 in omega arith)
          | inr later ↦ let e = rest.1 in inr (omega arith)
        ]
      ]))
      | inr ge ↦ rw (not_below k m ge) (lowest_from m n ns le from.1 (elim (first_or_rest k n ns) [
        | inl first ↦ let e = first.0 in inl (omega arith)
        | inr rest ↦ elim stands [
          | inl same ↦ inl same
          | inr later ↦ let e = rest.1 in inr (omega arith)
        ]
      ]))
    ]

-- a number that stands in a list and is no greater than any there is the least
pub least_is : (n : ℕ) (ns : List ℕ) → AreFrom n ns → 0 < times n ns → least ns ≡ Some n
least_is n [] from stands = absurd (omega arith)
least_is n (m ∷ ns) from stands =
    lowest_from m n ns from.0 from.1 (elim (first_or_rest m n ns) [
      | inl first ↦ inl (sym first.0)
      | inr rest ↦ let e = rest.1 in inr (omega arith)
    ])

none_pass : (p : ℕ → Bool) (ns : List ℕ) → ((n : ℕ) → p n ≡ false) → filter p ns ≡ []
none_pass p [] none = refl
none_pass p (n ∷ ns) none = rw (none n) (none_pass p ns none)

passing_from : (p : ℕ → Bool) (n : ℕ) (ns : List ℕ) → ((m : ℕ) → p m ≡ true → n ≤ m) → AreFrom n (filter p ns)
passing_from p n [] from = tt
passing_from p n (m ∷ ns) from =
    elim (bool_cases (p m)) [
      | inl passes ↦ rw passes (from m passes, passing_from p n ns from)
      | inr fails ↦ rw fails (passing_from p n ns from)
    ]

times_passing : (p : ℕ → Bool) (n : ℕ) (ns : List ℕ) → p n ≡ true → times n (filter p ns) ≡ times n ns
times_passing p n [] passes = refl
times_passing p n (m ∷ ns) passes =
    elim (bool_cases (p m)) [
      | inl here ↦ rw here (times-cons m n (filter p ns) ∙ ap (λ (k : ℕ). cond (m == n) 1 0 + k) (times_passing p n ns passes) ∙ sym (times-cons m n ns))
      | inr fails ↦ rw fails (elim (first_or_rest m n ns) [
        | inl first ↦ absurd (let e : p m ≡ p n = ap p first.0 in cc)
        | inr rest ↦ times_passing p n ns passes ∙ sym rest.1
      ])
    ]

-- no number is repeated
pub repeated_none : (ns : List ℕ) → ((n : ℕ) → times n ns ≤ 1) → least_repeated ns ≡ None
unfolding least_repeated
repeated_none ns once = ap least (none_pass (is_repeated ns) ns (λ n. not_below 1 (times n ns) (once n)))

-- the least that is repeated
pub repeated_some : (ns : List ℕ) (n : ℕ) → 1 < times n ns → ((m : ℕ) → m < n → times m ns ≤ 1) → least_repeated ns ≡ Some n
unfolding least_repeated
repeated_some ns n twice once =
    let passes : is_repeated ns n ≡ true = lt-ltb 1 (times n ns) twice in
    let same = times_passing (is_repeated ns) n ns passes in
    least_is n (filter (is_repeated ns) ns) (passing_from (is_repeated ns) n ns (λ m again. elim (cases_lt m n) [
      | inl lt ↦ absurd (let twice_too = ltb-true 1 (times m ns) again in let only = once m lt in omega arith)
      | inr le ↦ le
    ])) (omega arith)
