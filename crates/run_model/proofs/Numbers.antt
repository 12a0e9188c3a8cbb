-- The steps of each vat among the first steps of a run, counted.
use Rattle.std.proofs.Common.{◌≡◌, ◌∙◌, ℕ, suc, ◌+◌, ◌<◌, ◌≤◌, sym, ap, ap₂, ◌==◌, List, [], ◌∷◌, ◌++◌, Bool, true, false, reverse, take, length, get_or, arith, if◌then◌else◌}
use Rattle.std.proofs.lemmas.List.{take_more, reverse-append, length-reverse, length-take-le}
use Rattle.run_model.specs.StepNumbers.{step_count}
use Rattle.run_model.specs.Steps.{PastSteps, count_steps, vat_of}
use Rattle.run_model.specs.Types.{Step}

-- the first steps, and one more
pub past_more : (run : List Step) (i : ℕ) (s : Step) → i < length run → s ≡ get_or run i s → reverse (take (i + 1) run) ≡ s ∷ reverse (take i run)
past_more run i s lt is = ap reverse (take_more run i s lt ∙ ap (λ t. take i run ++ t ∷ []) (sym is)) ∙ reverse-append (take i run) (s ∷ [])

at_most : (b : Bool) (n k : ℕ) → n ≤ k → (if b then suc n else n) ≤ suc k
at_most true n k l = omega (arith, l)
at_most false n k l = omega (arith, l)

count_within : (test : Step → Bool) (past : PastSteps) → count_steps test past ≤ length past
count_within test [] = omega arith
count_within test (s ∷ past) = at_most (test s) (count_steps test past) (length past) (count_within test past)

-- no vat has more steps than came
pub counted_within : (run : List Step) (i v : ℕ) → i < length run → count_steps (λ t. vat_of t == v) (reverse (take i run)) ≤ i
counted_within run i v lt =
    let all = count_within (λ t. vat_of t == v) (reverse (take i run)) in
    let same = length-reverse (take i run) in
    let part = length-take-le i run (omega (arith, lt)) in
    omega (arith, all, same, part)

suc_if : (b : Bool) (n : ℕ) → n + (if b then 1 else 0) ≡ (if b then suc n else n)
suc_if true n = omega arith
suc_if false n = omega arith

-- the numbers say how many steps of each vat are among the first
abbrev pub IsNumbered : List Step → ℕ → List (ℕ × ℕ) → Type 0
IsNumbered run i numbers = (v : ℕ) → step_count numbers v ≡ count_steps (λ t. vat_of t == v) (reverse (take i run))

-- a step of a vat more was counted
abbrev pub IsStepCounted : ℕ → List (ℕ × ℕ) → List (ℕ × ℕ) → Type 0
IsStepCounted vat old new = (v : ℕ) → step_count new v ≡ step_count old v + (if vat == v then 1 else 0)

pub numbered_more : (run : List Step) (i : ℕ) (s : Step) (vat : ℕ) (old new : List (ℕ × ℕ)) → i < length run → s ≡ get_or run i s → vat ≡ vat_of s →
    IsStepCounted vat old new → IsNumbered run i old → IsNumbered run (i + 1) new
numbered_more run i s vat old new lt at is counted before v =
    counted v
    ∙ ap₂ (λ n w. n + (if w == v then 1 else 0)) (before v) is
    ∙ suc_if (vat_of s == v) (count_steps (λ t. vat_of t == v) (reverse (take i run)))
    ∙ sym (ap (count_steps (λ t. vat_of t == v)) (past_more run i s lt at))
