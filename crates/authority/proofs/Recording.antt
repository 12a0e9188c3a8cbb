-- The record of one more step.
use Rattle.std.proofs.Common.{◌≡◌, ◌∙◌, ℕ, ◌+◌, ◌<◌, List, [], ◌∷◌, ◌++◌, length, reverse, take, get_or, refl, sym, ap, Some}
use Rattle.std.proofs.lemmas.List.{take_more}
use Rattle.std.proofs.lemmas.Option.{slice_get-get_or}
use Rattle.run_model.specs.Steps.{PastSteps, vat_of}
use Rattle.run_model.specs.StepNumbers.{step_count}
use Rattle.run_model.specs.declared.step.Step.{Step}
use Rattle.run_model.proofs.Numbers.{IsNumbered}
use Rattle.authority.specs.Records.{record_of_step, records_from, record_numbers_of}
use Rattle.authority.proofs.Stepping.{number_is}
use mathlib.Core.List.{reverse_aux}

from_more : (before : PastSteps) (steps : List Step) (s : Step) → records_from before (steps ++ s ∷ []) ≡ records_from before steps ++ record_of_step (reverse_aux steps before) s ∷ []
from_more before [] s = refl
from_more before (t ∷ steps) s = ap (λ l. record_of_step before t ∷ l) (from_more (t ∷ before) steps s)

-- one more
pub recorded_more : (run : List Step) (i number vat : ℕ) (s : Step) (table : List (ℕ × ℕ)) (numbers : List ℕ) → i < length run → s ≡ get_or run i s → vat ≡ vat_of s → IsNumbered run i table
    → number ≡ step_count table vat → numbers ≡ record_numbers_of (take i run) → numbers ++ number ∷ [] ≡ record_numbers_of (take (i + 1) run)
recorded_more run i number vat s table numbers lt at is table_is number_is_in so_far =
    let it : number ≡ record_of_step (reverse (take i run)) s = number_is run i number vat s table lt at is table_is number_is_in s (slice_get-get_or run i s lt ∙ ap Some (sym at)) in
    ap (λ l. l ++ number ∷ []) so_far ∙ ap (λ n. record_numbers_of (take i run) ++ n ∷ []) it ∙ sym (from_more [] (take i run) s)
    ∙ ap record_numbers_of (sym (take_more run i s lt ∙ ap (λ x. take i run ++ x ∷ []) (sym at)))
