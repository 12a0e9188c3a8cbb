-- Which record of its vat each step is.
use Rattle.std.specs.Prelude.{ℕ, ◌==◌, List, [], ◌∷◌}
use Rattle.run_model.specs.Steps.{PastSteps, count_steps, vat_of}
use Rattle.run_model.specs.declared.step.Step.{Step}

-- the number of a step's record, counted from 0: how many steps of its vat came before
abbrev pub record_of_step : PastSteps → Step → ℕ
record_of_step before s = count_steps (λ t. vat_of t == vat_of s) before

-- the numbers of the records of steps that follow one another
abbrev pub records_from : PastSteps → List Step → List ℕ
records_from before [] = []
records_from before (s ∷ steps) = record_of_step before s ∷ records_from (s ∷ before) steps

-- those of a run
abbrev pub record_numbers_of : List Step → List ℕ
record_numbers_of run = records_from [] run
