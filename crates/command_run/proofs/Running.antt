-- The lines of the steps of a run, one by one.
use Rattle.std.proofs.Common.{◌≡◌, ◌∙◌, ℕ, zero, suc, ◌+◌, ◌<◌, List, [], ◌∷◌, ◌++◌, length, reverse, take, get_or, Option, refl, sym, ap, ap₂, subst, arith, append_assoc, append-nil}
use Rattle.std.specs.Io.KnownBytes.{Appends}
use Rattle.std.proofs.KnownBytes.{Appends-trans}
use Rattle.std.proofs.lemmas.List.{length-reverse, length-take-le, take_more}
use mathlib.Core.List.{reverse_aux}
use Rattle.run_model.specs.Steps.{PastSteps}
use Rattle.run_model.specs.declared.step.Step.{Step}
use Rattle.authority.specs.Records.{record_of_step, records_from, record_numbers_of}
use Rattle.report_lines.specs.Lines.{line}
use Rattle.report_lines.specs.StepText.{step_text}
use Rattle.command_run.specs.ReportAnswers.{step_line, step_lines, step_lines_from}

records_long : (before : PastSteps) (steps : List Step) → length (records_from before steps) ≡ length steps
records_long before [] = refl
records_long before (s ∷ steps) = let ih = records_long (s ∷ before) steps in omega (arith, ih)

-- there are as many numbers as steps
pub within : (run : List Step) (numbers : List ℕ) (i : ℕ) → numbers ≡ record_numbers_of run → i < length run → i < length numbers
within run numbers i is lt = let long : length numbers ≡ length run = ap length is ∙ records_long [] run in omega (arith, long, lt)

record_at : (before : PastSteps) (steps : List Step) (i : ℕ) (d : Step) → i < length steps
    → get_or (records_from before steps) i 0 ≡ record_of_step (reverse_aux (take i steps) before) (get_or steps i d)
record_at before [] i d lt = absurd (omega (arith, lt))
record_at before (s ∷ steps) zero d lt = refl
record_at before (s ∷ steps) (suc i) d lt = record_at (s ∷ before) steps i d (omega (arith, lt))

lines_more : (before : PastSteps) (steps : List Step) (s : Step) → step_lines_from before (steps ++ s ∷ []) ≡ step_lines_from before steps ++ step_line (reverse_aux steps before) s
lines_more before [] s = append-nil (step_line before s)
lines_more before (t ∷ steps) s =
    ap (λ l. step_line before t ++ l) (lines_more (t ∷ before) steps s)
    ∙ sym (append_assoc (step_line before t) (step_lines_from (t ∷ before) steps) (step_line (reverse_aux steps (t ∷ before)) s))

-- one more
pub one_stepped : (run : List Step) (numbers : List ℕ) (i number : ℕ) (s : Step) (old now new : Option (List ℕ)) → numbers ≡ record_numbers_of run → i < length run
    → s ≡ get_or run i s → number ≡ get_or numbers i 0 → Appends old now (step_lines (take i run)) → Appends now new (line (step_text i number s))
    → Appends old new (step_lines (take (i + 1) run))
one_stepped run numbers i number s old now new all lt at read so_far wrote =
    let past = reverse (take i run) in
    let here : number ≡ record_of_step past s = read ∙ ap (λ l. get_or l i 0) all ∙ record_at [] run i s lt ∙ ap (record_of_step past) (sym at) in
    let long : i ≡ length past = sym (length-reverse (take i run) ∙ length-take-le i run (omega (arith, lt))) in
    let this : line (step_text i number s) ≡ step_line past s = ap₂ (λ k n. line (step_text k n s)) long here in
    let lines : step_lines (take i run) ++ line (step_text i number s) ≡ step_lines (take (i + 1) run) =
    ap (λ l. step_lines (take i run) ++ l) this ∙ sym (lines_more [] (take i run) s)
    ∙ ap step_lines (sym (take_more run i s lt ∙ ap (λ x. take i run ++ x ∷ []) (sym at))) in
    subst (λ t. Appends old new t) lines (Appends-trans old now new (step_lines (take i run)) (line (step_text i number s)) so_far wrote)
