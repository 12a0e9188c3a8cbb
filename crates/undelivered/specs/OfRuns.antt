-- What a run tells of the calls of one vat.
use Rattle.std.specs.Prelude.{ℕ, [], ◌∷◌, ◌==◌, if◌then◌else◌}
use Rattle.run_model.specs.Steps.{PastSteps, vat_of, count_steps}
use Rattle.run_model.specs.declared.step.Step.{Step}
use Rattle.run_model.specs.declared.step.Step.TheVariants.{Make, Deliver}
use Rattle.undelivered.specs.Order.{PastCalls}
use Rattle.undelivered.specs.declared.moment.Moment.TheVariants.{Made, Delivered}

-- what was told of a vat's calls, with one more step: it makes a call of the vat, or delivers one, and is told by its own
-- vat and by how many steps of that vat stand before it
abbrev pub told_more : ℕ → PastSteps → Step → PastCalls → PastCalls
told_more v before (Make w number cap reference interface method) told = if w == v then Made number reference ∷ told else told
told_more v before (Deliver w c object) told = if c.maker == v then Delivered c.number (w, count_steps (λ t. vat_of t == w) before) ∷ told else told
told_more v before _ told = told

-- what the steps before a point tell of a vat's calls
abbrev pub moments_of : ℕ → PastSteps → PastCalls
moments_of v [] = []
moments_of v (s ∷ before) = told_more v before s (moments_of v before)
