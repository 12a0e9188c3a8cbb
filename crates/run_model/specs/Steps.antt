-- The steps of a run before a point, and how to look back over them.
use Rattle.std.specs.Prelude.{ℕ, suc, List, [], Bool, Option, None, ⊤, if◌then◌else◌, reverse, filter, ◌⊎◌, ◌∷◌, ◌&&◌, ◌==◌}
use Rattle.std.specs.Option.{option_or}
use Rattle.run_model.specs.Types.{Name, Step, Host, Vow, Fulfil, Break, Make, Named, Deliver, Answer, AnswerBy, Fault, Send, Receive}

-- the steps before a point, the newest first
abbrev pub PastSteps : Type 0
PastSteps = List Step

-- a call, by the vat that made it and that vat's number of it
abbrev pub call : ℕ → ℕ → Name
call maker number = record { maker = maker; number = number }

-- two names are of one call
abbrev pub is_same_call : Name → Name → Bool
is_same_call c d = (c.maker == d.maker) && (c.number == d.number)

-- whose step it is
abbrev pub vat_of : Step → ℕ
vat_of (Host v object) = v
vat_of (Vow v promise) = v
vat_of (Fulfil v promise to) = v
vat_of (Break v promise) = v
vat_of (Make v number cap reference interface method) = v
vat_of (Named v cap) = v
vat_of (Deliver v c object) = v
vat_of (Answer v c results) = v
vat_of (AnswerBy v c by) = v
vat_of (Fault v c) = v
vat_of (Send v connection message) = v
vat_of (Receive v connection message bound) = v

-- the steps of a vat, in their order
abbrev pub steps_of : ℕ → List Step → List Step
steps_of v steps = filter (λ s. vat_of s == v) steps

-- one of these is so
abbrev pub OneOf : {A : Type 0} → (A → Type 0) → List A → Type 0
OneOf P [] = ⊥
OneOf P (x ∷ xs) = P x ⊎ OneOf P xs

-- each step is so, by the steps before it
abbrev pub EachStep : (PastSteps → Step → Type 0) → PastSteps → Type 0
EachStep P [] = ⊤
EachStep P (s ∷ before) = P before s × EachStep P before

-- each step of a run is so; a run has its steps in their order
abbrev pub EachOf : (PastSteps → Step → Type 0) → List Step → Type 0
EachOf P run = EachStep P (reverse run)

-- the last answer that a step gives
abbrev pub last_step_answer : {A : Type 0} → (Step → Option A) → PastSteps → Option A
last_step_answer ask [] = None
last_step_answer ask (s ∷ before) = option_or (ask s) (last_step_answer ask before)

-- how many steps pass a test
abbrev pub count_steps : (Step → Bool) → PastSteps → ℕ
count_steps test [] = 0
count_steps test (s ∷ before) = if test s then suc (count_steps test before) else count_steps test before
