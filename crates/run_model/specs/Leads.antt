-- Where capabilities lead in a run (rpc.capnp, the comments of PromisedAnswer, Payload, Resolve and
-- Return.takeFromOtherQuestion).
use Rattle.std.specs.Prelude.{ℕ, List, ◌≡◌}
use Rattle.run_model.specs.Steps.{PastSteps, OneOf}
use Rattle.run_model.specs.Types.{Cap, Promise, FieldOf, Step, Fulfil, Answer, AnswerBy}

-- a step turns a cap to another: a Fulfil turns its promise to what it turned out to be; an Answer turns each field that
-- it names to the cap at its path; an AnswerBy turns each field of its call to the field of the other call at the same path
abbrev pub MakesTurn : Cap → Cap → Step → Type 0
MakesTurn a b (Fulfil v p to) = (a ≡ Promise v p) × (b ≡ to)
MakesTurn a b (Answer v c results) = OneOf (λ result. (a ≡ FieldOf c result.0) × (b ≡ result.1)) results
MakesTurn a b (AnswerBy v c by) = (path : List ℕ) × (a ≡ FieldOf c path) × (b ≡ FieldOf by path)
MakesTurn a b _ = ⊥

-- a cap turns to another by one of the steps before
abbrev pub Turns : PastSteps → Cap → Cap → Type 0
Turns before a b = OneOf (MakesTurn a b) before

-- a cap leads to another: by no turn, or by a turn to a cap that leads there
pub data Leads (before : PastSteps) : Cap → Cap → Type 0 where
  here : {a : Cap} → Leads before a a
  turn : {a b c : Cap} → Turns before a b → Leads before b c → Leads before a c

-- two caps are one: both lead, by 0 or more turns, to a common cap
abbrev pub Meets : PastSteps → Cap → Cap → Type 0
Meets before a b = (c : Cap) × Leads before a c × Leads before b c

-- a cap leads to another by 1 or more turns: it turns to a cap that leads there
abbrev pub LeadsByTurns : PastSteps → Cap → Cap → Type 0
LeadsByTurns before a c = (b : Cap) × Turns before a b × Leads before b c
