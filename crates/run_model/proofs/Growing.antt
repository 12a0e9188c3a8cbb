-- What only grows as a run goes on.
use Rattle.std.proofs.Common.{◌≡◌, ◌∙◌, inr, ℕ, List, [], ◌∷◌, ◌++◌, Bool, true}
use Rattle.std.specs.List.{list_any}
use Rattle.std.proofs.lemmas.Bool.{or_right, false≢true}
use Rattle.std.proofs.lemmas.List.Folds.{list_any-append}
use Rattle.run_model.specs.Types.{Cap, Object, FieldOf, Step}
use Rattle.run_model.specs.Has.{Has}
use Rattle.run_model.specs.Leads.{Leads, LeadsByTurns, Turns, here, turn}
use Rattle.run_model.specs.Legal.{passes_back, is_passed_field}
use Rattle.run_model.specs.Steps.{OneOf, PastSteps}

one_of_grows : {A : Type 0} (P : A → Type 0) (front xs : List A) → OneOf P xs → OneOf P (front ++ xs)
one_of_grows P [] xs h = h
one_of_grows P (x ∷ front) xs h = inr (one_of_grows P front xs h)

pub turns_grow : (later before : PastSteps) (a b : Cap) → Turns before a b → Turns (later ++ before) a b
turns_grow later before a b h = one_of_grows _ later before h

pub has_grows : (later before : PastSteps) (v : ℕ) (a : Cap) → Has before v a → Has (later ++ before) v a
has_grows later before v a h = one_of_grows _ later before h

-- a step that passes a test stays
pub passes_later : (test : Step → Bool) (later earlier : PastSteps) → list_any test earlier ≡ true → list_any test (later ++ earlier) ≡ true
passes_later test later earlier e = list_any-append test later earlier ∙ or_right (list_any test later) (list_any test earlier) e

-- a call that was passed back stays so
pub passed_later : (later earlier : PastSteps) (a : Cap) → is_passed_field a earlier ≡ true → is_passed_field a (later ++ earlier) ≡ true
passed_later later earlier (FieldOf c path) e = passes_later (passes_back c) later earlier e
passed_later later earlier (Object v o) e = absurd (false≢true e)
passed_later later earlier _ e = absurd (false≢true e)

pub leads_grow : (later before : PastSteps) (a b : Cap) → Leads before a b → Leads (later ++ before) a b
leads_grow later before a b here = here
leads_grow later before a c (turn {b = b} t l) = turn (turns_grow later before a b t) (leads_grow later before b c l)

pub leads_by_turns_grow : (later before : PastSteps) (a b : Cap) → LeadsByTurns before a b → LeadsByTurns (later ++ before) a b
leads_by_turns_grow later before a b l = (l.0, turns_grow later before a l.0 l.1, leads_grow later before l.0 b l.2)

pub leads_through : (before : PastSteps) (a b c : Cap) → Leads before a b → Leads before b c → Leads before a c
leads_through before a b c here l = l
leads_through before a b c (turn {b = m} t rest) l = turn t (leads_through before m b c rest l)

pub by_turns_first : (before : PastSteps) (a b c : Cap) → LeadsByTurns before a b → Leads before b c → LeadsByTurns before a c
by_turns_first before a b c l rest = (l.0, l.1, leads_through before l.0 b c l.2 rest)

pub by_turns_then : (before : PastSteps) (a b c : Cap) → Leads before a b → LeadsByTurns before b c → LeadsByTurns before a c
by_turns_then before a b c here l = l
by_turns_then before a b c (turn {b = m} t rest) l = (m, t, leads_through before m b c rest (turn l.1 l.2))
