-- At which vat a call is, and what it asks for there (rpc.capnp, the comments of Call).
use Rattle.std.specs.Prelude.{ℕ, [], Option, Some, None, if◌then◌else◌, ◌∷◌, ◌&&◌, ◌==◌}
use Rattle.run_model.specs.Steps.{PastSteps, call, is_same_call}
use Rattle.run_model.specs.Types.{Name, Cap, Boot, Call, Return, Late, Failed, Taken, Elsewhere, Resolve, Broken, Plain, Step, Host, Vow, Fulfil, Break, Make, Named, Deliver, Answer, AnswerBy, Fault, Send, Receive}

-- where a call is to go, and which method of which interface it calls
pub record Asked : Type 0 where
  pub goal : Cap
  pub interface : ℕ
  pub method : ℕ

-- this is asked for, by its parts
abbrev pub asked_by_parts : Cap → ℕ → ℕ → Asked
asked_by_parts goal interface method = record { goal = goal; interface = interface; method = method }

-- what a step does to where a call is: it brings the call to a vat, where it asks for this; it takes it away from there; or
-- it leaves it where it is
pub data Move : Type 0 where
  brings_it : Asked → Move
  takes_it_away : Move
  leaves_it : Move

-- a Make brings a call to a vat, its goal the cap that it is made through; so does a received Call, its goal the target. A
-- call is taken away where it is sent on, delivered or faulted
abbrev pub move_of : Name → ℕ → Step → Move
move_of c v (Make w number cap reference interface method) =
    if (w == v) && is_same_call (call w number) c then brings_it (asked_by_parts cap interface method) else leaves_it
move_of c v (Receive w connection (Call d target interface method caps) bound) =
    if (w == v) && is_same_call d c then brings_it (asked_by_parts target interface method) else leaves_it
move_of c v (Send w connection (Call d target interface method caps)) = if (w == v) && is_same_call d c then takes_it_away else leaves_it
move_of c v (Deliver w d object) = if (w == v) && is_same_call d c then takes_it_away else leaves_it
move_of c v (Fault w d) = if (w == v) && is_same_call d c then takes_it_away else leaves_it
move_of c v (Receive w connection (Boot d) bound) = leaves_it
move_of c v (Receive w connection (Return d results caps) bound) = leaves_it
move_of c v (Receive w connection (Late d) bound) = leaves_it
move_of c v (Receive w connection (Failed d) bound) = leaves_it
move_of c v (Receive w connection (Taken d by) bound) = leaves_it
move_of c v (Receive w connection (Elsewhere d) bound) = leaves_it
move_of c v (Receive w connection (Resolve promise cap) bound) = leaves_it
move_of c v (Receive w connection (Broken promise) bound) = leaves_it
move_of c v (Receive w connection (Plain plain) bound) = leaves_it
move_of c v (Send w connection (Boot d)) = leaves_it
move_of c v (Send w connection (Return d results caps)) = leaves_it
move_of c v (Send w connection (Late d)) = leaves_it
move_of c v (Send w connection (Failed d)) = leaves_it
move_of c v (Send w connection (Taken d by)) = leaves_it
move_of c v (Send w connection (Elsewhere d)) = leaves_it
move_of c v (Send w connection (Resolve promise cap)) = leaves_it
move_of c v (Send w connection (Broken promise)) = leaves_it
move_of c v (Send w connection (Plain plain)) = leaves_it
move_of c v (Host w object) = leaves_it
move_of c v (Vow w promise) = leaves_it
move_of c v (Fulfil w promise to) = leaves_it
move_of c v (Break w promise) = leaves_it
move_of c v (Named w cap) = leaves_it
move_of c v (Answer w d results) = leaves_it
move_of c v (AnswerBy w d by) = leaves_it

-- what a call asks for at a vat after this, by what it asked for there before; none where the call isn't there
abbrev pub asked_after : Move → Option Asked → Option Asked
asked_after (brings_it asked) before = Some asked
asked_after takes_it_away before = None
asked_after leaves_it before = before

-- what a call at a vat asks for; none where the call isn't there
abbrev pub at_vat : PastSteps → Name → ℕ → Option Asked
at_vat [] c v = None
at_vat (s ∷ before) c v = asked_after (move_of c v s) (at_vat before c v)
