-- When a step sends only what is led to. To be legal what it sends need only be one with a call's goal, a result or a promise;
-- in the run of logs of versions 1 and 2 it is led to as well.
use Rattle.std.specs.Prelude.{ℕ, ⊤, IsTrue, IsSomeAnd}
use Rattle.std.specs.List.{list_any, AllByRecursion}
use Rattle.run_model.specs.Leads.{Leads, LeadsByTurns}
use Rattle.run_model.specs.Legal.{hands}
use Rattle.run_model.specs.Places.{at_vat}
use Rattle.run_model.specs.Steps.{PastSteps}
use Rattle.run_model.specs.Types.{FieldOf, Message, Boot, Call, Return, Late, Failed, Taken, Elsewhere, Resolve, Broken, Plain, Step, Host, Vow, Fulfil, Break, Make, Named, Deliver, Answer, AnswerBy, Fault, Send, Receive}

-- what a vat sends in a message is led to
abbrev pub IsLedTo : PastSteps → ℕ → Message → Type 0
-- a Call: its goal at the vat leads to the target
IsLedTo before v (Call c target interface method caps) = IsSomeAnd (at_vat before c v) (λ asked. Leads before asked.goal target)
-- a Return with results: the call's field leads by 1 or more turns to the cap given at each path
IsLedTo before v (Return c results caps) = AllByRecursion (λ result. LeadsByTurns before (FieldOf c result.0) result.1) results
-- a Resolve: the promise leads by 1 or more turns to the cap
IsLedTo before v (Resolve promise cap) = LeadsByTurns before promise cap
-- a Return that takes the results of a call: the one that it returns was answered by that one
IsLedTo before v (Taken c by) = IsTrue (list_any (hands c by) before)
-- nothing is asked of the others
IsLedTo before v (Boot c) = ⊤
IsLedTo before v (Late c) = ⊤
IsLedTo before v (Failed c) = ⊤
IsLedTo before v (Elsewhere c) = ⊤
IsLedTo before v (Broken promise) = ⊤
IsLedTo before v (Plain plain) = ⊤

-- a step that sends a message sends what is led to; nothing is asked of the others
abbrev pub SendsLedTo : PastSteps → Step → Type 0
SendsLedTo before (Send v connection m) = IsLedTo before v m
SendsLedTo before (Receive v connection m bound) = ⊤
SendsLedTo before (Host v object) = ⊤
SendsLedTo before (Vow v promise) = ⊤
SendsLedTo before (Fulfil v promise to) = ⊤
SendsLedTo before (Break v promise) = ⊤
SendsLedTo before (Make v number cap reference interface method) = ⊤
SendsLedTo before (Named v cap) = ⊤
SendsLedTo before (Deliver v c object) = ⊤
SendsLedTo before (Answer v c results) = ⊤
SendsLedTo before (AnswerBy v c by) = ⊤
SendsLedTo before (Fault v c) = ⊤
