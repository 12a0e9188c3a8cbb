-- Which caps a vat has: what it made itself, and what a message brought it (rpc.capnp, the comments of CapDescriptor and
-- PromisedAnswer): only connectivity begets connectivity
use Rattle.std.specs.Prelude.{ℕ, List, Bool, false, Option, Some, None, IsSomeAnd, ◌≡◌, ◌⊎◌, ◌&&◌, ◌==◌}
use Rattle.run_model.specs.Steps.{PastSteps, call, is_same_call, OneOf}
use Rattle.run_model.specs.Types.{Name, Cap, Object, Promise, FieldOf, Message, Boot, Call, Step, Host, Vow, Make, Send, Receive}

-- the call that a Bootstrap or a Call is
abbrev pub call_in_message : Message → Option Name
call_in_message (Boot c) = Some c
call_in_message (Call c target interface method caps) = Some c
call_in_message _ = None

-- a cap is a field of this call, at any path
abbrev pub IsField : Cap → Name → Type 0
IsField a c = (path : List ℕ) × (a ≡ FieldOf c path)

-- a step brings a cap to a vat with a message: the vat binds it, or the message is a call and the cap is a field of it
abbrev pub Brings : ℕ → Cap → Step → Type 0
Brings v a (Receive w connection m bound) = (w ≡ v) × (OneOf (λ b. b ≡ a) bound ⊎ IsSomeAnd (call_in_message m) (IsField a))
Brings v a _ = ⊥

-- a vat gets a cap by a step: its own object or promise; a field of a call that it made or booted; what a message brought
abbrev pub Gets : ℕ → Cap → Step → Type 0
Gets v a (Host w object) = (w ≡ v) × (a ≡ Object v object)
Gets v a (Vow w promise) = (w ≡ v) × (a ≡ Promise v promise)
Gets v a (Make w number cap reference interface method) = (w ≡ v) × IsField a (call v number)
Gets v a (Send w connection (Boot c)) = (w ≡ v) × IsField a c
Gets v a (Receive w connection m bound) = Brings v a (Receive w connection m bound)
Gets v a _ = ⊥

-- a vat has a cap by one of the steps before
abbrev pub Has : PastSteps → ℕ → Cap → Type 0
Has before v a = OneOf (Gets v a) before

-- a call comes to a vat by a step: the vat makes it, sends its Bootstrap, or receives its Bootstrap or its Call
abbrev pub comes_to : ℕ → Name → Step → Bool
comes_to v c (Make w number cap reference interface method) = (w == v) && is_same_call (call w number) c
comes_to v c (Send w connection (Boot d)) = (w == v) && is_same_call d c
comes_to v c (Receive w connection (Boot d) bound) = (w == v) && is_same_call d c
comes_to v c (Receive w connection (Call d target interface method caps) bound) = (w == v) && is_same_call d c
comes_to v c _ = false
