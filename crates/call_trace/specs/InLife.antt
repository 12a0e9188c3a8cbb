-- Lives: at its own end each number is used in its life (rpc.capnp, the comments of ExportId, QuestionId, Resolve and
-- Disembargo). A received Resolve alone may name a promise that was released.
use Rattle.std.specs.Prelude.{true, ⊤, IsTrue, IsSome, IsSomeAnd, IfSome}
use Rattle.call_trace.specs.Types.{Resolve, DecodedRecord, Wire}
use Rattle.decoded_records.specs.Lives.{birth, began_promised}
use Rattle.decoded_records.specs.Loopbacks.{receiver_loopback, loopback_of}
use Rattle.decoded_records.specs.Past.{Past, id}
use Rattle.decoded_records.specs.Uses.{UsesNumbers, UsesQuestions, OpensFree}

-- a Resolve that is sent names a promise in life
abbrev pub ResolvesLiving : Past → DecodedRecord → Type 0
ResolvesLiving before (Wire true k c references (Resolve n resolution)) = IsSomeAnd (birth (id k true n) before) (λ b. IsTrue (began_promised b))
ResolvesLiving before _ = ⊤

-- a loopback that is echoed waits for its echo
abbrev pub EchoesWaiting : Past → DecodedRecord → Type 0
EchoesWaiting before e = IfSome (receiver_loopback e) (λ i. IsSome (loopback_of i before))

-- a record uses numbers in their lives. Targets, receiverHosted and Release name numbers in life; targets and
-- receiverAnswer name questions without a Finish. A Finish and a Return end an opening that had none of that kind. A
-- question is opened under a free number. A Resolve that is sent, and an echo, are as above
pub record UsesLives (before : Past) (e : DecodedRecord) : Type 0 where
  pub numbers : UsesNumbers before e
  pub questions : UsesQuestions before e
  pub openings : OpensFree before e
  pub resolves : ResolvesLiving before e
  pub echoes : EchoesWaiting before e
