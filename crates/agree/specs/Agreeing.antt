-- What the logs of two ends of a connection agree on.
use Rattle.std.specs.Prelude.{◌≡◌, ℕ, true, false}
use Rattle.agree.specs.Types.{RpcMessage, Outcome, Return, ReturnHead, DecodedRecord}
use Rattle.decoded_records.specs.Past.{Past, id}
use Rattle.decoded_records.specs.Questions.{is_late}
use Rattle.agree.specs.Streams.{IsPassed, IsCut, opening_number}

-- each message that one sent the other was sent before it was received: the points before its two records make a cut
abbrev pub IsCausal : ℕ → Past → Past → Type 0
IsCausal k one other = (m : RpcMessage) (from to : Past) (sent received : DecodedRecord) → IsPassed k m one other from to sent received → IsCut k from to

-- two logs that are linked: what either received is the beginning of what the other sent, and each message was sent
-- before it was received
pub record AreLinked (k : ℕ) (one other : Past) : Type 0 where
  pub cut : IsCut k one other
  pub there : IsCausal k one other
  pub back : IsCausal k other one

-- a Return that one sent the other belongs to one opening at both ends
abbrev pub AgreeOnOpenings : ℕ → Past → Past → Type 0
AgreeOnOpenings k one other = (head : ReturnHead) (outcome : Outcome) (from to : Past) (sent received : DecodedRecord) →
    IsPassed k (Return head outcome) one other from to sent received → opening_number (id k false head.answer) from ≡ opening_number (id k true head.answer) to

-- a message that is a Return late at its sender is late at its receiver
abbrev pub AgreeOnLate : ℕ → Past → Past → Type 0
AgreeOnLate k one other = (m : RpcMessage) (from to : Past) (sent received : DecodedRecord) → IsPassed k m one other from to sent received →
    is_late from sent ≡ true → is_late to received ≡ true
