-- What two ends of a connection told one another: messages, each with the opening of its question that it belongs to.
use Rattle.std.specs.Prelude.{ℕ, List, [], ◌∷◌, Bool, true, false, not, Option, None, option_map}
use Rattle.std.specs.List.{cons_option}
use Rattle.agree.specs.Types.{RpcMessage, Return, Finish}
use Rattle.decoded_records.specs.Past.{Past, id}
use Rattle.agree.specs.Points.{GoesOn}
use Rattle.agree.specs.Streams.{passing, opening_number}

-- a message, and the number of the message that opened the question of which it speaks
abbrev pub Telling : Type 0
Telling = RpcMessage × Option ℕ

-- which opening a message speaks of: a Return that of a question of its receiver's, a Finish of one of its sender's
abbrev pub speaks_of : ℕ → Bool → Past → RpcMessage → Option ℕ
speaks_of k s before (Return head outcome) = opening_number (id k (not s) head.answer) before
speaks_of k s before (Finish q release) = opening_number (id k s q) before
speaks_of k s before _ = None

-- a message with the opening that it speaks of
abbrev pub telling : ℕ → Bool → Past → RpcMessage → Telling
telling k s before m = (m, speaks_of k s before m)

-- the messages that a vat sent on the connection, or those that it received, so told
abbrev pub tellings : ℕ → Bool → Past → List Telling
tellings k s [] = []
tellings k s (e ∷ before) = cons_option (option_map (telling k s before) (passing k s e)) (tellings k s before)

-- a consistent cut of two logs whose ends speak of the same openings
pub record AreTold (k : ℕ) (one other : Past) : Type 0 where
  pub to_one : GoesOn (tellings k true other) (tellings k false one)
  pub to_other : GoesOn (tellings k true one) (tellings k false other)
