-- What passed on a connection, by the log of one end, and how the logs of its two ends lie beside one another. Logs
-- and streams have the newest first.
use Rattle.std.specs.Prelude.{◌≡◌, ℕ, ◌==◌, List, ◌∷◌, length, Bool, true, false, ◌&&◌, Option, Some, None, if◌then◌else◌, option_map}
use Rattle.std.specs.List.{filter_map}
use Rattle.std.specs.Bool.{beq}
use Rattle.agree.specs.Types.{RpcMessage, DecodedRecord, Wire, TableKey}
use Rattle.decoded_records.specs.Past.{Past}
use Rattle.decoded_records.specs.Questions.{opening}
use Rattle.agree.specs.Points.{GoesOn}

-- the message of a record that passed on the connection: sent, or received
abbrev pub passing : ℕ → Bool → DecodedRecord → Option RpcMessage
passing k sent (Wire s j call references m) = if (k == j) && beq sent s then Some m else None
passing k sent _ = None

-- the messages that a vat sent on the connection, or those that it received; a message's number, from 0, is how many
-- came before it
abbrev pub stream : ℕ → Bool → Past → List RpcMessage
stream k sent past = filter_map (passing k sent) past

-- a consistent cut of two logs: what either received by then, the other had sent by then
pub record IsCut (k : ℕ) (one other : Past) : Type 0 where
  pub to_one : GoesOn (stream k true other) (stream k false one)
  pub to_other : GoesOn (stream k true one) (stream k false other)

-- one log sent a message on the connection that the other received: the two records, and the points before them
pub record IsPassed (k : ℕ) (m : RpcMessage) (one other from to : Past) (sent received : DecodedRecord) : Type 0 where
  pub sent_there : GoesOn one (sent ∷ from)
  pub received_there : GoesOn other (received ∷ to)
  pub sends : passing k true sent ≡ Some m
  pub receives : passing k false received ≡ Some m
  pub same_number : length (stream k true from) ≡ length (stream k false to)

-- the number of the message that opened a question last, of those that went the way of the one who asks
abbrev pub opening_number : TableKey → Past → Option ℕ
opening_number q past = option_map (λ p. length (stream q.connection q.ours p.before)) (opening q past)
