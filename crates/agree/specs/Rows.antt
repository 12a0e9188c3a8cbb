-- The records of several logs in one order, the newest first.
use Rattle.std.specs.Prelude.{◌≡◌, ◌≢◌, ℕ, ◌<◌, ◌==◌, List, length, true, false, Option, Some, None, if◌then◌else◌}
use Rattle.std.specs.List.{filter_map}
use Rattle.agree.specs.Types.{RpcMessage, DecodedRecord}
use Rattle.decoded_records.specs.Past.{Past}
use Rattle.agree.specs.Points.{GoesOn, IsNth, AtEach}
use Rattle.agree.specs.Streams.{passing, stream}

-- records with the vats whose logs hold them
abbrev pub Row : Type 0
Row = List (ℕ × DecodedRecord)

-- a record of this vat
abbrev pub record_of_vat : ℕ → ℕ × DecodedRecord → Option DecodedRecord
record_of_vat v r = if r.0 == v then Some r.1 else None

-- a vat's log, as far as the row goes
abbrev pub log_of_vat : ℕ → Row → Past
log_of_vat v row = filter_map (record_of_vat v) row

-- what a vat received on a connection, as far as the row goes, and what it sent
abbrev pub received_stream : ℕ → ℕ → Row → List RpcMessage
received_stream k v row = stream k false (log_of_vat v row)

abbrev pub sent_stream : ℕ → ℕ → Row → List RpcMessage
sent_stream k v row = stream k true (log_of_vat v row)

-- what the other vats sent there
abbrev pub stream_of_others : ℕ → ℕ → Row → List RpcMessage
stream_of_others k v row = filter_map (λ r. if r.0 == v then None else passing k true r.1) row

-- a record that is received on the connection comes where the other vats sent more there than its vat received
abbrev pub FitsAt : ℕ → Row → ℕ × DecodedRecord → Type 0
FitsAt k before r = (m : RpcMessage) → passing k false r.1 ≡ Some m → length (received_stream k r.0 before) < length (stream_of_others k r.0 before)

-- no vat but these two sends on the connection
abbrev pub IsTheirs : ℕ → ℕ → ℕ → Row → ℕ × DecodedRecord → Type 0
IsTheirs k v w before r = r.0 ≢ v → r.0 ≢ w → passing k true r.1 ≡ None

-- two vats share a connection in an order that fits, and what either received is the beginning of what the other sent
pub record IsShared (k v w : ℕ) (row : Row) : Type 0 where
  pub apart : v ≢ w
  pub fits : AtEach (FitsAt k) row
  pub theirs : AtEach (IsTheirs k v w) row
  pub to_one : GoesOn (sent_stream k w row) (received_stream k v row)
  pub to_other : GoesOn (sent_stream k v row) (received_stream k w row)

-- each of the first i records of one vat is taken before record j of the other
abbrev pub AllBefore : ℕ → ℕ → ℕ → ℕ → Row → Type 0
AllBefore v i w j row = (u : ℕ) (a b : Row) (x y : ℕ × DecodedRecord) → u < i → IsNth (record_of_vat v) u row a x → IsNth (record_of_vat w) j row b y → length a < length b
