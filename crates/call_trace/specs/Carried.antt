-- What two logs with their steps say of one message, and of one number.
use Rattle.std.specs.Prelude.{◌≡◌, ℕ, List, length, true, false, Option, Some, option_and_then}
use Rattle.agree.specs.Streams.{IsPassed}
use Rattle.call_trace.specs.Types.{RpcMessage, DecodedRecord, Cap, Step}
use Rattle.call_trace.specs.Naming.{cap_named, message_at}
use Rattle.decoded_records.specs.Past.{Past, id}
use Rattle.decoded_records.specs.Views.{view_of_number}
use Rattle.decoded_records.specs.declared.table_key.TableKey.{TableKey}

-- each message that one vat sent the other is received in the run as it was sent
abbrev pub IsCarried : ℕ → Past → List Step → Past → List Step → Type 0
IsCarried k one its_steps other other_steps = (m : RpcMessage) (from to : Past) (sent received : DecodedRecord) → IsPassed k m one other from to sent received →
    message_at (length to) other_steps ≡ message_at (length from) its_steps

-- the name of what a number stands for
abbrev pub number_named : ℕ → TableKey → Past → List Step → Option Cap
number_named v i es steps = option_and_then (cap_named v es steps) (view_of_number i es)

-- a number stands for one cap at its exporter and at its importer
abbrev pub HasOneName : ℕ → ℕ → ℕ → Past → List Step → ℕ → Past → List Step → Type 0
HasOneName k n v exporter its_steps w importer importer_steps =
    (c : Cap) × (number_named v (id k true n) exporter its_steps ≡ Some c) × (number_named w (id k false n) importer importer_steps ≡ Some c)
