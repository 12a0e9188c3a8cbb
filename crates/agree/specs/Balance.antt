-- What the two ends of a connection hold of a number, and what is under way between them.
use Rattle.std.specs.Prelude.{◌≡◌, ℕ, ◌+◌, List, [], ◌∷◌, ◌++◌, true, false}
use Rattle.agree.specs.Types.{RpcMessage, DecodedRecord, Wire}
use Rattle.decoded_records.specs.Past.{Past, id}
use Rattle.decoded_records.specs.Lives.{introduces, gives_back, held}
use Rattle.agree.specs.Streams.{stream}

-- these messages are under way, the newest first: one vat sent them, and the other hasn't received them
abbrev pub AreUnderWay : ℕ → Past → Past → List RpcMessage → Type 0
AreUnderWay k from to ms = stream k true from ≡ ms ++ stream k false to

-- a message as it comes in
abbrev pub as_received : ℕ → RpcMessage → DecodedRecord
as_received k m = Wire false k 0 [] m

-- a log after these messages came too
abbrev pub after_coming : ℕ → List RpcMessage → Past → Past
after_coming k [] past = past
after_coming k (m ∷ earlier) past = as_received k m ∷ after_coming k earlier past

-- what is counted of messages if they come now, one after the other
abbrev pub sum_coming : (Past → DecodedRecord → ℕ) → ℕ → List RpcMessage → Past → ℕ
sum_coming count k [] past = 0
sum_coming count k (m ∷ earlier) past = count (after_coming k earlier past) (as_received k m) + sum_coming count k earlier past

-- The exporter holds what the importer holds, what comes to the importer, and what is given back on its way to the
-- exporter. So a Return under way brings nothing once its importer has sent Finish with releaseResultCaps, and such a
-- Finish gives back what its question's Return brought, if the exporter has sent that.
abbrev pub IsNumberBalanced : ℕ → ℕ → Past → Past → List RpcMessage → List RpcMessage → Type 0
IsNumberBalanced k n exporter importer there back =
    held (id k true n) exporter
    ≡ held (id k false n) importer + sum_coming (introduces (id k false n)) k there importer + sum_coming (gives_back (id k true n)) k back exporter
