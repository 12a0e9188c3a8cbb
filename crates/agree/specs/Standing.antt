-- What a number stands for at its two ends.
use Rattle.std.specs.Prelude.{◌≡◌, ℕ, ◌∷◌, true, false, Some}
use Rattle.agree.specs.Types.{RpcMessage, DecodedRecord, View}
use Rattle.decoded_records.specs.Past.{Past, id}
use Rattle.decoded_records.specs.Lives.{Birth, birth}
use Rattle.decoded_records.specs.Views.{view_of_number, view_of_descriptor}
use Rattle.agree.specs.Points.{GoesOn}
use Rattle.agree.specs.Streams.{IsCut, IsPassed}
use Rattle.agree.specs.Agreeing.{AgreeOnOpenings, AgreeOnLate}
use Rattle.agree.specs.Lasting.{LivesFrom}

-- the exporter sent what began a life at the importer; since then the number is in life at the exporter, and it stands
-- there for what that descriptor stood for when it was sent
pub record StandsSince (k n : ℕ) (exporter importer : Past) (began : Birth) : Type 0 where
  pub message : RpcMessage
  pub from : Past
  pub sent : DecodedRecord
  pub passed : IsPassed k message exporter importer from began.from.before sent began.from.event
  pub lives : LivesFrom (id k true n) (sent ∷ from) exporter
  pub view : View
  pub was : view_of_descriptor from sent began.place ≡ Some view
  pub stands : view_of_number (id k true n) exporter ≡ Some view

-- so, if the number is in life at the importer
abbrev pub StandsAlike : ℕ → ℕ → Past → Past → Type 0
StandsAlike k n exporter importer = (began : Birth) → birth (id k false n) importer ≡ Some began → StandsSince k n exporter importer began

-- so of each number, at each consistent cut of two logs
abbrev pub AgreeOnLives : ℕ → Past → Past → Type 0
AgreeOnLives k one other = (n : ℕ) (exporter importer : Past) → GoesOn one exporter → GoesOn other importer → IsCut k exporter importer → StandsAlike k n exporter importer

-- what two logs agree on of what one sends the other: which openings its Returns belong to, which of them are late, and
-- what the numbers that it gives out stand for
pub record AgreeOneWay (k : ℕ) (one other : Past) : Type 0 where
  pub openings : AgreeOnOpenings k one other
  pub late : AgreeOnLate k one other
  pub lives : AgreeOnLives k one other

-- so both ways
pub record Agree (k : ℕ) (one other : Past) : Type 0 where
  pub there : AgreeOneWay k one other
  pub back : AgreeOneWay k other one
