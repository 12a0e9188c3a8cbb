-- Lives that last from one point of a log to another.
use Rattle.std.specs.Prelude.{◌≡◌, true}
use Rattle.agree.specs.Types.{TableKey}
use Rattle.decoded_records.specs.Past.{Past}
use Rattle.decoded_records.specs.Lives.{is_in_life}
use Rattle.agree.specs.Points.{GoesOn}

-- a number is in life at each point of a log since this one
abbrev pub LivesFrom : TableKey → Past → Past → Type 0
LivesFrom i since whole = (point : Past) → GoesOn whole point → GoesOn point since → is_in_life i point ≡ true
