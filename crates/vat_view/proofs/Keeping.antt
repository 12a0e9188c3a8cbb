-- A record for the tables.
use Rattle.std.proofs.Common.{◌≡◌, ℕ, ◌+◌, ◌∷◌, length, arith}
use Rattle.vat_view.specs.Types.{DecodedRecord}
use Rattle.decoded_records.specs.Past.{Past}
use Rattle.vat_view.specs.Sound.{IsSound}
use Rattle.vat_view.specs.Glue.Tables.{IsFit}

-- a record that is as it should be is so for the tables
pub fits : (before : Past) (e : DecodedRecord) → IsSound before e → IsFit before e
fits before e sound = record { refers = sound.refers; uses = sound.uses_questions; gives = sound.gives_back_held; notes = sound.notes_each }

-- with it there is one more
pub one_more : (before : Past) (number : ℕ) (e : DecodedRecord) → number ≡ length before → number + 1 ≡ length (e ∷ before)
one_more before number e place = omega (arith, place)
