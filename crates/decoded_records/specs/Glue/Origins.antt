-- For the code's contracts, and no part of the meaning: what descriptors introduce, with where their lives begin.
use Rattle.std.specs.Prelude.{ℕ, ◌+◌, List, [], ◌∷◌, Bool, true, false, Option, Some, if◌then◌else◌, option_map, slice_get}
use Rattle.std.specs.List.{cons_option}
use Rattle.decoded_records.specs.declared.origin.Origin.{Origin}
use Rattle.decoded_records.specs.Types.{Descriptor, NoCap, DecodedRecord, TableKey}
use Rattle.decoded_records.specs.Views.{references}
use Rattle.decoded_records.specs.Lives.{number_introduced, is_promised}

-- whether a descriptor isn't none
abbrev pub is_cap : Descriptor → Bool
is_cap NoCap = false
is_cap _ = true

-- what a descriptor at a place introduces, with its origin, where so many references were noted before it
abbrev pub origin_by : ℕ → DecodedRecord → ℕ → ℕ → Descriptor → Option (TableKey × Origin)
origin_by number e place before d =
    option_map (λ i. (i, record { number = number; place = place; promised = is_promised (Some d); reference = slice_get (references e) before })) (number_introduced e d)

-- what descriptors introduce, from a place on
abbrev pub origins_from : ℕ → DecodedRecord → ℕ → ℕ → List Descriptor → List (TableKey × Origin)
origins_from number e place before [] = []
origins_from number e place before (d ∷ ds) =
    cons_option (origin_by number e place before d) (origins_from number e (place + 1) (before + (if is_cap d then 1 else 0)) ds)
