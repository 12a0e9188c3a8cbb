-- For the contracts of private functions alone: no public clause's meaning needs this file.
use Rattle.std.specs.Prelude.{◌≡◌, ℕ, List, [], ◌∷◌, Option, Some, None, Result, Ok, Err}
use Rattle.cap_reader.specs.declared.place.StructAt.{StructAt}
use Rattle.cap_reader.specs.declared.place.ListAt.{ListAt}
use Rattle.cap_reader.specs.Reading.{Sections, Elements, or_default}
use Rattle.cap_reader.specs.Places.{sections_at, elements_at}
use Rattle.rpc_view.specs.declared.view_error.ViewError.{ViewError}
use Rattle.rpc_view.specs.declared.view_error.ViewError.TheVariants as errors
use Rattle.rpc_view.specs.Reading.{or_empty}

-- ---- what a function of the code answers, with the words that are left

-- a refusal, but out of memory may come in the place of any other answer
abbrev pub Refuses : {Y : Type 0} → ViewError → ℕ → Result Y ViewError × ℕ → Type 0
Refuses errors.OutOfMemory left ran = Unit {0}
Refuses e left ran = ran ≡ (Err e, left)

abbrev pub RunsInMemory : {X Y : Type 0} → (X → Y) → Result X ViewError → ℕ → Result Y ViewError × ℕ → Type 0
RunsInMemory seen (Ok x) left ran = ran ≡ (Ok (seen x), left)
RunsInMemory seen (Err e) left ran = Refuses e left ran

-- ---- what stands at the places that the code carries about

-- the sections of a struct that was looked for
abbrev pub sections_of : List (List ℕ) → Option StructAt → Sections
sections_of segments None = or_default None
sections_of segments (Some place) = sections_at segments place

-- the elements of a list that was looked for
abbrev pub elements_of : List (List ℕ) → Option ListAt → Elements
elements_of segments None = or_empty None
elements_of segments (Some list) = elements_at segments list

-- a number that may be left out, as a list
abbrev pub optional_number : Option ℕ → List ℕ
optional_number None = []
optional_number (Some n) = n ∷ []
