-- For the contracts of private functions alone: no public clause's meaning needs this file.
use Rattle.std.specs.Prelude.{◌≡◌, ℕ, List, [], ◌∷◌, Option, Some, None, Result, Ok, Err}
use Rattle.cap_reader.specs.declared.place.ListAt.{ListAt}
use Rattle.cap_reader.specs.Reading.{Elements}
use Rattle.cap_reader.specs.Places.{elements_at}
use Rattle.schema_names.specs.declared.schema_error.SchemaError.{SchemaError}
use Rattle.schema_names.specs.declared.schema_error.SchemaError.TheVariants as errors
use Rattle.schema_names.specs.Reading.{or_empty_list}

-- a refusal, but out of memory may come in the place of any other answer
abbrev pub RefusesSchema : {Y : Type 0} → SchemaError → ℕ → Result Y SchemaError × ℕ → Type 0
RefusesSchema errors.OutOfMemory left ran = Unit {0}
RefusesSchema e left ran = ran ≡ (Err e, left)

-- what a call answers, seen in some way, and the words that it leaves
abbrev pub RunsSchemaInMemory : {X Y : Type 0} → (X → Y) → Result X SchemaError → ℕ → Result Y SchemaError × ℕ → Type 0
RunsSchemaInMemory seen (Ok x) left ran = ran ≡ (Ok (seen x), left)
RunsSchemaInMemory seen (Err e) left ran = RefusesSchema e left ran

-- the elements of a list that was looked for
abbrev pub elements_listed : List (List ℕ) → Option ListAt → Elements
elements_listed segments None = or_empty_list None
elements_listed segments (Some list) = elements_at segments list

-- what may be left out, as a list
abbrev pub optional : {A : Type 0} → Option A → List A
optional None = []
optional (Some x) = x ∷ []
