-- Reading a schema: readings of the trees of a frame one after another, with faults of a schema besides theirs.
use Rattle.std.specs.Prelude.{◌≡◌, ℕ, List, Option, Some, None, Result, Ok, Err}
use Rattle.cap_reader.specs.declared.read_error.ReadError.{ReadError}
use Rattle.cap_reader.specs.declared.read_error.ReadError.TheVariants as reads
use Rattle.cap_reader.specs.Tree.{Tree, nothing}
use Rattle.cap_reader.specs.Reading.{Reading, done, fault, visit, ◌>>=◌, pay_for, Sections, Elements, root_in, elements_in, text_in}
use Rattle.schema_names.specs.declared.schema_error.SchemaError.{SchemaError}
use Rattle.schema_names.specs.declared.schema_error.SchemaError.TheVariants as errors

-- a reading of a tree, as a part of the reading of a schema
unfoldable pub schema_part : {A : Type 0} → Reading ReadError A → Reading SchemaError A
schema_part (done value) = done value
schema_part (fault e) = fault (errors.Read e)
schema_part (visit cost rest) = visit cost (schema_part rest)

-- the struct at a pointer; where the pointer is null, the empty struct
abbrev pub schema_struct_in : Tree → Reading SchemaError Sections
schema_struct_in tree = schema_part (root_in tree)

abbrev pub or_empty_list : Option Elements → Elements
or_empty_list None = record { count = 0; element = λ i. nothing }
or_empty_list (Some elements) = elements

-- the list of structs at a pointer; where the pointer is null, the empty list
abbrev pub schema_list_in : Tree → Reading SchemaError Elements
schema_list_in tree = schema_part (elements_in tree >>= λ found. done (or_empty_list found))

-- the text at a pointer, None where the pointer is null
abbrev pub optional_text_in : Tree → Reading SchemaError (Option (List ℕ))
optional_text_in tree = schema_part (text_in tree)

-- what a reading answers, given so many words, and how many it leaves
abbrev pub run_schema : {A : Type 0} → Reading SchemaError A → ℕ → Result A SchemaError × ℕ
run_schema reading words = pay_for (errors.Read reads.TooMuch) reading words

-- ---- what a function of the code answers

-- out of memory may come in the place of any other answer; each other fault is the definition's
abbrev pub FailsAsSchema : {Y : Type 0} → SchemaError → Result Y SchemaError → Type 0
FailsAsSchema errors.OutOfMemory defined = Unit {0}
FailsAsSchema e defined = defined ≡ Err e

-- what was answered is what is defined
abbrev pub GivesSchemaInMemory : {X : Type 0} → Result X SchemaError → Result X SchemaError → Type 0
GivesSchemaInMemory (Ok x) defined = defined ≡ Ok x
GivesSchemaInMemory (Err e) defined = FailsAsSchema e defined

-- the fault of a schema for a fault of a pointer; out of memory isn't one of a pointer
abbrev pub schema_fault_of : ReadError → SchemaError
schema_fault_of reads.OutOfMemory = errors.OutOfMemory
schema_fault_of e = errors.Read e
