-- Reading a message: readings of the trees of a frame one after another, with faults of a message besides theirs.
use Rattle.std.specs.Prelude.{◌≡◌, ℕ, Option, Some, None, Result, Ok, Err}
use Rattle.cap_reader.specs.declared.read_error.ReadError.{ReadError}
use Rattle.cap_reader.specs.declared.read_error.ReadError.TheVariants as reads
use Rattle.cap_reader.specs.Tree.{Tree, nothing}
use Rattle.cap_reader.specs.Reading.{Reading, done, fault, visit, ◌>>=◌, pay_for, Sections, Elements, root_in, elements_in}
use Rattle.rpc_view.specs.declared.view_error.ViewError.{ViewError}
use Rattle.rpc_view.specs.declared.view_error.ViewError.TheVariants as errors

-- a reading of a tree, as a part of the reading of a message
unfoldable pub part : {A : Type 0} → Reading ReadError A → Reading ViewError A
part (done value) = done value
part (fault e) = fault (errors.Read e)
part (visit cost rest) = visit cost (part rest)

-- The struct at a pointer; where the pointer is null, the empty struct, in which every field has its default.
abbrev pub struct_in : Tree → Reading ViewError Sections
struct_in tree = part (root_in tree)

abbrev pub or_empty : Option Elements → Elements
or_empty None = record { count = 0; element = λ i. nothing }
or_empty (Some elements) = elements

-- the list of structs at a pointer; where the pointer is null, the empty list
abbrev pub list_in : Tree → Reading ViewError Elements
list_in tree = part (elements_in tree >>= λ found. done (or_empty found))

-- what a reading answers, given so many words, and how many it leaves
abbrev pub run : {A : Type 0} → Reading ViewError A → ℕ → Result A ViewError × ℕ
run reading words = pay_for (errors.Read reads.TooMuch) reading words

-- ---- what a function of the code answers

-- out of memory may come in the place of any other answer; each other fault is the definition's
abbrev pub Fails : {Y : Type 0} → ViewError → Result Y ViewError → Type 0
Fails errors.OutOfMemory defined = Unit {0}
Fails e defined = defined ≡ Err e

-- what was answered, as it is seen, is what is defined
abbrev pub GivesInMemory : {X Y : Type 0} → (X → Y) → Result X ViewError → Result Y ViewError → Type 0
GivesInMemory seen (Ok x) defined = defined ≡ Ok (seen x)
GivesInMemory seen (Err e) defined = Fails e defined

-- the fault of a message for a fault of a pointer; out of memory isn't one of a pointer
abbrev pub fault_of : ReadError → ViewError
fault_of reads.OutOfMemory = errors.OutOfMemory
fault_of e = errors.Read e
