-- For the code's contracts, and no part of the meaning: the tables, and what looking back finds for each of their
-- keys.
use Rattle.std.specs.Prelude.{◌≡◌, ℕ, ◌+◌, ◌≤◌, ◌==◌, length, List, [], ◌∷◌, Bool, true, false, not, Option, Some, None, if◌then◌else◌, option_map, option_and_then, find, slice_get}
use Rattle.std.specs.List.{cons_option}
use Rattle.std.specs.Option.{option_or}
use Rattle.rising_table.specs.Entries.{entry_at}
use Rattle.number_tables.specs.declared.question.QuestionState.{QuestionState}
use Rattle.number_tables.specs.declared.question_table.Questions.{Questions}
use Rattle.number_tables.specs.declared.exports_imports.ExportsImports.{ExportsImports}
use Rattle.vat_view.specs.declared.record.introduced.Introduced.{Introduced}
use Rattle.vat_view.specs.declared.record.introduced.Introduced.TheVariants.{Nothing, Few, Many}
use Rattle.vat_view.specs.declared.tables.references.BoundReferences.{BoundReferences}
use Rattle.decoded_records.specs.declared.origin.Origin.{Origin}
use Rattle.vat_view.specs.Types.{Descriptor, SenderHosted, SenderPromise, ReceiverHosted, ReceiverAnswer, Release, DecodedRecord, Host, Vow, Field, Wire, View, Object, Promise, FieldOf, Import, TableKey}
use Rattle.decoded_records.specs.Past.{Past, id, same_id, names, record_index, last_answer}
use Rattle.decoded_records.specs.Questions.{is_late, question_returned, question_returned_lightly, question_finished, question_released, question_taken, asks_elsewhere, noted_call, opening, return_of, is_returned, is_returned_lightly, is_finished, is_released, is_taken}
use Rattle.decoded_records.specs.Uses.{UsesQuestions}
use Rattle.decoded_records.specs.Bindings.{Refers, NotesEach}
use Rattle.decoded_records.specs.Views.{placed_references, references, view_of_reference}
use Rattle.decoded_records.specs.Lives.{GivesBackHeld, Birth, begins, is_in_life, descriptors, began_promised, introductions, introductions_at, introduced_count, released_count, held}
use Rattle.number_tables.specs.Glue.LifeTables.{held_count_at, origin_at, held_origin}
use Rattle.number_tables.specs.Glue.QuestionTables.{question_at, with_return, with_light_return, with_finish, with_release, with_taken, call_by}
use Rattle.decoded_records.specs.Glue.Origins.{is_cap, origins_from}

-- what looking back finds of a question that was opened
abbrev pub question_known : TableKey → Past → Option QuestionState
question_known q past = option_map (λ p. record {
  call = noted_call p.event;
  tail = asks_elsewhere p.event;
  returned = is_returned q past;
  returned_lightly = is_returned_lightly q past;
  finished = is_finished q past;
  released = is_released q past;
  taken = is_taken q past;
  asked = introductions p.before p.event;
  brought = introductions_at (return_of q past);
}) (opening q past)

-- where a life began: the number of its record, the descriptor's place there, whether that is a senderPromise, and
-- the reference noted for it, if there is one
abbrev pub origin_of : Birth → Origin
origin_of b = record { number = record_index b.from; place = b.place; promised = began_promised b; reference = option_map (λ n. n.0) (find (λ n. n.1 == b.place) (placed_references b.from.event)) }

-- what a record of this number introduces, with the origins, where it is late or isn't
abbrev pub origins_if : Bool → ℕ → DecodedRecord → List (TableKey × Origin)
origins_if late number e = if late then [] else origins_from number e 0 0 (descriptors e)

-- what a record introduces, with the origins
abbrev pub origins : Past → DecodedRecord → List (TableKey × Origin)
origins before e = origins_if (is_late before e) (length before) e

-- the table of questions has what looking back finds
abbrev pub AreKnown : Questions → Past → Type 0
AreKnown table past = (q : TableKey) → question_at table q ≡ question_known q past

-- the tables of a point of a log, each tied to the records before by one sentence; and no number went more often than
-- it came
pub record IsTabled (past : Past) (questions : Questions) (lives : ExportsImports) : Type 0 where
  pub known : AreKnown questions past
  pub counted : (i : TableKey) → held_count_at lives i ≡ held i past
  pub born : (i : TableKey) → is_in_life i past ≡ true → origin_at lives i ≡ option_map origin_of (last_answer (begins i) past)
  pub balanced : (i : TableKey) → released_count i past ≤ introduced_count i past

-- how much of a number a Release gives back
abbrev pub count_released : TableKey → DecodedRecord → ℕ
count_released i (Wire sent k call references (Release n count)) = if same_id i (id k (not sent) n) then count else 0
count_released i _ = 0

-- what is known of a question, changed so where this is the one that is named
abbrev pub changed_if : Bool → (QuestionState → QuestionState) → Option QuestionState → Option QuestionState
changed_if named change known = if named then option_map change known else known

-- what a record that introduces these numbers makes of what is known of a question, by its return or its finish
abbrev pub ended_by : DecodedRecord → List TableKey → TableKey → Option QuestionState → Option QuestionState
ended_by e introduced q known =
    changed_if (names q (question_released e)) with_release (changed_if (names q (question_finished e)) with_finish
    (changed_if (names q (question_returned_lightly e)) with_light_return (changed_if (names q (question_returned e)) (with_return introduced) known)))

-- what a record that opens no question, and introduces these numbers, makes of what is known of a question
abbrev pub noted_by : DecodedRecord → List TableKey → TableKey → Option QuestionState → Option QuestionState
noted_by e introduced q known = changed_if (names q (question_taken e)) with_taken (ended_by e introduced q known)

-- the view that the table has of a reference
abbrev pub bound_at : BoundReferences → ℕ → Option View
bound_at table r = option_map (λ binding. binding.view) (entry_at table.entries r)

-- the view of a reference after these are bound in turn
abbrev pub bound_by : ℕ → List (ℕ × View) → Option View → Option View
bound_by q [] view = view
bound_by q (x ∷ rest) view = bound_by q rest (if x.0 == q then Some x.1 else view)

-- what a number stands for whose life began so, where references are named
abbrev pub view_from : (ℕ → Option View) → Bool → Origin → Option View
view_from named true origin = option_and_then named origin.reference
view_from named false origin = Some (Import origin.number origin.place)

-- what an export or import number stands for, by the tables
abbrev pub number_by : (ℕ → Option View) → ExportsImports → TableKey → Option View
number_by named lives i = option_and_then (view_from named i.ours) (held_origin lives i)

-- where the life of a number would begin by these introductions
abbrev pub first_in : TableKey → List (TableKey × Origin) → Option Origin
first_in i introduced = option_map (λ x. x.1) (find (λ x. same_id i x.0) introduced)

-- where the life of a number would begin by what a record introduces
abbrev pub begun_origin : Introduced → TableKey → Option Origin
begun_origin Nothing i = None
begun_origin (Few number event) i = first_in i (origins_from number event.now 0 0 (descriptors event.now))
begun_origin (Many lives) i = held_origin lives i

-- these are what a record introduces
abbrev pub AreBegun : List (TableKey × Origin) → Introduced → Type 0
AreBegun introduced begun = (i : TableKey) → begun_origin begun i ≡ first_in i introduced

-- what a number of the sender stands for with a record counted: its life began before, or begins there
abbrev pub sender_view : (ℕ → Option View) → ExportsImports → Introduced → TableKey → Option View
sender_view named lives begun i = option_and_then (view_from named i.ours) (option_or (held_origin lives i) (begun_origin begun i))

-- what a descriptor of a record stands for, by the tables before it and what it introduces
abbrev pub view_by : (ℕ → Option View) → ExportsImports → Introduced → (TableKey → Option QuestionState) → DecodedRecord → Descriptor → Option View
view_by named lives begun known (Wire s k c rs m) (SenderHosted n) = sender_view named lives begun (id k s n)
view_by named lives begun known (Wire s k c rs m) (SenderPromise n) = sender_view named lives begun (id k s n)
view_by named lives begun known (Wire s k c rs m) (ReceiverHosted n) = number_by named lives (id k (not s) n)
view_by named lives begun known (Wire s k c rs m) (ReceiverAnswer q path) = option_map (λ call. FieldOf call path) (call_by (known (id k s q)))
view_by named lives begun known _ _ = None

-- the reference noted for a descriptor, where so many were noted before it
abbrev pub reference_by : List ℕ → ℕ → Descriptor → Option ℕ
reference_by rs before d = if is_cap d then slice_get rs before else None

-- a reference with what its descriptor stands for, where there are both
abbrev pub bound_one : (Descriptor → Option View) → Descriptor → Option ℕ → Option (ℕ × View)
bound_one view d (Some r) = option_map (λ v. (r, v)) (view d)
bound_one view d None = None

-- the references noted for descriptors, with what these stand for
abbrev pub bound_from : (Descriptor → Option View) → List ℕ → ℕ → List Descriptor → List (ℕ × View)
bound_from view rs before [] = []
bound_from view rs before (d ∷ ds) = cons_option (bound_one view d (reference_by rs before d)) (bound_from view rs (before + (if is_cap d then 1 else 0)) ds)

-- the references that a record binds, with their views
abbrev pub bindings : (ℕ → Option View) → ExportsImports → Introduced → (TableKey → Option QuestionState) → DecodedRecord → List (ℕ × View)
bindings named lives begun known (Host r object) = (r, Object object) ∷ []
bindings named lives begun known (Vow r) = (r, Promise r) ∷ []
bindings named lives begun known (Field r call path) = (r, FieldOf call path) ∷ []
bindings named lives begun known (Wire false k c rs m) =
    bound_from (view_by named lives begun known (Wire false k c rs m)) rs 0 (descriptors (Wire false k c rs m))
bindings named lives begun known _ = []

-- the table of references has what looking back finds
abbrev pub AreBound : Past → BoundReferences → Type 0
AreBound past table = (r : ℕ) → bound_at table r ≡ view_of_reference past r

-- all tables of a point of a log
pub record AreTabled (past : Past) (questions : Questions) (lives : ExportsImports) (bound : BoundReferences) : Type 0 where
  pub tabled : IsTabled past questions lives
  pub bounds : AreBound past bound

-- what the tables ask of a record: it names, uses and gives back things as it should
pub record IsFit (before : Past) (e : DecodedRecord) : Type 0 where
  pub refers : Refers before e
  pub uses : UsesQuestions before e
  pub gives : GivesBackHeld before e
  pub notes : NotesEach before e
