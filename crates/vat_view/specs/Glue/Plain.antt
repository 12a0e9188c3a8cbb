-- For the code's contracts, and no part of the meaning: what records bind without a message and with one.
use Rattle.std.specs.Prelude.{◌≡◌, ℕ, List, [], ◌∷◌, true, false, Option, None}
use Rattle.number_tables.specs.declared.question.QuestionState.{QuestionState}
use Rattle.number_tables.specs.declared.exports_imports.ExportsImports.{ExportsImports}
use Rattle.vat_view.specs.declared.record.introduced.Introduced.{Introduced}
use Rattle.vat_view.specs.Types.{DecodedRecord, Host, Vow, Field, Wire, View, Object, Promise, FieldOf, TableKey}
use Rattle.decoded_records.specs.Questions.{question_opened, noted_call}
use Rattle.decoded_records.specs.Lives.{descriptors}
use Rattle.decoded_records.specs.Views.{references}
use Rattle.vat_view.specs.Glue.Tables.{view_by, bound_from}
use Rattle.decoded_records.specs.Glue.Parts.{has_message}

-- this call is noted beside a message that opens no question, and no reference is
abbrev pub IsNotedAlone : ℕ → DecodedRecord → Type 0
IsNotedAlone c e = (has_message e ≡ true) × (references e ≡ []) × (question_opened e ≡ None) × (c ≡ noted_call e)

-- the reference that a record without a message binds, with its view, if it binds one
abbrev pub own_bindings : DecodedRecord → List (ℕ × View)
own_bindings (Host r object) = (r, Object object) ∷ []
own_bindings (Vow r) = (r, Promise r) ∷ []
own_bindings (Field r call path) = (r, FieldOf call path) ∷ []
own_bindings _ = []

-- the references that a received message binds, with their views
abbrev pub received_bindings : (ℕ → Option View) → ExportsImports → Introduced → (TableKey → Option QuestionState) → DecodedRecord → List (ℕ × View)
received_bindings named lives begun known (Wire false k c rs m) =
    bound_from (view_by named lives begun known (Wire false k c rs m)) rs 0 (descriptors (Wire false k c rs m))
received_bindings named lives begun known _ = []
