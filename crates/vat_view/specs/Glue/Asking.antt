-- For the code's contracts, and no part of the meaning: what the tables answer.
use Rattle.std.specs.Prelude.{ℕ, ◌+◌, Bool, true, false, not, Option, Some, None, if◌then◌else◌, option_map, option_and_then, unwrap_or, count_by}
use Rattle.std.specs.BTreeMap.{get}
use Rattle.std.specs.Option.{option_or}
use Rattle.number_tables.specs.declared.question.QuestionState.{QuestionState}
use Rattle.number_tables.specs.declared.exports_imports.ExportsImports.{ExportsImports}
use Rattle.vat_view.specs.declared.preconditions.key_counts.KeyCounts.{KeyCounts}
use Rattle.vat_view.specs.Types.{Target, Imported, Promised, TakeFrom, Return, Release, DecodedRecord, AnswerBy, Wire, View, FieldOf, TableKey}
use Rattle.decoded_records.specs.Past.{id, same_id}
use Rattle.decoded_records.specs.Views.{target_of}
use Rattle.decoded_records.specs.Glue.Parts.{id_cmp}
use Rattle.vat_view.specs.Glue.Tables.{number_by, count_released}
use Rattle.number_tables.specs.Glue.QuestionTables.{call_by, late_by, given_back_by}

-- what a target stands for, sent or received on a connection
abbrev pub target_by : (ℕ → Option View) → ExportsImports → (TableKey → Option QuestionState) → ℕ → Bool → Target → Option View
target_by named lives known k sent (Imported n) = number_by named lives (id k (not sent) n)
target_by named lives known k sent (Promised q path) = option_map (λ call. FieldOf call path) (call_by (known (id k sent q)))

-- what a record's target stands for
abbrev pub targeted_by : (ℕ → Option View) → ExportsImports → (TableKey → Option QuestionState) → DecodedRecord → Option View
targeted_by named lives known (Wire sent k call rs m) = option_and_then (target_by named lives known k sent) (target_of m)
targeted_by named lives known _ = None

-- the question whose results a received record takes
abbrev pub question_taken_here : DecodedRecord → Option TableKey
question_taken_here (Wire false k c rs (Return head (TakeFrom n))) = Some (id k false n)
question_taken_here _ = None

-- the call that ANSWERBY names second
abbrev pub named_answerer : DecodedRecord → Option ℕ
named_answerer (AnswerBy c by) = Some by
named_answerer _ = None

-- the call whose results a received Return takes that isn't late, by the table of questions before the record
abbrev pub call_taken_here : (TableKey → Option QuestionState) → DecodedRecord → Option ℕ
call_taken_here known e = option_and_then (λ q. if late_by known e then None else call_by (known q)) (question_taken_here e)

-- the call by whose results a record answers another
abbrev pub taken_from_by : (TableKey → Option QuestionState) → DecodedRecord → Option ℕ
taken_from_by known e = option_or (named_answerer e) (call_taken_here known e)

-- the number that a Release gives back, and how much of it
abbrev pub let_go_of : DecodedRecord → Option (TableKey × ℕ)
let_go_of (Wire sent k call references (Release n count)) = Some (id k (not sent) n, count)
let_go_of _ = None

-- how much of a number a record gives back
abbrev pub given_by : (TableKey → Option QuestionState) → TableKey → DecodedRecord → ℕ
given_by known i e = count_by (same_id i) (given_back_by known e) + count_released i e

-- how often a number was counted
abbrev pub tally_at : KeyCounts → TableKey → ℕ
tally_at tally i = unwrap_or (get id_cmp tally.entries i) 0

-- a number that may be named passes a test, if it is
abbrev pub passes_if : (TableKey → Bool) → Option TableKey → Bool
passes_if test (Some i) = test i
passes_if test None = true
