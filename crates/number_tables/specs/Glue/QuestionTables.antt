-- For the code's contracts, and no part of the meaning: the table of questions, and what it answers.
use Rattle.std.specs.Prelude.{◌≡◌, ℕ, ◌&&◌, ◌||◌, List, [], Bool, true, false, not, Option, Some, None, if◌then◌else◌, option_map}
use Rattle.number_tables.specs.declared.question.QuestionState.{QuestionState}
use Rattle.number_tables.specs.declared.question_table.Questions.{Questions}
use Rattle.number_tables.specs.Types.{Return, Finish, DecodedRecord, Wire, TableKey}
use Rattle.decoded_records.specs.Past.{id, same_id}
use Rattle.number_tables.specs.Glue.Sides.{value_at}

-- what the table has of a question
abbrev pub question_at : Questions → TableKey → Option QuestionState
question_at table q = value_at table.entries q

-- one question has this, and every other what it had
abbrev pub IsPut : TableKey → QuestionState → Questions → Questions → Type 0
IsPut q known old new = (other : TableKey) → question_at new other ≡ (if same_id other q then Some known else question_at old other)

-- one question was changed so if it was there, and every other has what it had
abbrev pub IsChanged : TableKey → (QuestionState → QuestionState) → Questions → Questions → Type 0
IsChanged q change old new = (other : TableKey) → question_at new other ≡ (if same_id other q then option_map change (question_at old other) else question_at old other)

-- every question has what it had
abbrev pub IsSameQuestions : Questions → Questions → Type 0
IsSameQuestions old new = (other : TableKey) → question_at new other ≡ question_at old other

-- a question that was just opened, with what its opening introduced
abbrev pub just_opened : ℕ → Bool → List TableKey → QuestionState
just_opened call tail asked = record { call = call; tail = tail; returned = false; returned_lightly = false; finished = false; released = false; taken = false; asked = asked; brought = [] }

-- a question whose Return has passed and introduced these, with a Return that says that no Finish is needed, whose
-- Finish has passed, whose results were given back, and whose results were taken
abbrev pub with_return : List TableKey → QuestionState → QuestionState
with_return brought known = record known { returned = true; brought = brought }

abbrev pub with_light_return : QuestionState → QuestionState
with_light_return known = record known { returned_lightly = true }

abbrev pub with_finish : QuestionState → QuestionState
with_finish known = record known { finished = true }

abbrev pub with_release : QuestionState → QuestionState
with_release known = record known { released = true }

abbrev pub with_taken : QuestionState → QuestionState
with_taken known = record known { taken = true }

-- what a question's entry says of its results being given back, and what its opening and its Return introduced
abbrev pub results_released_in : Option QuestionState → Bool
results_released_in (Some known) = known.released
results_released_in None = false

abbrev pub params_introduced_in : Option QuestionState → List TableKey
params_introduced_in (Some known) = known.asked
params_introduced_in None = []

abbrev pub results_introduced_in : Option QuestionState → List TableKey
results_introduced_in (Some known) = known.brought
results_introduced_in None = []

-- what a question's entry says of it
abbrev pub free_in : Option QuestionState → Bool
free_in (Some known) = (known.returned && known.finished) || known.returned_lightly
free_in None = true

abbrev pub unfinished_in : Option QuestionState → Bool
unfinished_in (Some known) = not known.finished
unfinished_in None = false

abbrev pub finished_in : Option QuestionState → Bool
finished_in (Some known) = known.finished
finished_in None = false

abbrev pub unreturned_in : Option QuestionState → Bool
unreturned_in (Some known) = not known.returned
unreturned_in None = false

abbrev pub tail_in : Option QuestionState → Bool
tail_in (Some known) = known.tail
tail_in None = false

abbrev pub taken_in : Option QuestionState → Bool
taken_in (Some known) = known.taken
taken_in None = false

abbrev pub opening_call_in : Option QuestionState → Option ℕ
opening_call_in known = option_map (λ known. known.call) known

-- the call of a question that isn't over, by what is known of it
abbrev pub call_by : Option QuestionState → Option ℕ
call_by (Some known) = if known.returned && known.finished then None else Some known.call
call_by None = None

-- whether a Return is late, by a table of questions
abbrev pub late_by : (TableKey → Option QuestionState) → DecodedRecord → Bool
late_by known (Wire sent k call references (Return head outcome)) = results_released_in (known (id k (not sent) head.answer))
late_by known _ = false

-- the introductions that a Return or a Finish gives back, by a table of questions
abbrev pub given_back_by : (TableKey → Option QuestionState) → DecodedRecord → List TableKey
given_back_by known (Wire sent k call references (Return head outcome)) = if head.release_param_caps then params_introduced_in (known (id k (not sent) head.answer)) else []
given_back_by known (Wire sent k call references (Finish q true)) = results_introduced_in (known (id k sent q))
given_back_by known _ = []
