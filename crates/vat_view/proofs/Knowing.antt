-- What the table of questions knows is what looking back finds.
use Rattle.std.proofs.Common.{◌≡◌, refl, ◌∙◌, ap, List, [], Bool, true, false, not, Option, Some, None, if◌then◌else◌, option_map}
use Rattle.std.specs.Prelude.{is_some}
use Rattle.std.proofs.lemmas.Bool.{and_parts, false≢true}
use Rattle.number_tables.specs.declared.question.QuestionState.{QuestionState}
use Rattle.vat_view.specs.Types.{Return, Finish, DecodedRecord, Wire, TableKey}
use Rattle.decoded_records.specs.Past.{Past, Point, id}
use Rattle.decoded_records.specs.Questions.{asks_elsewhere, noted_call, opening, return_of, is_opened, is_returned, is_returned_lightly, is_finished, is_released, is_taken, is_unfinished, is_late, closes}
use Rattle.decoded_records.specs.Lives.{introductions, introductions_at}
use Rattle.decoded_records.specs.Uses.{UsesQuestions}
use Rattle.vat_view.specs.Glue.Tables.{question_known}
use Rattle.number_tables.specs.Glue.QuestionTables.{results_released_in, params_introduced_in, results_introduced_in, late_by, given_back_by}

-- what is known of a question at an opening
abbrev pub known_from : TableKey → Past → Point → QuestionState
known_from q past p = record {
  call = noted_call p.event;
  tail = asks_elsewhere p.event;
  returned = is_returned q past;
  returned_lightly = is_returned_lightly q past;
  finished = is_finished q past;
  released = is_released q past;
  taken = is_taken q past;
  asked = introductions p.before p.event;
  brought = introductions_at (return_of q past);
}

released_at : (q : TableKey) (past : Past) (o : Option Point) → is_some o ≡ true → results_released_in (option_map (known_from q past) o) ≡ is_released q past
released_at q past (Some p) e = refl
released_at q past None e = absurd (false≢true e)

brought_at : (q : TableKey) (past : Past) (o : Option Point) → is_some o ≡ true → results_introduced_in (option_map (known_from q past) o) ≡ introductions_at (return_of q past)
brought_at q past (Some p) e = refl
brought_at q past None e = absurd (false≢true e)

pub asked_at : (q : TableKey) (past : Past) (o : Option Point) → params_introduced_in (option_map (known_from q past) o) ≡ introductions_at o
asked_at q past (Some p) = refl
asked_at q past None = refl

-- what is given back where a flag says so
pub given_if : (ids : List TableKey) (o : Option Point) (b : Bool) → ids ≡ introductions_at o → (if b then ids else []) ≡ introductions_at (if b then o else None)
given_if ids o true same = same
given_if ids o false same = refl

module _ (known : TableKey → Option QuestionState) (before : Past) (same : (q : TableKey) → known q ≡ question_known q before) where
  pub late_known : (e : DecodedRecord) → UsesQuestions before e → late_by known e ≡ is_late before e
  late_known (Wire s k c rs (Return head outcome)) h = let i : TableKey = id k (not s) head.answer in
      ap (λ o. results_released_in o) (same i) ∙ released_at i before (opening i before) (and_parts (is_opened i before) (not (is_returned i before)) h.returned_once).0
  late_known _ h = refl

  pub closed_known : (e : DecodedRecord) → UsesQuestions before e → given_back_by known e ≡ introductions_at (closes before e)
  closed_known (Wire s k c rs (Return head outcome)) h = let i : TableKey = id k (not s) head.answer in
      given_if (params_introduced_in (known i)) (opening i before) head.release_param_caps (ap (λ o. params_introduced_in o) (same i) ∙ asked_at i before (opening i before))
  closed_known (Wire s k c rs (Finish q true)) h = let i : TableKey = id k s q in
      ap (λ o. results_introduced_in o) (same i)
      ∙ brought_at i before (opening i before) (and_parts (is_opened i before) (not (is_finished i before)) (and_parts (is_unfinished i before) true h.used).0).0
  closed_known _ h = refl
