-- What a log tells whose records are all good.
use Rattle.std.specs.Prelude.{List, [], ◌∷◌, ◌++◌, map, reverse, length, count_by, Bool, true, false, Option, option_and_then}
use Rattle.std.specs.Option.{option_or}
use Rattle.vat_log.specs.declared.body.Body.{Body}
use Rattle.vat_rules.specs.Types.{DecodedRecord, Deliver, View}
use Rattle.decoded_records.specs.Past.{Past}
use Rattle.decoded_records.specs.Questions.{question_returned, question_finished, question_taken, is_late}
use Rattle.decoded_records.specs.Lives.{promise_resolved}
use Rattle.decoded_records.specs.Uses.{number_released}
use Rattle.decoded_records.specs.Views.{field_view, view_of_reference, view_of_number, view_of_target, views_of_descriptors}
use Rattle.decoded_records.specs.Bindings.{new_references, named_references}
use Rattle.vat_rules.specs.LogFacts.{Facts, Entry, Told}
use Rattle.vat_rules.specs.Events.{Reader, events_before}

-- what the references that a record binds or names stand for, the record counted
abbrev pub reference_views : Past → DecodedRecord → List (Option View)
reference_views before e = map (view_of_reference (e ∷ before)) (new_references e ++ named_references e)

-- what the question that a record returns or finishes stands for: its call, as the field at the empty path
abbrev pub question_view : Past → DecodedRecord → Option View
question_view before e = option_and_then (λ q. field_view q [] before) (option_or (question_returned e) (question_finished e))

-- what the question stands for whose results a record takes, the same
abbrev pub taken_view : Past → DecodedRecord → Option View
taken_view before e = option_and_then (λ q. field_view q [] before) (question_taken e)

-- what the promise that a record resolves stands for
abbrev pub promise_view : Past → DecodedRecord → Option View
promise_view before e = option_and_then (λ i. view_of_number i before) (promise_resolved e)

-- what the number that a Release gives back stands for
abbrev pub released_view : Past → DecodedRecord → Option View
released_view before e = option_and_then (λ i. view_of_number i before) (number_released e)

-- the facts of a record
abbrev pub facts_of : Past → DecodedRecord → Facts
facts_of before e = record {
  references = reference_views before e;
  question = question_view before e;
  taken = taken_view before e;
  promise = promise_view before e;
  target = view_of_target before e;
  released = released_view before e;
  caps = views_of_descriptors before e;
  late = is_late before e;
}

-- a record with what its numbers stand for
abbrev pub entry_of : Past → DecodedRecord → Entry
entry_of before e = record { event = e; facts = facts_of before e }

-- the same for each record, the newest first
abbrev pub entries_back : Past → List Entry
entries_back [] = []
entries_back (e ∷ before) = entry_of before e ∷ entries_back before

-- a record delivers a call
unfoldable pub is_delivery : DecodedRecord → Bool
is_delivery (Deliver call object) = true
is_delivery _ = false

-- what a log tells whose records are all read
abbrev pub told_of : Reader → List Body → Told
told_of read log = let events = events_before read log (length log) in
    record { entries = reverse (entries_back (reverse events)); delivered = count_by is_delivery events }
