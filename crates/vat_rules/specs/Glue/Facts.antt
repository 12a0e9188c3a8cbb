-- For the code's contracts, and no part of the meaning: what a record's numbers stand for, as it is looked up.
use Rattle.std.specs.Prelude.{ℕ, List, [], map, Option, None, slice_get, unwrap_or}
use Rattle.std.specs.List.{zip}
use Rattle.vat_rules.specs.Types.{DecodedRecord, View}
use Rattle.decoded_records.specs.Past.{Past}
use Rattle.decoded_records.specs.Views.{view_of_target, views_of_descriptors}
use Rattle.decoded_records.specs.Questions.{is_late}
use Rattle.vat_rules.specs.Telling.{question_view, taken_view, promise_view, released_view}
use Rattle.vat_rules.specs.LogFacts.{Facts, Entry}

-- what the numbers of a record stand for before it is applied: of its references nothing is said yet
abbrev pub facts_before : Past → DecodedRecord → Facts
facts_before before e = record {
  references = [];
  question = question_view before e;
  taken = taken_view before e;
  promise = promise_view before e;
  target = view_of_target before e;
  released = released_view before e;
  caps = views_of_descriptors before e;
  late = is_late before e;
}

-- the same, with what its references stand for
abbrev pub with_references : List (Option View) → Facts → Facts
with_references references facts = record {
  references = references;
  question = facts.question;
  taken = facts.taken;
  promise = facts.promise;
  target = facts.target;
  released = facts.released;
  caps = facts.caps;
  late = facts.late;
}

-- the view of these at a place, if one is there
abbrev pub view_at : ℕ → List (Option View) → Option View
view_at place views = unwrap_or (slice_get views place) None

-- records, each with its facts
abbrev pub entries_with : List DecodedRecord → List Facts → List Entry
entries_with events facts = map (λ p. record { event = p.0; facts = p.1 }) (zip events facts)
