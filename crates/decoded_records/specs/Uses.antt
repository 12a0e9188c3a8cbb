-- Which questions and which export and import numbers a record uses (rpc.capnp, the comments of MessageTarget,
-- PromisedAnswer, CapDescriptor, Finish and Release).
use Rattle.std.specs.Prelude.{List, ◌++◌, not, ◌&&◌, Option, Some, None, IsTrue, IfSome, option_to_list}
use Rattle.std.specs.List.{list_all, filter_map}
use Rattle.decoded_records.specs.Types.{Descriptor, ReceiverHosted, ReceiverAnswer, Imported, Promised, Call, Release, Disembargo, DecodedRecord, Wire, TableKey}
use Rattle.decoded_records.specs.Past.{Past, id}
use Rattle.decoded_records.specs.Questions.{question_opened, question_returned, question_finished, question_taken, opening, is_free, is_tail, is_taken, is_unfinished, is_unreturned}
use Rattle.decoded_records.specs.Lives.{descriptors, is_in_life}

-- the question that a record's target names: one of the sender's
abbrev pub question_targeted : DecodedRecord → Option TableKey
question_targeted (Wire sent k call references (Call head (Promised n path) params)) = Some (id k sent n)
question_targeted (Wire sent k call references (Disembargo number loopback (Promised n path))) = Some (id k sent n)
question_targeted _ = None

-- the question that a descriptor of a record names: one of the sender's
abbrev pub question_described : DecodedRecord → Descriptor → Option TableKey
question_described (Wire sent k call references m) (ReceiverAnswer n path) = Some (id k sent n)
question_described _ _ = None

-- the questions that a record uses: its target's, its descriptors', the one that it finishes, and the one whose results
-- it takes. A late Return counts too
abbrev pub questions_used : DecodedRecord → List TableKey
questions_used e = option_to_list (question_targeted e) ++ filter_map (question_described e) (descriptors e) ++ option_to_list (question_finished e) ++ option_to_list (question_taken e)

-- the number that a record's target names: one of the receiver's exports
abbrev pub number_targeted : DecodedRecord → Option TableKey
number_targeted (Wire sent k call references (Call head (Imported n) params)) = Some (id k (not sent) n)
number_targeted (Wire sent k call references (Disembargo number loopback (Imported n))) = Some (id k (not sent) n)
number_targeted _ = None

-- the number that a descriptor of a record uses: receiverHosted names one of the receiver's exports
abbrev pub number_described : DecodedRecord → Descriptor → Option TableKey
number_described (Wire sent k call references m) (ReceiverHosted n) = Some (id k (not sent) n)
number_described _ _ = None

-- the number that a record releases: one of the receiver's exports
abbrev pub number_released : DecodedRecord → Option TableKey
number_released (Wire sent k call references (Release n count)) = Some (id k (not sent) n)
number_released _ = None

-- the numbers that a record uses: its target's, its descriptors', and the one that it releases. A late Return's
-- descriptors count too
abbrev pub numbers_used : DecodedRecord → List TableKey
numbers_used e = option_to_list (number_targeted e) ++ filter_map (number_described e) (descriptors e) ++ option_to_list (number_released e)

-- (rpc.capnp, Call.questionId: a number that differs from those of all other calls in progress)
-- QNEW: a question number that is opened is free
abbrev pub OpensFree : Past → DecodedRecord → Type 0
OpensFree before e = IfSome (question_opened e) (λ q. IsTrue (is_free q before))

-- (rpc.capnp, Return.answerId, Finish.questionId and PromisedAnswer.questionId)
-- QUSE: a question that a record uses is opened and no Finish has passed; one that it returns is opened and no Return
-- has passed; one whose results it takes was opened by a Call whose results are to be sent elsewhere, and they weren't
-- taken since
pub record UsesQuestions (before : Past) (e : DecodedRecord) : Type 0 where
  pub used : IsTrue (list_all (λ q. is_unfinished q before) (questions_used e))
  pub returned_once : IfSome (question_returned e) (λ q. IsTrue (is_unreturned q before))
  pub taken_once : IfSome (question_taken e) (λ q. IsTrue (is_tail (opening q before) && not (is_taken q before)))

-- (rpc.capnp, MessageTarget.importedCap, CapDescriptor.receiverHosted, Release.id and ExportId)
-- XUSE: each number that a record uses is in life
abbrev pub UsesNumbers : Past → DecodedRecord → Type 0
UsesNumbers before e = IsTrue (list_all (λ i. is_in_life i before) (numbers_used e))
