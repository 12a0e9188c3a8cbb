-- Where records stand: in the logs of their vats, in an order of them all, and at the other end of their message.
use Rattle.std.specs.Prelude.{ℕ, ◌+◌, ◌-◌, ◌==◌, Bool, true, false, not, List, [], ◌∷◌, ◌++◌, length, replicate, take, count_by, find, Option, Some, None, option_and_then, unwrap_or, fold, if◌then◌else◌, nat_lt, slice_get}
use Rattle.std.specs.List.{flat_map}
use Rattle.std.specs.Option.{option_map}
use Rattle.std.specs.Result.{result_ok}
use Rattle.cap_reader.specs.Defaults.{default_limits}
use Rattle.rpc_view.specs.Message.{message_of_bytes}
use Rattle.rpc_view.specs.declared.edition.Edition.{Edition}
use Rattle.rpc_view.specs.declared.message.RpcMessage.{RpcMessage}
use Rattle.rpc_view.specs.declared.message.RpcMessage.TheVariants as messages
use Rattle.vat_log.specs.Log.{Log}
use Rattle.vat_log.specs.declared.body.Body.{Body}
use Rattle.vat_log.specs.Passages.{passage_of, passes, frame_of}
use Rattle.case_book.specs.Case.{Contents}
use Rattle.case_book.specs.declared.link.Link.{Link}
use Rattle.picture.specs.declared.record_place.Place.{Place}

-- the places of the items that pass a test, in a list whose first place is given
abbrev pub positions_from : {X : Type 0} → (X → Bool) → ℕ → List X → List ℕ
positions_from test at [] = []
positions_from test at (x ∷ xs) = if test x then at ∷ positions_from test (at + 1) xs else positions_from test (at + 1) xs

-- the place of the item of this number among those that pass a test, each counted from 0
abbrev pub place_of_nth : {X : Type 0} → (X → Bool) → ℕ → List X → Option ℕ
place_of_nth test number xs = slice_get (positions_from test 0 xs) number

-- there is an item, and it passes
abbrev pub passes_in : {X : Type 0} → (X → Bool) → Option X → Bool
passes_in test None = false
passes_in test (Some x) = test x

-- a vat, or a step of an order, is this one's
abbrev pub is_vat : ℕ → ℕ → Bool
is_vat vat other = other == vat

-- the number of the record of a vat that comes at a step: how many steps of the vat stand before it
abbrev pub record_number : List ℕ → ℕ → ℕ → ℕ
record_number order step vat = count_by (is_vat vat) (take step order)

-- the step at which a record comes
abbrev pub step_of_place : List ℕ → Place → Option ℕ
step_of_place order place = place_of_nth (is_vat place.vat) place.number order

-- the log of a vat
abbrev pub log_by_vat : List Log → ℕ → Option Log
log_by_vat logs vat = find (λ log. log.vat == vat) logs

-- the column of a vat: how many have smaller numbers
abbrev pub column_of : List Log → ℕ → ℕ
column_of logs vat = count_by (λ log. nat_lt log.vat vat) logs

-- how many of a log's records before this one send, or receive, a frame on the connection
abbrev pub frames_before : Bool → ℕ → List Body → ℕ → ℕ
frames_before sent connection records number = count_by (passes sent connection) (take number records)

-- the vat at the other end of a link
abbrev pub other_end_of : ℕ → Link → Option ℕ
other_end_of vat link = if link.a == vat then Some link.b else (if link.b == vat then Some link.a else None)

-- the vat at the other end of a connection
abbrev pub vat_at_other_end : List Link → ℕ → ℕ → Option ℕ
vat_at_other_end links connection vat = option_and_then (other_end_of vat) (find (λ link. link.connection == connection) links)

-- the record of a vat
abbrev pub place_of_record : ℕ → ℕ → Place
place_of_record vat number = record { vat = vat; number = number }

-- the record of a log that has the frame of this number among those that it sends, or receives, on the connection
abbrev pub place_of_frame : Bool → ℕ → ℕ → Log → Option Place
place_of_frame sent connection frame log = option_map (place_of_record log.vat) (place_of_nth (passes sent connection) frame log.records)

-- of the n-th frame that a vat sends on a connection the n-th that the other end receives, and the other way round
abbrev pub mate_from : Contents → Bool → ℕ → ℕ → Log → Option Place
mate_from held sent connection number own =
    option_and_then (λ vat. option_and_then (place_of_frame (not sent) connection (frames_before sent connection own.records number)) (log_by_vat held.logs vat))
    (vat_at_other_end held.links connection own.vat)

-- the same of a record of a vat that sends, or receives, on a connection
abbrev pub mate_on : Contents → Place → (Bool × ℕ) → Option Place
mate_on held place passage = option_and_then (mate_from held passage.0 passage.1 place.number) (log_by_vat held.logs place.vat)

-- the record at the other end of the message of this one, where it has a message and there is one
abbrev pub mate_of : Contents → Place → Body → Option Place
mate_of held place event = option_and_then (mate_on held place) (passage_of event)

-- the message of a record, where it has one that is read by an edition, within the default limits
abbrev pub message_of_body : Edition → Body → Option RpcMessage
message_of_body edition b = option_and_then (λ frame. result_ok (message_of_bytes edition frame default_limits)) (frame_of b)

-- what a message does to a question: it opens it (false), or finishes it and gives its results back (true)
abbrev pub question_turn_of : ℕ → RpcMessage → Option Bool
question_turn_of question (messages.Bootstrap opened) = if opened == question then Some false else None
question_turn_of question (messages.Call head target params) = if head.question == question then Some false else None
question_turn_of question (messages.Finish finished true) = if finished == question then Some true else None
question_turn_of question _ = None

-- the same of a record, where it goes the way of the one who asks: sent or received, on the connection
abbrev pub question_turn_by : Edition → Bool → ℕ → ℕ → Body → Option Bool
question_turn_by edition asks connection question event =
    if passes asks connection event then option_and_then (question_turn_of question) (message_of_body edition event) else None

-- the last turn of a question in these records gives its results back
abbrev pub is_given_back : Edition → Bool → ℕ → ℕ → List Body → Bool
is_given_back edition asks connection question records =
    fold (λ released event. unwrap_or (question_turn_by edition asks connection question event) released) false records

-- a message that passes so is a Return that is late, behind these records: a Finish with releaseResultCaps passed since its
-- question was opened
abbrev pub is_late_return : Edition → Option (Bool × ℕ) → Option RpcMessage → List Body → Bool
is_late_return edition (Some passage) (Some (messages.Return head outcome)) before =
    is_given_back edition (not passage.0) passage.1 head.answer before
is_late_return edition passage said before = false

-- the steps that an order leaves of a log, each of them its vat's
abbrev pub steps_left : List ℕ → Log → List ℕ
steps_left order log = replicate (length log.records - count_by (is_vat log.vat) order) log.vat

-- an order, and behind it what it leaves, by rising vat number
abbrev pub completed : List Log → List ℕ → List ℕ
completed logs order = order ++ flat_map (steps_left order) logs
