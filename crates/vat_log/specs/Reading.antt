-- Reading a log (docs/FORMATS.md) from left to right, with the first fault that is met. A field is read at a place in
-- the bytes, counted from 0, and gives its value and the place after it.
use Rattle.std.specs.Prelude.{◌≡◌, ℕ, zero, suc, ◌+◌, List, [], ◌∷◌, length, slice_index, slice_range, Option, Some, None, Result, Ok, Err, nat_lt, nat_eq, ◌==◌, if◌then◌else◌}
use Rattle.std.specs.List.{starts_with}
use Rattle.std.specs.Int.{Width, w16, w32, w64, byte_len, from_le_bytes}
use Rattle.vat_log.specs.declared.body.Body.{Body}
use Rattle.vat_log.specs.declared.body.Body.TheVariants as body
use Rattle.vat_log.specs.declared.error.LogError.{LogError}
use Rattle.vat_log.specs.declared.error.LogError.TheVariants.{BadMagic, Short, BadKind, ZeroNumber, TooLong, OutOfMemory}
use Rattle.vat_log.specs.declared.spelling.kind.RecordKind.{RecordKind}
use Rattle.vat_log.specs.declared.spelling.kind.RecordKind.TheVariants.{Host, Vow, Fulfil, Break, Make, Field, Deliver, Answer, Fault, Send, Receive, AnswerBy}
use Rattle.vat_log.specs.declared.passage.Passage.{Passage}
use Rattle.vat_log.specs.declared.version.LogVersion.{LogVersion}
use Rattle.vat_log.specs.declared.version.LogVersion.TheVariants.{One, Two, Three}
use Rattle.vat_log.specs.Fits.{count_limit, frame_limit, record_limit}
use Rattle.vat_log.specs.Log.{Log}
use Rattle.vat_log.specs.Spelling.{log_magic, count_width}

infixl 10 ◌>>=◌
abbrev pub ◌>>=◌ : {A B : Type 0} → Result A LogError → (A → Result B LogError) → Result B LogError
(Ok x) >>= f = f x
(Err e) >>= f = Err e

-- out of memory may come in the place of any answer; each other fault is the reading's
abbrev pub Fails : {Y : Type 0} → LogError → Result Y LogError → Type 0
Fails OutOfMemory read = Unit {0}
Fails e read = read ≡ Err e

-- What a function returned, seen by view, is what reading gives, unless memory ran out.
abbrev pub GivesInMemory : {X Y : Type 0} → (X → Y) → Result X LogError → Result Y LogError → Type 0
GivesInMemory view (Ok x) read = read ≡ Ok (view x)
GivesInMemory view (Err e) read = Fails e read

-- a number of this width
unfoldable pub number_at : Width → List ℕ → ℕ → Result (ℕ × ℕ) LogError
number_at width bytes at =
    if nat_lt (length bytes) (at + byte_len width) then Err (Short at)
    else Ok (from_le_bytes width (slice_range bytes at (at + byte_len width)), at + byte_len width)

-- a reference or a call that isn't 0
unfoldable pub nonzero_at : List ℕ → ℕ → Result (ℕ × ℕ) LogError
nonzero_at bytes at = do
  number ← number_at w64 bytes at
  if number.0 == 0 then Err (ZeroNumber at) else Ok number

-- so many of them, one after the other
unfoldable pub many_at : {A : Type 0} → (ℕ → Result (A × ℕ) LogError) → ℕ → ℕ → Result (List A × ℕ) LogError
many_at item zero at = Ok ([], at)
many_at item (suc count) at = do
  first ← item at
  others ← many_at item count first.1
  Ok (first.0 ∷ others.0, others.1)

-- a count: a number of the version's width, within its limit
unfoldable pub count_at : LogVersion → List ℕ → ℕ → Result (ℕ × ℕ) LogError
count_at version bytes at = do
  count ← number_at (count_width version) bytes at
  if nat_lt count_limit count.0 then Err TooLong else Ok count

-- a list: its count, and so many of them
unfoldable pub list_at : {A : Type 0} → LogVersion → (ℕ → Result (A × ℕ) LogError) → List ℕ → ℕ → Result (List A × ℕ) LogError
list_at version item bytes at = do
  count ← count_at version bytes at
  many_at item count.0 count.1

-- a path: a list of pointer field numbers
abbrev pub path_at : LogVersion → List ℕ → ℕ → Result (List ℕ × ℕ) LogError
path_at version bytes at = list_at version (number_at w16 bytes) bytes at

-- a result: its reference, and the path at which it stands
unfoldable pub answered_at : LogVersion → List ℕ → ℕ → Result ((ℕ × List ℕ) × ℕ) LogError
answered_at version bytes at = do
  reference ← nonzero_at bytes at
  path ← path_at version bytes reference.1
  Ok ((reference.0, path.0), path.1)

-- a frame: its length, and so many bytes, which are one field
unfoldable pub frame_at : List ℕ → ℕ → Result (List ℕ × ℕ) LogError
frame_at bytes at = do
  size ← number_at w32 bytes at
  if nat_lt frame_limit size.0 then Err TooLong
      else if nat_lt (length bytes) (size.1 + size.0) then Err (Short size.1)
      else Ok (slice_range bytes size.1 (size.1 + size.0), size.1 + size.0)

-- a frame on a connection, with what is noted beside it
unfoldable pub passage_at : LogVersion → List ℕ → ℕ → Result (Passage × ℕ) LogError
passage_at version bytes at = do
  connection ← number_at w32 bytes at
  call ← number_at w64 bytes connection.1
  references ← list_at version (nonzero_at bytes) bytes call.1
  frame ← frame_at bytes references.1
  Ok (record { connection = connection.0; call = call.0; references = references.0; frame = frame.0 }, frame.1)

unfoldable pub host_at : List ℕ → ℕ → Result (Body × ℕ) LogError
host_at bytes at = do
  reference ← nonzero_at bytes at
  object ← number_at w64 bytes reference.1
  Ok (body.Host reference.0 object.0, object.1)

unfoldable pub vow_at : List ℕ → ℕ → Result (Body × ℕ) LogError
vow_at bytes at = do
  reference ← nonzero_at bytes at
  Ok (body.Vow reference.0, reference.1)

unfoldable pub fulfil_at : List ℕ → ℕ → Result (Body × ℕ) LogError
fulfil_at bytes at = do
  reference ← nonzero_at bytes at
  to ← nonzero_at bytes reference.1
  Ok (body.Fulfil reference.0 to.0, to.1)

unfoldable pub break_at : List ℕ → ℕ → Result (Body × ℕ) LogError
break_at bytes at = do
  reference ← nonzero_at bytes at
  Ok (body.Break reference.0, reference.1)

unfoldable pub make_at : List ℕ → ℕ → Result (Body × ℕ) LogError
make_at bytes at = do
  call ← nonzero_at bytes at
  reference ← nonzero_at bytes call.1
  interface ← number_at w64 bytes reference.1
  method ← number_at w16 bytes interface.1
  Ok (body.Make call.0 reference.0 interface.0 method.0, method.1)

unfoldable pub field_at : LogVersion → List ℕ → ℕ → Result (Body × ℕ) LogError
field_at version bytes at = do
  reference ← nonzero_at bytes at
  call ← nonzero_at bytes reference.1
  path ← path_at version bytes call.1
  Ok (body.Field reference.0 call.0 path.0, path.1)

unfoldable pub deliver_at : List ℕ → ℕ → Result (Body × ℕ) LogError
deliver_at bytes at = do
  call ← nonzero_at bytes at
  object ← number_at w64 bytes call.1
  Ok (body.Deliver call.0 object.0, object.1)

unfoldable pub answer_at : LogVersion → List ℕ → ℕ → Result (Body × ℕ) LogError
answer_at version bytes at = do
  call ← nonzero_at bytes at
  results ← list_at version (answered_at version bytes) bytes call.1
  Ok (body.Answer call.0 results.0, results.1)

unfoldable pub fault_at : List ℕ → ℕ → Result (Body × ℕ) LogError
fault_at bytes at = do
  call ← nonzero_at bytes at
  Ok (body.Fault call.0, call.1)

unfoldable pub send_at : LogVersion → List ℕ → ℕ → Result (Body × ℕ) LogError
send_at version bytes at = do
  passage ← passage_at version bytes at
  Ok (body.Send passage.0.connection passage.0.call passage.0.references passage.0.frame, passage.1)

unfoldable pub receive_at : LogVersion → List ℕ → ℕ → Result (Body × ℕ) LogError
receive_at version bytes at = do
  passage ← passage_at version bytes at
  Ok (body.Receive passage.0.connection passage.0.call passage.0.references passage.0.frame, passage.1)

unfoldable pub answer_by_at : List ℕ → ℕ → Result (Body × ℕ) LogError
answer_by_at bytes at = do
  call ← nonzero_at bytes at
  by ← nonzero_at bytes call.1
  Ok (body.AnswerBy call.0 by.0, by.1)

-- the fields of a record of this kind
abbrev pub fields_at : LogVersion → RecordKind → List ℕ → ℕ → Result (Body × ℕ) LogError
fields_at version Host bytes at = host_at bytes at
fields_at version Vow bytes at = vow_at bytes at
fields_at version Fulfil bytes at = fulfil_at bytes at
fields_at version Break bytes at = break_at bytes at
fields_at version Make bytes at = make_at bytes at
fields_at version Field bytes at = field_at version bytes at
fields_at version Deliver bytes at = deliver_at bytes at
fields_at version Answer bytes at = answer_at version bytes at
fields_at version Fault bytes at = fault_at bytes at
fields_at version Send bytes at = send_at version bytes at
fields_at version Receive bytes at = receive_at version bytes at
fields_at version AnswerBy bytes at = answer_by_at bytes at

-- the kind that a byte stands for
unfoldable pub kind_with : ℕ → Option RecordKind
kind_with byte =
    if byte == 1 then Some Host
    else if byte == 2 then Some Vow
    else if byte == 3 then Some Fulfil
    else if byte == 4 then Some Break
    else if byte == 5 then Some Make
    else if byte == 6 then Some Field
    else if byte == 7 then Some Deliver
    else if byte == 8 then Some Answer
    else if byte == 9 then Some Fault
    else if byte == 10 then Some Send
    else if byte == 11 then Some Receive
    else if byte == 12 then Some AnswerBy
    else None

abbrev pub known_kind : Option RecordKind → ℕ → Result RecordKind LogError
known_kind (Some kind) at = Ok kind
known_kind None at = Err (BadKind at)

-- the kind of the record that begins at this place, before the end
unfoldable pub kind_at : List ℕ → ℕ → Result RecordKind LogError
kind_at bytes at = known_kind (kind_with (slice_index bytes at)) at

-- The records from this place to the end, of which there may be so many.
unfoldable pub records_at : LogVersion → List ℕ → ℕ → ℕ → Result (List Body) LogError
records_at version bytes zero at =
    if nat_lt at (length bytes) then (do
      kind ← kind_at bytes at
      Err TooLong)
    else Ok []
records_at version bytes (suc left) at =
    if nat_lt at (length bytes) then (do
      kind ← kind_at bytes at
      first ← fields_at version kind bytes (at + 1)
      others ← records_at version bytes left first.1
      Ok (first.0 ∷ others))
    else Ok []

-- the version whose magic stands before all else
unfoldable pub version_at : List ℕ → Result LogVersion LogError
version_at bytes =
    if starts_with nat_eq bytes (log_magic One) then Ok One
    else if starts_with nat_eq bytes (log_magic Two) then Ok Two
    else if starts_with nat_eq bytes (log_magic Three) then Ok Three
    else Err BadMagic

-- The header of a log: its version and its vat, as a log without records.
unfoldable pub header_of : List ℕ → Result Log LogError
header_of bytes = do
  version ← version_at bytes
  vat ← number_at w32 bytes 8
  Ok (record { version = version; vat = vat.0; records = [] })

-- The log that these bytes spell, of so many records at most, or the first fault.
unfoldable pub log_within : ℕ → List ℕ → Result Log LogError
log_within limit bytes = do
  version ← version_at bytes
  vat ← number_at w32 bytes 8
  records ← records_at version bytes limit vat.1
  Ok (record { version = version; vat = vat.0; records = records })

-- The log that these bytes spell, or the first fault.
abbrev pub log_of : List ℕ → Result Log LogError
log_of bytes = log_within record_limit bytes
