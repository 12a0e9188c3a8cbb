-- The one spelling of each log in each version, in the project's own format (docs/FORMATS.md).
use Rattle.std.specs.Prelude.{ℕ, List, [], ◌∷◌, ◌++◌, length}
use Rattle.std.specs.List.{flat_map}
use Rattle.std.specs.Int.{Width, w16, w32, w64, to_le_bytes}
use Rattle.vat_log.specs.declared.body.Body.{Body}
use Rattle.vat_log.specs.declared.body.Body.TheVariants as body
use Rattle.vat_log.specs.declared.spelling.kind.RecordKind.{RecordKind}
use Rattle.vat_log.specs.declared.spelling.kind.RecordKind.TheVariants.{Host, Vow, Fulfil, Break, Make, Field, Deliver, Answer, Fault, Send, Receive, AnswerBy}
use Rattle.vat_log.specs.declared.version.LogVersion.{LogVersion}
use Rattle.vat_log.specs.declared.version.LogVersion.TheVariants.{One, Two, Three}
use Rattle.vat_log.specs.Log.{Log}

-- the bytes that begin a log of this version: VATLOG01, VATLOG02 or VATLOG03
abbrev pub log_magic : LogVersion → List ℕ
log_magic One = 86 ∷ 65 ∷ 84 ∷ 76 ∷ 79 ∷ 71 ∷ 48 ∷ 49 ∷ []
log_magic Two = 86 ∷ 65 ∷ 84 ∷ 76 ∷ 79 ∷ 71 ∷ 48 ∷ 50 ∷ []
log_magic Three = 86 ∷ 65 ∷ 84 ∷ 76 ∷ 79 ∷ 71 ∷ 48 ∷ 51 ∷ []

-- how wide a count is
abbrev pub count_width : LogVersion → Width
count_width One = w16
count_width Two = w32
count_width Three = w32

-- the byte that begins a record of this kind
abbrev pub kind_byte : RecordKind → ℕ
kind_byte Host = 1
kind_byte Vow = 2
kind_byte Fulfil = 3
kind_byte Break = 4
kind_byte Make = 5
kind_byte Field = 6
kind_byte Deliver = 7
kind_byte Answer = 8
kind_byte Fault = 9
kind_byte Send = 10
kind_byte Receive = 11
kind_byte AnswerBy = 12

-- a number of this width, its lowest byte first
unfoldable pub number_bytes : Width → ℕ → List ℕ
number_bytes width n = to_le_bytes width n

-- a list: how many there are, then one after the other
abbrev pub counted_list : {A : Type 0} → LogVersion → (A → List ℕ) → List A → List ℕ
counted_list version item xs = number_bytes (count_width version) (length xs) ++ flat_map item xs

-- a path: its pointer field numbers, of two bytes each
abbrev pub path_bytes : LogVersion → List ℕ → List ℕ
path_bytes version fields = counted_list version (number_bytes w16) fields

-- a result: its reference, and the path at which it stands
abbrev pub answered_bytes : LogVersion → ℕ × List ℕ → List ℕ
answered_bytes version answered = number_bytes w64 answered.0 ++ path_bytes version answered.1

-- references noted beside a frame
abbrev pub references_bytes : LogVersion → List ℕ → List ℕ
references_bytes version references = counted_list version (number_bytes w64) references

-- a frame: how many bytes it has in four bytes, then those
abbrev pub frame_bytes : List ℕ → List ℕ
frame_bytes frame = number_bytes w32 (length frame) ++ frame

-- a frame on a connection, with the call and the references that are noted beside it
abbrev pub passage_bytes : LogVersion → ℕ → ℕ → List ℕ → List ℕ → List ℕ
passage_bytes version connection call references frame =
    number_bytes w32 connection ++ (number_bytes w64 call ++ (references_bytes version references ++ frame_bytes frame))

-- the kind of the record that says this
abbrev pub kind_in : Body → RecordKind
kind_in (body.Host reference object) = Host
kind_in (body.Vow reference) = Vow
kind_in (body.Fulfil reference to) = Fulfil
kind_in (body.Break reference) = Break
kind_in (body.Make call reference interface method) = Make
kind_in (body.Field reference call path) = Field
kind_in (body.Deliver call object) = Deliver
kind_in (body.Answer call results) = Answer
kind_in (body.Fault call) = Fault
kind_in (body.Send connection call references frame) = Send
kind_in (body.Receive connection call references frame) = Receive
kind_in (body.AnswerBy call by) = AnswerBy

-- its fields, one after the other
abbrev pub fields_bytes : LogVersion → Body → List ℕ
fields_bytes version (body.Host reference object) = number_bytes w64 reference ++ number_bytes w64 object
fields_bytes version (body.Vow reference) = number_bytes w64 reference
fields_bytes version (body.Fulfil reference to) = number_bytes w64 reference ++ number_bytes w64 to
fields_bytes version (body.Break reference) = number_bytes w64 reference
fields_bytes version (body.Make call reference interface method) =
    number_bytes w64 call ++ (number_bytes w64 reference ++ (number_bytes w64 interface ++ number_bytes w16 method))
fields_bytes version (body.Field reference call path) =
    number_bytes w64 reference ++ (number_bytes w64 call ++ path_bytes version path)
fields_bytes version (body.Deliver call object) = number_bytes w64 call ++ number_bytes w64 object
fields_bytes version (body.Answer call results) = number_bytes w64 call ++ counted_list version (answered_bytes version) results
fields_bytes version (body.Fault call) = number_bytes w64 call
fields_bytes version (body.Send connection call references frame) = passage_bytes version connection call references frame
fields_bytes version (body.Receive connection call references frame) = passage_bytes version connection call references frame
fields_bytes version (body.AnswerBy call by) = number_bytes w64 call ++ number_bytes w64 by

-- a record: the byte of its kind, then its fields
abbrev pub record_bytes : LogVersion → Body → List ℕ
record_bytes version body = kind_byte (kind_in body) ∷ fields_bytes version body

-- a log: the magic, the vat, and its records one after the other
abbrev pub log_bytes : Log → List ℕ
log_bytes log =
    log_magic log.version ++ (number_bytes w32 log.vat ++ flat_map (record_bytes log.version) log.records)
