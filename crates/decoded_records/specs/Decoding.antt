-- From the records of a log to those that are judged: their frames are read as messages.
use Rattle.std.specs.Prelude.{ℕ, List, true, false, Result, Ok, Err}
use Rattle.vat_log.specs.declared.body.Body.{Body}
use Rattle.vat_log.specs.declared.body.Body.TheVariants as body
use Rattle.decoded_records.specs.Types.{RpcMessage, DecodedRecord, Host, Vow, Fulfil, Break, Make, Field, Deliver, Answer, AnswerBy, Fault, Wire}

-- a frame's message makes the record
abbrev pub made_with : {E : Type 0} → (RpcMessage → DecodedRecord) → Result RpcMessage E → Result DecodedRecord E
made_with event (Ok m) = Ok (event m)
made_with event (Err e) = Err e

-- a record of a log as it is judged, with its message read, or why its frame isn't read
abbrev pub decoded_by : {E : Type 0} → (List ℕ → Result RpcMessage E) → Body → Result DecodedRecord E
decoded_by read (body.Host r object) = Ok (Host r object)
decoded_by read (body.Vow r) = Ok (Vow r)
decoded_by read (body.Fulfil r to) = Ok (Fulfil r to)
decoded_by read (body.Break r) = Ok (Break r)
decoded_by read (body.Make call r interface method) = Ok (Make call r interface method)
decoded_by read (body.Field r call path) = Ok (Field r call path)
decoded_by read (body.Deliver call object) = Ok (Deliver call object)
decoded_by read (body.Answer call results) = Ok (Answer call results)
decoded_by read (body.Fault call) = Ok (Fault call)
decoded_by read (body.Send connection call references frame) = made_with (Wire true connection call references) (read frame)
decoded_by read (body.Receive connection call references frame) = made_with (Wire false connection call references) (read frame)
decoded_by read (body.AnswerBy call by) = Ok (AnswerBy call by)
