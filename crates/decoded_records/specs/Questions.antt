-- Questions: when they are opened, returned and finished, and the calls that they stand for (rpc.capnp, the comments
-- of QuestionId, Bootstrap, Call, Return and Finish).
use Rattle.std.specs.Prelude.{ℕ, Bool, true, false, not, ◌&&◌, ◌||◌, Option, Some, None, if◌then◌else◌, is_some, option_map}
use Rattle.decoded_records.specs.Types.{Bootstrap, Call, Return, TakeFrom, Finish, DecodedRecord, Wire, TableKey}
use Rattle.decoded_records.specs.Past.{Past, Point, id, names, last_where, last_since}

-- the question that a record opens: Bootstrap and Call go the way of the one who asks
abbrev pub question_opened : DecodedRecord → Option TableKey
question_opened (Wire sent k call references (Bootstrap q)) = Some (id k sent q)
question_opened (Wire sent k call references (Call head target params)) = Some (id k sent head.question)
question_opened _ = None

-- the question that a record returns: a Return goes the other way
abbrev pub question_returned : DecodedRecord → Option TableKey
question_returned (Wire sent k call references (Return head outcome)) = Some (id k (not sent) head.answer)
question_returned _ = None

-- (rpc.capnp, Return.noFinishNeeded)
-- the question that a record returns lightly: by a Return that says that no Finish is needed
abbrev pub question_returned_lightly : DecodedRecord → Option TableKey
question_returned_lightly (Wire sent k call references (Return head outcome)) = if head.light then Some (id k (not sent) head.answer) else None
question_returned_lightly _ = None

-- the question that a record finishes: a Finish goes the way of the one who asks
abbrev pub question_finished : DecodedRecord → Option TableKey
question_finished (Wire sent k call references (Finish q release)) = Some (id k sent q)
question_finished _ = None

-- the question whose results a record gives back: a Finish with releaseResultCaps true
abbrev pub question_released : DecodedRecord → Option TableKey
question_released (Wire sent k call references (Finish q true)) = Some (id k sent q)
question_released _ = None

-- a record opens this question
abbrev pub opens : TableKey → Past → DecodedRecord → Bool
opens q before e = names q (question_opened e)

-- a record returns this question
abbrev pub returns : TableKey → Past → DecodedRecord → Bool
returns q before e = names q (question_returned e)

-- a record returns this question lightly
abbrev pub returns_lightly : TableKey → Past → DecodedRecord → Bool
returns_lightly q before e = names q (question_returned_lightly e)

-- a record finishes this question
abbrev pub finishes : TableKey → Past → DecodedRecord → Bool
finishes q before e = names q (question_finished e)

-- a record gives back the results of this question
abbrev pub releases : TableKey → Past → DecodedRecord → Bool
releases q before e = names q (question_released e)

-- the last opening of a question
abbrev pub opening : TableKey → Past → Option Point
opening q past = last_where (opens q) past

-- its Return, which has passed since
abbrev pub return_of : TableKey → Past → Option Point
return_of q past = last_since (opens q) (returns q) past

-- its Finish, which has passed since
abbrev pub finish_of : TableKey → Past → Option Point
finish_of q past = last_since (opens q) (finishes q) past

-- a question was opened
abbrev pub is_opened : TableKey → Past → Bool
is_opened q past = is_some (opening q past)

-- its Return has passed since the last opening
abbrev pub is_returned : TableKey → Past → Bool
is_returned q past = is_some (return_of q past)

-- its Finish has passed since the last opening
abbrev pub is_finished : TableKey → Past → Bool
is_finished q past = is_some (finish_of q past)

-- a Return that says that no Finish is needed has passed since the last opening
abbrev pub is_returned_lightly : TableKey → Past → Bool
is_returned_lightly q past = is_some (last_since (opens q) (returns_lightly q) past)

-- its Finish with releaseResultCaps true has passed since the last opening
abbrev pub is_released : TableKey → Past → Bool
is_released q past = is_some (last_since (opens q) (releases q) past)

-- a record is a Call whose results are to be sent elsewhere (rpc.capnp, Call.sendResultsTo.yourself)
abbrev pub asks_elsewhere : DecodedRecord → Bool
asks_elsewhere (Wire sent k call references (Call head target params)) = head.yourself
asks_elsewhere _ = false

-- an opening is such a Call
abbrev pub is_tail : Option Point → Bool
is_tail (Some p) = asks_elsewhere p.event
is_tail None = false

-- (rpc.capnp, Return.takeFromOtherQuestion)
-- the question whose results a record takes: a Return that takes them names one of its own sender's
abbrev pub question_taken : DecodedRecord → Option TableKey
question_taken (Wire sent k call references (Return head (TakeFrom n))) = Some (id k sent n)
question_taken _ = None

-- a record takes the results of this question
abbrev pub takes_results : TableKey → Past → DecodedRecord → Bool
takes_results q before e = names q (question_taken e)

-- its results were taken since the last opening; a late Return takes them too
abbrev pub is_taken : TableKey → Past → Bool
is_taken q past = is_some (last_since (opens q) (takes_results q) past)

-- a question is over when never opened, or when both Return and Finish have passed since the last opening
abbrev pub is_over : TableKey → Past → Bool
is_over q past = not (is_opened q past) || (is_returned q past && is_finished q past)

-- its number is free, to be opened, when it is over, and behind a Return that says that no Finish is needed
abbrev pub is_free : TableKey → Past → Bool
is_free q past = is_over q past || is_returned_lightly q past

-- a question is opened and no Finish has passed
abbrev pub is_unfinished : TableKey → Past → Bool
is_unfinished q past = is_opened q past && not (is_finished q past)

-- a question is opened and no Return has passed
abbrev pub is_unreturned : TableKey → Past → Bool
is_unreturned q past = is_opened q past && not (is_returned q past)

-- the call noted beside a record; 0 where none is
abbrev pub noted_call : DecodedRecord → ℕ
noted_call (Wire sent k call references m) = call
noted_call _ = 0

-- the call of an opening
abbrev pub call_at : Option Point → Option ℕ
call_at p = option_map (λ p. noted_call p.event) p

-- a question that isn't over stands for the call of its last opening
abbrev pub call_of : TableKey → Past → Option ℕ
call_of q past = if is_over q past then None else call_at (opening q past)

-- a Return is late where a Finish with releaseResultCaps true passed before it, for the same opening of its question
abbrev pub is_late : Past → DecodedRecord → Bool
is_late before (Wire sent k call references (Return head outcome)) = is_released (id k (not sent) head.answer) before
is_late before _ = false

-- the record whose introductions a record gives back: a Return with releaseParamCaps true its opening, which may be a
-- Call; a Finish with releaseResultCaps true the Return of its opening, if that has passed
abbrev pub closes : Past → DecodedRecord → Option Point
closes before (Wire sent k call references (Return head outcome)) = if head.release_param_caps then opening (id k (not sent) head.answer) before else None
closes before (Wire sent k call references (Finish q true)) = return_of (id k sent q) before
closes before _ = None
