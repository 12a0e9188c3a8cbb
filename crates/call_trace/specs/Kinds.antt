-- Kinds of records.
use Rattle.std.specs.Prelude.{Bool, true, false}
use Rattle.call_trace.specs.Types.{Bootstrap, Call, Return, Finish, Resolve, Release, Disembargo, Abort, DecodedRecord, Host, Vow, Fulfil, Break, Make, Field, Deliver, Answer, AnswerBy, Fault, Wire}

-- a record of what a vat makes by itself: it hosts an object, vows, keeps or breaks a promise, makes or boots a call, names a
-- field, or sends a message in which neither a call nor a cap goes on
abbrev pub is_own_making : DecodedRecord → Bool
is_own_making (Host r object) = true
is_own_making (Vow r) = true
is_own_making (Fulfil r to) = true
is_own_making (Break r) = true
is_own_making (Make c r interface method) = true
is_own_making (Field r c path) = true
is_own_making (Wire true k c references (Bootstrap q)) = true
is_own_making (Wire true k c references (Finish q release)) = true
is_own_making (Wire true k c references (Release n count)) = true
is_own_making (Wire true k c references (Disembargo n loopback target)) = true
is_own_making (Wire true k c references Abort) = true
is_own_making (Wire true k c references (Call head target params)) = false
is_own_making (Wire true k c references (Return head outcome)) = false
is_own_making (Wire true k c references (Resolve n resolution)) = false
is_own_making (Wire false k c references m) = false
is_own_making (Deliver c object) = false
is_own_making (Answer c results) = false
is_own_making (AnswerBy c by) = false
is_own_making (Fault c) = false
