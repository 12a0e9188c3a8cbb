-- For the code's contracts, and no part of the meaning: what a record does to the calls of its vat, by what is stored of it.
use Rattle.std.specs.Prelude.{◌==◌, ℕ, if◌then◌else◌}
use Rattle.call_order.specs.declared.deeds.Deed.TheVariants as deed
use Rattle.call_order.specs.declared.deeds.Deed.{Deed}
use Rattle.vat_log.specs.declared.body.Body.TheVariants.{Host, Vow, Fulfil, Break, Make, Field, Deliver, Answer, AnswerBy, Fault, Send, Receive}
use Rattle.vat_log.specs.declared.body.Body.{Body}

-- what a record does that passes a message: nothing to calls, where it notes none
abbrev pub passed : Deed → ℕ → Deed
passed d c = if c == 0 then deed.Other else d

-- what a record does
abbrev pub deed_of : Body → Deed
deed_of (Make c r interface method) = deed.Make c r
deed_of (Deliver c object) = deed.Deliver c
deed_of (Send k c references frame) = passed (deed.Send k c) c
deed_of (Receive k c references frame) = passed (deed.Receive k c) c
deed_of (Answer c results) = deed.End c
deed_of (AnswerBy c by) = deed.End c
deed_of (Fault c) = deed.End c
deed_of (Host r object) = deed.Other
deed_of (Vow r) = deed.Other
deed_of (Fulfil r to) = deed.Other
deed_of (Break r) = deed.Other
deed_of (Field r c path) = deed.Other
