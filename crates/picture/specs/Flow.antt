-- The order in which the records of a case are drawn, where the case names none: whoever receives goes on first, so that each
-- frame is received as soon as may be. An order is a list of vats: each step is the next record of its vat. Which vat comes
-- next is said by looking back over the steps before.
use Rattle.std.specs.Prelude.{ℕ, zero, suc, ◌-◌, Bool, true, false, not, ◌&&◌, ◌||◌, List, [], ◌++◌, length, count_by, find, sum_by, Option, Some, None, option_and_then, option_to_list, nat_lt, slice_get}
use Rattle.std.specs.List.{list_any}
use Rattle.std.specs.Option.{option_map, option_map_or}
use Rattle.vat_log.specs.Log.{Log}
use Rattle.vat_log.specs.Passages.{passage_of}
use Rattle.vat_log.specs.declared.body.Body.{Body}
use Rattle.case_book.specs.Case.{Contents, or_else}
use Rattle.picture.specs.Places.{frames_before, is_vat, log_by_vat, vat_at_other_end}

-- ---- what came before

-- how many records of a log came: one with each step of its vat
abbrev pub came : List ℕ → Log → ℕ
came before log = count_by (is_vat log.vat) before

-- its record that comes next, if one is left
abbrev pub next_record_in : List ℕ → Log → Option Body
next_record_in before log = slice_get log.records (came before log)

-- how many frames its records that came sent, or received, on a connection
abbrev pub frames_passed_by : Bool → ℕ → List ℕ → Log → ℕ
frames_passed_by sent connection before log = frames_before sent connection log.records (came before log)

-- the log of the vat at the other end of a connection
abbrev pub other_log : Contents → ℕ → ℕ → Option Log
other_log held connection vat = option_and_then (log_by_vat held.logs) (vat_at_other_end held.links connection vat)

-- how many frames were sent to a vat on a connection: those that the vat at its other end sent
abbrev pub frames_sent_to : Contents → List ℕ → ℕ → ℕ → ℕ
frames_sent_to held before connection vat = option_map_or (frames_passed_by true connection before) (other_log held connection vat) 0

-- how many of them are under way: it hasn't received them yet
abbrev pub frames_under_way : Contents → List ℕ → Log → ℕ → ℕ
frames_under_way held before log connection = frames_sent_to held before connection log.vat - frames_passed_by false connection before log

-- a frame is under way to it on a connection
abbrev pub is_awaited : Contents → List ℕ → Log → ℕ → Bool
is_awaited held before log connection = nat_lt 0 (frames_under_way held before log connection)

-- a frame is under way to it at all, on the connection of some link
abbrev pub is_reached : Contents → List ℕ → Log → Bool
is_reached held before log = list_any (λ link. is_awaited held before log link.connection) held.links

-- ---- the vat that comes next

-- what passes so is received, on a connection on which one is awaited
abbrev pub takes_frame : (ℕ → Bool) → Option (Bool × ℕ) → Bool
takes_frame awaited None = false
takes_frame awaited (Some passage) = not passage.0 && awaited passage.1

-- a record that passes nothing, or passes so, may come: a frame is under way before it is received
abbrev pub may_pass : (ℕ → Bool) → Option (Bool × ℕ) → Bool
may_pass awaited None = true
may_pass awaited (Some passage) = passage.0 || awaited passage.1

-- there is a record, and it may come
abbrev pub is_free_to_come : (ℕ → Bool) → Option Body → Bool
is_free_to_come awaited None = false
is_free_to_come awaited (Some event) = may_pass awaited (passage_of event)

-- a vat's next record receives a frame that is under way
abbrev pub receives_sent_frame : Contents → List ℕ → Log → Bool
receives_sent_frame held before log = takes_frame (is_awaited held before log) (option_and_then passage_of (next_record_in before log))

-- a vat may go on
abbrev pub goes_on : Contents → List ℕ → Log → Bool
goes_on held before log = is_free_to_come (is_awaited held before log) (next_record_in before log)

-- it may, and a frame is under way to it
abbrev pub goes_to_receive : Contents → List ℕ → Log → Bool
goes_to_receive held before log = goes_on held before log && is_reached held before log

-- the log whose record comes next: the first that receives a frame, or else the first that may go on and to which a frame is
-- under way, or else the first that may go on
abbrev pub next_log : Contents → List ℕ → Option Log
next_log held before =
    or_else (find (receives_sent_frame held before) held.logs) (or_else (find (goes_to_receive held before) held.logs) (find (goes_on held before) held.logs))

-- the vat of that log
abbrev pub next_after : Contents → List ℕ → Option ℕ
next_after held before = option_map (λ log. log.vat) (next_log held before)

-- ---- the order

-- an order, and behind it the vat that comes next, if one may go on
abbrev pub with_next : Contents → List ℕ → List ℕ
with_next held before = before ++ option_to_list (next_after held before)

-- the first steps of the order, so many at most
unfoldable pub flow : Contents → ℕ → List ℕ
flow held zero = []
flow held (suc steps) = with_next held (flow held steps)

-- how many records there are
abbrev pub record_count : List Log → ℕ
record_count logs = sum_by (λ log. length log.records) logs

-- the whole order: as far as the logs go, or until no vat may go on
abbrev pub flow_of : Contents → List ℕ
flow_of held = flow held (record_count held.logs)
