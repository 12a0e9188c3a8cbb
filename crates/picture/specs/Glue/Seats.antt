-- For the code's contracts, and no part of the meaning: vats while the records of a case come one by one.
use Rattle.std.specs.Prelude.{ℕ, ◌+◌, ◌==◌, ◌&&◌, Bool, List, [], ◌∷◌, ◌++◌, length, map, find, remove, Option, Some, None, is_some, option_and_then, if◌then◌else◌, nat_lt, slice_get}
use Rattle.std.specs.List.{position_from}
use Rattle.std.specs.Option.{option_map}
use Rattle.vat_log.specs.Log.{Log}
use Rattle.vat_log.specs.Passages.{passage_of}
use Rattle.vat_log.specs.declared.body.Body.{Body}
use Rattle.case_book.specs.Case.{or_else}
use Rattle.case_book.specs.declared.link.Link.{Link}
use Rattle.picture.specs.Flow.{is_free_to_come, takes_frame}
use Rattle.picture.specs.Places.{vat_at_other_end}
use Rattle.picture.specs.declared.order.flow.VatTurn.{VatTurn}

-- a vat: its log, how many records of it came, and the connections of the frames that are under way to it, the one that was
-- sent first in front
pub record Seat : Type 0 where
  pub log : Log
  pub came : ℕ
  pub coming : List ℕ

-- before the first record
abbrev pub seat_of : Log → Seat
seat_of log = record { log = log; came = 0; coming = [] }

abbrev pub seats_of : List Log → List Seat
seats_of logs = map seat_of logs

-- its record that comes next, if one is left
abbrev pub next_of_seat : Seat → Option Body
next_of_seat seat = slice_get seat.log.records seat.came

-- the place of the first frame that is under way on a connection
abbrev pub first_on : ℕ → List ℕ → Option ℕ
first_on connection coming = position_from (λ on. on == connection) 0 coming

-- there is one
abbrev pub is_coming : List ℕ → ℕ → Bool
is_coming coming connection = is_some (first_on connection coming)

-- ---- whose record comes next

abbrev pub seat_receives : Seat → Bool
seat_receives seat = takes_frame (is_coming seat.coming) (option_and_then passage_of (next_of_seat seat))

abbrev pub seat_goes_on : Seat → Bool
seat_goes_on seat = is_free_to_come (is_coming seat.coming) (next_of_seat seat)

abbrev pub seat_goes_to_receive : Seat → Bool
seat_goes_to_receive seat = seat_goes_on seat && nat_lt 0 (length seat.coming)

abbrev pub next_seat : List Seat → Option Seat
next_seat seats = or_else (find seat_receives seats) (or_else (find seat_goes_to_receive seats) (find seat_goes_on seats))

-- ---- what a record changes

-- the connection on which it receives a frame
abbrev pub received_in : Option (Bool × ℕ) → Option ℕ
received_in None = None
received_in (Some passage) = if passage.0 then None else Some passage.1

-- the vat to which it sends a frame, and on which connection
abbrev pub frame_addressee : List Link → ℕ → Option (Bool × ℕ) → Option (ℕ × ℕ)
frame_addressee links vat None = None
frame_addressee links vat (Some passage) = if passage.0 then option_map (λ to. (to, passage.1)) (vat_at_other_end links passage.1 vat) else None

-- the turn of a vat
abbrev pub vat_turn_by : List Link → ℕ → Option (Bool × ℕ) → VatTurn
vat_turn_by links vat passage = record { vat = vat; received = received_in passage; sent = frame_addressee links vat passage }

abbrev pub turn_of_seat : List Link → Seat → VatTurn
turn_of_seat links seat = vat_turn_by links seat.log.vat (option_and_then passage_of (next_of_seat seat))

-- one record further, if one is left
abbrev pub next_position : ℕ → ℕ → ℕ
next_position came records = if nat_lt came records then came + 1 else came

-- without the item of this place, if there is one
abbrev pub without : Option ℕ → List ℕ → List ℕ
without None coming = coming
without (Some at) coming = remove coming at

-- a frame that is received is under way no more
abbrev pub taken : Option ℕ → List ℕ → List ℕ
taken None coming = coming
taken (Some connection) coming = without (first_on connection coming) coming

-- a frame that is sent to a vat is under way to it, behind the others
abbrev pub heard : ℕ → Option (ℕ × ℕ) → List ℕ → List ℕ
heard vat None coming = coming
heard vat (Some sent) coming = if sent.0 == vat then coming ++ sent.1 ∷ [] else coming

-- a vat after its own turn, but for what it hears
abbrev pub gone_on : VatTurn → Seat → Seat
gone_on turn seat = record { log = seat.log; came = next_position seat.came (length seat.log.records); coming = taken turn.received seat.coming }

-- a vat that hears what is sent in a turn
abbrev pub hearing : VatTurn → Seat → Seat
hearing turn seat = record { log = seat.log; came = seat.came; coming = heard seat.log.vat turn.sent seat.coming }

-- a vat after a turn, of its own or of another's
abbrev pub followed : VatTurn → Seat → Seat
followed turn seat = hearing turn (if turn.vat == seat.log.vat then gone_on turn seat else seat)

abbrev pub seats_after : VatTurn → List Seat → List Seat
seats_after turn seats = map (followed turn) seats
