-- What a picture shows of a case: a column for each vat, a row for each record of the window, an arrow for each message.
use Rattle.std.specs.Prelude.{ℕ, ◌+◌, ◌-◌, ◌/◌, ◌==◌, ◌&&◌, Bool, true, false, List, [], ◌∷◌, drop, length, map, take, Option, Some, None, option_and_then, unwrap_or, if◌then◌else◌, nat_lt, nat_le, slice_get}
use Rattle.std.specs.List.{filter_map, range_with_len}
use Rattle.std.specs.Option.{option_map}
use Rattle.rpc_view.specs.declared.message.RpcMessage.{RpcMessage}
use Rattle.rpc_view.specs.declared.message.RpcMessage.TheVariants as messages
use Rattle.rpc_view.specs.declared.message.Outcome.{Outcome}
use Rattle.rpc_view.specs.declared.message.Outcome.TheVariants as outcomes
use Rattle.exception_reasons.specs.Reasons.{reason_of_record}
use Rattle.vat_log.specs.Log.{Log}
use Rattle.vat_log.specs.declared.body.Body.{Body}
use Rattle.vat_rules.specs.Audit.{edition_of}
use Rattle.run_model.specs.Steps.{vat_of}
use Rattle.run_model.specs.declared.step.Step.{Step}
use Rattle.run_model.specs.declared.step.Step.TheVariants.{Make}
use Rattle.run_model.specs.declared.name.Name.{Name}
use Rattle.case_book.specs.Case.{Contents}
use Rattle.case_report.specs.declared.report.Report.{Report}
use Rattle.case_report.specs.declared.report.Report.TheVariants as reports
use Rattle.report_lines.specs.StepText.{call_of_step}
use Rattle.picture.specs.Endings.{is_unended}
use Rattle.picture.specs.Places.{place_of_nth, record_number, step_of_place, log_by_vat, column_of, place_of_frame, place_of_record, mate_of, message_of_body, is_late_return}
use Rattle.vat_log.specs.Passages.{passage_of}
use Rattle.picture.specs.declared.record_place.Place.{Place}
use Rattle.picture.specs.declared.call_makers.Maker.{Maker}
use Rattle.picture.specs.declared.focus.Focus.{Focus}
use Rattle.picture.specs.declared.window.Window.{Window}
use Rattle.picture.specs.declared.window.Asked.{Asked}
use Rattle.picture.specs.declared.window.Gap.{Gap}
use Rattle.picture.specs.declared.row.Tone.{Tone}
use Rattle.picture.specs.declared.row.Tone.TheVariants.{Plain, Kin, Named, Fault}
use Rattle.picture.specs.declared.columns.Column.{Column}
use Rattle.picture.specs.declared.arrow.Arrow.{Arrow}
use Rattle.picture.specs.declared.arrow.Reach.{Reach}
use Rattle.picture.specs.declared.arrow.Reach.TheVariants.{At, Below, Above, Nowhere}
use Rattle.picture.specs.declared.arrow.Stroke.{Stroke}
use Rattle.picture.specs.declared.arrow.Stroke.TheVariants as strokes

-- ---- what the verdict names

-- the record by which a vat received the message of this number on a connection
abbrev pub receipt_of_frame : List Log → ℕ → ℕ → ℕ → Option Place
receipt_of_frame logs connection vat number = option_and_then (place_of_frame false connection number) (log_by_vat logs vat)

-- the record at a step of an order
abbrev pub place_at : List ℕ → ℕ → Option Place
place_at order step = option_map (λ vat. place_of_record vat (record_number order step vat)) (slice_get order step)

-- the record that a verdict names
abbrev pub named_by : Contents → List ℕ → Report → Option Place
named_by held order (reports.Vat vat at broken) = Some (place_of_record vat at)
named_by held order (reports.OutsideVat vat at why) = Some (place_of_record vat at)
named_by held order (reports.Link connection end number) = receipt_of_frame held.logs connection end number
named_by held order (reports.OrderStep step) = place_at order step
named_by held order _ = None

-- the record of this place
abbrev pub body_at : List Log → Place → Option Body
body_at logs place = option_and_then (λ log. slice_get log.records place.number) (log_by_vat logs place.vat)

-- the other end of the message of a record
abbrev pub mate_at : Contents → Place → Option Place
mate_at held place = option_and_then (mate_of held place) (body_at held.logs place)

-- where the verdict is on a link, the other end of its message
abbrev pub mate_by : Contents → Report → Option Place
mate_by held (reports.Link connection end number) = option_and_then (mate_at held) (receipt_of_frame held.logs connection end number)
mate_by held _ = None

-- ---- the window

abbrev pub least_of : ℕ → ℕ → ℕ
least_of a b = if nat_lt a b then a else b

abbrev pub greater_of : ℕ → ℕ → ℕ
greater_of a b = if nat_lt a b then b else a

-- how many rows are drawn at most: two hundred in a picture, five thousand on a page
abbrev pub limit_of : Bool → ℕ
limit_of page = if page then 5000 else 200

-- how many steps are wanted: as many as are drawn at most, or fewer where fewer are asked for
abbrev pub wanted_in : ℕ → Option ℕ → ℕ
wanted_in limit None = limit
wanted_in limit (Some count) = least_of count limit

abbrev pub wanted_of : Asked → ℕ
wanted_of asked = wanted_in (limit_of asked.page) asked.count

-- the first step that is drawn, of so many: the one that is asked for, or the one that has half of those that are wanted
-- between it and the step that the verdict names
abbrev pub first_of : ℕ → ℕ → Asked → ℕ
first_of steps middle asked = least_of (unwrap_or asked.from (middle - wanted_of asked / 2)) steps

-- the steps that are drawn from the first one on
abbrev pub window_from : ℕ → ℕ → Asked → Window
window_from steps first asked = record { from = first; count = least_of (wanted_of asked) (steps - first) }

-- the window of so many steps
abbrev pub window_of : ℕ → ℕ → Asked → Window
window_of steps middle asked = window_from steps (first_of steps middle asked) asked

-- the step that the verdict names, or the first
abbrev pub middle_of : List ℕ → Option Place → ℕ
middle_of order place = unwrap_or (option_and_then (step_of_place order) place) 0

-- the row of a step, counted from 0, where it is in the window
abbrev pub row_in : Window → ℕ → Option ℕ
row_in window step =
    if nat_le window.from step && nat_lt (step - window.from) window.count then Some (step - window.from) else None

-- the row of a record
abbrev pub row_of_place : List ℕ → Window → Place → Option ℕ
row_of_place order window place = option_and_then (row_in window) (step_of_place order place)

-- how many lines are free below the row at fault, if there is one
abbrev pub room_in : Option Gap → ℕ
room_in None = 0
room_in (Some gap) = gap.room

-- how many of them are above a row
abbrev pub room_above : Option Gap → ℕ → ℕ
room_above None row = 0
room_above (Some gap) row = if nat_lt gap.row row then gap.room else 0

-- the line of a row: further down, below the row at fault
abbrev pub line_of_row : Option Gap → ℕ → ℕ
line_of_row gap row = row + room_above gap row

-- ---- the sentence of what is broken, which stands below the row at fault

-- a letter ends a line of it, behind so many letters: a blank behind the 84th
abbrev pub ends_line : ℕ → ℕ → Bool
ends_line at letter = (letter == 32) && nat_lt 84 at

-- how often a line ends in a text, of which so many letters stand before it in its first line
abbrev pub breaks_from : ℕ → List ℕ → ℕ
breaks_from at [] = 0
breaks_from at (letter ∷ text) = if ends_line at letter then breaks_from 0 text + 1 else breaks_from (at + 1) text

-- how many lines of rows a sentence takes, each for two lines of its own: with the first one, for whatever the row has below it
abbrev pub room_of : Option (List ℕ) → ℕ
room_of None = 1
room_of (Some sentence) = 1 + (least_of (breaks_from 0 sentence) 9 + 1) / 2

-- the row at fault, and the lines below it
abbrev pub gap_of : Option (List ℕ) → Option ℕ → Option Gap
gap_of sentence None = None
gap_of sentence (Some row) = Some (record { row = row; room = room_of sentence })

-- ---- calls of one reference

-- the call that a record names, in the run of all records
abbrev pub call_at_place : List Step → Place → Option Name
call_at_place steps place = option_and_then (λ at. option_and_then call_of_step (slice_get steps at))
    (place_of_nth (λ step. vat_of step == place.vat) place.number steps)

-- who made a call, where this step makes it
abbrev pub maker_by : Name → Step → Option Maker
maker_by call (Make vat number cap reference interface method) =
    if (vat == call.maker) && (number == call.number) then Some (record { vat = vat; reference = reference }) else None
maker_by call _ = None

-- the vat that made a call, and its reference through which it made it
abbrev pub maker_of : List Step → Name → Option Maker
maker_of steps call = slice_get (filter_map (maker_by call) steps) 0

-- the same of the call that a record names
abbrev pub maker_at : List Step → Place → Option Maker
maker_at steps place = option_and_then (maker_of steps) (call_at_place steps place)

-- both are there, and the same
abbrev pub are_kin : Option Maker → Option Maker → Bool
are_kin (Some one) (Some other) = (one.vat == other.vat) && (one.reference == other.reference)
are_kin _ _ = false

-- ---- what is drawn

-- a case, an order of its records, the steps of a run of all of them (or none), what the verdict names, who made the call
-- that it names and through which reference, the window, the sentence of what is broken, and the row at fault
pub record Scene : Type 0 where
  pub held : Contents
  pub order : List ℕ
  pub steps : List Step
  pub focus : Focus
  pub maker : Option Maker
  pub window : Window
  pub sentence : Option (List ℕ)
  pub gap : Option Gap

abbrev pub focus_of : Contents → List ℕ → Report → Focus
focus_of held order told = record { at = named_by held order told; mate = mate_by held told }

abbrev pub scene_in : Contents → List ℕ → List Step → Focus → Option (List ℕ) → Window → Scene
scene_in held order steps focus sentence window = record {
  held = held;
  order = order;
  steps = steps;
  focus = focus;
  maker = option_and_then (maker_at steps) focus.at;
  window = window;
  sentence = sentence;
  gap = gap_of sentence (option_and_then (row_of_place order window) focus.at);
}

-- what is drawn of a case, in this order, for its report and its sentence: the window that is asked for, or the one around what
-- is named
abbrev pub scene_of : Contents → List ℕ → List Step → Report → Option (List ℕ) → Asked → Scene
scene_of held order steps told sentence asked =
    scene_in held order steps (focus_of held order told) sentence (window_of (length order) (middle_of order (named_by held order told)) asked)

-- ---- rows

-- it is this record
abbrev pub is_place : Option Place → Place → Bool
is_place (Some one) other = (one.vat == other.vat) && (one.number == other.number)
is_place None other = false

-- how a record is marked: as the one at fault, as the other end of its message, as a call made through the same reference
abbrev pub tone_of : Scene → Place → Tone
tone_of scene place =
    if is_place scene.focus.at place then Fault
    else (if is_place scene.focus.mate place then Named
    else (if are_kin scene.maker (maker_at scene.steps place) then Kin else Plain))

-- a row: its record, its column and line, what it says, its message and the reason of its exception, whether it is a late
-- Return, whether it makes or sends a call that never ended, and how it is marked
pub record Drawn : Type 0 where
  pub place : Place
  pub column : ℕ
  pub line : ℕ
  pub body : Body
  pub message : Option RpcMessage
  pub reason : Option (List ℕ)
  pub late : Bool
  pub unended : Bool
  pub tone : Tone

-- a record of a log is a Return that is late
abbrev pub late_in : Log → ℕ → Body → Bool
late_in log number event = is_late_return (edition_of log) (passage_of event) (message_of_body (edition_of log) event) (take number log.records)

-- the row of a record of a log, whose frames are read by the log's edition
abbrev pub drawn : Scene → ℕ → Place → Log → Body → Drawn
drawn scene row place log event = record {
  place = place;
  column = column_of scene.held.logs place.vat;
  line = line_of_row scene.gap row;
  body = event;
  message = message_of_body (edition_of log) event;
  reason = reason_of_record event;
  late = late_in log place.number event;
  unended = is_unended (edition_of log) event (message_of_body (edition_of log) event) (drop place.number log.records);
  tone = tone_of scene place;
}

-- the same of a place
abbrev pub drawn_in : Scene → ℕ → Place → Log → Option Drawn
drawn_in scene row place log = option_map (drawn scene row place log) (slice_get log.records place.number)

abbrev pub drawn_at : Scene → ℕ → Place → Option Drawn
drawn_at scene row place = option_and_then (drawn_in scene row place) (log_by_vat scene.held.logs place.vat)

-- the row of this number: the record that comes at its step
abbrev pub row_at : Scene → ℕ → Option Drawn
row_at scene row = option_and_then (drawn_at scene row) (place_at scene.order (scene.window.from + row))

-- all rows of the window, from above
abbrev pub rows_of : Scene → List Drawn
rows_of scene = filter_map (row_at scene) (range_with_len 0 scene.window.count)

-- ---- arrows

-- the stroke of what a Return says of its call
abbrev pub outcome_stroke : Outcome → Stroke
outcome_stroke outcomes.Canceled = strokes.Canceled
outcome_stroke outcomes.Elsewhere = strokes.Tail
outcome_stroke (outcomes.TakeFrom question) = strokes.Tail
outcome_stroke _ = strokes.Plain

-- the stroke of a message: a late Return, a canceled one, what is part of a tail call, or another
abbrev pub stroke_of : Bool → Option RpcMessage → Stroke
stroke_of late (Some (messages.Return head outcome)) = if late then strokes.Late else outcome_stroke outcome
stroke_of late (Some (messages.Call head target params)) = if head.yourself then strokes.Tail else strokes.Plain
stroke_of late _ = strokes.Plain

-- how many lines there are
abbrev pub lines_of : Option Gap → ℕ → ℕ
lines_of gap rows = rows + room_in gap

-- out of the window: downwards where it is received later, upwards where it was sent before
abbrev pub reach_away : Scene → Bool → ℕ → Reach
reach_away scene true column = Below column (lines_of scene.gap scene.window.count)
reach_away scene false column = Above column

-- where an arrow goes to, or comes from, in this column: the other end's row, or out of the window
abbrev pub reach_in : Scene → Bool → ℕ → Option ℕ → Reach
reach_in scene sent column (Some row) = At column (line_of_row scene.gap row)
reach_in scene sent column None = reach_away scene sent column

-- where the other end is; nowhere, if there is none
abbrev pub reach_of : Scene → Bool → Option Place → Reach
reach_of scene sent None = Nowhere
reach_of scene sent (Some mate) = reach_in scene sent (column_of scene.held.logs mate.vat) (row_of_place scene.order scene.window mate)

-- What is received in one row and sent in another is drawn from the other.
abbrev pub is_drawn_there : Bool → Reach → Bool
is_drawn_there false (At column line) = true
is_drawn_there _ _ = false

-- the record of this number is a Return that is late, if the log has it
abbrev pub late_number : ℕ → Log → Bool
late_number number log = unwrap_or (option_map (late_in log number) (slice_get log.records number)) false

-- the same of a place
abbrev pub late_at : List Log → Place → Bool
late_at logs place = unwrap_or (option_map (late_number place.number) (log_by_vat logs place.vat)) false

-- a message is a Return that is late at this end or at the other one
abbrev pub is_late_at_an_end : List Log → Bool → Option Place → Bool
is_late_at_an_end logs late None = late
is_late_at_an_end logs late (Some mate) = if late then true else late_at logs mate

-- the arrow of a row, that goes so far
abbrev pub arrow_to : Drawn → Bool → Bool → Reach → Option Arrow
arrow_to row sent late reach = if is_drawn_there sent reach then None else Some (record {
  column = row.column;
  line = row.line;
  sent = sent;
  reach = reach;
  stroke = stroke_of late row.message;
  tone = row.tone;
})

abbrev pub arrow_by : Scene → Drawn → (Bool × ℕ) → Option Arrow
arrow_by scene row passage = arrow_to row passage.0 (is_late_at_an_end scene.held.logs row.late (mate_of scene.held row.place row.body))
    (reach_of scene passage.0 (mate_of scene.held row.place row.body))

-- the arrow of a row, where it has one
abbrev pub arrow_of : Scene → Drawn → Option Arrow
arrow_of scene row = option_and_then (arrow_by scene row) (passage_of row.body)

-- all arrows, by the rows from which they are drawn
abbrev pub arrows_of : Scene → List Drawn → List Arrow
arrows_of scene rows = filter_map (arrow_of scene) rows

-- ---- columns

-- a vat's column, down to this line
abbrev pub column_at : List Log → ℕ → Log → Column
column_at logs line log = record { vat = log.vat; column = column_of logs log.vat; line = line }

-- the columns of all vats
abbrev pub columns_of : List Log → ℕ → List Column
columns_of logs line = map (column_at logs line) logs
