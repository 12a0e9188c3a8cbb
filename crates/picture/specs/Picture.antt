-- The text of a picture: an SVG in which each column, row and arrow is drawn, and nothing else but the line of `check`, the
-- sentence of what is broken, and how many steps are left out.
use Rattle.std.specs.Prelude.{◌≡◌, ℕ, ◌+◌, ◌-◌, ◌*◌, ◌==◌, Bool, false, List, [], ◌∷◌, ◌++◌, fold, length, encode_utf8, Option, Some, None, is_some, if◌then◌else◌, codes, IfSome}
use Rattle.std.specs.Fmt.{decimal}
use Rattle.std.specs.List.{flat_map}
use Rattle.std.specs.Option.{option_copied}
use Rattle.rpc_view.specs.declared.message.RpcMessage.{RpcMessage}
use Rattle.run_model.specs.declared.step.Step.{Step}
use Rattle.case_book.specs.Case.{Contents}
use Rattle.case_report.specs.declared.report.Report.{Report}
use Rattle.case_report.specs.declared.report.Report.TheVariants as reports
use Rattle.report_lines.specs.Lines.{breach_code, report_text}
use Rattle.report_lines.specs.Sentences.{IsPrintedLine}
use Rattle.picture.specs.Places.{completed}
use Rattle.vat_log.specs.Passages.{passage_of}
use Rattle.picture.specs.Flow.{flow_of}
use Rattle.picture.specs.Labels.{label_text}
use Rattle.picture.specs.Rows.{Drawn, arrows_of, columns_of, ends_line, greater_of, least_of, lines_of, room_in, rows_of, scene_of}
use Rattle.picture.specs.declared.record_place.Place.{Place}
use Rattle.picture.specs.declared.window.Asked.{Asked}
use Rattle.picture.specs.declared.window.Gap.{Gap}
use Rattle.picture.specs.declared.row.Tone.{Tone}
use Rattle.picture.specs.declared.row.Tone.TheVariants.{Plain, Kin, Named, Fault}
use Rattle.picture.specs.declared.columns.Column.{Column}
use Rattle.picture.specs.declared.arrow.Arrow.{Arrow}
use Rattle.picture.specs.declared.arrow.Reach.{Reach}
use Rattle.picture.specs.declared.arrow.Reach.TheVariants.{At, Below, Above, Nowhere}
use Rattle.picture.specs.declared.arrow.Stroke.{Stroke}
use Rattle.picture.specs.declared.arrow.Stroke.TheVariants as kinds
use Rattle.picture.specs.declared.svg.points.Point.{Point}
use Rattle.picture.specs.declared.drawing.Picture.{Picture}

-- ---- where things are, in pixels

-- a column
abbrev pub x_of : ℕ → ℕ
x_of column = 60 + 360 * column

-- a line
abbrev pub y_of : ℕ → ℕ
y_of line = 128 + 32 * line

abbrev pub point_at : ℕ → ℕ → Point
point_at column line = record { x = x_of column; y = y_of line }

abbrev pub point_text : Point → List ℕ
point_text point = decimal point.x ++ (codes "," ++ decimal point.y)

-- where the other end of an arrow is drawn, whose row is in this column and on this line
abbrev pub reach_point : ℕ → ℕ → Reach → Point
reach_point column line (At other other_line) = point_at other other_line
reach_point column line (Below other other_line) = point_at other other_line
reach_point column line (Above other) = record { x = x_of other; y = 104 }
reach_point column line Nowhere = record { x = x_of column - 30; y = y_of line + 10 }

-- ---- columns, rows and arrows

abbrev pub column_text : Column → List ℕ
column_text column = codes "<path class='life' d='M" ++ (decimal (x_of column.column) ++ (codes ",104V" ++ (decimal (y_of column.line)
    ++ (codes "'/><text class='vat' x='" ++ (decimal (x_of column.column) ++ (codes "' y='96' text-anchor='middle'>vat " ++ (decimal column.vat ++ codes "</text>\n")))))))

-- how what is marked so is painted
abbrev pub tone_word : Tone → List ℕ
tone_word Plain = codes "plain"
tone_word Kin = codes "kin"
tone_word Named = codes "named"
tone_word Fault = codes "named fault"

-- how an arrow is stroked
abbrev pub stroke_word : Stroke → List ℕ
stroke_word kinds.Plain = codes "arrow"
stroke_word kinds.Late = codes "arrow late"
stroke_word kinds.Canceled = codes "arrow canceled"
stroke_word kinds.Tail = codes "arrow tail"

-- from one point to another
abbrev pub line_text : Point → Point → List ℕ
line_text one other = codes "M" ++ (point_text one ++ (codes "L" ++ point_text other))

-- from its row where that sends, else to its row
abbrev pub arrow_line : Arrow → List ℕ
arrow_line arrow = if arrow.sent
    then line_text (point_at arrow.column arrow.line) (reach_point arrow.column arrow.line arrow.reach)
    else line_text (reach_point arrow.column arrow.line arrow.reach) (point_at arrow.column arrow.line)

abbrev pub arrow_text : Arrow → List ℕ
arrow_text arrow = codes "<g class='" ++ (tone_word arrow.tone ++ (codes "'><path class='" ++ (stroke_word arrow.stroke
    ++ (codes "' d='" ++ (arrow_line arrow ++ codes "'/></g>\n")))))

-- a band of this height, from there down
abbrev pub band_lines : ℕ → ℕ → List ℕ
band_lines top height = codes "<rect class='band' y='" ++ (decimal top ++ (codes "' width='100%' height='" ++ (decimal height ++ codes "'/>\n")))

abbrev pub band_of : ℕ → Tone → ℕ → List ℕ
band_of room Fault top = band_lines top (32 * room + 27)
band_of room Named top = band_lines top 30
band_of room _ top = []

-- the band behind a row that the verdict names: behind the one at fault it goes down over the lines of the sentence
abbrev pub band_text : ℕ → Drawn → List ℕ
band_text room row = band_of room row.tone (y_of row.line - 15)

-- the mark of a message, or of what a vat does by itself
abbrev pub mark_word : Option RpcMessage → List ℕ
mark_word said = if is_some said then codes "dot" else codes "own"

-- How far down the words of a row are: of what it sends above the arrow, which goes down from there; of what it receives
-- below the arrow, which comes from above; else beside the mark.
abbrev pub words_y : Option (Bool × ℕ) → ℕ → ℕ
words_y None y = y + 4
words_y (Some passage) y = if passage.0 then y - 5 else y + 11

-- a mark at a point, painted so
abbrev pub circle_text : List ℕ → List ℕ → Point → List ℕ
circle_text tone mark at = codes "<g class='" ++ (tone ++ (codes "'><circle class='" ++ (mark ++ (codes "' cx='" ++ (decimal at.x
    ++ (codes "' cy='" ++ (decimal at.y ++ codes "' r='3.5'/>")))))))

-- words that begin at a point
abbrev pub words_element : Point → List ℕ → List ℕ
words_element at words = codes "<text x='" ++ (decimal at.x ++ (codes "' y='" ++ (decimal at.y ++ (codes "'>" ++ (words ++ codes "</text></g>\n")))))

-- where the words of a row begin
abbrev pub words_begin_at : Drawn → Point
words_begin_at row = record { x = x_of row.column + 14; y = words_y (passage_of row.body) (y_of row.line) }

abbrev pub row_text : Drawn → List ℕ
row_text row = circle_text (tone_word row.tone) (mark_word row.message) (point_at row.column row.line)
    ++ words_element (words_begin_at row) (label_text row.place.number row.body row.message row.reason row.unended)

-- the name of a record, in the names of its rows
abbrev pub row_name_text : Place → List ℕ
row_name_text place = decimal place.vat ++ (codes "-" ++ decimal place.number)

-- a row that leads to the row of its record in a table
abbrev pub linked_text : Drawn → List ℕ
linked_text row = codes "<a id='row-" ++ (row_name_text row.place ++ (codes "' href='#record-" ++ (row_name_text row.place ++ (codes "'>" ++ (row_text row ++ codes "</a>\n")))))

-- a row, on a page or in a picture alone
abbrev pub shape_text : Bool → Drawn → List ℕ
shape_text linked row = if linked then linked_text row else row_text row

-- ---- beside them

-- the code of the rule that is broken
abbrev pub code_text : Report → List ℕ
code_text (reports.Vat vat at broken) = breach_code broken ++ codes ": "
code_text _ = []

-- where a line of the sentence ends
abbrev pub line_end : List ℕ
line_end = codes "</tspan><tspan x='60' dy='15'>"

-- a text in lines, of which so many letters stand before it in its first line
abbrev pub wrapped : ℕ → List ℕ → List ℕ
wrapped at [] = []
wrapped at (letter ∷ text) = if ends_line at letter then line_end ++ wrapped 0 text else encode_utf8 letter ++ wrapped (at + 1) text

-- the sentence, so far down
abbrev pub why_text : ℕ → Report → List ℕ → List ℕ
why_text y told sentence = codes "<text class='why' y='" ++ (decimal y
    ++ (codes "'><tspan x='60'>" ++ (code_text told ++ (wrapped 0 sentence ++ codes "</tspan></text>\n"))))

-- it stands below the row at fault, or below the line of `check` where that names no record; where the record isn't drawn it
-- is left out
abbrev pub sentence_text : Report → Option Gap → Option (List ℕ) → List ℕ
sentence_text told gap None = []
sentence_text told (Some gap) (Some sentence) = why_text (y_of gap.row + 32) told sentence
sentence_text reports.NoOrder None (Some sentence) = why_text 52 reports.NoOrder sentence
sentence_text told None (Some sentence) = []

-- how many steps are left out
abbrev pub left_out_text : ℕ → List ℕ → ℕ → List ℕ
left_out_text steps whence y = if steps == 0 then [] else codes "<text class='note' x='60' y='" ++ (decimal y
    ++ (codes "'>" ++ (decimal steps ++ (codes " steps " ++ (whence ++ codes " are left out</text>\n")))))

-- ---- the picture

-- letters, on a light page
abbrev pub letters : List ℕ
letters = codes "<style>\ntext{font:12px ui-monospace,Menlo,Consolas,monospace;fill:#1b1f24}\n.head{font-size:15px;font-weight:700}.vat{font-weight:700}.note{fill:#5b6570}.why{fill:#b3261e}\n.band~.why{stroke:#fbe4e2;stroke-width:4px;paint-order:stroke}\n.plain text,.kin text,.named text{stroke:#fff;stroke-width:4px;paint-order:stroke}.named text{stroke:#fbe4e2}\n"

-- lines
abbrev pub strokes : List ℕ
strokes = codes ".paper{fill:#fff}.life{stroke:#c4cad1;stroke-width:1.5}.band{fill:#fbe4e2}\n.arrow{stroke:#1b1f24;stroke-width:1.2;fill:none;marker-end:url(#tip)}.late{stroke-dasharray:7 4}.canceled{stroke-dasharray:2 4}.tail{stroke-dasharray:9 3 2 3}\n"

-- marks
abbrev pub marks : List ℕ
marks = codes ".dot,.tip{fill:#1b1f24}.tip{fill:context-stroke}.own{fill:#fff;stroke:#1b1f24;stroke-width:1.4}\n.kin text{fill:#1f5fae}.kin .dot{fill:#1f5fae}.kin .own,.kin path{stroke:#1f5fae}\n.fault text{fill:#b3261e;font-weight:700}.fault circle{stroke:#b3261e;fill:#b3261e}.fault path{stroke:#b3261e}\n"

-- the colours of all these on a dark page
abbrev pub dark : List ℕ
dark = codes "@media(prefers-color-scheme:dark){\ntext{fill:#e4e7ea}.note{fill:#9aa4ae}.why{fill:#ff8a80}.band~.why{stroke:#4a1f1c}.plain text,.kin text,.named text{stroke:#14171a}.named text{stroke:#4a1f1c}\n.paper{fill:#14171a}.life{stroke:#4a525b}.band{fill:#4a1f1c}.arrow{stroke:#e4e7ea}\n.dot,.tip{fill:#e4e7ea}.tip{fill:context-stroke}.own{fill:#14171a;stroke:#e4e7ea}.kin text{fill:#8ab8ff}.kin .dot{fill:#8ab8ff}.kin .own,.kin path{stroke:#8ab8ff}.fault text{fill:#ff8a80}.fault circle{stroke:#ff8a80;fill:#ff8a80}.fault path{stroke:#ff8a80}}\n</style>\n"

-- the tip of an arrow
abbrev pub tip : List ℕ
tip = codes "<defs><marker id='tip' viewBox='0 0 8 8' refX='11' refY='4' markerWidth='8' markerHeight='8' orient='auto'><path class='tip' d='M0,0L8,4L0,8z'/></marker></defs>\n<rect class='paper' width='100%' height='100%'/>\n"

-- what each picture begins with
unfoldable pub style : List ℕ
style = letters ++ (strokes ++ (marks ++ (dark ++ tip)))

-- how high a picture of so many lines is
abbrev pub height_of : ℕ → ℕ
height_of lines = y_of lines + 48

abbrev pub opening_tag : ℕ → ℕ → List ℕ
opening_tag width height = codes "<svg xmlns='http://www.w3.org/2000/svg' width='" ++ (decimal width ++ (codes "' height='" ++ (decimal height
    ++ (codes "' viewBox='0 0 " ++ (decimal width ++ (codes " " ++ (decimal height ++ codes "'>\n")))))))

-- the line of `check`
abbrev pub head_text : Report → List ℕ
head_text told = codes "<text class='head' x='60' y='30'>" ++ (report_text told ++ codes "</text>\n")

-- the bytes of a picture's sentence
abbrev pub sentence_of : Picture → Option (List ℕ)
sentence_of picture = option_copied picture.sentence

-- all of it, with rows that lead to those of a table, or without
abbrev pub svg_text : Bool → Picture → List ℕ
svg_text linked picture = opening_tag picture.width (height_of picture.lines) ++ (style ++ (flat_map (band_text (room_in picture.gap)) picture.rows.items
    ++ (head_text picture.report.now ++ (flat_map column_text picture.columns.items
    ++ (left_out_text picture.above (codes "above") 76 ++ (flat_map arrow_text picture.arrows.items ++ (flat_map (shape_text linked) picture.rows.items
    ++ (sentence_text picture.report.now picture.gap (sentence_of picture)
    ++ (left_out_text picture.below (codes "below") (y_of picture.lines + 34) ++ codes "</svg>\n")))))))))

-- a picture alone
abbrev pub picture_text : Picture → List ℕ
picture_text picture = svg_text false picture

-- ---- the picture of a case

-- how far to the right the words of a row go, and what is left free beside them: a letter is 8 wide at most, and 400 count,
-- an escaped one as the letters of its name
abbrev pub row_end : Drawn → ℕ
row_end row = x_of row.column + 8 * least_of (length (label_text row.place.number row.body row.message row.reason row.unended)) 400 + 30

-- the same of a sentence, which has lines
abbrev pub sentence_end : Option (List ℕ) → ℕ
sentence_end sentence = if is_some sentence then 860 else 0

-- how far to the right one of these rows goes, or else so far
abbrev pub farthest : ℕ → List Drawn → ℕ
farthest least rows = fold (λ far row. greater_of far (row_end row)) least rows

-- how wide a picture of so many vats is: there is room for each column, the sentence and the words of each row
abbrev pub width_of : ℕ → Option (List ℕ) → List Drawn → ℕ
width_of vats sentence rows = farthest (greater_of (x_of vats) (sentence_end sentence)) rows

-- the order in which the records of a case are drawn: the one that is given, or else the one in which each frame is received
-- as soon as may be, as far as it goes; and behind it what it leaves
abbrev pub arranged : Contents → Option (List ℕ) → List ℕ
arranged held (Some given) = completed held.logs given
arranged held None = completed held.logs (flow_of held)

-- what a picture shows: the columns of all vats, the rows of the window, and the arrows of their messages
pub record IsPictureOf (held : Contents) (order : List ℕ) (told : Report) (steps : List Step) (asked : Asked) (picture : Picture) : Type 0 where
  pub told_is : picture.report.now ≡ told
  pub sentence_is : IfSome (sentence_of picture) IsPrintedLine
  pub columns_are : picture.columns.items ≡ columns_of held.logs picture.lines
  pub rows_are : picture.rows.items ≡ rows_of (scene_of held order steps told (sentence_of picture) asked)
  pub arrows_are : picture.arrows.items ≡ arrows_of (scene_of held order steps told (sentence_of picture) asked) picture.rows.items
  pub gap_is : picture.gap ≡ (scene_of held order steps told (sentence_of picture) asked).gap
  pub lines_are : picture.lines ≡ lines_of picture.gap (scene_of held order steps told (sentence_of picture) asked).window.count
  pub above_are : picture.above ≡ (scene_of held order steps told (sentence_of picture) asked).window.from
  pub below_are : picture.below ≡ length order - (picture.above + (scene_of held order steps told (sentence_of picture) asked).window.count)
  pub width_is : picture.width ≡ width_of (length held.logs) (sentence_of picture) picture.rows.items
