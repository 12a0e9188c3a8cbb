-- The text of a page: a picture, and beside it a table of its records. Each row of the one leads to that of the other.
use Rattle.std.specs.Prelude.{ℕ, Bool, true, List, ◌++◌, Option, Some, None, if◌then◌else◌, codes}
use Rattle.std.specs.Fmt.{decimal}
use Rattle.std.specs.List.{flat_map}
use Rattle.rpc_view.specs.declared.message.RpcMessage.{RpcMessage}
use Rattle.vat_log.specs.declared.body.Body.{Body}
use Rattle.vat_log.specs.declared.body.Body.TheVariants.{Send, Receive}
use Rattle.case_report.specs.declared.report.Report.{Report}
use Rattle.report_lines.specs.Lines.{report_text}
use Rattle.report_lines.specs.MessageText.{message_text}
use Rattle.report_lines.specs.RecordText.{body_text}
use Rattle.picture.specs.ReasonText.{whole_reason}
use Rattle.picture.specs.Rows.{Drawn}
use Rattle.picture.specs.Picture.{linked_text, picture_text, row_name_text, svg_text, tone_word}
use Rattle.picture.specs.declared.drawing.Picture.{Picture}
use Rattle.picture.specs.declared.record_place.Place.{Place}
use Rattle.picture.specs.declared.row.Tone.{Tone}

-- what the table has of a record: the same as `records`, but for a frame that isn't read
abbrev pub listed_words : Body → Option RpcMessage → List ℕ
listed_words event (Some said) = body_text event ++ (codes " " ++ message_text said)
listed_words (Send connection call references frame) None = body_text (Send connection call references frame) ++ codes " unread"
listed_words (Receive connection call references frame) None = body_text (Receive connection call references frame) ++ codes " unread"
listed_words event None = body_text event

-- and behind it the reason of its exception
abbrev pub listed_said : Body → Option RpcMessage → Option (List ℕ) → List ℕ
listed_said event said reason = listed_words event said ++ whole_reason reason

-- a row of the table, which leads to its row of the picture
abbrev pub listed_begin : Place → Tone → List ℕ
listed_begin place tone = codes "<tr id='record-" ++ (row_name_text place ++ (codes "' class='" ++ (tone_word tone ++ codes "'>")))

abbrev pub listed_link : Place → List ℕ
listed_link place = codes "<td><a href='#row-" ++ (row_name_text place ++ (codes "'>" ++ (decimal place.vat ++ codes "</a></td>")))

abbrev pub listed_cells : ℕ → List ℕ → List ℕ
listed_cells number words = codes "<td>" ++ (decimal number ++ (codes "</td><td>" ++ (words ++ codes "</td></tr>\n")))

abbrev pub listed_text : Drawn → List ℕ
listed_text row = listed_begin row.place row.tone ++ (listed_link row.place ++ listed_cells row.place.number (listed_said row.body row.message row.reason))

-- how the page is laid out: the picture and the table are moved each by itself
abbrev pub layout : List ℕ
layout = codes "<style>\nhtml,body{margin:0;height:100%;background:#fff;color:#1b1f24}\nbody{display:grid;grid-template-columns:minmax(0,3fr) minmax(0,2fr);font:13px ui-monospace,Menlo,Consolas,monospace}\n.drawn,.listed{height:100vh;overflow:auto}.listed{border-left:1px solid #c4cad1}\ntable{border-collapse:collapse}th,td{padding:2px 8px;text-align:left;vertical-align:top}th{position:sticky;top:0;background:#fff}tr{scroll-margin-top:40vh}\na{color:inherit}.listed .kin{color:#1f5fae}.listed .named{background:#fbe4e2}.listed .fault{color:#b3261e;font-weight:700}\n.listed tr:target{background:#fff3c4}.drawn a:target text{text-decoration:underline}\n"

-- its colours on a dark page
abbrev pub dark_layout : List ℕ
dark_layout = codes "@media(prefers-color-scheme:dark){\nhtml,body,th{background:#14171a;color:#e4e7ea}.listed{border-color:#4a525b}.listed .kin{color:#8ab8ff}.listed .named{background:#4a1f1c}.listed .fault{color:#ff8a80}.listed tr:target{background:#4d4315}}\n</style>\n"

-- all of its style
unfoldable pub page_style : List ℕ
page_style = layout ++ dark_layout

-- a page, up to its picture
abbrev pub page_begin : Report → List ℕ
page_begin told = codes "<!DOCTYPE html>\n<html lang='en'>\n<head><meta charset='utf-8'><title>" ++ (report_text told
    ++ (codes "</title>\n" ++ (page_style ++ codes "</head>\n<body>\n<div class='drawn'>\n")))

-- a page
abbrev pub page_text : Picture → List ℕ
page_text picture = page_begin picture.report.now ++ (svg_text true picture
    ++ (codes "</div>\n<div class='listed'>\n<table>\n<thead><tr><th>vat</th><th>record</th><th>what it says</th></tr></thead>\n<tbody>\n"
    ++ (flat_map listed_text picture.rows.items ++ codes "</tbody>\n</table>\n</div>\n</body>\n</html>\n")))

-- a picture, or a page with it
abbrev pub drawn_text : Bool → Picture → List ℕ
drawn_text page picture = if page then page_text picture else picture_text picture
