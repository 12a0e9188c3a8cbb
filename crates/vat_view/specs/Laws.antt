-- Laws: what holds of every log whose records keep the rules that are named. `src/laws.rt` promises them.
use Rattle.std.specs.Prelude.{ℕ, ◌+◌, List, [], ◌∷◌, ◌++◌, Bool, if◌then◌else◌, IsTrue, ⊤}
use Rattle.vat_view.specs.Types.{DecodedRecord, TableKey}
use Rattle.decoded_records.specs.Past.{Past}
use Rattle.decoded_records.specs.Lives.{is_in_life}

-- how many records pass a test, of those after the last that passes another
abbrev pub count_since : (Past → DecodedRecord → Bool) → (Past → DecodedRecord → Bool) → Past → ℕ
count_since start test [] = 0
count_since start test (e ∷ before) = if start before e then 0 else (if test before e then 1 else 0) + count_since start test before

-- a number is in life at a point, and after each of the records that follow it
abbrev pub LivesOn : TableKey → List DecodedRecord → Past → Type 0
LivesOn i [] past = IsTrue (is_in_life i past)
LivesOn i (e ∷ later) past = IsTrue (is_in_life i ((e ∷ later) ++ past)) × LivesOn i later past

-- each of the records that follow a point is so, by those before it
abbrev pub EachAfter : (Past → DecodedRecord → Type 0) → List DecodedRecord → Past → Type 0
EachAfter P [] past = ⊤
EachAfter P (e ∷ later) past = P (later ++ past) e × EachAfter P later past
