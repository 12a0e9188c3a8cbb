-- What is open at the end of one log (rpc.capnp, the comments of QuestionId, ExportId, ImportId, Return, Resolve, Release
-- and Disembargo).
use Rattle.std.specs.Prelude.{◌≡◌, ℕ, ◌+◌, ◌<◌, ◌⊎◌, Bool, false, not, ◌&&◌, Some, IsTrue}
use Rattle.std.specs.Option.{option_map_or}
use Rattle.left_open.specs.Types.{Loopback, Number, Open, Promise, PromiseView, Question, TableKey, Unfinished, Vow}
use Rattle.decoded_records.specs.Past.{Past, Point, record_index, record_at}
use Rattle.decoded_records.specs.Questions.{opening, is_returned, is_unreturned, is_free, noted_call}
use Rattle.decoded_records.specs.Loopbacks.{loopback_of}
use Rattle.decoded_records.specs.Lives.{Birth, birth, held, began_promised, is_resolved}
use Rattle.vat_view.specs.Walks.{next, stays}

-- the present life of a number began with a senderPromise, and no Resolve has passed in it
abbrev pub is_promise_unresolved : TableKey → Past → Bool
is_promise_unresolved i past = option_map_or began_promised (birth i past) false && not (is_resolved i past)

-- something is open at a point of a log, and this record opened it:
-- a question whose Return hasn't passed since its last opening; one whose Return has, but whose number isn't free, since
-- it needs a Finish; a loopback whose echo hasn't passed since; a vowed promise
-- that was neither kept nor broken; an export or import that is held, by the descriptor that began its life
pub data IsOpen (past : Past) : Open → Type 0 where
  question : (q : TableKey) (p : Point) → opening q past ≡ Some p → IsTrue (is_unreturned q past) → IsOpen past (Question q (noted_call p.event) (record_index p))
  unfinished : (q : TableKey) (p : Point) → opening q past ≡ Some p → IsTrue (is_returned q past) → IsTrue (not (is_free q past)) → IsOpen past (Unfinished q (noted_call p.event) (record_index p))
  loopback : (i : TableKey) (p : Point) → loopback_of i past ≡ Some p → IsOpen past (Loopback i (record_index p))
  promise : (r n : ℕ) → record_at n past ≡ Some (Vow r) → next past (PromiseView r) ≡ stays → IsOpen past (Promise r n)
  number : (i : TableKey) (b : Birth) → birth i past ≡ Some b → IsOpen past (Number i (held i past) (is_promise_unresolved i past) (record_index b.from) b.place)

-- the record that opened it
abbrev pub record_of_opening : Open → ℕ
record_of_opening (Question q call n) = n
record_of_opening (Unfinished q call n) = n
record_of_opening (Loopback i n) = n
record_of_opening (Promise r n) = n
record_of_opening (Number i count unresolved n place) = n

-- how many descriptors of that record stand before what opened it, itself counted where it is a descriptor
abbrev pub place_of : Open → ℕ
place_of (Number i count unresolved n place) = place + 1
place_of _ = 0

-- one was opened before another: by an earlier record, or by an earlier descriptor of the same one
abbrev pub OpensBefore : Open → Open → Type 0
OpensBefore a b = (record_of_opening a < record_of_opening b) ⊎ ((record_of_opening a ≡ record_of_opening b) × (place_of a < place_of b))
