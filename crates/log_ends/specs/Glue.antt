-- For the code's contracts, and no part of the meaning: sequences of frames by numbers, what passed at ends by these, and how
-- far a search or a pairing has come.
use Rattle.std.specs.Prelude.{◌≡◌, ℕ, ◌+◌, ◌<◌, ◌≤◌, ◌==◌, List, [], ◌∷◌, ◌++◌, length, take, Bool, true, false, Option, Some, None, option_and_then, option_map, unwrap_or, slice_get, slice_index, slice_index_or, vec_len, if◌then◌else◌}
use Rattle.std.specs.BTreeMap.{BTreeMap, get, btree_map_len}
use Rattle.std.specs.declared.cmp.Ordering.{Ordering}
use Rattle.std.specs.Ordering.{nat_cmp, ordering_then}
use Rattle.std.specs.Cmp.Lexicographic.{slice_cmp}
use Rattle.vat_log.specs.Log.{Log}
use Rattle.log_ends.specs.Ends.{IsEnd, EndIsBefore, Fits, AreAlike, sent_at, received_at}
use Rattle.log_ends.specs.Joining.{IsAlone, IsAmbiguous, IsClear, IsPaired, ArePairs}
use Rattle.log_ends.specs.declared.log_end.LogEnd.{LogEnd}
use Rattle.log_ends.specs.declared.log_end.EndPair.{EndPair}
use Rattle.log_ends.specs.declared.passages.PassedFrame.{PassedFrame}
use Rattle.log_ends.specs.declared.passages.EndRow.{EndRow}
use Rattle.log_ends.specs.declared.passages.Rows.{Rows}
use Rattle.log_ends.specs.declared.sequences.Sequences.{Sequences}
use Rattle.log_ends.specs.declared.joining.Standing.{Standing}
use Rattle.log_ends.specs.declared.joining.Standing.TheVariants.{Alone, Clear, Ambiguous}

-- ---- sequences by numbers

-- the number of a sequence, where this says which stands behind a number and a frame
unfoldable pub number_from : (ℕ × List ℕ → Option ℕ) → ℕ → List (List ℕ) → Option ℕ
number_from next at [] = Some at
number_from next at (frame ∷ frames) = option_and_then (λ n. number_from next n frames) (next (at, frame))

abbrev pub number_frame_cmp : ℕ × List ℕ → ℕ × List ℕ → Ordering
number_frame_cmp x y = ordering_then (nat_cmp x.0 y.0) (slice_cmp nat_cmp x.1 y.1)

-- the number that stands behind a number and a frame
abbrev pub number_behind : Sequences → ℕ × List ℕ → Option ℕ
number_behind sequences key = get number_frame_cmp sequences.places key

-- the number of a sequence
abbrev pub sequence_number : Sequences → List (List ℕ) → Option ℕ
sequence_number sequences frames = number_from (number_behind sequences) 0 frames

-- each number was given once, from 1 on
pub record AreGiven (next : ℕ × List ℕ → Option ℕ) (count : ℕ) : Type 0 where
  pub within : (key : ℕ × List ℕ) (number : ℕ) → next key ≡ Some number → (0 < number) × (number ≤ count)
  pub apart : (one other : ℕ × List ℕ) (number : ℕ) → next one ≡ Some number → next other ≡ Some number → one ≡ other

abbrev pub IsSound : Sequences → Type 0
IsSound sequences = AreGiven (number_behind sequences) (btree_map_len sequences.places)

-- numbers that were given stay
abbrev pub Keeps : Sequences → Sequences → Type 0
Keeps old new = (frames : List (List ℕ)) (number : ℕ) → sequence_number old frames ≡ Some number → sequence_number new frames ≡ Some number

-- no two sequences have the same number
abbrev pub AreNumberedApart : (List (List ℕ) → Option ℕ) → Type 0
AreNumberedApart numbers = (one other : List (List ℕ)) (number : ℕ) → numbers one ≡ Some number → numbers other ≡ Some number → one ≡ other

-- the numbers of the sequences that begin these frames, the shortest first
pub record Traces (numbers : List (List ℕ) → Option ℕ) (trace : List ℕ) (frames : List (List ℕ)) : Type 0 where
  pub count : length trace ≡ length frames
  pub each : (k : ℕ) → k < length frames → numbers (take (k + 1) frames) ≡ Some (slice_index trace k)

-- ---- what passed

-- what passed at an end are these frames
pub record IsPassed (numbers : List (List ℕ) → Option ℕ) (passed : PassedFrame) (sent received : List (List ℕ)) : Type 0 where
  pub out : Traces numbers passed.sent.numbers.items sent
  pub into : Traces numbers passed.received.numbers.items received

-- a table has what passed on each connection
pub record HasPassed (numbers : List (List ℕ) → Option ℕ) (table : BTreeMap ℕ PassedFrame) (sent received : ℕ → List (List ℕ)) : Type 0 where
  pub there : (connection : ℕ) (passed : PassedFrame) → get nat_cmp table connection ≡ Some passed → IsPassed numbers passed (sent connection) (received connection) × (0 < length (sent connection) + length (received connection))
  pub absent : (connection : ℕ) → get nat_cmp table connection ≡ None → (sent connection ≡ []) × (received connection ≡ [])

-- one more frame on a connection
abbrev pub one_more : (ℕ → List (List ℕ)) → ℕ → List ℕ → ℕ → List (List ℕ)
one_more frames connection frame other = if connection == other then frames other ++ (frame ∷ []) else frames other

-- the end of a connection in the log at this place, with what passed there
abbrev pub end_of_passage : ℕ → ℕ × PassedFrame → EndRow
end_of_passage place entry = record { end = record { log = place; connection = entry.0 }; passed = entry.1 }

-- all ends in the logs before a place, in order
pub record AreRows (numbers : List (List ℕ) → Option ℕ) (logs : List Log) (limit : ℕ) (rows : List EndRow) : Type 0 where
  pub traced : (k : ℕ) (row : EndRow) → slice_get rows k ≡ Some row → IsPassed numbers row.passed (sent_at logs row.end) (received_at logs row.end)
  pub just : (k : ℕ) (row : EndRow) → slice_get rows k ≡ Some row → IsEnd logs row.end × (row.end.log < limit)
  pub sorted : (j k : ℕ) (one other : EndRow) → j < k → slice_get rows j ≡ Some one → slice_get rows k ≡ Some other → EndIsBefore one.end other.end
  pub all : (end : LogEnd) → IsEnd logs end → end.log < limit → (k : ℕ) × (row : EndRow) × (slice_get rows k ≡ Some row) × (row.end ≡ end)

-- all ends in the logs, in order
pub record IsOfLogs (rows : Rows) : Type 0 where
  pub numbers : List (List ℕ) → Option ℕ
  pub told : AreNumberedApart numbers
  pub are : AreRows numbers rows.logs.now (length rows.logs.now) rows.rows.items

-- ---- ends by their places

abbrev pub end_at : Rows → ℕ → LogEnd
end_at rows place = unwrap_or (option_map (λ row. row.end) (slice_get rows.rows.items place)) (record { log = 0; connection = 0 })

abbrev pub IsStanding : List Log → LogEnd → Standing → Type 0
IsStanding logs end Alone = IsAlone logs end
IsStanding logs end Clear = IsClear logs end
IsStanding logs end Ambiguous = IsAmbiguous logs end

-- no end before another place fits the one at a place
abbrev pub HasNoFit : Rows → ℕ → ℕ → Type 0
HasNoFit rows place limit = (k : ℕ) → k < limit → Fits rows.logs.now (end_at rows place) (end_at rows k) → ⊥

-- an end fits the one at a place, and isn't alike to a known one
pub record IsUnlike (rows : Rows) (place known other : ℕ) : Type 0 where
  pub fits : Fits rows.logs.now (end_at rows place) (end_at rows other)
  pub unlike : AreAlike rows.logs.now (end_at rows known) (end_at rows other) → ⊥

-- an end is alike to a known one, if it fits the one at a place
abbrev pub IsNotUnlike : Rows → ℕ → ℕ → ℕ → Type 0
IsNotUnlike rows place known other = Fits rows.logs.now (end_at rows place) (end_at rows other) → AreAlike rows.logs.now (end_at rows known) (end_at rows other)

abbrev pub HasNoUnlike : Rows → ℕ → ℕ → ℕ → Type 0
HasNoUnlike rows place known limit = (k : ℕ) → k < limit → IsNotUnlike rows place known k

-- an end fits the one at a place, and isn't taken
pub record IsFree (rows : Rows) (taken : List Bool) (place other : ℕ) : Type 0 where
  pub free : slice_index_or taken other true ≡ false
  pub fits : Fits rows.logs.now (end_at rows place) (end_at rows other)

-- none is free from a place on and before another
abbrev pub HasNoneFree : Rows → List Bool → ℕ → ℕ → Type 0
HasNoneFree rows taken place limit = (k : ℕ) → place ≤ k → k < limit → IsFree rows taken place k → ⊥

-- the first that is free from a place on
pub record IsPartner (rows : Rows) (taken : List Bool) (place other : ℕ) : Type 0 where
  pub from : place ≤ other
  pub within : other < vec_len rows.rows
  pub is : IsFree rows taken place other
  pub first : HasNoneFree rows taken place other

-- all ends before a place are in pairs; those that are taken are, and no others
pub record HasPaired (rows : Rows) (place : ℕ) (taken : List Bool) (pairs : List EndPair) : Type 0 where
  pub are : ArePairs rows.logs.now pairs
  pub flags : length taken ≡ vec_len rows.rows
  pub before : (k : ℕ) → k < place → slice_index_or taken k true ≡ true
  pub taken_are : (k : ℕ) → k < vec_len rows.rows → slice_index_or taken k true ≡ true → IsPaired pairs (end_at rows k)
  pub free_are : (k : ℕ) → k < vec_len rows.rows → slice_index_or taken k true ≡ false → IsPaired pairs (end_at rows k) → ⊥
  pub begun : (number : ℕ) (pair : EndPair) → slice_get pairs number ≡ Some pair → (k : ℕ) × (k < place) × (pair.first ≡ end_at rows k)

-- no end from a place on and before another is alike to the one at a place
abbrev pub HasNoAlike : Rows → ℕ → ℕ → ℕ → Type 0
HasNoAlike rows place begin limit = (k : ℕ) → begin ≤ k → k < limit → AreAlike rows.logs.now (end_at rows place) (end_at rows k) → ⊥
