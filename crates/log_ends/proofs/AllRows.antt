-- All ends in the logs, one log further.
use Rattle.std.proofs.Common.{◌≡◌, ◌⊎◌, inl, inr, ◌∷◌, ◌++◌, [], ℕ, zero, suc, ◌+◌, ◌<◌, ◌≤◌, List, Option, Some, None, length, map, get_or, refl, sym, ap, ap₂, subst, ◌∙◌, arith}
use Rattle.std.specs.Prelude.{slice_get, option_map}
use Rattle.std.specs.Map.{keys_of}
use Rattle.std.specs.BTreeMap.{BTreeMap, get, IsOrdered}
use Rattle.std.specs.Ordering.{nat_cmp, is_eq}
use Rattle.std.specs.Cmp.{nat_cmp_total}
use Rattle.std.proofs.lemmas.List.{length-map}
use Rattle.std.proofs.lemmas.Option.{slice_get-map, slice_get_within, get_or_from_slice_get}
use Rattle.std.proofs.lemmas.Bool.{cases_lt}
use Rattle.std.proofs.lemmas.Map.Entries.{btree_map_get_place, place_from_lookup}
use Rattle.std.proofs.lemmas.Map.Keys.{below_from_sorted}
use Rattle.vat_log.specs.Log.{Log}
use Rattle.link_check.specs.Prefix.{frames_sent, frames_received}
use Rattle.log_ends.specs.Ends.{IsEnd, EndIsBefore, log_at, sent_at, received_at}
use Rattle.log_ends.specs.Glue.{IsPassed, HasPassed, AreRows, end_of_passage}
use Rattle.log_ends.specs.declared.log_end.LogEnd.{LogEnd}
use Rattle.log_ends.specs.declared.passages.PassedFrame.{PassedFrame}
use Rattle.log_ends.specs.declared.passages.EndRow.{EndRow}
use Rattle.log_ends.proofs.Keys.{same_number}
use Rattle.log_ends.proofs.Lists.{append_cases, append_left, append_right}
use Rattle.log_ends.proofs.Passing.{passed_later}

mapped : {X Y : Type 0} (f : X → Y) (xs : List X) (k : ℕ) (y : Y) → slice_get (map f xs) k ≡ Some y → (x : X) × (slice_get xs k ≡ Some x) × (f x ≡ y)
mapped f [] k y e = absurd cc
mapped f (x ∷ xs) zero y e = (x, refl, (let h : Some (f x) ≡ Some y = e in cc))
mapped f (x ∷ xs) (suc k) y e = mapped f xs k y e

pub no_rows : (numbers : List (List ℕ) → Option ℕ) (logs : List Log) → AreRows numbers logs 0 []
no_rows numbers logs = record {
  traced = λ k row at. absurd cc;
  just = λ k row at. absurd cc;
  sorted = λ j k one other lt a b. absurd cc;
  all = λ end is lt. absurd (omega (arith, lt));
}

-- ---- the ends of one log

-- what is told of a row, of an entry of the table of a log
record IsRow (numbers : List (List ℕ) → Option ℕ) (logs : List Log) (place : ℕ) (row : EndRow) : Type 0 where
  pub traced : IsPassed numbers row.passed (sent_at logs row.end) (received_at logs row.end)
  pub just : IsEnd logs row.end
  pub of_log : row.end.log ≡ place

is_row : (later : List (List ℕ) → Option ℕ) (logs : List Log) (place : ℕ) (table : BTreeMap ℕ PassedFrame) → HasPassed later table (λ q. frames_sent q (log_at logs place)) (λ q. frames_received q (log_at logs place)) → IsOrdered nat_cmp table
    → (j : ℕ) (row : EndRow) → slice_get (map (end_of_passage place) table.entries) j ≡ Some row → IsRow later logs place row
is_row later logs place table has ordered j row at =
    let entry = mapped (end_of_passage place) table.entries j row at in
    let there : get nat_cmp table entry.0.0 ≡ Some entry.0.1 = btree_map_get_place nat_cmp_total table j entry.0.0 entry.0.1 ordered entry.1 in
    let is = has.there entry.0.0 entry.0.1 there in
    let one : IsRow later logs place (end_of_passage place entry.0) = record { traced = is.0; just = is.1; of_log = refl } in
    subst (λ (r : EndRow). IsRow later logs place r) entry.2 one

connection_of : (place : ℕ) (table : BTreeMap ℕ PassedFrame) (j : ℕ) (row : EndRow) → slice_get (map (end_of_passage place) table.entries) j ≡ Some row → get_or (keys_of table.entries) j 0 ≡ row.end.connection
connection_of place table j row at =
    let entry = mapped (end_of_passage place) table.entries j row at in
    let key : slice_get (keys_of table.entries) j ≡ Some entry.0.0 = slice_get-map (λ (e : ℕ × PassedFrame). e.0) table.entries j ∙ ap (λ (o : Option (ℕ × PassedFrame)). option_map (λ e. e.0) o) entry.1 in
    get_or_from_slice_get (keys_of table.entries) j entry.0.0 0 key ∙ ap (λ (r : EndRow). r.end.connection) entry.2

rises : (place : ℕ) (table : BTreeMap ℕ PassedFrame) → IsOrdered nat_cmp table → (j k : ℕ) (one other : EndRow) → j < k → slice_get (map (end_of_passage place) table.entries) j ≡ Some one → slice_get (map (end_of_passage place) table.entries) k ≡ Some other → one.end.connection < other.end.connection
rises place table ordered j k one other lt a b =
    let within : k < length (keys_of table.entries) = omega (arith, slice_get_within (map (end_of_passage place) table.entries) k other b, length-map table.entries (end_of_passage place), length-map table.entries (λ (e : ℕ × PassedFrame). e.0)) in
    let below : get_or (keys_of table.entries) j 0 < get_or (keys_of table.entries) k 0 = below_from_sorted (keys_of table.entries) j k 0 ordered lt within in
    omega (arith, below, connection_of place table j one a, connection_of place table k other b)

end_of : ℕ → ℕ → LogEnd
end_of l c = record { log = l; connection = c }

-- ---- one log further

pub rows_more : (numbers later : List (List ℕ) → Option ℕ) → ((frames : List (List ℕ)) (n : ℕ) → numbers frames ≡ Some n → later frames ≡ Some n) → (logs : List Log) (place : ℕ) (rows : List EndRow) (table : BTreeMap ℕ PassedFrame) → AreRows numbers logs place rows
    → HasPassed later table (λ q. frames_sent q (log_at logs place)) (λ q. frames_received q (log_at logs place)) → IsOrdered nat_cmp table → AreRows later logs (place + 1) (rows ++ map (end_of_passage place) table.entries)
unfolding end_of
rows_more numbers later keeps logs place rows table are has ordered =
    record {
      traced = λ k row at. traced_at k row (append_cases rows (map (end_of_passage place) table.entries) k row at);
      just = λ k row at. just_at k row (append_cases rows (map (end_of_passage place) table.entries) k row at);
      sorted = λ j k one other lt a b. sorted_at j k one other lt (append_cases rows (map (end_of_passage place) table.entries) j one a) (append_cases rows (map (end_of_passage place) table.entries) k other b);
      all = λ end is lt. all_at end is lt (cases_lt end.log place);
    } where
      traced_at : (k : ℕ) (row : EndRow) → (slice_get rows k ≡ Some row) ⊎ ((j : ℕ) × (k ≡ length rows + j) × (slice_get (map (end_of_passage place) table.entries) j ≡ Some row)) → IsPassed later row.passed (sent_at logs row.end) (received_at logs row.end)
      traced_at k row (inl at) = passed_later numbers later keeps row.passed (sent_at logs row.end) (received_at logs row.end) (are.traced k row at)
      traced_at k row (inr (j, same, at)) = (is_row later logs place table has ordered j row at).traced

      just_at : (k : ℕ) (row : EndRow) → (slice_get rows k ≡ Some row) ⊎ ((j : ℕ) × (k ≡ length rows + j) × (slice_get (map (end_of_passage place) table.entries) j ≡ Some row)) → IsEnd logs row.end × (row.end.log < place + 1)
      just_at k row (inl at) = ((are.just k row at).0, omega (arith, (are.just k row at).1))
      just_at k row (inr (j, same, at)) = let is = is_row later logs place table has ordered j row at in (is.just, omega (arith, is.of_log))

      sorted_at : (j k : ℕ) (one other : EndRow) → j < k → (slice_get rows j ≡ Some one) ⊎ ((i : ℕ) × (j ≡ length rows + i) × (slice_get (map (end_of_passage place) table.entries) i ≡ Some one)) → (slice_get rows k ≡ Some other) ⊎ ((i : ℕ) × (k ≡ length rows + i) × (slice_get (map (end_of_passage place) table.entries) i ≡ Some other)) → EndIsBefore one.end other.end
      sorted_at j k one other lt (inl a) (inl b) = are.sorted j k one other lt a b
      sorted_at j k one other lt (inl a) (inr (i, same, b)) = let is = is_row later logs place table has ordered i other b in inl (omega (arith, (are.just j one a).1, is.of_log))
      sorted_at j k one other lt (inr (i, same, a)) (inl b) = absurd (omega (arith, lt, same, slice_get_within rows k other b))
      sorted_at j k one other lt (inr (i, same, a)) (inr (h, also, b)) =
          let is = is_row later logs place table has ordered i one a in
          let its = is_row later logs place table has ordered h other b in
          inr (is.of_log ∙ sym its.of_log, rises place table ordered i h one other (omega (arith, lt, same, also)) a b)

      new_at : (end : LogEnd) → IsEnd logs end → place ≡ end.log → (o : Option PassedFrame) → get nat_cmp table end.connection ≡ o → (k : ℕ) × (row : EndRow) × (slice_get (rows ++ map (end_of_passage place) table.entries) k ≡ Some row) × (row.end ≡ end)
      new_at end is same None e =
          let none = has.absent end.connection e in
          let sent : sent_at logs end ≡ [] = ap (λ (p : ℕ). frames_sent end.connection (log_at logs p)) (sym same) ∙ none.0 in
          let received : received_at logs end ≡ [] = ap (λ (p : ℕ). frames_received end.connection (log_at logs p)) (sym same) ∙ none.1 in
          absurd (omega (arith, is, ap length sent, ap length received))
      new_at end is same (Some passed) e =
          let found = place_from_lookup (λ k. is_eq (nat_cmp end.connection k)) table.entries passed e in
          let key : end.connection ≡ found.1 = same_number end.connection found.1 found.3 in
          let row : EndRow = end_of_passage place (found.1, passed) in
          let at : slice_get (map (end_of_passage place) table.entries) found.0 ≡ Some row = slice_get-map (end_of_passage place) table.entries found.0 ∙ ap (λ (o : Option (ℕ × PassedFrame)). option_map (end_of_passage place) o) found.2 in
          (length rows + found.0, row, append_right rows (map (end_of_passage place) table.entries) found.0 (length rows + found.0) row refl at, ap₂ (λ (l c : ℕ). end_of l c) same (sym key))

      all_at : (end : LogEnd) → IsEnd logs end → end.log < place + 1 → (end.log < place) ⊎ (place ≤ end.log) → (k : ℕ) × (row : EndRow) × (slice_get (rows ++ map (end_of_passage place) table.entries) k ≡ Some row) × (row.end ≡ end)
      all_at end is lt (inl early) = let found = are.all end is early in (found.0, found.1, append_left rows (map (end_of_passage place) table.entries) found.0 found.1 found.2, found.3)
      all_at end is lt (inr late) = new_at end is (omega (arith, lt, late)) (get nat_cmp table end.connection) refl
