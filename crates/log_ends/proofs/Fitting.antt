-- Which ends fit and which are alike, by the rows.
use Rattle.std.proofs.Common.{◌≡◌, ℕ, ◌+◌, ◌<◌, List, true, false, Option, Some, length, get_or, refl, sym, ap, subst, ◌∙◌, arith}
use Rattle.std.specs.Prelude.{slice_get, option_map, unwrap_or, IsTrue, vec_len}
use Rattle.std.proofs.lemmas.List.{length-append}
use Rattle.std.proofs.lemmas.Option.{slice_get_read}
use Rattle.std.proofs.lemmas.Bool.{false≢true}
use Rattle.vat_log.specs.Log.{Log}
use Rattle.log_ends.specs.Ends.{IsEnd, Fits, sent_at, received_at}
use Rattle.log_ends.specs.Glue.{IsPassed, IsOfLogs, end_at, AreNumberedApart}
use Rattle.log_ends.specs.declared.log_end.LogEnd.{LogEnd}
use Rattle.log_ends.specs.declared.passages.EndRow.{EndRow}
use Rattle.log_ends.specs.declared.passages.Rows.{Rows}

pub row_end : (rows : Rows) (k : ℕ) (row : EndRow) → slice_get rows.rows.items k ≡ Some row → end_at rows k ≡ row.end
row_end rows k row at = ap (λ (o : Option EndRow). unwrap_or (option_map (λ r. r.end) o) (record { log = 0; connection = 0 })) at

-- what is told of two rows is told of the ends at their places
pub at_places : (rows : Rows) (j k : ℕ) (one other : EndRow) (P : LogEnd → LogEnd → Type 0) → slice_get rows.rows.items j ≡ Some one → slice_get rows.rows.items k ≡ Some other → P one.end other.end → P (end_at rows j) (end_at rows k)
at_places rows j k one other P a b p = subst (λ e. P e (end_at rows k)) (sym (row_end rows j one a)) (subst (λ e. P one.end e) (sym (row_end rows k other b)) p)

-- one of two ends received something, or none did
pub met_first : (logs : List Log) (a b : LogEnd) (ours : List ℕ) → length ours ≡ length (received_at logs a) → (length ours ≡ 0 → ⊥) → 0 < length (received_at logs a) + length (received_at logs b)
met_first logs a b ours e some = omega (arith, e, some)

pub met_second : (logs : List Log) (a b : LogEnd) (others : List ℕ) → length others ≡ length (received_at logs b) → (length others ≡ 0 → ⊥) → 0 < length (received_at logs a) + length (received_at logs b)
met_second logs a b others e some = omega (arith, e, some)

pub unmet : (logs : List Log) (a b : LogEnd) (ours others : List ℕ) → length ours ≡ length (received_at logs a) → length others ≡ length (received_at logs b) → length ours ≡ 0 → length others ≡ 0 → Fits logs a b → ⊥
unmet logs a b ours others e h none also fits = omega (arith, e, h, none, also, fits.met)

pub same_symmetric : (logs : List Log) (a b : LogEnd) → Fits logs a b → Fits logs b a
same_symmetric logs a b fits = record { apart = λ e. fits.apart (sym e); at_first = fits.at_second; at_second = fits.at_first; met = omega (arith, fits.met) }

-- an end that another fits is an end of a log
pub fits_end : (logs : List Log) (a b : LogEnd) → Fits logs a b → IsEnd logs a
fits_end logs a b fits =
    let size : length (sent_at logs a) ≡ length (received_at logs b) + length fits.at_second.0 = ap length fits.at_second.1 ∙ length-append (received_at logs b) fits.at_second.0 in
    omega (arith, fits.met, size)

-- ---- for the answers of a test

pub no : {P : Type 0} → (P → ⊥) → (IsTrue false → P) × (P → IsTrue false)
no against = (λ t. absurd (false≢true t), λ p. absurd (against p))

pub yes : {P : Type 0} → P → (IsTrue true → P) × (P → IsTrue true)
yes p = (λ t. p, λ q. refl)

pub there : (rows : Rows) (k : ℕ) (row : EndRow) → k < vec_len rows.rows → row ≡ get_or rows.rows.items k row → slice_get rows.rows.items k ≡ Some row
there rows k row within is = slice_get_read rows.rows.items (length rows.rows.items) k row refl (omega (arith, within)) is

-- what is told of the ends at two places is told of the rows there
pub at_rows : (rows : Rows) (j k : ℕ) (one other : EndRow) (P : LogEnd → LogEnd → Type 0) → slice_get rows.rows.items j ≡ Some one → slice_get rows.rows.items k ≡ Some other → P (end_at rows j) (end_at rows k) → P one.end other.end
at_rows rows j k one other P a b p = subst (λ e. P e other.end) (row_end rows j one a) (subst (λ e. P (end_at rows j) e) (row_end rows k other b) p)

-- two rows of the ends of logs
pub record AreAt (rows : Rows) (j k : ℕ) (one other : EndRow) : Type 0 where
  pub numbers : List (List ℕ) → Option ℕ
  pub told : AreNumberedApart numbers
  pub one_there : slice_get rows.rows.items j ≡ Some one
  pub other_there : slice_get rows.rows.items k ≡ Some other
  pub one_passed : IsPassed numbers one.passed (sent_at rows.logs.now one.end) (received_at rows.logs.now one.end)
  pub other_passed : IsPassed numbers other.passed (sent_at rows.logs.now other.end) (received_at rows.logs.now other.end)

pub are_at : (rows : Rows) (j k : ℕ) (one other : EndRow) → IsOfLogs rows → j < vec_len rows.rows → k < vec_len rows.rows → one ≡ get_or rows.rows.items j one → other ≡ get_or rows.rows.items k other → AreAt rows j k one other
are_at rows j k one other is a b e h =
    let at = there rows j one a e in
    let also = there rows k other b h in
    record { numbers = is.numbers; told = is.told; one_there = at; other_there = also; one_passed = is.are.traced j one at; other_passed = is.are.traced k other also }

-- the ends at the places don't fit or aren't alike, since the rows' ends don't or aren't
pub not_there : (rows : Rows) (j k : ℕ) (one other : EndRow) (P : LogEnd → LogEnd → Type 0) → AreAt rows j k one other → (P one.end other.end → ⊥) → P (end_at rows j) (end_at rows k) → ⊥
not_there rows j k one other P at against p = against (at_rows rows j k one other P at.one_there at.other_there p)

pub is_there : (rows : Rows) (j k : ℕ) (one other : EndRow) (P : LogEnd → LogEnd → Type 0) → AreAt rows j k one other → P one.end other.end → P (end_at rows j) (end_at rows k)
is_there rows j k one other P at p = at_places rows j k one other P at.one_there at.other_there p
