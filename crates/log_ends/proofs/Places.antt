-- The ends of logs by their places among all.
use Rattle.std.proofs.Common.{◌≡◌, ◌⊎◌, inl, inr, ℕ, ◌+◌, zero, suc, ◌∷◌, ◌<◌, ◌≤◌, List, [], Some, length, refl, sym, ap, subst, ◌∙◌, arith}
use Rattle.std.specs.Prelude.{slice_get, vec_len}
use Rattle.std.proofs.lemmas.List.{get_or_past}
use Rattle.std.proofs.lemmas.Option.{slice_get_within}
use Rattle.std.proofs.lemmas.Bool.{cases_lt, cases_order}
use Rattle.vat_log.specs.Log.{Log, written_version}
use Rattle.link_check.specs.Prefix.{frames_sent, frames_received}
use Rattle.log_ends.specs.Ends.{IsEnd, EndIsBefore, Fits, AreAlike, log_at, sent_at, received_at}
use Rattle.log_ends.specs.Joining.{IsAlone, IsAmbiguous, IsClear, IsFirstUnclear, AreFirstAlike}
use Rattle.log_ends.specs.Glue.{IsOfLogs, end_at, HasNoFit, IsUnlike, HasNoUnlike, HasNoAlike}
use Rattle.log_ends.specs.declared.log_end.LogEnd.{LogEnd}
use Rattle.log_ends.specs.declared.passages.EndRow.{EndRow}
use Rattle.log_ends.specs.declared.passages.Rows.{Rows}
use Rattle.log_ends.proofs.Fitting.{row_end, same_symmetric, fits_end}

-- ---- the order of ends

pub not_both : (a b : LogEnd) → EndIsBefore a b → EndIsBefore b a → ⊥
not_both a b (inl e) (inl h) = omega (arith, e, h)
not_both a b (inl e) (inr h) = omega (arith, e, h.0)
not_both a b (inr e) (inl h) = omega (arith, e.0, h)
not_both a b (inr e) (inr h) = omega (arith, e.1, h.1)

pub not_itself : (a : LogEnd) → EndIsBefore a a → ⊥
not_itself a before = not_both a a before before

-- ---- places

-- the row at a place
row_in : (xs : List EndRow) (k : ℕ) → k < length xs → (row : EndRow) × (slice_get xs k ≡ Some row)
row_in [] k lt = absurd (omega (arith, lt))
row_in (x ∷ xs) zero lt = (x, refl)
row_in (x ∷ xs) (suc k) lt = row_in xs k (omega (arith, lt))

pub just_at : (rows : Rows) → IsOfLogs rows → (k : ℕ) → k < vec_len rows.rows → IsEnd rows.logs.now (end_at rows k)
just_at rows is k within =
    let row = row_in rows.rows.items k (omega (arith, within)) in
    subst (λ (e : LogEnd). IsEnd rows.logs.now e) (sym (row_end rows k row.0 row.1)) (is.are.just k row.0 row.1).0

pub sorted_at : (rows : Rows) → IsOfLogs rows → (j k : ℕ) → j < k → k < vec_len rows.rows → EndIsBefore (end_at rows j) (end_at rows k)
sorted_at rows is j k lt within =
    let one = row_in rows.rows.items j (omega (arith, lt, within)) in
    let other = row_in rows.rows.items k (omega (arith, within)) in
    subst (λ (e : LogEnd). EndIsBefore e (end_at rows k)) (sym (row_end rows j one.0 one.1)) (subst (λ (e : LogEnd). EndIsBefore one.0.end e) (sym (row_end rows k other.0 other.1)) (is.are.sorted j k one.0 other.0 lt one.1 other.1))

-- there is nothing past the last log
pub of_a_log : (logs : List Log) (end : LogEnd) → IsEnd logs end → end.log < length logs
of_a_log logs end is = at (cases_lt end.log (length logs)) where
  at : (end.log < length logs) ⊎ (length logs ≤ end.log) → end.log < length logs
  at (inl within) = within
  at (inr past) =
      let none : log_at logs end.log ≡ record { version = written_version; vat = 0; records = [] } = get_or_past logs end.log (record { version = written_version; vat = 0; records = [] }) past in
      let sent : sent_at logs end ≡ [] = ap (λ (log : Log). frames_sent end.connection log) none in
      let received : received_at logs end ≡ [] = ap (λ (log : Log). frames_received end.connection log) none in
      absurd (omega (arith, is, ap length sent, ap length received))

pub all_at : (rows : Rows) → IsOfLogs rows → (end : LogEnd) → IsEnd rows.logs.now end → (k : ℕ) × (k < vec_len rows.rows) × (end_at rows k ≡ end)
all_at rows is end it =
    let found = is.are.all end it (of_a_log rows.logs.now end it) in
    let within : found.0 < vec_len rows.rows = omega (arith, slice_get_within rows.rows.items found.0 found.1 found.2) in
    (found.0, within, row_end rows found.0 found.1 found.2 ∙ found.3)

pub same_place : (rows : Rows) → IsOfLogs rows → (j k : ℕ) → j < vec_len rows.rows → k < vec_len rows.rows → end_at rows j ≡ end_at rows k → j ≡ k
same_place rows is j k a b same = at (cases_order j k) where
  at : (j ≡ k) ⊎ ((j < k) ⊎ (k < j)) → j ≡ k
  at (inl e) = e
  at (inr (inl lt)) = absurd (not_itself (end_at rows k) (subst (λ (e : LogEnd). EndIsBefore e (end_at rows k)) same (sorted_at rows is j k lt b)))
  at (inr (inr lt)) = absurd (not_itself (end_at rows k) (subst (λ (e : LogEnd). EndIsBefore (end_at rows k) e) same (sorted_at rows is k j lt a)))

-- an end that is before the one at a place is at a place before
pub earlier_at : (rows : Rows) → IsOfLogs rows → (k : ℕ) → k < vec_len rows.rows → (end : LogEnd) → IsEnd rows.logs.now end → EndIsBefore end (end_at rows k) → (j : ℕ) × (j < k) × (end_at rows j ≡ end)
earlier_at rows is k within end it before = at (all_at rows is end it) where
  by : (j : ℕ) → j < vec_len rows.rows → end_at rows j ≡ end → (j ≡ k) ⊎ ((j < k) ⊎ (k < j)) → (i : ℕ) × (i < k) × (end_at rows i ≡ end)
  by j inside same (inl e) = absurd (not_itself end (subst (λ (x : LogEnd). EndIsBefore end x) (ap (end_at rows) (sym e) ∙ same) before))
  by j inside same (inr (inl lt)) = (j, lt, same)
  by j inside same (inr (inr lt)) = absurd (not_both end (end_at rows k) before (subst (λ (x : LogEnd). EndIsBefore (end_at rows k) x) same (sorted_at rows is k j lt inside)))

  at : (j : ℕ) × (j < vec_len rows.rows) × (end_at rows j ≡ end) → (j : ℕ) × (j < k) × (end_at rows j ≡ end)
  at (j, inside, same) = by j inside same (cases_order j k)

-- ---- how an end stands

pub alone : (rows : Rows) → IsOfLogs rows → (place : ℕ) → HasNoFit rows place (vec_len rows.rows) → IsAlone rows.logs.now (end_at rows place)
alone rows is place none end fits =
    let found = all_at rows is end (fits_end rows.logs.now end (end_at rows place) (same_symmetric rows.logs.now (end_at rows place) end fits)) in
    none found.0 found.1 (subst (λ (e : LogEnd). Fits rows.logs.now (end_at rows place) e) (sym found.2) fits)

alike_trans : (logs : List Log) (a b c : LogEnd) → AreAlike logs a b → AreAlike logs a c → AreAlike logs b c
alike_trans logs a b c e h = record { sent = sym e.sent ∙ h.sent; received = sym e.received ∙ h.received }

pub ambiguous : (rows : Rows) (place known other : ℕ) → Fits rows.logs.now (end_at rows place) (end_at rows known) → IsUnlike rows place known other → IsAmbiguous rows.logs.now (end_at rows place)
ambiguous rows place known other fits is = record { one = end_at rows known; other = end_at rows other; one_fits = fits; other_fits = is.fits; unlike = is.unlike }

pub clear : (rows : Rows) → IsOfLogs rows → (place known : ℕ) → Fits rows.logs.now (end_at rows place) (end_at rows known) → HasNoUnlike rows place known (vec_len rows.rows) → IsClear rows.logs.now (end_at rows place)
clear rows is place known fits only =
    record {
      matched = (end_at rows known, fits);
      alike = λ one other a b. alike_trans rows.logs.now (end_at rows known) one other (alike one a) (alike other b);
    } where
      alike : (end : LogEnd) → Fits rows.logs.now (end_at rows place) end → AreAlike rows.logs.now (end_at rows known) end
      alike end it =
          let found = all_at rows is end (fits_end rows.logs.now end (end_at rows place) (same_symmetric rows.logs.now (end_at rows place) end it)) in
          subst (λ (e : LogEnd). AreAlike rows.logs.now (end_at rows known) e) found.2 (only found.0 found.1 (subst (λ (e : LogEnd). Fits rows.logs.now (end_at rows place) e) (sym found.2) it))

-- all before a place are clear
pub first_unclear : (rows : Rows) → IsOfLogs rows → (place : ℕ) → place < vec_len rows.rows → ((k : ℕ) → k < place → IsClear rows.logs.now (end_at rows k)) → IsFirstUnclear rows.logs.now (end_at rows place)
first_unclear rows is place within so_far =
    record {
      there = just_at rows is place within;
      before = λ other it early. let found = earlier_at rows is place within other it early in subst (λ (e : LogEnd). IsClear rows.logs.now e) found.2 (so_far found.0 found.1);
    }

-- all are
pub all_clear : (rows : Rows) → IsOfLogs rows → (place : ℕ) → vec_len rows.rows ≤ place → ((k : ℕ) → k < place → IsClear rows.logs.now (end_at rows k)) → (end : LogEnd) → IsEnd rows.logs.now end → IsClear rows.logs.now end
all_clear rows is place done so_far end it =
    let found = all_at rows is end it in
    subst (λ (e : LogEnd). IsClear rows.logs.now e) found.2 (so_far found.0 (omega (arith, found.1, done)))

-- ---- ends that are alike

-- two ends in order are at places in order
pub two_places : (rows : Rows) → IsOfLogs rows → (one other : LogEnd) → IsEnd rows.logs.now one → IsEnd rows.logs.now other → EndIsBefore one other → (j : ℕ) × (k : ℕ) × (j < k) × (k < vec_len rows.rows) × (end_at rows j ≡ one) × (end_at rows k ≡ other)
two_places rows is one other a b before =
    let late = all_at rows is other b in
    let early = earlier_at rows is late.0 late.1 one a (subst (λ (e : LogEnd). EndIsBefore one e) (sym late.2) before) in
    (early.0, late.0, early.1, late.1, early.2, late.2)

pub none_alike : (rows : Rows) → IsOfLogs rows → (place : ℕ) → vec_len rows.rows ≤ place → ((k : ℕ) → k < place → HasNoAlike rows k (k + 1) (vec_len rows.rows)) → (one other : LogEnd) → IsEnd rows.logs.now one → IsEnd rows.logs.now other → EndIsBefore one other → AreAlike rows.logs.now one other → ⊥
none_alike rows is place done none one other a b before alike =
    let at = two_places rows is one other a b before in
    none at.0 (omega (arith, done, at.2, at.3)) at.1 (omega (arith, at.2)) at.3 (subst (λ (e : LogEnd). AreAlike rows.logs.now e (end_at rows at.1)) (sym at.4) (subst (λ (e : LogEnd). AreAlike rows.logs.now one e) (sym at.5) alike))

pub first_alike : (rows : Rows) → IsOfLogs rows → (place other : ℕ) → place < other → other < vec_len rows.rows → AreAlike rows.logs.now (end_at rows place) (end_at rows other) → ((k : ℕ) → k < place → HasNoAlike rows k (k + 1) (vec_len rows.rows)) → AreFirstAlike rows.logs.now (record { first = end_at rows place; second = end_at rows other })
first_alike rows is place other lt within alike none =
    let inside : place < vec_len rows.rows = omega (arith, lt, within) in
    record {
      first_is = just_at rows is place inside;
      second_is = just_at rows is other within;
      in_order = sorted_at rows is place other lt within;
      alike = alike;
      earliest = λ one behind a b before same early. (let at = two_places rows is one behind a b before in
          let here = earlier_at rows is place inside one a early in
          let where_one : at.0 ≡ here.0 = same_place rows is at.0 here.0 (omega (arith, at.2, at.3)) (omega (arith, here.1, inside)) (at.4 ∙ sym here.2) in
          none at.0 (omega (arith, where_one, here.1)) at.1 (omega (arith, at.2)) at.3 (subst (λ (e : LogEnd). AreAlike rows.logs.now e (end_at rows at.1)) (sym at.4) (subst (λ (e : LogEnd). AreAlike rows.logs.now one e) (sym at.5) same)));
    }
