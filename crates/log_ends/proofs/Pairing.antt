-- Pairs of ends, one more at a time.
use Rattle.std.proofs.Common.{◌≡◌, ◌⊎◌, inl, inr, ℕ, zero, suc, ◌+◌, ◌<◌, ◌≤◌, List, [], ◌∷◌, ◌++◌, Bool, true, false, Some, length, get_or, set, replicate, refl, sym, ap, subst, ◌∙◌, arith}
use Rattle.std.specs.Prelude.{slice_get, vec_len}
use Rattle.std.proofs.lemmas.List.{length-set, get_or-set_other, get_or-replicate, length-replicate}
use Rattle.std.proofs.lemmas.Option.{slice_get_within, same_Some}
use Rattle.std.proofs.lemmas.Bool.{cases_lt, cases_eq, cases_Bool, both_ways}
use Rattle.vat_log.specs.Log.{Log}
use Rattle.log_ends.specs.Ends.{IsEnd, EndIsBefore, Fits}
use Rattle.log_ends.specs.Joining.{Has, IsPaired, ArePairs, IsJoined, IsLeftOver, IsClear}
use Rattle.log_ends.specs.Glue.{IsOfLogs, end_at, HasNoneFree, IsPartner, HasPaired}
use Rattle.log_ends.specs.declared.log_end.LogEnd.{LogEnd}
use Rattle.log_ends.specs.declared.log_end.EndPair.{EndPair}
use Rattle.log_ends.specs.declared.passages.Rows.{Rows}
use Rattle.log_ends.proofs.Fitting.{same_symmetric, fits_end}
use Rattle.log_ends.proofs.Lists.{append_cases, append_left, append_right}
use Rattle.log_ends.proofs.Places.{sorted_at, all_at, same_place, earlier_at}

-- ---- one more pair

has_within : (pairs : List EndPair) (m : ℕ) (end : LogEnd) → Has pairs m end → m < length pairs
has_within pairs m end has = slice_get_within pairs m has.pair has.there

has_later : (pairs : List EndPair) (p : EndPair) (m : ℕ) (end : LogEnd) → Has pairs m end → Has (pairs ++ (p ∷ [])) m end
has_later pairs p m end has = record { pair = has.pair; there = append_left pairs (p ∷ []) m has.pair has.there; ends = has.ends }

-- the pair at a place is an earlier one, or the new one
which : (pairs : List EndPair) (p : EndPair) (m : ℕ) (q : EndPair) → slice_get (pairs ++ (p ∷ [])) m ≡ Some q → (slice_get pairs m ≡ Some q) ⊎ ((m ≡ length pairs) × (p ≡ q))
which pairs p m q at = by (append_cases pairs (p ∷ []) m q at) where
  by : (slice_get pairs m ≡ Some q) ⊎ ((j : ℕ) × (m ≡ length pairs + j) × (slice_get (p ∷ []) j ≡ Some q)) → (slice_get pairs m ≡ Some q) ⊎ ((m ≡ length pairs) × (p ≡ q))
  by (inl early) = inl early
  by (inr (zero, same, late)) = inr (omega (arith, same), same_Some p q late)
  by (inr (suc j, same, late)) = absurd cc

-- so with the ends of it
which_has : (pairs : List EndPair) (p : EndPair) (m : ℕ) (end : LogEnd) → Has (pairs ++ (p ∷ [])) m end → (Has pairs m end) ⊎ ((m ≡ length pairs) × ((p.first ≡ end) ⊎ (p.second ≡ end)))
which_has pairs p m end has = by (which pairs p m has.pair has.there) where
  by : (slice_get pairs m ≡ Some has.pair) ⊎ ((m ≡ length pairs) × (p ≡ has.pair)) → (Has pairs m end) ⊎ ((m ≡ length pairs) × ((p.first ≡ end) ⊎ (p.second ≡ end)))
  by (inl early) = inl (record { pair = has.pair; there = early; ends = has.ends })
  by (inr (same, is)) = inr (same, subst (λ (x : EndPair). (x.first ≡ end) ⊎ (x.second ≡ end)) (sym is) has.ends)

pub no_pairs : (logs : List Log) → ArePairs logs []
no_pairs logs = record {
  fit = λ number pair at. absurd cc;
  in_order = λ number pair at. absurd cc;
  once = λ m n end one other. absurd (omega (arith, has_within [] m end one));
  rising = λ m n one other lt a b. absurd cc;
  nearest = λ number pair end at fits before. absurd cc;
}

-- neither end is in a pair, and all ends that fit the first and come before the second are
pub pairs_more : (logs : List Log) (pairs : List EndPair) (p : EndPair) → ArePairs logs pairs → Fits logs p.first p.second → EndIsBefore p.first p.second → (IsPaired pairs p.first → ⊥) → (IsPaired pairs p.second → ⊥)
    → ((number : ℕ) (pair : EndPair) → slice_get pairs number ≡ Some pair → EndIsBefore pair.first p.first) → ((end : LogEnd) → Fits logs p.first end → EndIsBefore end p.second → IsPaired pairs end) → ArePairs logs (pairs ++ (p ∷ []))
pairs_more logs pairs p are fits before first_free second_free begun nearest =
    record {
      fit = λ m q at. fit_at m q (which pairs p m q at);
      in_order = λ m q at. order_at m q (which pairs p m q at);
      once = λ m n end one other. once_at m n end (which_has pairs p m end one) (which_has pairs p n end other);
      rising = λ m n one other lt a b. rising_at m n one other lt (which pairs p m one a) (which pairs p n other b);
      nearest = λ m q end at its early. nearest_at m q end its early (which pairs p m q at);
    } where
      fit_at : (m : ℕ) (q : EndPair) → (slice_get pairs m ≡ Some q) ⊎ ((m ≡ length pairs) × (p ≡ q)) → Fits logs q.first q.second
      fit_at m q (inl at) = are.fit m q at
      fit_at m q (inr (same, is)) = subst (λ (x : EndPair). Fits logs x.first x.second) is fits

      order_at : (m : ℕ) (q : EndPair) → (slice_get pairs m ≡ Some q) ⊎ ((m ≡ length pairs) × (p ≡ q)) → EndIsBefore q.first q.second
      order_at m q (inl at) = are.in_order m q at
      order_at m q (inr (same, is)) = subst (λ (x : EndPair). EndIsBefore x.first x.second) is before

      free_of : (end : LogEnd) → (p.first ≡ end) ⊎ (p.second ≡ end) → IsPaired pairs end → ⊥
      free_of end (inl is) paired = first_free (subst (λ (e : LogEnd). IsPaired pairs e) (sym is) paired)
      free_of end (inr is) paired = second_free (subst (λ (e : LogEnd). IsPaired pairs e) (sym is) paired)

      once_at : (m n : ℕ) (end : LogEnd) → (Has pairs m end) ⊎ ((m ≡ length pairs) × ((p.first ≡ end) ⊎ (p.second ≡ end))) → (Has pairs n end) ⊎ ((n ≡ length pairs) × ((p.first ≡ end) ⊎ (p.second ≡ end))) → m ≡ n
      once_at m n end (inl one) (inl other) = are.once m n end one other
      once_at m n end (inl one) (inr (same, is)) = absurd (free_of end is (m, one))
      once_at m n end (inr (same, is)) (inl other) = absurd (free_of end is (n, other))
      once_at m n end (inr (same, is)) (inr (also, its)) = same ∙ sym also

      rising_at : (m n : ℕ) (one other : EndPair) → m < n → (slice_get pairs m ≡ Some one) ⊎ ((m ≡ length pairs) × (p ≡ one)) → (slice_get pairs n ≡ Some other) ⊎ ((n ≡ length pairs) × (p ≡ other)) → EndIsBefore one.first other.first
      rising_at m n one other lt (inl a) (inl b) = are.rising m n one other lt a b
      rising_at m n one other lt (inl a) (inr (same, is)) = subst (λ (x : EndPair). EndIsBefore one.first x.first) is (begun m one a)
      rising_at m n one other lt (inr (same, is)) (inl b) = absurd (omega (arith, lt, same, slice_get_within pairs n other b))
      rising_at m n one other lt (inr (same, is)) (inr (also, its)) = absurd (omega (arith, lt, same, also))

      nearest_at : (m : ℕ) (q : EndPair) (end : LogEnd) → Fits logs q.first end → EndIsBefore end q.second → (slice_get pairs m ≡ Some q) ⊎ ((m ≡ length pairs) × (p ≡ q)) → (earlier : ℕ) × (earlier < m) × Has (pairs ++ (p ∷ [])) earlier end
      nearest_at m q end its early (inl at) = let found = are.nearest m q end at its early in (found.0, found.1, has_later pairs p found.0 end found.2)
      nearest_at m q end its early (inr (same, is)) =
          let found = nearest end (subst (λ (x : EndPair). Fits logs x.first end) (sym is) its) (subst (λ (x : EndPair). EndIsBefore end x.second) (sym is) early) in
          (found.0, omega (arith, same, has_within pairs found.0 end found.1), has_later pairs p found.0 end found.1)

-- ---- flags

stays_true : (xs : List Bool) (i k : ℕ) → get_or xs k true ≡ true → get_or (set xs i true) k true ≡ true
stays_true [] i k e = refl
stays_true (x ∷ xs) zero zero e = refl
stays_true (x ∷ xs) zero (suc k) e = e
stays_true (x ∷ xs) (suc i) zero e = e
stays_true (x ∷ xs) (suc i) (suc k) e = stays_true xs i k e

is_set : (xs : List Bool) (i : ℕ) → get_or (set xs i true) i true ≡ true
is_set [] i = refl
is_set (x ∷ xs) zero = refl
is_set (x ∷ xs) (suc i) = is_set xs i

-- a flag that isn't set was set before, or is the one that is set now
was : (xs : List Bool) (i k : ℕ) → get_or (set xs i true) k true ≡ true → (i ≡ k) ⊎ (get_or xs k true ≡ true)
was xs i k e = by (cases_eq k i) where
  by : (k ≡ i) ⊎ (k ≡ i → ⊥) → (i ≡ k) ⊎ (get_or xs k true ≡ true)
  by (inl same) = inl (sym same)
  by (inr apart) = inr (sym (get_or-set_other xs i k true true apart) ∙ e)

was_free : (xs : List Bool) (i k : ℕ) → get_or (set xs i true) k true ≡ false → get_or xs k true ≡ false
was_free xs i k e = by (cases_Bool (get_or xs k true)) where
  by : (get_or xs k true ≡ true) ⊎ (get_or xs k true ≡ false) → get_or xs k true ≡ false
  by (inl taken) = absurd (both_ways (get_or (set xs i true) k true) e (stays_true xs i k taken))
  by (inr free) = free

-- ---- one end further

pub none_paired : (rows : Rows) → HasPaired rows 0 (replicate (vec_len rows.rows) false) []
none_paired rows = record {
  are = no_pairs rows.logs.now;
  flags = length-replicate (vec_len rows.rows) false;
  before = λ k lt. absurd (omega (arith, lt));
  taken_are = λ k lt taken. absurd (both_ways (get_or (replicate (vec_len rows.rows) false) k true) (get_or-replicate (vec_len rows.rows) k false true lt) taken);
  free_are = λ k lt free paired. omega (arith, has_within [] paired.0 (end_at rows k) paired.1);
  begun = λ number pair at. absurd cc;
}

before_or_at : (k place : ℕ) → k < place + 1 → (k < place) ⊎ (k ≡ place)
before_or_at k place lt = by (cases_lt k place) where
  by : (k < place) ⊎ (place ≤ k) → (k < place) ⊎ (k ≡ place)
  by (inl early) = inl early
  by (inr late) = inr (omega (arith, lt, late))

-- the end is taken
pub goes_on : (rows : Rows) (place : ℕ) (taken : List Bool) (pairs : List EndPair) → HasPaired rows place taken pairs → get_or taken place true ≡ true → HasPaired rows (place + 1) taken pairs
goes_on rows place taken pairs has is =
    record {
      are = has.are;
      flags = has.flags;
      before = λ k lt. at k (before_or_at k place lt);
      taken_are = has.taken_are;
      free_are = has.free_are;
      begun = λ number pair there. let found = has.begun number pair there in (found.0, omega (arith, found.1), found.2);
    } where
      at : (k : ℕ) → (k < place) ⊎ (k ≡ place) → get_or taken k true ≡ true
      at k (inl early) = has.before k early
      at k (inr same) = ap (λ n. get_or taken n true) same ∙ is

-- an end that fits the one at a place is in a pair, if none is free there
paired_if : (rows : Rows) → IsOfLogs rows → (place limit : ℕ) (taken : List Bool) (pairs : List EndPair) → HasPaired rows place taken pairs → HasNoneFree rows taken place limit → (k : ℕ) → k < limit → k < vec_len rows.rows → Fits rows.logs.now (end_at rows place) (end_at rows k) → IsPaired pairs (end_at rows k)
paired_if rows is place limit taken pairs has none k lt within fits = by (cases_Bool (get_or taken k true)) (cases_lt k place) where
  by : (get_or taken k true ≡ true) ⊎ (get_or taken k true ≡ false) → (k < place) ⊎ (place ≤ k) → IsPaired pairs (end_at rows k)
  by (inl flagged) late = has.taken_are k within flagged
  by (inr free) (inl early) = has.taken_are k within (has.before k early)
  by (inr free) (inr late) = absurd (none k late lt (record { free = free; fits = fits }))

other_end : (rows : Rows) → IsOfLogs rows → (place : ℕ) (end : LogEnd) → Fits rows.logs.now (end_at rows place) end → IsEnd rows.logs.now end
other_end rows is place end fits = fits_end rows.logs.now end (end_at rows place) (same_symmetric rows.logs.now (end_at rows place) end fits)

-- the end is paired with its partner
pub one_paired : (rows : Rows) → IsOfLogs rows → (place other : ℕ) (taken : List Bool) (pairs : List EndPair) → place < vec_len rows.rows → HasPaired rows place taken pairs → get_or taken place true ≡ false → IsPartner rows taken place other
    → HasPaired rows (place + 1) (set (set taken place true) other true) (pairs ++ (record { first = end_at rows place; second = end_at rows other } ∷ []))
one_paired rows is place other taken pairs within has free partner =
    record {
      are = pairs_more rows.logs.now pairs pair has.are partner.is.fits (sorted_at rows is place other after partner.within) (has.free_are place within free) (has.free_are other partner.within partner.is.free) begun_before nearest;
      flags = length-set (set taken place true) other true ∙ length-set taken place true ∙ has.flags;
      before = λ k lt. before_at k (before_or_at k place lt);
      taken_are = λ k lt flagged. taken_at k lt flagged (was (set taken place true) other k flagged);
      free_are = λ k lt unset paired. free_at k lt unset paired.0 (which_has pairs pair paired.0 (end_at rows k) paired.1);
      begun = λ number q at. begun_at number q (which pairs pair number q at);
    } where
      pair : EndPair
      pair = record { first = end_at rows place; second = end_at rows other }

      apart : place ≡ other → ⊥
      apart same = partner.is.fits.apart (ap (λ (k : ℕ). (end_at rows k).log) same)

      after : place < other
      after = omega (arith, partner.from, apart)

      begun_before : (number : ℕ) (q : EndPair) → slice_get pairs number ≡ Some q → EndIsBefore q.first (end_at rows place)
      begun_before number q at = let found = has.begun number q at in subst (λ (e : LogEnd). EndIsBefore e (end_at rows place)) (sym found.2) (sorted_at rows is found.0 place found.1 within)

      nearest : (end : LogEnd) → Fits rows.logs.now (end_at rows place) end → EndIsBefore end (end_at rows other) → IsPaired pairs end
      nearest end fits early =
          let found = earlier_at rows is other partner.within end (other_end rows is place end fits) early in
          subst (λ (e : LogEnd). IsPaired pairs e) found.2 (paired_if rows is place other taken pairs has partner.first found.0 found.1 (omega (arith, found.1, partner.within)) (subst (λ (e : LogEnd). Fits rows.logs.now (end_at rows place) e) (sym found.2) fits))

      before_at : (k : ℕ) → (k < place) ⊎ (k ≡ place) → get_or (set (set taken place true) other true) k true ≡ true
      before_at k (inl early) = stays_true (set taken place true) other k (stays_true taken place k (has.before k early))
      before_at k (inr same) = stays_true (set taken place true) other k (ap (λ n. get_or (set taken place true) n true) same ∙ is_set taken place)

      new_first : (k : ℕ) → place ≡ k → Has (pairs ++ (pair ∷ [])) (length pairs) (end_at rows k)
      new_first k same = record { pair = pair; there = append_right pairs (pair ∷ []) 0 (length pairs) pair (omega arith) refl; ends = inl (ap (end_at rows) same) }

      new_second : (k : ℕ) → other ≡ k → Has (pairs ++ (pair ∷ [])) (length pairs) (end_at rows k)
      new_second k same = record { pair = pair; there = append_right pairs (pair ∷ []) 0 (length pairs) pair (omega arith) refl; ends = inr (ap (end_at rows) same) }

      taken_first : (k : ℕ) → k < vec_len rows.rows → (place ≡ k) ⊎ (get_or taken k true ≡ true) → IsPaired (pairs ++ (pair ∷ [])) (end_at rows k)
      taken_first k lt (inl same) = (length pairs, new_first k same)
      taken_first k lt (inr flagged) = let paired = has.taken_are k lt flagged in (paired.0, has_later pairs pair paired.0 (end_at rows k) paired.1)

      taken_at : (k : ℕ) → k < vec_len rows.rows → get_or (set (set taken place true) other true) k true ≡ true → (other ≡ k) ⊎ (get_or (set taken place true) k true ≡ true) → IsPaired (pairs ++ (pair ∷ [])) (end_at rows k)
      taken_at k lt flagged (inl same) = (length pairs, new_second k same)
      taken_at k lt flagged (inr set_before) = taken_first k lt (was taken place k set_before)

      free_new : (k : ℕ) → k < vec_len rows.rows → get_or (set (set taken place true) other true) k true ≡ false → (end_at rows place ≡ end_at rows k) ⊎ (end_at rows other ≡ end_at rows k) → ⊥
      free_new k lt unset (inl same) =
          let at : place ≡ k = same_place rows is place k within lt same in
          both_ways (get_or (set (set taken place true) other true) k true) unset (stays_true (set taken place true) other k (ap (λ n. get_or (set taken place true) n true) (sym at) ∙ is_set taken place))
      free_new k lt unset (inr same) =
          let at : other ≡ k = same_place rows is other k partner.within lt same in
          both_ways (get_or (set (set taken place true) other true) k true) unset (ap (λ n. get_or (set (set taken place true) other true) n true) (sym at) ∙ is_set (set taken place true) other)

      free_at : (k : ℕ) → k < vec_len rows.rows → get_or (set (set taken place true) other true) k true ≡ false → (m : ℕ) → (Has pairs m (end_at rows k)) ⊎ ((m ≡ length pairs) × ((end_at rows place ≡ end_at rows k) ⊎ (end_at rows other ≡ end_at rows k))) → ⊥
      free_at k lt unset m (inl early) = has.free_are k lt (was_free taken place k (was_free (set taken place true) other k unset)) (m, early)
      free_at k lt unset m (inr (same, which_end)) = free_new k lt unset which_end

      begun_at : (number : ℕ) (q : EndPair) → (slice_get pairs number ≡ Some q) ⊎ ((number ≡ length pairs) × (pair ≡ q)) → (k : ℕ) × (k < place + 1) × (q.first ≡ end_at rows k)
      begun_at number q (inl at) = let found = has.begun number q at in (found.0, omega (arith, found.1), found.2)
      begun_at number q (inr (same, it)) = (place, omega arith, ap (λ (x : EndPair). x.first) (sym it))

-- ---- the end

pub left_over : (rows : Rows) → IsOfLogs rows → ((end : LogEnd) → IsEnd rows.logs.now end → IsClear rows.logs.now end) → (place : ℕ) (taken : List Bool) (pairs : List EndPair) → place < vec_len rows.rows → HasPaired rows place taken pairs → get_or taken place true ≡ false → HasNoneFree rows taken place (vec_len rows.rows) → IsLeftOver rows.logs.now (end_at rows place)
left_over rows is all_clear place taken pairs within has free none =
    record {
      clear = all_clear;
      pairs = pairs;
      are = has.are;
      before = λ other it early. let found = earlier_at rows is place within other it early in subst (λ (e : LogEnd). IsPaired pairs e) found.2 (has.taken_are found.0 (omega (arith, found.1, within)) (has.before found.0 found.1));
      begun = λ number q at. let found = has.begun number q at in subst (λ (e : LogEnd). EndIsBefore e (end_at rows place)) (sym found.2) (sorted_at rows is found.0 place found.1 within);
      free = has.free_are place within free;
      taken = λ other fits. let found = all_at rows is other (other_end rows is place other fits) in subst (λ (e : LogEnd). IsPaired pairs e) found.2 (paired_if rows is place (vec_len rows.rows) taken pairs has none found.0 found.1 found.1 (subst (λ (e : LogEnd). Fits rows.logs.now (end_at rows place) e) (sym found.2) fits));
    }

pub joined : (rows : Rows) → IsOfLogs rows → ((end : LogEnd) → IsEnd rows.logs.now end → IsClear rows.logs.now end) → (place : ℕ) (taken : List Bool) (pairs : List EndPair) → vec_len rows.rows ≤ place → HasPaired rows place taken pairs → IsJoined rows.logs.now pairs
joined rows is all_clear place taken pairs done has =
    record {
      clear = all_clear;
      are = has.are;
      each = λ end it. let found = all_at rows is end it in subst (λ (e : LogEnd). IsPaired pairs e) found.2 (has.taken_are found.0 found.1 (has.before found.0 (omega (arith, found.1, done))));
    }
