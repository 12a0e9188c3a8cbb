-- The table of the frames that all vats sent: at the begin, after a step, and against those that one vat sent.
use Rattle.std.proofs.Common.{◌≡◌, ℕ, zero, suc, ◌+◌, ◌<◌, ◌≤◌, true, List, [], ◌∷◌, length, get_or, set, take, Some, None, refl, sym, ap, subst, ◌∙◌, inl, inr, arith}
use Rattle.std.specs.Prelude.{◌==◌, map, slice_index_or}
use Rattle.std.specs.List.Sorted.{IsStrictlyIncreasing}
use Rattle.std.proofs.lemmas.Bool.{false≢true, eq-eqb, eqb-true, cases_eq}
use Rattle.std.proofs.Math.Nat.{min-le_left}
use Rattle.std.proofs.lemmas.List.{length-take}
use Rattle.std.proofs.lemmas.List.Sums.{sum_by-cons, sum_by-set, count_by-le-length}
use Rattle.vat_log.specs.Log.{Log}
use Rattle.merge_order.specs.declared.connection_counts.ConnectionCounts.{ConnectionCounts}
use Rattle.merge_order.specs.Fits.{Part, sent_so_far, part_of, sent_by_the_others, may_come, after, begin}
use Rattle.vat_log.specs.Passages.{sends_frame}
use Rattle.merge_order.specs.Glue.{count_on, IsEmpty, RisesWith, one_further, came_by_all, sent_by_all, IsTotalled}
use Rattle.merge_order.proofs.Greedy.{bool_cases, some_is, eqb_apart, has_left, other_stays, own_moves, others_own, others_more}
use Rattle.merge_order.proofs.Steps.{rising_tail, none_smaller, all_passed}

none_some_part : (p : Part) → None ≡ Some p → ⊥
none_some_part p e = cc

-- ---- the vat numbers rise, so each vat has one part

pub own_not_again : (p : Part) (ps : List Part) → IsStrictlyIncreasing (map (λ q. q.log.vat) (p ∷ ps)) → part_of p.log.vat ps ≡ None
own_not_again p [] rising = refl
own_not_again p (q ∷ ps) rising =
    none_smaller q ps p.log.vat (rising_tail p.log.vat (map (λ r. r.log.vat) (q ∷ ps)) rising) (rising 0 (omega arith))

part_there : (ps : List Part) (i : ℕ) (d : Part) → IsStrictlyIncreasing (map (λ q. q.log.vat) ps) → i < length ps → part_of (get_or ps i d).log.vat ps ≡ Some (get_or ps i d)
part_there [] i d rising lt = absurd (omega arith)
part_there (p ∷ ps) zero d rising lt = rw (eq-eqb p.log.vat p.log.vat refl) refl
part_there (p ∷ ps) (suc i) d rising lt =
    let later = part_there ps i d (rising_tail p.log.vat (map (λ q. q.log.vat) ps) rising) (omega arith) in
    let own = get_or ps i d in
    elim (cases_eq p.log.vat own.log.vat) [
      | inl same ↦ absurd (none_some_part own (sym (own_not_again p ps rising) ∙ ap (λ (u : ℕ). part_of u ps) same ∙ later))
      | inr other ↦ rw (eqb_apart _ _ other) later
    ]

pub part_at : (ps : List Part) (i : ℕ) (p : Part) → IsStrictlyIncreasing (map (λ q. q.log.vat) ps) → i < length ps → p ≡ get_or ps i p → part_of p.log.vat ps ≡ Some p
part_at ps i p rising lt is = subst (λ (q : Part). part_of q.log.vat ps ≡ Some q) (sym is) (part_there ps i p rising lt)

pub part_vat : (v : ℕ) (ps : List Part) (own : Part) → part_of v ps ≡ Some own → own.log.vat ≡ v
part_vat v [] own e = absurd (none_some_part own e)
part_vat v (p ∷ ps) own e =
    elim (bool_cases (p.log.vat == v)) [
      | inl same ↦ let is : p ≡ own = some_is p own (rw same at e) in sym (ap (λ (q : Part). q.log.vat) is) ∙ eqb-true _ _ same
      | inr other ↦ part_vat v ps own (rw other at e)
    ]

-- ---- a step moves the one part of its vat

pub stays_all : (v : ℕ) (ps : List Part) → part_of v ps ≡ None → after v ps ≡ ps
stays_all v [] e = refl
stays_all v (p ∷ ps) e =
    elim (cases_eq p.log.vat v) [
      | inl same ↦ absurd (none_some_part p (sym e ∙ rw (eq-eqb _ _ same) refl))
      | inr other ↦ let one = other_stays v p other in let rest = stays_all v ps (rw (eqb_apart _ _ other) at e) in cc
    ]

pub after_at : (v : ℕ) (ps : List Part) (i : ℕ) (d : Part) → IsStrictlyIncreasing (map (λ q. q.log.vat) ps) → i < length ps → (get_or ps i d).log.vat ≡ v → after v ps ≡ set ps i (one_further (get_or ps i d))
after_at v [] i d rising lt vat = absurd (omega arith)
after_at v (p ∷ ps) zero d rising lt vat =
    let one = own_moves v p vat in
    let rest = stays_all v ps (ap (λ (u : ℕ). part_of u ps) (sym vat) ∙ own_not_again p ps rising) in
    cc
after_at v (p ∷ ps) (suc i) d rising lt vat =
    let tail = rising_tail p.log.vat (map (λ q. q.log.vat) ps) rising in
    let rest = after_at v ps i d tail (omega arith) vat in
    elim (cases_eq p.log.vat v) [
      | inl same ↦ absurd (none_some_part (get_or ps i d) (sym (own_not_again p ps rising) ∙ ap (λ (u : ℕ). part_of u ps) (same ∙ sym vat) ∙ part_there ps i d tail (omega arith)))
      | inr other ↦ let one = other_stays v p other in cc
    ]

-- what a step that may come finds at the place of its vat, and leaves there
pub record IsOwn (v : ℕ) (ps : List Part) (i : ℕ) (own : Part) : Type 0 where
  pub there : i < length ps
  pub left : own.came < length own.log.records
  pub after : after v ps ≡ set ps i (one_further own)

pub own_at : (v : ℕ) (ps now : List Part) (i : ℕ) (own : Part) → ps ≡ now → IsStrictlyIncreasing (map (λ q. q.log.vat) ps) → may_come now v ≡ true → (i < length now) × ((d : Part) → (slice_index_or now i d).log.vat ≡ v) → own ≡ get_or ps i own → IsOwn v ps i own
own_at v ps now i own view rising may place is =
    let there : i < length ps = subst (λ (l : List Part). i < length l) (sym view) place.0 in
    let vat : (get_or ps i own).log.vat ≡ v = ap (λ (l : List Part). (get_or l i own).log.vat) view ∙ place.1 own in
    let left = has_left v ps (get_or ps i own) (ap (λ (l : List Part). may_come l v) view ∙ may) (ap (λ (u : ℕ). part_of u ps) (sym vat) ∙ part_there ps i own rising there) in
    record {
      there = there;
      left = subst (λ (q : Part). q.came < length q.log.records) (sym is) left;
      after = after_at v ps i own rising there vat ∙ ap (λ (q : Part). set ps i (one_further q)) (sym is);
    }

-- a vat that may come has a part
pub no_part : (v : ℕ) (ps : List Part) → part_of v ps ≡ None → may_come ps v ≡ true → ⊥
no_part v ps none may = false≢true (sym (all_passed ps v none) ∙ may)

-- ---- how many records came

sent_le_came : (connection : ℕ) (p : Part) → sent_so_far connection p ≤ p.came
sent_le_came connection p =
    omega (arith, count_by-le-length (sends_frame connection) (take p.came p.log.records), length-take p.came p.log.records, min-le_left p.came (length p.log.records))

pub all_le_came : (connection : ℕ) (ps : List Part) → sent_by_all connection ps ≤ came_by_all ps
all_le_came connection [] = omega arith
all_le_came connection (p ∷ ps) =
    omega (arith, sum_by-cons (sent_so_far connection) p ps, sum_by-cons (λ (q : Part). q.came) p ps, sent_le_came connection p, all_le_came connection ps)

pub came_begin : (logs : List Log) → came_by_all (begin logs) ≡ 0
came_begin [] = refl
came_begin (log ∷ logs) = omega (arith, sum_by-cons (λ (q : Part). q.came) (record { log = log; came = 0 }) (begin logs), came_begin logs)

-- ---- all vats, and all but one

others_are_all : (v connection : ℕ) (ps : List Part) → part_of v ps ≡ None → sent_by_the_others v connection ps ≡ sent_by_all connection ps
others_are_all v connection [] e = refl
others_are_all v connection (p ∷ ps) e =
    elim (cases_eq p.log.vat v) [
      | inl same ↦ absurd (none_some_part p (sym e ∙ rw (eq-eqb _ _ same) refl))
      | inr other ↦
          let later = others_are_all v connection ps (rw (eqb_apart _ _ other) at e) in
          others_more v connection p ps other ∙ ap (λ (n : ℕ). sent_so_far connection p + n) later ∙ sym (sum_by-cons (sent_so_far connection) p ps)
    ]

own_and_others : (v connection : ℕ) (ps : List Part) (own : Part) → IsStrictlyIncreasing (map (λ q. q.log.vat) ps) → part_of v ps ≡ Some own → sent_by_all connection ps ≡ sent_so_far connection own + sent_by_the_others v connection ps
own_and_others v connection [] own rising e = absurd (none_some_part own e)
own_and_others v connection (p ∷ ps) own rising e =
    let whole = sum_by-cons (sent_so_far connection) p ps in
    elim (cases_eq p.log.vat v) [
      | inl same ↦
          let is : p ≡ own = some_is p own (rw (eq-eqb _ _ same) at e) in
          let rest = others_are_all v connection ps (ap (λ (u : ℕ). part_of u ps) (sym same) ∙ own_not_again p ps rising) in
          omega (arith, whole, ap (sent_so_far connection) is, rest, others_own v connection p ps same)
      | inr other ↦
          let later = own_and_others v connection ps own (rising_tail p.log.vat (map (λ q. q.log.vat) ps) rising) (rw (eqb_apart _ _ other) at e) in
          omega (arith, whole, later, others_more v connection p ps other)
    ]

-- the table says what the vat sent and what the others sent
pub totalled : (v connection : ℕ) (ps : List Part) (own : Part) (totals : ConnectionCounts) → IsTotalled ps totals → part_of v ps ≡ Some own → count_on totals connection ≡ sent_so_far connection own + sent_by_the_others v connection ps
totalled v connection ps own totals kept part = kept.sum connection ∙ own_and_others v connection ps own kept.rising part

-- ---- at the begin, and after a step

total_begin : (logs : List Log) (connection : ℕ) → sent_by_all connection (begin logs) ≡ 0
total_begin [] connection = refl
total_begin (log ∷ logs) connection =
    omega (arith, sum_by-cons (sent_so_far connection) (record { log = log; came = 0 }) (begin logs), total_begin logs connection)

pub totals_begin : (logs : List Log) (ps : List Part) (totals : ConnectionCounts) → ps ≡ begin logs → IsEmpty totals → (connection : ℕ) → count_on totals connection ≡ sent_by_all connection ps
totals_begin logs ps totals is empty connection = empty connection ∙ sym (ap (sent_by_all connection) is ∙ total_begin logs connection)

-- one part goes on, and the totals rise with what it sends
pub totals_set : (ps : List Part) (i : ℕ) (new d : Part) (totals later : ConnectionCounts) → i < length ps → RisesWith (get_or ps i d) new totals later → ((connection : ℕ) → count_on totals connection ≡ sent_by_all connection ps)
    → (connection : ℕ) → count_on later connection ≡ sent_by_all connection (set ps i new)
totals_set ps i new d totals later lt rises sum connection = omega (arith, sum_by-set (sent_so_far connection) ps i new d lt, rises connection, sum connection)
