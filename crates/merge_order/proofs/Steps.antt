-- Going on by one step, as the loops do.
use Rattle.std.proofs.Common.{◌≡◌, ℕ, suc, ◌+◌, ◌-◌, ◌<◌, ◌≤◌, Bool, true, false, List, [], ◌∷◌, ◌++◌, length, get_or, Option, Some, None, refl, sym, ap, subst, ◌∙◌, inl, inr, arith, append_assoc}
use Rattle.std.specs.Prelude.{◌==◌, ◌↔◌, map, slice_get, nat_lt}
use Rattle.std.specs.Option.{option_map}
use Rattle.std.specs.List.Sorted.{IsStrictlyIncreasing}
use Rattle.std.proofs.lemmas.Bool.{false≢true}
use Rattle.std.proofs.lemmas.List.{append-nil}
use Rattle.vat_log.specs.declared.body.Body.{Body}
use Rattle.vat_log.specs.declared.body.Body.TheVariants.{Receive}
use Rattle.vat_log.specs.Log.{Log}
use Rattle.merge_order.specs.declared.order_check.OrderFinding.{OrderFinding}
use Rattle.merge_order.specs.declared.order_check.OrderFinding.TheVariants as findings
use Rattle.merge_order.specs.Fits.{Part, received_so_far, part_of, sent_by_the_others, may_come_from, may_come, further, after, used_up, begin, FitsFrom, IsFitting, TakesLeastFrom, fault_from, finding_at, finding_of_order}
use Rattle.merge_order.proofs.Greedy.{bool_cases, some_is, eqb_apart, further_cases, further_log, left_from, front}

-- ---- how many records are left

abbrev pub left : List Part → ℕ
left [] = 0
left (p ∷ ps) = length p.log.records - p.came + left ps

left_one : (w : ℕ) (p : Part) → length (further w p).log.records - (further w p).came ≤ length p.log.records - p.came
left_one w p =
    elim (further_cases w p) [
      | inl stays ↦ rw stays.0 (omega arith)
      | inr moves ↦ rw moves.0 (omega arith)
    ]

left_le : (w : ℕ) (ps : List Part) → left (after w ps) ≤ left ps
left_le w [] = omega arith
left_le w (p ∷ ps) = omega (arith, left_one w p, left_le w ps)

moves_own : (v : ℕ) (p : Part) → (p.log.vat == v) ≡ true → further v p ≡ record { log = p.log; came = p.came + 1 }
moves_own v p same =
    elim (further_cases v p) [
      | inl stays ↦ absurd (false≢true (sym stays.1 ∙ same))
      | inr moves ↦ moves.0
    ]

left_lt : (v : ℕ) (ps : List Part) (own : Part) → part_of v ps ≡ Some own → own.came < length own.log.records → left (after v ps) < left ps
left_lt v [] own e lt = absurd cc
left_lt v (p ∷ ps) own e lt =
    elim (bool_cases (p.log.vat == v)) [
      | inl same ↦
          let is : p ≡ own = some_is p own (rw same at e) in
          let P : Part → Type 0 = λ q. q.came < length q.log.records in
          let own_lt : p.came < length p.log.records = subst P (sym is) lt in
          let moved = moves_own v p same in
          rw moved (omega (arith, own_lt, left_le v ps))
      | inr other ↦ let later = left_lt v ps own (rw other at e) lt in omega (arith, left_one v p, later)
    ]

falls_from : (v : ℕ) (ps : List Part) (o : Option Part) → part_of v ps ≡ o → may_come_from v ps o ≡ true → left (after v ps) < left ps
falls_from v ps None e may = absurd (false≢true may)
falls_from v ps (Some own) e may = left_lt v ps own e (left_from v ps own may)

pub falls : (v : ℕ) (ps : List Part) → may_come ps v ≡ true → left (after v ps) < left ps
unfolding may_come
falls v ps may = falls_from v ps (part_of v ps) refl may

-- ---- making

-- what holds after some steps: what is left decides
pub record IsMade (start now : List Part) (vats : List ℕ) : Type 0 where
  pub fits : (rest : List ℕ) → FitsFrom now rest → FitsFrom start (vats ++ rest)
  pub least : (rest : List ℕ) → TakesLeastFrom now rest → TakesLeastFrom start (vats ++ rest)
  pub kept : (order : List ℕ) → FitsFrom start order → (rest : List ℕ) × FitsFrom now rest

pub made_none : (start : List Part) → IsMade start start []
made_none start = record { fits = λ rest h. h; least = λ rest h. h; kept = λ order h. (order, h) }

pub made_more : (start now : List Part) (vats : List ℕ) (v : ℕ) → may_come now v ≡ true → ((smaller : ℕ) → smaller < v → may_come now smaller ≡ false) → IsMade start now vats → IsMade start (after v now) (vats ++ v ∷ [])
made_more start now vats v may smallest made = record {
  fits = λ rest h. subst (λ (l : List ℕ). FitsFrom start l) (sym (append_assoc vats (v ∷ []) rest)) (made.fits (v ∷ rest) (may, h));
  least = λ rest h. subst (λ (l : List ℕ). TakesLeastFrom start l) (sym (append_assoc vats (v ∷ []) rest)) (made.least (v ∷ rest) (may, smallest, h));
  kept = λ order h. (let before = made.kept order h in front v now before.0 may before.1);
}

pub made_fits : (start now : List Part) (vats : List ℕ) → IsMade start now vats → used_up now ≡ true → FitsFrom start vats
made_fits start now vats made used = subst (λ (l : List ℕ). FitsFrom start l) (append-nil vats) (made.fits [] used)

pub made_least : (start now : List Part) (vats : List ℕ) → IsMade start now vats → used_up now ≡ true → TakesLeastFrom start vats
made_least start now vats made used = subst (λ (l : List ℕ). TakesLeastFrom start l) (append-nil vats) (made.least [] used)

stuck : (now : List Part) (rest : List ℕ) → ((v : ℕ) → may_come now v ≡ false) → used_up now ≡ false → FitsFrom now rest → ⊥
stuck now [] none used fits = false≢true (sym used ∙ fits)
stuck now (v ∷ rest) none used fits = false≢true (sym (none v) ∙ fits.0)

pub no_order : (start now : List Part) (vats : List ℕ) → IsMade start now vats → ((v : ℕ) → may_come now v ≡ false) → used_up now ≡ false → (order : List ℕ) → FitsFrom start order → ⊥
no_order start now vats made none used order fits = let rest = made.kept order fits in stuck now rest.0 none used rest.1

-- ---- checking

fault_here : (ps : List Part) (v : ℕ) (order : List ℕ) → may_come ps v ≡ false → fault_from ps (v ∷ order) ≡ Some 0
unfolding fault_from
fault_here ps v order may = rw may refl

fault_next : (ps : List Part) (v : ℕ) (order : List ℕ) → may_come ps v ≡ true → fault_from ps (v ∷ order) ≡ option_map suc (fault_from (after v ps) order)
unfolding fault_from
fault_next ps v order may = rw may refl

fault_end : (ps : List Part) → used_up ps ≡ true → fault_from ps [] ≡ None
unfolding fault_from
fault_end ps used = rw used refl

fault_left : (ps : List Part) → used_up ps ≡ false → fault_from ps [] ≡ Some 0
unfolding fault_from
fault_left ps used = rw used refl

shift_suc : (n : ℕ) (o : Option ℕ) → option_map (λ k. n + k) (option_map suc o) ≡ option_map (λ k. n + 1 + k) o
shift_suc n None = refl
shift_suc n (Some k) = let e : n + suc k ≡ n + 1 + k = omega arith in ap Some e

shift_zero : (o : Option ℕ) → o ≡ option_map (λ k. 0 + k) o
shift_zero None = refl
shift_zero (Some k) = let e : k ≡ 0 + k = omega arith in ap Some e

pub checked_none : (ps : List Part) (order : List ℕ) → fault_from ps order ≡ option_map (λ k. 0 + k) (fault_from ps order)
checked_none ps order = shift_zero (fault_from ps order)

pub checked_more : (ps : List Part) (n v : ℕ) (rest later : List ℕ) (total : Option ℕ) → total ≡ option_map (λ k. n + k) (fault_from ps rest) → rest ≡ v ∷ later → may_come ps v ≡ true
    → total ≡ option_map (λ k. n + 1 + k) (fault_from (after v ps) later)
checked_more ps n v rest later total so_far e may =
    so_far ∙ ap (λ (l : List ℕ). option_map (λ k. n + k) (fault_from ps l)) e ∙ ap (option_map (λ k. n + k)) (fault_next ps v later may) ∙ shift_suc n (fault_from (after v ps) later)

pub checked_fails : (ps : List Part) (n v : ℕ) (rest later : List ℕ) (total : Option ℕ) → total ≡ option_map (λ k. n + k) (fault_from ps rest) → rest ≡ v ∷ later → may_come ps v ≡ false → total ≡ Some n
checked_fails ps n v rest later total so_far e may =
    let zeroth : n + 0 ≡ n = omega arith in
    so_far ∙ ap (λ (l : List ℕ). option_map (λ k. n + k) (fault_from ps l)) e ∙ ap (option_map (λ k. n + k)) (fault_here ps v later may) ∙ ap Some zeroth

pub checked_fits : (ps : List Part) (n : ℕ) (rest : List ℕ) (total : Option ℕ) → total ≡ option_map (λ k. n + k) (fault_from ps rest) → rest ≡ [] → used_up ps ≡ true → total ≡ None
checked_fits ps n rest total so_far e used =
    so_far ∙ ap (λ (l : List ℕ). option_map (λ k. n + k) (fault_from ps l)) e ∙ ap (option_map (λ k. n + k)) (fault_end ps used)

pub checked_left : (ps : List Part) (n : ℕ) (rest : List ℕ) (total : Option ℕ) → total ≡ option_map (λ k. n + k) (fault_from ps rest) → rest ≡ [] → used_up ps ≡ false → total ≡ Some n
checked_left ps n rest total so_far e used =
    let zeroth : n + 0 ≡ n = omega arith in
    so_far ∙ ap (λ (l : List ℕ). option_map (λ k. n + k) (fault_from ps l)) e ∙ ap (option_map (λ k. n + k)) (fault_left ps used) ∙ ap Some zeroth

suc_some : (o : Option ℕ) → option_map suc o ≡ None → o ≡ None
suc_some None e = refl
suc_some (Some k) e = absurd cc

none_some : (k : ℕ) → None ≡ Some k → ⊥
none_some k e = cc

pub fits_from_none : (ps : List Part) (order : List ℕ) → fault_from ps order ≡ None → FitsFrom ps order
fits_from_none ps [] e =
    elim (bool_cases (used_up ps)) [
      | inl used ↦ used
      | inr not ↦ absurd (none_some _ (sym e ∙ fault_left ps not))
    ]
fits_from_none ps (v ∷ order) e =
    elim (bool_cases (may_come ps v)) [
      | inl may ↦ (may, fits_from_none (after v ps) order (suc_some _ (sym (fault_next ps v order may) ∙ e)))
      | inr not ↦ absurd (none_some _ (sym e ∙ fault_here ps v order not))
    ]

pub none_from_fits : (ps : List Part) (order : List ℕ) → FitsFrom ps order → fault_from ps order ≡ None
none_from_fits ps [] fits = fault_end ps fits
none_from_fits ps (v ∷ order) fits = fault_next ps v order fits.0 ∙ ap (option_map suc) (none_from_fits (after v ps) order fits.1)

none_from_finding : (o : Option ℕ) → finding_at o ≡ findings.Fits → o ≡ None
none_from_finding None e = refl
none_from_finding (Some k) e = absurd cc

-- an order is found to fit just where it fits
pub finding_fits : (logs : List Log) (order : List ℕ) → (finding_of_order logs order ≡ findings.Fits) ↔ IsFitting logs order
finding_fits logs order =
    (λ e. fits_from_none (begin logs) order (none_from_finding _ e), λ fits. ap finding_at (none_from_fits (begin logs) order fits))

-- ---- the least vat

pub rising_tail : (x : ℕ) (xs : List ℕ) → IsStrictlyIncreasing (x ∷ xs) → IsStrictlyIncreasing xs
rising_tail x xs rising k h =
    let e : suc k + 1 ≡ suc (k + 1) = omega arith in
    let P : ℕ → Type 0 = λ j. get_or xs k 0 < get_or (x ∷ xs) j 0 in
    subst P e (rising (suc k) (omega arith))

-- no part from here on is of a smaller vat
pub none_smaller : (p : Part) (ps : List Part) (u : ℕ) → IsStrictlyIncreasing (map (λ q. q.log.vat) (p ∷ ps)) → u < p.log.vat → part_of u (p ∷ ps) ≡ None
none_smaller p [] u rising lt = rw (eqb_apart p.log.vat u (λ e. omega arith)) refl
none_smaller p (q ∷ ps) u rising lt =
    let first : p.log.vat < q.log.vat = rising 0 (omega arith) in
    let later = none_smaller q ps u (rising_tail p.log.vat (map (λ r. r.log.vat) (q ∷ ps)) rising) (omega arith) in
    rw (eqb_apart p.log.vat u (λ e. omega arith)) later

pub all_passed : (ps : List Part) (u : ℕ) → part_of u ps ≡ None → may_come ps u ≡ false
unfolding may_come
all_passed ps u none = ap (may_come_from u ps) none

-- ---- the next record

pub may_receive : (ps : List Part) (v : ℕ) (own : Part) (b : Body) (connection call : ℕ) (references frame : List ℕ) (n : ℕ) (r : Bool) → Some own ≡ part_of v ps → Some b ≡ slice_get own.log.records own.came
    → b ≡ Receive connection call references frame → n ≡ received_so_far connection own → r ≡ nat_lt n (sent_by_the_others v connection ps) → r ≡ may_come ps v
unfolding may_come
may_receive ps v own b connection call references frame n r part next kind count is =
    rw (← part, ← next, kind) (is ∙ ap (λ k. nat_lt k (sent_by_the_others v connection ps)) count)

-- ---- the order of the vat numbers stays

vats_begin : (logs : List Log) → map (λ (q : Part). q.log.vat) (begin logs) ≡ map (λ log. log.vat) logs
vats_begin [] = refl
vats_begin (log ∷ logs) = ap (λ (l : List ℕ). log.vat ∷ l) (vats_begin logs)

vats_after : (v : ℕ) (ps : List Part) → map (λ (q : Part). q.log.vat) (after v ps) ≡ map (λ q. q.log.vat) ps
vats_after v [] = refl
vats_after v (p ∷ ps) =
    let one = ap (λ (l : Log). l.vat) (further_log v p) in
    let others = vats_after v ps in
    cc

pub rising_begin : (logs : List Log) (ps : List Part) → ps ≡ begin logs → IsStrictlyIncreasing (map (λ log. log.vat) logs) → IsStrictlyIncreasing (map (λ q. q.log.vat) ps)
rising_begin logs ps same rising =
    subst (λ (l : List ℕ). IsStrictlyIncreasing l) (sym (ap (map (λ (q : Part). q.log.vat)) same ∙ vats_begin logs)) rising

pub rising_after : (v : ℕ) (ps qs : List Part) → qs ≡ after v ps → IsStrictlyIncreasing (map (λ q. q.log.vat) ps) → IsStrictlyIncreasing (map (λ q. q.log.vat) qs)
rising_after v ps qs same rising =
    subst (λ (l : List ℕ). IsStrictlyIncreasing l) (sym (ap (map (λ (q : Part). q.log.vat)) same ∙ vats_after v ps)) rising

-- an order is found to fit just where it fits
pub found_fits : (logs : List Log) (order : List ℕ) (found : OrderFinding) → found ≡ finding_of_order logs order → (found ≡ findings.Fits) ↔ IsFitting logs order
found_fits logs order found same =
    let both = finding_fits logs order in
    (λ e. both.0 (sym same ∙ e), λ fits. same ∙ both.1 fits)

pub fault_is : (logs : List Log) (order seen : List ℕ) (o : Option ℕ) (found : OrderFinding) → seen ≡ order → fault_from (begin logs) seen ≡ o → found ≡ finding_at o → found ≡ finding_of_order logs order
fault_is logs order seen o found same e is = is ∙ ap finding_at (sym e ∙ ap (fault_from (begin logs)) same)

pub fault_fits : (logs : List Log) (order seen : List ℕ) (o : Option ℕ) (found : OrderFinding) → seen ≡ order → fault_from (begin logs) seen ≡ o → found ≡ finding_at o → (found ≡ findings.Fits) ↔ IsFitting logs order
fault_fits logs order seen o found same e is = found_fits logs order found (fault_is logs order seen o found same e is)
