-- New numbers of connections and vats.
use Rattle.std.proofs.Common.{◌≡◌, ◌⊎◌, inl, inr, ℕ, zero, suc, ◌+◌, ◌<◌, ◌≤◌, List, [], ◌∷◌, ◌++◌, Option, Some, None, length, refl, sym, ap, subst, ◌∙◌, arith}
use Rattle.std.specs.Prelude.{slice_get, unwrap_or}
use Rattle.std.specs.BTreeMap.{BTreeMap, get}
use Rattle.std.specs.Ordering.{nat_cmp}
use Rattle.std.proofs.lemmas.List.{length_push}
use Rattle.std.proofs.lemmas.Option.{none-some, same_Some, slice_get_within}
use Rattle.std.proofs.lemmas.Bool.{cases_lt, cases_order}
use Rattle.vat_log.specs.Log.{Log}
use Rattle.log_ends.specs.Joining.{Has, IsPaired}
use Rattle.log_ends.specs.Renumbering.{VatsAreApart, IsRenumbered, end_in}
use Rattle.log_ends.specs.Numbers.{new_number_of, PutsEnd, AreNumbers, HasNoVat, AreMade, AreApartUpTo}
use Rattle.log_ends.specs.declared.log_end.EndPair.{EndPair}
use Rattle.log_ends.proofs.Lists.{append_cases}

-- ---- the table of a log

pub no_numbers : (pairs : List EndPair) (place : ℕ) (table : BTreeMap ℕ ℕ) → ((q : ℕ) → get nat_cmp table q ≡ None) → AreNumbers pairs place 0 table
no_numbers pairs place table empty = record { just = λ q number at. absurd (none-some number (sym (empty q) ∙ at)); all = λ q number lt has none. omega (arith, lt) }

pub numbers_more : (pairs : List EndPair) (place number : ℕ) (pair : EndPair) (old mid new : BTreeMap ℕ ℕ) → slice_get pairs number ≡ Some pair → AreNumbers pairs place number old → PutsEnd place pair.first number old mid → PutsEnd place pair.second number mid new → AreNumbers pairs place (number + 1) new
numbers_more pairs place number pair old mid new at are first second =
    record { just = λ q now there. just_second q now (second.just q now there); all = λ q n lt has none. all_at q n has none (cases_lt n number) lt } where
      of_first : (q now : ℕ) → pair.first ≡ end_in place q → now ≡ number → Has pairs now (end_in place q)
      of_first q now is same = subst (λ (n : ℕ). Has pairs n (end_in place q)) (sym same) (record { pair = pair; there = at; ends = inl is })

      of_second : (q now : ℕ) → pair.second ≡ end_in place q → now ≡ number → Has pairs now (end_in place q)
      of_second q now is same = subst (λ (n : ℕ). Has pairs n (end_in place q)) (sym same) (record { pair = pair; there = at; ends = inr is })

      just_first : (q now : ℕ) → (get nat_cmp old q ≡ Some now) ⊎ ((pair.first ≡ end_in place q) × (now ≡ number)) → Has pairs now (end_in place q)
      just_first q now (inl there) = are.just q now there
      just_first q now (inr (is, same)) = of_first q now is same

      just_second : (q now : ℕ) → (get nat_cmp mid q ≡ Some now) ⊎ ((pair.second ≡ end_in place q) × (now ≡ number)) → Has pairs now (end_in place q)
      just_second q now (inl there) = just_first q now (first.just q now there)
      just_second q now (inr (is, same)) = of_second q now is same

      there_now : (q : ℕ) (p : EndPair) → p ≡ pair → (p.first ≡ end_in place q) ⊎ (p.second ≡ end_in place q) → get nat_cmp new q ≡ None → ⊥
      there_now q p same (inl is) none = second.keeps q (first.there q (ap (λ (x : EndPair). x.first) (sym same) ∙ is)) none
      there_now q p same (inr is) none = second.there q (ap (λ (x : EndPair). x.second) (sym same) ∙ is) none

      all_at : (q n : ℕ) → Has pairs n (end_in place q) → get nat_cmp new q ≡ None → (n < number) ⊎ (number ≤ n) → n < number + 1 → ⊥
      all_at q n has none (inl early) lt = second.keeps q (first.keeps q (are.all q n early has)) none
      all_at q n has none (inr late) lt =
          let same : n ≡ number = omega (arith, lt, late) in
          there_now q has.pair (same_Some has.pair pair (sym has.there ∙ ap (slice_get pairs) same ∙ at)) has.ends none

-- each connection of the log has the number of its pair
pub of_pairs : (pairs : List EndPair) (place : ℕ) (table : BTreeMap ℕ ℕ) → AreNumbers pairs place (length pairs) table → (q : ℕ) → IsPaired pairs (end_in place q) → Has pairs (new_number_of table q) (end_in place q)
of_pairs pairs place table are q paired = at (get nat_cmp table q) refl where
  at : (o : Option ℕ) → get nat_cmp table q ≡ o → Has pairs (new_number_of table q) (end_in place q)
  at None e = absurd (are.all q paired.0 (slice_get_within pairs paired.0 paired.1.pair paired.1.there) paired.1 e)
  at (Some n) e = subst (λ (m : ℕ). Has pairs m (end_in place q)) (ap (λ (o : Option ℕ). unwrap_or o 0) (sym e)) (are.just q n e)

-- ---- vats

pub apart_from : (logs : List Log) → AreApartUpTo logs (length logs) → VatsAreApart logs
apart_from logs up i j one other a b same = at (cases_order i j) where
  at : (i ≡ j) ⊎ ((i < j) ⊎ (j < i)) → i ≡ j
  at (inl e) = e
  at (inr (inl lt)) = absurd (up i (slice_get_within logs i one a) one a j (omega (arith, lt)) (slice_get_within logs j other b) (other, b, sym same))
  at (inr (inr lt)) = absurd (up j (slice_get_within logs j other b) other b i (omega (arith, lt)) (slice_get_within logs i one a) (one, a, same))

pub apart_more : (logs : List Log) (place : ℕ) (log : Log) → slice_get logs place ≡ Some log → AreApartUpTo logs place → HasNoVat logs log.vat (place + 1) (length logs) → AreApartUpTo logs (place + 1)
apart_more logs place log at up none k lt one there = by (cases_lt k place) where
  by : (k < place) ⊎ (place ≤ k) → HasNoVat logs one.vat (k + 1) (length logs)
  by (inl early) = up k early one there
  by (inr late) =
      let here : k ≡ place = omega (arith, lt, late) in
      let same : log ≡ one = same_Some log one (sym at ∙ ap (slice_get logs) (sym here) ∙ there) in
      subst (λ (n : ℕ). HasNoVat logs one.vat (n + 1) (length logs)) (sym here) (subst (λ (l : Log). HasNoVat logs l.vat (place + 1) (length logs)) same none)

-- ---- one log more

pub made_more : (logs : List Log) (pairs : List EndPair) (place : ℕ) (made : List Log) (new : Log) → AreMade logs pairs place made → ((old : Log) → slice_get logs place ≡ Some old → IsRenumbered logs pairs place old new) → AreMade logs pairs (place + 1) (made ++ (new ∷ []))
made_more logs pairs place made new are is =
    record { count = length_push made new ∙ ap (λ n. n + 1) are.count; each = λ k old now a b. at k old now a (append_cases made (new ∷ []) k now b) } where
      at : (k : ℕ) (old now : Log) → slice_get logs k ≡ Some old → (slice_get made k ≡ Some now) ⊎ ((j : ℕ) × (k ≡ length made + j) × (slice_get (new ∷ []) j ≡ Some now)) → IsRenumbered logs pairs k old now
      at k old now a (inl b) = are.each k old now a b
      at k old now a (inr (zero, same, b)) =
          let here : k ≡ place = omega (arith, same, are.count) in
          subst (λ (n : ℕ). IsRenumbered logs pairs n old now) (sym here) (subst (λ (l : Log). IsRenumbered logs pairs place old l) (same_Some new now b) (is old (ap (slice_get logs) (sym here) ∙ a)))
      at k old now a (inr (suc j, same, b)) = absurd cc
