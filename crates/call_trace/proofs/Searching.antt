-- What is kept of a vat, found by the vat's number among that of several, which stands by rising numbers.
use Rattle.std.proofs.Common.{◌≡◌, ℕ, ◌<◌, ◌==◌, false, List, length, get_or, sym, ap, inl, inr, arith}
use Rattle.std.specs.List.{list_any}
use Rattle.std.specs.List.Sorted.{IsStrictlyIncreasing, IsNonDecreasingBy, IsPartitionPoint}
use Rattle.std.specs.Ordering.{nat_cmp, ordering_index}
use Rattle.std.specs.declared.cmp.Ordering.TheVariants.{Less, Greater}
use Rattle.std.proofs.lemmas.Bool.{cases_eq, cases_lt}
use Rattle.std.proofs.lemmas.Bool.Decides.{nat_tests}
use Rattle.std.proofs.lemmas.Cmp.{ranked}
use Rattle.std.proofs.lemmas.List.{get_or-map, length-map}
use Rattle.std.proofs.lemmas.List.Folds.{list_any_none}
use Rattle.std.proofs.lemmas.List.Kept.{AllPairs-from_increasing}
use Rattle.merge_order.proofs.Greedy.{eqb_apart}
use Rattle.call_trace.specs.declared.records.vat_ledger.VatLedger.{VatLedger}
use Rattle.call_trace.specs.Glue.Turns.{vats_of_ledgers}

module _ (ledgers : List VatLedger) (rising : IsStrictlyIncreasing (vats_of_ledgers ledgers)) where
  rises_to : (i j : ℕ) (d : VatLedger) → i < j → j < length ledgers → (get_or ledgers i d).vat < (get_or ledgers j d).vat
  rises_to i j d lt within =
      let low = get_or-map (λ (ledger : VatLedger). ledger.vat) ledgers i d 0 (omega arith) in
      let high = get_or-map (λ (ledger : VatLedger). ledger.vat) ledgers j d 0 within in
      omega (arith, low, high, AllPairs-from_increasing (vats_of_ledgers ledgers) rising i j 0 lt (omega (arith, length-map ledgers (λ (ledger : VatLedger). ledger.vat))))

  -- the comparisons with a vat's number don't fall
  pub comparisons_rise : (v : ℕ) → IsNonDecreasingBy (λ (ledger : VatLedger). ordering_index (nat_cmp ledger.vat v)) ledgers
  comparisons_rise v i j d le within =
      elim (cases_eq i j) [
        | inl same ↦ let e = ap (λ k. ordering_index (nat_cmp (get_or ledgers k d).vat v)) same in omega (arith, e)
        | inr other ↦ let lt = rises_to i j d (omega (arith, other)) within in grind (arith, nat_tests)
      ]

  -- where the number would stand between two others, none has it
  pub found_nowhere : (v place : ℕ) → IsPartitionPoint (λ (ledger : VatLedger). nat_cmp ledger.vat v ≡ Less) (λ ledger. nat_cmp ledger.vat v ≡ Greater) ledgers place → list_any (λ (ledger : VatLedger). ledger.vat == v) ledgers ≡ false
  found_nowhere v place parted =
      list_any_none (λ (ledger : VatLedger). ledger.vat == v) ledgers (λ j d below. eqb_apart (get_or ledgers j d).vat v (λ same. elim (cases_lt j place) [
        | inl lt ↦ let less = ranked _ v _ (sym (parted.0 j d (omega arith) lt)) in omega arith
        | inr ge ↦ let more = ranked _ v _ (sym (parted.1 j d ge below)) in omega arith
      ]))
