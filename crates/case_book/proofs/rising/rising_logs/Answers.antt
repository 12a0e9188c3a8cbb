use Rattle.std.proofs.Common.{◌≡◌, ◌≤◌, Some, None, length, map, ap, sym, ◌∙◌, arith, rules}
use Rattle.std.specs.Option.{option_map}
use Rattle.std.proofs.lemmas.List.{length-map}
use Rattle.std.proofs.lemmas.List.Sorted.{IsNonDecreasingBy-from_sort_by_key, IsPermutation-map}
use Rattle.vat_log.specs.Log.{Log}
use Rattle.case_book.specs.Case.{vats_of, vat_limit}
use Rattle.case_book.specs.Glue.{first_same}
use Rattle.case_book.specs.declared.error.CaseError.TheVariants.{TooManyVats, SameVat}
use Rattle.case_book.proofs.Sorted.{Rises, rises_under, none_found, some_found, strictly, few_enough}
use Rattle.case_book.proofs.rising.rising_logs.Goals as goal

pub returns-in-Some-clause-err : goal.returns-in-Some-clause-err
returns-in-Some-clause-err g c =
    let given = map g.L.CaseLog.log c.args.logs.items in
    let sorted = map g.L.CaseLog.log c.sort_unstable_by_key.new.self.items in
    let rising : Rises (vats_of sorted) = rises_under g.L.CaseLog.log (λ (log : Log). log.vat) _ (IsNonDecreasingBy-from_sort_by_key (λ p. (g.L.CaseLog.log p).vat) _ c.sort_unstable_by_key.ensures.sorted (λ a r q k. search rules)) in
    let moved = IsPermutation-map (λ (log : Log). log.vat) given sorted (IsPermutation-map g.L.CaseLog.log _ _ c.sort_unstable_by_key.ensures.permutation) in
    let few : length given ≤ vat_limit = omega (arith, length-map c.args.logs.items g.L.CaseLog.log) in
    let first : first_same None (vats_of sorted) ≡ Some c.in-Some.vat = ap (λ ps. first_same None (vats_of (map g.L.CaseLog.log ps))) (sym c.deref.ensures.value) ∙ sym c.repeated_vat.ensures ∙ c.in-Some.is in
    few_enough vat_limit (length given) TooManyVats _ few ∙ ap (option_map SameVat) (some_found (vats_of given) _ c.in-Some.vat moved rising first)

pub returns-in-None-clause-ok : goal.returns-in-None-clause-ok
returns-in-None-clause-ok g c =
    let given = map g.L.CaseLog.log c.args.logs.items in
    let sorted = map g.L.CaseLog.log c.sort_unstable_by_key.new.self.items in
    let rising : Rises (vats_of sorted) = rises_under g.L.CaseLog.log (λ (log : Log). log.vat) _ (IsNonDecreasingBy-from_sort_by_key (λ p. (g.L.CaseLog.log p).vat) _ c.sort_unstable_by_key.ensures.sorted (λ a r q k. search rules)) in
    let moved = IsPermutation-map (λ (log : Log). log.vat) given sorted (IsPermutation-map g.L.CaseLog.log _ _ c.sort_unstable_by_key.ensures.permutation) in
    let few : length given ≤ vat_limit = omega (arith, length-map c.args.logs.items g.L.CaseLog.log) in
    let first : first_same None (vats_of sorted) ≡ None = ap (λ ps. first_same None (vats_of (map g.L.CaseLog.log ps))) (sym c.deref.ensures.value) ∙ sym c.repeated_vat.ensures ∙ c.in-None.is in
    few_enough vat_limit (length given) TooManyVats _ few ∙ ap (option_map SameVat) (none_found (vats_of given) _ moved rising first)

pub returns-in-None-clause-just : goal.returns-in-None-clause-just
returns-in-None-clause-just g c = IsPermutation-map g.L.CaseLog.log _ _ c.sort_unstable_by_key.ensures.permutation

pub returns-in-None-clause-rising : goal.returns-in-None-clause-rising
returns-in-None-clause-rising g c =
    let sorted = map g.L.CaseLog.log c.sort_unstable_by_key.new.self.items in
    let rising : Rises (vats_of sorted) = rises_under g.L.CaseLog.log (λ (log : Log). log.vat) _ (IsNonDecreasingBy-from_sort_by_key (λ p. (g.L.CaseLog.log p).vat) _ c.sort_unstable_by_key.ensures.sorted (λ a r q k. search rules)) in
    let first : first_same None (vats_of sorted) ≡ None = ap (λ ps. first_same None (vats_of (map g.L.CaseLog.log ps))) (sym c.deref.ensures.value) ∙ sym c.repeated_vat.ensures ∙ c.in-None.is in
    strictly (vats_of sorted) rising first
