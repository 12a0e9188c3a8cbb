use Rattle.std.proofs.Common.{sym, rules}
use Rattle.std.proofs.lemmas.Cmp.{ranked}
use Rattle.std.proofs.lemmas.List.Sorted.{answers_always}
use Rattle.call_trace.specs.declared.records.vat_ledger.VatLedger.{VatLedger}
use Rattle.call_trace.proofs.Reaching.{place_is}
use Rattle.call_trace.proofs.Searching.{comparisons_rise, found_nowhere}
use Rattle.call_trace.proofs.steps.turns.place_of.Goals as goal

pub returns-in-Ok : goal.returns-in-Ok
returns-in-Ok c =
    let there = c.in-Ok.ensures.position (λ (ledger : VatLedger). ledger.vat) (answers_always _ _ _ (λ f a r g called. search rules)) in
    place_is c.args.ledgers.now c.in-Ok.place c.args.vat c.in-Ok.ensures.bound (λ d. ranked _ c.args.vat _ (sym (there d)))

pub returns-in-Err : goal.returns-in-Err
returns-in-Err c =
    let by_vat = c.in-Err.ensures.position (λ (ledger : VatLedger). ledger.vat) (answers_always _ _ _ (λ f a r g called. search rules)) in
    found_nowhere c.args.ledgers.now c.requires c.args.vat _ (by_vat (comparisons_rise c.args.ledgers.now c.requires c.args.vat))
