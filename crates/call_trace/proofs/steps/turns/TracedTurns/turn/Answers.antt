use Rattle.std.proofs.Common.{◌∙◌, ◌==◌, refl, sym, ap, slice_get}
use Rattle.std.specs.List.{list_any}
use Rattle.std.specs.Vec.{with_item}
use Rattle.call_trace.specs.declared.records.vat_ledger.VatLedger.{VatLedger}
use Rattle.call_trace.specs.Glue.Turns.{vats_of_ledgers}
use Rattle.call_trace.proofs.Keeping.{on_ok}
use Rattle.call_trace.proofs.Reaching.{place_in, good_at, true_at, placed, passes, turn_of, turned}
use Rattle.call_trace.proofs.steps.turns.TracedTurns.turn.Goals as goal

pub turn-requires-clause-good : goal.turn-requires-clause-good
turn-requires-clause-good c =
    let ledgers = c.args.self.now.ledgers.items in
    let is = ap (λ ls. slice_get (vats_of_ledgers ls) c.in-Some.place) (sym c.deref.ensures.value) ∙ c.in-Some.ensures in
    let there = place_in c.args.findings.now ledgers c.in-Some.place c.args.vat c.requires.may_turn is in
    good_at c.args.findings.now c.in-Some.place c.index-findings-place.result c.requires.may_turn.good there c.index-findings-place.is

pub turn-requires-clause-of_the_log : goal.turn-requires-clause-of_the_log
turn-requires-clause-of_the_log c =
    let ledgers = c.args.self.now.ledgers.items in
    let is = ap (λ ls. slice_get (vats_of_ledgers ls) c.in-Some.place) (sym c.deref.ensures.value) ∙ c.in-Some.ensures in
    let there = place_in c.args.findings.now ledgers c.in-Some.place c.args.vat c.requires.may_turn is in
    true_at c.args.findings.now c.in-Some.place c.index-findings-place.result c.requires.may_turn.outcomes there c.index-findings-place.is

pub turn-requires-clause-goes_on : goal.turn-requires-clause-goes_on
turn-requires-clause-goes_on c =
    let findings = c.args.findings.now in
    let ledgers = c.args.self.now.ledgers.items in
    let on = c.requires.goes_on in
    let place = c.in-Some.place in
    let is = ap (λ ls. slice_get (vats_of_ledgers ls) place) (sym c.deref.ensures.value) ∙ c.in-Some.ensures in
    record {
      findings = findings;
      turns = on.turns;
      vat = c.args.vat;
      before = on.reached.before;
      turn =
          turn_of findings on.turns c.args.vat c.index-findings-place.result c.index_mut.result.now c.args.self.now on.reached
          (placed findings ledgers on.turns c.args.vat on.reached.before place c.index-findings-place.result c.index_mut.result.now c.requires.may_turn is c.index-findings-place.is c.index_mut.ensures.value on.reached.kept);
      goes_on = on.goes_on;
    }

pub returns-in-Some : goal.returns-in-Some
returns-in-Some c =
    on_ok c.turn.result (λ ensures turns reached.
    let findings = c.args.findings.now in
    let ledgers = c.args.self.now.ledgers.items in
    let place = c.in-Some.place in
    let is = ap (λ ls. slice_get (vats_of_ledgers ls) place) (sym c.deref.ensures.value) ∙ c.in-Some.ensures in
    let p = placed findings ledgers turns c.args.vat reached.before place c.index-findings-place.result c.index_mut.result.now c.requires.may_turn is c.index-findings-place.is c.index_mut.ensures.value reached.kept in
    turned findings turns c.args.vat ledgers place reached.before c.turn.new.ledger (record { trail = c.turn.new.self; ledgers = with_item c.args.self.now.ledgers place c.turn.new.ledger })
    c.requires.may_turn is reached.kept refl
    (ensures findings turns c.args.vat reached.before (turn_of findings turns c.args.vat c.index-findings-place.result c.index_mut.result.now c.args.self.now reached p)))
    c.turn.ensures

pub returns-in-None : goal.returns-in-None
returns-in-None c = λ turns reached.
    passes c.args.findings.now turns c.args.vat c.args.self.now c.requires.may_turn (ap (λ ls. list_any (λ (ledger : VatLedger). ledger.vat == c.args.vat) ls) (sym c.deref.ensures.value) ∙ c.in-None.ensures) reached
