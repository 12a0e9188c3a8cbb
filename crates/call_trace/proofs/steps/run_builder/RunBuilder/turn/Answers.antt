use Rattle.std.proofs.Common.{◌∙◌, sym, ap, option_map}
use Rattle.std.specs.Option.{option_copied}
use Rattle.call_trace.specs.Named.{past_before}
use Rattle.call_trace.specs.Taking.{taken_by}
use Rattle.vat_rules.specs.Telling.{facts_of}
use Rattle.call_trace.proofs.Keeping.{on_ok}
use Rattle.call_trace.proofs.Turning.{comes_next, takes, skips, next_of, so_many, some_facts}
use Rattle.call_trace.proofs.steps.run_builder.RunBuilder.turn.Goals as goal

pub take-requires : goal.take-requires
take-requires c =
    let f = c.args.finding.now in
    let ledger = c.args.ledger.now in
    let t = c.requires.goes_on in
    let many = c.len-number.ensures ∙ ledger.numbers.ok.0 ∙ so_many t.vat (taken_by t.findings t.turns) t.before ledger t.turn.kept in
    let n = next_of t.findings t.turns t.vat f c.len-number.result c.requires.of_the_log c.requires.good t.turn.found many in
    let event = sym c.event_at.ensures ∙ ap option_copied c.in-Some-Some.is-0 in
    comes_next f c.in-Some-Some.event.now c.in-Some-Some.facts.now c.args.self.now ledger t (n.next ∙ event)
    (some_facts (ap option_copied (sym c.in-Some-Some.is-1) ∙ c.facts_at.ensures ∙ ap (option_map (λ e. facts_of (past_before f c.len-number.result) e)) event)
    ∙ ap (λ es. facts_of es c.in-Some-Some.event.now) n.past)

pub returns-in_default-2 : goal.returns-in_default-2
returns-in_default-2 c = λ findings turns v before t.
    let f = c.args.finding.now in
    let ledger = c.args.ledger.now in
    let many = c.len-number.ensures ∙ ledger.numbers.ok.0 ∙ so_many v (taken_by findings turns) before ledger t.kept in
    let n = next_of findings turns v f c.len-number.result c.requires.of_the_log c.requires.good t.found many in
    skips findings turns v before c.args.self.now ledger (n.next ∙ sym c.event_at.ensures ∙ ap option_copied c.in_default.is-0) t.so_far t.trail t.kept

pub returns : goal.returns
returns c =
    on_ok c.take.result (λ ensures findings turns v before t.
    let f = c.args.finding.now in
    let ledger = c.args.ledger.now in
    let e = c.in-Some-Some.event.now in
    let many = c.len-number.ensures ∙ ledger.numbers.ok.0 ∙ so_many v (taken_by findings turns) before ledger t.kept in
    let n = next_of findings turns v f c.len-number.result c.requires.of_the_log c.requires.good t.found many in
    let event = sym c.event_at.ensures ∙ ap option_copied c.in-Some-Some.is-0 in
    takes findings turns v e before c.take.new.self c.take.new.ledger (n.next ∙ event) t.kept.1
    (ensures v (taken_by findings turns) before (record {
      so_far = t.so_far;
      trail = t.trail;
      kept = t.kept.0;
      known = some_facts (ap option_copied (sym c.in-Some-Some.is-1) ∙ c.facts_at.ensures ∙ ap (option_map (λ e. facts_of (past_before f c.len-number.result) e)) event)
          ∙ ap (λ es. facts_of es e) n.past;
    })))
    c.take.ensures
