use Rattle.std.proofs.Common.{◌≡◌, ◌∙◌, sym, ap, Some, option_map}
use Rattle.run_model.specs.declared.step.Step.TheVariants as step
use Rattle.call_trace.specs.Glue.Ledgers.{naming_by_tables, sent_said, pushed}
use Rattle.call_trace.proofs.records.pushing.push_sent.Goals as goal

pub returns-in_ok-push : goal.returns-in_ok-push
returns-in_ok-push c =
    let run = c.args.steps.now.items in
    let vat = c.args.ledger.now.vat in
    let said : Some c.in-Some.message ≡ sent_said (naming_by_tables run c.args.ledger.now) c.args.facts.now c.args.noted.1 c.args.message.now =
    sym c.in-Some.is ∙ c.in_ok-message.ensures ∙ ap (λ xs. sent_said (naming_by_tables xs c.args.ledger.now) c.args.facts.now c.args.noted.1 c.args.message.now) c.deref.ensures.value in
    c.in_ok-push.ensures.items ∙ ap (λ o. pushed (option_map (λ m. step.Send vat c.args.noted.0 m) o) run) said
