use Rattle.std.proofs.Common.{◌≡◌, ◌∙◌, sym, ap, ap₂, Some, option_map, option_and_then}
use Rattle.run_model.specs.declared.step.Step.TheVariants as step
use Rattle.call_trace.specs.Glue.Ledgers.{naming_by_tables, results_said, pushed}
use Rattle.call_trace.proofs.records.pushing.push_answer.Goals as goal

pub returns-in_ok-push : goal.returns-in_ok-push
returns-in_ok-push c =
    let run = c.args.steps.now.items in
    let vat = c.args.ledger.now.vat in
    let said : Some c.in-Some-Some.results ≡ results_said (naming_by_tables run c.args.ledger.now) c.args.facts.now.references c.args.results.now =
    sym c.in-Some-Some.is-1 ∙ c.in_ok-said.ensures ∙ ap (λ xs. results_said (naming_by_tables xs c.args.ledger.now) c.args.facts.now.references c.args.results.now) c.deref.ensures.value in
    let named : Some c.in-Some-Some.call ≡ (naming_by_tables run c.args.ledger.now).call c.args.call = sym c.in-Some-Some.is-0 ∙ c.call.ensures in
    c.in_ok-push.ensures.items ∙ ap₂ (λ o name. pushed (option_and_then (λ n. option_map (λ caps. step.Answer vat n caps) o) name) run) said named
