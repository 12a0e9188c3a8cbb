use Rattle.std.proofs.Common.{◌≡◌, IfOk, subst, ◌∙◌, ap₂}
use Rattle.call_trace.specs.Glue.Ledgers.{naming_by_tables, caps_said, message_said}
use Rattle.call_trace.proofs.records.saying.sent_said.Goals as goal

pub returns : goal.returns
returns c =
    let names = naming_by_tables c.args.steps.now c.args.ledger.now in
    subst (λ caps. IfOk c.message_said.result (λ sent. sent ≡ message_said names c.args.facts.now c.args.call caps c.args.message.now))
    (c.in_ok-caps.ensures ∙ ap₂ (caps_said names) c.caps.ensures c.descriptors_of.ensures) c.message_said.ensures
