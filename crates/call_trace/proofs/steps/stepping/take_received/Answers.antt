use Rattle.std.proofs.Common.{◌≡◌, length, vec_len, sym, ◌∙◌, refl, ap, ap₂, subst, [], ◌∷◌, ◌++◌}
use Rattle.call_trace.specs.Glue.Ledgers.{naming_by_tables, named_said, IsBound}
use Rattle.call_trace.proofs.Keeping.{takes, takes_none, not_none, last_bound}
use Rattle.run_model.specs.declared.step.Step.TheVariants.{Receive}
use Rattle.call_trace.proofs.steps.stepping.take_received.Goals as goal

pub unreachable-requires-in_default-2 : goal.unreachable-requires-in_default-2
unreachable-requires-in_default-2 c =
    let has = c.requires.has_step in
    let run = c.args.steps.now.items in
    let long : vec_len c.args.steps.now ≡ length run = c.args.steps.now.ok.0 in
    let number : c.len-number.result ≡ length run = c.len-number.ensures ∙ long in
    let ledger = c.note.new.self in
    not_none _ has.there
    (takes_none c.args.event.now c.requires.received c.in-Wire.sent c.in-Wire.connection c.in-Wire.call c.in-Wire.references c.in-Wire.message (sym c.in-Wire.is)
    has.vat has.past has.own run c.push.new.self.items c.args.message c.args.facts.now c.len-number.result c.args.ledger.now
    c.bind.new.self ledger ledger.vat has.kept has.known
    (subst (λ named. IsBound named c.args.ledger.now c.bind.new.self) c.call_bound_by.ensures c.in_ok-bind.ensures) c.in_ok-note.ensures number refl
    (c.in_ok-push.ensures.items ∙ ap (λ l. run ++ Receive ledger.vat c.in-Wire.connection c.args.message l ∷ []) (c.new-2.ensures ∙ c.new.ensures.items))
    (sym c.in_default-2.is ∙ c.in_ok-bound.ensures ∙ ap₂ (λ steps views. named_said (naming_by_tables steps ledger) views) c.deref.ensures.value c.references.ensures))

pub returns : goal.returns
returns c = λ v es own kept facts.
    let run = c.args.steps.now.items in
    let long : vec_len c.args.steps.now ≡ length run = c.args.steps.now.ok.0 in
    let number : c.len-number.result ≡ length run = c.len-number.ensures ∙ long in
    let ledger = c.note.new.self in
    let more = c.in_ok-push.ensures.items ∙ ap (λ l. run ++ Receive ledger.vat c.in-Wire.connection c.args.message l ∷ []) (c.new-2.ensures ∙ c.new.ensures.items) in
    takes c.args.event.now c.requires.received c.in-Wire.sent c.in-Wire.connection c.in-Wire.call c.in-Wire.references c.in-Wire.message (sym c.in-Wire.is)
    v es own run c.push.new.self.items _ c.args.message c.args.facts.now c.len-number.result c.args.ledger.now
    c.bind.new.self ledger ledger.vat c.in-Some.bound kept facts
    (subst (λ named. IsBound named c.args.ledger.now c.bind.new.self) c.call_bound_by.ensures c.in_ok-bind.ensures) c.in_ok-note.ensures number refl
    more
    (sym c.in-Some.is ∙ c.in_ok-bound.ensures ∙ ap₂ (λ steps views. named_said (naming_by_tables steps ledger) views) c.deref.ensures.value c.references.ensures)
    (last_bound run c.push.new.self.items _ ledger.vat c.in-Wire.connection c.args.message c.in-Some.bound c.len-number.result c.index_mut.result.now c.bind_caps.new.step more number
    c.index_mut.ensures.value c.bind_caps.ensures refl)
