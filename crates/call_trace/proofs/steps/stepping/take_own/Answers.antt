use Rattle.std.proofs.Common.{◌≡◌, ◌∙◌, length, vec_len, subst}
use Rattle.call_trace.specs.Glue.Ledgers.{IsBound}
use Rattle.call_trace.proofs.Keeping.{own_pushed, own_some, on_ok}
use Rattle.call_trace.proofs.steps.stepping.take_own.Goals as goal

pub returns : goal.returns
returns c =
    on_ok c.note.result (λ noted v es own before kept facts.
    let run = c.args.steps.now.items in
    let long : vec_len c.args.steps.now ≡ length run = c.args.steps.now.ok.0 in
    let number : c.len-number.result ≡ length run = c.len-number.ensures ∙ long in
    let bound = subst (λ named. IsBound named c.args.ledger.now c.bind.new.self) c.call_bound_by.ensures c.in_ok-bind.ensures in
    own_pushed v es own before run c.push_said.new.steps.items c.args.event.now c.args.facts.now c.len-number.result c.args.ledger.now c.bind.new.self c.note.new.self
    kept c.requires.own facts bound (own_some run c.args.event.now c.args.facts.now c.args.ledger.now c.bind.new.self c.requires.has_step c.requires.own bound)
    c.in_ok-push_said.ensures noted number)
    c.note.ensures
