use Rattle.std.proofs.Common.{◌≡◌, ◌∙◌, refl, sym, ap, length}
use Rattle.std.proofs.lemmas.List.{length-reverse}
use Rattle.agree.specs.Rows.{log_of_vat}
use Rattle.call_trace.specs.Running.{step_of, steps_by}
use Rattle.call_trace.specs.Types.{Wire}
use Rattle.call_trace.proofs.Keeping.{on_ok}
use Rattle.call_trace.proofs.Trailing.{own_comes, own_there, sent_comes, with_steps, kept_in}
use Rattle.call_trace.proofs.steps.run_builder.RunBuilder.take.Goals as goal

pub take_own-requires-clause-has_step : goal.take_own-requires-clause-has_step
take_own-requires-clause-has_step c = own_there c.args.event.now c.args.facts.now c.args.self.now c.args.ledger.now c.requires

pub take_own-requires-in_default-clause-has_step : goal.take_own-requires-in_default-clause-has_step
take_own-requires-in_default-clause-has_step c = own_there c.args.event.now c.args.facts.now c.args.self.now c.args.ledger.now c.requires

pub returns-in_ok-take_own-in-Wire : goal.returns-in_ok-take_own-in-Wire
returns-in_ok-take_own-in-Wire c =
    on_ok c.note_sent.result (λ ensures v row before next.
    let e = c.args.event.now in
    let w = c.in-Wire in
    let new = c.take_own.new in
    let run = c.args.self.now.steps.items in
    let long : length before ≡ c.len-number.result = sym (length-reverse before) ∙ ap length (sym next.trail.steps) ∙ sym c.args.self.now.steps.ok.0 ∙ sym c.len-number.ensures in
    sent_comes v w.connection w.call w.references w.message e row before (record { steps = new.steps; lines = c.note_sent.new.self }) new.ledger
    (w.is ∙ ap (λ s. Wire s w.connection w.call w.references w.message) (sym w.sent-is ∙ w.sent-test)) next.so_far
    (λ message. ensures before message long next.trail.lines)
    (with_steps v (log_of_vat v row) e (steps_by v before) run before (step_of v (log_of_vat v row) (steps_by v before) before e) new.steps.items new.ledger next.trail.steps
    (c.in_ok-take_own-in-Wire.ensures v (log_of_vat v row) (steps_by v before) before (kept_in v row before run c.args.ledger.now next.trail.steps next.kept) next.known)))
    c.note_sent.ensures.ok

pub returns-in_default : goal.returns-in_default
returns-in_default c =
    on_ok c.take_own-in_default.result (λ ensures v row before next.
    let e = c.args.event.now in
    let new = c.take_own-in_default.new in
    let run = c.args.self.now.steps.items in
    own_comes v e row before c.args.self.now.lines (record { steps = new.steps; lines = c.args.self.now.lines }) new.ledger c.in_default.not-Wire next.so_far next.trail.lines refl
    (with_steps v (log_of_vat v row) e (steps_by v before) run before (step_of v (log_of_vat v row) (steps_by v before) before e) new.steps.items new.ledger next.trail.steps
    (ensures v (log_of_vat v row) (steps_by v before) before (kept_in v row before run c.args.ledger.now next.trail.steps next.kept) next.known)))
    c.take_own-in_default.ensures
