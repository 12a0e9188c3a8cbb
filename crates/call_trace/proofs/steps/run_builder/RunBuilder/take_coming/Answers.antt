use Rattle.std.proofs.Common.{◌∙◌, sym, ap, subst, ◌∷◌, ℕ, option_and_then, slice_get}
use Rattle.agree.specs.Rows.{log_of_vat}
use Rattle.run_model.specs.declared.step.Step.TheVariants as step
use Rattle.call_trace.specs.Glue.Ledgers.{step_of_receipt}
use Rattle.call_trace.specs.Glue.Channels.{message_by, AreLines}
use Rattle.call_trace.specs.Naming.{message_of_step}
use Rattle.call_trace.specs.Running.{coming_next, steps_by}
use Rattle.call_trace.proofs.Keeping.{not_none, on_ok}
use Rattle.call_trace.proofs.Trailing.{comes_at, received_comes, received_there, nothing_taken, with_steps, kept_in}
use Rattle.call_trace.proofs.steps.run_builder.RunBuilder.take_coming.Goals as goal

pub unreachable-requires-in_default-2 : goal.unreachable-requires-in_default-2
unreachable-requires-in_default-2 c =
    let on = c.requires.goes_on in
    let w = c.in-Wire in
    not_none _ on.goes_on
    (nothing_taken c.args.event.now c.requires.received w.sent w.connection w.call w.references w.message (sym w.is) on.vat on.row on.before on.next.so_far
    (ap (λ (u : ℕ). coming_next u w.connection on.before) (sym on.next.kept.vat) ∙ c.in_ok-number.ensures.next on.before on.next.trail.lines
    ∙ ap (option_and_then (message_by on.before)) c.in_default-2.is))

pub unreachable-requires-in_default-3 : goal.unreachable-requires-in_default-3
unreachable-requires-in_default-3 c =
    let on = c.requires.goes_on in
    let w = c.in-Wire in
    not_none _ on.goes_on
    (nothing_taken c.args.event.now c.requires.received w.sent w.connection w.call w.references w.message (sym w.is) on.vat on.row on.before on.next.so_far
    (ap (λ (u : ℕ). coming_next u w.connection on.before) (sym on.next.kept.vat)
    ∙ comes_at _ w.connection on.before _ _ c.in-Some.number _ (c.in_ok-number.ensures.next on.before on.next.trail.lines) c.in-Some.is on.next.trail.steps (c.in_ok-message.ensures ∙ ap (λ xs. option_and_then message_of_step (slice_get xs c.in-Some.number)) c.deref.ensures.value)
    ∙ c.in_default-3.is))

pub take_received-requires-clause-has_step : goal.take_received-requires-clause-has_step
take_received-requires-clause-has_step c =
    let on = c.requires.goes_on in
    let w = c.in-Wire in
    received_there c.args.event.now c.requires.received w.sent w.connection w.call w.references w.message (sym w.is) c.args.facts.now c.args.self.now c.args.ledger.now c.in-Some-2.message on
    (ap (λ (u : ℕ). coming_next u w.connection on.before) (sym on.next.kept.vat)
    ∙ comes_at _ w.connection on.before _ _ c.in-Some.number _ (c.in_ok-number.ensures.next on.before on.next.trail.lines) c.in-Some.is on.next.trail.steps (c.in_ok-message.ensures ∙ ap (λ xs. option_and_then message_of_step (slice_get xs c.in-Some.number)) c.deref.ensures.value)
    ∙ c.in-Some-2.is)

pub returns : goal.returns
returns c =
    on_ok c.take_received.result (λ ensures v row before next.
    let e = c.args.event.now in
    let w = c.in-Wire in
    let new = c.take_received.new in
    let coming = ap (λ (u : ℕ). coming_next u w.connection before) (sym next.kept.vat)
    ∙ comes_at _ w.connection before _ _ c.in-Some.number _ (c.in_ok-number.ensures.next before next.trail.lines) c.in-Some.is next.trail.steps (c.in_ok-message.ensures ∙ ap (λ xs. option_and_then message_of_step (slice_get xs c.in-Some.number)) c.deref.ensures.value)
    ∙ c.in-Some-2.is in
    received_comes e c.requires.received w.sent w.connection w.call w.references w.message (sym w.is) v c.in-Some-2.message row before
    (record { steps = new.steps; lines = c.receive.new.self }) new.ledger next.so_far coming
    (λ bound. subst (λ u. AreLines (step.Receive u w.connection c.in-Some-2.message bound ∷ before) c.receive.new.self) next.kept.vat
    (c.in_ok-number.ensures.received before c.in-Some-2.message bound (ap (λ (u : ℕ). coming_next u w.connection before) next.kept.vat ∙ coming) next.trail.lines))
    (with_steps v (log_of_vat v row) e (steps_by v before) c.args.self.now.steps.items before (step_of_receipt v (log_of_vat v row) (steps_by v before) e c.in-Some-2.message) new.steps.items new.ledger
    next.trail.steps
    (ensures v (log_of_vat v row) (steps_by v before) (kept_in v row before c.args.self.now.steps.items c.args.ledger.now next.trail.steps next.kept) next.known)))
    c.take_received.ensures
