use Rattle.std.proofs.Common.{◌∙◌, sym}
use Rattle.std.proofs.lemmas.Bool.{eq-eqb, ne_eqb}
use Rattle.decoded_records.specs.Lives.{held, number_introduced}
use Rattle.left_open.proofs.Stepping.{begins_new, begins_none}
use Rattle.left_open.proofs.watching.number_begun.Goals as goal

pub returns-then-held-eq0 : goal.returns-then-held-eq0
returns-then-held-eq0 c = λ i.
    begins_new i c.in_ok-number.number c.args.state.now (number_introduced c.args.event.now c.args.descriptor.now) c.in_ok-number.ensures
    (eq-eqb (held c.in_ok-number.number c.args.state.now) 0 (sym c.held.ensures ∙ c.if-held-eq0.true))

pub returns-else-held-eq0 : goal.returns-else-held-eq0
returns-else-held-eq0 c = λ i.
    begins_none i c.in_ok-number.number c.args.state.now (number_introduced c.args.event.now c.args.descriptor.now) c.in_ok-number.ensures
    (ne_eqb (held c.in_ok-number.number c.args.state.now) 0 (λ none. c.if-held-eq0.false (c.held.ensures ∙ none)))
