use Rattle.std.proofs.Common.{◌∙◌, true, false}
use Rattle.left_open.proofs.Stepping.{held_as}
use Rattle.left_open.proofs.watching.held.Goals as goal

pub returns-then-number : goal.returns-then-number
returns-then-number c = c.held.ensures ∙ held_as c.args.number c.args.state.now true c.if-number.true

pub returns-else-number : goal.returns-else-number
returns-else-number c = c.held-else-number.ensures ∙ held_as c.args.number c.args.state.now false c.if-number.false
