use Rattle.log_ends.proofs.Places.{alone, ambiguous, clear}
use Rattle.log_ends.proofs.joining.standing_of.Goals as goal

pub returns-in_default : goal.returns-in_default
returns-in_default c = alone c.args.rows.now c.requires.rows c.args.place c.in_default.ensures

pub returns-then-has_unlike : goal.returns-then-has_unlike
returns-then-has_unlike c = ambiguous c.args.rows.now c.args.place c.in-Some.known c.if-has_unlike.ensures.0 c.in-Some.ensures.1 c.if-has_unlike.ensures.2

pub returns : goal.returns
returns c = clear c.args.rows.now c.requires.rows c.args.place c.in-Some.known c.in-Some.ensures.1 c.if-has_unlike.ensures
