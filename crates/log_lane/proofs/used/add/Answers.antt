use Rattle.std.proofs.Common.{sym, ◌∙◌, rules}
use Rattle.std.proofs.lemmas.Result.{err_from_is_err_and}
use Rattle.log_lane.proofs.Adding.{none_more, one_more, has_itself, has_put, is_known, first_use}
use Rattle.log_lane.proofs.used.add.Goals as goal

pub returns-in_default-clause-used : goal.returns-in_default-clause-used
returns-in_default-clause-used c =
    λ records used. none_more records c.args.body.now c.args.set.now.keys (sym c.used_by.ensures ∙ search rules) used

pub returns-in_ok-insert-clause-used : goal.returns-in_ok-insert-clause-used
returns-in_ok-insert-clause-used c =
    λ records used. one_more records c.args.body.now c.in-Some.connection c.args.set.now.keys c.insert.new.self.keys (sym c.used_by.ensures ∙ c.in-Some.is)
    (has_put c.args.set.now c.insert.new.self c.in-Some.connection c.in_ok-insert.ensures.updates.0) used

pub returns-in_ok-insert-clause-known : goal.returns-in_ok-insert-clause-known
returns-in_ok-insert-clause-known c =
    (has_put c.args.set.now c.insert.new.self c.in-Some.connection c.in_ok-insert.ensures.updates.0).itself

pub returns-else-ne-clause-used : goal.returns-else-ne-clause-used
returns-else-ne-clause-used c =
    λ records used. one_more records c.args.body.now c.in-Some.connection c.args.set.now.keys c.args.set.now.keys (sym c.used_by.ensures ∙ c.in-Some.is)
    (has_itself c.in-Some.connection c.args.set.now.keys (is_known c.args.known c.in-Some.connection c.args.set.now.keys c.requires (sym c.ne.ensures ∙ c.if-ne.false))) used

pub returns-in_err-insert-clause-another : goal.returns-in_err-insert-clause-another
returns-in_err-insert-clause-another c =
    let p = err_from_is_err_and c.from_residual.result c.from_residual.ensures.1 in
    λ records used. rw (p.1) (first_use records c.args.body.now c.in-Some.connection c.args.set.now (sym c.used_by.ensures ∙ c.in-Some.is) c.in_err-insert.ensures.absent used)
