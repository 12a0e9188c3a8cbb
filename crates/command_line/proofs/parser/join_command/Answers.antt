use Rattle.std.proofs.Common.{IfOk, codes, subst}
use Rattle.clap.specs.Words.{Rule, new_app, with_rule}
use Rattle.command_line.specs.Parser.{IsTold, logs_rule}
use Rattle.command_line.proofs.parser.join_command.Goals as goal

pub returns : goal.returns
returns c =
    let listed =
    subst (λ (r : Rule). IfOk c.with_argument-listed.result (IsTold (with_rule (new_app (codes "join")) r))) c.inputs.ensures.rule
    (c.with_argument-listed.ensures (new_app (codes "join")) c.described-join.ensures) in
    subst (λ (r : Rule). IfOk c.with_argument.result (IsTold (with_rule (with_rule (new_app (codes "join")) logs_rule) r))) c.out.ensures.rule
    (c.with_argument.ensures (with_rule (new_app (codes "join")) logs_rule) listed)
