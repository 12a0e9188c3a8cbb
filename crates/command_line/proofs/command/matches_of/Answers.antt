use Rattle.std.proofs.Common.{map}
use Rattle.clap.specs.Words.{app_of}
use Rattle.command_line.proofs.Matched.{fails_by, matches_by}
use Rattle.command_line.proofs.command.matches_of.Goals as goal

pub returns-clause-kinds : goal.returns-clause-kinds
returns-clause-kinds g c =
    fails_by (app_of c.in_ok-command_line.field-0) (map g.S.AsStr.text c.args.words.now) c.try_get_matches_from.result c.in_ok-command_line.ensures.0 c.try_get_matches_from.ensures.kinds

pub returns-clause-matches : goal.returns-clause-matches
returns-clause-matches g c =
    matches_by (app_of c.in_ok-command_line.field-0) (map g.S.AsStr.text c.args.words.now) c.try_get_matches_from.result c.in_ok-command_line.ensures.0 c.try_get_matches_from.ensures.kinds
    c.try_get_matches_from.ensures.matches
