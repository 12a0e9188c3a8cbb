use Rattle.command_run.proofs.Joins.{PathsUpTo}
use Rattle.command_run.proofs.commands.join_logs.paths_of.Given as goal

abbrev pub invariant-loop-name : goal.invariant-loop-name
invariant-loop-name l = PathsUpTo l.folder l.name-items l.name-index l.paths.items
