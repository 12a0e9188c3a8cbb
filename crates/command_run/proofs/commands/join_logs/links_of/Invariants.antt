use Rattle.command_run.proofs.Joins.{LinksUpTo}
use Rattle.command_run.proofs.commands.join_logs.links_of.Given as goal

abbrev pub invariant-loop-number : goal.invariant-loop-number
invariant-loop-number l = LinksUpTo l.logs l.pairs l.number l.links.items
