use Rattle.decoded_records.specs.Borrowed.{as_view}
use Rattle.vat_view.specs.Glue.Tables.{bound_at}
use Rattle.vat_view.specs.Glue.TurnTables.{turn_by}
use Rattle.vat_view.proofs.Ending.{by_turns_some, by_turns_none}
use Rattle.vat_view.proofs.walks.hops.leads_by_turns.Goals as goal

pub returns-in-Some : goal.returns-in-Some
returns-in-Some c =
    by_turns_some (turn_by c.args.turns.now (bound_at c.args.bound.now)) (as_view c.args.from) (as_view c.in-Some.next) (as_view c.args.to) c.leads.result c.in-Some.ensures c.leads.ensures

pub returns-in-None : goal.returns-in-None
returns-in-None c = by_turns_none (turn_by c.args.turns.now (bound_at c.args.bound.now)) (as_view c.args.from) (as_view c.args.to) c.in-None.ensures
