use Rattle.decoded_records.specs.Borrowed.{as_view}
use Rattle.vat_view.specs.Glue.TurnTables.{turns_of}
use Rattle.vat_view.proofs.Joining.{one_by_last, one_by_leading}
use Rattle.vat_view.proofs.walks.hops.are_one.Goals as goal

pub returns-then-leads : goal.returns-then-leads
returns-then-leads c = one_by_leading (turns_of c.args.turns.now c.args.bound.now) (as_view c.args.a) (as_view c.args.b) c.leads.result c.leads.ensures c.if-leads.true

pub returns-else-leads : goal.returns-else-leads
returns-else-leads c =
    one_by_last (turns_of c.args.turns.now c.args.bound.now) (as_view c.args.a) (as_view c.args.b) (as_view c.last.result) c.leads.result c.leads-else-leads.result c.leads.ensures c.last.ensures
    c.leads-else-leads.ensures
