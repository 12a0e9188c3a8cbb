use Rattle.std.proofs.Common.{◌≡◌, subst}
use Rattle.std.specs.Prelude.{Decides, IsTrue}
use Rattle.vat_view.specs.declared.walks.reachable.Sought.TheVariants.{Elsewhere}
use Rattle.vat_view.specs.Types.{View}
use Rattle.decoded_records.specs.Borrowed.{as_view}
use Rattle.vat_view.specs.Connections.{LeadsElsewhere, is_elsewhere}
use Rattle.vat_view.specs.Walks.{Next, next}
use Rattle.vat_view.specs.Glue.Tables.{bound_at}
use Rattle.vat_view.specs.Glue.TurnTables.{goes_by}
use Rattle.vat_view.specs.Glue.ConnectionTables.{sought_by}
use Rattle.vat_view.proofs.Ending.{goes_so}
use Rattle.vat_view.proofs.Seeking.{one_known, elsewhere_decides}
use Rattle.vat_view.proofs.state.VatState.leads_elsewhere.Goals as goal

pub returns : goal.returns
returns c =
    let going : View → Next = λ v. goes_by c.self.inside.tables.turns (bound_at c.self.inside.tables.bound) v in
    let same : (v : View) → going v ≡ next c.args.self.now v =
    goes_so c.self.inside.past.items c.args.self.now c.self.inside.tables.questions c.self.inside.tables.lives c.self.inside.tables.bound c.self.inside.tables.turns
    c.self.view_is c.self.invariant.0.0.tabled c.self.invariant.0.2 in
    subst (λ v. Decides c.leads_to.result (LeadsElsewhere c.args.edition c.args.self.now v c.args.connection)) c.of.ensures
    (one_known going c.args.self.now same (λ v. sought_by c.self.inside.tables.turns (bound_at c.self.inside.tables.bound) c.self.inside.tables.arrivals c.self.inside.tables.connections (Elsewhere c.args.connection c.args.edition) v)
    (λ v. IsTrue (is_elsewhere c.args.edition c.args.connection c.args.self.now v))
    (elsewhere_decides c.self.inside.past.items c.args.self.now c.self.inside.tables.arrivals c.self.inside.tables.connections c.self.inside.tables.turns (bound_at c.self.inside.tables.bound) c.self.view_is c.self.invariant.2 c.self.invariant.0.3 c.args.edition c.args.connection)
    (as_view c.of.result) c.leads_to.result c.leads_to.ensures)
