use Rattle.std.proofs.Common.{◌≡◌, ◌↔◌, subst, IsTrue}
use Rattle.vat_view.specs.Types.{View}
use Rattle.decoded_records.specs.Borrowed.{as_view}
use Rattle.vat_view.specs.Walks.{Next, next, AreOne}
use Rattle.vat_view.specs.Glue.Tables.{bound_at}
use Rattle.vat_view.specs.Glue.TurnTables.{goes_by}
use Rattle.vat_view.proofs.Ending.{goes_so}
use Rattle.vat_view.proofs.Joining.{one_known}
use Rattle.vat_view.proofs.state.VatState.are_one.Goals as goal

pub returns : goal.returns
returns c =
    let going : View → Next = λ v. goes_by c.self.inside.tables.turns (bound_at c.self.inside.tables.bound) v in
    let same : (v : View) → going v ≡ next c.args.self.now v =
    goes_so c.self.inside.past.items c.args.self.now c.self.inside.tables.questions c.self.inside.tables.lives c.self.inside.tables.bound c.self.inside.tables.turns
    c.self.view_is c.self.invariant.0.0.tabled c.self.invariant.0.2 in
    subst (λ v. IsTrue c.are_one.result ↔ AreOne c.args.self.now v c.args.b.now) c.of.ensures
    (subst (λ v. IsTrue c.are_one.result ↔ AreOne c.args.self.now (as_view c.of.result) v) c.of-2.ensures
    (one_known going c.args.self.now same (as_view c.of.result) (as_view c.of-2.result) c.are_one.result c.are_one.ensures))
