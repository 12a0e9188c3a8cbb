use Rattle.std.proofs.Common.{◌≡◌, ◌<◌, ℕ}
use Rattle.std.specs.Prelude.{Some, IsTrue}
use Rattle.vat_view.specs.Types.{View}
use Rattle.decoded_records.specs.Borrowed.{as_view}
use Rattle.vat_view.specs.Glue.Tables.{bound_at}
use Rattle.vat_view.specs.Glue.TurnTables.{after_turns, turn_by, Reaches}
use Rattle.vat_view.specs.Glue.ConnectionTables.{sought_by}
use Rattle.vat_view.proofs.walks.reachable.leads_to.Given as goal

abbrev pub invariant-loop-made : goal.invariant-loop-made
invariant-loop-made l = record {
  ahead : Reaches (turn_by l.turns (bound_at l.bound)) (as_view l.fn.from) (as_view l.far);
  here : after_turns (turn_by l.turns (bound_at l.bound)) l._made (Some (as_view l.fn.from)) ≡ Some (as_view l.view);
  before : (m : ℕ) → m < l._made → (v : View) → after_turns (turn_by l.turns (bound_at l.bound)) m (Some (as_view l.fn.from)) ≡ Some v → IsTrue (sought_by l.turns (bound_at l.bound) l.arrivals l.connections l.sought v) → ⊥;
}
