-- What was taken, as a case keeps it.
use Rattle.std.proofs.Common.{◌≡◌, ℕ, Bool, List, Option, Some, None, refl, sym, subst}
use Rattle.std.specs.Option.{option_map}
use Rattle.merge_order.specs.declared.order_check.OrderFinding.{OrderFinding}
use Rattle.turn_taking.specs.Lanes.{LaneSoFar}
use Rattle.turn_taking.specs.Turned as pass
use Rattle.turn_taking.specs.WholeCase.{AreTaken, AreTakenBy}
use Rattle.lock_step.specs.Taking.{Taken, turned}
use Rattle.stream_audit.specs.Glue.{IsTakenSo}
use Rattle.stream_audit.specs.declared.reading_in_turns.OrderFound.{OrderFound}

seen : (o : Option Taken) (m : pass.Taken) → option_map turned o ≡ Some m → (more : Taken) × (o ≡ Some more) × (turned more ≡ m)
seen None m is = absurd (let no : ⊥ = cc in no)
seen (Some more) m is = (more, refl, same (turned more) m is)
  where
    same : (a b : pass.Taken) → ◌≡◌ {A = Option pass.Taken} (Some a) (Some b) → a ≡ b
    same a b e = cc

-- without an order that is given
pub taken_by_any : (lanes : List (Option LaneSoFar)) (turns : Option Taken) (order : Option (List ℕ)) (found : OrderFound) (fits known : Bool) → order ≡ None → fits ≡ known
    → ((taken : pass.Taken) → AreTaken lanes taken known → IsTakenSo lanes taken None found) → (more : pass.Taken) × (option_map turned turns ≡ Some more) × AreTaken lanes more fits
    → (more : Taken) × (turns ≡ Some more) × IsTakenSo lanes (turned more) order found
taken_by_any lanes turns order found fits known none is means so =
    let more = seen turns so.0 so.1 in (
      more.0,
      more.1,
      subst (λ (o : Option (List ℕ)). IsTakenSo lanes (turned more.0) o found) (sym none)
          (means (turned more.0) (subst (AreTaken lanes (turned more.0)) is (subst (λ (t : pass.Taken). AreTaken lanes t fits) (sym more.2) so.2))),
    )

-- by one that is given
pub taken_by_one : (lanes : List (Option LaneSoFar)) (turns : Option Taken) (order : Option (List ℕ)) (one : List ℕ) (found : OrderFound) (finding known : OrderFinding) → order ≡ Some one → finding ≡ known
    → ((taken : pass.Taken) → AreTakenBy lanes taken one known → IsTakenSo lanes taken (Some one) found) → (more : pass.Taken) × (option_map turned turns ≡ Some more) × AreTakenBy lanes more one finding
    → (more : Taken) × (turns ≡ Some more) × IsTakenSo lanes (turned more) order found
taken_by_one lanes turns order one found finding known given is means so =
    let more = seen turns so.0 so.1 in (
      more.0,
      more.1,
      subst (λ (o : Option (List ℕ)). IsTakenSo lanes (turned more.0) o found) (sym given)
          (means (turned more.0) (subst (AreTakenBy lanes (turned more.0) one) is (subst (λ (t : pass.Taken). AreTakenBy lanes t one finding) (sym more.2) so.2))),
    )
