-- Whole logs whose records are all taken: in turns as far as an order fits, the rest as it comes.
use Rattle.std.specs.Prelude.{◌≡◌, ◌⊎◌, ℕ, Bool, true, false, List, ◌∷◌, ◌++◌, length, Option}
use Rattle.vat_log.specs.Log.{Log}
use Rattle.merge_order.specs.declared.order_check.OrderFinding.{OrderFinding}
use Rattle.merge_order.specs.declared.order_check.OrderFinding.TheVariants.{Fits, Fails}
use Rattle.turn_taking.specs.Turns.{Turns, order_of, AreAll, AreOf}
use Rattle.turn_taking.specs.Orders.{AreLeft, AreStuck, IsHeldUp}
use Rattle.turn_taking.specs.Lanes.{LaneSoFar}
use Rattle.turn_taking.specs.Pass.{logs_of, AreOver, IsPass}
use Rattle.turn_taking.specs.Turned.{Taken}

-- All records are taken (`all`). Where an order fits, they were all taken in order (`fits`); else the turns that were taken in
-- order go as far as any order may (`stuck`).
pub record AreTaken (lanes : List (Option LaneSoFar)) (taken : Taken) (fits : Bool) : Type 0 where
  pub pass : IsPass lanes taken
  pub over : AreOver lanes
  pub all : AreAll (logs_of lanes) taken.all
  pub fits_all : fits ≡ true → AreAll (logs_of lanes) taken.in_order
  pub stuck : fits ≡ false → AreOf (logs_of lanes) taken.in_order × AreStuck (logs_of lanes) taken.in_order × AreLeft (logs_of lanes) taken.in_order

-- an order goes no further than turns: it ends with them though records are left, or goes on with a vat of which no record may
-- come next
abbrev pub EndsBehind : List Log → Turns → List ℕ → Type 0
EndsBehind logs turns order = ((order ≡ order_of turns) × AreLeft logs turns) ⊎ ((vat : ℕ) × (rest : List ℕ) × (order ≡ order_of turns ++ vat ∷ rest) × IsHeldUp logs turns vat)

-- All records are taken (`all`). Where the order that was given fits, they were all taken by it (`fits`); else its steps were
-- taken as far as it fits (`fails`).
pub record AreTakenBy (lanes : List (Option LaneSoFar)) (taken : Taken) (order : List ℕ) (finding : OrderFinding) : Type 0 where
  pub pass : IsPass lanes taken
  pub over : AreOver lanes
  pub all : AreAll (logs_of lanes) taken.all
  pub fits_all : finding ≡ Fits → (order ≡ order_of taken.in_order) × AreAll (logs_of lanes) taken.in_order
  pub fails : (step : ℕ) → finding ≡ Fails step → (step ≡ length taken.in_order) × AreOf (logs_of lanes) taken.in_order × EndsBehind (logs_of lanes) taken.in_order order
