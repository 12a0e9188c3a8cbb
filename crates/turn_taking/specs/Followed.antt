-- For the code's contracts, and no part of the meaning: lanes as far as an order was followed.
use Rattle.std.specs.Prelude.{◌≡◌, ℕ, ◌+◌, ◌≤◌, Bool, false, List, ◌++◌, length, take, Option, Some, if◌then◌else◌, slice_get}
use Rattle.turn_taking.specs.Turns.{order_of}
use Rattle.turn_taking.specs.Lanes.{LaneSoFar, GoesOn, HasNext}
use Rattle.turn_taking.specs.Turned.{Taken}
use Rattle.turn_taking.specs.Pass.{lane_vat, AreFurther, IsLaneHeldUp, IsLaneAt, IsPass, TookTurns}

-- the vat of a lane took its next record, where it may come; some were read ahead before
pub record IsStep (before : LaneSoFar) (taken : Taken) (lane : Option LaneSoFar) (turns : Option Taken) (took : Bool) : Type 0 where
  pub longer : LaneSoFar
  pub after : LaneSoFar
  pub more : Taken
  pub grown : GoesOn before longer
  pub lane_is : lane ≡ Some after
  pub turns_are : turns ≡ Some more
  pub turned : TookTurns longer after taken more (if took then 1 else 0)
  pub held : took ≡ false → IsLaneHeldUp more after × HasNext after

-- no record of the vat may come next: its lane, if it has one, has none ahead and has ended, or the first one may not come
abbrev pub IsVatHeldUp : List (Option LaneSoFar) → Taken → ℕ → Type 0
IsVatHeldUp lanes taken v = (i : ℕ) (lane : LaneSoFar) → IsLaneAt lanes i lane → lane_vat lane ≡ v → IsLaneHeldUp taken lane × HasNext lane

-- so many steps of an order were taken
pub record AreFollowed (lanes later : List (Option LaneSoFar)) (taken more : Taken) (order : List ℕ) (count : ℕ) : Type 0 where
  pub pass : IsPass later more
  pub further : AreFurther lanes later
  pub phase : more.is_stuck ≡ taken.is_stuck
  pub turns : order_of more.in_order ≡ order_of taken.in_order ++ take count order
  pub counted : length more.in_order ≡ length taken.in_order + count

-- and no more of them may be: the order ends, or no record of its next vat may come
pub record AreFollowedToTheEnd (lanes later : List (Option LaneSoFar)) (taken more : Taken) (order : List ℕ) (count : ℕ) : Type 0 where
  pub followed : AreFollowed lanes later taken more order count
  pub few : count ≤ length order
  pub stops : (vat : ℕ) → slice_get order count ≡ Some vat → IsVatHeldUp later more vat
