-- The lanes of a case that are read side by side, and the turns that their vats took.
use Rattle.std.specs.Prelude.{◌≡◌, ℕ, ◌<◌, Bool, true, false, List, [], ◌++◌, length, map, reverse, Option, Some, Contains, option_map, slice_get}
use Rattle.std.specs.List.{filter_map}
use Rattle.byte_pieces.specs.Coming.{ComesOn}
use Rattle.vat_log.specs.Log.{Log}
use Rattle.vat_log.specs.declared.body.Body.{Body}
use Rattle.turn_taking.specs.Turns.{Turns, records_taken, AreInOrder}
use Rattle.turn_taking.specs.Lanes.{LaneSoFar, GoesOn, HasNext}
use Rattle.turn_taking.specs.Turned.{Taken, may_be_next}

-- the vat whose log a lane reads
abbrev pub lane_vat : LaneSoFar → ℕ
lane_vat lane = lane.log.vat

-- a lane stands at a place, and nothing was refused to it
abbrev pub IsLaneAt : List (Option LaneSoFar) → ℕ → LaneSoFar → Type 0
IsLaneAt lanes i lane = slice_get lanes i ≡ Some (Some lane)

-- nothing was refused to any lane
abbrev pub AreThere : List (Option LaneSoFar) → Type 0
AreThere lanes = (i : ℕ) → i < length lanes → (lane : LaneSoFar) × IsLaneAt lanes i lane

-- Of each log what was read is what its vat took and what is ahead; no two lanes are of one vat, and each turn is of a lane's
-- vat.
pub record AreInStep (lanes : List (Option LaneSoFar)) (turns : Turns) : Type 0 where
  pub each : (i : ℕ) (lane : LaneSoFar) → IsLaneAt lanes i lane → lane.log.records ≡ records_taken (lane_vat lane) turns ++ lane.ahead
  pub apart : (i j : ℕ) (one other : LaneSoFar) → IsLaneAt lanes i one → IsLaneAt lanes j other → lane_vat one ≡ lane_vat other → i ≡ j
  pub known : (turn : ℕ × Body) → Contains turns turn → (i : ℕ) × (lane : LaneSoFar) × IsLaneAt lanes i lane × (lane_vat lane ≡ turn.0)

-- the first record ahead, if there is one, may not come next
abbrev pub IsLaneHeldUp : Taken → LaneSoFar → Type 0
IsLaneHeldUp taken lane = (next : Body) → slice_get lane.ahead 0 ≡ Some next → may_be_next taken (lane_vat lane) next ≡ false

-- a vat's turns with these records, the newest first
abbrev pub turns_with : ℕ → List Body → Turns
turns_with v records = map (λ body. (v, body)) (reverse records)

-- a vat took its turns with records that were ahead in its lane, each in order, and as many as these
pub record TookTurns (lane after : LaneSoFar) (taken more : Taken) (count : ℕ) : Type 0 where
  pub came : after.came ≡ lane.came
  pub log : after.log ≡ lane.log
  pub ended : after.has_ended ≡ lane.has_ended
  pub records : List Body
  pub counted : length records ≡ count
  pub ahead : lane.ahead ≡ records ++ after.ahead
  pub phase : more.is_stuck ≡ taken.is_stuck
  pub in_turn : taken.is_stuck ≡ false → more.in_order ≡ turns_with (lane_vat lane) records ++ taken.in_order
  pub kept : taken.is_stuck ≡ true → more.in_order ≡ taken.in_order
  pub all : more.all ≡ turns_with (lane_vat lane) records ++ taken.all
  pub in_order : AreInOrder taken.in_order → AreInOrder more.in_order

-- each lane took its turns as far as these lanes, and whether any took one
pub record IsRound (lanes after : List (Option LaneSoFar)) (taken more : Taken) (some : Bool) : Type 0 where
  pub in_step : AreInStep lanes taken.all → AreInStep after more.all
  pub in_order : AreInOrder taken.in_order → AreInOrder more.in_order
  pub phase : more.is_stuck ≡ taken.is_stuck
  pub kept : taken.is_stuck ≡ true → more.in_order ≡ taken.in_order
  pub alike : taken.is_stuck ≡ false → taken.all ≡ taken.in_order → more.all ≡ more.in_order
  pub reads : (i : ℕ) (lane : LaneSoFar) → IsLaneAt after i lane → (before : LaneSoFar) × IsLaneAt lanes i before × (lane.log ≡ before.log) × (lane.has_ended ≡ before.has_ended) × (lane.came ≡ before.came)
  pub same : some ≡ false → (i : ℕ) (lane : LaneSoFar) → IsLaneAt after i lane → IsLaneAt lanes i lane
  pub still : some ≡ false → (i : ℕ) (lane : LaneSoFar) → IsLaneAt after i lane → IsLaneHeldUp more lane

-- more was read ahead in each lane, unless memory was refused
pub record AreFilled (lanes longer : List (Option LaneSoFar)) : Type 0 where
  pub long : length longer ≡ length lanes
  pub each : (i : ℕ) (lane one : LaneSoFar) → IsLaneAt lanes i lane → IsLaneAt longer i one → GoesOn lane one × HasNext one

-- the turns were taken in order, all of them, and each lane goes on behind them
pub record IsPass (lanes : List (Option LaneSoFar)) (taken : Taken) : Type 0 where
  pub there : AreThere lanes
  pub in_step : AreInStep lanes taken.all
  pub in_order : AreInOrder taken.in_order
  pub alike : taken.is_stuck ≡ false → taken.all ≡ taken.in_order

-- no lane has a record that may come next: it has none ahead and no more is read, or its first is held up
abbrev pub AreHeldUp : List (Option LaneSoFar) → Taken → Type 0
AreHeldUp lanes taken = (i : ℕ) (lane : LaneSoFar) → IsLaneAt lanes i lane → IsLaneHeldUp taken lane × HasNext lane

-- a lane is as far as another, or further: its log goes on, unless it had ended
pub record IsFurther (lane longer : LaneSoFar) : Type 0 where
  pub on : ComesOn lane.came longer.came
  pub vat : longer.log.vat ≡ lane.log.vat
  pub more : List Body
  pub records : longer.log.records ≡ lane.log.records ++ more
  pub over : lane.has_ended ≡ true → (more ≡ []) × (longer.has_ended ≡ true)

-- each lane is as far as it was, or further
abbrev pub AreFurther : List (Option LaneSoFar) → List (Option LaneSoFar) → Type 0
AreFurther lanes longer = (i : ℕ) (one : LaneSoFar) → IsLaneAt longer i one → (lane : LaneSoFar) × IsLaneAt lanes i lane × IsFurther lane one

-- the logs of lanes, as far as they were read
abbrev pub logs_of : List (Option LaneSoFar) → List Log
logs_of lanes = filter_map (λ lane. option_map (λ l. l.log) lane) lanes

-- no record is ahead in any lane
abbrev pub AreEmpty : List (Option LaneSoFar) → Type 0
AreEmpty lanes = (i : ℕ) (lane : LaneSoFar) → IsLaneAt lanes i lane → lane.ahead ≡ []

-- every record that was read is taken, and no more is read
abbrev pub AreOver : List (Option LaneSoFar) → Type 0
AreOver lanes = (i : ℕ) (lane : LaneSoFar) → IsLaneAt lanes i lane → (lane.ahead ≡ []) × (lane.has_ended ≡ true)
