-- For the code's contracts, and no part of the meaning: what a lane keeps of one log.
use Rattle.std.specs.Prelude.{◌≡◌, Bool, true, false, List, ◌++◌, Option, Some, None, is_some}
use Rattle.cap_reader.specs.Defaults.{default_limits}
use Rattle.vat_log.specs.Streams.{StreamSoFar}
use Rattle.vat_log.specs.declared.body.Body.{Body}
use Rattle.vat_rules.specs.Audited.{Audited}
use Rattle.log_lane.specs.Lanes.{ReadAhead, EndsSo}
use Rattle.log_lane.specs.declared.ending.Ending.{Ending}

-- what was read, unless memory was refused
abbrev pub lane_unless : Bool → StreamSoFar → List Body → Option Ending → Option ReadAhead
lane_unless true read ahead ending = None
lane_unless false read ahead ending = Some (record { read = read; ahead = ahead; ending = ending })

-- all parts are of the same log, but for those that were given away once it was spent, and the records ahead are its last
pub record AreOfOne (is_spent : Bool) (read : StreamSoFar) (audit : Audited) (used ahead : List Body) (ending : Option Ending) : Type 0 where
  pub audited : is_spent ≡ false → audit ≡ record { log = read.log; limits = default_limits }
  pub used_too : is_spent ≡ false → used ≡ read.log.records
  pub spent : is_spent ≡ true → is_some ending ≡ true
  pub before : List Body
  pub last : read.log.records ≡ before ++ ahead
  pub ended : EndsSo ending read
