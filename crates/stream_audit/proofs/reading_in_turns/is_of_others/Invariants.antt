use Rattle.std.proofs.Common.{◌≡◌, ◌≢◌, ◌≤◌, ◌<◌, ℕ, Some}
use Rattle.std.specs.Prelude.{slice_get}
use Rattle.log_lane.specs.Lanes.{ReadAhead}
use Rattle.stream_audit.proofs.reading_in_turns.is_of_others.Given as goal

-- the lanes so far are of others
abbrev pub invariant-loop-place : goal.invariant-loop-place
invariant-loop-place g l = (i : ℕ) (lane : ReadAhead) → l.from ≤ i → i < l.place → slice_get l.lanes i ≡ Some (Some lane) → lane.read.log.vat ≢ l.vat
