use Rattle.std.proofs.Common.{◌≡◌, ◌≢◌, ◌<◌, ℕ, Some}
use Rattle.std.specs.Prelude.{slice_get}
use Rattle.log_lane.specs.Lanes.{ReadAhead}
use Rattle.stream_audit.proofs.reading_in_turns.are_apart.Given as goal

-- each lane so far is of another vat than those behind it
abbrev pub invariant-loop-place : goal.invariant-loop-place
invariant-loop-place g l =
    (i j : ℕ) (one other : ReadAhead) → i < l.place → i < j → slice_get l.lanes i ≡ Some (Some one) → slice_get l.lanes j ≡ Some (Some other) → one.read.log.vat ≢ other.read.log.vat
