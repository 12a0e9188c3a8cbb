use Rattle.std.proofs.Common.{length, ◌-◌, ◌≡◌, take}
use Rattle.call_trace.specs.Glue.Channels.{by_others}
use Rattle.call_trace.proofs.steps.channels.first_of_others.Given as goal

abbrev pub invariant-loop-place : goal.invariant-loop-place
invariant-loop-place l = by_others l.vat (take l.place l.sends) ≡ by_others l.vat (take l.from l.sends)

abbrev pub decreases-loop-place : goal.decreases-loop-place
decreases-loop-place l = length l.sends - l.place
