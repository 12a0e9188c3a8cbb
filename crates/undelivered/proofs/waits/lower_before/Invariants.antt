use Rattle.std.proofs.Common.{◌≡◌, ℕ, ◌≤◌}
use Rattle.std.specs.BTreeMap.{get}
use Rattle.undelivered.specs.Glue.{key_cmp}
use Rattle.undelivered.proofs.Lowering.{lowered_from}
use Rattle.undelivered.proofs.waits.lower_before.Given as goal

abbrev pub invariant-loop-earlier : goal.invariant-loop-earlier
invariant-loop-earlier l = record {
  within : l.below ≤ l.turn;
  lowered : (r t : ℕ) → get key_cmp l.waiting (r, t) ≡ lowered_from l.reference l.below l.turn l.place r t (get key_cmp l.initial.waiting (r, t));
}

abbrev pub decreases-loop-earlier : goal.decreases-loop-earlier
decreases-loop-earlier l = l.below
