use Rattle.authority.proofs.Placing.{IsPlaced}
use Rattle.authority.proofs.witnesses.Witnesses.by_place.Given as goal

abbrev pub invariant-loop-key : goal.invariant-loop-key
invariant-loop-key l = IsPlaced l.initial.key-iterator l.key-iterator l.table
