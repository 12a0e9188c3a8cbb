use Rattle.std.proofs.Common.{◌≡◌, [], take}
use Rattle.std.specs.Prelude.{reverse}
use Rattle.lock_step.specs.Glue.{AreStates}
use Rattle.lock_step.proofs.link_states.LinkStates.new.Given as goal

-- the links so far are kept
abbrev pub invariant-loop-link : goal.invariant-loop-link
invariant-loop-link l = record {
  added : reverse l.added.items ≡ take l.link-index l.links;
  states : AreStates (reverse l.added.items) [] l.table;
}
