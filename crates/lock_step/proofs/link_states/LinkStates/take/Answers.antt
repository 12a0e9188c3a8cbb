use Rattle.std.specs.List.{zip}
use Rattle.std.specs.Prelude.{reverse}
use Rattle.lock_step.proofs.Ways.{further}
use Rattle.lock_step.proofs.link_states.LinkStates.take.Goals as goal

pub invariant_of-self-2 : goal.invariant_of-self-2
invariant_of-self-2 c =
    let inside = c.self.inside in
    let turns = zip inside.vats.items inside.records.items in
    rw (c.with-self-inside.ensures, c.with-self-inside-2.ensures) (further (reverse inside.added.items) c.args.vat c.args.body.now turns inside.table c.pass.new.self c.self.invariant c.in_ok-pass.ensures.ok)
