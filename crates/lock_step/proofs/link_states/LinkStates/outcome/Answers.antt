use Rattle.std.proofs.Common.{subst}
use Rattle.lock_step.specs.Glue.{AreStates}
use Rattle.lock_step.specs.Links.{LinkTurns}
use Rattle.lock_step.proofs.Ways.{ends_are}
use Rattle.lock_step.proofs.link_states.LinkStates.outcome.Goals as goal

pub returns-clause-found : goal.returns-clause-found
returns-clause-found c =
    let kept = subst (λ (s : LinkTurns). AreStates s.links s.turns c.self.inside.table) c.self.view_is c.self.invariant in
    let between = c.is_between.ensures.is c.if-not-is_between.false in
    let are = ends_are c.self.inside.table c.args.self.now c.args.link.now c.in_ok-state.state.now kept c.in_ok-state.ensures between.0 between.1 in
    record {
      found = λ logs ends all is.
          let so = are logs ends all is in
          c.outcome.ensures.meaning ends so.first so.second so.passed;
      only = λ logs ends other all is other_is.
          let so = are logs ends all is in
          c.outcome.ensures.only ends other so.first so.second so.passed other_is;
    }
