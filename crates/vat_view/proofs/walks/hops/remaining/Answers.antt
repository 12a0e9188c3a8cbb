use Rattle.std.proofs.Common.{arith}
use Rattle.decoded_records.specs.Borrowed.{as_view}
use Rattle.vat_view.specs.Glue.TurnTables.{turns_of}
use Rattle.vat_view.proofs.Hopping.{steps_on}
use Rattle.vat_view.proofs.walks.hops.remaining.Goals as goal

pub returns-then-made-most-clause-count : goal.returns-then-made-most-clause-count
returns-then-made-most-clause-count c =
    let f = turns_of c.args.turns.now c.args.bound.now in (
      steps_on f (as_view c.args.view) (as_view c.loop-hops.at) (as_view c.in-Some.next) c.loop-hops.made c.in-Some.more c.in_ok-made.made c.loop-hops.invariant.here c.in-Some.ensures
          (omega (arith, c.in_ok-checked_add.ensures, c.in_ok-made.ensures)),
      λ le. absurd (let no : ⊥ = omega (arith, le, c.if-made-most.true) in no),
    )

pub loop-hops-preserved : goal.loop-hops-preserved
loop-hops-preserved c = record {
  here = steps_on (turns_of c.args.turns.now c.args.bound.now) (as_view c.args.view) (as_view c.loop-hops.at) (as_view c.in-Some.next) c.loop-hops.made c.in-Some.more c.in_ok-made.made
      c.loop-hops.invariant.here c.in-Some.ensures (omega (arith, c.in_ok-checked_add.ensures, c.in_ok-made.ensures));
  fits = omega arith;
}
