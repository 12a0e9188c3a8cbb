use Rattle.std.proofs.Common.{sym, ◌+◌, arith}
use Rattle.decoded_records.specs.Borrowed.{as_view}
use Rattle.vat_view.specs.Glue.TurnTables.{turns_of, most_turns}
use Rattle.vat_view.proofs.Bounded.{few, turn_number}
use Rattle.vat_view.proofs.Hopping.{walked_none, walked_on, walked_marked}
use Rattle.vat_view.proofs.Joining.{last_turned, last_few, last_marked}
use Rattle.vat_view.proofs.walks.hops.last.Goals.{then-is_power_of_two, else-is_power_of_two}
use Rattle.vat_view.proofs.walks.hops.last.Goals as goal

pub loop-hop-init : goal.loop-hop-init
loop-hop-init c = walked_none (turns_of c.args.turns.now c.args.bound.now) (as_view c.args.view)

pub returns-in-None : goal.returns-in-None
returns-in-None c =
    let walked = c.loop-hop.invariant in last_turned (turns_of c.args.turns.now c.args.bound.now) (as_view c.args.view) walked.0 (as_view c.loop-hop.at) walked.4 (sym c.in-None.ensures)

pub returns-then-is_same : goal.returns-then-is_same
returns-then-is_same c =
    last_marked (turns_of c.args.turns.now c.args.bound.now) (as_view c.args.view) c.loop-hop.hop (as_view c.loop-hop.at) (as_view c.loop-hop.mark) (as_view c.in-Some.next) c.loop-hop.invariant
    c.in-Some.ensures (c.is_same.ensures.0 c.if-is_same.true)

pub loop-hop-preserved : goal.loop-hop-preserved
loop-hop-preserved c =
    let f = turns_of c.args.turns.now c.args.bound.now in
    let walked = walked_on f c.loop-hop.hop (as_view c.args.view) (as_view c.loop-hop.at) (as_view c.loop-hop.mark) (as_view c.in-Some.next) c.loop-hop.invariant c.in-Some.ensures in
    elim c.if-is_power_of_two.branch [
      | then-is_power_of_two w ↦
          rw (w.mark-is) (walked_marked f (c.loop-hop.hop + 1) (as_view c.args.view) (as_view c.in-Some.next) (as_view c.loop-hop.mark) walked)
      | else-is_power_of_two w ↦ rw (w.mark-is) walked
    ]

pub returns : goal.returns
returns c =
    let walked = c.loop-hop.invariant in let low = walked.2 in
    last_few (turns_of c.args.turns.now c.args.bound.now) (as_view c.args.view) (turn_number c.args.turns.now c.args.bound.now (as_view c.args.view)) (most_turns c.args.turns.now c.args.bound.now)
    walked.0 (as_view c.loop-hop.at) (few c.args.turns.now c.args.bound.now (as_view c.args.view))
    (omega (arith, low, c.loop-hop-test.false, c.most_turns-hop-end.ensures)) walked.4
