use Rattle.std.proofs.Common.{sym, ap, ◌+◌, arith}
use Rattle.decoded_records.specs.Borrowed.{as_view}
use Rattle.vat_view.specs.Glue.TurnTables.{turns_of}
use Rattle.vat_view.specs.Walks.{turned_to}
use Rattle.vat_view.proofs.Hopping.{walked_none, walked_on, walked_marked, meets_mark}
use Rattle.vat_view.proofs.Ending.{ends_at, goes_for_ever}
use Rattle.vat_view.proofs.walks.hops.end.Goals.{then-is_power_of_two, else-is_power_of_two}
use Rattle.vat_view.proofs.walks.hops.end.Goals as goal

pub loop-hop-init : goal.loop-hop-init
loop-hop-init c = walked_none (turns_of c.args.turns.now c.args.bound.now) (as_view c.args.view)

pub returns-in-None : goal.returns-in-None
returns-in-None c =
    let walked = c.loop-hop.invariant in
    ends_at as_view c.args.turns.now c.args.bound.now (as_view c.args.view) (as_view c.loop-hop.at) walked.0 c.end_here.result walked.4 (sym c.in-None.ensures) c.end_here.ensures

pub returns-then-is_same : goal.returns-then-is_same
returns-then-is_same c = λ w ends.
    meets_mark (turns_of c.args.turns.now c.args.bound.now) c.loop-hop.hop (as_view c.args.view) (as_view c.loop-hop.at) (as_view c.loop-hop.mark) (as_view c.in-Some.next) c.loop-hop.invariant
    c.in-Some.ensures (c.is_same.ensures.0 c.if-is_same.true) w ends.0 (ap (λ x. turned_to x) ends.1)

pub loop-hop-preserved : goal.loop-hop-preserved
loop-hop-preserved c =
    let f = turns_of c.args.turns.now c.args.bound.now in
    let walked = walked_on f c.loop-hop.hop (as_view c.args.view) (as_view c.loop-hop.at) (as_view c.loop-hop.mark) (as_view c.in-Some.next) c.loop-hop.invariant c.in-Some.ensures in
    elim c.if-is_power_of_two.branch [
      | then-is_power_of_two w ↦
          rw (w.mark-is) (walked_marked f (c.loop-hop.hop + 1) (as_view c.args.view) (as_view c.in-Some.next) (as_view c.loop-hop.mark) walked)
      | else-is_power_of_two w ↦ rw (w.mark-is) walked
    ]

pub returns-in-Some-turned_to : goal.returns-in-Some-turned_to
returns-in-Some-turned_to c =
    let walked = c.loop-hop.invariant in let low = walked.2 in
    goes_for_ever as_view c.args.turns.now c.args.bound.now (as_view c.args.view) (as_view c.loop-hop.at) (as_view c.in-Some-turned_to.field-0) walked.0
    (omega (arith, low, c.loop-hop-test.false, c.most_turns-hop-end.ensures)) walked.4 c.in-Some-turned_to.ensures

pub returns-in-None-turned_to : goal.returns-in-None-turned_to
returns-in-None-turned_to c =
    let walked = c.loop-hop.invariant in
    ends_at as_view c.args.turns.now c.args.bound.now (as_view c.args.view) (as_view c.loop-hop.at) walked.0 c.end_here-in-None-turned_to.result walked.4
    c.in-None-turned_to.ensures c.end_here-in-None-turned_to.ensures
