use Rattle.std.proofs.Common.{◌∙◌, List, map, ap, arith}
use Rattle.std.specs.Arc.{arc_value}
use Rattle.std.specs.Option.{option_map}
use Rattle.case_book.specs.declared.link.Link.{Link}
use Rattle.picture.specs.Flow.{flow, record_count}
use Rattle.picture.specs.Glue.Seats.{Seat, next_seat, turn_of_seat}
use Rattle.picture.proofs.Flowing.{flow_begins, flows_all, flows_on, flows_out}
use Rattle.picture.proofs.order.flow.flow_of.Goals as goal

pub loop-init : goal.loop-init
loop-init c =
    rw c.new-order.ensures.items (flow_begins c.args.case.now (map arc_value c.logs-2.result.now) c.in_ok-seats.seats.items c.logs-2.ensures.lent c.logs-2.ensures.rising c.in_ok-seats.ensures)

pub loop-preserved : goal.loop-preserved
loop-preserved c =
    let held = c.args.case.now in
    flows_on held c.loop.counter c.loop.seats.items c.in_ok-seats-2.seats.items c.in-Some.turn c.loop.order.items c.push.new.self.items
    (c.in-Some.ensures ∙ ap (λ (s : List Seat). option_map (turn_of_seat c.links.result.now) (next_seat s)) c.deref.ensures.value
    ∙ ap (λ (l : List Link). option_map (turn_of_seat l) (next_seat c.loop.seats.items)) c.links.ensures.lent)
    c.in_ok-push.ensures.items c.in_ok-seats-2.ensures c.loop.invariant

pub returns-in_default : goal.returns-in_default
returns-in_default c =
    let held = c.args.case.now in
    flows_out held c.records_in-turns.result c.loop.counter c.loop.seats.items c.loop.order.items (omega (arith, c.loop-test.true))
    (c.in_default.ensures ∙ ap (λ (s : List Seat). option_map (turn_of_seat c.links.result.now) (next_seat s)) c.deref.ensures.value
    ∙ ap (λ (l : List Link). option_map (turn_of_seat l) (next_seat c.loop.seats.items)) c.links.ensures.lent) c.loop.invariant
    ∙ ap (flow held) (c.records_in-turns.ensures ∙ ap record_count c.logs.ensures.lent)

pub returns : goal.returns
returns c =
    let held = c.args.case.now in
    flows_all held c.records_in-turns.result c.loop.counter c.loop.seats.items c.loop.order.items (omega arith) c.loop.invariant
    ∙ ap (flow held) (c.records_in-turns.ensures ∙ ap record_count c.logs.ensures.lent)
