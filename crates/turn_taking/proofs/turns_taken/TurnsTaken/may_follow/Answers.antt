use Rattle.std.proofs.Common.{◌∙◌, ap}
use Rattle.std.specs.Prelude.{nat_lt}
use Rattle.turn_taking.specs.Turns.{received_by, sent_by_others}
use Rattle.turn_taking.proofs.Counting.{some_under_way}
use Rattle.turn_taking.proofs.turns_taken.TurnsTaken.may_follow.Goals as goal

pub returns-in-Receive : goal.returns-in-Receive
returns-in-Receive c =
    let turns = c.args.self.now in
    let v = c.args.vat in
    let k = c.in-Receive.connection in
    rw c.in-Receive.is (ap (nat_lt 0) c.under_way.ensures ∙ some_under_way (received_by v k turns) (sent_by_others v k turns))
