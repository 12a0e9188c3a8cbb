use Rattle.std.proofs.Common.{arith}
use Rattle.std.specs.List.{zip}
use Rattle.turn_taking.proofs.Counting.{balance, passed_le}
use Rattle.turn_taking.proofs.turns_taken.TurnsTaken.under_way.Goals as goal

pub under_way-requires : goal.under_way-requires
under_way-requires c =
    let turns = zip c.self.inside.vats.items c.self.inside.records.items in
    let v = c.args.vat in
    let k = c.args.connection in
    omega (arith, c.self.invariant.passed v k, c.self.invariant.counted, c.self.invariant.few, passed_le v k turns)

pub returns : goal.returns
returns c =
    let turns = zip c.self.inside.vats.items c.self.inside.records.items in
    let v = c.args.vat in
    let k = c.args.connection in
    rw (← c.self.view_is) (omega (arith, c.under_way.ensures, c.self.invariant.sent k, c.self.invariant.passed v k, balance v k turns))
