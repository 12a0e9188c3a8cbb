use Rattle.std.proofs.Common.{arith}
use Rattle.std.specs.List.{zip}
use Rattle.turn_taking.proofs.Counting.{records_le}
use Rattle.turn_taking.proofs.turns_taken.TurnsTaken.take.Goals as goal

pub take-requires-clause-few : goal.take-requires-clause-few
take-requires-clause-few c =
    let turns = zip c.self.inside.vats.items c.self.inside.records.items in
    omega (arith, c.self.invariant.records c.args.vat, c.self.invariant.counted, records_le c.args.vat turns, c.in-Some.ensures)
