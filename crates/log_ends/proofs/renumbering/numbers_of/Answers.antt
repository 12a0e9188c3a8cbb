use Rattle.std.proofs.Common.{get_or}
use Rattle.std.proofs.lemmas.Option.{slice_get-get_or}
use Rattle.log_ends.specs.declared.log_end.EndPair.{EndPair}
use Rattle.log_ends.proofs.NewNumbers.{numbers_more}
use Rattle.log_ends.proofs.renumbering.numbers_of.Goals as goal

pub loop-number-preserved : goal.loop-number-preserved
loop-number-preserved c =
    let none : EndPair = record { first = record { log = 0; connection = 0 }; second = record { log = 0; connection = 0 } } in
    numbers_more c.args.pairs.now c.args.place c.loop-number.number (get_or c.args.pairs.now c.loop-number.number none) c.loop-number.table c.put_end.new.table c.put_end-in-loop-number.new.table (slice_get-get_or c.args.pairs.now c.loop-number.number none c.loop-number-test.true) c.loop-number.invariant c.in_ok-put_end.ensures c.in_ok-put_end-2.ensures
