use Rattle.std.proofs.Common.{◌<◌, arith}
use Rattle.std.proofs.lemmas.Bool.Decides.{nat_tests}
use Rattle.rising_table.proofs.Finding.{below_first}
use Rattle.rising_table.proofs.table.is_below.Goals as goal

pub returns-in-Some : goal.returns-in-Some
returns-in-Some g c h =
    let less : c.args.key < c.in-Some.field-0.now.0 = grind (arith, nat_tests, h) in
    below_first c.args.row.now c.requires c.args.key c.in-Some.field-0.now c.in-Some.ensures.value less
