use Rattle.std.proofs.Common.{◌≡◌, ◌+◌, ◌<◌, length, arith}
use Rattle.std.proofs.lemmas.Bool.Decides.{nat_tests}
use Rattle.rising_table.specs.Glue.{key_at}
use Rattle.rising_table.proofs.Finding.{key_of, gap_behind, greater_more}
use Rattle.rising_table.proofs.table.near_the_end.Goals as goal

pub returns-then-number-key-2 : goal.returns-then-number-key-2
returns-then-number-key-2 g c =
    let within : c.in_ok-place.place < length c.args.row.now = grind (arith, nat_tests, c.in_ok-number.ensures.lookup) in
    let place : c.in_ok-place.place + c.loop-back.back ≡ length c.args.row.now = grind (arith, nat_tests, c.in_ok-place.ensures) in
    let is : key_at c.args.row.now c.in_ok-place.place ≡ c.in_ok-number.field-0.now.0 = grind (arith, nat_tests, key_of c.args.row.now c.in_ok-place.place c.in_ok-number.field-0.now within, c.in_ok-number.ensures.lookup) in (
      tt,
      gap_behind c.args.row.now c.requires c.args.key c.in_ok-place.place c.in_ok-number.field-0.now.0 within is c.if-number-key-2.true (λ j above lt. c.loop-back.invariant j (omega (arith, above, place)) lt),
    )

pub loop-back-preserved : goal.loop-back-preserved
loop-back-preserved g c =
    let within : c.in_ok-place.place < length c.args.row.now = grind (arith, nat_tests, c.in_ok-number.ensures.lookup) in
    let place : c.in_ok-place.place + c.loop-back.back ≡ length c.args.row.now = grind (arith, nat_tests, c.in_ok-place.ensures) in
    let is : key_at c.args.row.now c.in_ok-place.place ≡ c.in_ok-number.field-0.now.0 = grind (arith, nat_tests, key_of c.args.row.now c.in_ok-place.place c.in_ok-number.field-0.now within, c.in_ok-number.ensures.lookup) in
    let less : c.args.key < c.in_ok-number.field-0.now.0 = grind (arith, c.if-number-key.false, c.if-number-key-2.false) in
    greater_more c.args.row.now c.args.key c.in_ok-place.place c.in_ok-number.field-0.now.0 c.loop-back.back place is less c.loop-back.invariant
