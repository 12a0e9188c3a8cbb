use Rattle.std.proofs.Common.{Some, arith}
use Rattle.std.proofs.lemmas.Option.{slice_get_within}
use Rattle.stream_audit.proofs.Fresh.{others_go_on}
use Rattle.stream_audit.proofs.reading_in_turns.is_of_others.Goals as goal

pub loop-place-preserved : goal.loop-place-preserved
loop-place-preserved g c =
    others_go_on c.args.lanes.now c.args.from c.loop-place.place c.vat.result c.args.vat c.index-lanes-place.result c.loop-place.invariant c.index-lanes-place.is c.vat.ensures c.if-vat.false

pub returns : goal.returns
returns g c = λ none i lane above stands.
    let within = slice_get_within c.args.lanes.now i (Some lane) stands in
    let over = c.loop-place-test.false in
    c.loop-place.invariant i lane above (omega (arith, within, over)) stands
