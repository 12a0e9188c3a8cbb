use Rattle.std.proofs.Common.{◌≡◌, ◌<◌, ℕ, length, map, take, string_bytes, arith, subst}
use Rattle.std.proofs.lemmas.List.{length-take-le}
use Rattle.case_streams.specs.Glue.{AreClosedUpTo}
use Rattle.case_streams.proofs.Closed.{fault_of_all, first_fails, item_at, name_at, own_fault}
use Rattle.case_streams.proofs.closing.close_to_fault.Goals as goal

pub returns-in-Ok : goal.returns-in-Ok
returns-in-Ok g c = λ first.
    let so_far = g.S.Reader.Pieces.so_far in
    let place = c.args.place in
    let lanes = c.args.lanes.now in
    let lt : place < length lanes = (let inside = c.if-place-lanes.false in omega (arith, inside)) in
    let long : length (take place lanes) ≡ place = length-take-le place lanes (omega (arith, lt)) in
    let closed = subst (λ (n : ℕ). AreClosedUpTo g.S.Source.read_gives (map string_bytes c.args.names.now) n first.before c.args.source.now c.close_logs.new.source) long (c.in-Ok.ensures first.before first.whole) in
    let own = own_fault lanes place c.index-lanes-place.result c.args.fault first.own (item_at lanes place c.index-lanes-place.result lt c.index-lanes-place.is) in
    let bad = fault_of_all c.args.fault c.index-lanes-place.result (so_far c.pieces.result.now) own c.pieces.ensures in
    let comes = rw c.as_str.ensures.value at (c.close_bad.ensures bad) in
    first_fails g.S.Source.read_gives (map string_bytes c.args.names.now) c.args.source.now c.close_logs.new.source c.close_bad.new.source place (string_bytes c.index-names-place.result) first.before c.close_bad.result
    (name_at c.args.names.now place c.index-names-place.result (let named = c.requires in omega (arith, lt, named)) c.index-names-place.is) closed comes
