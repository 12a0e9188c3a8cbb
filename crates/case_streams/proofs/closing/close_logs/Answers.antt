use Rattle.std.proofs.Common.{◌≡◌, ◌<◌, ℕ, List, length, map, take, string_bytes, arith, subst}
use Rattle.std.proofs.lemmas.List.{take_all}
use Rattle.std.proofs.lemmas.Result.{err_from_is_err_and}
use Rattle.vat_log.specs.Log.{Log}
use Rattle.case_streams.specs.Glue.{AreClosedUpTo}
use Rattle.case_streams.proofs.Closed.{as_many, item_at, name_at, none_closed, one_closed, one_fails, whole_at, whole_lane}
use Rattle.case_streams.proofs.closing.close_logs.Goals as goal

pub loop-place-init : goal.loop-place-init
loop-place-init g c = (omega arith, λ logs whole. none_closed g.S.Source.read_gives (map string_bytes c.args.names.now) c.args.source.now logs)

pub loop-place-preserved : goal.loop-place-preserved
loop-place-preserved g c =
    let place = c.loop-place.place in
    let lt : place < length c.args.lanes.now = (let long = c.loop-place.auto.place-end in let inside = c.loop-place-test.true in omega (arith, long, inside)) in (
      omega (arith, lt),
      λ logs whole. (
          let w = whole_at c.args.lanes.now logs place c.index-lanes-place.result whole (item_at c.args.lanes.now place c.index-lanes-place.result lt c.index-lanes-place.is) in
          let so = whole_lane c.index-lanes-place.result w.0 (g.S.Reader.Pieces.so_far c.pieces.result.now) w.2 c.pieces.ensures in
          let comes = rw c.as_str.ensures.value at (c.in_ok-close_whole.ensures w.0 so.0 so.1) in
          one_closed g.S.Source.read_gives (map string_bytes c.args.names.now) c.args.source.now c.loop-place.source c.close_whole.new.source place (string_bytes c.index-names-place.result) logs w.0
          (name_at c.args.names.now place c.index-names-place.result (let named = c.requires in omega (arith, lt, named)) c.index-names-place.is) w.1 (c.loop-place.invariant.1 logs whole) comes
          ),
    )

pub returns-in_err-close_whole : goal.returns-in_err-close_whole
returns-in_err-close_whole g c = λ logs whole.
    let p = err_from_is_err_and c.from_residual.result c.from_residual.ensures.1 in
    let place = c.loop-place.place in
    let lt : place < length c.args.lanes.now = (let long = c.loop-place.auto.place-end in let inside = c.loop-place-test.true in omega (arith, long, inside)) in
    let w = whole_at c.args.lanes.now logs place c.index-lanes-place.result whole (item_at c.args.lanes.now place c.index-lanes-place.result lt c.index-lanes-place.is) in
    let so = whole_lane c.index-lanes-place.result w.0 (g.S.Reader.Pieces.so_far c.pieces.result.now) w.2 c.pieces.ensures in
    let comes = rw c.as_str.ensures.value at (c.in_err-close_whole.ensures w.0 so.0 so.1) in
    rw (p.1, p.2) (one_fails g.S.Source.read_gives (map string_bytes c.args.names.now) c.args.source.now c.loop-place.source c.close_whole.new.source place (string_bytes c.index-names-place.result) (take place logs) c.in_err-close_whole.field-0.0
    (name_at c.args.names.now place c.index-names-place.result (let named = c.requires in omega (arith, lt, named)) c.index-names-place.is) (c.loop-place.invariant.1 logs whole) comes)

pub returns : goal.returns
returns g c = λ logs whole.
    let place = c.loop-place.place in
    let same : place ≡ length c.args.lanes.now = (let few = c.loop-place.invariant.0 in let long = c.loop-place.auto.place-end in let over = c.loop-place-test.false in omega (arith, few, long, over)) in
    let many = as_many c.args.lanes.now logs whole in
    subst (λ (n : ℕ). AreClosedUpTo g.S.Source.read_gives (map string_bytes c.args.names.now) n logs c.args.source.now c.loop-place.source) same
    (subst (λ (ls : List Log). AreClosedUpTo g.S.Source.read_gives (map string_bytes c.args.names.now) place ls c.args.source.now c.loop-place.source) (take_all place logs (omega (arith, same, many))) (c.loop-place.invariant.1 logs whole))
