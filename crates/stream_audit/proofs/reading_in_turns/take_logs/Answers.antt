use Rattle.std.proofs.Common.{◌+◌, ◌<◌, arith, length, List, Option, take, sym, subst, ◌∙◌}
use Rattle.std.specs.Prelude.{slice_set}
use Rattle.vat_log.specs.declared.read_fault.ReadFault.{ReadFault}
use Rattle.log_lane.specs.Lanes.{ReadAhead}
use Rattle.stream_audit.specs.Glue.{AreFoundIn}
use Rattle.stream_audit.specs.Streamed.{IsFirstFault}
use Rattle.stream_audit.proofs.Fresh.{first_fault, found_all, found_more, set_same}
use Rattle.stream_audit.proofs.reading_in_turns.take_logs.Goals as goal

pub returns-in-Err-Some-clause-err : goal.returns-in-Err-Some-clause-err
returns-in-Err-Some-clause-err g c = λ links workers.
    let lanes = c.loop-place.lanes in
    let place = c.loop-place.place in
    let same = set_same lanes place c.take_log.new.self c.index-lanes-place.result c.in-Err-Some.ensures.lane in
    let long = c.loop-place.auto.lanes in
    let lt : place < length lanes = (let inside = c.loop-place-test.true in omega (arith, long, inside)) in
    subst (λ (f : ReadFault). IsFirstFault (slice_set lanes place c.take_log.new.self) place f) (sym c.in-Err-Some.fault-is)
    (subst (λ (ls : List (Option ReadAhead)). IsFirstFault ls place c.in-Err-Some.fault) (sym same)
    (first_fault lanes place c.index-lanes-place.result c.loop-place.logs.items c.in-Err-Some.fault lt c.loop-place.invariant.1 (rw c.in-Err-Some.field-0-is at c.in-Err-Some.ensures.fault)))

pub loop-place-preserved : goal.loop-place-preserved
loop-place-preserved g c =
    let lanes = c.loop-place.lanes in
    let place = c.loop-place.place in
    let same = set_same lanes place c.take_log.new.self c.index-lanes-place.result c.in-Ok.ensures.lane in
    let long = c.loop-place.auto.lanes in
    let lt : place < length lanes = (let inside = c.loop-place-test.true in omega (arith, long, inside)) in (
      same ∙ c.loop-place.invariant.0,
      subst (λ (ls : List (Option ReadAhead)). AreFoundIn (take (place + 1) ls) c.push.new.self.items) (sym same)
          (found_more lanes place c.index-lanes-place.result c.loop-place.logs.items c.push.new.self.items c.in-Ok.log lt c.in_ok-push-in-Ok.ensures.items c.loop-place.invariant.1 c.in-Ok.ensures.whole),
    )

pub returns-clause-ok : goal.returns-clause-ok
returns-clause-ok g c =
    let long = c.loop-place.auto.lanes in
    let over = c.loop-place-test.false in
    found_all c.loop-place.lanes c.loop-place.place c.loop-place.logs.items (omega (arith, long, over)) c.loop-place.invariant.1
