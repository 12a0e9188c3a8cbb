use Rattle.std.proofs.Common.{◌≡◌, [], map, rules, string_bytes}
use Rattle.std.proofs.lemmas.Result.{err_from_is_err_and}
use Rattle.std.specs.Arc.{arc_value}
use Rattle.case_files.specs.declared.case_fault.CaseFault.TheVariants.{OutOfMemory}
use Rattle.case_files.proofs.CaseReadings.{all_came, goes_wrong, none_yet, one_more, values_more}
use Rattle.case_files.proofs.case_reading.read_logs.Goals as goal

pub loop-name-init : goal.loop-name-init
loop-name-init g c =
    let none : map arc_value c.new-logs.result.items ≡ [] = search rules in
    none_yet string_bytes g.S.Source.read_gives c.args.source.now c.args.names.now (map arc_value c.new-logs.result.items) none

pub loop-name-preserved : goal.loop-name-preserved
loop-name-preserved g c =
    let comes = rw c.as_str.ensures.value at c.in_ok-log.ensures in
    let more = one_more string_bytes g.S.Source.read_gives c.args.source.now c.loop-name.source c.read_log.new.source c.args.names.now c.loop-name.name-index c.name-item.result
    (map arc_value c.loop-name.logs.items) (arc_value c.in_ok-log.log) c.loop-name-test.true c.name-item.is c.loop-name.invariant comes in
    rw (c.in_ok-push.ensures.items, values_more) more

pub returns : goal.returns
returns g c = all_came string_bytes g.S.Source.read_gives c.args.source.now c.loop-name.source c.args.names.now c.loop-name.name-index (map arc_value c.loop-name.logs.items)
    c.loop-name-test.false c.loop-name.invariant

pub returns-in_err-log : goal.returns-in_err-log
returns-in_err-log g c =
    let p = err_from_is_err_and c.from_residual.result c.from_residual.ensures.1 in
    let comes = rw c.as_str.ensures.value at c.in_err-log.ensures in
    rw (p.1, p.2) (goes_wrong string_bytes g.S.Source.read_gives c.args.source.now c.loop-name.source c.read_log.new.source c.args.names.now c.loop-name.name-index c.name-item.result
    (map arc_value c.loop-name.logs.items) c.in_err-log.field-0.0 c.loop-name-test.true c.name-item.is c.loop-name.invariant comes)

pub returns-in_err-push : goal.returns-in_err-push
returns-in_err-push g c =
    let p = err_from_is_err_and c.from_residual-in_err-push.result c.from_residual-in_err-push.ensures.1 in
    let comes = rw c.as_str.ensures.value at c.in_ok-log.ensures in
    rw (p.1, p.2) (goes_wrong string_bytes g.S.Source.read_gives c.args.source.now c.loop-name.source c.read_log.new.source c.args.names.now c.loop-name.name-index c.name-item.result
    (map arc_value c.loop-name.logs.items) OutOfMemory c.loop-name-test.true c.name-item.is c.loop-name.invariant (comes.0, (comes.1.0, tt)))
