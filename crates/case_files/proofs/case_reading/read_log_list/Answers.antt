use Rattle.std.proofs.lemmas.Result.{err_from_is_err_and}
use Rattle.case_files.specs.declared.case_fault.CaseFault.TheVariants.{OutOfMemory}
use Rattle.case_files.proofs.CaseReadings.{all_came, goes_wrong, one_more}
use Rattle.case_files.proofs.case_reading.read_log_list.Goals as goal

pub loop-name-preserved : goal.loop-name-preserved
loop-name-preserved g c =
    let comes = rw c.as_str.ensures at c.in_ok-read_own_log.ensures in
    let more = one_more g.N.AsStr.text g.S.Source.read_gives c.args.source.now c.loop-name.source c.read_own_log.new.source c.args.names.now c.loop-name.name-index c.name-item.result
    c.loop-name.logs.items c.in_ok-read_own_log.field-0 c.loop-name-test.true c.name-item.is c.loop-name.invariant comes in
    rw c.in_ok-push.ensures.items more

pub returns : goal.returns
returns g c = all_came g.N.AsStr.text g.S.Source.read_gives c.args.source.now c.loop-name.source c.args.names.now c.loop-name.name-index c.loop-name.logs.items
    c.loop-name-test.false c.loop-name.invariant

pub returns-in_err-read_own_log : goal.returns-in_err-read_own_log
returns-in_err-read_own_log g c =
    let p = err_from_is_err_and c.from_residual.result c.from_residual.ensures.1 in
    let comes = rw c.as_str.ensures at c.in_err-read_own_log.ensures in
    rw (p.1, p.2) (goes_wrong g.N.AsStr.text g.S.Source.read_gives c.args.source.now c.loop-name.source c.read_own_log.new.source c.args.names.now c.loop-name.name-index c.name-item.result
    c.loop-name.logs.items c.in_err-read_own_log.field-0.0 c.loop-name-test.true c.name-item.is c.loop-name.invariant comes)

pub returns-in_err-push : goal.returns-in_err-push
returns-in_err-push g c =
    let p = err_from_is_err_and c.from_residual-in_err-push.result c.from_residual-in_err-push.ensures.1 in
    let comes = rw c.as_str.ensures at c.in_ok-read_own_log.ensures in
    rw (p.1, p.2) (goes_wrong g.N.AsStr.text g.S.Source.read_gives c.args.source.now c.loop-name.source c.read_own_log.new.source c.args.names.now c.loop-name.name-index c.name-item.result
    c.loop-name.logs.items OutOfMemory c.loop-name-test.true c.name-item.is c.loop-name.invariant (comes.0, (comes.1.0, tt)))
