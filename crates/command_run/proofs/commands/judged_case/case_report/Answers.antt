use Rattle.command_run.proofs.Judged.{accepted, only_memory, tied}
use Rattle.command_run.proofs.commands.judged_case.case_report.Goals as goal

pub fault_of-requires : goal.fault_of-requires
fault_of-requires g c =
    let came = c.in_ok-case.field-0 in
    only_memory came.case c.args.workers c.in-Err.error
    (accepted came.case c.args.workers c.requires.some c.requires.few (tied g.S.Source.read_gives c.args.source.now c.read_case.new.source c.args.name.now came c.in_ok-case.ensures))
    c.in-Err.ensures.err
