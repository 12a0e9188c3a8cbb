use Rattle.std.specs.Prelude.{string_bytes}
use Rattle.command_run.proofs.Drawn.{drawing_of}
use Rattle.command_run.proofs.commands.draw_case.picture_bytes.Goals as goal

pub returns : goal.returns
returns c =
    drawing_of c.args.findings.now.case c.case.result.now c.args.order.now c.args.report.now c.args.asked c.in_ok-run.run' c.steps.result.now c.in_ok-picture.picture
    c.in_ok-from_string.field-0 (string_bytes c.in_ok-text_of.field-0) c.in_ok-run.ensures c.steps.ensures c.case.ensures.lent c.in_ok-picture.ensures c.in_ok-from_string.ensures c.in_ok-text_of.ensures
