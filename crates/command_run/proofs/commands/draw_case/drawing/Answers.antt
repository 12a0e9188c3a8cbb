use Rattle.std.proofs.Common.{◌≡◌, ◌∙◌, ℕ, List, sym, ap, subst, refl, arith}
use Rattle.case_book.specs.Case.{Contents}
use Rattle.audit_core.specs.Report.{IsReport}
use Rattle.picture.specs.Picture.{arranged}
use Rattle.command_run.specs.DrawAnswers.{IsDrawing}
use Rattle.command_run.proofs.Judged.{accepted, only_memory, tied}
use Rattle.command_run.proofs.commands.draw_case.drawing.Goals as goal

pub picture_bytes-requires : goal.picture_bytes-requires
picture_bytes-requires g c = (c.in_ok-case.field-0.order, subst (λ (h : Contents). IsReport h c.in_ok-case.field-0.order c.in-Ok.report) (sym c.in-Ok.ensures.findings) c.in-Ok.ensures.report)

pub fault_of-requires : goal.fault_of-requires
fault_of-requires g c =
    let came = c.in_ok-case.field-0 in
    only_memory came.case c.args.workers c.in-Err.error (accepted came.case c.args.workers c.requires.some c.requires.few (tied g.S.Source.read_gives c.args.source.now c.read_case.new.source c.args.name.now came c.in_ok-case.ensures))
    c.in-Err.ensures.err

pub returns-in-Ok : goal.returns-in-Ok
returns-in-Ok g c =
    let came = c.in_ok-case.field-0 in
    let report = c.in-Ok.report in
    let order = arranged came.case came.order in
    let is : c.deref.result.now ≡ order = c.deref.ensures.value ∙ c.in_ok-arranged.ensures ∙ ap (arranged came.case) c.as_ref.ensures.value in
    let lent : IsDrawing came.case c.deref.result.now report c.args.asked c.in_ok-picture-in-Ok.picture =
    subst (λ (h : Contents). IsDrawing h c.deref.result.now report c.args.asked c.in_ok-picture-in-Ok.picture) c.in-Ok.ensures.findings c.in_ok-picture-in-Ok.ensures in
    let picture : IsDrawing came.case order report c.args.asked c.in_ok-picture-in-Ok.picture =
    subst (λ (o : List ℕ). IsDrawing came.case o report c.args.asked c.in_ok-picture-in-Ok.picture) is lent in
    (came, (report, (c.in_ok-case.ensures, c.in-Ok.ensures.report, refl, picture)))
