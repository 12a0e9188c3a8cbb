use Rattle.std.proofs.Common.{List, Option, [], false, refl, sym, ap, subst, ◌∙◌}
use Rattle.std.proofs.lemmas.Result.{err_from_is_err_and}
use Rattle.log_lane.specs.Lanes.{ReadAhead}
use Rattle.turn_taking.specs.Pass.{logs_of as case_logs}
use Rattle.lock_step.specs.Taking.{Taken, turned}
use Rattle.log_lane.specs.Slim.{logs_audited}
use Rattle.stream_audit.specs.Glue.{so_far}
use Rattle.stream_audit.specs.Streamed.{AreReadOn, IsRefusalOf}
use Rattle.stream_audit.specs.declared.error.StreamError.TheVariants.{OutOfMemory}
use Rattle.stream_audit.proofs.Fresh.{begun}
use Rattle.stream_audit.proofs.Streaming.{err_of, line_of_streams}
use Rattle.stream_audit.proofs.checking.check_by_turns.Goals as goal

pub returns-in_err-take_logs-clause-err : goal.returns-in_err-take_logs-clause-err
returns-in_err-take_logs-clause-err g c =
    let p = err_from_is_err_and c.from_residual-in_err-take_logs.result c.from_residual-in_err-take_logs.ensures.1 in
    err_of (IsRefusalOf c.take_logs.new.lanes c.args.links.items c.args.workers) c.from_residual-in_err-take_logs.result c.in_err-take_logs.field-0.0 p.0 p.1 p.2
    (c.in_err-take_logs.ensures.err c.args.links.items c.args.workers)

pub returns-in_err-tied_case-clause-err : goal.returns-in_err-tied_case-clause-err
returns-in_err-tied_case-clause-err g c =
    let p = err_from_is_err_and c.from_residual-in_err-tied_case.result c.from_residual-in_err-tied_case.ensures.1 in
    err_of (IsRefusalOf c.take_logs.new.lanes c.args.links.items c.args.workers) c.from_residual-in_err-tied_case.result c.in_err-tied_case.field-0.0 p.0 p.1 p.2
    (c.in_err-tied_case.ensures.err c.take_logs.new.lanes c.args.workers c.in_ok-take_logs.ensures.ok.whole)

pub returns-in_err-take_logs-2-clause-err : goal.returns-in_err-take_logs-2-clause-err
returns-in_err-take_logs-2-clause-err g c =
    let p = err_from_is_err_and c.from_residual-in_err-take_logs-2.result c.from_residual-in_err-take_logs-2.ensures.1 in
    err_of (IsRefusalOf c.take_logs-2.new.lanes c.args.links.items c.args.workers) c.from_residual-in_err-take_logs-2.result c.in_err-take_logs-2.field-0.0 p.0 p.1 p.2
    (c.in_err-take_logs-2.ensures.err c.args.links.items c.args.workers)

pub returns-in_err-case-clause-err : goal.returns-in_err-case-clause-err
returns-in_err-case-clause-err g c =
    let p = err_from_is_err_and c.from_residual-in_err-case.result c.from_residual-in_err-case.ensures.1 in
    err_of (IsRefusalOf c.take_logs-2.new.lanes c.args.links.items c.args.workers) c.from_residual-in_err-case.result c.in_err-case.field-0.0 p.0 p.1 p.2
    (c.in_err-case.ensures.err c.take_logs-2.new.lanes c.args.workers c.in_ok-take_logs-2.ensures.ok.whole)

pub returns-in_err-line_of-clause-err : goal.returns-in_err-line_of-clause-err
returns-in_err-line_of-clause-err g c =
    let p = err_from_is_err_and c.from_residual-in_err-line_of.result c.from_residual-in_err-line_of.ensures.1 in
    err_of (IsRefusalOf c.take_logs-2.new.lanes c.args.links.items c.args.workers) c.from_residual-in_err-line_of.result OutOfMemory p.0 p.1 p.2 tt

pub returns-clause-lanes : goal.returns-clause-lanes
returns-clause-lanes g c =
    let begins : Taken = record { links = c.args.links.items; in_order = []; all = []; is_stuck = false } in
    let apart = c.are_apart.ensures c.if-not-are_apart.false in
    let step = c.in_ok-found.ensures begins c.requires.begun refl refl (begun c.args.lanes.now (turned begins) c.requires.fresh apart refl refl) in
    subst (AreReadOn c.args.lanes.now) (sym c.in_ok-take_logs-2.ensures.lanes) step.3

pub returns-clause-line : goal.returns-clause-line
returns-clause-line g c =
    let begins : Taken = record { links = c.args.links.items; in_order = []; all = []; is_stuck = false } in
    let apart = c.are_apart.ensures c.if-not-are_apart.false in
    let step = c.in_ok-found.ensures begins c.requires.begun refl refl (begun c.args.lanes.now (turned begins) c.requires.fresh apart refl refl) in
    let found = c.in_ok-take_logs-2.ensures.ok in
    let made = c.in_ok-case.ensures.ok in
    let logs = logs_audited c.in_ok-take_logs-2.field-0.items in
    let same = found.same ∙ ap (λ (ls : List (Option ReadAhead)). case_logs (so_far ls)) c.in_ok-take_logs-2.ensures.lanes in
    line_of_streams c.take_logs-2.new.lanes c.args.links.items c.args.order.now c.in_ok-case.case c.in_ok-take_logs-2.field-0.items c.in_ok-line_of.field-0 found made.0 made.1 made.2 made.3
    (c.in_ok-line_of.ensures (so_far c.read_in_turns.new.lanes) logs c.args.order.now step.0 step.1 step.2 same made.1.just_logs made.2 made.3)
