use Rattle.std.proofs.Common.{◌-◌, List, refl, sym, subst}
use Rattle.std.specs.Prelude.{length}
use Rattle.vat_log.specs.Log.{Log}
use Rattle.vat_log.specs.Passages.{sends, receives}
use Rattle.turn_taking.specs.Turns.{AreAll, order_of}
use Rattle.call_order.specs.Fault.{IsFaultBy}
use Rattle.lock_step.specs.Taking.{Taken, count_turns, passes_delivery, turned}
use Rattle.audit_core.specs.Lines.{IsLineOf}
use Rattle.case_report.specs.declared.report.Report.{Report}
use Rattle.stream_audit.specs.Glue.{IsTakenSo, IsYesBy, IsYesOf}
use Rattle.stream_audit.proofs.Answering as answer
use Rattle.stream_audit.proofs.Firsts.{ok_more, some_so}
use Rattle.stream_audit.proofs.checking.line_of.Goals as goal

pub returns-in-Some : goal.returns-in-Some
returns-in-Some c = λ lanes logs given taken is so same moved case tied.
    answer.bad_log lanes logs c.args.case.now given c.args.found taken so same moved case tied c.logs.result.now c.logs.ensures.lent c.in-Some.ensures.within c.in-Some.line c.in-Some.ensures.line

pub returns-in-Some-2 : goal.returns-in-Some-2
returns-in-Some-2 c = λ lanes logs given taken is so same moved case tied.
    let first = answer.first_told_broken taken.all c.in_ok-line.field-0 c.args.case.now.links c.links.result.now c.in-Some-2.line c.links.ensures.lent c.in-Some-2.is (c.in_ok-line.ensures taken is) in
    answer.bad_link lanes logs c.args.case.now given c.args.found taken so same moved case tied c.logs.result.now c.logs.ensures.lent c.in_default.ensures.within c.in-Some-2.line c.in_default.ensures.line first

pub returns-in-Fails : goal.returns-in-Fails
returns-in-Fails c = λ lanes logs given taken is so same moved case tied.
    let good = answer.links_told_good taken.all c.in_ok-line.field-0 c.args.case.now.links c.links.result.now c.links.ensures.lent c.in_default-2.is (c.in_ok-line.ensures taken is) in
    let fails = answer.failing lanes logs c.args.case.now (turned taken) same moved case given c.in-Fails.step (subst (IsTakenSo lanes (turned taken) given) c.in-Fails.is so) in
    answer.fails_line lanes logs c.args.case.now given c.args.found taken so same moved case tied c.logs.result.now c.logs.ensures.lent c.in_default.ensures.within c.in_default.ensures.line good
    (count_turns passes_delivery taken.all) (count_turns sends taken.all - count_turns receives taken.all) refl refl c.in-Fails.step fails.0 fails.1 fails.2

pub returns-in-NoOrder : goal.returns-in-NoOrder
returns-in-NoOrder c = λ lanes logs given taken is so same moved case tied.
    let good = answer.links_told_good taken.all c.in_ok-line.field-0 c.args.case.now.links c.links.result.now c.links.ensures.lent c.in_default-2.is (c.in_ok-line.ensures taken is) in
    let none = answer.none_fits lanes logs c.args.case.now (turned taken) same moved case given (subst (IsTakenSo lanes (turned taken) given) c.in-NoOrder.is so) in
    answer.no_order_line lanes logs c.args.case.now given c.args.found taken so same moved case tied c.logs.result.now c.logs.ensures.lent c.in_default.ensures.within c.in_default.ensures.line good
    (count_turns passes_delivery taken.all) (count_turns sends taken.all - count_turns receives taken.all) refl refl none.0 none.1

pub returns-in-Some-fault : goal.returns-in-Some-fault
returns-in-Some-fault c = λ lanes logs given taken is so same moved case tied.
    let good = answer.links_told_good taken.all c.in_ok-line.field-0 c.args.case.now.links c.links.result.now c.links.ensures.lent c.in_default-2.is (c.in_ok-line.ensures taken is) in
    let fits = subst (IsTakenSo lanes (turned taken) given) c.in-Fits.is so in
    let all = answer.all_in_order lanes logs c.args.case.now (turned taken) same moved case given fits in
    let by_fault = some_so (λ (t : Taken). (ls : List Log) → AreAll ls t.in_order → IsFaultBy ls (order_of t.in_order) c.fault.result) c.args.turns.now taken is c.fault.ensures c.args.case.now.logs all in
    answer.early_line lanes logs c.args.case.now given c.args.found taken so same moved case tied c.logs.result.now c.logs.ensures.lent c.in_default.ensures.within c.in_default.ensures.line good
    (count_turns passes_delivery taken.all) (count_turns sends taken.all - count_turns receives taken.all) refl refl c.fault.result (answer.fitting lanes logs c.args.case.now (turned taken) same moved case c.orders_have_one_fault.ensures given c.fault.result fits by_fault)
    c.in-Some-fault.vat c.in-Some-fault.at c.in-Some-fault.is

pub returns-in-None : goal.returns-in-None
returns-in-None c = λ lanes logs given taken is so same moved case tied.
    let held = c.args.case.now in
    let good = answer.links_told_good taken.all c.in_ok-line.field-0 c.args.case.now.links c.links.result.now c.links.ensures.lent c.in_default-2.is (c.in_ok-line.ensures taken is) in
    let fits = subst (IsTakenSo lanes (turned taken) given) c.in-Fits.is so in
    let all = answer.all_in_order lanes logs c.args.case.now (turned taken) same moved case given fits in
    let by_fault = some_so (λ (t : Taken). (ls : List Log) → AreAll ls t.in_order → IsFaultBy ls (order_of t.in_order) c.fault.result) c.args.turns.now taken is c.fault.ensures c.args.case.now.logs all in
    let fit = answer.fitting lanes logs c.args.case.now (turned taken) same moved case c.orders_have_one_fault.ensures given c.fault.result fits by_fault in
    ok_more (IsYesBy held c.args.turns.now) (IsLineOf held given) c.yes.result
    (λ (report : Report) yes. (
    let y = some_so (λ (t : Taken). IsYesOf held t report) c.args.turns.now taken is yes in
    subst (IsLineOf held given) (sym y.line)
    (answer.yes_line lanes logs held given c.args.found taken so same moved case tied c.logs.result.now c.logs.ensures.lent c.in_default.ensures.within c.in_default.ensures.line good y.delivered y.under_way y.delivered_are y.under_way_are
    c.fault.result fit c.in-None.is (length held.logs) y.records refl y.records_are y.few)
    ))
    c.yes.ensures
