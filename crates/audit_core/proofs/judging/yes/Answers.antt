use Rattle.std.proofs.Common.{List, sym, ap, ◌∙◌, subst, arith}
use Rattle.std.specs.Prelude.{◌≤◌, length, sum_by}
use Rattle.std.specs.Arc.{arc_value}
use Rattle.std.proofs.lemmas.List.{length-map}
use Rattle.vat_log.specs.Log.{Log}
use Rattle.case_book.specs.Case.{Contents}
use Rattle.vat_rules.specs.Audit.{Found}
use Rattle.link_check.specs.Prefix.{Ends}
use Rattle.call_trace.specs.Findings.{logs_of}
use Rattle.audit_core.specs.Report.{count_all, records_delivery, records_in, HoldsOfEach, IsGoodFinding, AreGoodEnds}
use Rattle.audit_core.specs.Glue.{case_record_limit, under_way_on}
use Rattle.audit_core.proofs.UnderWay.{few_under_way, under_way_is}
use Rattle.audit_core.proofs.Whole.{logs_are}
use Rattle.audit_core.proofs.Explaining.{same_yes}
use Rattle.audit_core.proofs.judging.yes.Goals as goal

pub count_delivered-requires-clause-good : goal.count_delivered-requires-clause-good
count_delivered-requires-clause-good c = subst (λ (vats : List Found). HoldsOfEach IsGoodFinding vats) (sym c.vats.ensures.lent) c.requires.good.vats_good

pub count_delivered-requires-clause-few : goal.count_delivered-requires-clause-few
count_delivered-requires-clause-few c =
    let same = ap (λ (vats : List Found). records_in (logs_of vats)) c.vats.ensures.lent ∙ ap records_in (logs_are c.args.findings.now c.requires.good.whole) in
    omega (arith, same, c.requires.all, c.requires.few)

pub count_under_way-requires-clause-good : goal.count_under_way-requires-clause-good
count_under_way-requires-clause-good c = subst (λ (links : List Ends). HoldsOfEach AreGoodEnds links) (sym c.links.ensures.lent) c.requires.good.links_good

pub count_under_way-requires-clause-few : goal.count_under_way-requires-clause-few
count_under_way-requires-clause-few c =
    subst (λ (links : List Ends). sum_by under_way_on links ≤ case_record_limit) (sym c.links.ensures.lent) (few_under_way c.args.findings.now c.requires.good c.args.records c.requires.all c.requires.few)

pub returns : goal.returns
returns c =
    let all = c.args.findings.now in
    let vats = sym (length-map c.logs.result.now arc_value) ∙ ap (λ (logs : List Log). length logs) c.logs.ensures.lent ∙ ap (λ (held : Contents). length held.logs) c.case.ensures.lent in
    let delivered = c.count_delivered.ensures ∙ ap (λ (vats : List Found). count_all records_delivery (logs_of vats)) c.vats.ensures.lent ∙ ap (count_all records_delivery) (logs_are all c.requires.good.whole) in
    let under_way = c.count_under_way.ensures ∙ ap (λ (links : List Ends). sum_by under_way_on links) c.links.ensures.lent ∙ under_way_is all c.requires.good in
    same_yes vats c.requires.all delivered under_way c.args.run
