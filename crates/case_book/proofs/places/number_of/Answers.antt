use Rattle.std.proofs.Common.{length, map, sym, ap, ◌∙◌, Global}
use Rattle.std.specs.Arc.{arc_value}
use Rattle.std.proofs.lemmas.List.{length-map}
use Rattle.vat_log.specs.declared.log.VatLog.{VatLog}
use Rattle.case_book.proofs.Numbered.{vat_answer, link_none, link_some}
use Rattle.case_book.proofs.places.number_of.Goals as goal

pub returns-in-Vat : goal.returns-in-Vat
returns-in-Vat c =
    vat_answer c.args.case.now c.in-Vat.audited c.args.found.now (map (arc_value {X = VatLog} {Z = Global}) c.logs-logs.result.now) c.audited_place.result
    c.in-Vat.is c.logs-logs.ensures.lent c.audited_place.ensures

pub returns-in-Some : goal.returns-in-Some
returns-in-Some c =
    link_some c.args.case.now c.in-Link.compared c.args.found.now (map (arc_value {X = VatLog} {Z = Global}) c.logs-logs.result.now) c.links.result.now
    c.in-Link.is c.logs-logs.ensures.lent c.links.ensures.lent (length c.logs-logs.result.now) c.in-Some.place
    (sym (length-map c.logs-logs.result.now (arc_value {X = VatLog} {Z = Global})) ∙ ap length c.logs-logs.ensures.lent) c.in-Some.ensures

pub returns-in-None : goal.returns-in-None
returns-in-None c =
    link_none c.args.case.now c.in-Link.compared c.args.found.now (map (arc_value {X = VatLog} {Z = Global}) c.logs-logs.result.now) c.links.result.now
    c.in-Link.is c.logs-logs.ensures.lent c.links.ensures.lent c.in-None.ensures
