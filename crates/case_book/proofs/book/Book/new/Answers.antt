use Rattle.std.proofs.Common.{◌≡◌, ◌+◌, length, ap, subst, sym, ◌∙◌, arith, Global}
use Rattle.std.specs.Arc.{arc_value}
use Rattle.std.proofs.lemmas.List.{length-map}
use Rattle.vat_log.specs.declared.log.VatLog.{VatLog}
use Rattle.case_book.specs.Case.{IsCase}
use Rattle.case_book.proofs.Booking.{empty_is_book, none_of}
use Rattle.case_book.proofs.book.Book.new.Goals as goal

pub invariant_of-result : goal.invariant_of-result
invariant_of-result c =
    let logs : length c.logs-2.result.now ≡ length c.args.case.logs =
    sym (length-map c.logs-2.result.now (arc_value {X = VatLog} {Z = Global})) ∙ ap length c.logs-2.ensures.lent in
    let first_logs : length c.logs.result.now ≡ length c.args.case.logs =
    sym (length-map c.logs.result.now (arc_value {X = VatLog} {Z = Global})) ∙ ap length c.logs.ensures.lent in
    let links : length c.links-2.result.now ≡ length c.args.case.links = ap length c.links-2.ensures.lent in
    let first_links : length c.links.result.now ≡ length c.args.case.links = ap length c.links.ensures.lent in
    let pieces : length c.logs-2.result.now + length c.links-2.result.now ≡ length c.args.case.logs + length c.args.case.links = omega (arith, logs, links) in (
      empty_is_book c.args.case c.in_ok-claimed.claimed.items c.in_ok-claimed.found.items (length c.logs-2.result.now + length c.links-2.result.now)
          (subst IsCase c.case.view_is c.case.invariant) c.requires pieces c.in_ok-claimed.ensures.claimed c.in_ok-claimed.ensures.found,
      none_of c.in_ok-claimed.found.items (length c.logs-2.result.now + length c.links-2.result.now) c.in_ok-claimed.ensures.found,
      c.in_ok-vats.ensures.items,
      c.in_ok-vats.ensures.exact ∙ first_logs,
      c.in_ok-links.ensures.items,
      c.in_ok-links.ensures.exact ∙ first_links,
    )
