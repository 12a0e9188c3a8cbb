use Rattle.std.proofs.Common.{◌≡◌, Bool, Global, List, map, sym, ap, subst, ◌∙◌}
use lib.Pointwise.{pointwise}
use Rattle.std.specs.Arc.{arc_value}
use Rattle.vat_log.specs.declared.log.VatLog.{VatLog}
use Rattle.std.specs.Prelude.{Decides}
use Rattle.case_book.specs.Case.{Contents}
use Rattle.case_book.specs.declared.link.Link.{Link}
use Rattle.case_book.proofs.Alike.{alike, link_eq, links_decide}
use Rattle.case_book.proofs.case.Case.is_same.Goals as goal

pub returns-then-are_same_logs : goal.returns-then-are_same_logs
returns-then-are_same_logs c =
    let value = arc_value {X = VatLog} {Z = Global} in
    let logs : c.args.self.now.logs ≡ c.args.other.now.logs =
    ap (λ (held : Contents). held.logs) (sym c.self.view_is) ∙ ap (map value) (sym c.deref.ensures.value) ∙ c.are_same_logs.ensures.0 c.if-are_same_logs.true ∙ c.logs.ensures.lent in
    let first : c.as_slice.result.now ≡ c.args.self.now.links = c.as_slice.ensures.value ∙ ap (λ (held : Contents). held.links) c.self.view_is in
    let links : Decides c.eq.result (c.args.self.now.links ≡ c.args.other.now.links) =
    subst (λ (b : Bool). Decides b (c.args.self.now.links ≡ c.args.other.now.links)) (sym c.eq.ensures)
    (subst (λ (xs : List Link). Decides (pointwise link_eq c.as_slice.result.now c.links.result.now) (xs ≡ c.args.other.now.links)) first
    (subst (λ (ys : List Link). Decides (pointwise link_eq c.as_slice.result.now c.links.result.now) (c.as_slice.result.now ≡ ys)) c.links.ensures.lent
    (links_decide c.as_slice.result.now c.links.result.now))) in
    alike c.args.self.now c.args.other.now c.eq.result logs links
