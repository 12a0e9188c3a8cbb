use Rattle.std.proofs.Common.{fold, ap, sym, ◌∙◌}
use Rattle.std.specs.Prelude.{not}
use Rattle.case_book.specs.Least.{lower}
use Rattle.case_book.specs.Ties.{is_unlinked, unlinked_in}
use Rattle.vat_log.specs.Passages.{used_by}
use Rattle.case_book.proofs.Rest.{nothing, passing, failing}
use Rattle.case_book.proofs.case_log.least_unlinked_in.Goals as goal
use Rattle.case_book.proofs.case_log.least_unlinked_in.Goals.{in-Some+then-not-has_link, in-Some+else-not-has_link, in_default}

pub loop-index-preserved : goal.loop-index-preserved
loop-index-preserved c =
    let q = is_unlinked c.args.links.now c.args.log.now.vat in
    let xs = c.args.log.now.records in
    let total = fold lower c.args.found (unlinked_in c.args.links.now c.args.log.now) in
    elim c.match-used_at.branch [
      | in-Some+then-not-has_link w ↦ passing q used_by xs c.loop-index.index total c.loop-index.found c.used_at.result _ w.in-Some.connection c.loop-index.invariant c.used_at.ensures w.in-Some.is (ap (λ vat. is_unlinked c.args.links.now vat w.in-Some.connection) (sym w.vat.ensures) ∙ ap not (sym w.has_link.ensures ∙ w.if-not-has_link.true)) (w.found-is ∙ w.lower_of-found.ensures)
      | in-Some+else-not-has_link w ↦ failing q used_by xs c.loop-index.index total c.loop-index.found c.used_at.result _ w.in-Some.connection c.loop-index.invariant c.used_at.ensures w.in-Some.is (ap (λ vat. is_unlinked c.args.links.now vat w.in-Some.connection) (sym w.vat.ensures) ∙ ap not (sym w.has_link.ensures ∙ w.if-not-has_link.false)) w.found-is
      | in_default w ↦ nothing q used_by xs c.loop-index.index total c.loop-index.found c.used_at.result _ c.loop-index.invariant c.used_at.ensures w.in_default.not-Some w.found-is
    ]
