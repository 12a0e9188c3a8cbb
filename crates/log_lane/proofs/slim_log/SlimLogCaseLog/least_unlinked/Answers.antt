use Rattle.std.proofs.Common.{fold, sym, ap, ◌∙◌}
use Rattle.std.specs.Prelude.{filter}
use Rattle.std.specs.List.{filter_map}
use Rattle.vat_log.specs.Passages.{used_by}
use Rattle.case_book.specs.Least.{lower}
use Rattle.case_book.specs.Ties.{is_unlinked}
use Rattle.log_lane.proofs.Members.{lowest_passing}
use Rattle.log_lane.proofs.slim_log.SlimLogCaseLog.least_unlinked.Goals as goal

pub returns : goal.returns
returns c =
    let links = c.args.links.now in
    let log = c.args.self.now.log in
    c.least_unlinked_of.ensures
    ∙ ap (λ vat. fold lower c.args.found (filter (is_unlinked links vat) c.connections.result.now.keys)) c.vat.ensures
    ∙ sym (lowest_passing (is_unlinked links log.vat) c.args.found (filter_map used_by log.records) c.connections.result.now.keys c.connections.ensures)
