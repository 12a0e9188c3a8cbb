use Rattle.std.proofs.Common.{◌≡◌, fold, drop}
use Rattle.std.specs.Prelude.{filter}
use Rattle.std.specs.List.{filter_map}
use Rattle.case_book.specs.Least.{lower}
use Rattle.case_book.specs.Ties.{is_unlinked, unlinked_in}
use Rattle.vat_log.specs.Passages.{used_by}
use Rattle.case_book.proofs.case_log.least_unlinked_in.Given as goal

abbrev pub invariant-loop-index : goal.invariant-loop-index
invariant-loop-index l = fold lower l.initial.found (unlinked_in l.links l.log) ≡ fold lower l.found (filter (is_unlinked l.links l.log.vat) (filter_map used_by (drop l.index l.log.records)))
