use Rattle.std.proofs.Common.{drop}
use Rattle.std.specs.Prelude.{◌↔◌}
use Rattle.std.specs.List.{AllByRecursion}
use Rattle.vat_rules.specs.OfResults.{ReturnsField}
use Rattle.vat_rules.proofs.rules.of_results.returns_each.Given as goal

abbrev pub invariant-loop-path : goal.invariant-loop-path
invariant-loop-path l =
    AllByRecursion (ReturnsField l.edition l.state l.event l.call) l.fields ↔ AllByRecursion (ReturnsField l.edition l.state l.event l.call) (drop l.path-index l.fields)
