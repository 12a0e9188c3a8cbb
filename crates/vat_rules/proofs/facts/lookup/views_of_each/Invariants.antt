use Rattle.std.proofs.Common.{◌≡◌, take, map}
use Rattle.decoded_records.specs.Views.{view_of_reference}
use Rattle.vat_rules.proofs.facts.lookup.views_of_each.Given as goal

abbrev pub invariant-loop-reference : goal.invariant-loop-reference
invariant-loop-reference l = l.views.items ≡ map (view_of_reference l.state) (take l.reference-index l.references)
