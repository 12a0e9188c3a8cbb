use Rattle.std.proofs.Common.{◌≡◌, take, map}
use Rattle.decoded_records.specs.Views.{view_of_reference}
use Rattle.vat_rules.proofs.facts.lookup.views_of_results.Given as goal

abbrev pub invariant-loop-answer : goal.invariant-loop-answer
invariant-loop-answer l = l.views.items ≡ map (view_of_reference l.state) (map (λ answer. answer.0) (take l.answer-index l.results))
