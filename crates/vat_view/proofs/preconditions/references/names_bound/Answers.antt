use Rattle.std.proofs.Common.{sym, ◌∙◌, ap}
use Rattle.std.specs.List.{list_all}
use Rattle.std.proofs.lemmas.List.Folds.{list_all-map}
use Rattle.decoded_records.specs.Bindings.{is_bound, named_references}
use Rattle.vat_view.proofs.preconditions.references.names_bound.Goals as goal

pub returns-in-Answer : goal.returns-in-Answer
returns-in-Answer c =
    c.gives_bound.ensures ∙ sym (list_all-map (is_bound c.args.state.now) (λ answer. answer.0) c.in-Answer.results)
    ∙ ap (λ e. list_all (is_bound c.args.state.now) (named_references e)) (sym c.in-Answer.is)
