use Rattle.std.proofs.Common.{sym, ◌∙◌, ap, ◌==◌, [], ◌∷◌, ◌++◌, map, append_assoc, Some, if◌then◌else◌}
use Rattle.decoded_records.specs.Bindings.{contains}
use Rattle.vat_view.specs.Glue.Tables.{bound_at}
use Rattle.vat_view.proofs.Binding.{bound_more, bound_apart, any_err, then_ahead}
use Rattle.vat_view.proofs.tables.references.BoundReferences.bind_several.Goals as goal

pub loop-reference-preserved : goal.loop-reference-preserved
loop-reference-preserved c = record {
  bound = λ q.
      c.in_ok-bind.ensures.ok q ∙ ap (λ o. if c.in-Some.reference == q then Some c.in-Some.view else o) (c.loop-reference.invariant.bound q)
      ∙ sym (bound_more q c.loop-reference.yielded (c.in-Some.reference, c.in-Some.view) (bound_at c.args.self.now q));
  ahead = then_ahead c.args.self.now c.loop-reference.self c.bind.new.self c.loop-reference.invariant.ahead c.bind.ensures.ahead;
  split = c.loop-reference.invariant.split ∙ ap (λ xs. c.loop-reference.yielded ++ xs) c.in-Some.ensures.steps.0
      ∙ sym (append_assoc c.loop-reference.yielded ((c.in-Some.reference, c.in-Some.view) ∷ []) c.next.new.self.rest.items);
}

pub returns-in_err-bind-clause-err : goal.returns-in_err-bind-clause-err
returns-in_err-bind-clause-err c = any_err c.from_residual.result (λ q apart.
    c.in_err-bind.ensures.err q ∙ c.loop-reference.invariant.bound q
    ∙ bound_apart q c.loop-reference.yielded c.loop-reference.reference-iterator.rest.items (bound_at c.args.self.now q)
    (sym (ap (λ xs. contains q (map (λ x. x.0) xs)) c.loop-reference.invariant.split) ∙ apart))

pub returns-in_err-bind-clause-ahead : goal.returns-in_err-bind-clause-ahead
returns-in_err-bind-clause-ahead c = then_ahead c.args.self.now c.loop-reference.self c.bind.new.self c.loop-reference.invariant.ahead c.bind.ensures.ahead
