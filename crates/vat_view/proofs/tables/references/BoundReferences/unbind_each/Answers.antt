use Rattle.std.proofs.Common.{sym, ◌∙◌, ap, ℕ, ◌==◌, List, [], ◌∷◌, take, None, if◌then◌else◌}
use Rattle.std.proofs.lemmas.List.{take_more}
use Rattle.std.proofs.lemmas.List.Folds.{list_any-append}
use Rattle.decoded_records.specs.Bindings.{contains}
use Rattle.vat_view.specs.Glue.Tables.{bound_at}
use Rattle.vat_view.proofs.Binding.{unbound_more, then_ahead}
use Rattle.vat_view.proofs.tables.references.BoundReferences.unbind_each.Goals as goal

pub loop-reference-preserved : goal.loop-reference-preserved
loop-reference-preserved c = record {
  views = λ q.
      let rs : List ℕ = c.args.references.now in let k : ℕ = c.loop-reference.reference-index in
      let more = take_more rs k 0 c.loop-reference-test.true in
      c.unbind.ensures.views q ∙ unbound_more (contains q (take k rs)) _ (bound_at c.args.self.now q) (bound_at c.loop-reference.self q) (c.loop-reference.invariant.views q)
      ∙ sym (ap (λ b. if b then None else bound_at c.args.self.now q) (ap (λ xs. contains q xs) more ∙ list_any-append (λ x. x == q) (take k rs) (_ ∷ [])));
  ahead = then_ahead c.args.self.now c.loop-reference.self c.unbind.new.self c.loop-reference.invariant.ahead c.unbind.ensures.ahead;
}
