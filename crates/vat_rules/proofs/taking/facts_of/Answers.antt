use Rattle.std.proofs.Common.{◌∙◌, ap, ap₂, map, sym, ◌++◌}
use Rattle.std.specs.Prelude.{Result, Ok, Err, IfOk}
use Rattle.decoded_records.specs.Bindings.{new_references, named_references}
use Rattle.decoded_records.specs.Views.{view_of_reference}
use Rattle.vat_rules.specs.Glue.Facts.{with_references}
use Rattle.vat_rules.proofs.Owning.{own_facts}
use Rattle.vat_rules.proofs.taking.facts_of.Goals as goal

if_ok : {A E : Type 0} {P Q : A → Type 0} (r : Result A E) → ((a : A) → P a → Q a) → IfOk r P → IfOk r Q
if_ok (Ok a) so p = so a p
if_ok (Err e) so p = tt

pub returns-in-Wire : goal.returns-in-Wire
returns-in-Wire c = λ before applied known. if_ok c.new.result
    (λ facts is. is
    ∙ ap₂ (λ rs s. with_references rs s)
    (c.in_ok-references.ensures ∙ ap (λ p. map (view_of_reference p) (new_references c.args.event.now ++ named_references c.args.event.now)) applied) known) c.new.ensures

pub returns-in_default : goal.returns-in_default
returns-in_default c = λ before applied known.
    c.of_references.ensures
    ∙ ap₂ (λ rs s. with_references rs s)
    (c.in_ok-references.ensures ∙ ap (λ p. map (view_of_reference p) (new_references c.args.event.now ++ named_references c.args.event.now)) applied)
    (sym (own_facts before c.args.event.now c.in_default.not-Wire))
