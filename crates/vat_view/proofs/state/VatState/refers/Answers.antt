use Rattle.std.proofs.Common.{◌∙◌, refl, sym, ap, ◌&&◌}
use Rattle.decoded_records.specs.Bindings.{is_distinct}
use Rattle.vat_view.proofs.Distinct.{refers_from, refers_alone}
use Rattle.vat_view.proofs.state.VatState.refers.Goals as goal

pub returns-then-binds : goal.returns-then-binds
returns-then-binds c =
    refers_from c.args.self.now c.args.event.now c.in_ok-distinct.distinct c.binds_unused.result c.binds_unused_call.result c.names_bound.result c.names_bound_calls.result c.notes_call.result
    c.all_three-binds.result c.all_three-names.result c.all_three-names.result
    (c.in_ok-distinct.ensures ∙ ap is_distinct c.new_references.ensures) c.binds_unused.ensures c.binds_unused_call.ensures c.names_bound.ensures c.names_bound_calls.ensures c.notes_call.ensures
    c.all_three-binds.ensures c.all_three-names.ensures (sym (ap (λ b. b && c.all_three-names.result) c.if-binds.true))

pub returns-else-binds : goal.returns-else-binds
returns-else-binds c =
    refers_from c.args.self.now c.args.event.now c.in_ok-distinct.distinct c.binds_unused.result c.binds_unused_call.result c.names_bound.result c.names_bound_calls.result c.notes_call.result
    c.all_three-binds.result c.all_three-names.result c.all_three-binds.result
    (c.in_ok-distinct.ensures ∙ ap is_distinct c.new_references.ensures) c.binds_unused.ensures c.binds_unused_call.ensures c.names_bound.ensures c.names_bound_calls.ensures c.notes_call.ensures
    c.all_three-binds.ensures c.all_three-names.ensures (c.if-binds.false ∙ sym (ap (λ b. b && c.all_three-names.result) c.if-binds.false))

pub returns-in-Some : goal.returns-in-Some
returns-in-Some c = refers_alone c.args.self.now c.args.event.now c.in-Some.call _ c.in-Some.ensures refl
