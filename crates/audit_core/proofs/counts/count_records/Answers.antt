use Rattle.std.proofs.Common.{◌≡◌, ◌≤◌, length, map, Some, sym, ap, subst, ◌∙◌, Global, arith}
use Rattle.std.proofs.lemmas.Grind.{common_steps}
use Rattle.std.specs.Arc.{arc_value}
use Rattle.std.specs.Option.{option_map}
use Rattle.std.specs.Prelude.{slice_get}
use Rattle.std.proofs.lemmas.List.{length-map}
use Rattle.std.proofs.lemmas.Option.{slice_get-map, slice_get-get_or}
use Rattle.vat_log.specs.declared.log.VatLog.{VatLog}
use Rattle.audit_core.proofs.Places.{holds_more, holds_all}
use Rattle.audit_core.proofs.counts.count_records.Goals as goal

pub loop-log-preserved : goal.loop-log-preserved
loop-log-preserved c = (
  grind (arith, common_steps),
  grind (arith, common_steps),
  (
      let f = arc_value {X = VatLog} {Z = Global} in
      let at : slice_get (map f c.args.logs.now) c.loop-log.log-index ≡ Some c.deref.result.now =
      slice_get-map f c.args.logs.now c.loop-log.log-index ∙ ap (option_map f) (slice_get-get_or c.args.logs.now c.loop-log.log-index c.log-item.result c.loop-log-test.true)
      ∙ ap (λ x. Some (f x)) (sym c.log-item.is) ∙ ap (λ (x : VatLog). Some x) (sym c.deref.ensures) in
      holds_more (λ (log : VatLog). length log.records ≤ 4294967295) (map f c.args.logs.now) c.loop-log.log-index c.deref.result.now at
      (subst (λ n. n ≤ 4294967295) c.len.ensures.value c.len.ensures.bound) c.loop-log.invariant.2
      ),
)

pub returns-clause-each : goal.returns-clause-each
returns-clause-each c =
    let f = arc_value {X = VatLog} {Z = Global} in
    let long : length (map f c.args.logs.now) ≡ length c.args.logs.now = length-map c.args.logs.now f in
    let over = c.loop-log-test.false in
    holds_all (λ (log : VatLog). length log.records ≤ 4294967295) (map f c.args.logs.now) c.loop-log.log-index c.loop-log.invariant.2 (omega (arith, long, over))
