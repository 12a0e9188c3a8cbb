use Rattle.std.proofs.Common.{◌∙◌, [], ◌∷◌, length, ap, sym, arith}
use Rattle.std.proofs.lemmas.List.{length-append}
use Rattle.std.specs.Prelude.{map}
use Rattle.std.specs.Arc.{arc_value}
use Rattle.merge_order.proofs.Totals.{came_begin}
use Rattle.merge_order.proofs.Steps.{made_none, made_more, made_fits, made_least, no_order, falls}
use Rattle.merge_order.proofs.making.make_order.Goals as goal

pub loop-vat-init : goal.loop-vat-init
loop-vat-init c = rw (c.in_ok-schedule.ensures, c.new-vats.ensures.items) (made_none _, came_begin (map arc_value c.args.logs.now))

pub loop-vat-smaller : goal.loop-vat-smaller
loop-vat-smaller c = rw c.in_ok-take.ensures.later (falls c.in-Some.vat c.loop-vat.schedule c.in-Some.ensures.0)

pub take-requires-clause-few : goal.take-requires-clause-few
take-requires-clause-few c = omega (arith, c.loop-vat.invariant.1, c.in_ok-push.ensures.len)

pub loop-vat-preserved : goal.loop-vat-preserved
loop-vat-preserved c =
    let longer = ap length c.in_ok-push.ensures.items ∙ length-append c.loop-vat.vats.items (c.in-Some.vat ∷ []) in (
      rw (c.in_ok-take.ensures.later, c.in_ok-push.ensures.items)
          (made_more _ c.loop-vat.schedule c.loop-vat.vats.items c.in-Some.vat c.in-Some.ensures.0 c.in-Some.ensures.1 c.loop-vat.invariant.0),
      omega (arith, c.in_ok-take.ensures.count, c.loop-vat.invariant.1, longer),
    )

pub returns-then-is_used_up-clause-fits : goal.returns-then-is_used_up-clause-fits
returns-then-is_used_up-clause-fits c =
    rw c.new-then-is_used_up.ensures (made_fits _ c.loop-vat.schedule c.loop-vat.vats.items c.loop-vat.invariant.0 (sym c.is_used_up.ensures ∙ c.if-is_used_up.true))

pub returns-then-is_used_up-clause-least : goal.returns-then-is_used_up-clause-least
returns-then-is_used_up-clause-least c =
    rw c.new-then-is_used_up.ensures (made_least _ c.loop-vat.schedule c.loop-vat.vats.items c.loop-vat.invariant.0 (sym c.is_used_up.ensures ∙ c.if-is_used_up.true))

pub returns-clause-none : goal.returns-clause-none
returns-clause-none c =
    λ _ order fits. no_order _ c.loop-vat.schedule c.loop-vat.vats.items c.loop-vat.invariant.0 c.in_default.ensures (sym c.is_used_up.ensures ∙ c.if-is_used_up.false) order fits
