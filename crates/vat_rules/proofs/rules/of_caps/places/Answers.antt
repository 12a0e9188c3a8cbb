use Rattle.std.proofs.Common.{◌∷◌, [], ◌++◌, ◌∙◌, ap, sym}
use Rattle.decoded_records.specs.Lives.{descriptors}
use Rattle.vat_rules.proofs.Placing.{place_none, place_some}
use Rattle.vat_rules.proofs.rules.of_caps.places.Goals as goal
use Rattle.vat_rules.proofs.rules.of_caps.places.Goals.{in-NoCap, in_default+in_ok-push-in_default}

pub loop-place-preserved : goal.loop-place-preserved
loop-place-preserved c =
    let items = c.descriptors-descriptor-items in
    let item = c.descriptor-item in
    elim c.match-descriptor.branch [
      | in-NoCap w ↦
          ap (λ v. v.items) w.places-is ∙ c.loop-place.invariant
          ∙ place_none items.result.now (descriptors c.args.event.now) c.loop-place.place item.result items.ensures c.loop-place-test.true (sym item.is ∙ w.in-NoCap.is)
      | in_default+in_ok-push-in_default w ↦
          ap (λ v. v.items) w.places-is ∙ w.in_ok-push-in_default.ensures.items ∙ ap (λ ps. ps ++ (c.loop-place.place ∷ [])) c.loop-place.invariant
          ∙ place_some items.result.now (descriptors c.args.event.now) c.loop-place.place item.result items.ensures c.loop-place-test.true (λ e. w.in_default.not-NoCap (item.is ∙ e))
    ]
