use Rattle.std.proofs.Common.{◌≡◌, take}
use Rattle.decoded_records.specs.Lives.{descriptors}
use Rattle.decoded_records.specs.Views.{places_from}
use Rattle.vat_rules.proofs.rules.of_caps.places.Given as goal

abbrev pub invariant-loop-place : goal.invariant-loop-place
invariant-loop-place l = l.places.items ≡ places_from 0 (take l.place (descriptors l.event))
