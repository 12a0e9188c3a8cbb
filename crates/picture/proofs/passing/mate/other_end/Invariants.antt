use Rattle.std.proofs.Common.{◌≡◌, drop}
use Rattle.picture.specs.Places.{vat_at_other_end}
use Rattle.picture.proofs.passing.mate.other_end.Given as goal

abbrev pub invariant-loop-link : goal.invariant-loop-link
invariant-loop-link l = vat_at_other_end l.links l.connection l.vat ≡ vat_at_other_end (drop l.link-index l.links) l.connection l.vat
