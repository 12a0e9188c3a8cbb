use Rattle.log_ends.specs.Numbers.{HasNoVat}
use Rattle.log_ends.proofs.renumbering.has_vat.Given as goal

abbrev pub invariant-loop-place : goal.invariant-loop-place
invariant-loop-place l = HasNoVat l.logs l.vat l.begin l.place
