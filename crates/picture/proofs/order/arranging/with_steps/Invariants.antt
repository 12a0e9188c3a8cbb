use Rattle.std.proofs.Common.{◌≡◌, ◌++◌, replicate}
use Rattle.picture.proofs.order.arranging.with_steps.Given as goal

abbrev pub invariant-loop : goal.invariant-loop
invariant-loop l = l.order.items ≡ l.initial.order.items ++ replicate l.counter l.vat
