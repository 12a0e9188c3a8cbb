use Rattle.std.proofs.Common.{◌≡◌, take}
use Rattle.merge_order.specs.Spelling.{spelling}
use Rattle.merge_order.proofs.format.write_order.Given as goal

abbrev pub invariant-loop-vat : goal.invariant-loop-vat
invariant-loop-vat l = l.out.items ≡ spelling (take l.vat-index l.order)
