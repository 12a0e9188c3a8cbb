use Rattle.std.proofs.Common.{◌≡◌, ◌++◌, take, map}
use Rattle.vat_tap.proofs.by_ticket.lend.Given as goal

abbrev pub invariant-loop-item : goal.invariant-loop-item
invariant-loop-item l = map (λ item. item.now) l.all.items ≡ map (λ item. item.now) l.initial.all.items ++ take l.item-index l.taken
