use Rattle.std.proofs.Common.{◌≡◌, take, map}
use Rattle.vat_tap.proofs.by_ticket.records_of.Given as goal

abbrev pub invariant-loop-item : goal.invariant-loop-item
invariant-loop-item l = map (λ entry. entry.now) l.records.items ≡ take l.item-index (map (λ item. item.now.1) l.all)
