use Rattle.std.proofs.Common.{◌≡◌, take, map}
use Rattle.vat_tap.specs.Glue.Taps.{put}
use Rattle.vat_tap.proofs.by_ticket.put_each.Given as goal

abbrev pub invariant-loop-item : goal.invariant-loop-item
invariant-loop-item l = map (λ entry. entry.now) l.records.items ≡ put (map (λ entry. entry.now) l.initial.records.items) (take l.item-index (map (λ item. item.now) l.all))
