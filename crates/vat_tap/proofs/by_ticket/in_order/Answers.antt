use Rattle.std.proofs.Common.{map, ap, ◌∙◌}
use Rattle.vat_tap.specs.Glue.Taps.{put}
use Rattle.vat_tap.proofs.Placing.{map_map}
use Rattle.vat_tap.proofs.by_ticket.in_order.Goals as goal

pub returns : goal.returns
returns c = c.put_each.ensures ∙ ap (λ records. put records (map (λ item. item.now) c.args.all.now)) (c.in_ok-records.ensures ∙ map_map (λ item. item.now) (λ item. item.1) c.args.all.now)
