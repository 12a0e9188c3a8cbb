use Rattle.std.proofs.Common.{◌∙◌}
use Rattle.number_tables.specs.Glue.LifeTables.{held_count_at, origin_at}
use Rattle.vat_view.proofs.Describing.{begun_from}
use Rattle.vat_view.proofs.record.bindings.tabled_introductions.Goals as goal

pub returns : goal.returns
returns c = λ i.
    begun_from i (held_count_at c.new-begun.result i) (held_count_at c.raise_each.new.self i) (origin_at c.new-begun.result i) (origin_at c.raise_each.new.self i) c.as_slice.result.now _
    (c.new-begun.ensures i) (c.in_ok-raise_each.ensures.counts i) (c.in_ok-raise_each.ensures.origins i) (c.as_slice.ensures ∙ c.in_ok-origins.ensures)
