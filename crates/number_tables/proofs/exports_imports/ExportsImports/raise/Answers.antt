use Rattle.std.proofs.Common.{◌∙◌, ◌+◌, ap, Some, if◌then◌else◌}
use Rattle.decoded_records.specs.Past.{same_id}
use Rattle.number_tables.specs.Glue.Sides.{value_at}
use Rattle.number_tables.specs.Glue.LifeTables.{life_at}
use Rattle.number_tables.proofs.Raising.{count_in, raised_count, put_written, if_ok}
use Rattle.number_tables.proofs.exports_imports.ExportsImports.raise.Goals as goal

-- the number has a life
pub returns-in-Some-clause-counts : goal.returns-in-Some-clause-counts
returns-in-Some-clause-counts c =
    let w = c.raise_life.new.life in
    if_ok c.raise_life.result c.raise_life.ensures.count (λ more.
    raised_count (λ i. life_at c.args.self.now i) (λ i. value_at (c.get_mut.follows.lender w) i) c.args.number w
    (λ i. c.get_mut.follows.holds w i ∙ put_written (λ j. life_at c.args.self.now j) c.args.number c.in-Some.life.now w c.in-Some.ensures.value i)
    (more ∙ ap (λ o. count_in o + 1) c.in-Some.ensures.value))

-- it never had one
pub returns-in_ok-new-in-None-clause-counts : goal.returns-in_ok-new-in-None-clause-counts
returns-in_ok-new-in-None-clause-counts c =
    let w = c.in_ok-new-in-None.field-0 in
    if_ok c.put.result c.put.ensures.ok (λ puts.
    raised_count (λ i. life_at c.args.self.now i) (λ i. value_at c.put.new.self i) c.args.number w
    (λ i. puts i ∙ ap (λ o. if same_id c.args.number i then Some w else o) (c.get_mut.follows.holds-at-none i))
    (c.in_ok-new-in-None.ensures.count ∙ ap (λ o. count_in o + 1) c.in-None.ensures.value))
