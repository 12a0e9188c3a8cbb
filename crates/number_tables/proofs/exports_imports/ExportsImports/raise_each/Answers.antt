use Rattle.std.proofs.Common.{◌≡◌, ◌==◌, sym, ◌∙◌, ap, ap₂, ℕ, [], ◌∷◌, take, get_or, false, ◌&&◌, Some, None, cond, if◌then◌else◌, arith}
use Rattle.std.specs.Prelude.{is_err}
use Rattle.std.proofs.lemmas.List.{take_more}
use Rattle.std.proofs.lemmas.List.Sums.{sum_by-append}
use Rattle.decoded_records.specs.declared.origin.Origin.{Origin}
use Rattle.number_tables.specs.Types.{TableKey}
use Rattle.decoded_records.specs.Past.{same_id}
use Rattle.number_tables.specs.Glue.LifeTables.{held_count_at, origin_at, raised_origin}
use Rattle.number_tables.proofs.Raising.{raised_more, ok_gives}
use Rattle.number_tables.proofs.exports_imports.ExportsImports.raise_each.Goals as goal

pub loop-index-preserved : goal.loop-index-preserved
loop-index-preserved c =
    let d : TableKey × Origin = (record { connection = 0; ours = false; number = 0 }, record { number = 0; place = 0; promised = false; reference = None }) in
    let item : TableKey × Origin = get_or c.args.introduced.now c.loop-index.index d in
    let more = take_more c.args.introduced.now c.loop-index.index d c.loop-index-test.true in
    let good : is_err c.raise.result ≡ false = sym c.is_err.ensures.value ∙ c.if-is_err.false in
    record {
      counts = λ i.
          let raised = ok_gives c.raise.result good c.raise.ensures.counts i in
          let before = c.loop-index.invariant.counts i in
          let sum = sum_by-append (λ (x : TableKey × Origin). cond (same_id i x.0) 1 0) (take c.loop-index.index c.args.introduced.now) (item ∷ []) in
          rw more (omega (arith, raised, before, sum));
      origins = λ i.
          ok_gives c.raise.result good c.raise.ensures.origins i
          ∙ ap₂ (λ (n : ℕ) o. if same_id i item.0 && (n == 0) then Some item.1 else o) (c.loop-index.invariant.counts i) (c.loop-index.invariant.origins i)
          ∙ sym (raised_more i (origin_at c.args.self.now i) (held_count_at c.args.self.now i) (take c.loop-index.index c.args.introduced.now) item)
          ∙ ap (λ xs. raised_origin (held_count_at c.args.self.now i) (origin_at c.args.self.now i) i xs) (sym more);
    }
