use Rattle.std.proofs.Common.{◌+◌, ◌<◌, ◌≤◌, ap, sym, ◌∙◌, ℕ, List, take, get_or, false, count_by, if◌then◌else◌, arith}
use Rattle.std.proofs.lemmas.Bool.{false≢true}
use Rattle.std.proofs.lemmas.List.{take_more}
use Rattle.vat_view.specs.Types.{TableKey}
use Rattle.decoded_records.specs.Past.{same_id}
use Rattle.number_tables.specs.Glue.LifeTables.{held_count_at}
use Rattle.vat_view.proofs.Tallying.{count_more, still_held, too_many}
use Rattle.vat_view.proofs.lookups.table_answers.are_several_held.Goals as goal

pub returns-then-branch-count_of : goal.returns-then-branch-count_of
returns-then-branch-count_of c =
    let d : TableKey = record { connection = 0; ours = false; number = 0 } in
    let k : ℕ = c.loop-number.number-index in
    let item : TableKey = get_or c.args.numbers.now k d in
    let more = take_more c.args.numbers.now k d c.loop-number-test.true in
    let counted = c.loop-number.invariant.counted item in
    let answer = c.in_ok-count.ensures.answer in
    let held = c.count_of.ensures in
    let over : held_count_at c.args.lives.now item < count_by (same_id item) (take k c.args.numbers.now) + 1 = omega (arith, counted, answer, held) in (
      λ no0. absurd (false≢true no0),
      λ all. absurd (too_many (held_count_at c.args.lives.now) item c.args.numbers.now k over more (all item)),
    )

pub loop-number-preserved : goal.loop-number-preserved
loop-number-preserved c =
    let d : TableKey = record { connection = 0; ours = false; number = 0 } in
    let k : ℕ = c.loop-number.number-index in
    let xs : List TableKey = take k c.args.numbers.now in
    let item : TableKey = get_or c.args.numbers.now k d in
    let more = take_more c.args.numbers.now k d c.loop-number-test.true in
    let counted = c.loop-number.invariant.counted item in
    let answer = c.in_ok-count.ensures.answer in
    let held = c.count_of.ensures in
    let under : count_by (same_id item) xs + 1 ≤ held_count_at c.args.lives.now item = omega (arith, counted, answer, held) in
    record {
      counted = λ i.
          c.in_ok-count.ensures.counts i ∙ ap (λ n. n + (if same_id i item then 1 else 0)) (c.loop-number.invariant.counted i) ∙ sym (count_more i item xs)
          ∙ ap (λ l. count_by (same_id i) l) (sym more);
      held = λ i. rw more (still_held (held_count_at c.args.lives.now) item xs c.loop-number.invariant.held under i);
    }
