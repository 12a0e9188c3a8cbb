-- One record more of a log.
use Rattle.std.proofs.Common.{◌≡◌, ℕ, ◌+◌, ◌<◌, List, [], ◌∷◌, ◌++◌, sym, ◌∙◌, ap}
use Rattle.std.specs.Prelude.{Some, Err, slice_get, reverse}
use Rattle.vat_log.specs.declared.body.Body.{Body}
use Rattle.decoded_records.specs.Past.{Past}
use Rattle.vat_rules.specs.Types.{Edition, DecodedRecord}
use Rattle.vat_rules.specs.LogFacts.{Entry}
use Rattle.vat_rules.specs.declared.taking.Refusal.{Refusal}
use Rattle.vat_rules.specs.declared.taking.Refusal.TheVariants as refusal
use Rattle.vat_rules.specs.Events.{Reader, event_of, past_at}
use Rattle.vat_rules.specs.Telling.{entry_of, entries_back}
use Rattle.vat_rules.specs.First.{IsGoodAt, IsFirst}
use Rattle.vat_rules.specs.Glue.Taking.{IsPut, IsRefused, refused_at}
use Rattle.vat_rules.proofs.Firsts.{past_at-more, gathered_more, read_at, is_first-Broken, good-more}

-- the log's outcome where a record is refused
pub first_refused : (edition : Edition) (read : Reader) (log : List Body) (at : ℕ) (b : Body) (past : Past) (answer : Refusal) → slice_get log at ≡ Some b →
    past ≡ past_at read log at → IsRefused edition read past b answer → ((j : ℕ) → j < at → IsGoodAt edition read log j) → IsFirst edition read log (refused_at at answer)
first_refused edition read log at b past (refusal.Outside why) here before is good = (good, read_at (λ b. event_of read b ≡ Err why) log at b here is)
first_refused edition read log at b past (refusal.Broken rule) here before (e, is, breaks) good = is_first-Broken edition read log at b e past rule here is before breaks good

-- what stands behind a record that was put there
pub put_past : (edition : Edition) (read : Reader) (log : List Body) (at : ℕ) (b : Body) (past after : Past) (e : DecodedRecord) → slice_get log at ≡ Some b →
    past ≡ past_at read log at → IsPut edition read past b after e → after ≡ past_at read log (at + 1)
put_past edition read log at b past after e here before so = so.state ∙ ap (λ p. e ∷ p) before ∙ sym (past_at-more read log at b e here so.is)

-- what is gathered then
pub put_gathered : (edition : Edition) (read : Reader) (b : Body) (past after : Past) (e : DecodedRecord) (so_far longer : List Entry) → so_far ≡ reverse (entries_back past) →
    IsPut edition read past b after e → longer ≡ so_far ++ entry_of past e ∷ [] → longer ≡ reverse (entries_back after)
put_gathered edition read b past after e so_far longer is so put = gathered_more past after e so_far longer so.state put is

pub put_good : (edition : Edition) (read : Reader) (log : List Body) (at : ℕ) (b : Body) (past after : Past) (e : DecodedRecord) → slice_get log at ≡ Some b →
    past ≡ past_at read log at → IsPut edition read past b after e → ((j : ℕ) → j < at → IsGoodAt edition read log j) → (j : ℕ) → j < at + 1 → IsGoodAt edition read log j
put_good edition read log at b past after e here before so good = good-more edition read log at b e past here so.is before so.good good
