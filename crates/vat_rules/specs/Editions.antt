-- Laws of the two editions: what is good by the first one is good by the later one.
use Rattle.std.specs.Prelude.{◌≡◌, ℕ, false}
use Rattle.cap_reader.specs.declared.limits.Limits.{Limits}
use Rattle.vat_log.specs.Log.{Log}
use Rattle.decoded_records.specs.declared.table_key.TableKey.{TableKey}
use Rattle.decoded_records.specs.Past.{Past}
use Rattle.decoded_records.specs.Questions.{is_returned_lightly}
use Rattle.vat_rules.specs.declared.outcome.Outcome.TheVariants.{Good}
use Rattle.vat_rules.specs.Types.{First, Later, DecodedRecord}
use Rattle.vat_rules.specs.LogFacts.{Told}
use Rattle.vat_rules.specs.Events.{past_at}
use Rattle.vat_rules.specs.Judged.{IsGoodBy}
use Rattle.vat_rules.specs.First.{IsFirst}
use Rattle.vat_rules.specs.Audit.{reads_by, reads_within, edition_of, IsTrueOf}

-- a record that is good by the first edition is good by the later one
abbrev pub KeepsMore : Past → DecodedRecord → Type 0
KeepsMore before e = IsGoodBy First before e → IsGoodBy Later before e

-- a log that is good by its own edition is good by the later one: it is read as the same records, and tells the same
abbrev pub IsGoodByLater : Log → Limits → Told → Type 0
IsGoodByLater log limits story = IsTrueOf log limits (Good story) → IsFirst Later (reads_within limits) log.records (Good story)

-- in a log that is read by the first edition no Return says that no Finish is needed
abbrev pub HasNoLightReturns : Log → Limits → Type 0
HasNoLightReturns log limits =
    edition_of log ≡ First → (i : ℕ) (q : TableKey) → is_returned_lightly q (past_at (reads_by First limits) log.records i) ≡ false
