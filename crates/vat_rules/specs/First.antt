-- The first record of a log that isn't good.
use Rattle.std.specs.Prelude.{◌≡◌, ℕ, ◌<◌, List, length, Result, Ok, Err, slice_get, IsSomeAnd}
use Rattle.vat_log.specs.declared.body.Body.{Body}
use Rattle.vat_rules.specs.declared.outcome.Why.{Why}
use Rattle.vat_rules.specs.declared.outcome.Outcome.{Outcome}
use Rattle.vat_rules.specs.declared.outcome.Outcome.TheVariants.{Good, Broken, Outside}
use Rattle.vat_rules.specs.Types.{Edition, DecodedRecord}
use Rattle.vat_rules.specs.Rules.{rules}
use Rattle.vat_rules.specs.Events.{Reader, event_of, past_at}
use Rattle.vat_rules.specs.Judged.{IsGoodBy, BreaksFirst}
use Rattle.vat_rules.specs.Telling.{told_of}

-- record i of a log is read as this, or is outside for this reason
abbrev pub IsReadAs : Reader → List Body → ℕ → Result DecodedRecord Why → Type 0
IsReadAs read log i r = IsSomeAnd (slice_get log i) (λ b. event_of read b ≡ r)

-- record i is read, and is good by the edition after those before it
abbrev pub IsGoodAt : Edition → Reader → List Body → ℕ → Type 0
IsGoodAt edition read log i = (e : DecodedRecord) × IsReadAs read log i (Ok e) × IsGoodBy edition (past_at read log i) e

-- all records before number n are good
abbrev pub AllGood : Edition → Reader → List Body → ℕ → Type 0
AllGood edition read log n = (i : ℕ) → i < n → IsGoodAt edition read log i

-- all records are good; or this is the least that isn't, with the first rule that it breaks or the reason why it is outside
abbrev pub IsFirst : Edition → Reader → List Body → Outcome → Type 0
IsFirst edition read log (Good story) = AllGood edition read log (length log) × (story ≡ told_of read log)
IsFirst edition read log (Broken at rule) =
    AllGood edition read log at × ((e : DecodedRecord) × IsReadAs read log at (Ok e) × BreaksFirst edition rules (past_at read log at) e rule)
IsFirst edition read log (Outside at why) = AllGood edition read log at × IsReadAs read log at (Err why)
