-- For the code's contracts, and no part of the meaning: one record more of a log.
use Rattle.std.specs.Prelude.{◌≡◌, ℕ, List, [], ◌∷◌, ◌++◌, Ok, Err}
use Rattle.vat_log.specs.declared.body.Body.{Body}
use Rattle.decoded_records.specs.Past.{Past}
use Rattle.vat_rules.specs.Types.{Edition, DecodedRecord}
use Rattle.vat_rules.specs.Rules.{rules}
use Rattle.vat_rules.specs.Events.{Reader, event_of}
use Rattle.vat_rules.specs.Judged.{IsGoodBy, BreaksFirst}
use Rattle.vat_rules.specs.LogFacts.{Facts, Entry}
use Rattle.vat_rules.specs.Telling.{facts_of, entry_of}
use Rattle.vat_rules.specs.declared.outcome.Outcome.{Outcome}
use Rattle.vat_rules.specs.declared.outcome.Outcome.TheVariants as outcome
use Rattle.vat_rules.specs.declared.taking.Refusal.{Refusal}
use Rattle.vat_rules.specs.declared.taking.Refusal.TheVariants.{Outside, Broken}

-- a record is good, and was put behind those before it, and these are its facts
pub record IsTaken (edition : Edition) (before : Past) (e : DecodedRecord) (after : Past) (facts : Facts) : Type 0 where
  pub good : IsGoodBy edition before e
  pub state : after ≡ e ∷ before
  pub known : facts ≡ facts_of before e

-- a stored record is read as this one, which is good and was put behind those before it
pub record IsPut (edition : Edition) (read : Reader) (before : Past) (b : Body) (after : Past) (e : DecodedRecord) : Type 0 where
  pub is : event_of read b ≡ Ok e
  pub good : IsGoodBy edition before e
  pub state : after ≡ e ∷ before

-- and behind those that were gathered, with its facts
abbrev pub IsGathered : Edition → Reader → Past → Body → Past → List Entry → List Entry → Type 0
IsGathered edition read before b after gathered longer =
    (e : DecodedRecord) × IsPut edition read before b after e × (longer ≡ gathered ++ entry_of before e ∷ [])

-- a stored record is good and was put behind those before it
abbrev pub IsPutNext : Edition → Reader → Past → Body → Past → Type 0
IsPutNext edition read before b after = (e : DecodedRecord) × IsPut edition read before b after e

-- a stored record isn't good for this reason
abbrev pub IsRefused : Edition → Reader → Past → Body → Refusal → Type 0
IsRefused edition read before b (Outside why) = event_of read b ≡ Err why
IsRefused edition read before b (Broken rule) = (e : DecodedRecord) × (event_of read b ≡ Ok e) × BreaksFirst edition rules before e rule

-- the outcome of a log whose first record that isn't good is this
abbrev pub refused_at : ℕ → Refusal → Outcome
refused_at at (Outside why) = outcome.Outside at why
refused_at at (Broken rule) = outcome.Broken at rule
