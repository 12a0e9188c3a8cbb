-- For the code's contracts, and no part of the meaning: where an audit stands that takes one record after another.
use Rattle.std.specs.Prelude.{◌≡◌, ℕ, List, length, Option, Some, None}
use Rattle.vat_log.specs.declared.body.Body.{Body}
use Rattle.decoded_records.specs.Past.{Past}
use Rattle.vat_rules.specs.Types.{Edition}
use Rattle.vat_rules.specs.Events.{Reader, past_at}
use Rattle.vat_rules.specs.First.{AllGood, IsFirst}
use Rattle.vat_rules.specs.Glue.Taking.{refused_at}
use Rattle.vat_rules.specs.declared.taking.Refusal.{Refusal}

-- all records of a log are good, and are these, the newest first
pub record AreGood (edition : Edition) (read : Reader) (log : List Body) (past : Past) : Type 0 where
  pub good : AllGood edition read log (length log)
  pub before : past ≡ past_at read log (length log)
  pub as_many : length past ≡ length log

-- so it is where none is refused; else this is the first that isn't good
abbrev pub Stands : Edition → Reader → List Body → Past → Option (ℕ × Refusal) → Type 0
Stands edition read log past None = AreGood edition read log past
Stands edition read log past (Some (at, refusal)) = IsFirst edition read log (refused_at at refusal)
