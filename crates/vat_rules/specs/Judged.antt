-- When a record is good, and which rule it breaks first.
use Rattle.std.specs.Prelude.{◌≡◌, ◌⊎◌, List, [], ◌∷◌}
use Rattle.vat_rules.specs.declared.rule.Rule.{Rule}
use Rattle.vat_rules.specs.Types.{Edition, Later, DecodedRecord}
use Rattle.decoded_records.specs.Past.{Past}
use Rattle.vat_rules.specs.Rules.{Meets}

-- a record is good by an edition where every rule holds
abbrev pub IsGoodBy : Edition → Past → DecodedRecord → Type 0
IsGoodBy edition before e = (rule : Rule) → Meets edition rule before e

-- a record is good by the later edition, as each is that is good by the first one
abbrev pub IsGood : Past → DecodedRecord → Type 0
IsGood before e = IsGoodBy Later before e

-- of rules tried in order, this is the first that a record breaks
abbrev pub BreaksFirst : Edition → List Rule → Past → DecodedRecord → Rule → Type 0
BreaksFirst edition [] before e broken = ⊥
BreaksFirst edition (rule ∷ rest) before e broken =
    ((rule ≡ broken) × ¬ Meets edition rule before e) ⊎ (Meets edition rule before e × BreaksFirst edition rest before e broken)
