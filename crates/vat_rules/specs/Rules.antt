-- The rules, each by its name, in the order in which they are tried.
use Rattle.std.specs.Prelude.{List, [], ◌∷◌}
use Rattle.vat_rules.specs.Types.{Edition, DecodedRecord}
use Rattle.decoded_records.specs.Past.{Past}
use Rattle.decoded_records.specs.Lives.{GivesBackHeld}
use Rattle.decoded_records.specs.Uses.{OpensFree, UsesQuestions, UsesNumbers}
use Rattle.decoded_records.specs.Bindings.{Refers}
use Rattle.vat_rules.specs.declared.rule.Rule.{Rule}
use Rattle.vat_rules.specs.declared.rule.Rule.TheVariants as rule
use Rattle.vat_rules.specs.OfCalls.{IsHere, GoesToGoal, MayAnswer}
use Rattle.vat_rules.specs.OfCaps.{Describes, BindsEach}
use Rattle.vat_rules.specs.OfResults.{ReturnsKnown}
use Rattle.vat_rules.specs.OfPromises.{KeepsVow, ResolvesPromise}
use Rattle.vat_rules.specs.OfConnections.{IsOpen, KeepsEmbargo}

-- what each rule says. Six of them let more pass in a log of the later edition; what they let pass in one of the first
-- edition passes there too
abbrev pub Meets : Edition → Rule → Past → DecodedRecord → Type 0
Meets edition rule.Closed = IsOpen edition
Meets edition rule.Ref = Refers
Meets edition rule.Vow = KeepsVow
Meets edition rule.Here = IsHere
Meets edition rule.QNew = OpensFree
Meets edition rule.QUse = UsesQuestions
Meets edition rule.XUse = UsesNumbers
Meets edition rule.Goal = GoesToGoal edition
Meets edition rule.Answer = MayAnswer
Meets edition rule.Desc = Describes edition
Meets edition rule.Count = GivesBackHeld
Meets edition rule.Result = ReturnsKnown edition
Meets edition rule.Resolve = ResolvesPromise edition
Meets edition rule.RecvRef = BindsEach
Meets edition rule.Emb = KeepsEmbargo edition

-- the order in which they are tried
abbrev pub rules : List Rule
rules = rule.Closed ∷ rule.Ref ∷ rule.Vow ∷ rule.Here ∷ rule.QNew ∷ rule.QUse ∷ rule.XUse ∷ rule.Goal ∷ rule.Answer ∷ rule.Desc ∷ rule.Count
    ∷ rule.Result ∷ rule.Resolve ∷ rule.RecvRef ∷ rule.Emb ∷ []
