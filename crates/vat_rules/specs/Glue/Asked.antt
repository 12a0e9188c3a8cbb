-- For the code's contracts, and no part of the meaning: which rules a record may break, by its kind.
use Rattle.std.specs.Prelude.{◌≡◌, List, [], Bool, true, false, not, ◌||◌}
use Rattle.std.specs.List.{filter}
use Rattle.vat_rules.specs.Types.{Edition, RpcMessage, Bootstrap, Call, Return, Finish, Resolve, Release, Disembargo, DecodedRecord, Fulfil, Break, Deliver, Answer, AnswerBy, Fault, Wire}
use Rattle.decoded_records.specs.Past.{Past}
use Rattle.decoded_records.specs.Lives.{descriptors}
use Rattle.decoded_records.specs.Views.{references}
use Rattle.vat_rules.specs.declared.rule.Rule.{Rule}
use Rattle.vat_rules.specs.declared.rule.Rule.TheVariants as rule
use Rattle.vat_rules.specs.Rules.{Meets, rules}

-- a record has no message
abbrev pub is_own : DecodedRecord → Bool
is_own (Wire sent k c rs m) = false
is_own _ = true

-- a record has a message, notes no reference and has no descriptor
pub record IsBare (e : DecodedRecord) : Type 0 where
  pub message : is_own e ≡ false
  pub unnoted : references e ≡ []
  pub uncarried : descriptors e ≡ []

-- a record without a message may break a rule
abbrev pub own_may_break : DecodedRecord → Rule → Bool
own_may_break (Wire sent k c rs m) each = false
own_may_break e rule.Ref = true
own_may_break (Fulfil r to) rule.Vow = true
own_may_break (Break r) rule.Vow = true
own_may_break (Deliver call object) rule.Here = true
own_may_break (Deliver call object) rule.Goal = true
own_may_break (Answer call results) rule.Answer = true
own_may_break (AnswerBy call by) rule.Answer = true
own_may_break (Fault call) rule.Answer = true
own_may_break e each = false

-- a message that carries no capability may break a rule
abbrev pub bare_may_break : RpcMessage → Rule → Bool
bare_may_break _ rule.Closed = true
bare_may_break _ rule.Ref = true
bare_may_break (Bootstrap q) rule.QNew = true
bare_may_break (Call head target params) rule.Here = true
bare_may_break (Call head target params) rule.QNew = true
bare_may_break (Call head target params) rule.QUse = true
bare_may_break (Call head target params) rule.XUse = true
bare_may_break (Call head target params) rule.Goal = true
bare_may_break (Return head outcome) rule.QUse = true
bare_may_break (Return head outcome) rule.Count = true
bare_may_break (Return head outcome) rule.Result = true
bare_may_break (Finish q release) rule.QUse = true
bare_may_break (Finish q release) rule.Count = true
bare_may_break (Resolve promise resolution) rule.Resolve = true
bare_may_break (Release n count) rule.XUse = true
bare_may_break (Release n count) rule.Count = true
bare_may_break (Disembargo number loopback target) rule.QUse = true
bare_may_break (Disembargo number loopback target) rule.XUse = true
bare_may_break (Disembargo number loopback target) rule.Emb = true
bare_may_break _ _ = false

-- a rule speaks of the capabilities that a message carries
abbrev pub is_of_caps : Rule → Bool
is_of_caps rule.QUse = true
is_of_caps rule.XUse = true
is_of_caps rule.Desc = true
is_of_caps rule.RecvRef = true
is_of_caps _ = false

-- a rule speaks of records without a message alone
abbrev pub is_of_own : Rule → Bool
is_of_own rule.Vow = true
is_of_own rule.Answer = true
is_of_own _ = false

-- a message may break a rule that carries capabilities. The last five never have a descriptor, so it is always a fault
-- that references are noted beside them
abbrev pub carrying_may_break : RpcMessage → Rule → Bool
carrying_may_break (Call head target params) each = bare_may_break (Call head target params) each || is_of_caps each
carrying_may_break (Return head outcome) each = bare_may_break (Return head outcome) each || is_of_caps each
carrying_may_break (Resolve promise resolution) each = bare_may_break (Resolve promise resolution) each || is_of_caps each
carrying_may_break _ each = not (is_of_own each)

-- some rules, in the order in which they are tried; the others a record meets, whatever came before it
abbrev pub Suffice : DecodedRecord → List Rule → Type 0
Suffice e some = (may_break : Rule → Bool) × (some ≡ filter may_break rules)
    × ((each : Rule) → may_break each ≡ false → (edition : Edition) (before : Past) → Meets edition each before e)
