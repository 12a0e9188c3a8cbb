-- Records without a message: what their numbers stand for, and which rules none of them can break.
use Rattle.std.proofs.Common.{◌≡◌, ◌≤◌, ℕ, refl, arith, Bool, List, []}
use Rattle.std.proofs.lemmas.Bool.{false≢true}
use Rattle.std.specs.Prelude.{true, false, None}
use Rattle.decoded_records.specs.Past.{Past}
use Rattle.vat_rules.specs.Types.{Edition, First, Later, RpcMessage, DecodedRecord, Wire}
use Rattle.vat_rules.specs.declared.rule.Rule.TheVariants as rule
use Rattle.vat_rules.specs.Rules.{Meets}
use Rattle.vat_rules.specs.Glue.Asked.{is_own}
use Rattle.vat_rules.specs.Glue.Facts.{facts_before}
use Rattle.vat_rules.specs.Glue.Roles.{facts_by}

-- it has no number but its references
pub own_facts : (before : Past) (e : DecodedRecord) → ((sent : Bool) (k c : ℕ) (rs : List ℕ) (m : RpcMessage) → e ≡ Wire sent k c rs m → ⊥) → facts_before before e ≡ facts_by None None [] false
own_facts before (Wire sent k c rs m) other = absurd (other sent k c rs m refl)
own_facts before _ other = refl

-- ---- the rules that it can't break

pub own_open : (edition : Edition) (before : Past) (e : DecodedRecord) → is_own e ≡ true → Meets edition rule.Closed before e
own_open edition before (Wire sent k c rs m) h = absurd (false≢true h)
own_open First before _ h = tt
own_open Later before _ h = tt

pub own_opens : (edition : Edition) (before : Past) (e : DecodedRecord) → is_own e ≡ true → Meets edition rule.QNew before e
own_opens edition before (Wire sent k c rs m) h = absurd (false≢true h)
own_opens edition before _ h = tt

pub own_uses : (edition : Edition) (before : Past) (e : DecodedRecord) → is_own e ≡ true → Meets edition rule.QUse before e
own_uses edition before (Wire sent k c rs m) h = absurd (false≢true h)
own_uses edition before _ h = record { used = refl; returned_once = tt; taken_once = tt }

pub own_numbers : (edition : Edition) (before : Past) (e : DecodedRecord) → is_own e ≡ true → Meets edition rule.XUse before e
own_numbers edition before (Wire sent k c rs m) h = absurd (false≢true h)
own_numbers edition before _ h = refl

pub own_describes : (edition : Edition) (before : Past) (e : DecodedRecord) → is_own e ≡ true → Meets edition rule.Desc before e
own_describes edition before (Wire sent k c rs m) h = absurd (false≢true h)
own_describes edition before _ h = record { noted_each = λ sent. refl; leads = λ sent late. tt; light = λ sent late light. refl; kinds = λ late. refl }

none_is_held : (n : ℕ) → 0 ≤ n
none_is_held n = omega arith

pub own_gives : (edition : Edition) (before : Past) (e : DecodedRecord) → is_own e ≡ true → Meets edition rule.Count before e
own_gives edition before (Wire sent k c rs m) h = absurd (false≢true h)
own_gives edition before _ h = λ i. none_is_held _

pub own_returns : (edition : Edition) (before : Past) (e : DecodedRecord) → is_own e ≡ true → Meets edition rule.Result before e
own_returns edition before (Wire sent k c rs m) h = absurd (false≢true h)
own_returns edition before _ h = tt

pub own_resolves : (edition : Edition) (before : Past) (e : DecodedRecord) → is_own e ≡ true → Meets edition rule.Resolve before e
own_resolves edition before (Wire sent k c rs m) h = absurd (false≢true h)
own_resolves edition before _ h = tt

pub own_binds : (edition : Edition) (before : Past) (e : DecodedRecord) → is_own e ≡ true → Meets edition rule.RecvRef before e
own_binds edition before (Wire sent k c rs m) h = absurd (false≢true h)
own_binds edition before _ h = λ received. refl

pub own_embargo : (edition : Edition) (before : Past) (e : DecodedRecord) → is_own e ≡ true → Meets edition rule.Emb before e
own_embargo edition before (Wire sent k c rs m) h = absurd (false≢true h)
own_embargo edition before _ h = tt
