-- Records of kinds for which no rule asks what numbers stand for.
use Rattle.std.proofs.Common.{◌≡◌, refl, Bool, [], ◌∷◌}
use Rattle.std.specs.Prelude.{true, false, Result, Ok, Err, Decides, IfOk, IsTrue}
use Rattle.std.proofs.lemmas.Bool.{false≢true}
use Rattle.decoded_records.specs.Past.{Past}
use Rattle.decoded_records.specs.Bindings.{Refers}
use Rattle.vat_rules.specs.Types.{Edition, Call, Return, Resolve, Disembargo, DecodedRecord, Host, Vow, Make, Field, Fulfil, Break, Deliver, Wire}
use Rattle.vat_rules.specs.declared.rule.Rule.TheVariants as rule
use Rattle.vat_rules.specs.Rules.{Meets}
use Rattle.vat_rules.specs.Judged.{IsGoodBy}
use Rattle.vat_rules.specs.Glue.Asked.{own_may_break, Suffice}
use Rattle.vat_rules.specs.Glue.ByKind.{binds, asks_no_views, IsPlain, MeetsPlain}
use Rattle.vat_rules.proofs.Judging.{all_met}
use Rattle.vat_rules.proofs.Sufficing.{unasked_own, suffice_good, bare_describes, bare_notes}

-- what is decided, and has this consequence
pub if_good : {E P Q : Type 0} (r : Result Bool E) → IfOk r (λ met. Decides met P) → (P → Q) → IfOk r (λ good. IsTrue good → Q)
if_good (Ok met) so more = λ good. more (so.0 good)
if_good (Err e) so more = tt

-- ---- records without a message that bind numbers

-- REF suffices
ref_alone : (e : DecodedRecord) → binds e ≡ true → Suffice e (rule.Ref ∷ [])
ref_alone (Host r object) h = (own_may_break (Host r object), refl, unasked_own (Host r object) refl)
ref_alone (Vow r) h = (own_may_break (Vow r), refl, unasked_own (Vow r) refl)
ref_alone (Make call r interface method) h = (own_may_break (Make call r interface method), refl, unasked_own (Make call r interface method) refl)
ref_alone (Field r call path) h = (own_may_break (Field r call path), refl, unasked_own (Field r call path) refl)
ref_alone _ h = absurd (false≢true h)

pub binding_good : (edition : Edition) (before : Past) (e : DecodedRecord) → binds e ≡ true → Refers before e → IsGoodBy edition before e
binding_good edition before e h refers = suffice_good edition before e (rule.Ref ∷ []) (ref_alone e h) (refers, tt)

-- ---- messages without capabilities

vow_plain : (edition : Edition) (before : Past) (e : DecodedRecord) → asks_no_views e ≡ true → Meets edition rule.Vow before e
vow_plain edition before (Fulfil r to) h = absurd (false≢true h)
vow_plain edition before (Break r) h = absurd (false≢true h)
vow_plain edition before _ h = tt

here_plain : (edition : Edition) (before : Past) (e : DecodedRecord) → asks_no_views e ≡ true → Meets edition rule.Here before e
here_plain edition before (Deliver call object) h = absurd (false≢true h)
here_plain edition before (Wire true k c rs (Call head target params)) h = absurd (false≢true h)
here_plain edition before _ h = tt

goal_plain : (edition : Edition) (before : Past) (e : DecodedRecord) → asks_no_views e ≡ true → Meets edition rule.Goal before e
goal_plain edition before (Deliver call object) h = absurd (false≢true h)
goal_plain edition before (Wire true k c rs (Call head target params)) h = absurd (false≢true h)
goal_plain edition before _ h = tt

answer_plain : (edition : Edition) (before : Past) (e : DecodedRecord) → asks_no_views e ≡ true → Meets edition rule.Answer before e
answer_plain edition before (Wire sent k c rs m) h = tt
answer_plain edition before _ h = absurd (false≢true h)

result_plain : (edition : Edition) (before : Past) (e : DecodedRecord) → asks_no_views e ≡ true → Meets edition rule.Result before e
result_plain edition before (Wire true k c rs (Return head outcome)) h = absurd (false≢true h)
result_plain edition before _ h = tt

resolve_plain : (edition : Edition) (before : Past) (e : DecodedRecord) → asks_no_views e ≡ true → Meets edition rule.Resolve before e
resolve_plain edition before (Wire true k c rs (Resolve promise resolution)) h = absurd (false≢true h)
resolve_plain edition before (Wire false k c rs (Resolve promise resolution)) h = absurd (false≢true h)
resolve_plain edition before _ h = tt

embargo_plain : (edition : Edition) (before : Past) (e : DecodedRecord) → asks_no_views e ≡ true → Meets edition rule.Emb before e
embargo_plain edition before (Wire true k c rs (Disembargo number loopback target)) h = absurd (false≢true h)
embargo_plain edition before (Wire false k c rs (Disembargo number loopback target)) h = absurd (false≢true h)
embargo_plain edition before _ h = tt

pub plain_good : (edition : Edition) (before : Past) (e : DecodedRecord) → IsPlain e → MeetsPlain edition before e → IsGoodBy edition before e
plain_good edition before e plain met =
    let kind = plain.kind in
    all_met edition before e met.open_still met.refers (vow_plain edition before e kind) (here_plain edition before e kind) met.opens_free met.uses_questions met.uses_numbers (goal_plain edition before e kind)
    (answer_plain edition before e kind) (bare_describes edition before e plain.bare) met.gives_back_held (result_plain edition before e kind) (resolve_plain edition before e kind)
    (λ received. bare_notes before e plain.bare) (embargo_plain edition before e kind)
