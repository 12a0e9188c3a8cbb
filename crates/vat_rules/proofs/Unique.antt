-- A log has one outcome.
use Rattle.std.proofs.Common.{◌≡◌, ℕ, ◌<◌, List, [], ◌∷◌, length, refl, sym, ◌∙◌, ap, subst, arith, inl, inr}
use Rattle.std.specs.Prelude.{Option, Some, None, Result, Ok, Err, slice_get, IsSomeAnd}
use Rattle.std.proofs.lemmas.Bool.{cases_lt}
use Rattle.std.proofs.lemmas.Option.{slice_get_within}
use Rattle.vat_log.specs.declared.body.Body.{Body}
use Rattle.vat_rules.specs.Types.{Edition, DecodedRecord}
use Rattle.vat_rules.specs.declared.rule.Rule.{Rule}
use Rattle.vat_rules.specs.declared.outcome.Why.{Why}
use Rattle.vat_rules.specs.declared.outcome.Outcome.{Outcome}
use Rattle.vat_rules.specs.declared.outcome.Outcome.TheVariants.{Good, Broken, Outside}
use Rattle.decoded_records.specs.Past.{Past}
use Rattle.vat_rules.specs.Rules.{rules}
use Rattle.vat_rules.specs.Events.{Reader, event_of, past_at}
use Rattle.vat_rules.specs.First.{IsReadAs, IsGoodAt, AllGood, IsFirst}
use Rattle.vat_rules.specs.Judged.{IsGoodBy, BreaksFirst}

-- a record that meets each rule breaks none
breaks_none : (edition : Edition) (tried : List Rule) (before : Past) (e : DecodedRecord) (broken : Rule) → IsGoodBy edition before e → BreaksFirst edition tried before e broken → ⊥
breaks_none edition [] before e broken good breaks = breaks
breaks_none edition (rule ∷ rest) before e broken good (inl here) = here.1 (good rule)
breaks_none edition (rule ∷ rest) before e broken good (inr later) = breaks_none edition rest before e broken good later.1

-- the first rule that a record breaks is one
one_rule : (edition : Edition) (tried : List Rule) (before : Past) (e : DecodedRecord) (a b : Rule) → BreaksFirst edition tried before e a → BreaksFirst edition tried before e b → a ≡ b
one_rule edition [] before e a b p q = absurd p
one_rule edition (rule ∷ rest) before e a b (inl p) (inl q) = sym p.0 ∙ q.0
one_rule edition (rule ∷ rest) before e a b (inl p) (inr q) = absurd (p.1 q.0)
one_rule edition (rule ∷ rest) before e a b (inr p) (inl q) = absurd (q.1 p.0)
one_rule edition (rule ∷ rest) before e a b (inr p) (inr q) = one_rule edition rest before e a b p.1 q.1

-- what there is has one value
one_value : {A : Type 0} (f : Body → A) (o : Option Body) (r s : A) → IsSomeAnd o (λ b. f b ≡ r) → IsSomeAnd o (λ b. f b ≡ s) → r ≡ s
one_value f (Some b) r s p q = sym p ∙ q
one_value f None r s p q = absurd p

-- what there is, is there
there_is : (P : Body → Type 0) (o : Option Body) → IsSomeAnd o P → (b : Body) × (o ≡ Some b)
there_is P (Some b) p = (b, refl)
there_is P None p = absurd p

-- a record that is read stands in the log
within : (read : Reader) (log : List Body) (i : ℕ) (r : Result DecodedRecord Why) → IsReadAs read log i r → i < length log
within read log i r p = let b = there_is (λ b. event_of read b ≡ r) (slice_get log i) p in slice_get_within log i b.0 b.1

-- a record is read in one way
reads_one : (read : Reader) (log : List Body) (i : ℕ) (r s : Result DecodedRecord Why) → IsReadAs read log i r → IsReadAs read log i s → r ≡ s
reads_one read log i r s p q = one_value (event_of read) (slice_get log i) r s p q

abbrev pub as_read : DecodedRecord → Result DecodedRecord Why
as_read e = Ok e

abbrev pub as_outside : Why → Result DecodedRecord Why
as_outside why = Err why

pub event_is : (a b : DecodedRecord) → as_read a ≡ as_read b → a ≡ b
event_is a b e = cc

why_is : (a b : Why) → as_outside a ≡ as_outside b → a ≡ b
why_is a b e = cc

pub read_outside : (a : DecodedRecord) (b : Why) → as_read a ≡ as_outside b → ⊥
read_outside a b e = cc

-- a good record breaks no rule
good_broken : (edition : Edition) (read : Reader) (log : List Body) (i : ℕ) (rule : Rule) → ((e : DecodedRecord) × IsReadAs read log i (Ok e) × BreaksFirst edition rules (past_at read log i) e rule) → IsGoodAt edition read log i → ⊥
good_broken edition read log i rule bad good =
    let same : bad.0 ≡ good.0 = event_is bad.0 good.0 (reads_one read log i (Ok bad.0) (Ok good.0) bad.1 good.1) in
    breaks_none edition rules (past_at read log i) good.0 rule good.2 (subst (λ e. BreaksFirst edition rules (past_at read log i) e rule) same bad.2)

-- a good record is read
good_outside : (edition : Edition) (read : Reader) (log : List Body) (i : ℕ) (why : Why) → IsReadAs read log i (Err why) → IsGoodAt edition read log i → ⊥
good_outside edition read log i why bad good = read_outside good.0 why (reads_one read log i (Ok good.0) (Err why) good.1 bad)

-- the first record that isn't good is one
one_place : (edition : Edition) (read : Reader) (log : List Body) (i j : ℕ) → AllGood edition read log i → AllGood edition read log j → (IsGoodAt edition read log i → ⊥) → (IsGoodAt edition read log j → ⊥) → i ≡ j
one_place edition read log i j p q bad worse = elim (cases_lt i j) [
  | inl lt ↦ absurd (bad (q i lt))
  | inr le ↦ elim (cases_lt j i) [
    | inl gt ↦ absurd (worse (p j gt))
    | inr ge ↦ omega arith
  ]
]

-- the two ways to be bad at one place
broken_twice : (edition : Edition) (read : Reader) (log : List Body) (i j : ℕ) (a b : Rule) → i ≡ j → ((e : DecodedRecord) × IsReadAs read log i (Ok e) × BreaksFirst edition rules (past_at read log i) e a) →
    ((e : DecodedRecord) × IsReadAs read log j (Ok e) × BreaksFirst edition rules (past_at read log j) e b) → Broken i a ≡ Broken j b
broken_twice edition read log i j a b at p q =
    let q' = subst (λ k. (e : DecodedRecord) × IsReadAs read log k (Ok e) × BreaksFirst edition rules (past_at read log k) e b) (sym at) q in
    let same : p.0 ≡ q'.0 = event_is p.0 q'.0 (reads_one read log i (Ok p.0) (Ok q'.0) p.1 q'.1) in
    let rule : a ≡ b = one_rule edition rules (past_at read log i) q'.0 a b (subst (λ e. BreaksFirst edition rules (past_at read log i) e a) same p.2) q'.2 in
    ap (λ k. Broken k a) at ∙ ap (λ r. Broken j r) rule

broken_outside : (edition : Edition) (read : Reader) (log : List Body) (i j : ℕ) (a : Rule) (why : Why) → i ≡ j → ((e : DecodedRecord) × IsReadAs read log i (Ok e) × BreaksFirst edition rules (past_at read log i) e a) →
    IsReadAs read log j (Err why) → ⊥
broken_outside edition read log i j a why at p q = read_outside p.0 why (reads_one read log i (Ok p.0) (Err why) p.1 (subst (λ k. IsReadAs read log k (Err why)) (sym at) q))

outside_twice : (read : Reader) (log : List Body) (i j : ℕ) (a b : Why) → i ≡ j → IsReadAs read log i (Err a) → IsReadAs read log j (Err b) → Outside i a ≡ Outside j b
outside_twice read log i j a b at p q =
    let why : a ≡ b = why_is a b (reads_one read log i (Err a) (Err b) p (subst (λ k. IsReadAs read log k (Err b)) (sym at) q)) in
    ap (λ k. Outside k a) at ∙ ap (λ w. Outside j w) why

-- a log has one outcome
pub one_outcome : (edition : Edition) (read : Reader) (log : List Body) (a b : Outcome) → IsFirst edition read log a → IsFirst edition read log b → a ≡ b
one_outcome edition read log (Good s) (Good t) p q = ap (λ story. Good story) (p.1 ∙ sym q.1)
one_outcome edition read log (Good s) (Broken j b) p q = absurd (good_broken edition read log j b q.1 (p.0 j (within read log j (Ok q.1.0) q.1.1)))
one_outcome edition read log (Good s) (Outside j b) p q = absurd (good_outside edition read log j b q.1 (p.0 j (within read log j (Err b) q.1)))
one_outcome edition read log (Broken i a) (Good t) p q = absurd (good_broken edition read log i a p.1 (q.0 i (within read log i (Ok p.1.0) p.1.1)))
one_outcome edition read log (Broken i a) (Broken j b) p q = broken_twice edition read log i j a b (one_place edition read log i j p.0 q.0 (good_broken edition read log i a p.1) (good_broken edition read log j b q.1)) p.1 q.1
one_outcome edition read log (Broken i a) (Outside j b) p q = absurd (broken_outside edition read log i j a b (one_place edition read log i j p.0 q.0 (good_broken edition read log i a p.1) (good_outside edition read log j b q.1)) p.1 q.1)
one_outcome edition read log (Outside i a) (Good t) p q = absurd (good_outside edition read log i a p.1 (q.0 i (within read log i (Err a) p.1)))
one_outcome edition read log (Outside i a) (Broken j b) p q = absurd (broken_outside edition read log j i b a (one_place edition read log j i q.0 p.0 (good_broken edition read log j b q.1) (good_outside edition read log i a p.1)) q.1 p.1)
one_outcome edition read log (Outside i a) (Outside j b) p q = outside_twice read log i j a b (one_place edition read log i j p.0 q.0 (good_outside edition read log i a p.1) (good_outside edition read log j b q.1)) p.1 q.1
