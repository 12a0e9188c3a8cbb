-- Logs that go on behind their first records.
use Rattle.std.proofs.Common.{◌≡◌, ℕ, zero, suc, ◌<◌, ◌≤◌, List, [], ◌∷◌, ◌++◌, length, refl, sym, ap, subst, arith}
use Rattle.std.specs.Prelude.{Option, Some, None, Ok, Err, Result, slice_get, reverse, IsSomeAnd}
use Rattle.std.specs.List.{filter_map}
use Rattle.std.proofs.lemmas.List.{take-append-le}
use Rattle.std.proofs.lemmas.Option.{slice_get_within}
use Rattle.vat_log.specs.declared.body.Body.{Body}
use Rattle.vat_rules.specs.declared.outcome.Outcome.TheVariants.{Broken, Outside}
use Rattle.vat_rules.specs.declared.outcome.Why.{Why}
use Rattle.vat_rules.specs.declared.rule.Rule.{Rule}
use Rattle.vat_rules.specs.declared.taking.Refusal.{Refusal}
use Rattle.vat_rules.specs.declared.taking.Refusal.TheVariants as refusal
use Rattle.vat_rules.specs.Types.{Edition, DecodedRecord}
use Rattle.vat_rules.specs.Rules.{rules}
use Rattle.vat_rules.specs.Judged.{IsGoodBy, BreaksFirst}
use Rattle.vat_rules.specs.Events.{Reader, event_of, event_or_none, past_at}
use Rattle.vat_rules.specs.First.{IsReadAs, IsGoodAt, AllGood, IsFirst}
use Rattle.vat_rules.specs.Glue.Taking.{refused_at}

-- an element of the front
in_front : {A : Type 0} (xs ys : List A) (i : ℕ) (x : A) → slice_get xs i ≡ Some x → slice_get (xs ++ ys) i ≡ Some x
in_front [] ys i x h = absurd (let no : ⊥ = cc in no)
in_front (z ∷ xs) ys zero x h = h
in_front (z ∷ xs) ys (suc i) x h = in_front xs ys i x h

-- what is known of it
front_and : {A : Type 0} (P : A → Type 0) (xs ys : List A) (i : ℕ) (o : Option A) → slice_get xs i ≡ o → IsSomeAnd o P → IsSomeAnd (slice_get (xs ++ ys) i) P
front_and P xs ys i (Some x) here p = rw (in_front xs ys i x here) p
front_and P xs ys i None here p = absurd p

-- it stands there
is_within : {A : Type 0} (P : A → Type 0) (xs : List A) (i : ℕ) (o : Option A) → slice_get xs i ≡ o → IsSomeAnd o P → i < length xs
is_within P xs i (Some x) here p = slice_get_within xs i x here
is_within P xs i None here p = absurd p

-- the element behind all
pub at_the_end : {A : Type 0} (xs : List A) (x : A) → slice_get (xs ++ x ∷ []) (length xs) ≡ Some x
at_the_end [] x = refl
at_the_end (z ∷ xs) x = at_the_end xs x

-- what stands before a record of the front
pub past_longer : (read : Reader) (log more : List Body) (i : ℕ) → i ≤ length log → past_at read (log ++ more) i ≡ past_at read log i
past_longer read log more i le = ap (λ bs. reverse (filter_map (λ b. event_or_none (event_of read b)) bs)) (take-append-le i log more le)

-- a record of the front is read as before, and is as good
read_longer : (read : Reader) (log more : List Body) (i : ℕ) (r : Result DecodedRecord Why) → IsReadAs read log i r → IsReadAs read (log ++ more) i r
read_longer read log more i r is = front_and (λ b. event_of read b ≡ r) log more i (slice_get log i) refl is

read_within : (read : Reader) (log : List Body) (i : ℕ) (r : Result DecodedRecord Why) → IsReadAs read log i r → i < length log
read_within read log i r is = is_within (λ b. event_of read b ≡ r) log i (slice_get log i) refl is

same_past : (read : Reader) (log more : List Body) (i : ℕ) → i < length log → past_at read log i ≡ past_at read (log ++ more) i
same_past read log more i lt = sym (past_longer read log more i (omega (arith, lt)))

good_longer : (edition : Edition) (read : Reader) (log more : List Body) (i : ℕ) → IsGoodAt edition read log i → IsGoodAt edition read (log ++ more) i
good_longer edition read log more i (e, is, good) =
    let lt = read_within read log i (Ok e) is in
    (e, read_longer read log more i (Ok e) is, subst (λ p. IsGoodBy edition p e) (same_past read log more i lt) good)

-- so are all
pub all_longer : (edition : Edition) (read : Reader) (log more : List Body) (n : ℕ) → AllGood edition read log n → AllGood edition read (log ++ more) n
all_longer edition read log more n good = λ i lt. good_longer edition read log more i (good i lt)

-- the first that isn't good stays the first
pub broken_longer : (edition : Edition) (read : Reader) (log more : List Body) (at : ℕ) (rule : Rule) →
    IsFirst edition read log (Broken at rule) → IsFirst edition read (log ++ more) (Broken at rule)
broken_longer edition read log more at rule (good, (e, is, breaks)) =
    let lt = read_within read log at (Ok e) is in
    let still = subst (λ p. BreaksFirst edition rules p e rule) (same_past read log more at lt) breaks in
    (all_longer edition read log more at good, (e, read_longer read log more at (Ok e) is, still))

pub outside_longer : (edition : Edition) (read : Reader) (log more : List Body) (at : ℕ) (why : Why) →
    IsFirst edition read log (Outside at why) → IsFirst edition read (log ++ more) (Outside at why)
outside_longer edition read log more at why (good, is) = (all_longer edition read log more at good, read_longer read log more at (Err why) is)

pub refused_longer : (edition : Edition) (read : Reader) (log more : List Body) (at : ℕ) (answer : Refusal) →
    IsFirst edition read log (refused_at at answer) → IsFirst edition read (log ++ more) (refused_at at answer)
refused_longer edition read log more at (refusal.Broken rule) first = broken_longer edition read log more at rule first
refused_longer edition read log more at (refusal.Outside why) first = outside_longer edition read log more at why first
