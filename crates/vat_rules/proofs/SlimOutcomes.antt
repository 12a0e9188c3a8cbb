-- What an audit finds that keeps no record.
use Rattle.std.proofs.Common.{◌≡◌, ℕ, suc, ◌+◌, List, [], ◌∷◌, length, refl, sym, ◌∙◌, ap, if◌then◌else◌, arith}
use Rattle.std.specs.Prelude.{reverse, count_by}
use Rattle.std.proofs.lemmas.List.{length-reverse}
use Rattle.std.proofs.lemmas.List.Sorted.{sum_by-IsPermutation, IsPermutation-reverse}
use Rattle.std.proofs.lemmas.List.Sums.{sum_by-cons}
use Rattle.vat_log.specs.declared.body.Body.{Body}
use Rattle.decoded_records.specs.Past.{Past}
use Rattle.vat_rules.specs.Types.{Edition, DecodedRecord}
use Rattle.vat_rules.specs.declared.outcome.Outcome.TheVariants.{Good}
use Rattle.vat_rules.specs.Events.{Reader, events_before, past_at}
use Rattle.vat_rules.specs.Telling.{entries_back, is_delivery}
use Rattle.vat_rules.specs.First.{AllGood, IsFirst}
use Rattle.vat_rules.proofs.Firsts.{told}

-- as many deliveries with one more record
pub counted_more : (e : DecodedRecord) (past : Past) (n : ℕ) → n ≡ count_by is_delivery past → n + (if is_delivery e then 1 else 0) ≡ count_by is_delivery (e ∷ past)
counted_more e past n is = let one = sum_by-cons (λ x. if is_delivery x then 1 else 0) e past in omega (arith, is, one)

-- as many in whichever order
counted_back : (events : List DecodedRecord) → count_by is_delivery (reverse events) ≡ count_by is_delivery events
counted_back events = sum_by-IsPermutation (λ x. if is_delivery x then 1 else 0) events (reverse events) (IsPermutation-reverse events)

-- as many entries as records
told_back : (past : Past) → length (entries_back past) ≡ length past
told_back [] = refl
told_back (e ∷ before) = ap suc (told_back before)

pub records_told : (past : Past) (n : ℕ) → n ≡ length past → n ≡ length (reverse (entries_back past))
records_told past n is = is ∙ sym (told_back past) ∙ sym (length-reverse (entries_back past))

-- all records are good
pub good_by : (edition : Edition) (read : Reader) (log : List Body) (past : Past) (delivered : ℕ) → AllGood edition read log (length log) → past ≡ past_at read log (length log) →
    delivered ≡ count_by is_delivery past → IsFirst edition read log (Good (told (reverse (entries_back past)) delivered))
good_by edition read log past delivered good whole counted = (
  good,
  ap (λ p. told (reverse (entries_back p)) delivered) whole
      ∙ ap (λ n. told (reverse (entries_back (past_at read log (length log)))) n) (counted ∙ ap (λ p. count_by is_delivery p) whole ∙ counted_back (events_before read log (length log))),
)

-- one record more
pub one_longer : (e : DecodedRecord) (past : Past) → length (e ∷ past) ≡ length past + 1
one_longer e past = omega arith
