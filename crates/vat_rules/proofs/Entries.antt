-- The entries of a story, as two lists.
use Rattle.std.proofs.Common.{◌≡◌, List, [], ◌∷◌, ◌++◌, length, map, refl, ap, arith}
use Rattle.vat_rules.specs.Types.{DecodedRecord}
use Rattle.vat_rules.specs.LogFacts.{Facts, Entry}
use Rattle.vat_rules.specs.Glue.Facts.{entries_with}

-- their records
pub events_of : (events : List DecodedRecord) (facts : List Facts) → length events ≡ length facts → map (λ (entry : Entry). entry.event) (entries_with events facts) ≡ events
events_of [] [] len = refl
events_of [] (s ∷ facts) len = refl
events_of (e ∷ events) [] len = absurd (let no : ⊥ = omega (arith, len) in no)
events_of (e ∷ events) (s ∷ facts) len = ap (λ es. e ∷ es) (events_of events facts (let shorter : length events ≡ length facts = omega (arith, len) in shorter))

-- their facts
pub facts_of_entries : (events : List DecodedRecord) (facts : List Facts) → length events ≡ length facts → map (λ (entry : Entry). entry.facts) (entries_with events facts) ≡ facts
facts_of_entries [] [] len = refl
facts_of_entries [] (s ∷ facts) len = absurd (let no : ⊥ = omega (arith, len) in no)
facts_of_entries (e ∷ events) [] len = refl
facts_of_entries (e ∷ events) (s ∷ facts) len = ap (λ ss. s ∷ ss) (facts_of_entries events facts (let shorter : length events ≡ length facts = omega (arith, len) in shorter))

-- with one more of each behind them
pub one_behind : (events : List DecodedRecord) (facts : List Facts) (e : DecodedRecord) (s : Facts) → length events ≡ length facts →
    entries_with (events ++ e ∷ []) (facts ++ s ∷ []) ≡ entries_with events facts ++ record { event = e; facts = s } ∷ []
one_behind [] [] e s len = refl
one_behind [] (t ∷ facts) e s len = absurd (let no : ⊥ = omega (arith, len) in no)
one_behind (d ∷ events) [] e s len = absurd (let no : ⊥ = omega (arith, len) in no)
one_behind (d ∷ events) (t ∷ facts) e s len =
    ap (λ es. record { event = d; facts = t } ∷ es) (one_behind events facts e s (let shorter : length events ≡ length facts = omega (arith, len) in shorter))
