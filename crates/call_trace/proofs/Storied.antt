-- What a good finding tells, record by record.
use Rattle.std.proofs.Common.{◌≡◌, refl, sym, ◌∙◌, ap, ap₂, ℕ, zero, suc, ◌+◌, ◌<◌, ◌≤◌, List, [], ◌∷◌, ◌++◌, length, map, reverse, true, Option, Some, None, option_and_then, option_map, slice_get, arith, inl, inr, ◌⊎◌, length-append}
use Rattle.std.proofs.lemmas.List.{reverse-append}
use Rattle.std.proofs.lemmas.Option.{slice_get_past, slice_get-map}
use Rattle.vat_rules.specs.Audit.{Found, IsTrueOf, reads_within}
use Rattle.vat_rules.specs.LogFacts.{Entry, Told}
use Rattle.vat_rules.specs.Telling.{facts_of, entry_of, entries_back, told_of}
use Rattle.call_trace.specs.Types.{DecodedRecord}
use Rattle.call_trace.specs.Findings.{is_good}
use Rattle.call_trace.specs.Named.{past_before}
use Rattle.call_trace.specs.Taking.{event_in, record_in}
use Rattle.call_trace.specs.Glue.Ledgers.{story_in}
use Rattle.cap_reader.specs.declared.limits.Limits.{Limits}
use Rattle.vat_log.specs.Log.{Log}
use Rattle.vat_rules.proofs.Editions.{good_logs_good}
use Rattle.vat_rules.specs.declared.outcome.Outcome.{Outcome}
use Rattle.vat_rules.specs.declared.outcome.Outcome.TheVariants as outcome
use Rattle.call_trace.proofs.Reading.{IsGoodRecord, AllRecordsGood, records_good, reads_record, good_more}
use Rattle.call_trace.proofs.Keeping.{get_longer, get_last}

-- the entries of the records before a point, the oldest first
abbrev entries : Found → ℕ → List Entry
entries f n = reverse (entries_back (past_before f n))

entries_more : (f : Found) (n : ℕ) (r : IsGoodRecord f n) → entries f (n + 1) ≡ entries f n ++ entry_of (past_before f n) r.event ∷ []
entries_more f n r =
    ap (λ past. reverse (entries_back past)) (good_more f n r) ∙ reverse-append (entry_of (past_before f n) r.event ∷ []) (entries_back (past_before f n))

entries_long : (f : Found) → AllRecordsGood f → (n : ℕ) → n ≤ length f.log.records → length (entries f n) ≡ n
entries_long f all zero le = refl
entries_long f all (suc n) le =
    let r = all n (omega (arith, le)) in
    let one : n + 1 ≡ suc n = omega arith in
    ap (λ m. length (entries f m)) (sym one) ∙ ap length (entries_more f n r) ∙ length-append (entries f n) (entry_of (past_before f n) r.event ∷ [])
    ∙ ap (λ m. m + 1) (entries_long f all n (omega (arith, le))) ∙ one

-- it is the last, or one before
last_or : (i n : ℕ) → i < suc n → (i ≡ n) ⊎ (i < n)
last_or zero zero h = inl refl
last_or zero (suc n) h = inr (omega arith)
last_or (suc i) zero h = absurd (let none : ⊥ = omega (arith, h) in none)
last_or (suc i) (suc n) h = up (last_or i n (omega (arith, h)))
  where
    up : (i ≡ n) ⊎ (i < n) → (suc i ≡ suc n) ⊎ (suc i < suc n)
    up (inl e) = inl (ap suc e)
    up (inr l) = inr (omega (arith, l))

some_same : {A : Type 0} {x y : A} → Some x ≡ Some y → x ≡ y
some_same e = cc

-- the entry of the last record, and those before
entry_by : (f : Found) → AllRecordsGood f → (n i : ℕ) → n < length f.log.records → (last : IsGoodRecord f n) (r : IsGoodRecord f i) →
    (i < n → slice_get (entries f n) i ≡ Some (entry_of (past_before f i) r.event)) → (i ≡ n) ⊎ (i < n) →
    slice_get (entries f n ++ entry_of (past_before f n) last.event ∷ []) i ≡ Some (entry_of (past_before f i) r.event)
entry_by f all n i within last r so_far (inr before) =
    get_longer (entries f n) (entry_of (past_before f n) last.event) i (entry_of (past_before f i) r.event) (so_far before)
entry_by f all n i within last r so_far (inl here) =
    let long : length (entries f n) ≡ i = entries_long f all n (omega (arith, within)) ∙ sym here in
    let event : last.event ≡ r.event = some_same (sym (reads_record f n last) ∙ ap (record_in f) (sym here) ∙ reads_record f i r) in
    ap (slice_get (entries f n ++ entry_of (past_before f n) last.event ∷ [])) (sym long) ∙ get_last (entries f n) (entry_of (past_before f n) last.event)
    ∙ ap Some (ap₂ entry_of (ap (past_before f) (sym here)) event)

-- the entry of a record
entry_at : (f : Found) → AllRecordsGood f → (n i : ℕ) → n ≤ length f.log.records → i < n → (r : IsGoodRecord f i) → slice_get (entries f n) i ≡ Some (entry_of (past_before f i) r.event)
entry_at f all zero i le lt r = absurd (let none : ⊥ = omega (arith, lt) in none)
entry_at f all (suc n) i le lt r =
    let one : n + 1 ≡ suc n = omega arith in
    let within : n < length f.log.records = omega (arith, le) in
    let less : n ≤ length f.log.records = omega (arith, le) in
    let last = all n within in
    ap (λ m. slice_get (entries f m) i) (sym one) ∙ ap (λ es. slice_get es i) (entries_more f n last)
    ∙ entry_by f all n i within last r (λ before. entry_at f all n i less before r) (last_or i n lt)

-- what a good finding tells of the record of any number
told_at : (f : Found) → AllRecordsGood f → (i : ℕ) → slice_get (entries f (length f.log.records)) i ≡ option_map (λ e. entry_of (past_before f i) e) (record_in f i)
told_at f all i = at (within_or i (length f.log.records))
  where
    within_or : (i n : ℕ) → (i < n) ⊎ (n ≤ i)
    within_or i zero = inr (omega arith)
    within_or zero (suc n) = inl (omega arith)
    within_or (suc i) (suc n) = up (within_or i n)
      where
        up : (i < n) ⊎ (n ≤ i) → (suc i < suc n) ⊎ (suc n ≤ suc i)
        up (inl l) = inl (omega (arith, l))
        up (inr l) = inr (omega (arith, l))

    at : (i < length f.log.records) ⊎ (length f.log.records ≤ i) → slice_get (entries f (length f.log.records)) i ≡ option_map (λ e. entry_of (past_before f i) e) (record_in f i)
    at (inl lt) =
        let r = all i lt in
        entry_at f all (length f.log.records) i (omega arith) lt r ∙ ap (option_map (λ e. entry_of (past_before f i) e)) (sym (reads_record f i r))
    at (inr le) =
        slice_get_past (entries f (length f.log.records)) i (let long = entries_long f all (length f.log.records) (omega arith) in omega (arith, long, le))
        ∙ ap (λ o. option_map (λ e. entry_of (past_before f i) e) (option_and_then (event_in f) o)) (sym (slice_get_past f.log.records i le))

story_by : (log : Log) (limits : Limits) (o : Outcome) (story : Told) → IsTrueOf log limits o → story_in o ≡ Some story → story ≡ told_of (reads_within limits) log.records
story_by log limits (outcome.Good told) story first is = some_same (sym is) ∙ (good_logs_good log limits told first).1
story_by log limits (outcome.Broken at rule) story first is = absurd (let none : ⊥ = cc in none)
story_by log limits (outcome.Outside at why) story first is = absurd (let none : ⊥ = cc in none)

good_by : (o : Outcome) (story : Told) → story_in o ≡ Some story → is_good o ≡ true
good_by (outcome.Good told) story is = refl
good_by (outcome.Broken at rule) story is = absurd (let none : ⊥ = cc in none)
good_by (outcome.Outside at why) story is = absurd (let none : ⊥ = cc in none)

entry_told : (f : Found) (story : Told) → IsTrueOf f.log f.limits f.outcome → story_in f.outcome ≡ Some story → (i : ℕ) →
    slice_get story.entries i ≡ option_map (λ e. entry_of (past_before f i) e) (record_in f i)
entry_told f story first is i =
    ap (λ (told : Told). slice_get told.entries i) (story_by f.log f.limits f.outcome story first is)
    ∙ told_at f (records_good f first (good_by f.outcome story is)) i

-- its record
pub event_told : (f : Found) (story : Told) → IsTrueOf f.log f.limits f.outcome → story_in f.outcome ≡ Some story → (i : ℕ) →
    slice_get (map (λ (entry : Entry). entry.event) story.entries) i ≡ record_in f i
event_told f story first is i =
    slice_get-map (λ (entry : Entry). entry.event) story.entries i ∙ ap (option_map (λ (entry : Entry). entry.event)) (entry_told f story first is i) ∙ at (record_in f i)
  where
    at : (o : Option DecodedRecord) → option_map (λ (entry : Entry). entry.event) (option_map (λ e. entry_of (past_before f i) e) o) ≡ o
    at None = refl
    at (Some e) = refl

-- its facts
pub facts_told : (f : Found) (story : Told) → IsTrueOf f.log f.limits f.outcome → story_in f.outcome ≡ Some story → (i : ℕ) →
    slice_get (map (λ (entry : Entry). entry.facts) story.entries) i ≡ option_map (λ e. facts_of (past_before f i) e) (record_in f i)
facts_told f story first is i =
    slice_get-map (λ (entry : Entry). entry.facts) story.entries i ∙ ap (option_map (λ (entry : Entry). entry.facts)) (entry_told f story first is i) ∙ at (record_in f i)
  where
    at : (o : Option DecodedRecord) → option_map (λ (entry : Entry). entry.facts) (option_map (λ e. entry_of (past_before f i) e) o) ≡ option_map (λ e. facts_of (past_before f i) e) o
    at None = refl
    at (Some e) = refl
