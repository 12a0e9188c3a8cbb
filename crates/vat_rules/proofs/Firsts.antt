-- One record more of a log that is good so far.
use Rattle.std.proofs.Common.{◌≡◌, ℕ, suc, ◌+◌, ◌<◌, List, [], ◌∷◌, ◌++◌, take, length, map, refl, sym, ◌∙◌, ap, arith, below_more, subst}
use Rattle.std.specs.Prelude.{Option, Some, Ok, slice_get, reverse, IsSomeAnd, count_by}
use Rattle.std.specs.List.{filter_map}
use Rattle.std.proofs.Math.Seq.{take-suc}
use Rattle.std.proofs.lemmas.List.{reverse-append, reverse-reverse, map-append}
use Rattle.std.proofs.lemmas.List.Elements.{filter_map-append}
use Rattle.std.proofs.lemmas.Option.{slice_get_within, get_or_from_slice_get}
use Rattle.vat_log.specs.declared.body.Body.{Body}
use Rattle.vat_rules.specs.Types.{Edition, DecodedRecord}
use Rattle.vat_rules.specs.declared.outcome.Outcome.TheVariants.{Good, Broken}
use Rattle.vat_rules.specs.declared.rule.Rule.{Rule}
use Rattle.decoded_records.specs.Past.{Past}
use Rattle.vat_rules.specs.Rules.{rules}
use Rattle.vat_rules.specs.LogFacts.{Entry, Told}
use Rattle.vat_rules.specs.Events.{Reader, event_of, event_or_none, events_before, past_at}
use Rattle.vat_rules.specs.Telling.{entry_of, entries_back, is_delivery}
use Rattle.vat_rules.specs.Judged.{IsGoodBy, BreaksFirst}
use Rattle.vat_rules.specs.First.{IsGoodAt, AllGood, IsFirst}

-- what a log tells, by its parts
abbrev pub told : List Entry → ℕ → Told
told entries delivered = record { entries = entries; delivered = delivered }

-- the records before the next
pub take-more : {A : Type 0} (xs : List A) (at : ℕ) (x : A) → slice_get xs at ≡ Some x → take (at + 1) xs ≡ take at xs ++ x ∷ []
take-more xs at x here =
    let within : at < length xs = slice_get_within xs at x here in
    let one : at + 1 ≡ suc at = omega arith in
    rw (one, take-suc xs at x within, get_or_from_slice_get xs at x x here) refl

-- what a read record adds to the events
one_more : {A B : Type 0} (f : A → Option B) (x : A) (y : B) → f x ≡ Some y → filter_map f (x ∷ []) ≡ y ∷ []
one_more f x y e = rw e refl

-- the events of one record more
pub events_before-more : (read : Reader) (log : List Body) (at : ℕ) (b : Body) (e : DecodedRecord) → slice_get log at ≡ Some b → event_of read b ≡ Ok e →
    events_before read log (at + 1) ≡ events_before read log at ++ e ∷ []
events_before-more read log at b e here is =
    let f : Body → Option DecodedRecord = λ b. event_or_none (event_of read b) in
    ap (λ bs. filter_map f bs) (take-more log at b here) ∙ filter_map-append f (take at log) (b ∷ [])
    ∙ ap (λ es. events_before read log at ++ es) (one_more f b e (ap event_or_none is))

-- what stands before the next record, the newest first
pub past_at-more : (read : Reader) (log : List Body) (at : ℕ) (b : Body) (e : DecodedRecord) → slice_get log at ≡ Some b → event_of read b ≡ Ok e →
    past_at read log (at + 1) ≡ e ∷ past_at read log at
past_at-more read log at b e here is = ap reverse (events_before-more read log at b e here is) ∙ reverse-append (events_before read log at) (e ∷ [])

-- what is gathered, with one more record behind it
pub gathered_more : (past more : Past) (e : DecodedRecord) (so_far longer : List Entry) → more ≡ e ∷ past → longer ≡ so_far ++ entry_of past e ∷ [] →
    so_far ≡ reverse (entries_back past) → longer ≡ reverse (entries_back more)
gathered_more past more e so_far longer same put is =
    put ∙ ap (λ xs. xs ++ entry_of past e ∷ []) is ∙ sym (reverse-append (entry_of past e ∷ []) (entries_back past)) ∙ ap (λ p. reverse (entries_back p)) (sym same)

-- the records of the entries are the records
events_back : (past : Past) → map (λ (entry : Entry). entry.event) (reverse (entries_back past)) ≡ reverse past
events_back [] = refl
events_back (e ∷ before) =
    ap (λ xs. map (λ (entry : Entry). entry.event) xs) (reverse-append (entry_of before e ∷ []) (entries_back before))
    ∙ map-append (λ (entry : Entry). entry.event) (reverse (entries_back before)) (entry_of before e ∷ [])
    ∙ ap (λ es. es ++ e ∷ []) (events_back before)
    ∙ sym (reverse-append (e ∷ []) before)

-- a record is read as what its body gives
pub read_at : (P : Body → Type 0) (log : List Body) (at : ℕ) (b : Body) → slice_get log at ≡ Some b → P b → IsSomeAnd (slice_get log at) P
read_at P log at b here p = rw here p

-- the first bad record
pub is_first-Broken : (edition : Edition) (read : Reader) (log : List Body) (at : ℕ) (b : Body) (e : DecodedRecord) (past : Past) (rule : Rule) → slice_get log at ≡ Some b → event_of read b ≡ Ok e →
    past ≡ past_at read log at → BreaksFirst edition rules past e rule → ((j : ℕ) → j < at → IsGoodAt edition read log j) → IsFirst edition read log (Broken at rule)
is_first-Broken edition read log at b e past rule here is before breaks good =
    (good, (e, read_at (λ b. event_of read b ≡ Ok e) log at b here is, subst (λ p. BreaksFirst edition rules p e rule) before breaks))

-- one good record more
pub good-more : (edition : Edition) (read : Reader) (log : List Body) (at : ℕ) (b : Body) (e : DecodedRecord) (past : Past) → slice_get log at ≡ Some b → event_of read b ≡ Ok e →
    past ≡ past_at read log at → IsGoodBy edition past e → ((j : ℕ) → j < at → IsGoodAt edition read log j) → (j : ℕ) → j < at + 1 → IsGoodAt edition read log j
good-more edition read log at b e past here is before is_good good =
    below_more _ at good (e, read_at (λ b. event_of read b ≡ Ok e) log at b here is, subst (λ p. IsGoodBy edition p e) before is_good)

-- a story is what its events tell
same_story : (past : Past) (events : List DecodedRecord) (gathered : List Entry) → past ≡ reverse events → gathered ≡ reverse (entries_back past) →
    told gathered (count_by is_delivery (map (λ (entry : Entry). entry.event) gathered)) ≡ told (reverse (entries_back (reverse events))) (count_by is_delivery events)
same_story past events gathered is gathered_is =
    ap (λ es. told es (count_by is_delivery (map (λ (entry : Entry). entry.event) es))) gathered_is
    ∙ ap (λ es. told (reverse (entries_back past)) (count_by is_delivery es)) (events_back past)
    ∙ ap (λ p. told (reverse (entries_back p)) (count_by is_delivery (reverse p))) is
    ∙ ap (λ es. told (reverse (entries_back (reverse events))) (count_by is_delivery es)) (reverse-reverse events)

-- all records are good
pub is_first-Good : (edition : Edition) (read : Reader) (log : List Body) (past : Past) (gathered : List Entry) (story : Told) → AllGood edition read log (length log) →
    past ≡ past_at read log (length log) → gathered ≡ reverse (entries_back past) → story ≡ told gathered (count_by is_delivery (map (λ (entry : Entry). entry.event) gathered)) →
    IsFirst edition read log (Good story)
is_first-Good edition read log past gathered story good whole gathered_is is = (good, is ∙ same_story past (events_before read log (length log)) gathered whole gathered_is)
