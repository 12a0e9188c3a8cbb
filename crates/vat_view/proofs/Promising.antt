-- Of which kind lives are, by the tables.
use Rattle.std.proofs.Common.{◌≡◌, ◌<◌, ◌≤◌, inl, inr, refl, sym, ◌∙◌, ap, ap₂, ℕ, [], ◌∷◌, length, Bool, true, false, Option, Some, None, if◌then◌else◌, option_map, arith}
use Rattle.std.specs.Prelude.{is_some, nat_lt}
use Rattle.std.specs.Option.{option_or}
use Rattle.std.proofs.lemmas.Bool.{cases_Bool, lt-ltb, le-ltb}
use Rattle.decoded_records.specs.declared.origin.Origin.{Origin}
use Rattle.number_tables.specs.declared.question_table.Questions.{Questions}
use Rattle.number_tables.specs.declared.exports_imports.ExportsImports.{ExportsImports}
use Rattle.vat_view.specs.declared.tables.turns.resolves.Resolves.{Resolves}
use Rattle.vat_view.specs.Types.{DecodedRecord, TableKey}
use Rattle.decoded_records.specs.Past.{Past, Point, point, names, record_index, last_answer, last_where, last_since}
use Rattle.decoded_records.specs.Lives.{Birth, birth, begins, promise_resolved, is_resolved, is_in_life, began_promised}
use Rattle.number_tables.specs.Glue.LifeTables.{held_origin}
use Rattle.vat_view.specs.Glue.Tables.{origin_of, IsTabled}
use Rattle.vat_view.specs.Glue.KindTables.{resolve_at, last_resolve, AreResolved, resolved_since}
use Rattle.vat_view.proofs.Meaning.{held_known}
use Rattle.vat_view.proofs.Viewed.{birth_of, begins_parts, cases_option}

some_same : {A : Type 0} {x y : A} → Some x ≡ Some y → x ≡ y
some_same e = cc

none_some : {A : Type 0} {x : A} → None ≡ Some x → ⊥
none_some e = cc

-- ---- the records of lives

-- the record where a life begins now
pub begins_number : (i : TableKey) (before : Past) (e : DecodedRecord) (b : Birth) → begins i before e ≡ Some b → b.from ≡ point before e
begins_number i before e b h = let parts = begins_parts i before e b h in ap (λ x. x.from) parts.2

pub birth_below : (i : TableKey) (past : Past) (b : Birth) → last_answer (begins i) past ≡ Some b → record_index b.from < length past
birth_below i [] b h = absurd (none_some h)
birth_below i (e ∷ before) b h = elim (cases_option (begins i before e)) [
  | inl some ↦
      let same : begins i before e ≡ Some b = some.1 ∙ sym (ap (λ o. option_or o (last_answer (begins i) before)) some.1) ∙ h in
      let at : record_index b.from ≡ length before = ap (λ p. record_index p) (begins_number i before e b same) in omega (arith, at)
  | inr none ↦ let rest = birth_below i before b (sym (ap (λ o. option_or o (last_answer (begins i) before)) none) ∙ h) in omega (arith, rest)
]

pub where_below : (test : Past → DecodedRecord → Bool) (past : Past) (p : Point) → last_where test past ≡ Some p → record_index p < length past
where_below test [] p h = absurd (none_some h)
where_below test (e ∷ before) p h = elim (cases_Bool (test before e)) [
  | inl here ↦
      let at : record_index p ≡ length before = ap (λ x. record_index x) (sym (some_same (sym (ap (λ b. if b then Some (point before e) else last_where test before) here) ∙ h))) in omega (arith, at)
  | inr apart ↦ let rest = where_below test before p (sym (ap (λ b. if b then Some (point before e) else last_where test before) apart) ∙ h) in omega (arith, rest)
]

-- ---- the kind of a life

promised_from : (o : Option Birth) → option_map (λ origin. origin.promised) (option_map origin_of o) ≡ option_map began_promised o
promised_from (Some b) = refl
promised_from None = refl

pub promised_known : (past : Past) (questions : Questions) (lives : ExportsImports) → IsTabled past questions lives → (i : TableKey) →
    option_map (λ origin. origin.promised) (held_origin lives i) ≡ option_map began_promised (birth i past)
promised_known past questions lives tabled i = ap (λ o. option_map (λ origin. origin.promised) o) (held_known past questions lives tabled i) ∙ promised_from (birth i past)

-- ---- the Resolve of a life

abbrev later_than : ℕ → Option ℕ → Bool
later_than n (Some m) = nat_lt n m
later_than n None = false

not_later : (n : ℕ) (o : Option Point) → ((p : Point) → o ≡ Some p → record_index p ≤ n) → later_than n (option_map record_index o) ≡ false
not_later n (Some p) h = le-ltb n (record_index p) (h p refl)
not_later n None h = refl

since_birth : (i : TableKey) (past : Past) (b : Birth) → last_answer (begins i) past ≡ Some b →
    is_some (last_since (λ before e. is_some (begins i before e)) (λ before e. names i (promise_resolved e)) past) ≡ later_than (record_index b.from) (option_map record_index (last_resolve i past))
since_birth i [] b h = absurd (none_some h)
since_birth i (e ∷ before) b h = elim (cases_option (begins i before e)) [
  | inl some ↦
      let same : begins i before e ≡ Some b = some.1 ∙ sym (ap (λ o. option_or o (last_answer (begins i) before)) some.1) ∙ h in
      let at : record_index b.from ≡ length before = ap (λ p. record_index p) (begins_number i before e b same) in
      ap (λ o. is_some (if is_some o then None else if names i (promise_resolved e) then Some (point before e) else last_since (λ before e. is_some (begins i before e)) (λ before e. names i (promise_resolved e)) before)) some.1
      ∙ sym (not_later (record_index b.from) (last_resolve i (e ∷ before)) (λ p found. let below = where_below (λ before e. names i (promise_resolved e)) (e ∷ before) p found in omega (arith, below, at)))
  | inr none ↦
      let old : last_answer (begins i) before ≡ Some b = sym (ap (λ o. option_or o (last_answer (begins i) before)) none) ∙ h in
      ap (λ o. is_some (if is_some o then None else if names i (promise_resolved e) then Some (point before e) else last_since (λ before e. is_some (begins i before e)) (λ before e. names i (promise_resolved e)) before)) none
      ∙ elim (cases_Bool (names i (promise_resolved e))) [
        | inl here ↦
            ap (λ x. is_some (if x then Some (point before e) else last_since (λ before e. is_some (begins i before e)) (λ before e. names i (promise_resolved e)) before)) here
            ∙ sym (lt-ltb (record_index b.from) (length before) (birth_below i before b old))
            ∙ sym (ap (λ x. later_than (record_index b.from) (option_map record_index (if x then Some (point before e) else last_resolve i before))) here)
        | inr apart ↦
            ap (λ x. is_some (if x then Some (point before e) else last_since (λ before e. is_some (begins i before e)) (λ before e. names i (promise_resolved e)) before)) apart
            ∙ since_birth i before b old
            ∙ sym (ap (λ x. later_than (record_index b.from) (option_map record_index (if x then Some (point before e) else last_resolve i before))) apart)
      ]
]

since_some : (origin : Origin) (o : Option ℕ) → resolved_since (Some origin) o ≡ later_than origin.number o
since_some origin (Some m) = refl
since_some origin None = refl

pub resolved_known : (past : Past) (questions : Questions) (lives : ExportsImports) (resolves : Resolves) → IsTabled past questions lives → AreResolved past resolves → (i : TableKey) →
    resolved_since (held_origin lives i) (resolve_at resolves i) ≡ is_resolved i past
resolved_known past questions lives resolves tabled table i =
    ap₂ (λ o n. resolved_since o n) (held_known past questions lives tabled i) (table i) ∙ elim (cases_Bool (is_in_life i past)) [
      | inl alive ↦
          let b = birth_of i past alive in
          ap (λ o. resolved_since (option_map origin_of o) (option_map record_index (last_resolve i past))) b.1
          ∙ since_some (origin_of b.0) (option_map record_index (last_resolve i past)) ∙ sym (since_birth i past b.0 b.2)
          ∙ sym (ap (λ x. is_some (if x then last_since (λ before e. is_some (begins i before e)) (λ before e. names i (promise_resolved e)) past else None)) alive)
      | inr out ↦
          ap (λ x. resolved_since (option_map origin_of (if x then last_answer (begins i) past else None)) (option_map record_index (last_resolve i past))) out
          ∙ sym (ap (λ x. is_some (if x then last_since (λ before e. is_some (begins i before e)) (λ before e. names i (promise_resolved e)) past else None)) out)
    ]

-- ---- the table after a record

pub resolves_after : (before : Past) (e : DecodedRecord) (table after : Resolves) → AreResolved before table → (o : Option TableKey) → o ≡ promise_resolved e → (n : ℕ) → n ≡ length before →
    ((i : TableKey) → resolve_at after i ≡ (if names i o then Some n else resolve_at table i)) → AreResolved (e ∷ before) after
resolves_after before e table after kept o is_resolved n place changed i =
    changed i ∙ ap₂ (λ x m. if names i x then Some m else resolve_at table i) is_resolved place ∙ ap (λ x. if names i (promise_resolved e) then Some (length before) else x) (kept i)
    ∙ either (names i (promise_resolved e)) (last_resolve i before)
  where
    either : (b : Bool) (p : Option Point) → (if b then Some (length before) else option_map record_index p) ≡ option_map record_index (if b then Some (point before e) else p)
    either true p = refl
    either false p = refl
