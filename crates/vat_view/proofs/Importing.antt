-- What came in: the table after a record, and what lives of imports say.
use Rattle.std.proofs.Common.{◌≡◌, ◌+◌, ◌≤◌, inl, inr, refl, sym, ◌∙◌, ap, ap₂, subst, ℕ, zero, suc, ◌==◌, List, [], ◌∷◌, length, map, Bool, true, false, not, Option, Some, None, if◌then◌else◌, option_map, option_and_then, arith}
use Rattle.std.specs.Prelude.{find, slice_get, is_some, ◌||◌}
use Rattle.std.specs.List.{list_any, position_from}
use Rattle.std.specs.Option.{option_or, option_map_or}
use Rattle.std.specs.Str.{bytes_eq as same_path}
use Rattle.std.proofs.lemmas.Bool.{cases_Bool, false≢true, or_parts, eqb-true, ne_eqb}
use Rattle.vat_view.specs.declared.tables.arrivals.Arrivals.{Arrivals}
use Rattle.vat_view.specs.Types.{Descriptor, NoCap, SenderHosted, SenderPromise, ReceiverHosted, ReceiverAnswer, Results, TakeFrom, Cap, Return, Resolve, RpcMessage, DecodedRecord, Wire, TableKey}
use Rattle.decoded_records.specs.Past.{Past, record_at}
use Rattle.decoded_records.specs.Lives.{descriptors, descriptors_of}
use Rattle.vat_view.specs.Arrivals.{Arrival, brings, brought_at, arrived}
use Rattle.vat_view.specs.Connections.{names_back, brings_back}
use Rattle.vat_view.specs.Glue.ArrivalTables.{hosted_in, has_back, may_bring_back, arriving_over, field_back, back_among, arrival_over, brought_over, arrival_at, back_at, back_of, AreArrived}

some_same : {A : Type 0} {x y : A} → Some x ≡ Some y → x ≡ y
some_same e = cc

none_some : {A : Type 0} {x : A} → None ≡ Some x → ⊥
none_some e = cc

-- ---- what a record brings

module _ (k c : ℕ) (rs : List ℕ) (m : RpcMessage) where
  abbrev received : DecodedRecord
  received = Wire false k c rs m

  brings_by : (d : Descriptor) → option_map (arrival_over k) (hosted_in d) ≡ brings received d
  brings_by NoCap = refl
  brings_by (SenderHosted n) = refl
  brings_by (SenderPromise n) = refl
  brings_by (ReceiverHosted n) = refl
  brings_by (ReceiverAnswer n path) = refl

  there : (ds : List Descriptor) (place : ℕ) → brought_over k (map hosted_in ds) place ≡ option_and_then (brings received) (slice_get ds place)
  there [] place = refl
  there (d ∷ ds) zero = brings_by d
  there (d ∷ ds) (suc place) = there ds place

  from_none : (o : Option Bool) → is_some o ≡ false → option_map (arrival_over k) o ≡ None
  from_none None h = refl
  from_none (Some b) h = absurd (false≢true (sym h))

  none_there : (ds : List Descriptor) → list_any (λ d. is_some (hosted_in d)) ds ≡ false → (place : ℕ) → option_and_then (brings received) (slice_get ds place) ≡ None
  none_there [] h place = refl
  none_there (d ∷ ds) h zero = sym (brings_by d) ∙ from_none (hosted_in d) (or_parts (is_some (hosted_in d)) (list_any (λ d. is_some (hosted_in d)) ds) h).0
  none_there (d ∷ ds) h (suc place) = none_there ds (or_parts (is_some (hosted_in d)) (list_any (λ d. is_some (hosted_in d)) ds) h).1 place

  sent_none : (o : Option Descriptor) → option_and_then (brings (Wire true k c rs m)) o ≡ None
  sent_none None = refl
  sent_none (Some d) = refl

over_this : (b : Bool) (j k : ℕ) → (if b then Some j else None) ≡ Some k → j ≡ k
over_this true j k h = some_same h
over_this false j k h = absurd (none_some h)

all_brought : (e : DecodedRecord) (k : ℕ) → arriving_over e ≡ Some k → (place : ℕ) → brought_over k (map hosted_in (descriptors e)) place ≡ brought_at e place
all_brought (Wire false j c rs m) k h place =
    subst (λ x. brought_over x (map hosted_in (descriptors_of m)) place ≡ brought_at (Wire false j c rs m) place) (over_this _ j k h) (there j c rs m (descriptors_of m) place)
all_brought _ k h place = absurd (none_some h)

not_over : (b : Bool) (k : ℕ) → (if b then Some k else None) ≡ None → b ≡ false
not_over true k h = absurd (none_some (sym h))
not_over false k h = refl

nothing_brought : (e : DecodedRecord) → arriving_over e ≡ None → (place : ℕ) → brought_at e place ≡ None
nothing_brought (Wire false k c rs m) h place =
    none_there k c rs m (descriptors_of m) (or_parts (list_any (λ d. is_some (hosted_in d)) (descriptors_of m)) (may_bring_back (Wire false k c rs m)) (not_over _ k h)).0 place
nothing_brought (Wire true k c rs m) h place = sent_none k c rs m (slice_get (descriptors_of m) place)
nothing_brought _ h place = refl

-- ---- what a record brings back

names_none : (ds : List Descriptor) → has_back ds ≡ false → (place : ℕ) → names_back (slice_get ds place) ≡ false
names_none [] h place = refl
names_none (d ∷ ds) h zero = (or_parts (names_back (Some d)) (has_back ds) h).0
names_none (d ∷ ds) h (suc place) = names_none ds (or_parts (names_back (Some d)) (has_back ds) h).1 place

-- where a record brings nothing back by its descriptors, it does so at no path
pub brings_none : (e : DecodedRecord) → may_bring_back e ≡ false → (path : List ℕ) → brings_back path e ≡ false
brings_none (Wire false k c rs (Return head (Results payload))) h path = at (find (λ field. same_path field.0 path) payload.fields)
  where
    at : (o : Option (List ℕ × ℕ)) → names_back (option_and_then (λ field. slice_get payload.descriptors field.1) o) ≡ false
    at (Some field) = names_none payload.descriptors h field.1
    at None = refl
brings_none (Wire false k c rs (Return head (TakeFrom n))) h path = absurd (false≢true (sym h))
brings_none (Wire false k c rs (Resolve n (Cap d))) h path = h
brings_none _ h path = refl

-- what is kept of results says what they bring back
pub fields_kept : (ds : List Descriptor) (fields : List (List ℕ × ℕ)) (path : List ℕ) →
    back_among path (map (field_back ds) fields)
    ≡ names_back (option_and_then (λ field. slice_get ds field.1) (find (λ field. same_path field.0 path) fields))
fields_kept ds [] path = refl
fields_kept ds (f ∷ fields) path = either (same_path f.0 path) (fields_kept ds fields path)
  where
    either : (b : Bool) → back_among path (map (field_back ds) fields) ≡ names_back (option_and_then (λ field. slice_get ds field.1) (find (λ field. same_path field.0 path) fields)) →
        option_map_or (λ field. field.0) (if b then Some (field_back ds f) else find (λ field. same_path field.1 path) (map (field_back ds) fields)) false
        ≡ names_back (option_and_then (λ field. slice_get ds field.1) (if b then Some f else find (λ field. same_path field.0 path) fields))
    either true rest = refl
    either false rest = rest

nothing_back : (e : DecodedRecord) → arriving_over e ≡ None → (path : List ℕ) → brings_back path e ≡ false
nothing_back (Wire false k c rs m) h path =
    brings_none (Wire false k c rs m) (or_parts (list_any (λ d. is_some (hosted_in d)) (descriptors_of m)) (may_bring_back (Wire false k c rs m)) (not_over _ k h)).1 path
nothing_back (Wire true k c rs m) h path = refl
nothing_back _ h path = refl

-- ---- the table after a record

none_beyond : (past : Past) (n : ℕ) → length past ≤ n → record_at n past ≡ None
none_beyond [] n h = refl
none_beyond (e ∷ before) n h =
    ap (λ b. option_or (if b then Some e else None) (record_at n before)) (ne_eqb (length before) n (λ same. let no : ⊥ = omega (arith, same, h) in no))
    ∙ none_beyond before n (omega (arith, h))

back_next : (before : Past) (e : DecodedRecord) (n : ℕ) (path : List ℕ) → back_of (e ∷ before) n path ≡ (if length before == n then brings_back path e else back_of before n path)
back_next before e n path = either (length before == n)
  where
    either : (b : Bool) → option_map_or (brings_back path) (option_or (if b then Some e else None) (record_at n before)) false ≡ (if b then brings_back path e else back_of before n path)
    either true = refl
    either false = refl

no_back_next : (past : Past) (path : List ℕ) → back_of past (length past) path ≡ false
no_back_next past path = ap (λ o. option_map_or (brings_back path) o false) (none_beyond past (length past) (omega arith))

nothing_next : (past : Past) (place : ℕ) → arrived past (length past) place ≡ None
nothing_next past place = ap (λ o. option_and_then (λ e. brought_at e place) o) (none_beyond past (length past) (omega arith))

arrived_next : (before : Past) (e : DecodedRecord) (n place : ℕ) → arrived (e ∷ before) n place ≡ (if length before == n then brought_at e place else arrived before n place)
arrived_next before e n place = either (length before == n)
  where
    either : (b : Bool) → option_and_then (λ e. brought_at e place) (option_or (if b then Some e else None) (record_at n before)) ≡ (if b then brought_at e place else arrived before n place)
    either true = refl
    either false = refl

pub arrivals_after : (before : Past) (e : DecodedRecord) (old new : Arrivals) (number k : ℕ) → number ≡ length before → arriving_over e ≡ Some k →
    ((n place : ℕ) → arrival_at new n place ≡ (if number == n then brought_over k (map hosted_in (descriptors e)) place else arrival_at old n place)) →
    ((n : ℕ) (path : List ℕ) → back_at new n path ≡ (if number == n then brings_back path e else back_at old n path)) →
    AreArrived before old → AreArrived (e ∷ before) new
arrivals_after before e old new number k at arrives puts puts_back kept = record {
  imports = λ n place.
      puts n place ∙ ap₂ (λ x y. if number == n then x else y) (all_brought e k arrives place) (kept.imports n place)
      ∙ ap (λ m. if m == n then brought_at e place else arrived before n place) at ∙ sym (arrived_next before e n place);
  back = λ n path.
      puts_back n path ∙ ap (λ y. if number == n then brings_back path e else y) (kept.back n path)
      ∙ ap (λ m. if m == n then brings_back path e else back_of before n path) at ∙ sym (back_next before e n path);
}

pub arrivals_still : (before : Past) (e : DecodedRecord) (table : Arrivals) → arriving_over e ≡ None → AreArrived before table → AreArrived (e ∷ before) table
arrivals_still before e table none kept = record {
  imports = λ n place. kept.imports n place ∙ still n place (length before == n) refl ∙ sym (arrived_next before e n place);
  back = λ n path. kept.back n path ∙ still_back n path (length before == n) refl ∙ sym (back_next before e n path);
}
  where
    still : (n place : ℕ) (b : Bool) → (length before == n) ≡ b → arrived before n place ≡ (if b then brought_at e place else arrived before n place)
    still n place false h = refl
    still n place true h = ap (λ m. arrived before m place) (sym (eqb-true (length before) n h)) ∙ nothing_next before place ∙ sym (nothing_brought e none place)

    still_back : (n : ℕ) (path : List ℕ) (b : Bool) → (length before == n) ≡ b → back_of before n path ≡ (if b then brings_back path e else back_of before n path)
    still_back n path false h = refl
    still_back n path true h = ap (λ m. back_of before m path) (sym (eqb-true (length before) n h)) ∙ no_back_next before path ∙ sym (nothing_back e none path)

pub arrivals_forgotten : (before : Past) (old put new : Arrivals) (number : ℕ) (f : ℕ → Option Arrival) (g : List ℕ → Bool) → number ≡ length before →
    ((n place : ℕ) → arrival_at put n place ≡ (if number == n then f place else arrival_at old n place)) →
    ((n : ℕ) (path : List ℕ) → back_at put n path ≡ (if number == n then g path else back_at old n path)) →
    ((n place : ℕ) → arrival_at new n place ≡ (if number == n then None else arrival_at put n place)) →
    ((n : ℕ) (path : List ℕ) → back_at new n path ≡ (if number == n then false else back_at put n path)) → AreArrived before old → AreArrived before new
arrivals_forgotten before old put new number f g at puts puts_back forgets forgets_back kept = record {
  imports = λ n place. forgets n place ∙ either n place (number == n) refl;
  back = λ n path. forgets_back n path ∙ either_back n path (number == n) refl;
}
  where
    either : (n place : ℕ) (b : Bool) → (number == n) ≡ b → (if b then None else arrival_at put n place) ≡ arrived before n place
    either n place true h = sym (nothing_next before place) ∙ ap (λ m. arrived before m place) (sym at ∙ eqb-true number n h)
    either n place false h = puts n place ∙ ap (λ b. if b then f place else arrival_at old n place) h ∙ kept.imports n place

    either_back : (n : ℕ) (path : List ℕ) (b : Bool) → (number == n) ≡ b → (if b then false else back_at put n path) ≡ back_of before n path
    either_back n path true h = sym (no_back_next before path) ∙ ap (λ m. back_of before m path) (sym at ∙ eqb-true number n h)
    either_back n path false h = puts_back n path ∙ ap (λ b. if b then g path else back_at old n path) h ∙ kept.back n path

-- ---- what lives of imports say: each view of an import is that of such a life

found_there : {A : Type 0} (test : A → Bool) (xs : List A) (p q : ℕ) → position_from test p xs ≡ Some q → (j : ℕ) × (x : A) × (q ≡ p + j) × (slice_get xs j ≡ Some x) × (test x ≡ true)
found_there test [] p q h = absurd (none_some h)
found_there test (x ∷ xs) p q h = elim (cases_Bool (test x)) [
  | inl here ↦
      let same : p ≡ q = some_same (sym (ap (λ b. if b then Some p else position_from test (p + 1) xs) here) ∙ h) in
      (0, x, omega (arith, same), refl, here)
  | inr apart ↦
      let rest = found_there test xs (p + 1) q (sym (ap (λ b. if b then Some p else position_from test (p + 1) xs) apart) ∙ h) in
      let e = rest.2 in (suc rest.0, rest.1, omega (arith, e), rest.3, rest.4)
]

-- the import of a number of the peer's that was introduced so
abbrev pub imported : TableKey → Bool → Arrival
imported i promised = record { connection = i.connection; hosted = not promised }
