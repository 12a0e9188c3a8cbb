-- A Resolve of a life that had none turns an import that stays.
use Rattle.std.proofs.Common.{◌≡◌, ◌+◌, ◌≤◌, ◌⊎◌, inl, inr, refl, sym, ◌∙◌, ap, subst, ℕ, ◌==◌, List, [], ◌∷◌, length, Bool, true, false, Option, Some, None, if◌then◌else◌, arith}
use Rattle.std.specs.Prelude.{is_some, unwrap_or, IsSome}
use Rattle.std.specs.List.{position_from}
use Rattle.std.specs.Option.{option_or}
use Rattle.std.proofs.lemmas.Bool.{and_parts, cases_Bool, false≢true, eqb-true}
use Rattle.vat_view.specs.Types.{Descriptor, Resolution, Resolve, DecodedRecord, Wire, Object, Promise, FieldOf, Import, TableKey}
use Rattle.decoded_records.specs.Past.{Past, point, id, names, record_index, last_answer, last_since}
use Rattle.decoded_records.specs.Lives.{Birth, birth, begins, promise_resolved, is_resolved, is_in_life, descriptors, number_introduced}
use Rattle.vat_view.specs.Walks.{Next, stays, began_at, resolves, next, TurnsOnce}
use Rattle.decoded_records.proofs.Naming.{same_id_self, names_is}
use Rattle.vat_view.proofs.Originating.{found_later}
use Rattle.vat_view.proofs.Viewed.{begins_parts, cases_option}
use Rattle.vat_view.proofs.Promising.{begins_number, birth_below}

some_same : {A : Type 0} {x y : A} → Some x ≡ Some y → x ≡ y
some_same e = cc

none_some : {A : Type 0} {x : A} → None ≡ Some x → ⊥
none_some e = cc

-- ---- a record and a place introduce one number

one_introduced : (f : Descriptor → Option TableKey) (i j : TableKey) (ds : List Descriptor) (p q : ℕ) → position_from (λ d. names i (f d)) p ds ≡ Some q → position_from (λ d. names j (f d)) p ds ≡ Some q → i ≡ j
one_introduced f i j [] p q h g = absurd (none_some h)
one_introduced f i j (d ∷ ds) p q h g = elim (cases_Bool (names i (f d))) [
  | inl first ↦ elim (cases_Bool (names j (f d))) [
    | inl other ↦ some_same (sym (names_is i (f d) first) ∙ names_is j (f d) other)
    | inr apart ↦
        let here : p ≡ q = some_same (sym (ap (λ b. if b then Some p else position_from (λ d. names i (f d)) (p + 1) ds) first) ∙ h) in
        let later = found_later (λ d. names j (f d)) ds (p + 1) q (sym (ap (λ b. if b then Some p else position_from (λ d. names j (f d)) (p + 1) ds) apart) ∙ g) in
        absurd (let no : ⊥ = omega (arith, here, later) in no)
  ]
  | inr apart ↦
      let rest = sym (ap (λ b. if b then Some p else position_from (λ d. names i (f d)) (p + 1) ds) apart) ∙ h in
      let later = found_later (λ d. names i (f d)) ds (p + 1) q rest in
      elim (cases_Bool (names j (f d))) [
        | inl other ↦
            let here : p ≡ q = some_same (sym (ap (λ b. if b then Some p else position_from (λ d. names j (f d)) (p + 1) ds) other) ∙ g) in
            absurd (let no : ⊥ = omega (arith, here, later) in no)
        | inr beside ↦ one_introduced f i j ds (p + 1) q rest (sym (ap (λ b. if b then Some p else position_from (λ d. names j (f d)) (p + 1) ds) beside) ∙ g)
      ]
]

begun_here : (i j : TableKey) (before : Past) (e : DecodedRecord) (b c : Birth) → begins i before e ≡ Some b → begins j before e ≡ Some c → b.place ≡ c.place → i ≡ j
begun_here i j before e b c h g same =
    let first = begins_parts i before e b h in
    let other = begins_parts j before e c g in
    one_introduced (number_introduced e) i j (descriptors e) 0 first.0 first.1
    (other.1 ∙ ap (λ q. Some q) (sym (ap (λ x. x.place) other.2) ∙ sym same ∙ ap (λ x. x.place) first.2))

now_or_before : (i : TableKey) (before : Past) (e : DecodedRecord) (b : Birth) → last_answer (begins i) (e ∷ before) ≡ Some b → (begins i before e ≡ Some b) ⊎ ((begins i before e ≡ None) × (last_answer (begins i) before ≡ Some b))
now_or_before i before e b h = elim (cases_option (begins i before e)) [
  | inl some ↦ inl (some.1 ∙ sym (ap (λ o. option_or o (last_answer (begins i) before)) some.1) ∙ h)
  | inr none ↦ inr (none, sym (ap (λ o. option_or o (last_answer (begins i) before)) none) ∙ h)
]

-- two lives that began at one record and place are of one number
one_number : (i j : TableKey) (past : Past) (b c : Birth) → last_answer (begins i) past ≡ Some b → last_answer (begins j) past ≡ Some c → record_index b.from ≡ record_index c.from → b.place ≡ c.place → i ≡ j
one_number i j [] b c h g at place = absurd (none_some h)
one_number i j (e ∷ before) b c h g at place = elim (now_or_before i before e b h) [
  | inl first ↦ elim (now_or_before j before e c g) [
    | inl other ↦ begun_here i j before e b c first other place
    | inr other ↦
        let here : record_index b.from ≡ length before = ap (λ p. record_index p) (begins_number i before e b first) in
        let below = birth_below j before c other.1 in absurd (let no : ⊥ = omega (arith, here, below, at) in no)
  ]
  | inr first ↦ elim (now_or_before j before e c g) [
    | inl other ↦
        let here : record_index c.from ≡ length before = ap (λ p. record_index p) (begins_number j before e c other) in
        let below = birth_below i before b first.1 in absurd (let no : ⊥ = omega (arith, here, below, at) in no)
    | inr other ↦ one_number i j before b c first.1 other.1 at place
  ]
]

-- ---- a life that has no Resolve

-- what began at a record and a place, if it did
began_there : (number place : ℕ) (o : Option Birth) → began_at number place o ≡ true → (b : Birth) × (o ≡ Some b) × (record_index b.from ≡ number) × (b.place ≡ place)
began_there number place (Some b) h =
    let parts = and_parts (record_index b.from == number) (b.place == place) h in (b, refl, eqb-true (record_index b.from) number parts.0, eqb-true b.place place parts.1)
began_there number place None h = absurd (false≢true h)

birth_last : (i : TableKey) (past : Past) (b : Birth) → birth i past ≡ Some b → (is_in_life i past ≡ true) × (last_answer (begins i) past ≡ Some b)
birth_last i past b h = inner (is_in_life i past) h
  where
    inner : (alive : Bool) → (if alive then last_answer (begins i) past else None) ≡ Some b → (alive ≡ true) × (last_answer (begins i) past ≡ Some b)
    inner true g = (refl, g)
    inner false g = absurd (none_some g)

resolves_none : (number place : ℕ) (before : Past) (e : DecodedRecord) →
    ((k n : ℕ) → names (id k false n) (promise_resolved e) ≡ true → began_at number place (birth (id k false n) before) ≡ true → ⊥) → resolves number place before e ≡ None
resolves_none number place before (Wire false k c rs (Resolve n resolution)) never = inner _ (began_at number place (birth (id k false n) before)) (never k n (same_id_self (id k false n)))
  where
    inner : (x : Next) (b : Bool) → (b ≡ true → ⊥) → (if b then Some x else None) ≡ None
    inner x true h = absurd (h refl)
    inner x false h = refl
resolves_none number place before _ never = refl

-- no import is resolved before the record that brought it
resolves_later : (number place : ℕ) (past : Past) → length past ≤ number → last_answer (resolves number place) past ≡ None
resolves_later number place [] le = refl
resolves_later number place (e ∷ before) le =
    ap (λ o. option_or o (last_answer (resolves number place) before))
    (resolves_none number place before e (λ k n same began.
    let b = began_there number place (birth (id k false n) before) began in
    let below = birth_below (id k false n) before b.0 (birth_last (id k false n) before b.0 b.1).1 in
    let at = b.2 in let no : ⊥ = omega (arith, le, below, at) in no))
    ∙ resolves_later number place before (omega (arith, le))

unresolved : (i : TableKey) (past : Past) (b : Birth) → last_answer (begins i) past ≡ Some b →
    is_some (last_since (λ before e. is_some (begins i before e)) (λ before e. names i (promise_resolved e)) past) ≡ false → last_answer (resolves (record_index b.from) b.place) past ≡ None
unresolved i [] b h none = refl
unresolved i (e ∷ before) b h none = elim (now_or_before i before e b h) [
  | inl first ↦
      let here : record_index b.from ≡ length before = ap (λ p. record_index p) (begins_number i before e b first) in
      ap (λ o. option_or o (last_answer (resolves (record_index b.from) b.place) before))
      (resolves_none (record_index b.from) b.place before e (λ k n same began.
      let c = began_there (record_index b.from) b.place (birth (id k false n) before) began in
      let below = birth_below (id k false n) before c.0 (birth_last (id k false n) before c.0 c.1).1 in
      let at = c.2 in let no : ⊥ = omega (arith, here, below, at) in no))
      ∙ resolves_later (record_index b.from) b.place before (omega (arith, here))
  | inr old ↦
      let after : is_some (if names i (promise_resolved e) then Some (point before e) else last_since (λ before e. is_some (begins i before e)) (λ before e. names i (promise_resolved e)) before) ≡ false =
      sym (ap (λ o. is_some (if is_some o then None else if names i (promise_resolved e) then Some (point before e) else last_since (λ before e. is_some (begins i before e)) (λ before e. names i (promise_resolved e)) before)) old.0) ∙ none in
      elim (cases_Bool (names i (promise_resolved e))) [
        | inl here ↦ absurd (false≢true (sym after ∙ ap (λ x. is_some (if x then Some (point before e) else last_since (λ before e. is_some (begins i before e)) (λ before e. names i (promise_resolved e)) before)) here))
        | inr apart ↦
            ap (λ o. option_or o (last_answer (resolves (record_index b.from) b.place) before))
            (resolves_none (record_index b.from) b.place before e (λ k n same began.
            let c = began_there (record_index b.from) b.place (birth (id k false n) before) began in
            let one : i ≡ id k false n = one_number i (id k false n) before b c.0 old.1 (birth_last (id k false n) before c.0 c.1).1 (sym c.2) (sym c.3) in
            false≢true (sym apart ∙ subst (λ x. names x (promise_resolved e) ≡ true) (sym one) same)))
            ∙ unresolved i before b old.1
            (sym (ap (λ x. is_some (if x then Some (point before e) else last_since (λ before e. is_some (begins i before e)) (λ before e. names i (promise_resolved e)) before)) apart) ∙ after)
      ]
]

-- ---- so its Resolve turns it once

pub import_stays : (i : TableKey) (past : Past) (number place : ℕ) → is_resolved i past ≡ false → began_at number place (birth i past) ≡ true → next past (Import number place) ≡ stays
import_stays i past number place none began =
    let b = began_there number place (birth i past) began in
    let last = birth_last i past b.0 b.1 in
    let since = sym (ap (λ x. is_some (if x then last_since (λ before e. is_some (begins i before e)) (λ before e. names i (promise_resolved e)) past else None)) last.0) ∙ none in
    ap (λ o. unwrap_or o stays) (ap (λ n. last_answer (resolves n place) past) (sym b.2) ∙ ap (λ p. last_answer (resolves (record_index b.0.from) p) past) (sym b.3) ∙ unresolved i past b.0 last.1 since)

began_if : (x : Next) (b : Bool) → IsSome (if b then Some x else None) → b ≡ true
began_if x true h = refl
began_if x false h = absurd (false≢true h)

pub resolve_turns_once : (before : Past) (k c : ℕ) (rs : List ℕ) (n : ℕ) (resolution : Resolution) → is_resolved (id k false n) before ≡ false → TurnsOnce before (Wire false k c rs (Resolve n resolution))
resolve_turns_once before k c rs n resolution none (Object object) turned = absurd (false≢true turned)
resolve_turns_once before k c rs n resolution none (Promise p) turned = absurd (false≢true turned)
resolve_turns_once before k c rs n resolution none (FieldOf call path) turned = absurd (false≢true turned)
resolve_turns_once before k c rs n resolution none (Import number place) turned =
    import_stays (id k false n) before number place none (began_if _ (began_at number place (birth (id k false n) before)) turned)
