-- Points of a log that looking back finds, and records by their numbers.
use Rattle.std.proofs.Common.{◌≡◌, ◌<◌, ◌+◌, inl, inr, refl, sym, ◌∙◌, ap, subst, ℕ, zero, suc, ◌==◌, List, [], ◌∷◌, length, take, get_or, zero-add, add-zero, Bool, true, false, Option, Some, None, if◌then◌else◌, arith}
use Rattle.std.specs.Prelude.{slice_get, reverse, Decides}
use Rattle.std.specs.Option.{option_or}
use Rattle.std.proofs.lemmas.Bool.{cases_Bool, false≢true, eq-eqb, ne_eqb, eqb-true}
use Rattle.std.proofs.lemmas.List.{length-reverse}
use Rattle.std.proofs.lemmas.Option.{slice_get-get_or}
use mathlib.Core.List.{reverse_aux}
use Rattle.left_open.specs.Types.{DecodedRecord}
use Rattle.decoded_records.specs.Past.{Past, Point, point, record_index, record_at, last_answer, last_where, last_since, Each}

pub none_some : {A : Type 0} {x : A} → None ≡ Some x → ⊥
none_some e = cc

pub some_same : {A : Type 0} {x y : A} → Some x ≡ Some y → x ≡ y
some_same e = cc

-- ---- records by their numbers

pub within : (n : ℕ) (past : Past) (x : DecodedRecord) → record_at n past ≡ Some x → n < length past
within n [] x h = absurd (none_some h)
within n (e ∷ before) x h = elim (cases_Bool (length before == n)) [
  | inl here ↦ let same = eqb-true (length before) n here in omega (arith, same)
  | inr apart ↦ let less = within n before x (sym (ap (λ b. option_or (if b then Some e else None) (record_at n before)) apart) ∙ h) in omega (arith, less)
]

pub older : (n : ℕ) (e : DecodedRecord) (before : Past) (x : DecodedRecord) → record_at n before ≡ Some x → record_at n (e ∷ before) ≡ Some x
older n e before x h =
    let less = within n before x h in
    let apart : (length before == n) ≡ false = ne_eqb (length before) n (λ same. omega (arith, same, less)) in
    ap (λ b. option_or (if b then Some e else None) (record_at n before)) apart ∙ h

pub newest : (e : DecodedRecord) (before : Past) → record_at (length before) (e ∷ before) ≡ Some e
newest e before = ap (λ b. option_or (if b then Some e else None) (record_at (length before) before)) (eq-eqb (length before) (length before) refl)

still_at : (xs : List DecodedRecord) (past : Past) (n : ℕ) (x : DecodedRecord) → record_at n past ≡ Some x → record_at n (reverse_aux xs past) ≡ Some x
still_at [] past n x h = h
still_at (e ∷ xs) past n x h = still_at xs (e ∷ past) n x (older n e past x h)

at_behind : (xs : List DecodedRecord) (past : Past) (k : ℕ) (x : DecodedRecord) → slice_get xs k ≡ Some x → record_at (length past + k) (reverse_aux xs past) ≡ Some x
at_behind [] past k x h = absurd (none_some h)
at_behind (e ∷ xs) past zero x h =
    subst (λ n. record_at n (reverse_aux xs (e ∷ past)) ≡ Some x) (sym (add-zero (length past))) (still_at xs (e ∷ past) (length past) x (newest e past ∙ h))
at_behind (e ∷ xs) past (suc k) x h =
    let same : length (e ∷ past) + k ≡ length past + suc k = omega arith in
    subst (λ n. record_at n (reverse_aux xs (e ∷ past)) ≡ Some x) same (at_behind xs (e ∷ past) k x h)

-- the records of a log have their numbers
pub at_number : (records : List DecodedRecord) (n : ℕ) (x : DecodedRecord) → slice_get records n ≡ Some x → record_at n (reverse records) ≡ Some x
at_number records n x h = subst (λ m. record_at m (reverse records) ≡ Some x) (zero-add n) (at_behind records [] n x h)

-- and no others do
pub number_of : (records : List DecodedRecord) (n : ℕ) (x : DecodedRecord) → record_at n (reverse records) ≡ Some x → slice_get records n ≡ Some x
number_of records n x h =
    let less : n < length records = subst (λ m. n < m) (length-reverse records) (within n (reverse records) x h) in
    let there : slice_get records n ≡ Some (get_or records n x) = slice_get-get_or records n x less in
    there ∙ sym (at_number records n (get_or records n x) there) ∙ h

-- ---- what is found is a record of the log, with those before it

-- a point is one of a log
abbrev pub IsOf : Past → Point → Type 0
IsOf past p = record_at (record_index p) past ≡ Some p.event

pub where_of : (test : Past → DecodedRecord → Bool) (past : Past) (p : Point) → last_where test past ≡ Some p → IsOf past p × (test p.before p.event ≡ true)
where_of test [] p h = absurd (none_some h)
where_of test (e ∷ before) p h = elim (cases_Bool (test before e)) [
  | inl here ↦
      let same : point before e ≡ p = some_same (sym (ap (λ b. if b then Some (point before e) else last_where test before) here) ∙ h) in
      subst (λ q. IsOf (e ∷ before) q × (test q.before q.event ≡ true)) same (newest e before, here)
  | inr apart ↦
      let rest = where_of test before p (sym (ap (λ b. if b then Some (point before e) else last_where test before) apart) ∙ h) in
      (older (record_index p) e before p.event rest.0, rest.1)
]

pub since_of : (start test : Past → DecodedRecord → Bool) (past : Past) (p : Point) → last_since start test past ≡ Some p → IsOf past p × (test p.before p.event ≡ true)
since_of start test [] p h = absurd (none_some h)
since_of start test (e ∷ before) p h = elim (cases_Bool (start before e)) [
  | inl starts ↦ absurd (none_some (sym (ap (λ b. if b then None else if test before e then Some (point before e) else last_since start test before) starts) ∙ h))
  | inr on ↦
      let found = sym (ap (λ b. if b then None else if test before e then Some (point before e) else last_since start test before) on) ∙ h in
      elim (cases_Bool (test before e)) [
        | inl here ↦
            let same : point before e ≡ p = some_same (sym (ap (λ b. if b then Some (point before e) else last_since start test before) here) ∙ found) in
            subst (λ q. IsOf (e ∷ before) q × (test q.before q.event ≡ true)) same (newest e before, here)
        | inr apart ↦
            let rest = since_of start test before p (sym (ap (λ b. if b then Some (point before e) else last_since start test before) apart) ∙ found) in
            (older (record_index p) e before p.event rest.0, rest.1)
      ]
]

pub answer_of : {A : Type 0} (ask : Past → DecodedRecord → Option A) (past : Past) (x : A) → last_answer ask past ≡ Some x → (p : Point) × IsOf past p × (ask p.before p.event ≡ Some x)
answer_of ask [] x h = absurd (none_some h)
answer_of {A} ask (e ∷ before) x h = inner (ask before e) refl h (λ g. answer_of ask before x g)
  where
    inner : (o : Option A) → ask before e ≡ o → option_or o (last_answer ask before) ≡ Some x → (last_answer ask before ≡ Some x → (p : Point) × IsOf before p × (ask p.before p.event ≡ Some x)) →
        (p : Point) × IsOf (e ∷ before) p × (ask p.before p.event ≡ Some x)
    inner (Some y) is g rest = (point before e, newest e before, is ∙ g)
    inner None is g rest = let p = rest g in (p.0, older (record_index p.0) e before p.0.event p.1, p.2)

-- ---- rules that each record keeps

each_before : (P : Past → DecodedRecord → Type 0) (xs : List DecodedRecord) (past : Past) → Each P (reverse_aux xs past) → Each P past
each_before P [] past h = h
each_before P (e ∷ xs) past h = (each_before P xs (e ∷ past) h).1

kept_behind : (P : Past → DecodedRecord → Type 0) (xs : List DecodedRecord) (past : Past) (k : ℕ) (x : DecodedRecord) → slice_get xs k ≡ Some x → Each P (reverse_aux xs past) → P (reverse_aux (take k xs) past) x
kept_behind P [] past k x h all = absurd (none_some h)
kept_behind P (e ∷ xs) past zero x h all = subst (λ y. P past y) (some_same h) (each_before P xs (e ∷ past) all).0
kept_behind P (e ∷ xs) past (suc k) x h all = kept_behind P xs (e ∷ past) k x h all

-- what each record of a log keeps, the one of this number keeps
pub kept_at : (P : Past → DecodedRecord → Type 0) (records : List DecodedRecord) (k : ℕ) (x : DecodedRecord) → slice_get records k ≡ Some x → Each P (reverse records) → P (reverse (take k records)) x
kept_at P records k x h all = kept_behind P records [] k x h all

-- what is decided to be otherwise isn't so
pub refused : {P : Type 0} (b : Bool) → b ≡ false → Decides b P → P → ⊥
refused b wrong d p = false≢true (sym wrong ∙ d.1 p)
