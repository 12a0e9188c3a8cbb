-- Every reference that is bound has a view.
use Rattle.std.proofs.Common.{◌≡◌, ◌+◌, ◌<◌, ◌≤◌, inl, inr, refl, sym, ◌∙◌, ap, subst, ℕ, zero, suc, ◌==◌, List, [], ◌∷◌, ◌++◌, length, zero-add, count_by, cond, Bool, true, false, not, ◌&&◌, ◌||◌, Option, Some, None, if◌then◌else◌, option_map, option_and_then, arith, ◌⊎◌}
use Rattle.std.specs.Prelude.{find, slice_get, is_none, is_some, option_to_list, IsSome}
use Rattle.std.specs.List.{list_all, zip, filter_map, cons_option, position_from}
use Rattle.std.specs.Option.{option_or}
use Rattle.std.proofs.lemmas.Bool.{and_parts, or_left, or_right, cases_Bool, false≢true, not-true, eqb-true, eq-eqb, lt-ltb}
use Rattle.std.proofs.lemmas.List.Sums.{sum_by-cons}
use Rattle.decoded_records.specs.declared.origin.Origin.{Origin}
use Rattle.vat_view.specs.Types.{Descriptor, NoCap, SenderHosted, SenderPromise, ReceiverHosted, ReceiverAnswer, RpcMessage, DecodedRecord, Host, Vow, Field, Wire, View, Object, Promise, FieldOf, Import, TableKey}
use Rattle.decoded_records.specs.Past.{Past, point, id, same_id, names, last_answer, record_index, Each}
use Rattle.decoded_records.specs.Questions.{question_finished, question_taken, is_late, is_opened, is_returned, is_finished, is_unfinished, opening, call_at, noted_call}
use Rattle.decoded_records.specs.Lives.{Birth, birth, begins, number_introduced, introduces, held, descriptors, is_in_life, GivesBackHeld}
use Rattle.decoded_records.specs.Views.{view_of_reference, binds, view_given, number_view, field_view, descriptor_view, described_at, placed_references, places, places_from, references}
use Rattle.decoded_records.specs.Uses.{question_targeted, question_described, number_targeted, number_described, number_released}
use Rattle.decoded_records.specs.Bindings.{Refers, NotesEach, contains, is_bound, new_references}
use Rattle.vat_view.specs.Sound.{IsSound}
use Rattle.decoded_records.specs.Glue.Origins.{is_cap}
use Rattle.vat_view.specs.Glue.Tables.{origin_of, origins}
use Rattle.decoded_records.proofs.Naming.{same_id_is, same_id_self}
use Rattle.number_tables.proofs.Raising.{none_counted, positive}
use Rattle.vat_view.proofs.Originating.{none_introduces}
use Rattle.vat_view.proofs.Counting.{no_more_went}
use Rattle.vat_view.proofs.Beginning.{counted_origins, begun, introduced_now, not_late}

-- an option has a value
abbrev pub Has : {A : Type 0} → Option A → Type 0
Has {A} o = (x : A) × (o ≡ Some x)

has_some : {A : Type 0} (o : Option A) → is_some o ≡ true → Has o
has_some (Some x) e = (x, refl)
has_some None e = absurd (false≢true e)

has_or : {A : Type 0} (o p : Option A) → Has p → Has (option_or o p)
has_or (Some x) p h = (x, refl)
has_or None p h = h

has_first : {A : Type 0} (o p : Option A) → Has o → Has (option_or o p)
has_first (Some x) p h = (x, refl)
has_first None p h = absurd (let no : ⊥ = let e = h.1 in cc in no)

some_same : {A : Type 0} {x y : A} → Some x ≡ Some y → x ≡ y
some_same e = cc

none_some : {A : Type 0} {x : A} → None ≡ Some x → ⊥
none_some e = cc

both_true : (a b : Bool) → a ≡ true → b ≡ true → (a && b) ≡ true
both_true true b e f = f
both_true false b e f = absurd (false≢true e)

-- ---- a number in life has a birth

from_found : (f : Option (TableKey × Origin)) (g : Option Birth) → is_none f ≡ false → option_map (λ x. x.1) f ≡ option_map origin_of g → Has g
from_found f (Some b) some same = (b, refl)
from_found (Some x) None some same = absurd (let no : ⊥ = cc in no)
from_found None None some same = absurd (false≢true (sym some))

pub begins_some : (i : TableKey) (before : Past) (e : DecodedRecord) → is_in_life i before ≡ false → is_in_life i (e ∷ before) ≡ true → Has (begins i before e)
begins_some i before e out now =
    let more : 0 < introduces i before e = introduced_now i before e out now in
    let late : is_late before e ≡ false = not_late i before e (is_late before e) more in
    let some : is_none (find (λ x. same_id i x.0) (origins before e)) ≡ false =
    sym (none_counted (λ (x : TableKey × Origin). same_id i x.0) (origins before e)) ∙ positive (count_by (λ x. same_id i x.0) (origins before e)) (rw (counted_origins i before e) more) in
    from_found (find (λ x. same_id i x.0) (origins before e)) (begins i before e) some (begun i before e (is_in_life i before) (is_late before e) out late)

pub life_began : (i : TableKey) (past : Past) → is_in_life i past ≡ true → Has (last_answer (begins i) past)
life_began i [] now = absurd (false≢true now)
life_began i (e ∷ before) now = elim (cases_Bool (is_in_life i before)) [
  | inl alive ↦ has_or (begins i before e) (last_answer (begins i) before) (life_began i before alive)
  | inr out ↦ has_first (begins i before e) (last_answer (begins i) before) (begins_some i before e out now)
]

pub birth_of : (i : TableKey) (past : Past) → is_in_life i past ≡ true → (b : Birth) × (birth i past ≡ Some b) × (last_answer (begins i) past ≡ Some b)
birth_of i past now = let b = life_began i past now in
    (b.0, ap (λ c. if c then last_answer (begins i) past else None) now ∙ b.1, b.1)

-- ---- lists

-- a reference among those noted has a place among the places
zip_found : (r : ℕ) (rs ps : List ℕ) → contains r rs ≡ true → length rs ≡ length ps → (n : ℕ × ℕ) × (find (λ n. n.0 == r) (zip rs ps) ≡ Some n) × (contains n.1 ps ≡ true)
zip_found r [] ps h l = absurd (false≢true h)
zip_found r (x ∷ rs) [] h l = absurd (let no : ⊥ = omega (arith, l) in no)
zip_found r (x ∷ rs) (p ∷ ps) h l = elim (cases_Bool (x == r)) [
  | inl here ↦ ((x, p), ap (λ b. if b then Some (x, p) else find (λ n. n.0 == r) (zip rs ps)) here, or_left _ _ (eq-eqb p p refl))
  | inr apart ↦
      let rest = zip_found r rs ps (sym (ap (λ b. b || contains r rs) apart) ∙ h) (omega (arith, l)) in
      (rest.0, ap (λ b. if b then Some (x, p) else find (λ n. n.0 == r) (zip rs ps)) apart ∙ rest.1, or_right _ _ rest.2)
]

-- a place among the places has a reference among those noted
pub zip_noted : (q : ℕ) (rs ps : List ℕ) → contains q ps ≡ true → length rs ≡ length ps → (n : ℕ × ℕ) × (find (λ n. n.1 == q) (zip rs ps) ≡ Some n) × (contains n.0 rs ≡ true)
zip_noted q rs [] h l = absurd (false≢true h)
zip_noted q [] (p ∷ ps) h l = absurd (let no : ⊥ = omega (arith, l) in no)
zip_noted q (x ∷ rs) (p ∷ ps) h l = elim (cases_Bool (p == q)) [
  | inl here ↦ ((x, p), ap (λ b. if b then Some (x, p) else find (λ n. n.1 == q) (zip rs ps)) here, or_left _ _ (eq-eqb x x refl))
  | inr apart ↦
      let rest = zip_noted q rs ps (sym (ap (λ b. b || contains q ps) apart) ∙ h) (omega (arith, l)) in
      (rest.0, ap (λ b. if b then Some (x, p) else find (λ n. n.1 == q) (zip rs ps)) apart ∙ rest.1, or_right _ _ rest.2)
]

pub all_at : (test : ℕ → Bool) (xs : List ℕ) (x : ℕ) → list_all test xs ≡ true → contains x xs ≡ true → test x ≡ true
all_at test [] x h e = absurd (false≢true e)
all_at test (y ∷ xs) x h e = let parts = and_parts (test y) (list_all test xs) h in elim (cases_Bool (y == x)) [
  | inl here ↦ subst (λ z. test z ≡ true) (eqb-true y x here) parts.0
  | inr apart ↦ all_at test xs x parts.1 (sym (ap (λ b. b || contains x xs) apart) ∙ e)
]

-- ---- descriptors and their places

later : (d : Descriptor) (ds : List Descriptor) (p q : ℕ) → (p == q) ≡ false → contains q (places_from p (d ∷ ds)) ≡ true → contains q (places_from (p + 1) ds) ≡ true
later NoCap ds p q apart h = h
later (SenderHosted m) ds p q apart h = sym (ap (λ b. b || contains q (places_from (p + 1) ds)) apart) ∙ h
later (SenderPromise m) ds p q apart h = sym (ap (λ b. b || contains q (places_from (p + 1) ds)) apart) ∙ h
later (ReceiverHosted m) ds p q apart h = sym (ap (λ b. b || contains q (places_from (p + 1) ds)) apart) ∙ h
later (ReceiverAnswer m path) ds p q apart h = sym (ap (λ b. b || contains q (places_from (p + 1) ds)) apart) ∙ h

pub places_above : (ds : List Descriptor) (p q : ℕ) → contains q (places_from p ds) ≡ true → p ≤ q
places_above [] p q h = absurd (false≢true h)
places_above (d ∷ ds) p q h = elim (cases_Bool (p == q)) [
  | inl here ↦ let same : p ≡ q = eqb-true p q here in omega (arith, same)
  | inr apart ↦ let above = places_above ds (p + 1) q (later d ds p q apart h) in omega (arith, above)
]

first_cap : (d : Descriptor) (ds : List Descriptor) (p : ℕ) → contains p (places_from p (d ∷ ds)) ≡ true → is_cap d ≡ true
first_cap NoCap ds p h = absurd (let no : ⊥ = let above = places_above ds (p + 1) p h in omega (arith, above) in no)
first_cap (SenderHosted m) ds p h = refl
first_cap (SenderPromise m) ds p h = refl
first_cap (ReceiverHosted m) ds p h = refl
first_cap (ReceiverAnswer m path) ds p h = refl

-- the descriptor at a place among the places, which isn't none
place_there : (ds : List Descriptor) (p q : ℕ) → contains q (places_from p ds) ≡ true → (j : ℕ) × (d : Descriptor) × (q ≡ p + j) × (slice_get ds j ≡ Some d) × (is_cap d ≡ true)
place_there [] p q h = absurd (false≢true h)
place_there (d ∷ ds) p q h = elim (cases_Bool (p == q)) [
  | inl here ↦ let same : p ≡ q = eqb-true p q here in
      (0, d, omega (arith, same), refl, first_cap d ds p (subst (λ x. contains x (places_from p (d ∷ ds)) ≡ true) (sym same) h))
  | inr apart ↦ let rest = place_there ds (p + 1) q (later d ds p q apart h) in let e = rest.2 in (suc rest.0, rest.1, omega (arith, e), rest.3, rest.4)
]

pub cap_here : (d : Descriptor) (ds : List Descriptor) (p q : ℕ) → is_cap d ≡ true → p ≡ q → contains q (places_from p (d ∷ ds)) ≡ true
cap_here NoCap ds p q c same = absurd (false≢true c)
cap_here (SenderHosted m) ds p q c same = or_left _ _ (eq-eqb p q same)
cap_here (SenderPromise m) ds p q c same = or_left _ _ (eq-eqb p q same)
cap_here (ReceiverHosted m) ds p q c same = or_left _ _ (eq-eqb p q same)
cap_here (ReceiverAnswer m path) ds p q c same = or_left _ _ (eq-eqb p q same)

pub cap_later : (d : Descriptor) (ds : List Descriptor) (p q : ℕ) → contains q (places_from (p + 1) ds) ≡ true → contains q (places_from p (d ∷ ds)) ≡ true
cap_later NoCap ds p q h = h
cap_later (SenderHosted m) ds p q h = or_right _ _ h
cap_later (SenderPromise m) ds p q h = or_right _ _ h
cap_later (ReceiverHosted m) ds p q h = or_right _ _ h
cap_later (ReceiverAnswer m path) ds p q h = or_right _ _ h

must_be_cap : (e : DecodedRecord) (i : TableKey) (d : Descriptor) → names i (number_introduced e d) ≡ true → is_cap d ≡ true
must_be_cap e i d h = elim (cases_Bool (is_cap d)) [
  | inl good ↦ good
  | inr bad ↦ absurd (false≢true (sym (ap (λ o. names i o) (none_introduces e d bad)) ∙ h))
]

-- what is found at a place is at one of the places
found_place : (e : DecodedRecord) (i : TableKey) (ds : List Descriptor) (p q : ℕ) → position_from (λ d. names i (number_introduced e d)) p ds ≡ Some q → contains q (places_from p ds) ≡ true
found_place e i [] p q h = absurd (none_some h)
found_place e i (d ∷ ds) p q h = elim (cases_Bool (names i (number_introduced e d))) [
  | inl here ↦ cap_here d ds p q (must_be_cap e i d here) (some_same (sym (ap (λ b. if b then Some p else position_from (λ d. names i (number_introduced e d)) (p + 1) ds) here) ∙ h))
  | inr apart ↦ cap_later d ds p q (found_place e i ds (p + 1) q (sym (ap (λ b. if b then Some p else position_from (λ d. names i (number_introduced e d)) (p + 1) ds) apart) ∙ h))
]

all_first : (test : TableKey → Bool) (o : Option TableKey) (rest : List TableKey) (i : TableKey) → o ≡ Some i → list_all test (cons_option o rest) ≡ true → test i ≡ true
all_first test (Some k) rest i same h = subst (λ z. test z ≡ true) (some_same same) (and_parts (test k) (list_all test rest) h).0
all_first test None rest i same h = absurd (none_some same)

all_rest : (test : TableKey → Bool) (o : Option TableKey) (rest : List TableKey) → list_all test (cons_option o rest) ≡ true → list_all test rest ≡ true
all_rest test None rest h = h
all_rest test (Some k) rest h = (and_parts (test k) (list_all test rest) h).1

-- where what a list gives passes a test, so does what one of it gives
all_mapped : {A : Type 0} (f : A → Option TableKey) (test : TableKey → Bool) (xs : List A) (j : ℕ) (x : A) (i : TableKey) →
    list_all test (filter_map f xs) ≡ true → slice_get xs j ≡ Some x → f x ≡ Some i → test i ≡ true
all_mapped f test [] j x i h g e = absurd (none_some g)
all_mapped f test (y ∷ ys) zero x i h g e = all_first test (f y) (filter_map f ys) i (ap (λ z. f z) (some_same g) ∙ e) h
all_mapped f test (y ∷ ys) (suc j) x i h g e = all_mapped f test ys j x i (all_rest test (f y) (filter_map f ys) h) g e

all_front : (test : TableKey → Bool) (ys zs : List TableKey) → list_all test (ys ++ zs) ≡ true → list_all test ys ≡ true
all_front test [] zs h = refl
all_front test (y ∷ ys) zs h = let parts = and_parts (test y) (list_all test (ys ++ zs)) h in both_true (test y) (list_all test ys) parts.0 (all_front test ys zs parts.1)

all_back : (test : TableKey → Bool) (xs ys : List TableKey) → list_all test (xs ++ ys) ≡ true → list_all test ys ≡ true
all_back test [] ys h = h
all_back test (x ∷ xs) ys h = all_back test xs ys (and_parts (test x) (list_all test (xs ++ ys)) h).1

count_first : (i : TableKey) (o : Option TableKey) (rest : List TableKey) → o ≡ Some i → 0 < count_by (same_id i) (cons_option o rest)
count_first i (Some k) rest same =
    let here : same_id i k ≡ true = subst (λ z. same_id i z ≡ true) (sym (some_same same)) (same_id_self i) in
    let sum = sum_by-cons (λ x. cond (same_id i x) 1 0) k rest in
    let one : cond {A = ℕ} (same_id i k) 1 0 ≡ 1 = ap (λ b. cond b 1 0) here in omega (arith, sum, one)
count_first i None rest same = absurd (none_some same)

count_rest : (i : TableKey) (o : Option TableKey) (rest : List TableKey) → 0 < count_by (same_id i) rest → 0 < count_by (same_id i) (cons_option o rest)
count_rest i None rest lt = lt
count_rest i (Some k) rest lt = let sum = sum_by-cons (λ x. cond (same_id i x) 1 0) k rest in omega (arith, sum, lt)

-- one that is introduced is counted
counted_there : (e : DecodedRecord) (i : TableKey) (ds : List Descriptor) (j : ℕ) (d : Descriptor) → slice_get ds j ≡ Some d → number_introduced e d ≡ Some i →
    0 < count_by (same_id i) (filter_map (number_introduced e) ds)
counted_there e i [] j d g h = absurd (none_some g)
counted_there e i (x ∷ ds) zero d g h = count_first i (number_introduced e x) (filter_map (number_introduced e) ds) (ap (λ z. number_introduced e z) (some_same g) ∙ h)
counted_there e i (x ∷ ds) (suc j) d g h = count_rest i (number_introduced e x) (filter_map (number_introduced e) ds) (counted_there e i ds j d g h)

-- ---- what a record notes for a birth at the exporter

noted_length : (before : Past) (e : DecodedRecord) → is_late before e ≡ false → NotesEach before e → length (references e) ≡ length (places e)
noted_length before e late h = h ∙ ap (λ b. if b then 0 else length (places e)) late

pub begins_parts : (i : TableKey) (before : Past) (e : DecodedRecord) (b : Birth) → begins i before e ≡ Some b →
    (q : ℕ) × (position_from (λ d. names i (number_introduced e d)) 0 (descriptors e) ≡ Some q) × (b ≡ record { from = point before e; place = q }) × (is_late before e ≡ false)
begins_parts i before e b h = parts (is_in_life i before) (is_late before e) (position_from (λ d. names i (number_introduced e d)) 0 (descriptors e)) h
  where
    parts : (a c : Bool) (o : Option ℕ) → (if a || c then None else option_map (λ place. record { from = point before e; place = place }) o) ≡ Some b →
        (q : ℕ) × (o ≡ Some q) × (b ≡ record { from = point before e; place = q }) × (c ≡ false)
    parts false false (Some q) h = (q, refl, sym (some_same h), refl)
    parts false false None h = absurd (none_some h)
    parts true c o h = absurd (none_some h)
    parts false true o h = absurd (none_some h)

peers : (i : TableKey) (k n : ℕ) → i.ours ≡ true → same_id i (id k false n) ≡ false
peers i k n ours = elim (cases_Bool (same_id i (id k false n))) [
  | inl same ↦ absurd (false≢true (sym (ap (λ j. j.ours) (same_id_is i (id k false n) same)) ∙ ours))
  | inr apart ↦ apart
]

not_ours : (i : TableKey) (k c : ℕ) (rs : List ℕ) (m : RpcMessage) (d : Descriptor) → i.ours ≡ true → names i (number_introduced (Wire false k c rs m) d) ≡ false
not_ours i k c rs m NoCap ours = refl
not_ours i k c rs m (SenderHosted n) ours = peers i k n ours
not_ours i k c rs m (SenderPromise n) ours = peers i k n ours
not_ours i k c rs m (ReceiverHosted n) ours = refl
not_ours i k c rs m (ReceiverAnswer n path) ours = refl

none_found : {A : Type 0} (test : A → Bool) (xs : List A) (p : ℕ) → ((x : A) → test x ≡ false) → position_from test p xs ≡ None
none_found test [] p never = refl
none_found test (x ∷ xs) p never = ap (λ b. if b then Some p else position_from test (p + 1) xs) (never x) ∙ none_found test xs (p + 1) never

-- what introduces a number of ours was sent, so that its references are bound
sent_bound : (i : TableKey) (before : Past) (e : DecodedRecord) (r q : ℕ) → i.ours ≡ true → Refers before e → position_from (λ d. names i (number_introduced e d)) 0 (descriptors e) ≡ Some q →
    contains r (references e) ≡ true → is_bound before r ≡ true
sent_bound i before (Wire true k c rs m) r q ours refers found there = all_at (is_bound before) rs r refers.bound there
sent_bound i before (Wire false k c rs m) r q ours refers found there =
    absurd (none_some (sym (none_found (λ d. names i (number_introduced (Wire false k c rs m) d)) (descriptors (Wire false k c rs m)) 0 (λ d. not_ours i k c rs m d ours)) ∙ found))
sent_bound i before _ r q ours refers found there = absurd (none_some found)

pub cases_option : {A : Type 0} (o : Option A) → Has o ⊎ (o ≡ None)
cases_option (Some x) = inl (x, refl)
cases_option None = inr refl

-- a reference is noted for a birth
abbrev pub IsNoted : Past → Birth → Type 0
IsNoted past b = (n : ℕ × ℕ) × (find (λ n. n.1 == b.place) (placed_references b.from.event) ≡ Some n) × (is_bound past n.0 ≡ true)

noted_now : (i : TableKey) (before : Past) (e : DecodedRecord) (b : Birth) → i.ours ≡ true → IsSound before e → begins i before e ≡ Some b → IsNoted (e ∷ before) b
noted_now i before e b ours sound h =
    let parts = begins_parts i before e b h in
    let n = zip_noted parts.0 (references e) (places e) (found_place e i (descriptors e) 0 parts.0 parts.1) (noted_length before e parts.3 sound.notes_each) in
    let bound : is_bound (e ∷ before) n.0.0 ≡ true = or_right _ _ (sent_bound i before e n.0.0 parts.0 ours sound.refers parts.1 n.2) in
    let it : IsNoted (e ∷ before) (record { from = point before e; place = parts.0 }) = (n.0, n.1, bound) in
    subst (λ x. IsNoted (e ∷ before) x) (sym parts.2) it

birth_noted : (i : TableKey) (past : Past) (b : Birth) → i.ours ≡ true → Each IsSound past → last_answer (begins i) past ≡ Some b → IsNoted past b
birth_noted i [] b ours sound h = absurd (none_some h)
birth_noted i (e ∷ before) b ours sound h = elim (cases_option (begins i before e)) [
  | inl some ↦ noted_now i before e b ours sound.0 (some.1 ∙ sym (ap (λ o. option_or o (last_answer (begins i) before)) some.1) ∙ h)
  | inr none ↦
      let rest = birth_noted i before b ours sound.1 (sym (ap (λ o. option_or o (last_answer (begins i) before)) none) ∙ h) in
      (rest.0, rest.1, or_right _ _ rest.2)
]

-- ---- what a received descriptor stands for

each_gives : (past : Past) → Each IsSound past → Each GivesBackHeld past
each_gives [] h = tt
each_gives (e ∷ past) h = (h.0.gives_back_held, each_gives past h.1)

alive_after : (i : TableKey) (before : Past) (e : DecodedRecord) → Each IsSound before → IsSound before e → 0 < introduces i before e → is_in_life i (e ∷ before) ≡ true
alive_after i before e all sound more =
    let below = no_more_went before (each_gives before all) i in
    let gives = sound.gives_back_held i in lt-ltb 0 (held i (e ∷ before)) (omega (arith, below, gives, more))

pub introduced_there : (i : TableKey) (before : Past) (e : DecodedRecord) (j : ℕ) (d : Descriptor) → is_late before e ≡ false → slice_get (descriptors e) j ≡ Some d → number_introduced e d ≡ Some i →
    0 < introduces i before e
introduced_there i before e j d late g h =
    subst (λ b. 0 < count_by (same_id i) (if b then [] else filter_map (number_introduced e) (descriptors e))) (sym late) (counted_there e i (descriptors e) j d g h)

-- the number of a sender
import_viewed : (before : Past) (e : DecodedRecord) (k n : ℕ) → is_in_life (id k false n) (e ∷ before) ≡ true → Has (number_view (view_of_reference before) (id k false n) (e ∷ before))
import_viewed before e k n now = let b = birth_of (id k false n) (e ∷ before) now in
    (Import (record_index b.0.from) b.0.place, ap (λ o. option_and_then (view_given (view_of_reference before) false) o) b.1)

pub export_viewed : (past : Past) (k n : ℕ) → Each IsSound past → ((r : ℕ) → is_bound past r ≡ true → Has (view_of_reference past r)) → is_in_life (id k true n) past ≡ true →
    Has (number_view (view_of_reference past) (id k true n) past)
export_viewed past k n all viewed now =
    let b = birth_of (id k true n) past now in
    let m = birth_noted (id k true n) past b.0 refl all b.2 in
    let v = viewed m.0.0 m.2 in
    (v.0, ap (λ o. option_and_then (view_given (view_of_reference past) true) o) b.1 ∙ ap (λ o. option_and_then (λ n. view_of_reference past n.0) o) m.1 ∙ v.1)

call_there : (q : TableKey) (past : Past) (path : List ℕ) → is_unfinished q past ≡ true → Has (field_view q path past)
call_there q past path h =
    let parts = and_parts (is_opened q past) (not (is_finished q past)) h in
    let p = has_some (opening q past) parts.0 in (
      FieldOf (noted_call p.0.event) path,
      ap (λ o. option_map (λ call. FieldOf call path) o)
          (ap (λ b. if b then None else call_at (opening q past)) (open_still (is_opened q past) (is_returned q past) (is_finished q past) parts.0 (not-true (is_finished q past) parts.1))
          ∙ ap (λ o. call_at o) p.1),
    )
  where
    open_still : (a b c : Bool) → a ≡ true → c ≡ false → (not a || (b && c)) ≡ false
    open_still true true false h g = refl
    open_still true false false h g = refl
    open_still true b true h g = absurd (false≢true (sym g))
    open_still false b c h g = absurd (false≢true h)

module _ (before : Past) (k c : ℕ) (rs : List ℕ) (m : RpcMessage) (all : Each IsSound before) (sound : IsSound before (Wire false k c rs m))
    (viewed : (r : ℕ) → is_bound before r ≡ true → Has (view_of_reference before r)) (late : is_late before (Wire false k c rs m) ≡ false) where
  descriptor_viewed : (d : Descriptor) (j : ℕ) → is_cap d ≡ true → slice_get (descriptors (Wire false k c rs m)) j ≡ Some d →
      Has (descriptor_view (view_of_reference before) before (Wire false k c rs m) d)
  descriptor_viewed NoCap j caps g = absurd (false≢true caps)
  descriptor_viewed (SenderHosted n) j caps g = let e = Wire false k c rs m in
      import_viewed before e k n (alive_after (id k false n) before e all sound (introduced_there (id k false n) before e j (SenderHosted n) late g refl))
  descriptor_viewed (SenderPromise n) j caps g = let e = Wire false k c rs m in
      import_viewed before e k n (alive_after (id k false n) before e all sound (introduced_there (id k false n) before e j (SenderPromise n) late g refl))
  descriptor_viewed (ReceiverHosted n) j caps g = let e = Wire false k c rs m in
      export_viewed before k n all viewed
      (all_mapped (number_described e) (λ i. is_in_life i before) (descriptors e) j (ReceiverHosted n) (id k true n)
      (all_back (λ i. is_in_life i before) (option_to_list (number_targeted e)) (filter_map (number_described e) (descriptors e))
      (all_front (λ i. is_in_life i before) (option_to_list (number_targeted e) ++ filter_map (number_described e) (descriptors e)) (option_to_list (number_released e)) sound.uses_numbers))
      g refl)
  descriptor_viewed (ReceiverAnswer n path) j caps g = let e = Wire false k c rs m in
      call_there (id k false n) before path
      (all_mapped (question_described e) (λ i. is_unfinished i before) (descriptors e) j (ReceiverAnswer n path) (id k false n)
      (all_back (λ i. is_unfinished i before) (option_to_list (question_targeted e)) (filter_map (question_described e) (descriptors e))
      (all_front (λ i. is_unfinished i before) (option_to_list (question_targeted e) ++ filter_map (question_described e) (descriptors e)) (option_to_list (question_finished e))
      (all_front (λ i. is_unfinished i before) (option_to_list (question_targeted e) ++ filter_map (question_described e) (descriptors e) ++ option_to_list (question_finished e)) (option_to_list (question_taken e))
      sound.uses_questions.used)))
      g refl)

one_found : (q r : ℕ) (v : View) → contains r (q ∷ []) ≡ true → Has (if q == r then Some v else None)
one_found q r v h = (v, ap (λ b. if b then Some v else None) (only (q == r) h))
  where
    only : (b : Bool) → (b || false) ≡ true → b ≡ true
    only true h = refl
    only false h = absurd (false≢true h)

not_late_noted : (late : Bool) (rs : List ℕ) (n r : ℕ) → length rs ≡ (if late then 0 else n) → contains r rs ≡ true → late ≡ false
not_late_noted false rs n r h there = refl
not_late_noted true [] n r h there = absurd (false≢true there)
not_late_noted true (x ∷ rs) n r h there = absurd (let no : ⊥ = omega (arith, h) in no)

binds_some : (before : Past) (e : DecodedRecord) (r : ℕ) → Each IsSound before → IsSound before e → ((r : ℕ) → is_bound before r ≡ true → Has (view_of_reference before r)) →
    contains r (new_references e) ≡ true → Has (binds (view_of_reference before) before e r)
binds_some before (Host q object) r all sound viewed h = one_found q r (Object object) h
binds_some before (Vow q) r all sound viewed h = one_found q r (Promise q) h
binds_some before (Field q call path) r all sound viewed h = one_found q r (FieldOf call path) h
binds_some before (Wire false k c rs m) r all sound viewed h =
    let e : DecodedRecord = Wire false k c rs m in
    let late : is_late before e ≡ false = not_late_noted (is_late before e) rs (length (places e)) r sound.notes_each h in
    let n = zip_found r rs (places e) h (noted_length before e late sound.notes_each) in
    let d = place_there (descriptors e) 0 n.0.1 n.2 in
    let v = descriptor_viewed before k c rs m all sound viewed late d.1 d.0 d.4 d.3 in (
      v.0,
      ap (λ o. option_and_then (λ n. described_at (view_of_reference before) before e n.1) o) n.1
          ∙ ap (λ q. option_and_then (descriptor_view (view_of_reference before) before e) (slice_get (descriptors e) q)) (d.2 ∙ zero-add d.0)
          ∙ ap (λ o. option_and_then (descriptor_view (view_of_reference before) before e) o) d.3 ∙ v.1,
    )
binds_some before (Wire true k c rs m) r all sound viewed h = absurd (false≢true h)
binds_some before _ r all sound viewed h = absurd (false≢true h)

pub all_viewed : (past : Past) → Each IsSound past → (r : ℕ) → is_bound past r ≡ true → Has (view_of_reference past r)
all_viewed [] all r h = absurd (false≢true h)
all_viewed (e ∷ before) all r h = elim (cases_Bool (contains r (new_references e))) [
  | inl new ↦ has_first (binds (view_of_reference before) before e r) (view_of_reference before r) (binds_some before e r all.1 all.0 (all_viewed before all.1) new)
  | inr old ↦ has_or (binds (view_of_reference before) before e r) (view_of_reference before r)
      (all_viewed before all.1 r (sym (ap (λ b. b || is_bound before r) old) ∙ h))
]

pub is_there : (o : Option View) → Has o → IsSome o
is_there (Some v) h = refl
is_there None h = absurd (none_some h.1)
