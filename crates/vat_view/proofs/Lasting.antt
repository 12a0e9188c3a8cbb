-- While a number is in life it stands for the same.
use Rattle.std.proofs.Common.{◌≡◌, inl, inr, refl, sym, ◌∙◌, ap, subst, ℕ, ◌==◌, List, [], ◌∷◌, ◌++◌, Bool, true, false, not, ◌||◌, Option, Some, None, if◌then◌else◌, option_and_then, ◌⊎◌}
use Rattle.std.specs.Prelude.{find}
use Rattle.std.specs.List.{list_all, zip}
use Rattle.std.specs.Option.{option_or}
use Rattle.std.proofs.lemmas.Bool.{and_parts, or_left, or_right, cases_Bool, false≢true, not-true, eqb-true, both_ways}
use Rattle.vat_view.specs.Types.{DecodedRecord, Host, Vow, Field, Wire, View, Object, Promise, FieldOf, TableKey}
use Rattle.decoded_records.specs.Past.{Past, last_answer}
use Rattle.decoded_records.specs.Questions.{is_late}
use Rattle.decoded_records.specs.Lives.{Birth, birth, begins, is_in_life}
use Rattle.decoded_records.specs.Views.{view_of_reference, binds, view_given, view_of_number, placed_references, places, described_at}
use Rattle.decoded_records.specs.Bindings.{Refers, contains, is_bound, new_references}
use Rattle.vat_view.specs.Laws.{LivesOn, EachAfter}

lives_last : (i : TableKey) (later : List DecodedRecord) (past : Past) → LivesOn i later past → is_in_life i (later ++ past) ≡ true
lives_last i [] past h = h
lives_last i (e ∷ later) past h = h.0

-- ---- a record in a life begins none

begins_none : (b c : Bool) (o : Option Birth) → b ≡ true → (if b || c then None else o) ≡ None
begins_none true c o e = refl
begins_none false c o e = absurd (false≢true e)

both_alive : (b a : Bool) (p : Option Birth) → a ≡ true → b ≡ true → (if b then p else None) ≡ (if a then p else None)
both_alive true true p e f = refl
both_alive false a p e f = absurd (false≢true f)
both_alive true false p e f = absurd (false≢true e)

pub birth_kept : (i : TableKey) (e : DecodedRecord) (past : Past) → is_in_life i past ≡ true → is_in_life i (e ∷ past) ≡ true → birth i (e ∷ past) ≡ birth i past
birth_kept i e past h f =
    ap (λ y. if is_in_life i (e ∷ past) then option_or y (last_answer (begins i) past) else None) (begins_none (is_in_life i past) (is_late past e) _ h)
    ∙ both_alive (is_in_life i (e ∷ past)) (is_in_life i past) (last_answer (begins i) past) h f

life_kept : (i : TableKey) (later : List DecodedRecord) (past : Past) → LivesOn i later past → birth i (later ++ past) ≡ birth i past
life_kept i [] past h = refl
life_kept i (e ∷ later) past h = birth_kept i e (later ++ past) (lives_last i later past h.1) h.0 ∙ life_kept i later past h.1

-- ---- a reference keeps its view

found : (r : ℕ) (ns ms : List ℕ) (f : ℕ × ℕ → Option View) (v : View) →
    option_and_then f (find (λ n. n.0 == r) (zip ns ms)) ≡ Some v → contains r ns ≡ true
found r [] ms f v h = absurd (let no : ⊥ = cc in no)
found r (n ∷ ns) [] f v h = absurd (let no : ⊥ = cc in no)
found r (n ∷ ns) (m ∷ ms) f v h = elim (cases_Bool (n == r)) [
  | inl good ↦ or_left _ _ good
  | inr bad ↦ or_right _ _ (found r ns ms f v (sym (ap (λ y. option_and_then f (if y then Some (n, m) else find (λ n. n.0 == r) (zip ns ms))) bad) ∙ h))
]

if_some : (b : Bool) (v w : View) → (if b then Some v else None) ≡ Some w → b ≡ true
if_some true v w e = refl
if_some false v w e = absurd (let no : ⊥ = cc in no)

-- what a record binds is new in it
pub binds_new : (named : ℕ → Option View) (before : Past) (e : DecodedRecord) (r : ℕ) (v : View) → binds named before e r ≡ Some v → contains r (new_references e) ≡ true
binds_new named before (Host q object) r v h = or_left _ _ (if_some (q == r) (Object object) v h)
binds_new named before (Vow q) r v h = or_left _ _ (if_some (q == r) (Promise q) v h)
binds_new named before (Field q call path) r v h = or_left _ _ (if_some (q == r) (FieldOf call path) v h)
binds_new named before (Wire false k c rs m) r v h = found r rs (places (Wire false k c rs m)) (λ n. described_at named before (Wire false k c rs m) n.1) v h
binds_new named before (Wire true k c rs m) r v h = absurd (let no : ⊥ = cc in no)
binds_new named before _ r v h = absurd (let no : ⊥ = cc in no)

or_some : (o p : Option View) (v : View) → option_or o p ≡ Some v → ((w : View) × (o ≡ Some w)) ⊎ (p ≡ Some v)
or_some (Some w) p v e = inl (w, refl)
or_some None p v e = inr e

-- a reference with a view is bound
pub view_bound : (past : Past) (r : ℕ) (v : View) → view_of_reference past r ≡ Some v → is_bound past r ≡ true
view_bound [] r v h = absurd (let no : ⊥ = cc in no)
view_bound (e ∷ past) r v h = elim (or_some (binds (view_of_reference past) past e r) (view_of_reference past r) v h) [
  | inl w ↦ or_left _ _ (binds_new (view_of_reference past) past e r w.0 w.1)
  | inr rest ↦ or_right _ _ (view_bound past r v rest)
]

pub all_not : (past : Past) (r : ℕ) (ns : List ℕ) → list_all (λ n. not (is_bound past n)) ns ≡ true → contains r ns ≡ true → is_bound past r ≡ false
all_not past r [] h e = absurd (false≢true e)
all_not past r (n ∷ ns) h e = let parts = and_parts _ _ h in elim (cases_Bool (n == r)) [
  | inl good ↦ subst (λ y. is_bound past y ≡ false) (eqb-true n r good) (not-true (is_bound past n) parts.0)
  | inr bad ↦ all_not past r ns parts.1 (sym (ap (λ y. y || contains r ns) bad) ∙ e)
]

view_there : (o p : Option View) (v : View) → ((w : View) → o ≡ Some w → ⊥) → p ≡ Some v → option_or o p ≡ Some v
view_there (Some w) p v never e = absurd (never w refl)
view_there None p v never e = e

pub view_step : (past : Past) (e : DecodedRecord) (r : ℕ) (v : View) → Refers past e → view_of_reference past r ≡ Some v → view_of_reference (e ∷ past) r ≡ Some v
view_step past e r v h there = view_there (binds (view_of_reference past) past e r) (view_of_reference past r) v
    (λ w f. both_ways (is_bound past r) (all_not past r (new_references e) h.unused (binds_new (view_of_reference past) past e r w f)) (view_bound past r v there)) there

pub view_kept : (later : List DecodedRecord) (past : Past) (r : ℕ) (v : View) → EachAfter Refers later past → view_of_reference past r ≡ Some v → view_of_reference (later ++ past) r ≡ Some v
view_kept [] past r v h there = there
view_kept (e ∷ later) past r v h there = view_step (later ++ past) e r v h.0 (view_kept later past r v h.1 there)

-- ---- so does a number

noted_kept : (named after : ℕ → Option View) → ((r : ℕ) (v : View) → named r ≡ Some v → after r ≡ Some v) → (v : View) (o : Option (ℕ × ℕ)) →
    option_and_then (λ n. named n.0) o ≡ Some v → option_and_then (λ n. after n.0) o ≡ Some v
noted_kept named after f v (Some n) e = f n.0 v e
noted_kept named after f v None e = absurd (let no : ⊥ = cc in no)

given_kept : (named after : ℕ → Option View) → ((r : ℕ) (v : View) → named r ≡ Some v → after r ≡ Some v) → (ours : Bool) (o : Option Birth) (v : View) →
    option_and_then (view_given named ours) o ≡ Some v → option_and_then (view_given after ours) o ≡ Some v
given_kept named after f true (Some b) v e = noted_kept named after f v (find (λ n. n.1 == b.place) (placed_references b.from.event)) e
given_kept named after f false (Some b) v e = e
given_kept named after f ours None v e = absurd (let no : ⊥ = cc in no)

pub number_keeps : (i : TableKey) (later : List DecodedRecord) (past : Past) → LivesOn i later past → EachAfter Refers later past → (v : View) →
    view_of_number i past ≡ Some v → view_of_number i (later ++ past) ≡ Some v
number_keeps i later past lives refs v e =
    ap (λ o. option_and_then (view_given (view_of_reference (later ++ past)) i.ours) o) (life_kept i later past lives)
    ∙ given_kept (view_of_reference past) (view_of_reference (later ++ past)) (λ r w f. view_kept later past r w refs f) i.ours (birth i past) v e
