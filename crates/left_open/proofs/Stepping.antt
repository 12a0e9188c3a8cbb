-- What one record more does to what is watched.
use Rattle.std.proofs.Common.{◌≡◌, ◌<◌, ◌+◌, ◌-◌, ◌==◌, get_or, inl, inr, refl, sym, ◌∙◌, ap, ap₂, ℕ, zero, suc, List, [], ◌∷◌, length, drop, Bool, true, false, not, ◌&&◌, ◌||◌, Option, Some, None, if◌then◌else◌, option_map, arith}
use Rattle.std.specs.Prelude.{is_some, nat_lt, OnOk, Result, Ok, Err}
use Rattle.std.proofs.lemmas.Bool.{cases_Bool, ne_eqb, lt-ltb}
use Rattle.std.proofs.lemmas.List.{drop_more}
use Rattle.decoded_records.proofs.Naming.{same_id_is}
use Rattle.std.specs.List.{position_from}
use Rattle.std.specs.Option.{option_or}
use Rattle.left_open.specs.Types.{DecodedRecord, Descriptor, TableKey}
use Rattle.decoded_records.specs.Past.{Past, Point, point, id, same_id, names, last_answer, last_since}
use Rattle.decoded_records.specs.Questions.{question_opened, question_returned, question_returned_lightly, question_finished, opens, returns_lightly, opening, return_of, finish_of, is_late}
use Rattle.decoded_records.specs.Loopbacks.{sender_loopback, receiver_loopback, loopback_of}
use Rattle.decoded_records.specs.Lives.{Birth, begins, held, is_in_life, number_introduced, descriptors}
use Rattle.left_open.specs.Glue.{At, at_point, at_birth, unreturned_at, unfinished_at, unechoed_at, life_began_at, names_new, begins_from, begins_at}

pub unreturned_more : (q : TableKey) (before : Past) (e : DecodedRecord) →
    (if names q (question_opened e) then Some (length before, 0) else if names q (question_returned e) then None else unreturned_at q before) ≡ unreturned_at q (e ∷ before)
unreturned_more q before e = inner (names q (question_opened e)) (names q (question_returned e)) (return_of q before) (opening q before)
  where
    inner : (a b : Bool) (r o : Option Point) →
        (if a then Some (length before, 0) else if b then None else (if is_some r then None else option_map at_point o))
        ≡ (if is_some (if a then None else if b then Some (point before e) else r) then None else option_map at_point (if a then Some (point before e) else o))
    inner true b r o = refl
    inner false true r o = refl
    inner false false r o = refl

pub unfinished_more : (q : TableKey) (before : Past) (e : DecodedRecord) →
    (if names q (question_opened e) then Some (length before, 0) else if names q (question_finished e) then None else if names q (question_returned_lightly e) then None else unfinished_at q before)
    ≡ unfinished_at q (e ∷ before)
unfinished_more q before e =
    inner (names q (question_opened e)) (names q (question_finished e)) (names q (question_returned_lightly e)) (finish_of q before) (last_since (opens q) (returns_lightly q) before) (opening q before)
  where
    inner : (a b c : Bool) (f l o : Option Point) →
        (if a then Some (length before, 0) else if b then None else if c then None else (if is_some f || is_some l then None else option_map at_point o))
        ≡ (if is_some (if a then None else if b then Some (point before e) else f) || is_some (if a then None else if c then Some (point before e) else l) then None
        else option_map at_point (if a then Some (point before e) else o))
    inner true b c f l o = refl
    inner false true c f l o = refl
    inner false false true None l o = refl
    inner false false true (Some p) l o = refl
    inner false false false f l o = refl

pub unechoed_more : (i : TableKey) (before : Past) (e : DecodedRecord) →
    (if names i (receiver_loopback e) then None else if names i (sender_loopback e) then Some (length before, 0) else unechoed_at i before) ≡ unechoed_at i (e ∷ before)
unechoed_more i before e = inner (names i (receiver_loopback e)) (names i (sender_loopback e)) (loopback_of i before)
  where
    inner : (a b : Bool) (o : Option Point) →
        (if a then None else if b then Some (length before, 0) else option_map at_point o)
        ≡ option_map at_point (if a then None else if b then Some (point before e) else o)
    inner true b o = refl
    inner false true o = refl
    inner false false o = refl

-- ---- lives

-- where nothing passes, nothing is found
none_new : (t : Descriptor → Bool) (k : ℕ) (ds : List Descriptor) → position_from (λ d. t d && not true) k ds ≡ None
none_new t k [] = refl
none_new t k (d ∷ ds) = inner (t d) (none_new t (k + 1) ds)
  where
    inner : (b : Bool) → position_from (λ d. t d && not true) (k + 1) ds ≡ None → (if b && false then Some k else position_from (λ d. t d && not true) (k + 1) ds) ≡ None
    inner true rest = rest
    inner false rest = rest

all_new : (t : Descriptor → Bool) (k : ℕ) (ds : List Descriptor) → position_from (λ d. t d && not false) k ds ≡ position_from t k ds
all_new t k [] = refl
all_new t k (d ∷ ds) = inner (t d) (all_new t (k + 1) ds)
  where
    inner : (b : Bool) → position_from (λ d. t d && not false) (k + 1) ds ≡ position_from t (k + 1) ds →
        (if b && true then Some k else position_from (λ d. t d && not false) (k + 1) ds) ≡ (if b then Some k else position_from t (k + 1) ds)
    inner true rest = refl
    inner false rest = rest

begins_so : (i : TableKey) (before : Past) (e : DecodedRecord) → begins_at (length before) i before e ≡ option_map at_birth (begins i before e)
begins_so i before e = inner (is_in_life i before) (is_late before e)
  where
    t : Descriptor → Bool
    t d = names i (number_introduced e d)

    put : ℕ → Birth
    put place = record { from = point before e; place = place }

    both : (o : Option ℕ) → option_map (λ p. (length before, p)) o ≡ option_map at_birth (option_map put o)
    both None = refl
    both (Some p) = refl

    inner : (a late : Bool) →
        (if late then None else option_map (λ p. (length before, p)) (position_from (λ d. t d && not a) 0 (descriptors e)))
        ≡ option_map at_birth (if a || late then None else option_map put (position_from t 0 (descriptors e)))
    inner true true = refl
    inner false true = refl
    inner true false = ap (λ o. option_map (λ p. (length before, p)) o) (none_new t 0 (descriptors e))
    inner false false = ap (λ o. option_map (λ p. (length before, p)) o) (all_new t 0 (descriptors e)) ∙ both (position_from t 0 (descriptors e))

pub began_more : (i : TableKey) (before : Past) (e : DecodedRecord) → option_or (begins_at (length before) i before e) (life_began_at i before) ≡ life_began_at i (e ∷ before)
began_more i before e = ap (λ o. option_or o (life_began_at i before)) (begins_so i before e) ∙ mapped (begins i before e) (last_answer (begins i) before)
  where
    mapped : (o p : Option Birth) → option_or (option_map at_birth o) (option_map at_birth p) ≡ option_map at_birth (option_or o p)
    mapped None p = refl
    mapped (Some b) p = refl

-- a descriptor more, before those that were seen
pub begins_before : (n : ℕ) (i : TableKey) (before : Past) (e : DecodedRecord) (place : ℕ) (d : Descriptor) (ds : List Descriptor) →
    begins_from n i before e place (d ∷ ds) ≡ (if names_new before e i d then Some (n, place) else begins_from n i before e (place + 1) ds)
begins_before n i before e place d ds = inner (names_new before e i d)
  where
    inner : (b : Bool) → option_map {U = At} (λ p. (n, p)) (if b then Some place else position_from (names_new before e i) (place + 1) ds)
        ≡ (if b then Some (n, place) else option_map {U = At} (λ p. (n, p)) (position_from (names_new before e i) (place + 1) ds))
    inner true = refl
    inner false = refl

-- ---- a number, as the state is asked for it

pub held_as : (i : TableKey) (past : Past) (b : Bool) → i.ours ≡ b → held (id i.connection b i.number) past ≡ held i past
held_as i past b is = ap (λ o. held (id i.connection o i.number) past) (sym is)

-- a descriptor begins a life where its number isn't held, and none where it is
begins_where : (i q : TableKey) (before : Past) (b : Bool) → (held q before == 0) ≡ b → (same_id i q && b) ≡ (same_id i q && not (is_in_life i before))
begins_where i q before b is = elim (cases_Bool (same_id i q)) [
  | inl same ↦ ap (λ a. same_id i q && a) (alive (held i before) b (ap (λ j. held j before == 0) (same_id_is i q same) ∙ is))
  | inr apart ↦ ap (λ a. a && b) apart ∙ sym (ap (λ a. a && not (is_in_life i before)) apart)
]
  where
    alive : (n : ℕ) (b : Bool) → (n == 0) ≡ b → b ≡ not (nat_lt 0 n)
    alive zero b is = sym is
    alive (suc n) b is = sym is ∙ ne_eqb (suc n) 0 (λ same. omega (arith, same)) ∙ sym (ap (λ a. not a) (lt-ltb 0 (suc n) (omega arith)))

pub begins_new : (i q : TableKey) (before : Past) (o : Option TableKey) → Some q ≡ o → (held q before == 0) ≡ true → same_id i q ≡ (names i o && not (is_in_life i before))
begins_new i q before o named none = and_yes (same_id i q) ∙ begins_where i q before true none ∙ ap (λ p. names i p && not (is_in_life i before)) named
  where
    and_yes : (a : Bool) → a ≡ (a && true)
    and_yes true = refl
    and_yes false = refl

pub begins_none : (i q : TableKey) (before : Past) (o : Option TableKey) → Some q ≡ o → (held q before == 0) ≡ false → false ≡ (names i o && not (is_in_life i before))
begins_none i q before o named none = and_no (same_id i q) ∙ begins_where i q before false none ∙ ap (λ p. names i p && not (is_in_life i before)) named
  where
    and_no : (a : Bool) → false ≡ (a && false)
    and_no true = refl
    and_no false = refl

pub lives_back : (n : ℕ) (i : TableKey) (before : Past) (e : DecodedRecord) (ds : List Descriptor) (back place : ℕ) (d : Descriptor) (named : Bool) (new last old : Option At) →
    back < length ds → place ≡ length ds - 1 - back → get_or ds place d ≡ d → named ≡ names_new before e i d → new ≡ (if named then Some (n, place) else last) →
    last ≡ option_or (begins_from n i before e (length ds - back) (drop (length ds - back) ds)) old →
    new ≡ option_or (begins_from n i before e (length ds - (back + 1)) (drop (length ds - (back + 1)) ds)) old
lives_back n i before e ds back place d named new last old less at item is step so_far =
    let here : place ≡ length ds - (back + 1) = omega (arith, at) in
    let below : place < length ds = omega (arith, at, less) in
    let next : place + 1 ≡ length ds - back = omega (arith, at, less) in
    let rest : Option At = begins_from n i before e (length ds - back) (drop (length ds - back) ds) in
    let split : drop place ds ≡ d ∷ drop (length ds - back) ds = drop_more ds place d below ∙ ap₂ (λ x m. x ∷ drop m ds) item next in
    let found : begins_from n i before e place (drop place ds) ≡ (if named then Some (n, place) else rest) =
    ap (λ xs. begins_from n i before e place xs) split ∙ begins_before n i before e place d (drop (length ds - back) ds)
    ∙ ap₂ (λ b m. if b then Some (n, place) else begins_from n i before e m (drop (length ds - back) ds)) (sym is) next in
    step ∙ ap (λ o. if named then Some (n, place) else o) so_far ∙ shape named rest ∙ ap (λ o. option_or o old) (sym found)
    ∙ ap (λ m. option_or (begins_from n i before e m (drop m ds)) old) here
  where
    shape : (b : Bool) (rest : Option At) → (if b then Some (n, place) else option_or rest old) ≡ option_or (if b then Some (n, place) else rest) old
    shape true rest = refl
    shape false rest = refl

-- what holds where a call succeeds
pub on_ok : {A E : Type 0} {P Q : Type 0} (r : Result A E) → (P → Q) → OnOk r P → OnOk r Q
on_ok (Ok x) f p = f p
on_ok (Err e) f p = tt
