-- The list has just what is open, in order.
use Rattle.std.proofs.Common.{◌≡◌, ◌+◌, inl, inr, refl, sym, ◌∙◌, ap, ap₂, subst, ℕ, zero, suc, ◌==◌, List, [], ◌∷◌, ◌++◌, zero-add, add-zero, Bool, true, false, not, ◌&&◌, ◌||◌, Option, Some, None, if◌then◌else◌, option_map, option_and_then, arith}
use Rattle.std.specs.Prelude.{◌↔◌, Contains, AllPairs, slice_get, option_to_list, is_some, reverse}
use Rattle.std.specs.List.{position_from}
use Rattle.std.proofs.lemmas.Bool.{cases_Bool, and_parts, false≢true, not-true, eqb-true, eq-eqb}
use Rattle.std.proofs.lemmas.List.Elements.{Contains-append_cases, Contains-append_left, Contains-append_right}
use Rattle.left_open.specs.Types.{Bootstrap, Call, DecodedRecord, Descriptor, Loopback, Number, Open, Promise, PromiseView, Question, TableKey, Unfinished, Vow, Wire}
use Rattle.decoded_records.specs.Past.{Past, Point, names, record_index, record_at, last_answer}
use Rattle.decoded_records.specs.Questions.{question_opened, opens, opening, is_returned, is_returned_lightly, is_finished, is_opened, noted_call}
use Rattle.decoded_records.specs.Loopbacks.{sender_loopback, receiver_loopback, loopback_of}
use Rattle.decoded_records.specs.Lives.{Birth, birth, begins, held, is_in_life, number_introduced, descriptors}
use Rattle.vat_view.specs.Walks.{Next, next, turns, stops, stays}
use Rattle.decoded_records.proofs.Naming.{names_is}
use Rattle.vat_view.proofs.Viewed.{begins_parts}
use Rattle.left_open.specs.Left.{IsOpen, question, unfinished, loopback, promise, number, is_promise_unresolved, record_of_opening, place_of, OpensBefore}
use Rattle.left_open.specs.Glue.{At, is_at, at_point, unreturned_at, unfinished_at, unechoed_at, at_birth, life_began_at, reference_vowed, is_still, question_left, question_by, loopback_by, promise_by, opened_number, numbers_from, opened_by, opened_from}
use Rattle.left_open.proofs.Points.{none_some, some_same, where_of, since_of, answer_of, at_number, number_of}
use Rattle.left_open.proofs.Lists.{nothing_in, single_in, in_single, Rises, rises_both, rises_single, in_pairs}

-- ---- what is chosen

chosen : {A B : Type 0} (o : Option A) (test : A → Bool) (make : A → B) (x : B) → option_and_then (λ a. if test a then Some (make a) else None) o ≡ Some x →
    (a : A) × (o ≡ Some a) × (test a ≡ true) × (make a ≡ x)
chosen {A} {B} (Some a) test make x h = inner (test a) refl h
  where
    inner : (b : Bool) → test a ≡ b → (if b then Some (make a) else None) ≡ Some x → (c : A) × (Some a ≡ Some c) × (test c ≡ true) × (make c ≡ x)
    inner true is g = (a, refl, is, some_same g)
    inner false is g = absurd (none_some g)
chosen None test make x h = absurd (none_some h)

choose : {A B : Type 0} (o : Option A) (test : A → Bool) (make : A → B) (a : A) → o ≡ Some a → test a ≡ true → option_and_then (λ a. if test a then Some (make a) else None) o ≡ Some (make a)
choose o test make a same passes = ap (λ p. option_and_then (λ a. if test a then Some (make a) else None) p) same ∙ ap (λ b. if b then Some (make a) else None) passes

-- what is left of a question
data LeftOf (a b : Bool) (q : TableKey) (call n : ℕ) (o : Open) : Type 0 where
  without_return : a ≡ true → Question q call n ≡ o → LeftOf a b q call n o
  without_finish : a ≡ false → b ≡ true → Unfinished q call n ≡ o → LeftOf a b q call n o

left_parts : (a b : Bool) (q : TableKey) (call n : ℕ) (o : Open) → question_left a b q call n ≡ Some o → LeftOf a b q call n o
left_parts true b q call n o h = without_return refl (some_same h)
left_parts false true q call n o h = without_finish refl refl (some_same h)
left_parts false false q call n o h = absurd (none_some h)

left_whole : (a b : Bool) (q : TableKey) (call n : ℕ) (o : Open) → LeftOf a b q call n o → question_left a b q call n ≡ Some o
left_whole a b q call n o (without_return holds is) = ap (λ x. question_left x b q call n) holds ∙ ap (λ x. Some x) is
left_whole a b q call n o (without_finish fails holds is) = ap₂ (λ x y. question_left x y q call n) fails holds ∙ ap (λ x. Some x) is

opened_one : {B : Type 0} (o : Option TableKey) (make : TableKey → Option B) (x : B) → option_and_then make o ≡ Some x → (q : TableKey) × (o ≡ Some q) × (make q ≡ Some x)
opened_one (Some q) make x h = (q, refl, h)
opened_one None make x h = absurd (none_some h)

left_record : (a b : Bool) (q : TableKey) (call n : ℕ) (o : Open) → LeftOf a b q call n o → (record_of_opening o ≡ n) × (place_of o ≡ 0)
left_record a b q call n o (without_return holds is) = (ap (λ x. record_of_opening x) (sym is), ap (λ x. place_of x) (sym is))
left_record a b q call n o (without_finish fails holds is) = (ap (λ x. record_of_opening x) (sym is), ap (λ x. place_of x) (sym is))

placed : (n p : ℕ) (at : Option At) → is_at n p at ≡ true → at ≡ Some (n, p)
placed n p (Some (a, b)) h = let parts = and_parts (a == n) (b == p) h in ap₂ (λ x y. Some (x, y)) (eqb-true a n parts.0) (eqb-true b p parts.1)
placed n p None h = absurd (false≢true h)

placing : (n p : ℕ) (at : Option At) → at ≡ Some (n, p) → is_at n p at ≡ true
placing n p at h = ap (λ o. is_at n p o) h ∙ ap₂ (λ x y. x && y) (eq-eqb n n refl) (eq-eqb p p refl)

both_true : (a b : Bool) → a ≡ true → b ≡ true → (a && b) ≡ true
both_true a b e f = ap₂ (λ x y. x && y) e f

-- ---- where something stands that is open

unreturned_parts : (q : TableKey) (past : Past) (n : ℕ) → unreturned_at q past ≡ Some (n, 0) → (p : Point) × (opening q past ≡ Some p) × (is_returned q past ≡ false) × (record_index p ≡ n)
unreturned_parts q past n h = inner (is_returned q past) (opening q past) h
  where
    inner : (b : Bool) (o : Option Point) → (if b then None else option_map at_point o) ≡ Some (n, 0) → (p : Point) × (o ≡ Some p) × (b ≡ false) × (record_index p ≡ n)
    inner true o g = absurd (none_some g)
    inner false None g = absurd (none_some g)
    inner false (Some p) g = (p, refl, refl, ap (λ (at : At). at.0) (some_same g))

unfinished_parts : (q : TableKey) (past : Past) (n : ℕ) → unfinished_at q past ≡ Some (n, 0) →
    (p : Point) × (opening q past ≡ Some p) × (is_finished q past ≡ false) × (is_returned_lightly q past ≡ false) × (record_index p ≡ n)
unfinished_parts q past n h = inner (is_finished q past) (is_returned_lightly q past) (opening q past) h
  where
    inner : (a b : Bool) (o : Option Point) → (if a || b then None else option_map at_point o) ≡ Some (n, 0) → (p : Point) × (o ≡ Some p) × (a ≡ false) × (b ≡ false) × (record_index p ≡ n)
    inner true b o g = absurd (none_some g)
    inner false true o g = absurd (none_some g)
    inner false false None g = absurd (none_some g)
    inner false false (Some p) g = (p, refl, refl, refl, ap (λ (at : At). at.0) (some_same g))

-- a question that was opened here has fails Return, or else has one
returned_else : (q : TableKey) (past : Past) (n : ℕ) (p : Point) → opening q past ≡ Some p → record_index p ≡ n → is_at n 0 (unreturned_at q past) ≡ false → is_returned q past ≡ true
returned_else q past n p is at fails = inner (is_returned q past) (opening q past) is fails
  where
    inner : (b : Bool) (o : Option Point) → o ≡ Some p → is_at n 0 (if b then None else option_map at_point o) ≡ false → b ≡ true
    inner true o same g = refl
    inner false o same g =
        let here : is_at n 0 (option_map at_point o) ≡ true = placing n 0 (option_map at_point o) (ap (λ o. option_map at_point o) same ∙ ap (λ m. Some (m, 0)) at) in
        absurd (false≢true (sym g ∙ here))

not_free : (a b c d : Bool) → a ≡ true → c ≡ false → d ≡ false → not ((not a || (b && c)) || d) ≡ true
not_free true true false false x y z = refl
not_free true false false false x y z = refl
not_free true b true d x y z = absurd (false≢true (sym y))
not_free true b false true x y z = absurd (false≢true (sym z))
not_free false b c d x y z = absurd (false≢true x)

unfree : (a b c d : Bool) → not ((not a || (b && c)) || d) ≡ true → b ≡ true → (c ≡ false) × (d ≡ false)
unfree true true false false h r = (refl, refl)
unfree true true true d h r = absurd (false≢true h)
unfree true true false true h r = absurd (false≢true h)
unfree true false c d h r = absurd (false≢true r)
unfree false b c d h r = absurd (false≢true h)

unechoed_parts : (i : TableKey) (past : Past) (n : ℕ) → unechoed_at i past ≡ Some (n, 0) → (p : Point) × (loopback_of i past ≡ Some p) × (record_index p ≡ n)
unechoed_parts i past n h = inner (loopback_of i past) h
  where
    inner : (o : Option Point) → option_map at_point o ≡ Some (n, 0) → (p : Point) × (o ≡ Some p) × (record_index p ≡ n)
    inner None g = absurd (none_some g)
    inner (Some p) g = (p, refl, ap (λ (at : At). at.0) (some_same g))

began_parts : (i : TableKey) (past : Past) (n place : ℕ) → life_began_at i past ≡ Some (n, place) → (b : Birth) × (last_answer (begins i) past ≡ Some b) × (record_index b.from ≡ n) × (b.place ≡ place)
began_parts i past n place h = inner (last_answer (begins i) past) h
  where
    inner : (o : Option Birth) → option_map at_birth o ≡ Some (n, place) → (b : Birth) × (o ≡ Some b) × (record_index b.from ≡ n) × (b.place ≡ place)
    inner None g = absurd (none_some g)
    inner (Some b) g = (b, refl, ap (λ (at : At). at.0) (some_same g), ap (λ (at : At). at.1) (some_same g))

born : (i : TableKey) (past : Past) (b : Birth) → birth i past ≡ Some b → (is_in_life i past ≡ true) × (last_answer (begins i) past ≡ Some b)
born i past b h = inner (is_in_life i past) h
  where
    inner : (a : Bool) → (if a then last_answer (begins i) past else None) ≡ Some b → (a ≡ true) × (last_answer (begins i) past ≡ Some b)
    inner true g = (refl, g)
    inner false g = absurd (none_some g)

vowed : (e : DecodedRecord) (r : ℕ) → reference_vowed e ≡ Some r → e ≡ Vow r
vowed (Vow q) r h = ap (λ x. Vow x) (some_same h)
vowed _ r h = absurd (none_some h)

still : (x : Next) → is_still x ≡ true → x ≡ stays
still stays h = refl
still stops h = absurd (false≢true h)
still (turns v) h = absurd (false≢true h)

-- the descriptor that is found
found_there : (t : Descriptor → Bool) (k : ℕ) (ds : List Descriptor) (q : ℕ) → position_from t k ds ≡ Some q → (j : ℕ) × (d : Descriptor) × (k + j ≡ q) × (slice_get ds j ≡ Some d) × (t d ≡ true)
found_there t k [] q h = absurd (none_some h)
found_there t k (d ∷ ds) q h = elim (cases_Bool (t d)) [
  | inl here ↦
      let same : k ≡ q = some_same (sym (ap (λ b. if b then Some k else position_from t (k + 1) ds) here) ∙ h) in
      (0, d, add-zero k ∙ same, refl, here)
  | inr apart ↦
      let rest = found_there t (k + 1) ds q (sym (ap (λ b. if b then Some k else position_from t (k + 1) ds) apart) ∙ h) in
      let sum = rest.2 in
      (suc rest.0, rest.1, omega (arith, sum), rest.3, rest.4)
]

-- a record opened it
data Opened (f u g h : TableKey → Option At) (past : Past) (n : ℕ) (e : DecodedRecord) (o : Open) : Type 0 where
  a_question : question_by f u n e ≡ Some o → Opened f u g h past n e o
  a_loopback : loopback_by g n e ≡ Some o → Opened f u g h past n e o
  a_promise : promise_by past n e ≡ Some o → Opened f u g h past n e o
  a_number : (j : ℕ) (d : Descriptor) → slice_get (descriptors e) j ≡ Some d → opened_number h past n e j d ≡ Some o → Opened f u g h past n e o

module _ (f u g h : TableKey → Option At) (past : Past) where
  -- ---- what a list of numbers has

  from_numbers : (n : ℕ) (e : DecodedRecord) (place : ℕ) (ds : List Descriptor) (o : Open) → Contains (numbers_from h past n e place ds) o →
      (j : ℕ) × (d : Descriptor) × (slice_get ds j ≡ Some d) × (opened_number h past n e (place + j) d ≡ Some o)
  from_numbers n e place [] o c = absurd (nothing_in o c)
  from_numbers n e place (d ∷ ds) o c = elim (Contains-append_cases (option_to_list (opened_number h past n e place d)) (numbers_from h past n e (place + 1) ds) o c) [
    | inl here ↦ (0, d, refl, ap (λ p. opened_number h past n e p d) (add-zero place) ∙ single_in (opened_number h past n e place d) o here)
    | inr there ↦
        let rest = from_numbers n e (place + 1) ds o there in
        let same : place + suc rest.0 ≡ place + 1 + rest.0 = omega arith in
        (suc rest.0, rest.1, rest.2, ap (λ p. opened_number h past n e p rest.1) same ∙ rest.3)
  ]

  in_numbers : (n : ℕ) (e : DecodedRecord) (place : ℕ) (ds : List Descriptor) (j : ℕ) (d : Descriptor) (o : Open) → slice_get ds j ≡ Some d → opened_number h past n e (place + j) d ≡ Some o →
      Contains (numbers_from h past n e place ds) o
  in_numbers n e place [] j d o there by = absurd (none_some there)
  in_numbers n e place (x ∷ ds) zero d o there by =
      let first : opened_number h past n e place x ≡ Some o = ap₂ (λ p y. opened_number h past n e p y) (sym (add-zero place)) (some_same there) ∙ by in
      Contains-append_left (option_to_list (opened_number h past n e place x)) (numbers_from h past n e (place + 1) ds) o (in_single (opened_number h past n e place x) o first)
  in_numbers n e place (x ∷ ds) (suc j) d o there by =
      let same : place + 1 + j ≡ place + suc j = omega arith in
      Contains-append_right (option_to_list (opened_number h past n e place x)) (numbers_from h past n e (place + 1) ds) o
      (in_numbers n e (place + 1) ds j d o there (ap (λ p. opened_number h past n e p d) same ∙ by))

  -- ---- what the list of one record has

  abbrev OpenedBy : ℕ → DecodedRecord → Open → Type 0
  OpenedBy n e o = Opened f u g h past n e o

  abbrev behind_two : ℕ → DecodedRecord → List Open
  behind_two n e = option_to_list (promise_by past n e) ++ numbers_from h past n e 0 (descriptors e)

  abbrev behind_one : ℕ → DecodedRecord → List Open
  behind_one n e = option_to_list (loopback_by g n e) ++ behind_two n e

  from_opened : (n : ℕ) (e : DecodedRecord) (o : Open) → Contains (opened_by f u g h past n e) o → OpenedBy n e o
  from_opened n e o c = elim (Contains-append_cases (option_to_list (question_by f u n e)) (behind_one n e) o c) [
    | inl here ↦ a_question (single_in (question_by f u n e) o here)
    | inr c ↦ elim (Contains-append_cases (option_to_list (loopback_by g n e)) (behind_two n e) o c) [
      | inl here ↦ a_loopback (single_in (loopback_by g n e) o here)
      | inr c ↦ elim (Contains-append_cases (option_to_list (promise_by past n e)) (numbers_from h past n e 0 (descriptors e)) o c) [
        | inl here ↦ a_promise (single_in (promise_by past n e) o here)
        | inr c ↦
            let there = from_numbers n e 0 (descriptors e) o c in
            a_number there.0 there.1 there.2 (ap (λ p. opened_number h past n e p there.1) (sym (zero-add there.0)) ∙ there.3)
      ]
    ]
  ]

  in_opened : (n : ℕ) (e : DecodedRecord) (o : Open) → OpenedBy n e o → Contains (opened_by f u g h past n e) o
  in_opened n e o (a_question is) = Contains-append_left (option_to_list (question_by f u n e)) (behind_one n e) o (in_single (question_by f u n e) o is)
  in_opened n e o (a_loopback is) =
      Contains-append_right (option_to_list (question_by f u n e)) (behind_one n e) o
      (Contains-append_left (option_to_list (loopback_by g n e)) (behind_two n e) o (in_single (loopback_by g n e) o is))
  in_opened n e o (a_promise is) =
      Contains-append_right (option_to_list (question_by f u n e)) (behind_one n e) o
      (Contains-append_right (option_to_list (loopback_by g n e)) (behind_two n e) o
      (Contains-append_left (option_to_list (promise_by past n e)) (numbers_from h past n e 0 (descriptors e)) o (in_single (promise_by past n e) o is)))
  in_opened n e o (a_number j d there is) =
      Contains-append_right (option_to_list (question_by f u n e)) (behind_one n e) o
      (Contains-append_right (option_to_list (loopback_by g n e)) (behind_two n e) o
      (Contains-append_right (option_to_list (promise_by past n e)) (numbers_from h past n e 0 (descriptors e)) o
      (in_numbers n e 0 (descriptors e) j d o there (ap (λ p. opened_number h past n e p d) (zero-add j) ∙ is))))

  -- ---- what the list of all records has

  from_all : (n : ℕ) (es : List DecodedRecord) (o : Open) → Contains (opened_from f u g h past n es) o → (k : ℕ) × (e : DecodedRecord) × (slice_get es k ≡ Some e) × OpenedBy (n + k) e o
  from_all n [] o c = absurd (nothing_in o c)
  from_all n (e ∷ es) o c = elim (Contains-append_cases (opened_by f u g h past n e) (opened_from f u g h past (n + 1) es) o c) [
    | inl here ↦ (0, e, refl, subst (λ m. OpenedBy m e o) (sym (add-zero n)) (from_opened n e o here))
    | inr there ↦
        let rest = from_all (n + 1) es o there in
        let same : n + 1 + rest.0 ≡ n + suc rest.0 = omega arith in
        (suc rest.0, rest.1, rest.2, subst (λ m. OpenedBy m rest.1 o) same rest.3)
  ]

  in_all : (n : ℕ) (es : List DecodedRecord) (k : ℕ) (e : DecodedRecord) (o : Open) → slice_get es k ≡ Some e → OpenedBy (n + k) e o → Contains (opened_from f u g h past n es) o
  in_all n [] k e o there by = absurd (none_some there)
  in_all n (x ∷ es) zero e o there by =
      let first : OpenedBy n x o = subst (λ m. OpenedBy m x o) (add-zero n) (subst (λ y. OpenedBy (n + 0) y o) (sym (some_same there)) by) in
      Contains-append_left (opened_by f u g h past n x) (opened_from f u g h past (n + 1) es) o (in_opened n x o first)
  in_all n (x ∷ es) (suc k) e o there by =
      let same : n + suc k ≡ n + 1 + k = omega arith in
      Contains-append_right (opened_by f u g h past n x) (opened_from f u g h past (n + 1) es) o
      (in_all (n + 1) es k e o there (subst (λ m. OpenedBy m e o) same by))

  -- ---- where it was opened

  question_parts : (n : ℕ) (e : DecodedRecord) (o : Open) → question_by f u n e ≡ Some o → (q : TableKey) × (question_opened e ≡ Some q) × LeftOf (is_at n 0 (f q)) (is_at n 0 (u q)) q (noted_call e) n o
  question_parts n e o is =
      let c = opened_one (question_opened e) (λ q. question_left (is_at n 0 (f q)) (is_at n 0 (u q)) q (noted_call e) n) o is in
      (c.0, c.1, left_parts (is_at n 0 (f c.0)) (is_at n 0 (u c.0)) c.0 (noted_call e) n o c.2)

  question_whole : (n : ℕ) (e : DecodedRecord) (o : Open) (q : TableKey) → question_opened e ≡ Some q → LeftOf (is_at n 0 (f q)) (is_at n 0 (u q)) q (noted_call e) n o → question_by f u n e ≡ Some o
  question_whole n e o q opened is =
      ap (λ p. option_and_then (λ q. question_left (is_at n 0 (f q)) (is_at n 0 (u q)) q (noted_call e) n) p) opened
      ∙ left_whole (is_at n 0 (f q)) (is_at n 0 (u q)) q (noted_call e) n o is

  question_record : (n : ℕ) (e : DecodedRecord) (o : Open) → question_by f u n e ≡ Some o → (record_of_opening o ≡ n) × (place_of o ≡ 0) × (is_some (question_opened e) ≡ true)
  question_record n e o is =
      let c = question_parts n e o is in
      let at = left_record (is_at n 0 (f c.0)) (is_at n 0 (u c.0)) c.0 (noted_call e) n o c.2 in
      (at.0, at.1, ap (λ x. is_some x) c.1)

  record_opened : (n : ℕ) (e : DecodedRecord) (o : Open) → OpenedBy n e o → record_of_opening o ≡ n
  record_opened n e o (a_question is) = (question_record n e o is).0
  record_opened n e o (a_loopback is) = let c = chosen (sender_loopback e) (λ i. is_at n 0 (g i)) (λ i. Loopback i n) o is in ap (λ x. record_of_opening x) (sym c.3)
  record_opened n e o (a_promise is) = let c = chosen (reference_vowed e) (λ r. is_still (next past (PromiseView r))) (λ r. Promise r n) o is in ap (λ x. record_of_opening x) (sym c.3)
  record_opened n e o (a_number j d there is) =
      let c = chosen (number_introduced e d) (λ i. is_at n j (h i) && is_in_life i past) (λ i. Number i (held i past) (is_promise_unresolved i past) n j) o is in ap (λ x. record_of_opening x) (sym c.3)

  number_record : (n : ℕ) (e : DecodedRecord) (j : ℕ) (d : Descriptor) (o : Open) → opened_number h past n e j d ≡ Some o → (record_of_opening o ≡ n) × (place_of o ≡ j + 1)
  number_record n e j d o is =
      let c = chosen (number_introduced e d) (λ i. is_at n j (h i) && is_in_life i past) (λ i. Number i (held i past) (is_promise_unresolved i past) n j) o is in
      (ap (λ x. record_of_opening x) (sym c.3), ap (λ x. place_of x) (sym c.3))

  loopback_record : (n : ℕ) (e : DecodedRecord) (o : Open) → loopback_by g n e ≡ Some o → (record_of_opening o ≡ n) × (place_of o ≡ 0) × (is_some (sender_loopback e) ≡ true)
  loopback_record n e o is =
      let c = chosen (sender_loopback e) (λ i. is_at n 0 (g i)) (λ i. Loopback i n) o is in
      (ap (λ x. record_of_opening x) (sym c.3), ap (λ x. place_of x) (sym c.3), ap (λ x. is_some x) c.1)

  promise_record : (n : ℕ) (e : DecodedRecord) (o : Open) → promise_by past n e ≡ Some o → (record_of_opening o ≡ n) × (place_of o ≡ 0) × (is_some (reference_vowed e) ≡ true)
  promise_record n e o is =
      let c = chosen (reference_vowed e) (λ r. is_still (next past (PromiseView r))) (λ r. Promise r n) o is in
      (ap (λ x. record_of_opening x) (sym c.3), ap (λ x. place_of x) (sym c.3), ap (λ x. is_some x) c.1)

  -- ---- in order

  before_numbers : (n : ℕ) (e : DecodedRecord) (x : Open) → record_of_opening x ≡ n → place_of x ≡ 0 → (y : Open) → Contains (numbers_from h past n e 0 (descriptors e)) y → OpensBefore x y
  before_numbers n e x at first y c =
      let there = from_numbers n e 0 (descriptors e) y c in
      let later = number_record n e (0 + there.0) there.1 y there.3 in
      let behind = later.1 in
      inr (at ∙ sym later.0, omega (arith, first, behind))

  numbers_rise : (n : ℕ) (e : DecodedRecord) (place : ℕ) (ds : List Descriptor) → Rises (numbers_from h past n e place ds)
  numbers_rise n e place [] = tt
  numbers_rise n e place (d ∷ ds) =
      rises_both (option_to_list (opened_number h past n e place d)) (numbers_from h past n e (place + 1) ds) (rises_single (opened_number h past n e place d)) (numbers_rise n e (place + 1) ds)
      (λ x c y k.
      let one = number_record n e place d x (single_in (opened_number h past n e place d) x c) in
      let there = from_numbers n e (place + 1) ds y k in
      let other = number_record n e (place + 1 + there.0) there.1 y there.3 in
      let first = one.1 in let behind = other.1 in
      inr (one.0 ∙ sym other.0, omega (arith, first, behind)))

  asks_alone : (e : DecodedRecord) → is_some (question_opened e) ≡ true → (is_some (sender_loopback e) ≡ false) × (is_some (reference_vowed e) ≡ false)
  asks_alone (Wire s k c rs (Bootstrap q)) is = (refl, refl)
  asks_alone (Wire s k c rs (Call head target params)) is = (refl, refl)
  asks_alone _ is = absurd (false≢true is)

  loops_alone : (e : DecodedRecord) → is_some (sender_loopback e) ≡ true → is_some (reference_vowed e) ≡ false
  loops_alone (Wire s k c rs m) is = refl
  loops_alone _ is = absurd (false≢true is)

  never_both : (b : Bool) → b ≡ true → b ≡ false → ⊥
  never_both b holds fails = false≢true (sym fails ∙ holds)

  opened_rises : (n : ℕ) (e : DecodedRecord) → Rises (opened_by f u g h past n e)
  opened_rises n e =
      rises_both (option_to_list (question_by f u n e)) (behind_one n e) (rises_single (question_by f u n e))
      (rises_both (option_to_list (loopback_by g n e)) (behind_two n e) (rises_single (loopback_by g n e))
      (rises_both (option_to_list (promise_by past n e)) (numbers_from h past n e 0 (descriptors e)) (rises_single (promise_by past n e)) (numbers_rise n e 0 (descriptors e)) promise_first)
      loopback_first)
      question_first
    where
      promise_first : (x : Open) → Contains (option_to_list (promise_by past n e)) x → (y : Open) → Contains (numbers_from h past n e 0 (descriptors e)) y → OpensBefore x y
      promise_first x c y k = let at = promise_record n e x (single_in (promise_by past n e) x c) in before_numbers n e x at.0 at.1 y k

      loopback_first : (x : Open) → Contains (option_to_list (loopback_by g n e)) x → (y : Open) → Contains (behind_two n e) y → OpensBefore x y
      loopback_first x c y k =
          let at = loopback_record n e x (single_in (loopback_by g n e) x c) in
          elim (Contains-append_cases (option_to_list (promise_by past n e)) (numbers_from h past n e 0 (descriptors e)) y k) [
            | inl p ↦ let other = promise_record n e y (single_in (promise_by past n e) y p) in absurd (never_both (is_some (reference_vowed e)) other.2 (loops_alone e at.2))
            | inr p ↦ before_numbers n e x at.0 at.1 y p
          ]

      question_first : (x : Open) → Contains (option_to_list (question_by f u n e)) x → (y : Open) → Contains (behind_one n e) y → OpensBefore x y
      question_first x c y k =
          let at = question_record n e x (single_in (question_by f u n e) x c) in
          elim (Contains-append_cases (option_to_list (loopback_by g n e)) (behind_two n e) y k) [
            | inl p ↦ let other = loopback_record n e y (single_in (loopback_by g n e) y p) in absurd (never_both (is_some (sender_loopback e)) other.2 (asks_alone e at.2).0)
            | inr p ↦ elim (Contains-append_cases (option_to_list (promise_by past n e)) (numbers_from h past n e 0 (descriptors e)) y p) [
              | inl r ↦ let other = promise_record n e y (single_in (promise_by past n e) y r) in absurd (never_both (is_some (reference_vowed e)) other.2 (asks_alone e at.2).1)
              | inr r ↦ before_numbers n e x at.0 at.1 y r
            ]
          ]

  all_rise : (n : ℕ) (es : List DecodedRecord) → Rises (opened_from f u g h past n es)
  all_rise n [] = tt
  all_rise n (e ∷ es) =
      rises_both (opened_by f u g h past n e) (opened_from f u g h past (n + 1) es) (opened_rises n e) (all_rise (n + 1) es)
      (λ x c y k.
      let one = record_opened n e x (from_opened n e x c) in
      let there = from_all (n + 1) es y k in
      let other = record_opened (n + 1 + there.0) there.1 y there.3 in
      inl (omega (arith, one, other)))

  pub in_order : (records : List DecodedRecord) → AllPairs OpensBefore (opened_from f u g h past 0 records)
  in_order records = in_pairs (opened_from f u g h past 0 records) (all_rise 0 records)

  -- ---- just what is open

  module _ (unreturned : (q : TableKey) → f q ≡ unreturned_at q past) (unended : (q : TableKey) → u q ≡ unfinished_at q past) (unechoed : (i : TableKey) → g i ≡ unechoed_at i past) (began : (i : TableKey) → h i ≡ life_began_at i past) where
    event_of : (n : ℕ) (e : DecodedRecord) (q : TableKey) (p : Point) → record_at n past ≡ Some e → opening q past ≡ Some p → record_index p ≡ n → p.event ≡ e
    event_of n e q p there is at = some_same (sym (where_of (opens q) past p is).0 ∙ ap (λ m. record_at m past) at ∙ there)

    question_sound : (n : ℕ) (e : DecodedRecord) (o : Open) → record_at n past ≡ Some e → (q : TableKey) → LeftOf (is_at n 0 (f q)) (is_at n 0 (u q)) q (noted_call e) n o → IsOpen past o
    question_sound n e o there q (without_return holds is) =
        let p = unreturned_parts q past n (sym (unreturned q) ∙ placed n 0 (f q) holds) in
        let event : p.0.event ≡ e = event_of n e q p.0 there p.1 p.3 in
        subst (λ x. IsOpen past x) (ap₂ (λ d m. Question q (noted_call d) m) event p.3 ∙ is)
        (question q p.0 p.1 (ap₂ (λ (o : Option Point) b. is_some o && not b) p.1 p.2))
    question_sound n e o there q (without_finish fails holds is) =
        let p = unfinished_parts q past n (sym (unended q) ∙ placed n 0 (u q) holds) in
        let event : p.0.event ≡ e = event_of n e q p.0 there p.1 p.4 in
        let returned : is_returned q past ≡ true = returned_else q past n p.0 p.1 p.4 (ap (λ o. is_at n 0 o) (sym (unreturned q)) ∙ fails) in
        subst (λ x. IsOpen past x) (ap₂ (λ d m. Unfinished q (noted_call d) m) event p.4 ∙ is)
        (unfinished q p.0 p.1 returned (not_free (is_opened q past) (is_returned q past) (is_finished q past) (is_returned_lightly q past) (ap (λ o. is_some o) p.1) p.2 p.3))

    sound : (n : ℕ) (e : DecodedRecord) (o : Open) → record_at n past ≡ Some e → OpenedBy n e o → IsOpen past o
    sound n e o there (a_question is) = let c = question_parts n e o is in question_sound n e o there c.0 c.2
    sound n e o there (a_loopback is) =
        let c = chosen (sender_loopback e) (λ i. is_at n 0 (g i)) (λ i. Loopback i n) o is in
        let p = unechoed_parts c.0 past n (sym (unechoed c.0) ∙ placed n 0 (g c.0) c.2) in
        subst (λ x. IsOpen past x) (ap (λ m. Loopback c.0 m) p.2 ∙ c.3) (loopback c.0 p.0 p.1)
    sound n e o there (a_promise is) =
        let c = chosen (reference_vowed e) (λ r. is_still (next past (PromiseView r))) (λ r. Promise r n) o is in
        subst (λ x. IsOpen past x) c.3 (promise c.0 n (there ∙ ap (λ x. Some x) (vowed e c.0 c.1)) (still (next past (PromiseView c.0)) c.2))
    sound n e o there (a_number j d at is) =
        let c = chosen (number_introduced e d) (λ i. is_at n j (h i) && is_in_life i past) (λ i. Number i (held i past) (is_promise_unresolved i past) n j) o is in
        let tests = and_parts (is_at n j (h c.0)) (is_in_life c.0 past) c.2 in
        let b = began_parts c.0 past n j (sym (began c.0) ∙ placed n j (h c.0) tests.0) in
        let life : birth c.0 past ≡ Some b.0 = ap (λ a. if a then last_answer (begins c.0) past else None) tests.1 ∙ b.1 in
        subst (λ x. IsOpen past x) (ap₂ (λ m p. Number c.0 (held c.0 past) (is_promise_unresolved c.0 past) m p) b.2 b.3 ∙ c.3) (number c.0 b.0 life)

    abbrev Opens : Open → Type 0
    Opens o = (n : ℕ) × (e : DecodedRecord) × (record_at n past ≡ Some e) × OpenedBy n e o

    complete : (o : Open) → IsOpen past o → Opens o
    complete _ (question q p is un) =
        let at = where_of (opens q) past p is in
        let parts = and_parts (is_opened q past) (not (is_returned q past)) un in
        let stands : f q ≡ Some (record_index p, 0) = unreturned q ∙ ap₂ (λ b (o : Option Point). if b then None else option_map at_point o) (not-true (is_returned q past) parts.1) is in
        let n = record_index p in
        (n, p.event, at.0, a_question (question_whole n p.event (Question q (noted_call p.event) n) q (names_is q (question_opened p.event) at.1) (without_return (placing n 0 (f q) stands) refl)))
    complete _ (unfinished q p is ret un) =
        let at = where_of (opens q) past p is in
        let ends = unfree (is_opened q past) (is_returned q past) (is_finished q past) (is_returned_lightly q past) un ret in
        let stands : u q ≡ Some (record_index p, 0) =
        unended q ∙ ap₂ (λ b c. if b || c then None else option_map at_point (opening q past)) ends.0 ends.1 ∙ ap (λ o. option_map at_point o) is in
        let n = record_index p in
        let gone : is_at n 0 (f q) ≡ false = ap (λ o. is_at n 0 o) (unreturned q ∙ ap (λ b. if b then None else option_map at_point (opening q past)) ret) in
        (n, p.event, at.0, a_question (question_whole n p.event (Unfinished q (noted_call p.event) n) q (names_is q (question_opened p.event) at.1) (without_finish gone (placing n 0 (u q) stands) refl)))
    complete _ (loopback i p is) =
        let at = since_of (λ before e. names i (receiver_loopback e)) (λ before e. names i (sender_loopback e)) past p is in
        let stands : g i ≡ Some (record_index p, 0) = unechoed i ∙ ap (λ o. option_map at_point o) is in (
          record_index p,
          p.event,
          at.0,
          a_loopback (choose (sender_loopback p.event) (λ i. is_at (record_index p) 0 (g i)) (λ i. Loopback i (record_index p)) i
              (names_is i (sender_loopback p.event) at.1) (placing (record_index p) 0 (g i) stands)),
        )
    complete _ (promise r n there on) =
        (n, Vow r, there, a_promise (choose (reference_vowed (Vow r)) (λ r. is_still (next past (PromiseView r))) (λ r. Promise r n) r refl (ap (λ x. is_still x) on)))
    complete _ (number i b life) =
        let parts = born i past b life in
        let at = answer_of (begins i) past b parts.1 in
        let began_by = begins_parts i at.0.before at.0.event b at.2 in
        let d = found_there (λ d. names i (number_introduced at.0.event d)) 0 (descriptors at.0.event) began_by.0 began_by.1 in
        let n : record_index b.from ≡ record_index at.0 = ap (λ (b : Birth). record_index b.from) began_by.2 in
        let place : b.place ≡ d.0 = ap (λ (b : Birth). b.place) began_by.2 ∙ sym d.2 ∙ zero-add d.0 in
        let stands : h i ≡ Some (record_index at.0, d.0) = began i ∙ ap (λ o. option_map at_birth o) parts.1 ∙ ap₂ (λ m p. Some (m, p)) n place in
        let made = choose (number_introduced at.0.event d.1) (λ i. is_at (record_index at.0) d.0 (h i) && is_in_life i past) (λ i. Number i (held i past) (is_promise_unresolved i past) (record_index at.0) d.0) i
        (names_is i (number_introduced at.0.event d.1) d.4)
        (both_true (is_at (record_index at.0) d.0 (h i)) (is_in_life i past) (placing (record_index at.0) d.0 (h i) stands) parts.0) in (
          record_index at.0,
          at.0.event,
          at.1,
          a_number d.0 d.1 d.3 (made ∙ ap₂ (λ m p. Some (Number i (held i past) (is_promise_unresolved i past) m p)) (sym n) (sym place)),
        )

    pub exact : (records : List DecodedRecord) → past ≡ reverse records → (o : Open) → Contains (opened_from f u g h past 0 records) o ↔ IsOpen past o
    exact records whole o = (
      λ c.
          let there = from_all 0 records o c in
          let at : record_at there.0 past ≡ Some there.1 = ap (λ p. record_at there.0 p) whole ∙ at_number records there.0 there.1 there.2 in
          sound there.0 there.1 o at (subst (λ m. OpenedBy m there.1 o) (zero-add there.0) there.3),
      λ is.
          let c = complete o is in
          let there : slice_get records c.0 ≡ Some c.1 = number_of records c.0 c.1 (ap (λ p. record_at c.0 p) (sym whole) ∙ c.2) in
          in_all 0 records c.0 c.1 o there (subst (λ m. OpenedBy m c.1 o) (sym (zero-add c.0)) c.3),
    )
