-- What a log names stands for what it binds: its questions for bound calls, its numbers for what bound references do. So all
-- that it names has a name in the run, and is had there.
use Rattle.std.proofs.Common.{◌≡◌, ◌⊎◌, inl, inr, refl, sym, ◌∙◌, ap, ap₂, subst, ℕ, zero, suc, ◌+◌, ◌<◌, ◌==◌, List, [], ◌∷◌, ◌++◌, Bool, true, false, not, ◌&&◌, ◌||◌, Option, Some, None, if◌then◌else◌, option_and_then, option_map, slice_get, arith}
use Rattle.std.specs.Prelude.{find, is_some, option_to_list}
use Rattle.std.specs.List.{list_all, filter_map, cons_option, position_from}
use Rattle.std.specs.Option.{option_or}
use Rattle.std.proofs.lemmas.Bool.{and_parts, or_left, or_right, cases_Bool, false≢true, not-true, eq-eqb, lt-ltb}
use Rattle.std.proofs.lemmas.List.Folds.{list_all-append}
use Rattle.agree.proofs.Points.{each_so}
use Rattle.decoded_records.specs.Past.{Past, Point, point, Each, id, names, last_answer, record_index}
use Rattle.decoded_records.specs.Questions.{opens, opening, noted_call, call_at, call_of, is_opened, is_returned, is_finished, is_unfinished, is_unreturned, is_late, question_finished, question_taken}
use Rattle.decoded_records.specs.Lives.{Birth, birth, begins, number_introduced, introduces, descriptors, held, is_in_life, GivesBackHeld}
use Rattle.decoded_records.specs.Views.{view_of_reference, view_of_number, view_of_target, view_of_descriptor, view_given, number_view, field_view, descriptor_view, placed_references}
use Rattle.decoded_records.specs.Uses.{question_targeted, question_described, number_targeted, number_described, number_released, UsesQuestions}
use Rattle.decoded_records.specs.Bindings.{Refers, contains, is_bound, is_bound_call, new_calls}
use Rattle.vat_view.specs.Sound.{IsSound}
use Rattle.vat_view.specs.Glue.TurnTables.{reference_at}
use Rattle.decoded_records.specs.declared.table_key.TableKey.{TableKey}
use Rattle.rpc_view.specs.declared.message.Payload.{Payload}
use Rattle.vat_view.proofs.Counting.{no_more_went}
use Rattle.vat_view.proofs.Landed.{noted_view}
use Rattle.vat_view.proofs.Lasting.{number_keeps, view_bound, view_step}
use Rattle.decoded_records.proofs.Naming.{names_is}
use Rattle.vat_view.proofs.Viewed.{all_viewed, begins_parts, begins_some, export_viewed, introduced_there}
use Rattle.call_trace.specs.Types.{Descriptor, NoCap, SenderHosted, SenderPromise, ReceiverHosted, ReceiverAnswer, Target, Imported, Promised, TakeFrom, RpcMessage, Bootstrap, Call, CallHead, Return, ReturnHead, DecodedRecord, Wire, View, FieldOf, Import, Cap, Step}
use Rattle.call_trace.specs.Naming.{cap_named}
use Rattle.call_trace.specs.Within.{IsWithin}
use Rattle.call_trace.proofs.Naming.{then_is, calls_named, cap_step}
use Rattle.call_trace.proofs.Having.{reference_had, call_had}
use Rattle.run_model.specs.Has.{Has}
use Rattle.run_model.specs.declared.cap.Cap.TheVariants as cap

some_same : {A : Type 0} {x y : A} → Some x ≡ Some y → x ≡ y
some_same e = cc

none_some : {A : Type 0} {x : A} → None ≡ Some x → ⊥
none_some e = cc

-- ---- questions stand for bound calls

-- the call noted beside a record that opens a question is bound
noted_bound : (before : Past) (e : DecodedRecord) (q : TableKey) → Refers before e → opens q before e ≡ true → is_bound_call (e ∷ before) (noted_call e) ≡ true
noted_bound before (Wire s k d rs (Bootstrap n)) q refers new = or_left ((d == d) || false) (is_bound_call before d) (or_left (d == d) false (eq-eqb d d refl))
noted_bound before (Wire false k d rs (Call head t p)) q refers new = or_left ((d == d) || false) (is_bound_call before d) (or_left (d == d) false (eq-eqb d d refl))
noted_bound before (Wire true k d rs (Call head t p)) q refers new = (and_parts (is_bound_call before d) true refers.bound_call).0
noted_bound before _ q refers new = absurd (false≢true new)

opening_bound : (past : Past) → Each Refers past → (q : TableKey) (p : Point) → opening q past ≡ Some p → is_bound_call past (noted_call p.event) ≡ true
opening_bound [] refers q p h = absurd (none_some h)
opening_bound (e ∷ before) refers q p h = elim (cases_Bool (opens q before e)) [
  | inl new ↦
      let same : point before e ≡ p = some_same (sym (ap (λ b. if b then Some (point before e) else opening q before) new) ∙ h) in
      subst (λ (p : Point). is_bound_call (e ∷ before) (noted_call p.event) ≡ true) same (noted_bound before e q refers.0 new)
  | inr old ↦ or_right (contains (noted_call p.event) (new_calls e)) (is_bound_call before (noted_call p.event))
      (opening_bound before refers.1 q p (sym (ap (λ b. if b then Some (point before e) else opening q before) old) ∙ h))
]

-- a question stands for a bound call
abbrev pub StandsForCall : Past → TableKey → Type 0
StandsForCall past q = (c : ℕ) × (call_of q past ≡ Some c) × (is_bound_call past c ≡ true)

there : {A : Type 0} (o : Option A) → is_some o ≡ true → (x : A) × (o ≡ Some x)
there (Some x) h = (x, refl)
there None h = absurd (false≢true h)

opened_bound : (past : Past) → Each Refers past → (q : TableKey) → is_opened q past ≡ true → (is_returned q past && is_finished q past) ≡ false → StandsForCall past q
opened_bound past refers q opened going =
    let p = there (opening q past) opened in (
      noted_call p.0.event,
      ap₂ (λ a b. if not a || b then None else call_at (opening q past)) opened going ∙ ap call_at p.1,
      opening_bound past refers q p.0 p.1,
    )

first_not : (a b : Bool) → a ≡ false → (a && b) ≡ false
first_not true b h = absurd (false≢true (sym h))
first_not false b h = refl

second_not : (a b : Bool) → b ≡ false → (a && b) ≡ false
second_not true b h = h
second_not false b h = refl

pub unfinished_bound : (past : Past) → Each Refers past → (q : TableKey) → is_unfinished q past ≡ true → StandsForCall past q
unfinished_bound past refers q h =
    let parts = and_parts (is_opened q past) (not (is_finished q past)) h in
    opened_bound past refers q parts.0 (second_not (is_returned q past) (is_finished q past) (not-true (is_finished q past) parts.1))

pub unreturned_bound : (past : Past) → Each Refers past → (q : TableKey) → is_unreturned q past ≡ true → StandsForCall past q
unreturned_bound past refers q h =
    let parts = and_parts (is_opened q past) (not (is_returned q past)) h in
    opened_bound past refers q parts.0 (first_not (is_returned q past) (is_finished q past) (not-true (is_returned q past) parts.1))

-- the question whose results a Return takes has had no Finish
pub taken_unfinished : (past : Past) (sent : Bool) (k c : ℕ) (rs : List ℕ) (head : ReturnHead) (n : ℕ) → UsesQuestions past (Wire sent k c rs (Return head (TakeFrom n))) →
    is_unfinished (id k sent n) past ≡ true
taken_unfinished past sent k c rs head n uses = (and_parts (is_unfinished (id k sent n) past) true uses.used).0

-- ---- numbers in life stand for what bound references do

-- a bound reference stands for this view
abbrev pub IsReferred : Past → View → Type 0
IsReferred past a = (r : ℕ) × (is_bound past r ≡ true) × (view_of_reference past r ≡ Some a)

-- there is a view, for which a bound reference stands
abbrev pub StandsReferred : Past → Option View → Type 0
StandsReferred past o = (a : View) × (o ≡ Some a) × IsReferred past a

export_referred : (past : Past) (k n : ℕ) → Each IsSound past → is_in_life (id k true n) past ≡ true → StandsReferred past (view_of_number (id k true n) past)
export_referred past k n sound now =
    let a = export_viewed past k n sound (all_viewed past sound) now in
    let b = then_is (view_given (view_of_reference past) true) (birth (id k true n) past) a.0 a.1 in
    let r = then_is (λ m. view_of_reference past m.0) (find (λ m. m.1 == b.0.place) (placed_references b.0.from.event)) a.0 b.2 in
    (a.0, a.1, (r.0.0, view_bound past r.0.0 a.0 r.2, r.2))

found_at : {A : Type 0} (test : A → Bool) (xs : List A) (p q : ℕ) → position_from test p xs ≡ Some q → (j : ℕ) × (x : A) × (q ≡ p + j) × (slice_get xs j ≡ Some x) × (test x ≡ true)
found_at test [] p q h = absurd (none_some h)
found_at test (x ∷ xs) p q h = elim (cases_Bool (test x)) [
  | inl here ↦
      let same : p ≡ q = some_same (sym (ap (λ b. if b then Some p else position_from test (p + 1) xs) here) ∙ h) in (0, x, omega (arith, same), refl, here)
  | inr apart ↦
      let rest = found_at test xs (p + 1) q (sym (ap (λ b. if b then Some p else position_from test (p + 1) xs) apart) ∙ h) in
      let at = rest.2 in (suc rest.0, rest.1, omega (arith, at), rest.3, rest.4)
]

-- the number that a descriptor introduces is what it stands for, with its record counted
introduced_is : (before : Past) (s : Bool) (k c : ℕ) (rs : List ℕ) (m : RpcMessage) (d : Descriptor) (i : TableKey) → number_introduced (Wire s k c rs m) d ≡ Some i →
    descriptor_view (view_of_reference before) before (Wire s k c rs m) d ≡ number_view (view_of_reference before) i (Wire s k c rs m ∷ before)
introduced_is before s k c rs m (SenderHosted n) i h = ap (λ i. number_view (view_of_reference before) i (Wire s k c rs m ∷ before)) (some_same h)
introduced_is before s k c rs m (SenderPromise n) i h = ap (λ i. number_view (view_of_reference before) i (Wire s k c rs m ∷ before)) (some_same h)
introduced_is before s k c rs m NoCap i h = absurd (none_some h)
introduced_is before s k c rs m d i h = absurd (none_some h)

-- a number that a received record brings into life stands for what the reference noted there does
module _ (before : Past) (j c : ℕ) (rs : List ℕ) (m : RpcMessage) (k n : ℕ) (sound : Each IsSound (Wire false j c rs m ∷ before)) (b : Birth) (begun : begins (id k false n) before (Wire false j c rs m) ≡ Some b)
    (now : is_in_life (id k false n) (Wire false j c rs m ∷ before) ≡ true) where
  born : birth (id k false n) (Wire false j c rs m ∷ before) ≡ Some b
  born =
      let i = id k false n in
      let e = Wire false j c rs m in
      ap (λ a. if a then last_answer (begins i) (e ∷ before) else None) now ∙ ap (λ o. option_or o (last_answer (begins i) before)) begun

  stands_for : (named : ℕ → Option View) → number_view named (id k false n) (Wire false j c rs m ∷ before) ≡ Some (Import (record_index b.from) b.place)
  stands_for named = ap (λ o. option_and_then (view_given named false) o) born

  begun_referred : StandsReferred (Wire false j c rs m ∷ before) (view_of_number (id k false n) (Wire false j c rs m ∷ before))
  begun_referred =
      let i = id k false n in
      let e = Wire false j c rs m in
      let a = Import (record_index b.from) b.place in
      let parts = begins_parts i before e b begun in
      let d = found_at (λ d. names i (number_introduced e d)) (descriptors e) 0 parts.0 parts.1 in
      let at : slice_get (descriptors e) parts.0 ≡ Some d.1 = ap (λ p. slice_get (descriptors e) p) (let same = d.2 in let zeroed : parts.0 ≡ d.0 = omega (arith, same) in zeroed) ∙ d.3 in
      let was : view_of_descriptor before e parts.0 ≡ Some a =
      ap (λ o. option_and_then (descriptor_view (view_of_reference before) before e) o) at ∙ introduced_is before false j c rs m d.1 i (names_is i (number_introduced e d.1) d.4) ∙ stands_for (view_of_reference before) in
      let r = then_is (view_of_reference (e ∷ before)) (reference_at e parts.0) a (noted_view before j c rs m sound.0.refers sound.0.notes_each parts.3 parts.0 ∙ was) in
      (a, stands_for (view_of_reference (e ∷ before)), (r.0, view_bound (e ∷ before) r.0 a r.2, r.2))

-- only what is received brings an import into life
not_sent : (before : Past) (j c : ℕ) (rs : List ℕ) (m : RpcMessage) (k n : ℕ) (d : Descriptor) → number_introduced (Wire true j c rs m) d ≡ Some (id k false n) → ⊥
not_sent before j c rs m k n (SenderHosted x) h = let same : id j true x ≡ id k false n = some_same h in false≢true (sym (ap (λ i. i.ours) same))
not_sent before j c rs m k n (SenderPromise x) h = let same : id j true x ≡ id k false n = some_same h in false≢true (sym (ap (λ i. i.ours) same))
not_sent before j c rs m k n NoCap h = none_some h
not_sent before j c rs m k n d h = none_some h

comes_in : (before : Past) (e : DecodedRecord) (k n : ℕ) → Each IsSound (e ∷ before) → (b : Birth) → begins (id k false n) before e ≡ Some b → is_in_life (id k false n) (e ∷ before) ≡ true →
    StandsReferred (e ∷ before) (view_of_number (id k false n) (e ∷ before))
comes_in before (Wire false j c rs m) k n sound b begun now = begun_referred before j c rs m k n sound b begun now
comes_in before (Wire true j c rs m) k n sound b begun now =
    let i = id k false n in
    let e = Wire true j c rs m in
    let parts = begins_parts i before e b begun in
    let d = found_at (λ d. names i (number_introduced e d)) (descriptors e) 0 parts.0 parts.1 in
    absurd (not_sent before j c rs m k n d.1 (names_is i (number_introduced e d.1) d.4))
comes_in before e k n sound b begun now = absurd (none_some (begins_parts (id k false n) before e b begun).1)

import_referred : (past : Past) (k n : ℕ) → Each IsSound past → is_in_life (id k false n) past ≡ true → StandsReferred past (view_of_number (id k false n) past)
import_referred [] k n sound now = absurd (false≢true now)
import_referred (e ∷ before) k n sound now = elim (cases_Bool (is_in_life (id k false n) before)) [
  | inl alive ↦
      let t = import_referred before k n sound.1 alive in
      let keeps = sound.0.refers in (
        t.0,
        number_keeps (id k false n) (e ∷ []) before (now, alive) (keeps, tt) t.0 t.1,
        (t.2.0, or_right _ _ t.2.1, view_step before e t.2.0 t.0 keeps t.2.2),
      )
  | inr out ↦ let b = begins_some (id k false n) before e out now in comes_in before e k n sound b.0 b.1 now
]

pub number_referred : (past : Past) (k : ℕ) (ours : Bool) (n : ℕ) → Each IsSound past → is_in_life (id k ours n) past ≡ true → StandsReferred past (view_of_number (id k ours n) past)
number_referred past k true n sound now = export_referred past k n sound now
number_referred past k false n sound now = import_referred past k n sound now

-- ---- what a record that is sent names

-- a log knows a view: a bound reference stands for it, or it is a field of a bound call
abbrev pub IsKnown : Past → View → Type 0
IsKnown past a = IsReferred past a ⊎ ((c : ℕ) × (path : List ℕ) × (is_bound_call past c ≡ true) × (a ≡ FieldOf c path))

-- there is a view, and the log knows it
abbrev pub StandsKnown : Past → Option View → Type 0
StandsKnown past o = (a : View) × (o ≡ Some a) × IsKnown past a

pub reference_known : (past : Past) → Each IsSound past → (r : ℕ) → is_bound past r ≡ true → StandsKnown past (view_of_reference past r)
reference_known past sound r bound = let a = all_viewed past sound r bound in (a.0, a.1, inl (r, bound, a.1))

pub number_known : (past : Past) (k : ℕ) (ours : Bool) (n : ℕ) → Each IsSound past → is_in_life (id k ours n) past ≡ true → StandsKnown past (view_of_number (id k ours n) past)
number_known past k ours n sound now = let t = number_referred past k ours n sound now in (t.0, t.1, inl t.2)

pub field_known : (past : Past) → Each Refers past → (q : TableKey) (path : List ℕ) → is_unfinished q past ≡ true → StandsKnown past (field_view q path past)
field_known past refers q path h =
    let t = unfinished_bound past refers q h in
    (FieldOf t.0 path, ap (λ o. option_map (λ call. FieldOf call path) o) t.1, inr (t.0, path, t.2, refl))

all_split : (test : TableKey → Bool) (xs ys : List TableKey) → list_all test (xs ++ ys) ≡ true → (list_all test xs ≡ true) × (list_all test ys ≡ true)
all_split test xs ys h = and_parts (list_all test xs) (list_all test ys) (sym (list_all-append test xs ys) ∙ h)

kept_rest : (test : TableKey → Bool) (o : Option TableKey) (rest : List TableKey) → list_all test (cons_option o rest) ≡ true → list_all test rest ≡ true
kept_rest test (Some i) rest h = (and_parts (test i) (list_all test rest) h).1
kept_rest test None rest h = h

-- of what a list gives, one that its element at a place gives
kept_at : (f : Descriptor → Option TableKey) (test : TableKey → Bool) (ds : List Descriptor) (j : ℕ) (d : Descriptor) (i : TableKey) → list_all test (filter_map f ds) ≡ true → slice_get ds j ≡ Some d → f d ≡ Some i → test i ≡ true
kept_at f test [] j d i h at is = absurd (none_some at)
kept_at f test (x ∷ ds) zero d i h at is =
    let this : f x ≡ Some i = ap f (some_same at) ∙ is in (and_parts (test i) (list_all test (filter_map f ds)) (subst (λ o. list_all test (cons_option o (filter_map f ds)) ≡ true) this h)).0
kept_at f test (x ∷ ds) (suc j) d i h at is = kept_at f test ds j d i (kept_rest test (f x) (filter_map f ds) h) at is

alive_after : (i : TableKey) (before : Past) (e : DecodedRecord) → Each IsSound (e ∷ before) → 0 < introduces i before e → is_in_life i (e ∷ before) ≡ true
alive_after i before e sound more =
    let below = no_more_went before (each_so IsSound GivesBackHeld (λ b e s. s.gives_back_held) before sound.1) i in
    let gives = sound.0.gives_back_held i in lt-ltb 0 (held i (e ∷ before)) (omega (arith, below, gives, more))

module _ (es : Past) (k c : ℕ) (rs : List ℕ) (m : RpcMessage) (sound : Each IsSound (Wire true k c rs m ∷ es)) where
  refers_all : Each Refers es
  refers_all = each_so IsSound Refers (λ b e s. s.refers) es sound.1

  introduced_known : (n : ℕ) → 0 < introduces (id k true n) es (Wire true k c rs m) → StandsKnown es (number_view (view_of_reference es) (id k true n) (Wire true k c rs m ∷ es))
  introduced_known n more =
      let e = Wire true k c rs m in
      let t = export_referred (e ∷ es) k n sound (alive_after (id k true n) es e sound more) in
      (t.0, t.1, inl t.2)

  -- what each of its descriptors that isn't none stands for
  pub descriptor_known : is_late es (Wire true k c rs m) ≡ false → (j : ℕ) (d : Descriptor) → slice_get (descriptors (Wire true k c rs m)) j ≡ Some d →
      (d ≡ NoCap) ⊎ StandsKnown es (descriptor_view (view_of_reference es) es (Wire true k c rs m) d)
  descriptor_known late j NoCap at = inl refl
  descriptor_known late j (SenderHosted n) at = inr (introduced_known n (introduced_there (id k true n) es (Wire true k c rs m) j (SenderHosted n) late at refl))
  descriptor_known late j (SenderPromise n) at = inr (introduced_known n (introduced_there (id k true n) es (Wire true k c rs m) j (SenderPromise n) late at refl))
  descriptor_known late j (ReceiverHosted n) at =
      let e = Wire true k c rs m in
      let test : TableKey → Bool = λ i. is_in_life i es in
      let parts = all_split test (option_to_list (number_targeted e) ++ filter_map (number_described e) (descriptors e)) (option_to_list (number_released e)) sound.0.uses_numbers in
      let kept = all_split test (option_to_list (number_targeted e)) (filter_map (number_described e) (descriptors e)) parts.0 in
      inr (number_known es k false n sound.1 (kept_at (number_described e) test (descriptors e) j (ReceiverHosted n) (id k false n) kept.1 at refl))
  descriptor_known late j (ReceiverAnswer q path) at =
      let e = Wire true k c rs m in
      let test : TableKey → Bool = λ i. is_unfinished i es in
      let used = all_split test (option_to_list (question_targeted e) ++ filter_map (question_described e) (descriptors e) ++ option_to_list (question_finished e)) (option_to_list (question_taken e)) sound.0.uses_questions.used in
      let parts = all_split test (option_to_list (question_targeted e) ++ filter_map (question_described e) (descriptors e)) (option_to_list (question_finished e)) used.0 in
      let kept = all_split test (option_to_list (question_targeted e)) (filter_map (question_described e) (descriptors e)) parts.0 in
      inr (field_known es refers_all (id k true q) path (kept_at (question_described e) test (descriptors e) j (ReceiverAnswer q path) (id k true q) kept.1 at refl))

  -- what the descriptor at a place stands for
  pub described_known : is_late es (Wire true k c rs m) ≡ false → (place : ℕ) (b : View) → view_of_descriptor es (Wire true k c rs m) place ≡ Some b → StandsKnown es (Some b)
  described_known late place b was =
      let e = Wire true k c rs m in
      let d = then_is (descriptor_view (view_of_reference es) es e) (slice_get (descriptors e) place) b was in
      elim (descriptor_known late place d.0 d.1) [
        | inl none ↦ absurd (none_some (sym (ap (descriptor_view (view_of_reference es) es e) none) ∙ d.2))
        | inr known ↦ subst (StandsKnown es) d.2 known
      ]

-- what the target of a Call that is sent stands for
pub target_known : (es : Past) (k c : ℕ) (rs : List ℕ) (head : CallHead) (target : Target) (params : Payload) → Each IsSound (Wire true k c rs (Call head target params) ∷ es) →
    StandsKnown es (view_of_target es (Wire true k c rs (Call head target params)))
target_known es k c rs head (Imported n) params sound = number_known es k false n sound.1 (and_parts (is_in_life (id k false n) es) _ sound.0.uses_numbers).0
target_known es k c rs head (Promised n path) params sound =
    field_known es (each_so IsSound Refers (λ b e s. s.refers) es sound.1) (id k true n) path (and_parts (is_unfinished (id k true n) es) _ sound.0.uses_questions.used).0

-- ---- what a log knows has a name in the run, and is had there

module _ (v : ℕ) (es : Past) (steps before : List Step) (w : IsWithin v es steps before) where
  pub known_had : (a : View) → IsKnown es a → (c : Cap) × (cap_named v es steps a ≡ Some c) × Has before v c
  known_had a (inl t) = let r = reference_had v es steps before w t.0 t.1 in (r.0, sym (ap (λ o. option_and_then (cap_named v es steps) o) t.2) ∙ r.1, r.2)
  known_had a (inr t) =
      let name = calls_named v es steps w.paired t.0 t.2 in
      (cap.Field name.0 t.1, ap (cap_named v es steps) t.3 ∙ ap (λ o. option_map (λ n. cap.Field n t.1) o) name.1, call_had v es steps before w t.0 name.0 name.1 t.1)

  -- it has there the name that it has with one record more
  pub known_named : (e : DecodedRecord) (s : Step) → Refers es e → (o : Option View) → StandsKnown es o → (c : Cap) → option_and_then (cap_named v (e ∷ es) (s ∷ steps)) o ≡ Some c → option_and_then (cap_named v es steps) o ≡ Some c
  known_named e s refers o known c named =
      let t = known_had known.0 known.2 in
      let now = ap (λ o. option_and_then (cap_named v (e ∷ es) (s ∷ steps)) o) known.1 ∙ cap_step v es e steps s known.0 t.0 refers t.1 in
      ap (λ o. option_and_then (cap_named v es steps) o) known.1 ∙ t.1 ∙ sym now ∙ named
