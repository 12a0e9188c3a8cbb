-- A record turns the views that it settles to the references where they land.
use Rattle.std.proofs.Common.{◌≡◌, ◌⊎◌, ◌+◌, ◌<◌, ◌≤◌, inl, inr, refl, sym, ◌∙◌, ap, ap₂, subst, ℕ, zero, suc, ◌==◌, List, [], ◌∷◌, length, drop, take, add-zero, zero-add, map, count_by, cond, Bool, true, false, not, ◌&&◌, Option, Some, None, if◌then◌else◌, option_map, option_and_then, arith}
use Rattle.std.specs.Prelude.{find, slice_get, unwrap_or, is_some}
use Rattle.std.specs.List.{zip}
use Rattle.std.specs.Option.{option_or}
use Rattle.std.specs.Str.{bytes_eq as same_path}
use Rattle.std.proofs.lemmas.List.Sums.{sum_by-cons}
use Rattle.std.proofs.lemmas.Option.{slice_get_past}
use Rattle.std.proofs.lemmas.Bool.{and_parts, or_left, or_right, or_parts, cases_Bool, not-true, eqb-true, eq-eqb, ne_eqb, both_ways}
use Rattle.vat_view.specs.Types.{Descriptor, NoCap, SenderHosted, SenderPromise, ReceiverHosted, ReceiverAnswer, RpcMessage, Outcome, Return, ReturnHead, Resolve, Results, Exception, Canceled, Elsewhere, TakeFrom, DecodedRecord, Fulfil, Break, Answer, AnswerBy, Fault, Wire, View, Object, Promise, FieldOf, Import}
use Rattle.decoded_records.specs.Past.{Past, Point, id, point, is, record_index, last_answer, last_where, Each}
use Rattle.decoded_records.specs.Questions.{is_late, is_over, call_at, call_of, opening}
use Rattle.decoded_records.specs.Calls.{call_taken_from}
use Rattle.decoded_records.specs.Lives.{Birth, birth, descriptors, descriptors_of}
use Rattle.decoded_records.specs.Views.{view_of_reference, view_of_descriptor, binds, descriptor_view, described_at, placed_references, places, places_from, references}
use Rattle.decoded_records.specs.Bindings.{Refers, NotesEach, contains, is_distinct, is_bound, is_bound_call, new_references}
use Rattle.vat_view.specs.Sound.{IsSound}
use Rattle.vat_view.specs.Walks.{Next, turns, stops, stays, on_to, is_promise, keeps, began_at, resolves, result_at, answers, turn, next}
use Rattle.decoded_records.specs.Glue.Origins.{is_cap}
use Rattle.vat_view.specs.Glue.Tables.{reference_by}
use Rattle.vat_view.specs.declared.record.unsettled.Unsettled.{Unsettled}
use Rattle.vat_view.specs.declared.record.unsettled.Unsettled.TheVariants.{Promise as PromiseToKeep, Results as ResultsOf, Import as ImportToResolve}
use Rattle.vat_view.specs.Glue.TurnTables.{is_this, promise_of, import_at, unless_elsewhere, settlement_of, reference_at, turn_target, Settler, goes, settler, call_behind, settler_at_point, settler_of, last_settler, LandsBound}
use Rattle.vat_view.specs.Connections.{last_turn}
use Rattle.decoded_records.specs.Glue.Parts.{field_path}
use Rattle.vat_view.proofs.Originating.{noted_at, get_drop, noted_first, tail_drop, places_cons}
use Rattle.vat_view.proofs.Viewed.{places_above, cap_here, cap_later, zip_noted, all_at}
use Rattle.vat_view.proofs.Lasting.{binds_new, all_not}
use Rattle.vat_view.proofs.Unbound.{opening_bound}
use Rattle.vat_view.proofs.Arriving.{no_view}

some_same : {A : Type 0} {x y : A} → Some x ≡ Some y → x ≡ y
some_same e = cc

none_some : {A : Type 0} {x : A} → None ≡ Some x → ⊥
none_some e = cc

-- ---- the reference noted for a place

not_noted : (rs ps : List ℕ) (q : ℕ) → contains q ps ≡ false → noted_at rs ps q ≡ None
not_noted [] ps q h = refl
not_noted (r ∷ rs) [] q h = refl
not_noted (r ∷ rs) (p ∷ ps) q h =
    let parts = or_parts (p == q) (contains q ps) h in
    ap (λ b. option_map (λ m. m.0) (if b then Some (r, p) else find (λ m. m.1 == q) (zip rs ps))) parts.0 ∙ not_noted rs ps q parts.1

before_places : (ds : List Descriptor) (p q : ℕ) → q < p → contains q (places_from p ds) ≡ false
before_places ds p q lt = elim (cases_Bool (contains q (places_from p ds))) [
  | inl there ↦ let above = places_above ds p q there in absurd (let no : ⊥ = omega (arith, lt, above) in no)
  | inr apart ↦ apart
]

module _ (rs : List ℕ) where
  first_place : (ds : List Descriptor) (p b : ℕ) (c : Bool) → noted_at (drop b rs) (if c then p ∷ places_from (p + 1) ds else places_from (p + 1) ds) p ≡ (if c then slice_get rs b else None)
  first_place ds p b true = sym (get_drop rs b ∙ noted_first (drop b rs) (places_from (p + 1) ds) p)
  first_place ds p b false = not_noted (drop b rs) (places_from (p + 1) ds) p (before_places ds (p + 1) p (omega arith))

  later_place : (ds : List Descriptor) (p b q : ℕ) (c : Bool) → p < q →
      noted_at (drop b rs) (if c then p ∷ places_from (p + 1) ds else places_from (p + 1) ds) q ≡ noted_at (drop (b + (if c then 1 else 0)) rs) (places_from (p + 1) ds) q
  later_place ds p b q true lt =
      tail_drop rs b (places_from (p + 1) ds) p q (ne_eqb p q (λ same. let no : ⊥ = omega (arith, lt, same) in no))
      ∙ (let same : suc b ≡ b + 1 = omega arith in ap (λ x. noted_at (drop x rs) (places_from (p + 1) ds) q) same)
  later_place ds p b q false lt = ap (λ x. noted_at (drop x rs) (places_from (p + 1) ds) q) (sym (add-zero b))

  counted_reference : (ds : List Descriptor) (p b j : ℕ) →
      noted_at (drop b rs) (places_from p ds) (p + j) ≡ option_and_then (λ d. reference_by rs (b + count_by is_cap (take j ds)) d) (slice_get ds j)
  counted_reference [] p b zero = not_noted (drop b rs) [] (p + zero) refl
  counted_reference [] p b (suc j) = not_noted (drop b rs) [] (p + suc j) refl
  counted_reference (d ∷ ds) p b zero =
      ap (λ q. noted_at (drop b rs) (places_from p (d ∷ ds)) q) (add-zero p)
      ∙ ap (λ ps. noted_at (drop b rs) ps p) (places_cons p d ds)
      ∙ first_place ds p b (is_cap d)
      ∙ ap (λ x. if is_cap d then slice_get rs x else None) (sym (add-zero b))
  counted_reference (d ∷ ds) p b (suc j) =
      let counted = sum_by-cons (λ d. cond (is_cap d) 1 0) d (take j ds) in
      let placed_references : b + cond (is_cap d) 1 0 + count_by is_cap (take j ds) ≡ b + count_by is_cap (d ∷ take j ds) = omega (arith, counted) in
      ap (λ ps. noted_at (drop b rs) ps (p + suc j)) (places_cons p d ds)
      ∙ later_place ds p b (p + suc j) (is_cap d) (omega arith)
      ∙ (let same : p + suc j ≡ p + 1 + j = omega arith in ap (λ q. noted_at (drop (b + (if is_cap d then 1 else 0)) rs) (places_from (p + 1) ds) q) same)
      ∙ counted_reference ds (p + 1) (b + (if is_cap d then 1 else 0)) j
      ∙ ap (λ n. option_and_then (λ x. reference_by rs n x) (slice_get ds j)) placed_references

-- what the code counts is what is noted
pub reference_counted : (e : DecodedRecord) (place before : ℕ) → before ≡ count_by is_cap (take place (descriptors e)) →
    reference_at e place ≡ option_and_then (λ d. reference_by (references e) before d) (slice_get (descriptors e) place)
reference_counted e place before counted =
    ap (λ q. noted_at (references e) (places e) q) (sym (zero-add place))
    ∙ counted_reference (references e) (descriptors e) 0 0 place
    ∙ ap (λ n. option_and_then (λ d. reference_by (references e) n d) (slice_get (descriptors e) place)) (zero-add (count_by is_cap (take place (descriptors e))) ∙ sym counted)

-- a noted reference is among those noted
pub noted_there : (rs ps : List ℕ) (q r : ℕ) → noted_at rs ps q ≡ Some r → contains r rs ≡ true
noted_there [] ps q r h = absurd (none_some h)
noted_there (x ∷ rs) [] q r h = absurd (none_some h)
noted_there (x ∷ rs) (p ∷ ps) q r h = elim (cases_Bool (p == q)) [
  | inl here ↦ or_left _ _ (eq-eqb x r (some_same (sym (ap (λ b. option_map (λ m. m.0) (if b then Some (x, p) else find (λ m. m.1 == q) (zip rs ps))) here) ∙ h)))
  | inr apart ↦ or_right _ _ (noted_there rs ps q r (sym (ap (λ b. option_map (λ m. m.0) (if b then Some (x, p) else find (λ m. m.1 == q) (zip rs ps))) apart) ∙ h))
]

-- ---- a reference that a record binds is found by it

distinct_apart : (x r : ℕ) (rs : List ℕ) → not (contains x rs) ≡ true → contains r rs ≡ true → (x == r) ≡ false
distinct_apart x r rs h there = elim (cases_Bool (x == r)) [
  | inl same ↦ absurd (both_ways (contains x rs) (not-true (contains x rs) h) (subst (λ y. contains y rs ≡ true) (sym (eqb-true x r same)) there))
  | inr apart ↦ apart
]

found_again : (rs ps : List ℕ) (q : ℕ) (n : ℕ × ℕ) → is_distinct rs ≡ true → find (λ m. m.1 == q) (zip rs ps) ≡ Some n →
    (find (λ m. m.0 == n.0) (zip rs ps) ≡ Some n) × (n.1 ≡ q) × (contains n.0 rs ≡ true)
found_again [] ps q n distinct h = absurd (none_some h)
found_again (x ∷ rs) [] q n distinct h = absurd (none_some h)
found_again (x ∷ rs) (p ∷ ps) q n distinct h = elim (cases_Bool (p == q)) [
  | inl here ↦
      let same : (x, p) ≡ n = some_same (sym (ap (λ b. if b then Some (x, p) else find (λ m. m.1 == q) (zip rs ps)) here) ∙ h) in
      let self : (x == n.0) ≡ true = eq-eqb x n.0 (ap (λ m. m.0) same) in (
        ap (λ b. if b then Some (x, p) else find (λ m. m.0 == n.0) (zip rs ps)) self ∙ ap (λ m. Some m) same,
        sym (ap (λ m. m.1) same) ∙ eqb-true p q here,
        or_left _ _ self,
      )
  | inr apart ↦
      let parts = and_parts (not (contains x rs)) (is_distinct rs) distinct in
      let rest = found_again rs ps q n parts.1 (sym (ap (λ b. if b then Some (x, p) else find (λ m. m.1 == q) (zip rs ps)) apart) ∙ h) in (
        ap (λ b. if b then Some (x, p) else find (λ m. m.0 == n.0) (zip rs ps)) (distinct_apart x n.0 rs parts.0 rest.2) ∙ rest.0,
        rest.1,
        or_right _ _ rest.2,
      )
]

cap_there : (ds : List Descriptor) (p j : ℕ) (d : Descriptor) → slice_get ds j ≡ Some d → is_cap d ≡ true → contains (p + j) (places_from p ds) ≡ true
cap_there [] p zero d g caps = absurd (none_some g)
cap_there [] p (suc j) d g caps = absurd (none_some g)
cap_there (x ∷ ds) p zero d g caps = cap_here x ds p (p + zero) (subst (λ y. is_cap y ≡ true) (sym (some_same g)) caps) (sym (add-zero p))
cap_there (x ∷ ds) p (suc j) d g caps =
    cap_later x ds p (p + suc j) (let same : p + 1 + j ≡ p + suc j = omega arith in subst (λ q. contains q (places_from (p + 1) ds) ≡ true) same (cap_there ds (p + 1) j d g caps))

or_nothing : (o p : Option View) → p ≡ None → option_or o p ≡ o
or_nothing (Some v) p h = refl
or_nothing None p h = h

module _ (before : Past) (k c : ℕ) (rs : List ℕ) (m : RpcMessage) (refers : Refers before (Wire false k c rs m)) (notes : NotesEach before (Wire false k c rs m)) where
  late_none : is_late before (Wire false k c rs m) ≡ true → rs ≡ []
  late_none late = empty rs (notes ∙ ap (λ b. if b then 0 else length (places (Wire false k c rs m))) late)
    where
      empty : (l : List ℕ) → length l ≡ 0 → l ≡ []
      empty [] h = refl
      empty (x ∷ l) h = absurd (let no : ⊥ = omega (arith, h) in no)

  -- a late Return notes no reference
  pub late_reference : is_late before (Wire false k c rs m) ≡ true → (place : ℕ) → reference_at (Wire false k c rs m) place ≡ None
  late_reference late place = ap (λ l. noted_at l (places_from 0 (descriptors_of m)) place) (late_none late)

  module _ (late : is_late before (Wire false k c rs m) ≡ false) where
    noted_all : length rs ≡ length (places (Wire false k c rs m))
    noted_all = notes ∙ ap (λ b. if b then 0 else length (places (Wire false k c rs m))) late

    never : (place : ℕ) (d : Descriptor) → slice_get (descriptors (Wire false k c rs m)) place ≡ Some d → find (λ n. n.1 == place) (placed_references (Wire false k c rs m)) ≡ None → is_cap d ≡ true → ⊥
    never place d g none caps =
        let there : contains place (places (Wire false k c rs m)) ≡ true =
        subst (λ q. contains q (places (Wire false k c rs m)) ≡ true) (zero-add place) (cap_there (descriptors (Wire false k c rs m)) 0 place d g caps) in
        let n = zip_noted place rs (places (Wire false k c rs m)) there noted_all in none_some (sym none ∙ n.1)

    nothing_described : (place : ℕ) (o : Option Descriptor) → slice_get (descriptors (Wire false k c rs m)) place ≡ o → find (λ n. n.1 == place) (placed_references (Wire false k c rs m)) ≡ None →
        None ≡ option_and_then (descriptor_view (view_of_reference before) before (Wire false k c rs m)) o
    nothing_described place None g none = refl
    nothing_described place (Some NoCap) g none = refl
    nothing_described place (Some (SenderHosted n)) g none = absurd (never place (SenderHosted n) g none refl)
    nothing_described place (Some (SenderPromise n)) g none = absurd (never place (SenderPromise n) g none refl)
    nothing_described place (Some (ReceiverHosted n)) g none = absurd (never place (ReceiverHosted n) g none refl)
    nothing_described place (Some (ReceiverAnswer n path)) g none = absurd (never place (ReceiverAnswer n path) g none refl)

    some_described : (place : ℕ) (n : ℕ × ℕ) → find (λ n. n.1 == place) (placed_references (Wire false k c rs m)) ≡ Some n →
        view_of_reference (Wire false k c rs m ∷ before) n.0 ≡ view_of_descriptor before (Wire false k c rs m) place
    some_described place n found =
        let e : DecodedRecord = Wire false k c rs m in
        let again = found_again rs (places e) place n refers.distinct found in
        or_nothing (binds (view_of_reference before) before e n.0) (view_of_reference before n.0)
        (no_view before n.0 (view_of_reference before n.0) refl (all_not before n.0 rs refers.unused again.2))
        ∙ ap (λ o. option_and_then (λ n. described_at (view_of_reference before) before e n.1) o) again.0
        ∙ ap (λ q. described_at (view_of_reference before) before e q) again.1

    inner : (place : ℕ) (o : Option (ℕ × ℕ)) → find (λ n. n.1 == place) (placed_references (Wire false k c rs m)) ≡ o →
        option_and_then (view_of_reference (Wire false k c rs m ∷ before)) (option_map (λ n. n.0) o) ≡ view_of_descriptor before (Wire false k c rs m) place
    inner place (Some n) found = some_described place n found
    inner place None found = nothing_described place (slice_get (descriptors (Wire false k c rs m)) place) refl found

    -- what a descriptor stands for is the view of the reference noted for it
    pub noted_view : (place : ℕ) → option_and_then (view_of_reference (Wire false k c rs m ∷ before)) (reference_at (Wire false k c rs m) place) ≡ view_of_descriptor before (Wire false k c rs m) place
    noted_view place = inner place (find (λ n. n.1 == place) (placed_references (Wire false k c rs m))) refl

-- ---- what one record turns, it settles

is_promise_this : (p : ℕ) (o : Option View) → is_promise p o ≡ is_this (PromiseToKeep p) (promise_of o)
is_promise_this p (Some (Object object)) = refl
is_promise_this p (Some (Promise q)) = refl
is_promise_this p (Some (FieldOf call path)) = refl
is_promise_this p (Some (Import i place)) = refl
is_promise_this p None = refl

no_promise : (a : Unsettled) → ((p : ℕ) → is_this a (Some (PromiseToKeep p)) ≡ false) → (o : Option View) → is_this a (promise_of o) ≡ false
no_promise a h (Some (Object object)) = refl
no_promise a h (Some (Promise q)) = h q
no_promise a h (Some (FieldOf call path)) = refl
no_promise a h (Some (Import i place)) = refl
no_promise a h None = refl

no_results : (a : Unsettled) → ((call : ℕ) → is_this a (Some (ResultsOf call)) ≡ false) → (o : Option ℕ) → is_this a (option_map ResultsOf o) ≡ false
no_results a h (Some call) = h call
no_results a h None = refl

no_import : (a : Unsettled) → ((i place : ℕ) → is_this a (Some (ImportToResolve i place)) ≡ false) → (o : Option Birth) → is_this a (option_map import_at o) ≡ false
no_import a h (Some b) = h (record_index b.from) b.place
no_import a h None = refl

pub is_results : (call : ℕ) (o : Option ℕ) → is call o ≡ is_this (ResultsOf call) (option_map ResultsOf o)
is_results call (Some d) = refl
is_results call None = refl

is_import : (i place : ℕ) (o : Option Birth) → began_at i place o ≡ is_this (ImportToResolve i place) (option_map import_at o)
is_import i place (Some b) = refl
is_import i place None = refl

answer_there : (f : ℕ → Option View) (o : Option (ℕ × List ℕ)) → option_and_then (λ answer. f answer.0) o ≡ option_and_then f (option_map (λ answer. answer.0) o)
answer_there f (Some answer) = refl
answer_there f None = refl

-- what a Return doesn't settle, it doesn't settle whatever its results
unless_none : (a : Unsettled) (outcome : Outcome) (s : Option Unsettled) → is_this a s ≡ false → is_this a (unless_elsewhere outcome s) ≡ false
unless_none a Elsewhere s h = refl
unless_none a (Results payload) s h = h
unless_none a Exception s h = h
unless_none a Canceled s h = h
unless_none a (TakeFrom n) s h = h

-- where nothing is settled, nothing turns
unsettled : {A : Type 0} (b : Bool) (x : A) → b ≡ false → None ≡ (if b then Some x else None)
unsettled b x h = sym (ap (λ c. if c then Some x else None) h)

-- whether a record settles a view
abbrev pub settles_view : View → Past → DecodedRecord → Bool
settles_view (Object object) before e = false
settles_view (Promise p) before e = is_this (PromiseToKeep p) (settlement_of before e)
settles_view (FieldOf call path) before e = is_this (ResultsOf call) (settlement_of before e)
settles_view (Import i place) before e = is_this (ImportToResolve i place) (settlement_of before e)

-- where it turns a view that it settles
abbrev pub turn_there : List ℕ → Past → DecodedRecord → Next
turn_there path before e = on_to (option_and_then (view_of_reference (e ∷ before)) (turn_target path e))

promise_turns : (p : ℕ) (before : Past) (e : DecodedRecord) → keeps p before e ≡ (if is_this (PromiseToKeep p) (settlement_of before e) then Some (turn_there [] before e) else None)
promise_turns p before (Fulfil r to) = ap (λ b. if b then Some (on_to (view_of_reference before to)) else None) (is_promise_this p (view_of_reference before r))
promise_turns p before (Break r) = ap (λ b. if b then Some stops else None) (is_promise_this p (view_of_reference before r))
promise_turns p before (Wire false k c rs (Return head outcome)) =
    let s : Option Unsettled = option_map ResultsOf (call_at (opening (id k true head.answer) before)) in
    unsettled (is_this (PromiseToKeep p) (unless_elsewhere outcome s)) (turn_there [] before (Wire false k c rs (Return head outcome)))
    (unless_none (PromiseToKeep p) outcome s (no_results (PromiseToKeep p) (λ call. refl) (call_at (opening (id k true head.answer) before))))
promise_turns p before (Wire false k c rs (Resolve n resolution)) =
    unsettled (is_this (PromiseToKeep p) (option_map import_at (birth (id k false n) before))) (turn_there [] before (Wire false k c rs (Resolve n resolution)))
    (no_import (PromiseToKeep p) (λ i place. refl) (birth (id k false n) before))
promise_turns p before (Answer c results) = refl
promise_turns p before (Fault c) = refl
promise_turns p before _ = refl

module _ (before : Past) (k c : ℕ) (rs : List ℕ) (head : ReturnHead) where
  brought : (path : List ℕ) (outcome : Outcome) → Refers before (Wire false k c rs (Return head outcome)) → NotesEach before (Wire false k c rs (Return head outcome)) →
      is_late before (Wire false k c rs (Return head outcome)) ≡ false →
      on_to (result_at path before (Wire false k c rs (Return head outcome)) outcome) ≡ turn_there path before (Wire false k c rs (Return head outcome))
  brought path Exception refers notes late = refl
  brought path Canceled refers notes late = refl
  brought path Elsewhere refers notes late = refl
  brought path (TakeFrom n) refers notes late = refl
  brought path (Results payload) refers notes late = ap (λ o. on_to o) (found (find (λ field. same_path field.0 path) payload.fields))
    where
      found : (o : Option (List ℕ × ℕ)) → option_and_then (λ field. view_of_descriptor before (Wire false k c rs (Return head (Results payload))) field.1) o
          ≡ option_and_then (view_of_reference (Wire false k c rs (Return head (Results payload)) ∷ before))
          (option_and_then (λ field. reference_at (Wire false k c rs (Return head (Results payload))) field.1) o)
      found (Some field) = sym (noted_view before k c rs (Return head (Results payload)) refers notes late field.1)
      found None = refl

  brought_late : (path : List ℕ) (outcome : Outcome) → Refers before (Wire false k c rs (Return head outcome)) → NotesEach before (Wire false k c rs (Return head outcome)) →
      is_late before (Wire false k c rs (Return head outcome)) ≡ true → stops ≡ turn_there path before (Wire false k c rs (Return head outcome))
  brought_late path Exception refers notes late = refl
  brought_late path Canceled refers notes late = refl
  brought_late path Elsewhere refers notes late = refl
  brought_late path (TakeFrom n) refers notes late = refl
  brought_late path (Results payload) refers notes late =
      let e : DecodedRecord = Wire false k c rs (Return head (Results payload)) in
      ap (λ o. on_to (option_and_then (view_of_reference (e ∷ before)) o)) (sym (found (find (λ field. same_path field.0 path) payload.fields)))
    where
      found : (o : Option (List ℕ × ℕ)) → option_and_then (λ field. reference_at (Wire false k c rs (Return head (Results payload))) field.1) o ≡ None
      found (Some field) = late_reference before k c rs (Return head (Results payload)) refers notes late field.1
      found None = refl

  returned_turns : (path : List ℕ) (outcome : Outcome) → Refers before (Wire false k c rs (Return head outcome)) → NotesEach before (Wire false k c rs (Return head outcome)) →
      (late : Bool) → is_late before (Wire false k c rs (Return head outcome)) ≡ late →
      (if late then stops else on_to (result_at path before (Wire false k c rs (Return head outcome)) outcome)) ≡ turn_there path before (Wire false k c rs (Return head outcome))
  returned_turns path outcome refers notes true late = brought_late path outcome refers notes late
  returned_turns path outcome refers notes false late = brought path outcome refers notes late

-- where a record turns the field at a path of a call that it settles
abbrev field_there : List ℕ → Past → DecodedRecord → Next
field_there path before e = goes (view_of_reference (e ∷ before)) path (Some (e, call_taken_from before e))

-- it takes the results of a call, or is late
taken_there : (named : ℕ → Option View) (path : List ℕ) (k c : ℕ) (rs : List ℕ) (head : ReturnHead) (n : ℕ) (late : Bool) (by : Option ℕ) →
    (if late then stops else on_to (option_map (λ call. FieldOf call path) by)) ≡ goes named path (Some (Wire false k c rs (Return head (TakeFrom n)), if late then None else by))
taken_there named path k c rs head n true by = refl
taken_there named path k c rs head n false None = refl
taken_there named path k c rs head n false (Some by) = refl

field_turns : (call : ℕ) (path : List ℕ) (before : Past) (e : DecodedRecord) → Refers before e → NotesEach before e →
    answers call path before e ≡ (if is_this (ResultsOf call) (settlement_of before e) then Some (field_there path before e) else None)
field_turns call path before (Answer c results) refers notes =
    ap (λ o. if c == call then Some (on_to o) else None) (answer_there (view_of_reference before) (find (λ answer. same_path answer.1 path) results))
field_turns call path before (AnswerBy c by) refers notes = refl
field_turns call path before (Fault c) refers notes = refl
field_turns call path before (Wire false k c rs (Return head (Results payload))) refers notes =
    let e : DecodedRecord = Wire false k c rs (Return head (Results payload)) in
    ap₂ (λ b x. if b then Some x else None) (is_results call (call_at (opening (id k true head.answer) before))) (returned_turns before k c rs head path (Results payload) refers notes (is_late before e) refl)
field_turns call path before (Wire false k c rs (Return head Exception)) refers notes =
    let e : DecodedRecord = Wire false k c rs (Return head Exception) in
    ap₂ (λ b x. if b then Some x else None) (is_results call (call_at (opening (id k true head.answer) before))) (returned_turns before k c rs head path Exception refers notes (is_late before e) refl)
field_turns call path before (Wire false k c rs (Return head Canceled)) refers notes =
    let e : DecodedRecord = Wire false k c rs (Return head Canceled) in
    ap₂ (λ b x. if b then Some x else None) (is_results call (call_at (opening (id k true head.answer) before))) (returned_turns before k c rs head path Canceled refers notes (is_late before e) refl)
field_turns call path before (Wire false k c rs (Return head Elsewhere)) refers notes = refl
field_turns call path before (Wire false k c rs (Return head (TakeFrom n))) refers notes =
    let e : DecodedRecord = Wire false k c rs (Return head (TakeFrom n)) in
    ap₂ (λ b x. if b then Some x else None) (is_results call (call_at (opening (id k true head.answer) before)))
    (taken_there (view_of_reference (e ∷ before)) path k c rs head n (is_late before e) (call_of (id k false n) before))
field_turns call path before (Wire false k c rs (Resolve n resolution)) refers notes =
    unsettled (is_this (ResultsOf call) (option_map import_at (birth (id k false n) before))) (field_there path before (Wire false k c rs (Resolve n resolution)))
    (no_import (ResultsOf call) (λ i place. refl) (birth (id k false n) before))
field_turns call path before (Fulfil r to) refers notes =
    unsettled (is_this (ResultsOf call) (promise_of (view_of_reference before r))) (field_there path before (Fulfil r to)) (no_promise (ResultsOf call) (λ p. refl) (view_of_reference before r))
field_turns call path before (Break r) refers notes =
    unsettled (is_this (ResultsOf call) (promise_of (view_of_reference before r))) (field_there path before (Break r)) (no_promise (ResultsOf call) (λ p. refl) (view_of_reference before r))
field_turns call path before _ refers notes = refl

import_turns : (i place : ℕ) (before : Past) (e : DecodedRecord) → Refers before e → NotesEach before e →
    resolves i place before e ≡ (if is_this (ImportToResolve i place) (settlement_of before e) then Some (turn_there [] before e) else None)
import_turns i place before (Wire false k c rs (Resolve n resolution)) refers notes =
    ap₂ (λ b o. if b then Some (on_to o) else None) (is_import i place (birth (id k false n) before))
    (sym (noted_view before k c rs (Resolve n resolution) refers notes refl 0))
import_turns i place before (Wire false k c rs (Return head outcome)) refers notes =
    let s : Option Unsettled = option_map ResultsOf (call_at (opening (id k true head.answer) before)) in
    unsettled (is_this (ImportToResolve i place) (unless_elsewhere outcome s)) (turn_there [] before (Wire false k c rs (Return head outcome)))
    (unless_none (ImportToResolve i place) outcome s (no_results (ImportToResolve i place) (λ call. refl) (call_at (opening (id k true head.answer) before))))
import_turns i place before (Fulfil r to) refers notes =
    unsettled (is_this (ImportToResolve i place) (promise_of (view_of_reference before r))) (turn_there [] before (Fulfil r to))
    (no_promise (ImportToResolve i place) (λ p. refl) (view_of_reference before r))
import_turns i place before (Break r) refers notes =
    unsettled (is_this (ImportToResolve i place) (promise_of (view_of_reference before r))) (turn_there [] before (Break r))
    (no_promise (ImportToResolve i place) (λ p. refl) (view_of_reference before r))
import_turns i place before _ refers notes = refl

-- the call by whose results a record settles a view: only of a field
abbrev pub behind : View → Past → DecodedRecord → Option ℕ
behind (FieldOf call path) before e = call_taken_from before e
behind _ before e = None

-- where a record turns a view that it settles
abbrev there : View → Past → DecodedRecord → Next
there v before e = goes (view_of_reference (e ∷ before)) (field_path v) (Some (e, behind v before e))

pub turn_settles : (v : View) (before : Past) (e : DecodedRecord) → Refers before e → NotesEach before e →
    turn v before e ≡ (if settles_view v before e then Some (there v before e) else None)
turn_settles (Object object) before e refers notes = refl
turn_settles (Promise p) before e refers notes = promise_turns p before e
turn_settles (FieldOf call path) before e refers notes = field_turns call path before e refers notes
turn_settles (Import i place) before e refers notes = import_turns i place before e refers notes

-- ---- what lands stays where it is

wire_lands : (before : Past) (s : Bool) (k c : ℕ) (rs : List ℕ) (m : RpcMessage) → Refers before (Wire s k c rs m) → (x : ℕ) → contains x rs ≡ true → is_bound (Wire s k c rs m ∷ before) x ≡ true
wire_lands before true k c rs m refers x there = all_at (is_bound before) rs x refers.bound there
wire_lands before false k c rs m refers x there = or_left _ _ there

-- a record lands at bound references
pub lands_bound : (before : Past) (e : DecodedRecord) → Refers before e → LandsBound before e
lands_bound before (Fulfil r to) refers path x h =
    subst (λ y. is_bound before y ≡ true) (some_same h) (and_parts (is_bound before to) true (and_parts (is_bound before r) (is_bound before to && true) refers.bound).1).0
lands_bound before (Answer c results) refers path x h = all_at (is_bound before) (map (λ answer. answer.0) results) x refers.bound (named results h)
  where
    named : (rs : List (ℕ × List ℕ)) → option_map (λ answer. answer.0) (find (λ answer. same_path answer.1 path) rs) ≡ Some x → contains x (map (λ answer. answer.0) rs) ≡ true
    named [] h = absurd (none_some h)
    named (y ∷ rs) h = elim (cases_Bool (same_path y.1 path)) [
      | inl here ↦ or_left _ _ (eq-eqb y.0 x (some_same (sym (ap (λ b. option_map (λ answer. answer.0) (if b then Some y else find (λ answer. same_path answer.1 path) rs)) here) ∙ h)))
      | inr apart ↦ or_right _ _ (named rs (sym (ap (λ b. option_map (λ answer. answer.0) (if b then Some y else find (λ answer. same_path answer.1 path) rs)) apart) ∙ h))
    ]
lands_bound before (Wire s k c rs (Return head (Results payload))) refers path x h = wire_lands before s k c rs (Return head (Results payload)) refers x (field (find (λ field. same_path field.0 path) payload.fields) h)
  where
    field : (o : Option (List ℕ × ℕ)) → option_and_then (λ field. reference_at (Wire s k c rs (Return head (Results payload))) field.1) o ≡ Some x → contains x rs ≡ true
    field (Some f) g = noted_there rs (places (Wire s k c rs (Return head (Results payload)))) f.1 x g
    field None g = absurd (none_some g)
lands_bound before (Wire s k c rs (Resolve n resolution)) refers path x h =
    wire_lands before s k c rs (Resolve n resolution) refers x (noted_there rs (places (Wire s k c rs (Resolve n resolution))) 0 x h)
lands_bound before (Wire s k c rs (Return head Exception)) refers path x h = absurd (none_some h)
lands_bound before (Wire s k c rs (Return head Canceled)) refers path x h = absurd (none_some h)
lands_bound before (Wire s k c rs (Return head Elsewhere)) refers path x h = absurd (none_some h)
lands_bound before (Wire s k c rs (Return head (TakeFrom n))) refers path x h = absurd (none_some h)
lands_bound before _ refers path x h = absurd (none_some h)

-- a bound reference keeps its view, or that it has none
pub view_same : (before : Past) (e : DecodedRecord) (r : ℕ) → Refers before e → is_bound before r ≡ true → view_of_reference (e ∷ before) r ≡ view_of_reference before r
view_same before e r refers bound = inner (binds (view_of_reference before) before e r) refl
  where
    inner : (o : Option View) → binds (view_of_reference before) before e r ≡ o → option_or o (view_of_reference before r) ≡ view_of_reference before r
    inner None h = refl
    inner (Some w) h =
        absurd (both_ways (is_bound before r) (all_not before r (new_references e) refers.unused (binds_new (view_of_reference before) before e r w h)) bound)

-- the record of a settler
settler_event : (p : Unsettled) (o : Option Point) → option_map (λ p. p.event) o ≡ option_map (λ s. s.0) (option_map (settler_at_point p) o)
settler_event p (Some q) = refl
settler_event p None = refl

-- where a record landed that settled something is bound
found_lands : (test : Past → DecodedRecord → Bool) (past : Past) → Each LandsBound past → (x : DecodedRecord) → option_map (λ p. p.event) (last_where test past) ≡ Some x →
    (path : List ℕ) (r : ℕ) → turn_target path x ≡ Some r → is_bound past r ≡ true
found_lands test [] all x h path r there = absurd (none_some h)
found_lands test (e ∷ before) all x h path r there = elim (cases_Bool (test before e)) [
  | inl here ↦ all.0 path r (ap (λ y. turn_target path y) (some_same (sym (ap (λ b. option_map (λ p. p.event) (if b then Some (point before e) else last_where test before)) here) ∙ h)) ∙ there)
  | inr apart ↦ or_right _ _
      (found_lands test before all.1 x (sym (ap (λ b. option_map (λ p. p.event) (if b then Some (point before e) else last_where test before)) apart) ∙ h) path r there)
]

pending_lands : (p : Unsettled) (past : Past) → Each LandsBound past → (x : Settler) → option_map (settler_at_point p) (settler p past) ≡ Some x →
    (path : List ℕ) (r : ℕ) → turn_target path x.0 ≡ Some r → is_bound past r ≡ true
pending_lands p past all x h path r lands =
    found_lands (λ before e. is_this p (settlement_of before e)) past all x.0 (settler_event p (settler p past) ∙ ap (λ o. option_map (λ s. s.0) o) h) path r lands

settled_lands : (v : View) (past : Past) → Each LandsBound past → (x : Settler) → settler_of v past ≡ Some x → (path : List ℕ) (r : ℕ) → turn_target path x.0 ≡ Some r → is_bound past r ≡ true
settled_lands (Object object) past all x h path r lands = absurd (none_some h)
settled_lands (Promise p) past all x h path r lands = pending_lands (PromiseToKeep p) past all x h path r lands
settled_lands (FieldOf call field) past all x h path r lands = pending_lands (ResultsOf call) past all x h path r lands
settled_lands (Import i place) past all x h path r lands = pending_lands (ImportToResolve i place) past all x h path r lands

-- ---- where views go after a record

point_if : (p : Unsettled) (b : Bool) (before : Past) (e : DecodedRecord) (o : Option Point) →
    option_map (settler_at_point p) (if b then Some (point before e) else o) ≡ (if b then Some (e, call_behind p before e) else option_map (settler_at_point p) o)
point_if p true before e o = refl
point_if p false before e o = refl

settler_more : (v : View) (before : Past) (e : DecodedRecord) → settler_of v (e ∷ before) ≡ (if settles_view v before e then Some (e, behind v before e) else settler_of v before)
settler_more (Object object) before e = refl
settler_more (Promise p) before e = point_if (PromiseToKeep p) (is_this (PromiseToKeep p) (settlement_of before e)) before e (settler (PromiseToKeep p) before)
settler_more (FieldOf call path) before e = point_if (ResultsOf call) (is_this (ResultsOf call) (settlement_of before e)) before e (settler (ResultsOf call) before)
settler_more (Import i place) before e = point_if (ImportToResolve i place) (is_this (ImportToResolve i place) (settlement_of before e)) before e (settler (ImportToResolve i place) before)

module _ (before : Past) (e : DecodedRecord) (refers : Refers before e) (notes : NotesEach before e) (all : Each LandsBound before) where
  goes_kept : (v : View) (o : Option Settler) → settler_of v before ≡ o → goes (view_of_reference before) (field_path v) o ≡ goes (view_of_reference (e ∷ before)) (field_path v) o
  goes_kept v None h = refl
  goes_kept v (Some (x, Some by)) h = refl
  goes_kept v (Some (x, None)) h = inner (turn_target (field_path v) x) refl
    where
      inner : (o : Option ℕ) → turn_target (field_path v) x ≡ o → on_to (option_and_then (view_of_reference before) o) ≡ on_to (option_and_then (view_of_reference (e ∷ before)) o)
      inner None lands = refl
      inner (Some r) lands = ap (λ w. on_to w) (sym (view_same before e r refers (settled_lands v before all (x, None) h (field_path v) r lands)))

  pub going_step : (v : View) → next before v ≡ goes (view_of_reference before) (field_path v) (settler_of v before) →
      next (e ∷ before) v ≡ goes (view_of_reference (e ∷ before)) (field_path v) (settler_of v (e ∷ before))
  going_step v known = elim (cases_Bool (settles_view v before e)) [
    | inl here ↦
        ap (λ o. unwrap_or (option_or o (last_answer (turn v) before)) stays)
        (turn_settles v before e refers notes ∙ ap (λ b. if b then Some (there v before e) else None) here)
        ∙ sym (ap (λ o. goes (view_of_reference (e ∷ before)) (field_path v) o) (settler_more v before e ∙ ap (λ b. if b then Some (e, behind v before e) else settler_of v before) here))
    | inr apart ↦
        ap (λ o. unwrap_or (option_or o (last_answer (turn v) before)) stays)
        (turn_settles v before e refers notes ∙ ap (λ b. if b then Some (there v before e) else None) apart)
        ∙ known ∙ goes_kept v (settler_of v before) refl
        ∙ sym (ap (λ o. goes (view_of_reference (e ∷ before)) (field_path v) o) (settler_more v before e ∙ ap (λ b. if b then Some (e, behind v before e) else settler_of v before) apart))
  ]

-- ---- the last record that turned a view is the one that settled it

turned_if : {A : Type 0} (b : Bool) (x : A) → is_some (if b then Some x else None) ≡ b
turned_if true x = refl
turned_if false x = refl

last_step : (v : View) (before : Past) (e : DecodedRecord) → (if settles_view v before e then Some (point before e) else last_settler v before) ≡ last_settler v (e ∷ before)
last_step (Object object) before e = refl
last_step (Promise p) before e = refl
last_step (FieldOf call path) before e = refl
last_step (Import i place) before e = refl

pub turning_step : (before : Past) (e : DecodedRecord) → Refers before e → NotesEach before e → (v : View) → last_turn v before ≡ last_settler v before → last_turn v (e ∷ before) ≡ last_settler v (e ∷ before)
turning_step before e refers notes v known =
    ap₂ (λ b o. if b then Some (point before e) else o)
    (ap (λ t. is_some t) (turn_settles v before e refers notes) ∙ turned_if (settles_view v before e) (there v before e)) known
    ∙ last_step v before e

-- ---- at every point of a log

pub still : (v : View) → stays ≡ goes (view_of_reference []) (field_path v) (settler_of v [])
still (Object object) = refl
still (Promise p) = refl
still (FieldOf call path) = refl
still (Import i place) = refl

goings : (past : Past) → Each IsSound past → ((v : View) → next past v ≡ goes (view_of_reference past) (field_path v) (settler_of v past)) × Each LandsBound past
goings [] all = (still, tt)
goings (e ∷ before) all =
    let rest = goings before all.1 in
    ((λ v. going_step before e all.0.refers all.0.notes_each rest.1 v (rest.0 v)), (lands_bound before e all.0.refers, rest.1))

stays_not_turns : {w : View} → stays ≡ turns w → ⊥
stays_not_turns e = cc

stops_not_turns : {w : View} → stops ≡ turns w → ⊥
stops_not_turns e = cc

same_turn : {v w : View} → turns v ≡ turns w → v ≡ w
same_turn e = cc

on_to_turns : (o : Option View) (w : View) → on_to o ≡ turns w → o ≡ Some w
on_to_turns (Some v) w e = ap (λ x. Some x) (same_turn e)
on_to_turns None w e = absurd (stops_not_turns e)

-- ---- to what a view turns

-- a view of a bound reference
abbrev IsOfReference : Past → View → Type 0
IsOfReference past w = (r : ℕ) × (is_bound past r ≡ true) × (view_of_reference past r ≡ Some w)

-- from a field to the same field of a bound call
abbrev IsOfCall : Past → View → View → Type 0
IsOfCall past v w = (call by : ℕ) × (path : List ℕ) × (v ≡ FieldOf call path) × (w ≡ FieldOf by path) × (is_bound_call past by ≡ true)

-- the call by whose results a record answers another is bound
call_of_opened : (over : Bool) (o : Option ℕ) (by : ℕ) → (if over then None else o) ≡ Some by → is by o ≡ true
call_of_opened true o by h = absurd (none_some h)
call_of_opened false (Some c) by h = eq-eqb c by (some_same h)
call_of_opened false None by h = absurd (none_some h)

not_late : (late : Bool) (o : Option ℕ) (by : ℕ) → (if late then None else o) ≡ Some by → o ≡ Some by
not_late true o by h = absurd (none_some h)
not_late false o by h = h

taken_bound : (before : Past) (e : DecodedRecord) → Each IsSound before → Refers before e → (by : ℕ) → call_taken_from before e ≡ Some by → is_bound_call before by ≡ true
taken_bound before (AnswerBy c d) sound refers by h =
    subst (λ x. is_bound_call before x ≡ true) (some_same h) (and_parts (is_bound_call before d) true (and_parts (is_bound_call before c) (is_bound_call before d && true) refers.bound_call).1).0
taken_bound before (Wire false k c rs (Return head (TakeFrom n))) sound refers by h =
    opening_bound before sound (id k false n) by
    (call_of_opened (is_over (id k false n) before) (call_at (opening (id k false n) before)) by
    (not_late (is_late before (Wire false k c rs (Return head (TakeFrom n)))) (call_of (id k false n) before) by h))
taken_bound before _ sound refers by h = absurd (none_some h)

-- of the last record that settled something too
settler_bound : (p : Unsettled) (past : Past) → Each IsSound past → (q : Point) → settler p past ≡ Some q → (by : ℕ) → call_taken_from q.before q.event ≡ Some by → is_bound_call past by ≡ true
settler_bound p [] all q h by taken = absurd (none_some h)
settler_bound p (e ∷ before) all q h by taken = elim (cases_Bool (is_this p (settlement_of before e))) [
  | inl here ↦
      let same : point before e ≡ q = some_same (sym (ap (λ b. if b then Some (point before e) else settler p before) here) ∙ h) in
      or_right _ _ (taken_bound before e all.1 all.0.refers by (ap (λ x. call_taken_from x.before x.event) same ∙ taken))
  | inr apart ↦ or_right _ _ (settler_bound p before all.1 q (sym (ap (λ b. if b then Some (point before e) else settler p before) apart) ∙ h) by taken)
]

module _ (past : Past) (sound : Each IsSound past) (all : Each LandsBound past) where
  module _ (v w : View) where
    by_landing : (x : Settler) → settler_of v past ≡ Some x → (o : Option ℕ) → turn_target (field_path v) x.0 ≡ o → option_and_then (view_of_reference past) o ≡ Some w → IsOfReference past w
    by_landing x settled None lands e = absurd (none_some e)
    by_landing x settled (Some r) lands e = (r, settled_lands v past all x settled (field_path v) r lands, e)

  by_call : (v w : View) (x : DecodedRecord) (by : ℕ) → settler_of v past ≡ Some (x, Some by) → w ≡ FieldOf by (field_path v) → IsOfCall past v w
  by_call (Object object) w x by settled same = absurd (none_some settled)
  by_call (Promise p) w x by settled same = plain (settler (PromiseToKeep p) past) settled
    where
      plain : (o : Option Point) → option_map (settler_at_point (PromiseToKeep p)) o ≡ Some (x, Some by) → IsOfCall past (Promise p) w
      plain (Some q) h = absurd (none_some (ap (λ s. s.1) (some_same h)))
      plain None h = absurd (none_some h)
  by_call (Import i place) w x by settled same = plain (settler (ImportToResolve i place) past) settled
    where
      plain : (o : Option Point) → option_map (settler_at_point (ImportToResolve i place)) o ≡ Some (x, Some by) → IsOfCall past (Import i place) w
      plain (Some q) h = absurd (none_some (ap (λ s. s.1) (some_same h)))
      plain None h = absurd (none_some h)
  by_call (FieldOf call path) w x by settled same = inner (settler (ResultsOf call) past) refl settled
    where
      inner : (o : Option Point) → settler (ResultsOf call) past ≡ o → option_map (settler_at_point (ResultsOf call)) o ≡ Some (x, Some by) → IsOfCall past (FieldOf call path) w
      inner None is h = absurd (none_some h)
      inner (Some q) is h = (call, by, path, refl, same, settler_bound (ResultsOf call) past sound q is by (ap (λ s. s.1) (some_same h)))

  by_settler : (v w : View) (o : Option Settler) → settler_of v past ≡ o → goes (view_of_reference past) (field_path v) o ≡ turns w → IsOfReference past w ⊎ IsOfCall past v w
  by_settler v w None settled e = absurd (stays_not_turns e)
  by_settler v w (Some (x, Some by)) settled e = inr (by_call v w x by settled (sym (same_turn e)))
  by_settler v w (Some (x, None)) settled e =
      inl (by_landing v w (x, None) settled (turn_target (field_path v) x) refl (on_to_turns (option_and_then (view_of_reference past) (turn_target (field_path v) x)) w e))

pub turned_to_reference : (past : Past) → Each IsSound past → (v w : View) → next past v ≡ turns w →
    ((r : ℕ) × (is_bound past r ≡ true) × (view_of_reference past r ≡ Some w))
    ⊎ ((call by : ℕ) × (path : List ℕ) × (v ≡ FieldOf call path) × (w ≡ FieldOf by path) × (is_bound_call past by ≡ true))
turned_to_reference past all v w e = let facts = goings past all in by_settler past all facts.1 v w (settler_of v past) refl (sym (facts.0 v) ∙ e)

-- ---- as the code finds it

pub reference_met : (e : DecodedRecord) (ds : List Descriptor) (rs : List ℕ) (place index before : ℕ) (d : Descriptor) → ds ≡ descriptors e → rs ≡ references e → index ≡ place →
    before ≡ count_by is_cap (take index ds) → slice_get ds index ≡ Some d → reference_by rs before d ≡ reference_at e place
reference_met e ds rs place index before d all noted at counted got =
    ap (λ l. reference_by l before d) noted
    ∙ sym (reference_counted e place before (counted ∙ ap₂ (λ i l. count_by is_cap (take i l)) at all)
    ∙ ap (λ o. option_and_then (λ d. reference_by (references e) before d) o) (ap₂ (λ l i. slice_get l i) (sym all) (sym at) ∙ got))

pub reference_unmet : (e : DecodedRecord) (ds : List Descriptor) (place : ℕ) → ds ≡ descriptors e → length ds ≤ place → None ≡ reference_at e place
reference_unmet e ds place all past =
    sym (reference_counted e place (count_by is_cap (take place (descriptors e))) refl
    ∙ ap (λ o. option_and_then (λ d. reference_by (references e) (count_by is_cap (take place (descriptors e))) d) o) (ap (λ l. slice_get l place) (sym all) ∙ slice_get_past ds place past))
