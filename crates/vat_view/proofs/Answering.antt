-- What the tables answer is what looking back finds.
use Rattle.std.proofs.Common.{◌≡◌, ◌+◌, ◌≤◌, inl, inr, refl, sym, ◌∙◌, ap, ap₂, subst, ℕ, List, [], ◌∷◌, map, length, count_by, Bool, true, false, not, ◌&&◌, ◌||◌, Option, Some, None, if◌then◌else◌, option_map, option_and_then, arith}
use Rattle.std.specs.Prelude.{is_some, Decides, slice_get, Result, Ok, Err, IfOk}
use Rattle.std.proofs.lemmas.Bool.{cases_Bool, and_parts, false≢true}
use Rattle.number_tables.specs.declared.question_table.Questions.{Questions}
use Rattle.number_tables.specs.declared.exports_imports.ExportsImports.{ExportsImports}
use Rattle.vat_view.specs.declared.record.introduced.Introduced.{Introduced}
use Rattle.vat_view.specs.declared.tables.references.BoundReferences.{BoundReferences}
use Rattle.number_tables.specs.declared.call_table.Calls.{Calls}
use Rattle.vat_view.specs.Types.{Descriptor, Target, Imported, Promised, TakeFrom, Return, Finish, DecodedRecord, Wire, View, FieldOf, TableKey}
use Rattle.decoded_records.specs.Past.{Past, Point, point, id, same_id, last_since, Each}
use Rattle.decoded_records.specs.Questions.{opens, returns, finishes, releases, takes_results, opening, return_of, is_opened, is_returned, is_returned_lightly, is_finished, is_released, is_tail, is_taken, is_unfinished, is_unreturned, is_late, closes, call_at, call_of}
use Rattle.decoded_records.specs.Lives.{introductions_at, gives_back, GivesBackHeld, descriptors}
use Rattle.decoded_records.specs.Views.{view_of_reference, target_view, target_of, view_of_target, descriptor_view, view_of_descriptor, views_of_descriptors}
use Rattle.decoded_records.specs.Calls.{call_taken_from}
use Rattle.decoded_records.specs.Uses.{UsesQuestions}
use Rattle.decoded_records.specs.Bindings.{is_bound}
use Rattle.vat_view.specs.Sound.{IsSound}
use Rattle.number_tables.specs.Glue.QuestionTables.{question_at, late_by, given_back_by, results_released_in, params_introduced_in, results_introduced_in, free_in, finished_in, tail_in, taken_in, opening_call_in, call_by}
use Rattle.vat_view.specs.Glue.Tables.{bound_at, count_released, origins_if, origins, first_in, AreBegun, view_by}
use Rattle.number_tables.specs.Glue.LifeTables.{held_count_at}
use Rattle.vat_view.specs.Glue.Asking.{target_by, targeted_by, taken_from_by, given_by}
use Rattle.vat_view.specs.Glue.Kept.{AreKept}
use Rattle.decoded_records.proofs.Naming.{same_id_is}
use Rattle.vat_view.proofs.Knowing.{known_from, asked_at, given_if}
use Rattle.vat_view.proofs.Stepping.{gives_parts}
use Rattle.vat_view.proofs.Lasting.{view_bound}
use Rattle.vat_view.proofs.Meaning.{call_known}
use Rattle.vat_view.proofs.Viewed.{Has, all_viewed}
use Rattle.vat_view.proofs.Describing.{described_known, number_is}

-- what holds of an answer, if there is one
pub if_ok : {T E : Type 0} {P Q : T → Type 0} (r : Result T E) → ((x : T) → P x → Q x) → IfOk r P → IfOk r Q
if_ok (Ok x) f p = f x p
if_ok (Err e) f p = p

-- ---- questions

free_at : (q : TableKey) (past : Past) (o : Option Point) → free_in (option_map (known_from q past) o)
    ≡ ((not (is_some o) || (is_returned q past && is_finished q past)) || is_returned_lightly q past)
free_at q past (Some p) = refl
free_at q past None = refl

tail_at : (q : TableKey) (past : Past) (o : Option Point) → tail_in (option_map (known_from q past) o) ≡ is_tail o
tail_at q past (Some p) = refl
tail_at q past None = refl

call_of_opening : (q : TableKey) (past : Past) (o : Option Point) → opening_call_in (option_map (known_from q past) o) ≡ call_at o
call_of_opening q past (Some p) = refl
call_of_opening q past None = refl

-- ---- what was never opened was never returned, finished or taken

returns_opened : (q : TableKey) (before : Past) (e : DecodedRecord) → UsesQuestions before e → returns q before e ≡ true → is_opened q before ≡ true
returns_opened q before (Wire s k c rs (Return head outcome)) uses h =
    (and_parts (is_opened q before) (not (is_returned q before)) (subst (λ x. is_unreturned x before ≡ true) (sym (same_id_is q (id k (not s) head.answer) h)) uses.returned_once)).0
returns_opened q before _ uses h = absurd (false≢true h)

finishes_opened : (q : TableKey) (before : Past) (e : DecodedRecord) → UsesQuestions before e → finishes q before e ≡ true → is_opened q before ≡ true
finishes_opened q before (Wire s k c rs (Finish n release)) uses h =
    (and_parts (is_opened q before) (not (is_finished q before))
    (subst (λ x. is_unfinished x before ≡ true) (sym (same_id_is q (id k s n) h)) (and_parts (is_unfinished (id k s n) before) true uses.used).0)).0
finishes_opened q before _ uses h = absurd (false≢true h)

releases_opened : (q : TableKey) (before : Past) (e : DecodedRecord) → UsesQuestions before e → releases q before e ≡ true → is_opened q before ≡ true
releases_opened q before (Wire s k c rs (Finish n true)) uses h = finishes_opened q before (Wire s k c rs (Finish n true)) uses h
releases_opened q before _ uses h = absurd (false≢true h)

tail_opened : (o : Option Point) → is_tail o ≡ true → is_some o ≡ true
tail_opened (Some p) h = refl
tail_opened None h = absurd (false≢true h)

takes_opened : (q : TableKey) (before : Past) (e : DecodedRecord) → UsesQuestions before e → takes_results q before e ≡ true → is_opened q before ≡ true
takes_opened q before (Wire s k c rs (Return head (TakeFrom m))) uses h =
    tail_opened (opening q before) (and_parts (is_tail (opening q before)) (not (is_taken q before))
    (subst (λ x. (is_tail (opening x before) && not (is_taken x before)) ≡ true) (sym (same_id_is q (id k s m) h)) uses.taken_once)).0
takes_opened q before _ uses h = absurd (false≢true h)

module _ (q : TableKey) (test : Past → DecodedRecord → Bool) (opened : (before : Past) (e : DecodedRecord) → UsesQuestions before e → test before e ≡ true → is_opened q before ≡ true) where
  unopened : (past : Past) → Each IsSound past → is_opened q past ≡ false → last_since (opens q) test past ≡ None
  unopened [] sound h = refl
  unopened (e ∷ before) sound h = elim (cases_Bool (opens q before e)) [
    | inl new ↦ absurd (false≢true (sym h ∙ ap (λ b. is_some (if b then Some (point before e) else opening q before)) new))
    | inr old ↦
        let never : is_opened q before ≡ false = sym (ap (λ b. is_some (if b then Some (point before e) else opening q before)) old) ∙ h in
        ap (λ b. if b then None else if test before e then Some (point before e) else last_since (opens q) test before) old
        ∙ elim (cases_Bool (test before e)) [
          | inl so ↦ absurd (false≢true (sym never ∙ opened before e sound.0.uses_questions so))
          | inr apart ↦ ap (λ b. if b then Some (point before e) else last_since (opens q) test before) apart ∙ unopened before sound.1 never
        ]
  ]

finished_at : (q : TableKey) (past : Past) (o : Option Point) → (is_some o ≡ false → is_finished q past ≡ false) → finished_in (option_map (known_from q past) o) ≡ is_finished q past
finished_at q past (Some p) h = refl
finished_at q past None h = sym (h refl)

released_at : (q : TableKey) (past : Past) (o : Option Point) → (is_some o ≡ false → is_released q past ≡ false) → results_released_in (option_map (known_from q past) o) ≡ is_released q past
released_at q past (Some p) h = refl
released_at q past None h = sym (h refl)

taken_at : (q : TableKey) (past : Past) (o : Option Point) → (is_some o ≡ false → is_taken q past ≡ false) → taken_in (option_map (known_from q past) o) ≡ is_taken q past
taken_at q past (Some p) h = refl
taken_at q past None h = sym (h refl)

brought_at : (q : TableKey) (past : Past) (o : Option Point) → (is_some o ≡ false → return_of q past ≡ None) → results_introduced_in (option_map (known_from q past) o) ≡ introductions_at (return_of q past)
brought_at q past (Some p) h = refl
brought_at q past None h = sym (ap (λ o. introductions_at o) (h refl))

-- ---- references

some_of : {A : Type 0} (o : Option A) → Has o → is_some o ≡ true
some_of (Some x) h = refl
some_of None h = absurd (let no : ⊥ = let e = h.1 in cc in no)

mapped : {A B : Type 0} (f g : A → B) → ((x : A) → f x ≡ g x) → (xs : List A) → map f xs ≡ map g xs
mapped f g same [] = refl
mapped f g same (x ∷ xs) = ap (λ y. y ∷ map f xs) (same x) ∙ ap (λ ys. g x ∷ ys) (mapped f g same xs)

module _ (past : Past) (questions : Questions) (lives : ExportsImports) (bound : BoundReferences) (calls : Calls) (kept : AreKept past questions lives bound calls) where
  pub finished_known : (q : TableKey) → finished_in (question_at questions q) ≡ is_finished q past
  finished_known q = ap (λ o. finished_in o) (kept.tabled.tabled.known q)
      ∙ finished_at q past (opening q past) (λ h. ap (λ o. is_some o) (unopened q (finishes q) (finishes_opened q) past kept.sound h))

  pub tail_known : (q : TableKey) → tail_in (question_at questions q) ≡ is_tail (opening q past)
  tail_known q = ap (λ o. tail_in o) (kept.tabled.tabled.known q) ∙ tail_at q past (opening q past)

  pub taken_known : (q : TableKey) → taken_in (question_at questions q) ≡ is_taken q past
  taken_known q = ap (λ o. taken_in o) (kept.tabled.tabled.known q)
      ∙ taken_at q past (opening q past) (λ h. ap (λ o. is_some o) (unopened q (takes_results q) (takes_opened q) past kept.sound h))

  pub call_is : (q : TableKey) → call_by (question_at questions q) ≡ call_of q past
  call_is q = ap (λ o. call_by o) (kept.tabled.tabled.known q) ∙ call_known q past

  pub opening_call_known : (q : TableKey) → opening_call_in (question_at questions q) ≡ call_at (opening q past)
  opening_call_known q = ap (λ o. opening_call_in o) (kept.tabled.tabled.known q) ∙ call_of_opening q past (opening q past)

  released_known : (q : TableKey) → results_released_in (question_at questions q) ≡ is_released q past
  released_known q = ap (λ o. results_released_in o) (kept.tabled.tabled.known q)
      ∙ released_at q past (opening q past) (λ h. ap (λ o. is_some o) (unopened q (releases q) (releases_opened q) past kept.sound h))

  pub late_is : (e : DecodedRecord) → late_by (question_at questions) e ≡ is_late past e
  late_is (Wire s k c rs (Return head outcome)) = released_known (id k (not s) head.answer)
  late_is _ = refl

  -- the call by whose results a record answers another
  pub taken_from_known : (e : DecodedRecord) → taken_from_by (question_at questions) e ≡ call_taken_from past e
  taken_from_known (Wire false k c rs (Return head (TakeFrom n))) =
      ap₂ (λ b o. if b then None else o) (late_is (Wire false k c rs (Return head (TakeFrom n))))
      (ap (λ o. call_by o) (kept.tabled.tabled.known (id k false n)) ∙ call_known (id k false n) past)
  taken_from_known _ = refl

  pub bound_known : (r : ℕ) → is_some (bound_at bound r) ≡ is_bound past r
  bound_known r = ap (λ o. is_some o) (kept.tabled.bounds r) ∙ elim (cases_Bool (is_bound past r)) [
    | inl there ↦ some_of (view_of_reference past r) (all_viewed past kept.sound r there) ∙ sym there
    | inr nowhere ↦ unseen (view_of_reference past r) refl nowhere
  ]
    where
      unseen : (o : Option View) → view_of_reference past r ≡ o → is_bound past r ≡ false → is_some o ≡ is_bound past r
      unseen None same h = sym h
      unseen (Some v) same h = sym (view_bound past r v same)

  -- ---- targets and descriptors

  target_known : (k : ℕ) (s : Bool) (o : Option Target) → option_and_then (target_by (bound_at bound) lives (question_at questions) k s) o ≡ option_and_then (target_view past k s) o
  target_known k s (Some (Imported n)) = number_is past questions lives bound kept.tabled.tabled kept.tabled.bounds (id k (not s) n)
  target_known k s (Some (Promised q path)) = ap (λ o. option_map (λ call. FieldOf call path) o) (ap (λ o. call_by o) (kept.tabled.tabled.known (id k s q)) ∙ call_known (id k s q) past)
  target_known k s None = refl

  pub targeted_known : (e : DecodedRecord) → targeted_by (bound_at bound) lives (question_at questions) e ≡ view_of_target past e
  targeted_known (Wire s k c rs m) = target_known k s (target_of m)
  targeted_known _ = refl

  -- a table of what a record introduces that comes next
  pub begun_next : (e : DecodedRecord) (begun : Introduced) (late : Bool) (number : ℕ) (items : Past) → late ≡ late_by (question_at questions) e → number ≡ length items → items ≡ past →
      AreBegun (origins_if late number e) begun → AreBegun (origins past e) begun
  begun_next e begun late number items is_late place view_is starts i =
      starts i ∙ ap₂ (λ b n. first_in i (origins_if b n e)) (is_late ∙ late_is e) (place ∙ ap (λ l. length l) view_is)

  module _ (e : DecodedRecord) (begun : Introduced) (starts : AreBegun (origins past e) begun) where
    pub each_known : (d : Descriptor) → view_by (bound_at bound) lives begun (question_at questions) e d ≡ descriptor_view (view_of_reference past) past e d
    each_known d = described_known past questions lives bound kept.tabled.tabled kept.tabled.bounds begun e starts d

    pub descriptors_known : map (view_by (bound_at bound) lives begun (question_at questions) e) (descriptors e) ≡ views_of_descriptors past e
    descriptors_known = mapped (view_by (bound_at bound) lives begun (question_at questions) e) (descriptor_view (view_of_reference past) past e) each_known (descriptors e)

    pub descriptor_known : (place : ℕ) (d : Descriptor) → slice_get (descriptors e) place ≡ Some d →
        view_by (bound_at bound) lives begun (question_at questions) e d ≡ view_of_descriptor past e place
    descriptor_known place d there = each_known d ∙ sym (ap (λ o. option_and_then (descriptor_view (view_of_reference past) past e) o) there)

  -- ---- what is given back

  closed_is : (e : DecodedRecord) → given_back_by (question_at questions) e ≡ introductions_at (closes past e)
  closed_is (Wire s k c rs (Return head outcome)) = let i : TableKey = id k (not s) head.answer in
      given_if (params_introduced_in (question_at questions i)) (opening i past) head.release_param_caps (ap (λ o. params_introduced_in o) (kept.tabled.tabled.known i) ∙ asked_at i past (opening i past))
  closed_is (Wire s k c rs (Finish q true)) = let i : TableKey = id k s q in
      ap (λ o. results_introduced_in o) (kept.tabled.tabled.known i) ∙ brought_at i past (opening i past) (λ h. unopened i (returns i) (returns_opened i) past kept.sound h)
  closed_is _ = refl

  given_known : (e : DecodedRecord) (i : TableKey) → given_by (question_at questions) i e ≡ gives_back i past e
  given_known e i = ap (λ ids. count_by (same_id i) ids + count_released i e) (closed_is e) ∙ sym (gives_parts i past e)

  pub gives_decided : (e : DecodedRecord) (b : Bool) → Decides b ((i : TableKey) → given_by (question_at questions) i e ≤ held_count_at lives i) → Decides b (GivesBackHeld past e)
  gives_decided e b decides = (
    λ good i. (let all = decides.0 good i in let same = given_known e i in let count = kept.tabled.tabled.counted i in omega (arith, all, same, count)),
    λ held_so. decides.1 (λ i. let one = held_so i in let same = given_known e i in let count = kept.tabled.tabled.counted i in omega (arith, one, same, count)),
  )
