-- Where records turn what they settle, kept without the records.
use Rattle.std.proofs.Common.{◌≡◌, ◌<◌, ◌≤◌, inl, inr, refl, sym, ◌∙◌, ap, ap₂, ℕ, zero, suc, ◌+◌, ◌==◌, List, [], ◌∷◌, ◌++◌, length, map, Bool, true, false, Option, Some, None, if◌then◌else◌, option_map, option_and_then, IsTrue, MatchOption, arith}
use Rattle.std.specs.Prelude.{find, slice_get, unwrap_or, is_some, ◌||◌}
use Rattle.std.specs.Str.{bytes_eq as same_path}
use Rattle.std.proofs.lemmas.Bool.{cases_lt, false≢true, eqb-true}
use Rattle.std.proofs.lemmas.Option.{slice_get_past}
use Rattle.std.specs.BTreeMap.{get}
use Rattle.rising_table.specs.Entries.{entry_at}
use Rattle.vat_view.specs.declared.tables.turns.turned.Turned.{Turned}
use Rattle.vat_view.specs.declared.tables.turns.settlements.Settlements.{Settlements}
use Rattle.vat_view.specs.declared.record.unsettled.Unsettled.TheVariants.{Results as ResultsOf, Import as ImportToResolve}
use Rattle.vat_view.specs.declared.tables.turns.turned.Turned.TheVariants.{Nowhere, Reference as ToOne, Field as OneField, Fields as ManyFields}
use Rattle.vat_view.specs.Types.{Descriptor, DecodedRecord, View, Object, Promise, FieldOf, Import}
use Rattle.decoded_records.specs.Lives.{descriptors}
use Rattle.vat_view.specs.Glue.FieldTargets.{target_among}
use Rattle.vat_view.specs.Glue.TurnTables.{reference_at, answered_at, returned_at, target_in, answer_target, field_target, is_nowhere, pending_cmp, ended, ended_in, number_in, turned_in, settled_with, settled_at, settles, has_room_for_turned}
use Rattle.decoded_records.specs.Glue.Parts.{field_path}
use Rattle.vat_view.proofs.Landed.{reference_unmet}

none_some : {A : Type 0} {x : A} → None ≡ Some x → ⊥
none_some e = cc

-- ---- what is noted by place

-- the references noted for the first descriptors of a record
abbrev pub AreNotedBefore : DecodedRecord → ℕ → List (Option ℕ) → Type 0
AreNotedBefore e k noted = (length noted ≡ k) × ((place : ℕ) → place < k → slice_get noted place ≡ Some (reference_at e place))

front_there : {A : Type 0} (xs ys : List A) (k : ℕ) → k < length xs → slice_get (xs ++ ys) k ≡ slice_get xs k
front_there [] ys k lt = absurd (let no : ⊥ = omega (arith, lt) in no)
front_there (x ∷ xs) ys zero lt = refl
front_there (x ∷ xs) ys (suc k) lt = front_there xs ys k (omega (arith, lt))

last_there : {A : Type 0} (xs : List A) (x : A) → slice_get (xs ++ x ∷ []) (length xs) ≡ Some x
last_there [] x = refl
last_there (y ∷ xs) x = last_there xs x

one_longer : {A : Type 0} (xs : List A) (x : A) → length (xs ++ x ∷ []) ≡ length xs + 1
one_longer [] x = refl
one_longer (y ∷ xs) x = let rest = one_longer xs x in omega (arith, rest)

pub noted_more : (e : DecodedRecord) (k : ℕ) (noted : List (Option ℕ)) (r : Option ℕ) → AreNotedBefore e k noted → r ≡ reference_at e k → AreNotedBefore e (k + 1) (noted ++ r ∷ [])
noted_more e k noted r before is = (
  (let longer = one_longer noted r in let same = before.0 in omega (arith, longer, same)),
  λ place lt. elim (cases_lt place k) [
    | inl less ↦ front_there noted (r ∷ []) place (let same = before.0 in omega (arith, less, same)) ∙ before.1 place less
    | inr not ↦
        let at : place ≡ length noted = let same = before.0 in omega (arith, lt, not, same) in
        ap (λ q. slice_get (noted ++ r ∷ []) q) at ∙ last_there noted r ∙ ap (λ x. Some x) is
        ∙ ap (λ q. Some (reference_at e q)) (sym before.0 ∙ sym at)
  ],
)

pub noted_whole : (e : DecodedRecord) (ds : List Descriptor) (noted : List (Option ℕ)) (k : ℕ) → ds ≡ descriptors e → length ds ≤ k → AreNotedBefore e k noted →
    (place : ℕ) → option_and_then (λ r. r) (slice_get noted place) ≡ reference_at e place
noted_whole e ds noted k all whole before place = elim (cases_lt place k) [
  | inl less ↦ ap (λ o. option_and_then (λ r. r) o) (before.1 place less)
  | inr not ↦
      ap (λ o. option_and_then (λ r. r) o) (slice_get_past noted place (let same = before.0 in omega (arith, not, same)))
      ∙ reference_unmet e ds place all (omega (arith, whole, not))
]

-- ---- one result, and several

pub answers_found : (results : List (ℕ × List ℕ)) (path : List ℕ) → option_and_then (λ field. field.0) (find (λ field. same_path field.1 path) (map answer_target results)) ≡ answered_at path results
answers_found [] path = refl
answers_found (x ∷ results) path = inner (same_path x.1 path) (answers_found results path)
  where
    inner : (b : Bool) → option_and_then (λ field. field.0) (find (λ field. same_path field.1 path) (map answer_target results)) ≡ answered_at path results →
        option_and_then (λ field. field.0) (if b then Some (answer_target x) else find (λ field. same_path field.1 path) (map answer_target results))
        ≡ option_map (λ answer. answer.0) (if b then Some x else find (λ answer. same_path answer.1 path) results)
    inner true rest = refl
    inner false rest = rest

pub results_found : (noted : ℕ → Option ℕ) (results : List (List ℕ × ℕ)) (path : List ℕ) →
    option_and_then (λ field. field.0) (find (λ field. same_path field.1 path) (map (field_target noted) results)) ≡ returned_at noted path results
results_found noted [] path = refl
results_found noted (x ∷ results) path = inner (same_path x.0 path) (results_found noted results path)
  where
    inner : (b : Bool) → option_and_then (λ field. field.0) (find (λ field. same_path field.1 path) (map (field_target noted) results)) ≡ returned_at noted path results →
        option_and_then (λ field. field.0) (if b then Some (field_target noted x) else find (λ field. same_path field.1 path) (map (field_target noted) results))
        ≡ option_and_then (λ field. noted field.1) (if b then Some x else find (λ field. same_path field.0 path) results)
    inner true rest = refl
    inner false rest = rest

-- the same as they are kept, in the order of their paths
pub answers_kept : (results : List (ℕ × List ℕ)) (fields kept : List (Option ℕ × List ℕ)) → fields ≡ map answer_target results → ((path : List ℕ) → target_among path kept ≡ target_among path fields) →
    (path : List ℕ) → target_in path (ManyFields kept) ≡ answered_at path results
answers_kept results fields kept is same path = same path ∙ ap (λ l. target_among path l) is ∙ answers_found results path

pub results_kept : (noted : ℕ → Option ℕ) (results : List (List ℕ × ℕ)) (fields kept : List (Option ℕ × List ℕ)) → fields ≡ map (field_target noted) results →
    ((path : List ℕ) → target_among path kept ≡ target_among path fields) → (path : List ℕ) → target_in path (ManyFields kept) ≡ returned_at noted path results
results_kept noted results fields kept is same path = same path ∙ ap (λ l. target_among path l) is ∙ results_found noted results path

-- ---- the row of what calls' results are turned to

nowhere_is : (turned : Turned) → is_nowhere turned ≡ true → turned ≡ Nowhere
nowhere_is Nowhere h = refl
nowhere_is (ToOne r) h = absurd (false≢true h)
nowhere_is (OneField r at) h = absurd (false≢true h)
nowhere_is (ManyFields fields) h = absurd (false≢true h)

or_false : (b : Bool) → (b || false) ≡ b
or_false true = refl
or_false false = refl

pub turned_noted : (entries new : List (ℕ × Turned)) (c : ℕ) (turned : Turned) (last : Option Turned) → IsTrue (has_room_for_turned entries c turned) → last ≡ entry_at entries c →
    MatchOption last (new ≡ entries) (λ _. (q : ℕ) → entry_at new q ≡ (if c == q then Some turned else entry_at entries q)) →
    (k : ℕ) → turned_in new k ≡ (if c == k then turned else turned_in entries k)
turned_noted entries new c turned (Some x) room is put k = ap (λ o. unwrap_or o Nowhere) (put k) ∙ inner (c == k)
  where
    inner : (b : Bool) → unwrap_or (if b then Some turned else entry_at entries k) Nowhere ≡ (if b then turned else turned_in entries k)
    inner true = refl
    inner false = refl
turned_noted entries new c turned None room is put k = ap (λ l. turned_in l k) put ∙ inner (c == k) refl
  where
    gone : turned ≡ Nowhere
    gone = nowhere_is turned (sym (or_false (is_nowhere turned)) ∙ ap (λ o. is_nowhere turned || is_some o) is ∙ room)

    inner : (b : Bool) → (c == k) ≡ b → turned_in entries k ≡ (if b then turned else turned_in entries k)
    inner true same = ap (λ q. turned_in entries q) (sym (eqb-true c k same)) ∙ ap (λ o. unwrap_or o Nowhere) (sym is) ∙ sym gone
    inner false apart = refl

-- ---- the table after a record

results_noted : (b : Bool) (number : ℕ) (path : List ℕ) (turned old : Turned) (o : Option ℕ) →
    settled_with (target_in path (if b then turned else old)) (if b then Some number else o) ≡ (if b then Some (number, target_in path turned) else settled_with (target_in path old) o)
results_noted true number path turned old o = refl
results_noted false number path turned old o = refl

-- a call is settled by the record of this number, which turns its fields so
pub call_settled : (old new : Settlements) (call number : ℕ) (turned : Turned) → new.promises ≡ old.promises → new.imports ≡ old.imports →
    ((k : ℕ) → number_in new.results k ≡ (if call == k then Some number else number_in old.results k)) →
    ((k : ℕ) → turned_in new.turned k ≡ (if call == k then turned else turned_in old.turned k)) →
    (v : View) → settled_at new v ≡ (if settles v (Some (ResultsOf call)) then Some (number, target_in (field_path v) turned) else settled_at old v)
call_settled old new call number turned promises imports results fields (Object object) = refl
call_settled old new call number turned promises imports results fields (Promise p) = ap (λ l. ended_in l p) promises
call_settled old new call number turned promises imports results fields (FieldOf c path) =
    ap₂ (λ t o. settled_with (target_in path t) o) (fields c) (results c) ∙ results_noted (call == c) number path turned (turned_in old.turned c) (number_in old.results c)
call_settled old new call number turned promises imports results fields (Import i place) = ap (λ t. option_and_then ended (get pending_cmp t (ImportToResolve i place))) imports
