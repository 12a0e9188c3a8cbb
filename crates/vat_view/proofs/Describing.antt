-- What a descriptor stands for by the tables is what looking back finds.
use Rattle.std.proofs.Common.{◌≡◌, ◌+◌, ◌<◌, ◌≤◌, inl, inr, refl, sym, ◌∙◌, ap, ℕ, ◌==◌, List, [], ◌∷◌, count_by, cond, Bool, true, false, not, Option, Some, None, if◌then◌else◌, option_map, option_and_then, arith}
use Rattle.std.specs.Prelude.{find, is_none}
use Rattle.std.specs.List.{filter_map}
use Rattle.std.specs.Option.{option_or}
use Rattle.std.proofs.lemmas.Bool.{cases_Bool, false≢true, ltb-true, ltb-false, lt-ltb, eqb-true, eq-eqb}
use Rattle.std.proofs.lemmas.List.Sums.{sum_by-cons}
use Rattle.decoded_records.specs.declared.origin.Origin.{Origin}
use Rattle.number_tables.specs.declared.question_table.Questions.{Questions}
use Rattle.number_tables.specs.declared.exports_imports.ExportsImports.{ExportsImports}
use Rattle.vat_view.specs.declared.record.introduced.Introduced.{Introduced}
use Rattle.vat_view.specs.declared.tables.references.BoundReferences.{BoundReferences}
use Rattle.vat_view.specs.Types.{Descriptor, NoCap, SenderHosted, SenderPromise, ReceiverHosted, ReceiverAnswer, RpcMessage, Bootstrap, Call, Return, Finish, Release, DecodedRecord, Wire, View, FieldOf, TableKey}
use Rattle.decoded_records.specs.Past.{Past, Point, point, id, same_id, last_answer}
use Rattle.decoded_records.specs.Questions.{opens, returns, opening, return_of, is_late}
use Rattle.decoded_records.specs.Lives.{Birth, birth, begins, descriptors, number_introduced, introduces, introductions_at, gives_back, held, is_in_life}
use Rattle.decoded_records.specs.Views.{view_of_reference, view_given, view_of_number, descriptor_view, placed_references}
use Rattle.number_tables.specs.Glue.QuestionTables.{question_at, call_by}
use Rattle.vat_view.specs.Glue.Tables.{bound_at, origin_of, origins, begun_origin, first_in, AreBegun, view_from, number_by, view_by, IsTabled, AreBound}
use Rattle.number_tables.specs.Glue.LifeTables.{raised_origin, held_origin}
use Rattle.decoded_records.proofs.Naming.{same_id_is}
use Rattle.number_tables.proofs.Raising.{none_counted}
use Rattle.vat_view.proofs.Beginning.{counted_origins, begun as begun_there, introduced_now, not_late}
use Rattle.vat_view.proofs.Lasting.{birth_kept}
use Rattle.vat_view.proofs.Meaning.{given, held_known, call_known}
use Rattle.vat_view.proofs.Viewed.{Has, birth_of, begins_some}

-- ---- a record gives back none of its sender's numbers

not_self : (b : Bool) → not b ≡ b → ⊥
not_self true e = false≢true e
not_self false e = false≢true (sym e)

not_not : (b : Bool) → not (not b) ≡ b
not_not true = refl
not_not false = refl

other_side : (i j : TableKey) → i.ours ≡ not j.ours → same_id i j ≡ false
other_side i j other = elim (cases_Bool (same_id i j)) [
  | inl same ↦ absurd (not_self j.ours (sym other ∙ ap (λ x. x.ours) (same_id_is i j same)))
  | inr apart ↦ apart
]

skipped : (i j : TableKey) (rest : List TableKey) → same_id i j ≡ false → count_by (same_id i) rest ≡ 0 → count_by (same_id i) (j ∷ rest) ≡ 0
skipped i j rest apart none =
    let sum = sum_by-cons (λ x. cond (same_id i x) 1 0) j rest in
    let here : cond {A = ℕ} (same_id i j) 1 0 ≡ 0 = ap (λ b. cond b 1 0) apart in omega (arith, sum, here, none)

none_of : (i : TableKey) (s : Bool) (k c : ℕ) (rs : List ℕ) (m : RpcMessage) → i.ours ≡ not s → (ds : List Descriptor) →
    count_by (same_id i) (filter_map (number_introduced (Wire s k c rs m)) ds) ≡ 0
none_of i s k c rs m other [] = refl
none_of i s k c rs m other (NoCap ∷ ds) = none_of i s k c rs m other ds
none_of i s k c rs m other (SenderHosted n ∷ ds) = skipped i (id k s n) (filter_map (number_introduced (Wire s k c rs m)) ds) (other_side i (id k s n) other) (none_of i s k c rs m other ds)
none_of i s k c rs m other (SenderPromise n ∷ ds) = skipped i (id k s n) (filter_map (number_introduced (Wire s k c rs m)) ds) (other_side i (id k s n) other) (none_of i s k c rs m other ds)
none_of i s k c rs m other (ReceiverHosted n ∷ ds) = none_of i s k c rs m other ds
none_of i s k c rs m other (ReceiverAnswer n path ∷ ds) = none_of i s k c rs m other ds

none_if : (i : TableKey) (late : Bool) (ids : List TableKey) → count_by (same_id i) ids ≡ 0 → count_by (same_id i) (if late then [] else ids) ≡ 0
none_if i true ids h = refl
none_if i false ids h = h

-- a record introduces numbers of its sender alone
introduces_none : (i : TableKey) (before : Past) (s : Bool) (k c : ℕ) (rs : List ℕ) (m : RpcMessage) → i.ours ≡ not s → introduces i before (Wire s k c rs m) ≡ 0
introduces_none i before s k c rs m other =
    let e : DecodedRecord = Wire s k c rs m in none_if i (is_late before e) (filter_map (number_introduced e) (descriptors e)) (none_of i s k c rs m other (descriptors e))

opener : (i q : TableKey) (before : Past) (e : DecodedRecord) → i.ours ≡ not q.ours → opens q before e ≡ true → introduces i before e ≡ 0
opener i q before (Wire s k c rs (Bootstrap n)) other h = introduces_none i before s k c rs (Bootstrap n) (other ∙ ap (λ x. not x.ours) (same_id_is q (id k s n) h))
opener i q before (Wire s k c rs (Call head t p)) other h = introduces_none i before s k c rs (Call head t p) (other ∙ ap (λ x. not x.ours) (same_id_is q (id k s head.question) h))
opener i q before _ other h = absurd (false≢true h)

returner : (i q : TableKey) (before : Past) (e : DecodedRecord) → i.ours ≡ q.ours → returns q before e ≡ true → introduces i before e ≡ 0
returner i q before (Wire s k c rs (Return head outcome)) same h =
    introduces_none i before s k c rs (Return head outcome) (same ∙ ap (λ x. x.ours) (same_id_is q (id k (not s) head.answer) h))
returner i q before _ same h = absurd (false≢true h)

opening_none : (i q : TableKey) (past : Past) → i.ours ≡ not q.ours → count_by (same_id i) (introductions_at (opening q past)) ≡ 0
opening_none i q [] other = refl
opening_none i q (e ∷ before) other = elim (cases_Bool (opens q before e)) [
  | inl here ↦ ap (λ b. count_by (same_id i) (introductions_at (if b then Some (point before e) else opening q before))) here ∙ opener i q before e other here
  | inr apart ↦ ap (λ b. count_by (same_id i) (introductions_at (if b then Some (point before e) else opening q before))) apart ∙ opening_none i q before other
]

return_none : (i q : TableKey) (past : Past) → i.ours ≡ q.ours → count_by (same_id i) (introductions_at (return_of q past)) ≡ 0
return_none i q [] same = refl
return_none i q (e ∷ before) same = elim (cases_Bool (opens q before e)) [
  | inl new ↦ ap (λ b. count_by (same_id i) (introductions_at (if b then None else if returns q before e then Some (point before e) else return_of q before))) new
  | inr old ↦ ap (λ b. count_by (same_id i) (introductions_at (if b then None else if returns q before e then Some (point before e) else return_of q before))) old
      ∙ elim (cases_Bool (returns q before e)) [
        | inl here ↦ ap (λ b. count_by (same_id i) (introductions_at (if b then Some (point before e) else return_of q before))) here ∙ returner i q before e same here
        | inr apart ↦ ap (λ b. count_by (same_id i) (introductions_at (if b then Some (point before e) else return_of q before))) apart ∙ return_none i q before same
      ]
]

-- nothing is given back where a flag says so, if nothing is either way
pub given_none : (i : TableKey) (o : Option Point) (b : Bool) → count_by (same_id i) (introductions_at o) ≡ 0 → count_by (same_id i) (introductions_at (if b then o else None)) ≡ 0
given_none i o true none = none
given_none i o false none = refl

pub sender_keeps : (i : TableKey) (before : Past) (s : Bool) (k c : ℕ) (rs : List ℕ) (m : RpcMessage) → i.ours ≡ s → gives_back i before (Wire s k c rs m) ≡ 0
sender_keeps i before s k c rs (Release n count) same = ap (λ b. if b then count else 0) (other_side i (id k (not s) n) (same ∙ sym (not_not s)))
sender_keeps i before s k c rs (Return head outcome) same =
    given_none i (opening (id k (not s) head.answer) before) head.release_param_caps (opening_none i (id k (not s) head.answer) before (same ∙ sym (not_not s)))
sender_keeps i before s k c rs (Finish q true) same = return_none i (id k s q) before same
sender_keeps i before s k c rs _ same = refl

-- ---- where lives began, with a record counted

same_noted : (named other : ℕ → Option View) → ((r : ℕ) → named r ≡ other r) → (o : Option (ℕ × ℕ)) → option_and_then (λ n. named n.0) o ≡ option_and_then (λ n. other n.0) o
same_noted named other h (Some n) = h n.0
same_noted named other h None = refl

same_given : (named other : ℕ → Option View) → ((r : ℕ) → named r ≡ other r) → (ours : Bool) (o : Option Birth) →
    option_and_then (view_given named ours) o ≡ option_and_then (view_given other ours) o
same_given named other h true (Some b) = same_noted named other h (find (λ n. n.1 == b.place) (placed_references b.from.event))
same_given named other h false (Some b) = refl
same_given named other h ours None = refl

some_first : {A : Type 0} (o p : Option A) → Has o → option_or o p ≡ o
some_first (Some x) p h = refl
some_first None p h = absurd (let no : ⊥ = let e = h.1 in cc in no)

pub none_first : (i : TableKey) (os : List (TableKey × Origin)) → count_by (λ x. same_id i x.0) os ≡ 0 → first_in i os ≡ None
none_first i os none = nothing (find (λ x. same_id i x.0) os) (sym (none_counted (λ (x : TableKey × Origin). same_id i x.0) os) ∙ eq-eqb (count_by (λ x. same_id i x.0) os) 0 none)
  where
    nothing : (o : Option (TableKey × Origin)) → is_none o ≡ true → option_map (λ x. x.1) o ≡ None
    nothing None h = refl
    nothing (Some x) h = absurd (false≢true h)

-- a table that was empty before these were introduced
pub begun_from : (i : TableKey) (old count : ℕ) (fresh now : Option Origin) (xs os : List (TableKey × Origin)) → old ≡ 0 → count ≡ old + count_by (λ x. same_id i x.0) xs →
    now ≡ raised_origin old fresh i xs → xs ≡ os → (if count == 0 then None else now) ≡ first_in i os
begun_from i old count fresh now xs os empty counts origin listed = elim (cases_Bool (count == 0)) [
  | inl none ↦
      let zero : count ≡ 0 = eqb-true count 0 none in
      ap (λ b. if b then None else now) none ∙ sym (none_first i xs (omega (arith, zero, counts))) ∙ ap (λ l. first_in i l) listed
  | inr some ↦
      let more : count_by (λ x. same_id i x.0) xs ≡ count = omega (arith, empty, counts) in
      let found : is_none (find (λ x. same_id i x.0) xs) ≡ false =
      sym (none_counted (λ (x : TableKey × Origin). same_id i x.0) xs) ∙ ap (λ n. n == 0) more ∙ some in
      ap (λ b. if b then None else now) some ∙ origin ∙ ap (λ n. raised_origin n fresh i xs) empty ∙ first (find (λ x. same_id i x.0) xs) found ∙ ap (λ l. first_in i l) listed
]
  where
    first : (o : Option (TableKey × Origin)) → is_none o ≡ false → option_or (option_map (λ x. x.1) o) fresh ≡ option_map (λ x. x.1) o
    first (Some x) h = refl
    first None h = absurd (false≢true (sym h))

module _ (before : Past) (questions : Questions) (lives : ExportsImports) (bound : BoundReferences) (tabled : IsTabled before questions lives) (bounds : AreBound before bound) where
  by_number : (i : TableKey) (past : Past) → option_and_then (view_from (bound_at bound) i.ours) (option_map origin_of (birth i past)) ≡ option_and_then (view_given (view_of_reference before) i.ours) (birth i past)
  by_number i past = given (bound_at bound) i.ours (birth i past) ∙ same_given (bound_at bound) (view_of_reference before) bounds i.ours (birth i past)

  pub number_is : (i : TableKey) → number_by (bound_at bound) lives i ≡ view_of_number i before
  number_is i = ap (λ o. option_and_then (view_from (bound_at bound) i.ours) o) (held_known before questions lives tabled i) ∙ by_number i before

  module _ (begun : Introduced) where
    module _ (e : DecodedRecord) (starts : AreBegun (origins before e) begun) (i : TableKey) (keeps : gives_back i before e ≡ 0) where
      out_of_life : is_in_life i before ≡ false → first_in i (origins before e) ≡ option_map origin_of (birth i (e ∷ before))
      out_of_life out = elim (cases_Bool (is_in_life i (e ∷ before))) [
        | inl now ↦
            let late : is_late before e ≡ false = not_late i before e (is_late before e) (introduced_now i before e out now) in
            begun_there i before e (is_in_life i before) (is_late before e) out late
            ∙ ap (λ o. option_map origin_of o) (sym (some_first (begins i before e) (last_answer (begins i) before) (begins_some i before e out now))
            ∙ sym (ap (λ b. if b then option_or (begins i before e) (last_answer (begins i) before) else None) now))
        | inr gone ↦
            let less : held i (e ∷ before) ≤ 0 = ltb-false 0 (held i (e ∷ before)) gone in
            let below = tabled.balanced i in
            let none : introduces i before e ≡ 0 = omega (arith, less, below, keeps) in
            none_first i (origins before e) (counted_origins i before e ∙ none)
            ∙ sym (ap (λ b. option_map origin_of (if b then option_or (begins i before e) (last_answer (begins i) before) else None)) gone)
      ]

      pub origin_after : option_or (held_origin lives i) (begun_origin begun i) ≡ option_map origin_of (birth i (e ∷ before))
      origin_after = elim (cases_Bool (is_in_life i before)) [
        | inl alive ↦
            let some : 0 < held i before = ltb-true 0 (held i before) alive in
            let below = tabled.balanced i in
            let now : is_in_life i (e ∷ before) ≡ true = lt-ltb 0 (held i (e ∷ before)) (omega (arith, some, below, keeps)) in
            let b = birth_of i before alive in
            ap (λ o. option_or o (begun_origin begun i)) (held_known before questions lives tabled i ∙ ap (λ o. option_map origin_of o) b.1)
            ∙ sym (ap (λ o. option_map origin_of o) (birth_kept i e before alive now ∙ b.1))
        | inr out ↦
            ap (λ o. option_or o (begun_origin begun i)) (held_known before questions lives tabled i ∙ ap (λ b. option_map origin_of (if b then last_answer (begins i) before else None)) out)
            ∙ starts i ∙ out_of_life out
      ]

    pub described_known : (e : DecodedRecord) → AreBegun (origins before e) begun → (d : Descriptor) →
        view_by (bound_at bound) lives begun (question_at questions) e d ≡ descriptor_view (view_of_reference before) before e d
    described_known (Wire s k c rs m) starts NoCap = refl
    described_known (Wire s k c rs m) starts (SenderHosted n) = let i : TableKey = id k s n in
        ap (λ o. option_and_then (view_from (bound_at bound) s) o) (origin_after (Wire s k c rs m) starts i (sender_keeps i before s k c rs m refl)) ∙ by_number i (Wire s k c rs m ∷ before)
    described_known (Wire s k c rs m) starts (SenderPromise n) = let i : TableKey = id k s n in
        ap (λ o. option_and_then (view_from (bound_at bound) s) o) (origin_after (Wire s k c rs m) starts i (sender_keeps i before s k c rs m refl)) ∙ by_number i (Wire s k c rs m ∷ before)
    described_known (Wire s k c rs m) starts (ReceiverHosted n) = number_is (id k (not s) n)
    described_known (Wire s k c rs m) starts (ReceiverAnswer n path) =
        ap (λ o. option_map (λ call. FieldOf call path) o) (ap (λ o. call_by o) (tabled.known (id k s n)) ∙ call_known (id k s n) before)
    described_known _ starts d = refl
