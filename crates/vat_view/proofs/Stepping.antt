-- What one record more does to what looking back finds.
use Rattle.std.proofs.Common.{ap₂, ◌<◌, ◌≡◌, ◌≤◌, ◌+◌, ◌-◌, refl, sym, ◌∙◌, ap, ℕ, List, ◌∷◌, Bool, true, false, not, Option, Some, None, if◌then◌else◌, option_map, count_by, arith}
use Rattle.std.specs.Prelude.{is_some, Result, Ok, Err, OnOk, OnErr}
use Rattle.number_tables.specs.declared.question.QuestionState.{QuestionState}
use Rattle.number_tables.specs.declared.question_table.Questions.{Questions}
use Rattle.number_tables.specs.declared.exports_imports.ExportsImports.{ExportsImports}
use Rattle.vat_view.specs.Types.{Results, Exception, Canceled, Elsewhere, TakeFrom, Bootstrap, Call, Return, Finish, Release, DecodedRecord, Wire, TableKey}
use Rattle.decoded_records.specs.Past.{Past, Point, point, id, same_id, names, last_answer, last_since}
use Rattle.decoded_records.specs.Questions.{question_opened, asks_elsewhere, noted_call, opens, returns_lightly, releases, takes_results, opening, return_of, finish_of, is_returned, is_returned_lightly, is_finished, is_released, is_taken, closes}
use Rattle.decoded_records.specs.Lives.{begins, introductions, introductions_at, introduces, gives_back, introduced_count, released_count, held, is_in_life, GivesBackHeld}
use Rattle.decoded_records.specs.Uses.{UsesQuestions}
use Rattle.number_tables.specs.Glue.QuestionTables.{question_at, given_back_by, just_opened, with_return, with_light_return, with_finish, with_release, with_taken, IsPut, IsSameQuestions}
use Rattle.vat_view.specs.Glue.Tables.{question_known, origin_of, origins, count_released, changed_if, noted_by, IsTabled}
use Rattle.number_tables.specs.Glue.LifeTables.{held_count_at, origin_at, raised_origin}
use Rattle.decoded_records.specs.declared.origin.Origin.{Origin}
use Rattle.vat_view.proofs.Beginning.{counted_origins, born_step}
use Rattle.std.proofs.lemmas.Bool.{ltb-true}
use Rattle.vat_view.proofs.Knowing.{known_from, closed_known}

-- ---- questions

-- what is known at an opening, where b says whether the record now is one
abbrev pub known_open : TableKey → Past → Bool → Point → QuestionState
known_open q before b p = record {
  call = noted_call p.event;
  tail = asks_elsewhere p.event;
  returned = is_some (if b then None else return_of q before);
  returned_lightly = is_some (if b then None else last_since (opens q) (returns_lightly q) before);
  finished = is_some (if b then None else finish_of q before);
  released = is_some (if b then None else last_since (opens q) (releases q) before);
  taken = is_some (if b then None else last_since (opens q) (takes_results q) before);
  asked = introductions p.before p.event;
  brought = introductions_at (if b then None else return_of q before);
}

opens_step : (q : TableKey) (before : Past) (e : DecodedRecord) (b : Bool) →
    option_map (known_open q before b) (if b then Some (point before e) else opening q before)
    ≡ (if b then Some (just_opened (noted_call e) (asks_elsewhere e) (introductions before e)) else question_known q before)
opens_step q before e true = refl
opens_step q before e false = refl

-- what is known behind a Return, where b, l and c say whether it returns this question, whether lightly, and whether it
-- takes its results
abbrev pub known_return : TableKey → Past → DecodedRecord → Bool → Bool → Bool → Point → QuestionState
known_return q before e b l c p = record {
  call = noted_call p.event;
  tail = asks_elsewhere p.event;
  returned = is_some (if b then Some (point before e) else return_of q before);
  returned_lightly = is_some (if l then Some (point before e) else last_since (opens q) (returns_lightly q) before);
  finished = is_finished q before;
  released = is_released q before;
  taken = is_some (if c then Some (point before e) else last_since (opens q) (takes_results q) before);
  asked = introductions p.before p.event;
  brought = introductions_at (if b then Some (point before e) else return_of q before);
}

never_changed : (b l c : Bool) (ids : List TableKey) → None ≡ changed_if c with_taken (changed_if l with_light_return (changed_if b (with_return ids) None))
never_changed true true true ids = refl
never_changed true true false ids = refl
never_changed true false true ids = refl
never_changed true false false ids = refl
never_changed false true true ids = refl
never_changed false true false ids = refl
never_changed false false true ids = refl
never_changed false false false ids = refl

returns_step : (q : TableKey) (before : Past) (e : DecodedRecord) (b l c : Bool) (o : Option Point) → option_map (known_return q before e b l c) o
    ≡ changed_if c with_taken (changed_if l with_light_return (changed_if b (with_return (introductions before e)) (option_map (known_from q before) o)))
returns_step q before e b l c None = never_changed b l c (introductions before e)
returns_step q before e true true true (Some p) = refl
returns_step q before e true true false (Some p) = refl
returns_step q before e true false true (Some p) = refl
returns_step q before e true false false (Some p) = refl
returns_step q before e false true true (Some p) = refl
returns_step q before e false true false (Some p) = refl
returns_step q before e false false true (Some p) = refl
returns_step q before e false false false (Some p) = refl

abbrev pub known_finish : TableKey → Past → DecodedRecord → Bool → Bool → Point → QuestionState
known_finish q before e b c p = record {
  call = noted_call p.event;
  tail = asks_elsewhere p.event;
  returned = is_returned q before;
  returned_lightly = is_returned_lightly q before;
  finished = is_some (if b then Some (point before e) else finish_of q before);
  released = is_some (if c then Some (point before e) else last_since (opens q) (releases q) before);
  taken = is_taken q before;
  asked = introductions p.before p.event;
  brought = introductions_at (return_of q before);
}

finishes_step : (q : TableKey) (before : Past) (e : DecodedRecord) (b c : Bool) (o : Option Point) →
    option_map (known_finish q before e b c) o ≡ changed_if c with_release (changed_if b with_finish (option_map (known_from q before) o))
finishes_step q before e true true (Some p) = refl
finishes_step q before e true true None = refl
finishes_step q before e true false (Some p) = refl
finishes_step q before e true false None = refl
finishes_step q before e false true (Some p) = refl
finishes_step q before e false true None = refl
finishes_step q before e false false o = refl

-- what is known of a question after a record, by what was known before
pub known_step : (q : TableKey) (before : Past) (e : DecodedRecord) → question_known q (e ∷ before)
    ≡ noted_by e (introductions before e) q (if names q (question_opened e) then Some (just_opened (noted_call e) (asks_elsewhere e) (introductions before e)) else question_known q before)
known_step q before (Wire s k c rs (Bootstrap n)) = opens_step q before (Wire s k c rs (Bootstrap n)) (same_id q (id k s n))
known_step q before (Wire s k c rs (Call head t p)) = opens_step q before (Wire s k c rs (Call head t p)) (same_id q (id k s head.question))
known_step q before (Wire s k c rs (Return head (Results payload))) =
    let e : DecodedRecord = Wire s k c rs (Return head (Results payload)) in returns_step q before e (same_id q (id k (not s) head.answer)) (returns_lightly q before e) false (opening q before)
known_step q before (Wire s k c rs (Return head Exception)) =
    let e : DecodedRecord = Wire s k c rs (Return head Exception) in returns_step q before e (same_id q (id k (not s) head.answer)) (returns_lightly q before e) false (opening q before)
known_step q before (Wire s k c rs (Return head Canceled)) =
    let e : DecodedRecord = Wire s k c rs (Return head Canceled) in returns_step q before e (same_id q (id k (not s) head.answer)) (returns_lightly q before e) false (opening q before)
known_step q before (Wire s k c rs (Return head Elsewhere)) =
    let e : DecodedRecord = Wire s k c rs (Return head Elsewhere) in returns_step q before e (same_id q (id k (not s) head.answer)) (returns_lightly q before e) false (opening q before)
known_step q before (Wire s k c rs (Return head (TakeFrom m))) =
    let e : DecodedRecord = Wire s k c rs (Return head (TakeFrom m)) in returns_step q before e (same_id q (id k (not s) head.answer)) (returns_lightly q before e) (same_id q (id k s m)) (opening q before)
known_step q before (Wire s k c rs (Finish n true)) =
    finishes_step q before (Wire s k c rs (Finish n true)) (same_id q (id k s n)) (same_id q (id k s n)) (opening q before)
known_step q before (Wire s k c rs (Finish n false)) = finishes_step q before (Wire s k c rs (Finish n false)) (same_id q (id k s n)) false (opening q before)
known_step q before _ = refl

none_some : {A : Type 0} {x : A} → None ≡ Some x → ⊥
none_some e = cc

-- a record that opens a question notes nothing of another, and gives nothing back
opens_notes : (e : DecodedRecord) (i : TableKey) → question_opened e ≡ Some i → (ids : List TableKey) (q : TableKey) (known : Option QuestionState) → noted_by e ids q known ≡ known
opens_notes (Wire s k c rs (Bootstrap n)) i h ids q known = refl
opens_notes (Wire s k c rs (Call head t p)) i h ids q known = refl
opens_notes _ i h ids q known = absurd (none_some h)

opens_gives : (e : DecodedRecord) (i : TableKey) → question_opened e ≡ Some i → (before : Past) (j : TableKey) → gives_back j before e ≡ 0
opens_gives (Wire s k c rs (Bootstrap n)) i h before j = refl
opens_gives (Wire s k c rs (Call head t p)) i h before j = refl
opens_gives _ i h before j = absurd (none_some h)

-- ---- counts

-- what a record gives back is what it closes and what it lets go
pub gives_parts : (i : TableKey) (before : Past) (e : DecodedRecord) → gives_back i before e ≡ count_by (same_id i) (introductions_at (closes before e)) + count_released i e
gives_parts i before (Wire s k c rs (Release n count)) = omega arith
gives_parts i before (Wire s k c rs (Return head outcome)) = omega arith
gives_parts i before (Wire s k c rs (Finish n release)) = omega arith
gives_parts i before _ = omega arith

held_step : (a b c d : ℕ) → d ≤ a - b → b ≤ a → (a - b) + c - d ≡ (c + a) - (d + b)
held_step a b c d le below = omega (arith, le, below)

balance_step : (a b c d : ℕ) → d ≤ a - b → b ≤ a → d + b ≤ c + a
balance_step a b c d le below = omega (arith, le, below)

pub balanced_step : (before : Past) (e : DecodedRecord) → ((i : TableKey) → released_count i before ≤ introduced_count i before) → GivesBackHeld before e → (i : TableKey) → released_count i (e ∷ before) ≤ introduced_count i (e ∷ before)
balanced_step before e below held_so i = balance_step (introduced_count i before) (released_count i before) (introduces i before e) (gives_back i before e) (held_so i) (below i)

pub counted_step : (before : Past) (e : DecodedRecord) → ((i : TableKey) → released_count i before ≤ introduced_count i before) → GivesBackHeld before e → (i : TableKey) →
    held i before + introduces i before e - gives_back i before e ≡ held i (e ∷ before)
counted_step before e below held_so i = held_step (introduced_count i before) (released_count i before) (introduces i before e) (gives_back i before e) (held_so i) (below i)

-- ---- the tables after a record

pub three_ok : {T E P Q R S : Type 0} (r : Result T E) → (P → Q → R → S) → OnOk r P → OnOk r Q → OnOk r R → OnOk r S
three_ok (Ok x) f p q s = f p q s
three_ok (Err e) f p q s = p

pub three_err : {T E P Q R S : Type 0} (r : Result T E) → (P → Q → R → S) → OnErr r P → OnErr r Q → OnErr r R → OnErr r S
three_err (Ok x) f p q s = p
three_err (Err e) f p q s = f p q s

-- tables that are as they were, but for the origins of numbers that aren't held
pub tabled_same : (before : Past) (questions later : Questions) (lives after : ExportsImports) → IsSameQuestions questions later → ((i : TableKey) → held_count_at after i ≡ held_count_at lives i) →
    ((i : TableKey) → 0 < held_count_at lives i → origin_at after i ≡ origin_at lives i) → IsTabled before questions lives → IsTabled before later after
tabled_same before questions later lives after known counted born tabled = record {
  known = λ q. known q ∙ tabled.known q;
  counted = λ i. counted i ∙ tabled.counted i;
  born = λ i alive. born i (let some : 0 < held i before = ltb-true 0 (held i before) alive in let same = tabled.counted i in omega (arith, some, same)) ∙ tabled.born i alive;
  balanced = tabled.balanced;
}

module _ (before : Past) (e : DecodedRecord) (questions later : Questions) (lives after : ExportsImports) (tabled : IsTabled before questions lives)
    (uses : UsesQuestions before e) (gives : GivesBackHeld before e) (ids : List TableKey) (introduced : ids ≡ introductions before e)
    (os : List (TableKey × Origin)) (begun : os ≡ origins before e)
    (births : (i : TableKey) → origin_at after i ≡ raised_origin (held_count_at lives i) (origin_at lives i) i os) where
  intro_count : (i : TableKey) → count_by (λ x. same_id i x.0) os ≡ introduces i before e
  intro_count i = ap (λ l. count_by (λ x. same_id i x.0) l) begun ∙ counted_origins i before e

  births_step : (i : TableKey) → is_in_life i (e ∷ before) ≡ true → origin_at after i ≡ option_map origin_of (last_answer (begins i) (e ∷ before))
  births_step i now =
      births i ∙ ap₂ (λ n l. raised_origin n (origin_at lives i) i l) (tabled.counted i) begun ∙ born_step i before e (origin_at lives i) (tabled.born i) now

  -- a record that opens a question
  pub tabled_open : (q : TableKey) → question_opened e ≡ Some q → IsPut q (just_opened (noted_call e) (asks_elsewhere e) ids) questions later →
      ((i : TableKey) → held_count_at after i ≡ held_count_at lives i + count_by (λ x. same_id i x.0) os) → IsTabled (e ∷ before) later after
  tabled_open q o put counts = record {
    known = λ j. put j ∙ ap₃ j ∙ sym (opens_notes e q o (introductions before e) j _) ∙ sym (known_step j before e);
    counted = λ i. counts i ∙ sum i ∙ counted_step before e tabled.balanced gives i;
    born = births_step;
    balanced = balanced_step before e tabled.balanced gives;
  }
    where
      ap₃ : (j : TableKey) → (if same_id j q then Some (just_opened (noted_call e) (asks_elsewhere e) ids) else question_at questions j)
          ≡ (if names j (question_opened e) then Some (just_opened (noted_call e) (asks_elsewhere e) (introductions before e)) else question_known j before)
      ap₃ j = ap (λ l. if same_id j q then Some (just_opened (noted_call e) (asks_elsewhere e) l) else question_at questions j) introduced
          ∙ ap (λ k. if same_id j q then Some (just_opened (noted_call e) (asks_elsewhere e) (introductions before e)) else k) (tabled.known j)
          ∙ ap (λ o. if names j o then Some (just_opened (noted_call e) (asks_elsewhere e) (introductions before e)) else question_known j before) (sym o)

      sum : (i : TableKey) → held_count_at lives i + count_by (λ x. same_id i x.0) os ≡ held i before + introduces i before e - gives_back i before e
      sum i = let none = opens_gives e q o before i in let counted = tabled.counted i in let same = intro_count i in omega (arith, none, counted, same)

  -- a record that opens none
  pub tabled_close : question_opened e ≡ None → ((j : TableKey) → question_at later j ≡ noted_by e ids j (question_at questions j)) →
      ((i : TableKey) → held_count_at after i ≡ held_count_at lives i + count_by (λ x. same_id i x.0) os - count_by (same_id i) (given_back_by (question_at questions) e) - count_released i e) →
      IsTabled (e ∷ before) later after
  tabled_close o noted counts = record {
    known = λ j. noted j ∙ ap (λ l. noted_by e l j (question_at questions j)) introduced ∙ ap (λ k. noted_by e (introductions before e) j k) (tabled.known j ∙ unopened j)
        ∙ sym (known_step j before e);
    counted = λ i. counts i ∙ sum i ∙ counted_step before e tabled.balanced gives i;
    born = births_step;
    balanced = balanced_step before e tabled.balanced gives;
  }
    where
      unopened : (j : TableKey) → question_known j before ≡ (if names j (question_opened e) then Some (just_opened (noted_call e) (asks_elsewhere e) (introductions before e)) else question_known j before)
      unopened j = ap (λ o. if names j o then Some (just_opened (noted_call e) (asks_elsewhere e) (introductions before e)) else question_known j before) (sym o)

      sum : (i : TableKey) → held_count_at lives i + count_by (λ x. same_id i x.0) os - count_by (same_id i) (given_back_by (question_at questions) e) - count_released i e
          ≡ held i before + introduces i before e - gives_back i before e
      sum i =
          let parts = gives_parts i before e in
          let closed : count_by (same_id i) (given_back_by (question_at questions) e) ≡ count_by (same_id i) (introductions_at (closes before e)) =
          ap (λ l. count_by (same_id i) l) (closed_known (question_at questions) before tabled.known e uses) in
          let counted = tabled.counted i in let same = intro_count i in omega (arith, parts, closed, counted, same)
