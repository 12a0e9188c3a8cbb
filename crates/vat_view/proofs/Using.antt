-- What a record uses, part by part.
use Rattle.std.proofs.Common.{◌≡◌, ℕ, suc, ◌+◌, ◌==◌, List, [], ◌∷◌, ◌++◌, length, cond, if◌then◌else◌, Bool, true, false, not, ◌&&◌, Option, Some, None, refl, sym, ◌∙◌, ap, ap₂, arith}
use Rattle.std.specs.Prelude.{option_to_list, count_by, Decides, IfSome, IsTrue}
use Rattle.std.specs.List.{cons_option, list_all, filter_map}
use Rattle.std.proofs.lemmas.List.Folds.{list_all-append}
use Rattle.std.proofs.lemmas.List.Sums.{sum_by-cons}
use Rattle.std.proofs.lemmas.Bool.{and_parts, and_from, eqb-true, eq-eqb}
use Rattle.vat_view.specs.Types.{Descriptor, NoCap, SenderHosted, SenderPromise, ReceiverHosted, ReceiverAnswer, DecodedRecord, TableKey}
use Rattle.decoded_records.specs.Past.{Past}
use Rattle.decoded_records.specs.Questions.{question_returned, question_taken, opening, is_tail, is_taken, is_unfinished, is_unreturned, is_late}
use Rattle.decoded_records.specs.Uses.{questions_used, UsesQuestions}
use Rattle.decoded_records.specs.Bindings.{NotesEach}
use Rattle.decoded_records.specs.Views.{places_from, places, references}
use Rattle.decoded_records.specs.Glue.Origins.{is_cap}
use Rattle.vat_view.specs.Glue.Asking.{passes_if}

-- one number that may be there
pub passes_one : (test : TableKey → Bool) (o : Option TableKey) → passes_if test o ≡ list_all test (option_to_list o)
passes_one test (Some i) = and_true (test i)
  where
    and_true : (b : Bool) → b ≡ (b && true)
    and_true true = refl
    and_true false = refl
passes_one test None = refl

passes_next : (test : TableKey → Bool) (o : Option TableKey) (is : List TableKey) (b : Bool) → b ≡ list_all test is → (passes_if test o && b) ≡ list_all test (cons_option o is)
passes_next test (Some i) is b same = ap (λ b. test i && b) same
passes_next test None is b same = same

-- those that a list gives
pub passes_each : {A : Type 0} (test : TableKey → Bool) (f : A → Option TableKey) (xs : List A) → list_all (λ x. passes_if test (f x)) xs ≡ list_all test (filter_map f xs)
passes_each test f [] = refl
passes_each test f (x ∷ xs) = passes_next test (f x) (filter_map f xs) (list_all (λ x. passes_if test (f x)) xs) (passes_each test f xs)

-- one that may be there, those that a list gives, and one more that may be there
passes_parts : {A : Type 0} (test : TableKey → Bool) (a c : Option TableKey) (f : A → Option TableKey) (xs : List A) →
    ((passes_if test a && list_all (λ x. passes_if test (f x)) xs) && passes_if test c) ≡ list_all test ((option_to_list a ++ filter_map f xs) ++ option_to_list c)
passes_parts test a c f xs =
    ap₂ (λ x y. x && y)
    (ap₂ (λ x y. x && y) (passes_one test a) (passes_each test f xs) ∙ sym (list_all-append test (option_to_list a) (filter_map f xs))) (passes_one test c)
    ∙ sym (list_all-append test (option_to_list a ++ filter_map f xs) (option_to_list c))

-- the same of answers to each part
pub joined : {A : Type 0} (test : TableKey → Bool) (a b c d : Option TableKey) (f : A → Option TableKey) (xs : List A) (r first second third : Bool) →
    r ≡ ((first && second) && third) → first ≡ passes_if test a → a ≡ b → second ≡ list_all (λ x. passes_if test (f x)) xs → third ≡ passes_if test c → c ≡ d →
    r ≡ list_all test ((option_to_list b ++ filter_map f xs) ++ option_to_list d)
joined test a b c d f xs r first second third is_r is_first is_a is_second is_third is_c =
    is_r ∙ ap₂ (λ x y. x && y) (ap₂ (λ x y. x && y) (is_first ∙ ap (passes_if test) is_a) is_second) (is_third ∙ ap (passes_if test) is_c) ∙ passes_parts test b d f xs

-- one more that may be there, after others
pub joined_more : (test : TableKey → Bool) (a b : Option TableKey) (is : List TableKey) (r first second : Bool) →
    r ≡ (first && second) → first ≡ list_all test is → second ≡ passes_if test a → a ≡ b → r ≡ list_all test (is ++ option_to_list b)
joined_more test a b is r first second is_r is_first is_second is_a =
    is_r ∙ ap₂ (λ x y. x && y) is_first (is_second ∙ ap (passes_if test) is_a ∙ passes_one test b) ∙ sym (list_all-append test is (option_to_list b))

passed : (test : TableKey → Bool) (o : Option TableKey) → passes_if test o ≡ true → IfSome o (λ i. IsTrue (test i))
passed test (Some i) h = h
passed test None h = tt

passing : (test : TableKey → Bool) (o : Option TableKey) → IfSome o (λ i. IsTrue (test i)) → passes_if test o ≡ true
passing test (Some i) h = h
passing test None h = refl

-- a record uses questions as it should just where each of three tests says so
pub uses_from : (before : Past) (e : DecodedRecord) (r first second third : Bool) → r ≡ ((first && second) && third) →
    first ≡ passes_if (λ q. is_unreturned q before) (question_returned e) → second ≡ passes_if (λ q. is_tail (opening q before) && not (is_taken q before)) (question_taken e) →
    third ≡ list_all (λ q. is_unfinished q before) (questions_used e) → Decides r (UsesQuestions before e)
uses_from before e r first second third is_r is_first is_second is_third = (
  λ so. (let all = and_parts (first && second) third (sym is_r ∙ so) in
      let two = and_parts first second all.0 in record {
        used = sym is_third ∙ all.1;
        returned_once = passed (λ q. is_unreturned q before) (question_returned e) (sym is_first ∙ two.0);
        taken_once = passed (λ q. is_tail (opening q before) && not (is_taken q before)) (question_taken e) (sym is_second ∙ two.1);
      }),
  λ uses. is_r ∙ and_from (first && second) third
      (and_from first second (is_first ∙ passing (λ q. is_unreturned q before) (question_returned e) uses.returned_once)
      (is_second ∙ passing (λ q. is_tail (opening q before) && not (is_taken q before)) (question_taken e) uses.taken_once)) (is_third ∙ uses.used),
)

-- as many places as capabilities
pub caps_placed : (k : ℕ) (ds : List Descriptor) → count_by is_cap ds ≡ length (places_from k ds)
caps_placed k [] = refl
caps_placed k (d ∷ ds) = sum_by-cons (λ x. cond (is_cap x) 1 0) d ds ∙ placed d (caps_placed k ds) (caps_placed (k + 1) ds)
  where
    more : (a b : ℕ) → a ≡ b → 1 + a ≡ suc b
    more a b e = omega (arith, e)

    none : (a b : ℕ) → a ≡ b → 0 + a ≡ b
    none a b e = omega (arith, e)

    placed : (d : Descriptor) → count_by is_cap ds ≡ length (places_from k ds) → count_by is_cap ds ≡ length (places_from (k + 1) ds) →
        cond (is_cap d) 1 0 + count_by is_cap ds ≡ length (places_from k (d ∷ ds))
    placed NoCap a b = none _ _ b
    placed (SenderHosted n) a b = more _ _ b
    placed (SenderPromise n) a b = more _ _ b
    placed (ReceiverHosted n) a b = more _ _ b
    placed (ReceiverAnswer q path) a b = more _ _ b

-- a record that isn't late notes as many references as it has capabilities
pub same_lengths : (before : Past) (e : DecodedRecord) (noted caps : ℕ) → noted ≡ length (references e) → caps ≡ length (places e) → false ≡ is_late before e →
    Decides (noted == caps) (NotesEach before e)
same_lengths before e noted caps is_noted are_caps on_time =
    let meant : (if is_late before e then 0 else length (places e)) ≡ length (places e) = ap (λ b. if b then 0 else length (places e)) (sym on_time) in
    (λ same. sym is_noted ∙ eqb-true noted caps same ∙ are_caps ∙ sym meant, λ notes. eq-eqb noted caps (is_noted ∙ notes ∙ meant ∙ sym are_caps))
