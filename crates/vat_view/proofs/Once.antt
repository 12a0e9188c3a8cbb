-- An opening has one Return and one Finish at most.
use Rattle.std.proofs.Common.{◌≡◌, ◌≤◌, ◌+◌, refl, sym, subst, ℕ, [], ◌∷◌, Bool, true, false, not, Option, Some, None, if◌then◌else◌, IsTrue, arith}
use Rattle.std.specs.Prelude.{is_some, IfSome}
use Rattle.std.proofs.lemmas.Bool.{and_parts, false≢true, not-true}
use Rattle.vat_view.specs.Types.{Finish, DecodedRecord, Wire, TableKey}
use Rattle.decoded_records.specs.Past.{Past, Point, point, id, names, last_since, Each}
use Rattle.decoded_records.specs.Questions.{question_returned, opens, returns, finishes, is_opened, is_returned, is_finished, is_unreturned, is_unfinished}
use Rattle.decoded_records.specs.Uses.{UsesQuestions}
use Rattle.vat_view.specs.Laws.{count_since}
use Rattle.decoded_records.proofs.Naming.{same_id_is}

none_at : (s t : Bool) (p : Point) (o : Option Point) (n : ℕ) → (is_some o ≡ false → n ≡ 0) → is_some (if s then None else if t then Some p else o) ≡ false →
    (if s then 0 else (if t then 1 else 0) + n) ≡ 0
none_at true t p o n rest h = refl
none_at false true p o n rest h = absurd (false≢true (sym h))
none_at false false p o n rest h = let r = rest h in omega (arith, r)

-- where none is found none is counted
none_counted : (start test : Past → DecodedRecord → Bool) (past : Past) → is_some (last_since start test past) ≡ false → count_since start test past ≡ 0
none_counted start test [] h = refl
none_counted start test (e ∷ before) h =
    none_at (start before e) (test before e) (point before e) (last_since start test before) (count_since start test before) (none_counted start test before) h

once_at : (s t : Bool) (n : ℕ) → (t ≡ true → n ≡ 0) → n ≤ 1 → (if s then 0 else (if t then 1 else 0) + n) ≤ 1
once_at true t n f le = omega arith
once_at false true n f le = let z = f refl in omega (arith, z)
once_at false false n f le = omega (arith, le)

pub used_so : (q : TableKey) (f : TableKey → Bool) (o : Option TableKey) → IfSome o (λ i. IsTrue (f i)) → names q o ≡ true → f q ≡ true
used_so q f (Some i) h e = subst (λ x. f x ≡ true) (sym (same_id_is q i e)) h
used_so q f None h e = absurd (false≢true e)

unreturned : (q : TableKey) (before : Past) (e : DecodedRecord) → UsesQuestions before e → returns q before e ≡ true → is_returned q before ≡ false
unreturned q before e h f = not-true (is_returned q before) (and_parts (is_opened q before) (not (is_returned q before)) (used_so q (λ i. is_unreturned i before) (question_returned e) h.returned_once f)).1

unfinished : (q : TableKey) (before : Past) (e : DecodedRecord) → UsesQuestions before e → finishes q before e ≡ true → is_finished q before ≡ false
unfinished q before (Wire s k c rs (Finish n release)) h f =
    let all = and_parts (is_unfinished (id k s n) before) true h.used in
    let same : is_unfinished q before ≡ true = subst (λ x. is_unfinished x before ≡ true) (sym (same_id_is q (id k s n) f)) all.0 in
    not-true (is_finished q before) (and_parts (is_opened q before) (not (is_finished q before)) same).1
unfinished q before _ h f = absurd (false≢true f)

pub one_return : (past : Past) → Each UsesQuestions past → (q : TableKey) → count_since (opens q) (returns q) past ≤ 1
one_return [] h q = omega arith
one_return (e ∷ before) h q =
    once_at (opens q before e) (returns q before e) (count_since (opens q) (returns q) before)
    (λ f. none_counted (opens q) (returns q) before (unreturned q before e h.0 f)) (one_return before h.1 q)

pub one_finish : (past : Past) → Each UsesQuestions past → (q : TableKey) → count_since (opens q) (finishes q) past ≤ 1
one_finish [] h q = omega arith
one_finish (e ∷ before) h q =
    once_at (opens q before e) (finishes q before e) (count_since (opens q) (finishes q) before)
    (λ f. none_counted (opens q) (finishes q) before (unfinished q before e h.0 f)) (one_finish before h.1 q)
