-- Which messages are closed, and which questions have ended.
use Rattle.std.proofs.Common.{◌≡◌, ◌≤◌, inl, inr, refl, sym, ◌∙◌, ap, ap₂, subst, ℕ, ◌+◌, ◌==◌, List, [], ◌∷◌, length, Bool, true, false, not, ◌&&◌, ◌||◌, cond, Option, Some, None, if◌then◌else◌, arith, option_map, count_by}
use Rattle.std.specs.Prelude.{is_some}
use Rattle.std.specs.List.{cons_option, filter_map}
use Rattle.std.specs.Bool.{beq}
use Rattle.std.proofs.lemmas.Bool.{false≢true, cases_Bool, and_parts, or_from}
use Rattle.std.proofs.lemmas.List.Sums.{sum_by-cons}
use Rattle.agree.specs.Types.{Descriptor, SenderHosted, SenderPromise, RpcMessage, Bootstrap, Call, Return, Finish, DecodedRecord, Host, Wire, TableKey}
use Rattle.decoded_records.specs.Past.{Past, Point, point, id, is, names, same_id, last_since}
use Rattle.decoded_records.specs.Questions.{question_opened, opens, returns, releases, is_returned, is_released, is_late}
use Rattle.decoded_records.specs.Lives.{number_introduced, introduces, descriptors_of}
use Rattle.agree.specs.Streams.{passing, stream, opening_number}
use Rattle.agree.specs.Told.{Telling, telling, tellings}
use Rattle.agree.specs.Alive.{Closer, by_return, by_finish, is_same_closer, as_closer, closer_of, is_closed, is_introduced, introductions_in}
use Rattle.agree.proofs.Asking.{EndsOnce, answers, frees, passes, releases_is, returns_is}
use Rattle.agree.proofs.Once.{number_if, number_there}
use Rattle.agree.proofs.Openings.{passing_is}
use Rattle.agree.proofs.Telling.{told_length, none_closed, finish_finish, return_return, finish_return, return_finish, opening_of, closer_if, finish_of_none, return_of_none, no_finish_yet, no_return_yet, not_now}

pub not_not : (b : Bool) → not (not b) ≡ b
not_not true = refl
not_not false = refl

some_stopped : (t : Bool) (p : Point) (o : Option Point) (s : Bool) → s ≡ true → is_some (if s then None else if t then Some p else o) ≡ false
some_stopped t p o s e = ap (λ s. is_some (if s then None else if t then Some p else o)) e

pub some_on : (t : Bool) (p : Point) (o : Option Point) (s : Bool) → s ≡ false → is_some (if s then None else if t then Some p else o) ≡ (if t then true else is_some o)
some_on true p o s e = ap (λ s. is_some (if s then None else Some p)) e
some_on false p o s e = ap (λ s. is_some (if s then None else o)) e

pub same_some : {A : Type 0} {x y : A} → Some x ≡ Some y → x ≡ y
same_some e = cc

-- a message closes the Return of an opening exactly where it gives back that question's results
frees_is : (k : ℕ) (s : Bool) (q n : ℕ) (before : Past) (m : RpcMessage) → opening_number (id k s q) before ≡ Some n → is_same_closer (as_closer (telling k s before m)) (Some (by_finish n)) ≡ frees q m
frees_is k s q n before (Finish r true) e = finish_finish n _ ∙ opening_of k s q r before n e
frees_is k s q n before (Return head outcome) e = let o = opening_number (id k (not s) head.answer) before in closer_if head.release_param_caps o (Some (by_finish n)) (return_finish n o)
frees_is k s q n before (Finish r false) e = refl
frees_is k s q n before _ e = refl

closed_at : (f : RpcMessage → Telling) (c : Option Closer) (ts : List Telling) (test : RpcMessage → Bool) (o : Option RpcMessage) → ((m : RpcMessage) → is_same_closer (as_closer (f m)) c ≡ test m) →
    is_closed (cons_option (option_map f o) ts) c ≡ (if passes test o then true else is_closed ts c)
closed_at f c ts test None same = refl
closed_at f c ts test (Some m) same = ap (λ b. b || is_closed ts c) (same m) ∙ either (test m)
  where
    either : (b : Bool) → (b || is_closed ts c) ≡ (if b then true else is_closed ts c)
    either true = refl
    either false = refl

-- so far the Finish of an opening came exactly where the results were given back since
pub closed_finish : (k : ℕ) (s : Bool) (q n : ℕ) (past : Past) → opening_number (id k s q) past ≡ Some n → is_closed (tellings k s past) (Some (by_finish n)) ≡ is_released (id k s q) past
closed_finish k s q n [] h = absurd (let no : ⊥ = cc in no)
closed_finish k s q n (e ∷ before) h =
    let question : TableKey = id k s q in
    elim (cases_Bool (names question (question_opened e))) [
      | inl here ↦
          let at : length (stream k s before) ≡ n = same_some (sym (number_if question e before true here) ∙ h) in
          let le : length (stream k s before) ≤ n = omega (arith, at) in
          not_now (telling k s before) (Some (by_finish n)) (tellings k s before) (passing k s e) (λ m. finish_of_none k s before n m le) (no_finish_yet k s before n le)
          ∙ sym (some_stopped (releases question before e) (point before e) (last_since (opens question) (releases question) before) (names question (question_opened e)) here)
      | inr there ↦
          let rest : opening_number question before ≡ Some n = sym (number_if question e before false there) ∙ h in
          closed_at (telling k s before) (Some (by_finish n)) (tellings k s before) (frees q) (passing k s e) (λ m. frees_is k s q n before m rest)
          ∙ ap₂ (λ b c. if b then true else c) (sym (releases_is question e)) (closed_finish k s q n before rest)
          ∙ sym (some_on (releases question before e) (point before e) (last_since (opens question) (releases question) before) (names question (question_opened e)) there)
    ]

-- a message that doesn't return a question doesn't close the Call that opened it
no_answer : (k : ℕ) (o : Bool) (q n : ℕ) (before : Past) (m : RpcMessage) → opening_number (id k o q) before ≡ Some n → answers q m ≡ false →
    is_same_closer (as_closer (telling k (not o) before m)) (Some (by_return n)) ≡ false
no_answer k o q n before (Return head outcome) e h =
    let r = head.answer in
    let its = opening_number (id k (not (not o)) r) before in
    closer_if head.release_param_caps its (Some (by_return n)) (return_return n its ∙ ap (λ b. is n (opening_number (id k b r) before)) (not_not o) ∙ opening_of k o q r before n e ∙ h)
no_answer k o q n before (Finish r true) e h = finish_return n _
no_answer k o q n before (Finish r false) e h = refl
no_answer k o q n before _ e h = refl

not_returned : (f : RpcMessage → Telling) (c : Option Closer) (ts : List Telling) (test : RpcMessage → Bool) (p : Option RpcMessage) → ((m : RpcMessage) → test m ≡ false → is_same_closer (as_closer (f m)) c ≡ false) →
    passes test p ≡ false → is_closed ts c ≡ false → is_closed (cons_option (option_map f p) ts) c ≡ false
not_returned f c ts test None none h rest = rest
not_returned f c ts test (Some m) none h rest = or_from _ _ (none m h) rest

pub both_false : (a b : Bool) → (if a then true else b) ≡ false → (a ≡ false) × (b ≡ false)
both_false true b e = absurd (false≢true (sym e))
both_false false b e = (refl, e)

low_by : (k : ℕ) (o : Bool) (past : Past) (n : ℕ) → length (stream k o past) ≤ n → length (stream k (not (not o)) past) ≤ n
low_by k o past n le = subst (λ b. length (stream k b past) ≤ n) (sym (not_not o)) le

-- before its Return the Call of an opening isn't closed
pub not_closed_return : (k : ℕ) (o : Bool) (q n : ℕ) (past : Past) → opening_number (id k o q) past ≡ Some n → is_returned (id k o q) past ≡ false →
    is_closed (tellings k (not o) past) (Some (by_return n)) ≡ false
not_closed_return k o q n [] h none = refl
not_closed_return k o q n (e ∷ before) h none =
    let question : TableKey = id k o q in
    elim (cases_Bool (names question (question_opened e))) [
      | inl here ↦
          let at : length (stream k o before) ≡ n = same_some (sym (number_if question e before true here) ∙ h) in
          let le : length (stream k (not (not o)) before) ≤ n = low_by k o before n (omega (arith, at)) in
          not_now (telling k (not o) before) (Some (by_return n)) (tellings k (not o) before) (passing k (not o) e) (λ m. return_of_none k (not o) before n m le) (no_return_yet k (not o) before n le)
      | inr there ↦
          let rest : opening_number question before ≡ Some n = sym (number_if question e before false there) ∙ h in
          let parts = both_false (returns question before e) (is_returned question before)
          (sym (some_on (returns question before e) (point before e) (last_since (opens question) (returns question) before) (names question (question_opened e)) there) ∙ none) in
          not_returned (telling k (not o) before) (Some (by_return n)) (tellings k (not o) before) (answers q) (passing k (not o) e) (λ m. no_answer k o q n before m rest)
          (sym (returns_is question e) ∙ parts.0) (not_closed_return k o q n before rest parts.1)
    ]

-- ---- a message that introduces

fresh_of : (k : ℕ) (o : Bool) (past : Past) (c : ℕ) (rs : List ℕ) (m : RpcMessage) → EndsOnce past (Wire o k c rs m) →
    is_closed (tellings k (not o) past) (closer_of (telling k o past m) (length (tellings k o past))) ≡ is_late past (Wire o k c rs m)
fresh_of k o past c rs (Call head target b) uses = no_return_yet k (not o) past (length (tellings k o past))
    (low_by k o past (length (tellings k o past)) (let same = told_length k o past in omega (arith, same)))
fresh_of k o past c rs (Return head outcome) uses =
    let there = number_there (id k (not o) head.answer) past (and_parts _ _ uses.0).0 in
    ap (λ x. is_closed (tellings k (not o) past) (option_map by_finish x)) there.1 ∙ closed_finish k (not o) head.answer there.0 past there.1
fresh_of k o past c rs (Bootstrap q) uses = none_closed (tellings k (not o) past)
fresh_of k o past c rs m uses = none_closed (tellings k (not o) past)

-- a new message is closed exactly where it is late
pub fresh : (k : ℕ) (o : Bool) (past : Past) (e : DecodedRecord) (m : RpcMessage) → passing k o e ≡ Some m → EndsOnce past e →
    is_closed (tellings k (not o) past) (closer_of (telling k o past m) (length (tellings k o past))) ≡ is_late past e
fresh k o past e m h uses =
    let s = passing_is k o m e h in
    fresh_of k o past s.0 s.1 m (subst (λ x. EndsOnce past x) s.2 uses) ∙ ap (λ x. is_late past x) (sym s.2)

counted : (g b : Bool) (u v : ℕ) → u ≡ (if g then v else 0) → cond (g && b) 1 0 + u ≡ (if g then cond b 1 0 + v else 0)
counted true true u v e = ap (λ x. 1 + x) e
counted true false u v e = ap (λ x. 0 + x) e
counted false b u v e = omega (arith, e)

passed_by : (g : Bool) (u v w : ℕ) → u ≡ (if g then v else 0) → w ≡ 0 + v → u ≡ (if g then w else 0)
passed_by true u v w e f = omega (arith, e, f)
passed_by false u v w e f = e

zero_if : (g : Bool) → let z : ℕ = 0 in z ≡ (if g then z else z)
zero_if true = refl
zero_if false = refl

-- how many descriptors introduce a number: none where they go the other way
count_in : (k : ℕ) (o : Bool) (n : ℕ) (t : Bool) (j c : ℕ) (rs : List ℕ) (m : RpcMessage) (ds : List Descriptor) →
    count_by (same_id (id k o n)) (filter_map (number_introduced (Wire t j c rs m)) ds) ≡ (if (k == j) && beq o t then count_by (is_introduced n) ds else 0)
count_in k o n t j c rs m [] = zero_if ((k == j) && beq o t)
count_in k o n t j c rs m (SenderHosted x ∷ ds) =
    let rest = filter_map (number_introduced (Wire t j c rs m)) ds in
    sum_by-cons (λ y. cond (same_id (id k o n) y) 1 0) (id j t x) rest
    ∙ counted ((k == j) && beq o t) (n == x) (count_by (same_id (id k o n)) rest) (count_by (is_introduced n) ds) (count_in k o n t j c rs m ds)
    ∙ ap (λ y. if (k == j) && beq o t then y else 0) (sym (sum_by-cons (λ y. cond (is_introduced n y) 1 0) (SenderHosted x) ds))
count_in k o n t j c rs m (SenderPromise x ∷ ds) =
    let rest = filter_map (number_introduced (Wire t j c rs m)) ds in
    sum_by-cons (λ y. cond (same_id (id k o n) y) 1 0) (id j t x) rest
    ∙ counted ((k == j) && beq o t) (n == x) (count_by (same_id (id k o n)) rest) (count_by (is_introduced n) ds) (count_in k o n t j c rs m ds)
    ∙ ap (λ y. if (k == j) && beq o t then y else 0) (sym (sum_by-cons (λ y. cond (is_introduced n y) 1 0) (SenderPromise x) ds))
count_in k o n t j c rs m (d ∷ ds) =
    passed_by ((k == j) && beq o t) _ (count_by (is_introduced n) ds) (count_by (is_introduced n) (d ∷ ds)) (count_in k o n t j c rs m ds)
    (sum_by-cons (λ y. cond (is_introduced n y) 1 0) d ds)

introduced_by : (l : Bool) (i : TableKey) (xs : List TableKey) (g : Bool) (d : ℕ) → count_by (same_id i) xs ≡ (if g then d else 0) → count_by (same_id i) (if l then [] else xs) ≡ (if g then (if l then 0 else d) else 0)
introduced_by true i xs true d e = refl
introduced_by true i xs false d e = refl
introduced_by false i xs g d e = e

-- what a record introduces, by what passed
pub introduces_is : (k : ℕ) (o : Bool) (n : ℕ) (past : Past) (t : Bool) (j c : ℕ) (rs : List ℕ) (m : RpcMessage) →
    introduces (id k o n) past (Wire t j c rs m) ≡ (if (k == j) && beq o t then (if is_late past (Wire t j c rs m) then 0 else introductions_in n m) else 0)
introduces_is k o n past t j c rs m =
    introduced_by (is_late past (Wire t j c rs m)) (id k o n) (filter_map (number_introduced (Wire t j c rs m)) (descriptors_of m)) ((k == j) && beq o t) (introductions_in n m) (count_in k o n t j c rs m (descriptors_of m))

one_way : (g : Bool) (m n : RpcMessage) (d : ℕ) → (if g then Some n else None) ≡ Some m → (if g then d else 0) ≡ d
one_way true m n d e = refl
one_way false m n d e = absurd (let no : ⊥ = cc in no)

no_way : (g : Bool) (n : RpcMessage) (d : ℕ) → (if g then Some n else None) ≡ None → (if g then d else 0) ≡ 0
no_way true n d e = absurd (let no : ⊥ = cc in no)
no_way false n d e = refl

pub introduces_some : (k : ℕ) (o : Bool) (n : ℕ) (past : Past) (e : DecodedRecord) (m : RpcMessage) → passing k o e ≡ Some m → introduces (id k o n) past e ≡ (if is_late past e then 0 else introductions_in n m)
introduces_some k o n past (Wire t j c rs m) m' h =
    introduces_is k o n past t j c rs m ∙ one_way ((k == j) && beq o t) m' m _ h
    ∙ ap (λ x. if is_late past (Wire t j c rs m) then 0 else introductions_in n x) (same_message ((k == j) && beq o t) h)
  where
    same_message : (g : Bool) → (if g then Some m else None) ≡ Some m' → m ≡ m'
    same_message true e = cc
    same_message false e = absurd (let no : ⊥ = cc in no)
introduces_some k o n past (Host r x) m' h = absurd (let no : ⊥ = cc in no)
introduces_some k o n past _ m' h = absurd (let no : ⊥ = cc in no)

pub introduces_none : (k : ℕ) (o : Bool) (n : ℕ) (past : Past) (e : DecodedRecord) → passing k o e ≡ None → introduces (id k o n) past e ≡ 0
introduces_none k o n past (Wire t j c rs m) h = introduces_is k o n past t j c rs m ∙ no_way ((k == j) && beq o t) m _ h
introduces_none k o n past (Host r x) h = refl
introduces_none k o n past _ h = refl
