-- What a closer ends: what was alive until then.
use Rattle.std.proofs.Common.{◌≡◌, ◌≤◌, inl, inr, refl, sym, ◌∙◌, ap, ap₂, ℕ, suc, ◌+◌, ◌==◌, List, [], ◌∷◌, length, Bool, true, false, not, ◌&&◌, ◌||◌, Option, Some, None, if◌then◌else◌, arith, option_map, count_by, eqb-true}
use Rattle.std.specs.Prelude.{is_some}
use Rattle.std.specs.List.{cons_option}
use Rattle.std.proofs.lemmas.Bool.{false≢true, eqb-false, eq-eqb, ne_eqb, cases_Bool, and_parts, not-true}
use Rattle.agree.specs.Types.{RpcMessage, Bootstrap, Call, Return, DecodedRecord, Wire, TableKey}
use Rattle.decoded_records.specs.Past.{Past, Point, point, id, is, names, same_id, last_since, Each}
use Rattle.decoded_records.specs.Questions.{question_opened, question_returned, opens, returns, releases, opening, return_of, is_opened, is_returned, is_released, is_late}
use Rattle.decoded_records.specs.Lives.{introductions_at, introduces}
use Rattle.agree.specs.Streams.{passing, stream, opening_number}
use Rattle.agree.specs.Told.{Telling, telling, tellings}
use Rattle.agree.specs.Alive.{Closer, by_return, by_finish, is_same_closer, as_closer, closer_of, is_closed, introductions_in, alive_in}
use Rattle.agree.proofs.Asking.{asks, answers, passes, opens_is, returns_is, EndsOnce, return_due}
use Rattle.agree.proofs.Once.{number_if, opening_below}
use Rattle.agree.proofs.Openings.{passing_is}
use Rattle.agree.proofs.Telling.{told_length, grows, opening_of, not_yet}
use Rattle.agree.proofs.Closing.{not_not, same_some, some_on, both_false, introduces_some}

-- what of a number ends with a closer: what it closes and nothing closed before
abbrev pub dies : ℕ → List Telling → Option Closer → List Telling → ℕ
dies n closers closer [] = 0
dies n closers closer (t ∷ ts) =
    (if is_same_closer closer (closer_of t (length ts)) && not (is_closed closers (closer_of t (length ts))) then introductions_in n t.0 else 0) + dies n closers closer ts

split_at : (m y : Bool) (b : ℕ) → (if y then 0 else b) ≡ (if m || y then 0 else b) + (if m && not y then b else 0)
split_at true true b = omega arith
split_at true false b = omega arith
split_at false true b = omega arith
split_at false false b = omega arith

-- with one closer more
pub split : (n : ℕ) (closers : List Telling) (t : Telling) (ts : List Telling) → alive_in n closers ts ≡ alive_in n (t ∷ closers) ts + dies n closers (as_closer t) ts
split n closers t [] = omega arith
split n closers t (u ∷ ts) =
    let here = split_at (is_same_closer (as_closer t) (closer_of u (length ts))) (is_closed closers (closer_of u (length ts))) (introductions_in n u.0) in
    let rest = split n closers t ts in omega (arith, here, rest)

-- nothing dies of no closer
pub dies_none : (n : ℕ) (closers ts : List Telling) → dies n closers None ts ≡ 0
dies_none n closers [] = refl
dies_none n closers (u ∷ ts) = let rest = dies_none n closers ts in omega (arith, rest)

dies_not : (m y : Bool) (b : ℕ) → m ≡ false → (if m && not y then b else 0) ≡ 0
dies_not m y b e = ap (λ x. if x && not y then b else 0) e

dies_so : (m y : Bool) (b : ℕ) → m ≡ true → y ≡ false → (if m && not y then b else 0) ≡ b
dies_so m y b e f = ap₂ (λ x z. if x && not z then b else 0) e f

-- a message that the closer isn't for changes nothing
no_death : (n : ℕ) (closers : List Telling) (c : Option Closer) (f : RpcMessage → Telling) (ts : List Telling) (o : Option RpcMessage) →
    ((m : RpcMessage) → o ≡ Some m → is_same_closer c (closer_of (f m) (length ts)) ≡ false) → dies n closers c (cons_option (option_map f o) ts) ≡ dies n closers c ts
no_death n closers c f ts None none = refl
no_death n closers c f ts (Some m) none =
    let here = dies_not (is_same_closer c (closer_of (f m) (length ts))) (is_closed closers (closer_of (f m) (length ts))) (introductions_in n (f m).0) (none m refl) in omega (arith, here)

pub eqb_turns : (n m : ℕ) → (n == m) ≡ (m == n)
eqb_turns n m = elim (cases_Bool (m == n)) [
  | inl good ↦ eq-eqb n m (sym (eqb-true m n good)) ∙ sym good
  | inr bad ↦ ne_eqb n m (λ e. eqb-false m n bad (sym e)) ∙ sym bad
]

for_finish : (w : ℕ) (o : Option ℕ) → is_same_closer (Some (by_finish w)) (option_map by_finish o) ≡ is w o
for_finish w None = refl
for_finish w (Some m) = eqb_turns w m

for_return : (w : ℕ) (o : Option ℕ) → is_same_closer (Some (by_return w)) (option_map by_finish o) ≡ false
for_return w None = refl
for_return w (Some m) = refl

-- ---- the Return of a Call

-- only the Call of that number
not_the_call : (k : ℕ) (o : Bool) (before : Past) (w len : ℕ) (m : RpcMessage) → (w ≡ len → ⊥) → is_same_closer (Some (by_return w)) (closer_of (telling k o before m) len) ≡ false
not_the_call k o before w len (Call head target params) apart = ne_eqb w len apart
not_the_call k o before w len (Return head outcome) apart = for_return w _
not_the_call k o before w len (Bootstrap q) apart = refl
not_the_call k o before w len _ apart = refl

none_yet_returned : (k : ℕ) (o : Bool) (n w : ℕ) (closers : List Telling) (p : Past) → length (stream k o p) ≤ w → dies n closers (Some (by_return w)) (tellings k o p) ≡ 0
none_yet_returned k o n w closers [] le = refl
none_yet_returned k o n w closers (e ∷ before) le =
    let same = told_length k o before in
    no_death n closers (Some (by_return w)) (telling k o before) (tellings k o before) (passing k o e)
    (λ m h. not_the_call k o before w (length (tellings k o before)) m
    (λ f. let one : length (stream k o (e ∷ before)) ≡ suc (length (stream k o before)) = ap (λ x. length (cons_option x (stream k o before))) h in
    let no : ⊥ = omega (arith, le, same, f, one) in no))
    ∙ none_yet_returned k o n w closers before (let g = grows k o e before in omega (arith, g, le))

opener_dies : (k : ℕ) (o : Bool) (n w : ℕ) (q : ℕ) (closers : List Telling) (before : Past) (m : RpcMessage) → asks q m ≡ true → is_closed closers (Some (by_return w)) ≡ false →
    (len : ℕ) → len ≡ w →
    (if is_same_closer (Some (by_return w)) (closer_of (telling k o before m) len) && not (is_closed closers (closer_of (telling k o before m) len)) then introductions_in n m else 0) ≡ introductions_in n m
opener_dies k o n w q closers before (Call head target params) h unclosed len e =
    dies_so (w == len) (is_closed closers (Some (by_return len))) (introductions_in n (Call head target params)) (eq-eqb w len (sym e)) (ap (λ x. is_closed closers (Some (by_return x))) e ∙ unclosed)
opener_dies k o n w q closers before (Bootstrap r) h unclosed len e = refl
opener_dies k o n w q closers before _ h unclosed len e = absurd (false≢true h)

asker_on_time : (k : ℕ) (o : Bool) (q : ℕ) (before : Past) (c : ℕ) (rs : List ℕ) (m : RpcMessage) → asks q m ≡ true → is_late before (Wire o k c rs m) ≡ false
asker_on_time k o q before c rs (Return head outcome) h = absurd (false≢true h)
asker_on_time k o q before c rs (Bootstrap r) h = refl
asker_on_time k o q before c rs _ h = refl

pub asked_some : (test : RpcMessage → Bool) (o : Option RpcMessage) → passes test o ≡ true → (m : RpcMessage) × (o ≡ Some m) × (test m ≡ true)
asked_some test (Some m) h = (m, refl, h)
asked_some test None h = absurd (false≢true h)

-- the opening of a question, and what it introduces
opener_gives : (k : ℕ) (o : Bool) (n : ℕ) (q : ℕ) (before : Past) (e : DecodedRecord) (m : RpcMessage) → passing k o e ≡ Some m → asks q m ≡ true → introduces (id k o n) before e ≡ introductions_in n m
opener_gives k o n q before e m h a =
    let s = passing_is k o m e h in
    introduces_some k o n before e m h ∙ ap (λ b. if b then 0 else introductions_in n m) (ap (λ x. is_late before x) s.2 ∙ asker_on_time k o q before s.0 s.1 m a)

count_if : (i : TableKey) (b c : Bool) (p : Point) (o : Option Point) → b ≡ c → count_by (same_id i) (introductions_at (if b then Some p else o)) ≡ count_by (same_id i) (introductions_at (if c then Some p else o))
count_if i b c p o e = ap (λ x. count_by (same_id i) (introductions_at (if x then Some p else o))) e

pub return_gives : (k : ℕ) (o : Bool) (n q w : ℕ) (closers : List Telling) (p : Past) → opening_number (id k o q) p ≡ Some w → is_closed closers (Some (by_return w)) ≡ false →
    dies n closers (Some (by_return w)) (tellings k o p) ≡ count_by (same_id (id k o n)) (introductions_at (opening (id k o q) p))
return_gives k o n q w closers [] h unclosed = absurd (let no : ⊥ = cc in no)
return_gives k o n q w closers (e ∷ before) h unclosed =
    let question : TableKey = id k o q in
    elim (cases_Bool (names question (question_opened e))) [
      | inl here ↦
          let at : length (stream k o before) ≡ w = same_some (sym (number_if question e before true here) ∙ h) in
          let m = asked_some (asks q) (passing k o e) (sym (opens_is question e) ∙ here) in
          let dead = opener_dies k o n w q closers before m.0 m.2 unclosed (length (tellings k o before)) (told_length k o before ∙ at) in
          let rest = none_yet_returned k o n w closers before (omega (arith, at)) in
          let gives = opener_gives k o n q before e m.0 m.1 m.2 in
          ap (λ x. dies n closers (Some (by_return w)) (cons_option (option_map (telling k o before) x) (tellings k o before))) m.1
          ∙ (let sum : dies n closers (Some (by_return w)) (telling k o before m.0 ∷ tellings k o before) ≡ introduces (id k o n) before e = omega (arith, dead, rest, gives) in sum)
          ∙ sym (count_if (id k o n) (names question (question_opened e)) true (point before e) (opening question before) here)
      | inr there ↦
          let early : opening_number question before ≡ Some w = sym (number_if question e before false there) ∙ h in
          let lt = opening_below question before w early in
          let same = told_length k o before in
          no_death n closers (Some (by_return w)) (telling k o before) (tellings k o before) (passing k o e)
          (λ m g. not_the_call k o before w (length (tellings k o before)) m (λ f. let no : ⊥ = omega (arith, lt, same, f) in no))
          ∙ return_gives k o n q w closers before early unclosed
          ∙ sym (count_if (id k o n) (names question (question_opened e)) false (point before e) (opening question before) there)
    ]

-- ---- the Finish of a Return

not_the_return : (k : ℕ) (o : Bool) (before : Past) (w len : ℕ) (m : RpcMessage) → ((r : ℕ) → answers r m ≡ true → is w (opening_number (id k (not o) r) before) ≡ false) →
    is_same_closer (Some (by_finish w)) (closer_of (telling k o before m) len) ≡ false
not_the_return k o before w len (Return head outcome) none = for_finish w _ ∙ none head.answer (eq-eqb head.answer head.answer refl)
not_the_return k o before w len (Call head target params) none = refl
not_the_return k o before w len (Bootstrap q) none = refl
not_the_return k o before w len _ none = refl

none_yet_finished : (k : ℕ) (o : Bool) (n w : ℕ) (closers : List Telling) (p : Past) → length (stream k (not o) p) ≤ w → dies n closers (Some (by_finish w)) (tellings k o p) ≡ 0
none_yet_finished k o n w closers [] le = refl
none_yet_finished k o n w closers (e ∷ before) le =
    let low : length (stream k (not o) before) ≤ w = let g = grows k (not o) e before in omega (arith, g, le) in
    no_death n closers (Some (by_finish w)) (telling k o before) (tellings k o before) (passing k o e)
    (λ m h. not_the_return k o before w (length (tellings k o before)) m (λ r a. not_yet (id k (not o) r) before w low))
    ∙ none_yet_finished k o n w closers before low

is_there : (n : ℕ) (o : Option ℕ) → o ≡ Some n → is n o ≡ true
is_there n o e = ap (λ x. is n x) e ∙ eq-eqb n n refl

-- a Return of this question dies by its Finish
return_dies : (k : ℕ) (o : Bool) (n q w : ℕ) (closers : List Telling) (before : Past) (m : RpcMessage) → answers q m ≡ true → opening_number (id k (not o) q) before ≡ Some w →
    is_closed closers (Some (by_finish w)) ≡ false → (len : ℕ) →
    (if is_same_closer (Some (by_finish w)) (closer_of (telling k o before m) len) && not (is_closed closers (closer_of (telling k o before m) len)) then introductions_in n m else 0) ≡ introductions_in n m
return_dies k o n q w closers before (Return head outcome) a h unclosed len =
    let same : opening_number (id k (not o) head.answer) before ≡ Some w = ap (λ x. opening_number (id k (not o) x) before) (sym (eqb-true q head.answer a)) ∙ h in
    dies_so (is_same_closer (Some (by_finish w)) (option_map by_finish (opening_number (id k (not o) head.answer) before))) (is_closed closers (option_map by_finish (opening_number (id k (not o) head.answer) before))) (introductions_in n (Return head outcome))
    (for_finish w _ ∙ is_there w _ same) (ap (λ x. is_closed closers (option_map by_finish x)) same ∙ unclosed)
return_dies k o n q w closers before (Bootstrap r) a h unclosed len = absurd (false≢true a)
return_dies k o n q w closers before _ a h unclosed len = absurd (false≢true a)

-- it isn't late where the results weren't given back
return_on_time : (k : ℕ) (o : Bool) (q : ℕ) (before : Past) (c : ℕ) (rs : List ℕ) (m : RpcMessage) → answers q m ≡ true → is_released (id k (not o) q) before ≡ false → is_late before (Wire o k c rs m) ≡ false
return_on_time k o q before c rs (Return head outcome) a none = ap (λ x. is_released (id k (not o) x) before) (sym (eqb-true q head.answer a)) ∙ none
return_on_time k o q before c rs (Bootstrap r) a none = absurd (false≢true a)
return_on_time k o q before c rs _ a none = absurd (false≢true a)

return_introduces : (k : ℕ) (o : Bool) (n q : ℕ) (before : Past) (e : DecodedRecord) (m : RpcMessage) → passing k o e ≡ Some m → answers q m ≡ true → is_released (id k (not o) q) before ≡ false →
    introduces (id k o n) before e ≡ introductions_in n m
return_introduces k o n q before e m h a none =
    let s = passing_is k o m e h in
    introduces_some k o n before e m h ∙ ap (λ b. if b then 0 else introductions_in n m) (ap (λ x. is_late before x) s.2 ∙ return_on_time k o q before s.0 s.1 m a none)

pub none_at : (i : TableKey) (p : Option Point) → is_some p ≡ false → count_by (same_id i) (introductions_at p) ≡ 0
none_at i None h = refl
none_at i (Some p) h = absurd (false≢true (sym h))

-- of this question, or of another
other_return : (k : ℕ) (o : Bool) (q w : ℕ) (before : Past) (m : RpcMessage) → opening_number (id k (not o) q) before ≡ Some w → answers q m ≡ false →
    (r : ℕ) → answers r m ≡ true → is w (opening_number (id k (not o) r) before) ≡ false
other_return k o q w before (Return head outcome) h none r a =
    ap (λ y. is w (opening_number (id k (not o) y) before)) (eqb-true r head.answer a) ∙ opening_of k (not o) q head.answer before w h ∙ none
other_return k o q w before (Bootstrap x) h none r a = absurd (false≢true a)
other_return k o q w before _ h none r a = absurd (false≢true a)

count_since : (i : TableKey) (s t : Bool) (p : Point) (o : Option Point) (t' : Bool) → s ≡ false → t ≡ t' →
    count_by (same_id i) (introductions_at (if s then None else if t then Some p else o)) ≡ count_by (same_id i) (introductions_at (if t' then Some p else o))
count_since i s t p o t' e f = ap₂ (λ x y. count_by (same_id i) (introductions_at (if x then None else if y then Some p else o))) e f

count_stopped : (i : TableKey) (s t : Bool) (p : Point) (o : Option Point) → s ≡ true → count_by (same_id i) (introductions_at (if s then None else if t then Some p else o)) ≡ 0
count_stopped i s t p o e = ap (λ x. count_by (same_id i) (introductions_at (if x then None else if t then Some p else o))) e

returns_here : (k : ℕ) (o : Bool) (q : ℕ) (e : DecodedRecord) → names (id k (not o) q) (question_returned e) ≡ passes (answers q) (passing k o e)
returns_here k o q e = returns_is (id k (not o) q) e ∙ ap (λ b. passes (answers q) (passing k b e)) (not_not o)

pub finish_gives : (k : ℕ) (o : Bool) (n q w : ℕ) (closers : List Telling) (p : Past) → Each EndsOnce p → opening_number (id k (not o) q) p ≡ Some w → is_closed closers (Some (by_finish w)) ≡ false →
    is_released (id k (not o) q) p ≡ false → dies n closers (Some (by_finish w)) (tellings k o p) ≡ count_by (same_id (id k o n)) (introductions_at (return_of (id k (not o) q) p))
finish_gives k o n q w closers [] uses h unclosed none = absurd (let no : ⊥ = cc in no)
finish_gives k o n q w closers (e ∷ before) uses h unclosed none =
    let question : TableKey = id k (not o) q in
    elim (cases_Bool (names question (question_opened e))) [
      | inl here ↦
          let at : length (stream k (not o) before) ≡ w = same_some (sym (number_if question e before true here) ∙ h) in
          let low : length (stream k (not o) before) ≤ w = omega (arith, at) in
          no_death n closers (Some (by_finish w)) (telling k o before) (tellings k o before) (passing k o e)
          (λ m g. not_the_return k o before w (length (tellings k o before)) m (λ r a. not_yet (id k (not o) r) before w low))
          ∙ none_yet_finished k o n w closers before low
          ∙ sym (count_stopped (id k o n) (names question (question_opened e)) (returns question before e) (point before e) (return_of question before) here)
      | inr there ↦
          let early : opening_number question before ≡ Some w = sym (number_if question e before false there) ∙ h in
          let parts = both_false (releases question before e) (is_released question before)
          (sym (some_on (releases question before e) (point before e) (last_since (opens question) (releases question) before) (names question (question_opened e)) there) ∙ none) in
          let rest = finish_gives k o n q w closers before uses.1 early unclosed parts.1 in
          elim (cases_Bool (names question (question_returned e))) [
            | inl back ↦
                let m = asked_some (answers q) (passing k o e) (sym (returns_here k o q e) ∙ back) in
                let due = return_due question before e uses.0 back in
                let first = none_at (id k o n) (return_of question before) (not-true (is_returned question before) (and_parts (is_opened question before) (not (is_returned question before)) due).1) in
                let dead = return_dies k o n q w closers before m.0 m.2 early unclosed (length (tellings k o before)) in
                let gives = return_introduces k o n q before e m.0 m.1 m.2 parts.1 in
                ap (λ x. dies n closers (Some (by_finish w)) (cons_option (option_map (telling k o before) x) (tellings k o before))) m.1
                ∙ (let sum : dies n closers (Some (by_finish w)) (telling k o before m.0 ∷ tellings k o before) ≡ introduces (id k o n) before e = omega (arith, dead, rest, first, gives) in sum)
                ∙ sym (count_since (id k o n) (names question (question_opened e)) (names question (question_returned e)) (point before e) (return_of question before) true there back)
            | inr other ↦
                no_death n closers (Some (by_finish w)) (telling k o before) (tellings k o before) (passing k o e)
                (λ m g. not_the_return k o before w (length (tellings k o before)) m
                (other_return k o q w before m early (sym (ap (λ x. passes (answers q) x) g) ∙ sym (returns_here k o q e) ∙ other)))
                ∙ rest
                ∙ sym (count_since (id k o n) (names question (question_opened e)) (names question (question_returned e)) (point before e) (return_of question before) false there other)
          ]
    ]
