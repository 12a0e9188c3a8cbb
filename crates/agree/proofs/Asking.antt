-- What is asked of a log's records is asked of the messages in its streams.
use Rattle.std.proofs.Common.{◌≡◌, refl, sym, ◌∙◌, ap, ap₂, ℕ, ◌+◌, ◌≤◌, ◌==◌, List, [], ◌∷◌, ◌++◌, length, Bool, true, false, not, ◌&&◌, ◌||◌, Option, Some, None, if◌then◌else◌, arith}
use Rattle.std.specs.Prelude.{is_some, option_map, IfSome}
use Rattle.std.specs.List.{cons_option}
use Rattle.std.specs.Bool.{beq}
use Rattle.std.proofs.lemmas.Bool.{false≢true, and_parts}
use Rattle.std.proofs.lemmas.Bool.Decides.{nat_tests}
use Rattle.agree.specs.Types.{Results, Exception, Canceled, Elsewhere, TakeFrom, RpcMessage, Bootstrap, Call, Return, Finish, DecodedRecord, Host, Wire, TableKey}
use Rattle.decoded_records.specs.Past.{Past, id, Point, point, names, last_since, Each}
use Rattle.decoded_records.specs.Questions.{question_opened, question_returned, question_returned_lightly, question_finished, question_released, question_taken, asks_elsewhere, opens, returns, returns_lightly, finishes, releases, takes_results, opening, is_tail, is_taken, is_finished, is_opened, is_released, is_free, is_unfinished, is_unreturned}
use Rattle.decoded_records.specs.Uses.{OpensFree, UsesQuestions}
use Rattle.vat_view.proofs.Once.{used_so}
use Rattle.agree.specs.Streams.{passing, stream, opening_number}

-- a message opens the question of this number of its sender's
abbrev pub asks : ℕ → RpcMessage → Bool
asks n (Bootstrap q) = n == q
asks n (Call head target params) = n == head.question
asks n _ = false

-- returns one of its receiver's
abbrev pub answers : ℕ → RpcMessage → Bool
answers n (Return head outcome) = n == head.answer
answers n _ = false

-- returns one of its receiver's, and says that no Finish is needed
abbrev pub answers_lightly : ℕ → RpcMessage → Bool
answers_lightly n (Return head outcome) = head.light && (n == head.answer)
answers_lightly n _ = false

-- gives back the results of one of its sender's
abbrev pub frees : ℕ → RpcMessage → Bool
frees n (Finish q true) = n == q
frees n _ = false

-- finishes one of its sender's
abbrev pub ends : ℕ → RpcMessage → Bool
ends n (Finish q release) = n == q
ends n _ = false

-- takes the results of one of its sender's
abbrev pub takes : ℕ → RpcMessage → Bool
takes n (Return head (TakeFrom m)) = n == m
takes n _ = false

-- asks for results to be sent elsewhere
abbrev pub asks_away : RpcMessage → Bool
asks_away (Call head target params) = head.yourself
asks_away _ = false

-- what a test says of a message, if there is one
abbrev pub passes : (RpcMessage → Bool) → Option RpcMessage → Bool
passes test (Some m) = test m
passes test None = false

-- how many pass a test
abbrev pub count : (RpcMessage → Bool) → List RpcMessage → ℕ
count test [] = 0
count test (m ∷ before) = (if test m then 1 else 0) + count test before

-- whether one came since the last of another kind
abbrev pub came_since : (RpcMessage → Bool) → (RpcMessage → Bool) → List RpcMessage → Bool
came_since start test [] = false
came_since start test (m ∷ before) = if start m then false else if test m then true else came_since start test before

-- whether the last that opens the question of this number asks for results to be sent elsewhere
abbrev pub asked_away : ℕ → List RpcMessage → Bool
asked_away n [] = false
asked_away n (m ∷ before) = if asks n m then asks_away m else asked_away n before

-- the number of the last message that passes a test
abbrev pub last_number : (RpcMessage → Bool) → List RpcMessage → Option ℕ
last_number test [] = None
last_number test (m ∷ before) = if test m then Some (length before) else last_number test before

-- one for a truth
abbrev pub one_if : Bool → ℕ
one_if b = if b then 1 else 0

-- ---- records and messages

as_asked : (g : Bool) (test : RpcMessage → Bool) (m : RpcMessage) → (g && test m) ≡ passes test (if g then Some m else None)
as_asked true test m = refl
as_asked false test m = refl

not_asked : (g : Bool) (test : RpcMessage → Bool) (m : RpcMessage) → test m ≡ false → false ≡ passes test (if g then Some m else None)
not_asked true test m e = sym e
not_asked false test m e = refl

pub opens_is : (q : TableKey) (e : DecodedRecord) → names q (question_opened e) ≡ passes (asks q.number) (passing q.connection q.ours e)
opens_is q (Wire t j c rs (Bootstrap n)) = as_asked ((q.connection == j) && beq q.ours t) (asks q.number) (Bootstrap n)
opens_is q (Wire t j c rs (Call head target b)) = as_asked ((q.connection == j) && beq q.ours t) (asks q.number) (Call head target b)
opens_is q (Wire t j c rs m) = not_asked ((q.connection == j) && beq q.ours t) (asks q.number) m refl
opens_is q (Host r o) = refl
opens_is q _ = refl

pub releases_is : (q : TableKey) (e : DecodedRecord) → names q (question_released e) ≡ passes (frees q.number) (passing q.connection q.ours e)
releases_is q (Wire t j c rs (Finish n true)) = as_asked ((q.connection == j) && beq q.ours t) (frees q.number) (Finish n true)
releases_is q (Wire t j c rs (Finish n false)) = not_asked ((q.connection == j) && beq q.ours t) (frees q.number) (Finish n false) refl
releases_is q (Wire t j c rs m) = not_asked ((q.connection == j) && beq q.ours t) (frees q.number) m refl
releases_is q (Host r o) = refl
releases_is q _ = refl

finishes_is : (q : TableKey) (e : DecodedRecord) → names q (question_finished e) ≡ passes (ends q.number) (passing q.connection q.ours e)
finishes_is q (Wire t j c rs (Finish n release)) = as_asked ((q.connection == j) && beq q.ours t) (ends q.number) (Finish n release)
finishes_is q (Wire t j c rs m) = not_asked ((q.connection == j) && beq q.ours t) (ends q.number) m refl
finishes_is q (Host r o) = refl
finishes_is q _ = refl

pub takes_is : (q : TableKey) (e : DecodedRecord) → names q (question_taken e) ≡ passes (takes q.number) (passing q.connection q.ours e)
takes_is q (Wire t j c rs (Return head (TakeFrom m))) = as_asked ((q.connection == j) && beq q.ours t) (takes q.number) (Return head (TakeFrom m))
takes_is q (Wire t j c rs (Return head (Results payload))) = not_asked ((q.connection == j) && beq q.ours t) (takes q.number) (Return head (Results payload)) refl
takes_is q (Wire t j c rs (Return head Exception)) = not_asked ((q.connection == j) && beq q.ours t) (takes q.number) (Return head Exception) refl
takes_is q (Wire t j c rs (Return head Canceled)) = not_asked ((q.connection == j) && beq q.ours t) (takes q.number) (Return head Canceled) refl
takes_is q (Wire t j c rs (Return head Elsewhere)) = not_asked ((q.connection == j) && beq q.ours t) (takes q.number) (Return head Elsewhere) refl
takes_is q (Wire t j c rs (Bootstrap n)) = not_asked ((q.connection == j) && beq q.ours t) (takes q.number) (Bootstrap n) refl
takes_is q (Wire t j c rs m) = not_asked ((q.connection == j) && beq q.ours t) (takes q.number) m refl
takes_is q (Host r o) = refl
takes_is q _ = refl

turn : (a o t b : Bool) → (a && beq o (not t) && b) ≡ (a && beq (not o) t && b)
turn a o t b = grind (arith, nat_tests)

pub returns_is : (q : TableKey) (e : DecodedRecord) → names q (question_returned e) ≡ passes (answers q.number) (passing q.connection (not q.ours) e)
returns_is q (Wire t j c rs (Return head outcome)) = turn (q.connection == j) q.ours t (q.number == head.answer) ∙ as_asked ((q.connection == j) && beq (not q.ours) t) (answers q.number) (Return head outcome)
returns_is q (Wire t j c rs (Bootstrap n)) = not_asked ((q.connection == j) && beq (not q.ours) t) (answers q.number) (Bootstrap n) refl
returns_is q (Wire t j c rs m) = not_asked ((q.connection == j) && beq (not q.ours) t) (answers q.number) m refl
returns_is q (Host r o) = refl
returns_is q _ = refl

light_turn : (q : TableKey) (j n : ℕ) (t light : Bool) → names q (if light then Some (id j (not t) n) else None) ≡ ((q.connection == j) && beq (not q.ours) t && (light && (q.number == n)))
light_turn q j n t true = turn (q.connection == j) q.ours t (q.number == n)
light_turn q j n t false = none ((q.connection == j) && beq (not q.ours) t)
  where
    none : (b : Bool) → false ≡ (b && false)
    none true = refl
    none false = refl

pub lightly_is : (q : TableKey) (e : DecodedRecord) → names q (question_returned_lightly e) ≡ passes (answers_lightly q.number) (passing q.connection (not q.ours) e)
lightly_is q (Wire t j c rs (Return head outcome)) =
    light_turn q j head.answer t head.light ∙ as_asked ((q.connection == j) && beq (not q.ours) t) (answers_lightly q.number) (Return head outcome)
lightly_is q (Wire t j c rs (Bootstrap n)) = not_asked ((q.connection == j) && beq (not q.ours) t) (answers_lightly q.number) (Bootstrap n) refl
lightly_is q (Wire t j c rs m) = not_asked ((q.connection == j) && beq (not q.ours) t) (answers_lightly q.number) m refl
lightly_is q (Host r o) = refl
lightly_is q _ = refl

-- ---- a stream, one record on

pub count_more : (t : RpcMessage → Bool) (o : Option RpcMessage) (str : List RpcMessage) → count t (cons_option o str) ≡ one_if (passes t o) + count t str
count_more t None str = omega arith
count_more t (Some m) str = refl

pub count-append : (test : RpcMessage → Bool) (xs ys : List RpcMessage) → count test (xs ++ ys) ≡ count test xs + count test ys
count-append test [] ys = omega arith
count-append test (x ∷ xs) ys = omega (arith, count-append test xs ys)

since_at : (start test : RpcMessage → Bool) (o : Option RpcMessage) (str : List RpcMessage) →
    came_since start test (cons_option o str) ≡ (if passes start o then false else if passes test o then true else came_since start test str)
since_at start test None str = refl
since_at start test (Some m) str = refl

some_if : (s t : Bool) (p : Point) (o : Option Point) → is_some (if s then None else if t then Some p else o) ≡ (if s then false else if t then true else is_some o)
some_if true t p o = refl
some_if false true p o = refl
some_if false false p o = refl

-- what came since the last opening of a question, and went the same way, came since in the stream
pub since_stream : (q : TableKey) (t : Past → DecodedRecord → Bool) (test : RpcMessage → Bool) → ((before : Past) (e : DecodedRecord) → t before e ≡ passes test (passing q.connection q.ours e)) → (past : Past) →
    is_some (last_since (opens q) t past) ≡ came_since (asks q.number) test (stream q.connection q.ours past)
since_stream q t test same [] = refl
since_stream q t test same (e ∷ before) =
    let o = passing q.connection q.ours e in
    some_if (opens q before e) (t before e) (point before e) (last_since (opens q) t before)
    ∙ ap₂ (λ x y. if x then false else if y then true else is_some (last_since (opens q) t before)) (opens_is q e) (same before e)
    ∙ ap (λ z. if passes (asks q.number) o then false else if passes test o then true else z) (since_stream q t test same before)
    ∙ sym (since_at (asks q.number) test o (stream q.connection q.ours before))

-- so were a question's results given back, and so was it finished
pub released_stream : (q : TableKey) (past : Past) → is_released q past ≡ came_since (asks q.number) (frees q.number) (stream q.connection q.ours past)
released_stream q past = since_stream q (releases q) (frees q.number) (λ before e. releases_is q e) past

pub finished_stream : (q : TableKey) (past : Past) → is_finished q past ≡ came_since (asks q.number) (ends q.number) (stream q.connection q.ours past)
finished_stream q past = since_stream q (finishes q) (ends q.number) (λ before e. finishes_is q e) past

pub taken_stream : (q : TableKey) (past : Past) → is_taken q past ≡ came_since (asks q.number) (takes q.number) (stream q.connection q.ours past)
taken_stream q past = since_stream q (takes_results q) (takes q.number) (λ before e. takes_is q e) past

-- ---- what an opening asks

away_is : (t : Bool) (j c : ℕ) (rs : List ℕ) (m : RpcMessage) → asks_elsewhere (Wire t j c rs m) ≡ asks_away m
away_is t j c rs (Call head target b) = refl
away_is t j c rs (Bootstrap n) = refl
away_is t j c rs _ = refl

away_at : (n : ℕ) (o : Option RpcMessage) (str : List RpcMessage) → asked_away n (cons_option o str) ≡ (if passes (asks n) o then passes asks_away o else asked_away n str)
away_at n None str = refl
away_at n (Some m) str = refl

away_if : (s : Bool) (p : Point) (o : Option Point) → is_tail (if s then Some p else o) ≡ (if s then asks_elsewhere p.event else is_tail o)
away_if true p o = refl
away_if false p o = refl

-- a record that opens a question asks what its message asks
away_same : (n k : ℕ) (s rest : Bool) (e : DecodedRecord) → (if passes (asks n) (passing k s e) then asks_elsewhere e else rest) ≡ (if passes (asks n) (passing k s e) then passes asks_away (passing k s e) else rest)
away_same n k s rest (Wire t j c rs m) = where_it_is ((k == j) && beq s t)
  where
    where_it_is : (g : Bool) → (if passes (asks n) (if g then Some m else None) then asks_elsewhere (Wire t j c rs m) else rest)
        ≡ (if passes (asks n) (if g then Some m else None) then passes asks_away (if g then Some m else None) else rest)
    where_it_is true = ap (λ b. if asks n m then b else rest) (away_is t j c rs m)
    where_it_is false = refl
away_same n k s rest (Host r o) = refl
away_same n k s rest _ = refl

-- whether the last opening of a question asks for results to be sent elsewhere is said in the stream
pub tail_stream : (q : TableKey) (past : Past) → is_tail (opening q past) ≡ asked_away q.number (stream q.connection q.ours past)
tail_stream q [] = refl
tail_stream q (e ∷ before) =
    let o = passing q.connection q.ours e in
    away_if (opens q before e) (point before e) (opening q before)
    ∙ ap (λ x. if x then asks_elsewhere e else is_tail (opening q before)) (opens_is q e)
    ∙ away_same q.number q.connection q.ours (is_tail (opening q before)) e
    ∙ ap (λ z. if passes (asks q.number) o then passes asks_away o else z) (tail_stream q before)
    ∙ sym (away_at q.number o (stream q.connection q.ours before))

-- ---- the number of an opening

number_at : (test : RpcMessage → Bool) (o : Option RpcMessage) (str : List RpcMessage) →
    last_number test (cons_option o str) ≡ (if passes test o then Some (length str) else last_number test str)
number_at test None str = refl
number_at test (Some m) str = refl

map_if : (f : Point → ℕ) (b : Bool) (p : Point) (o : Option Point) → option_map f (if b then Some p else o) ≡ (if b then Some (f p) else option_map f o)
map_if f true p o = refl
map_if f false p o = refl

-- one record on
pub number_more : (q : TableKey) (e : DecodedRecord) (past : Past) → opening_number q (e ∷ past) ≡ (if names q (question_opened e) then Some (length (stream q.connection q.ours past)) else opening_number q past)
number_more q e past = map_if (λ p. length (stream q.connection q.ours p.before)) (names q (question_opened e)) (point past e) (opening q past)

-- it stands in the stream alone
pub number_stream : (q : TableKey) (past : Past) → opening_number q past ≡ last_number (asks q.number) (stream q.connection q.ours past)
number_stream q [] = refl
number_stream q (e ∷ past) =
    number_more q e past
    ∙ ap₂ (λ b o. if b then Some (length (stream q.connection q.ours past)) else o) (opens_is q e) (number_stream q past)
    ∙ sym (number_at (asks q.number) (passing q.connection q.ours e) (stream q.connection q.ours past))

-- a question that is opened and not finished is so by the stream alone
abbrev pub unfinished_in : ℕ → List RpcMessage → Bool
unfinished_in n str = is_some (last_number (asks n) str) && not (came_since (asks n) (ends n) str)

some_mapped : (f : Point → ℕ) (o : Option Point) → is_some o ≡ is_some (option_map f o)
some_mapped f (Some p) = refl
some_mapped f None = refl

pub opened_stream : (q : TableKey) (past : Past) → is_opened q past ≡ is_some (last_number (asks q.number) (stream q.connection q.ours past))
opened_stream q past = some_mapped (λ p. length (stream q.connection q.ours p.before)) (opening q past) ∙ ap (λ o. is_some o) (number_stream q past)

pub unfinished_stream : (q : TableKey) (past : Past) → is_unfinished q past ≡ unfinished_in q.number (stream q.connection q.ours past)
unfinished_stream q past = ap₂ (λ a b. a && not b) (opened_stream q past) (finished_stream q past)

-- ---- where none of a kind came later

none_so : (a : Bool) (n : ℕ) → one_if a + n ≡ 0 → (a ≡ false) × (n ≡ 0)
none_so a n e = grind (arith, nat_tests)

-- the last one is the same
pub last_number_same : (u : RpcMessage → Bool) (later str : List RpcMessage) → count u later ≡ 0 → last_number u (later ++ str) ≡ last_number u str
last_number_same u [] str e = refl
last_number_same u (m ∷ later) str e =
    let parts = none_so (u m) (count u later) e in
    ap (λ c. if c then Some (length (later ++ str)) else last_number u (later ++ str)) parts.0 ∙ last_number_same u later str parts.1

came_still : (u t c : Bool) → u ≡ false → c ≡ true → (if u then false else if t then true else c) ≡ true
came_still u t c e f = grind (arith, nat_tests)

-- and what came since, still came since
pub since_more : (u t : RpcMessage → Bool) (later str : List RpcMessage) → count u later ≡ 0 → came_since u t str ≡ true → came_since u t (later ++ str) ≡ true
since_more u t [] str e h = h
since_more u t (m ∷ later) str e h =
    let parts = none_so (u m) (count u later) e in came_still (u m) (t m) (came_since u t (later ++ str)) parts.0 (since_more u t later str parts.1 h)

-- ---- what a question waits for

-- a question was opened, and no such record, as its Return or its Finish, has come since
abbrev pub is_due : TableKey → (Past → DecodedRecord → Bool) → Past → Bool
is_due q t past = is_opened q past && not (is_some (last_since (opens q) t past))

waits_by : (o r : Bool) (p x : Point) (a b : Option Point) →
    (is_some (if o then Some p else a) && not (is_some (if o then None else if r then Some x else b))) ≡ (if o then true else if r then false else (is_some a && not (is_some b)))
waits_by true r p x a b = refl
waits_by false true p x None b = refl
waits_by false true p x (Some y) b = refl
waits_by false false p x a b = refl

-- an opening makes it due, and it comes
pub waits : (q : TableKey) (t : Past → DecodedRecord → Bool) (e : DecodedRecord) (before : Past) → is_due q t (e ∷ before) ≡ (if opens q before e then true else (if t before e then false else is_due q t before))
waits q t e before = waits_by (opens q before e) (t before e) (point before e) (point before e) (opening q before) (last_since (opens q) t before)

-- what opens a question neither returns nor finishes it
pub opens_no_return : (q : TableKey) (e : DecodedRecord) → names q (question_opened e) ≡ true → names q (question_returned e) ≡ false
opens_no_return q (Wire s j c rs (Return head outcome)) h = absurd (false≢true h)
opens_no_return q (Wire s j c rs _) h = refl
opens_no_return q (Host r o) h = refl
opens_no_return q _ h = refl

-- an opening has at most one Return and at most one Finish, and these have one
abbrev pub EndsOnce : Past → DecodedRecord → Type 0
EndsOnce before e = IfSome (question_returned e) (λ q. is_unreturned q before ≡ true) × IfSome (question_finished e) (λ q. is_unfinished q before ≡ true)

pub ends_once : (before : Past) (e : DecodedRecord) → UsesQuestions before e → EndsOnce before e
ends_once before (Wire s k c rs (Return head outcome)) uses = (uses.returned_once, tt)
ends_once before (Wire s k c rs (Finish n release)) uses = (tt, (and_parts (is_unfinished (id k s n) before) true uses.used).0)
ends_once before (Wire s k c rs (Bootstrap n)) uses = (tt, tt)
ends_once before (Wire s k c rs _) uses = (tt, tt)
ends_once before (Host r o) uses = (tt, tt)
ends_once before _ uses = (tt, tt)

pub return_due : (q : TableKey) (before : Past) (e : DecodedRecord) → EndsOnce before e → returns q before e ≡ true → is_due q (returns q) before ≡ true
return_due q before e once h = used_so q (λ i. is_unreturned i before) (question_returned e) once.0 h

-- a Return comes while it is due
pub returns_waiting : (q : TableKey) (before : Past) (e : DecodedRecord) → UsesQuestions before e → returns q before e ≡ true → is_due q (returns q) before ≡ true
returns_waiting q before e uses h = used_so q (λ i. is_unreturned i before) (question_returned e) uses.returned_once h

-- what came since of one kind came of each wider kind
so_at : (o a b : Bool) (p : Point) (x y : Option Point) → (a ≡ true → b ≡ true) → (is_some x ≡ true → is_some y ≡ true) →
    is_some (if o then None else if a then Some p else x) ≡ true → is_some (if o then None else if b then Some p else y) ≡ true
so_at true a b p x y f g h = h
so_at false true true p x y f g h = refl
so_at false true false p x y f g h = absurd (false≢true (f refl))
so_at false false true p x y f g h = refl
so_at false false false p x y f g h = g h

since_so : (start s t : Past → DecodedRecord → Bool) → ((before : Past) (e : DecodedRecord) → s before e ≡ true → t before e ≡ true) → (past : Past) →
    is_some (last_since start s past) ≡ true → is_some (last_since start t past) ≡ true
since_so start s t wider [] h = h
since_so start s t wider (e ∷ before) h =
    so_at (start before e) (s before e) (t before e) (point before e) (last_since start s before) (last_since start t before) (wider before e) (since_so start s t wider before) h

named_lightly : (q i : TableKey) (light : Bool) → names q (if light then Some i else None) ≡ true → names q (Some i) ≡ true
named_lightly q i true h = h
named_lightly q i false h = absurd (false≢true h)

-- a Return that says that no Finish is needed is a Return
light_returns : (q : TableKey) (e : DecodedRecord) → names q (question_returned_lightly e) ≡ true → names q (question_returned e) ≡ true
light_returns q (Wire s j c rs (Return head outcome)) h = named_lightly q (id j (not s) head.answer) head.light h
light_returns q (Wire s j c rs (Bootstrap n)) h = absurd (false≢true h)
light_returns q (Wire s j c rs _) h = absurd (false≢true h)
light_returns q (Host r o) h = absurd (false≢true h)
light_returns q _ h = absurd (false≢true h)

pub over_parts : (o r f : Bool) → (not o || (r && f)) ≡ true → (o && not r) ≡ false
over_parts o r f e = grind (arith, nat_tests)

free_parts : (o r f l : Bool) → ((not o || (r && f)) || l) ≡ true → (l ≡ true → r ≡ true) → (o && not r) ≡ false
free_parts o r f l e g = grind (arith, nat_tests)

idle_so : (q : TableKey) (before : Past) (o : Option TableKey) → IfSome o (λ i. is_free i before ≡ true) → names q o ≡ true → is_due q (returns q) before ≡ false
idle_so q before o free h =
    free_parts _ _ _ _ (used_so q (λ i. is_free i before) o free h) (since_so (opens q) (returns_lightly q) (returns q) (λ b e. light_returns q e) before)

-- an opening comes while no Return is due
pub opens_idle : (q : TableKey) (before : Past) (e : DecodedRecord) → OpensFree before e → opens q before e ≡ true → is_due q (returns q) before ≡ false
opens_idle q before e free h = idle_so q before (question_opened e) free h

fewer_step : (o r f : Bool) (n m : ℕ) → (r ≡ true → f ≡ true) → (o ≡ true → r ≡ false) → n + one_if f ≤ m →
    (one_if r + n) + one_if (if o then true else (if r then false else f)) ≤ one_if o + m
fewer_step o r f n m h g le = grind (arith, nat_tests)

more_step : (o r f : Bool) (n m : ℕ) → (o ≡ true → f ≡ false) → (o ≡ true → r ≡ false) → m ≤ n + one_if f →
    one_if o + m ≤ (one_if r + n) + one_if (if o then true else (if r then false else f))
more_step o r f n m h g le = grind (arith, nat_tests)

module _ (q : TableKey) where
  abbrev pub asked : Past → ℕ
  asked past = count (asks q.number) (stream q.connection q.ours past)

  abbrev pub answered : Past → ℕ
  answered past = count (answers q.number) (stream q.connection (not q.ours) past)

  asked_more : (e : DecodedRecord) (before : Past) → asked (e ∷ before) ≡ one_if (opens q before e) + asked before
  asked_more e before = count_more (asks q.number) (passing q.connection q.ours e) (stream q.connection q.ours before) ∙ ap (λ b. one_if b + asked before) (sym (opens_is q e))

  answered_more : (e : DecodedRecord) (before : Past) → answered (e ∷ before) ≡ one_if (returns q before e) + answered before
  answered_more e before = count_more (answers q.number) (passing q.connection (not q.ours) e) (stream q.connection (not q.ours) before) ∙ ap (λ b. one_if b + answered before) (sym (returns_is q e))

  -- Returns come while they are due; openings while none is
  abbrev pub ReturnsDue : Past → DecodedRecord → Type 0
  ReturnsDue before e = names q (question_returned e) ≡ true → is_due q (returns q) before ≡ true

  abbrev pub OpensIdle : Past → DecodedRecord → Type 0
  OpensIdle before e = names q (question_opened e) ≡ true → is_due q (returns q) before ≡ false

  -- each Return has an opening
  pub fewer_returns : (past : Past) → Each ReturnsDue past → answered past + one_if (is_due q (returns q) past) ≤ asked past
  fewer_returns [] good = omega arith
  fewer_returns (e ∷ before) good =
      let step = fewer_step (opens q before e) (returns q before e) (is_due q (returns q) before) (answered before) (asked before) good.0 (opens_no_return q e) (fewer_returns before good.1) in
      let now = ap (λ b. one_if b) (waits q (returns q) e before) in
      omega (arith, step, now, asked_more e before, answered_more e before)

  -- each opening but the last has a Return
  pub more_returns : (past : Past) → Each OpensIdle past → asked past ≤ answered past + one_if (is_due q (returns q) past)
  more_returns [] good = omega arith
  more_returns (e ∷ before) good =
      let step = more_step (opens q before e) (returns q before e) (is_due q (returns q) before) (answered before) (asked before) good.0 (opens_no_return q e) (more_returns before good.1) in
      let now = ap (λ b. one_if b) (waits q (returns q) e before) in
      omega (arith, step, now, asked_more e before, answered_more e before)
