-- What is held is what is alive, less what was released.
use Rattle.std.proofs.Common.{◌≡◌, inl, inr, refl, sym, ◌∙◌, ap, ap₂, subst, ℕ, ◌+◌, ◌-◌, ◌==◌, List, [], ◌∷◌, Bool, true, false, not, ◌&&◌, Option, Some, None, if◌then◌else◌, arith, option_map, count_by}
use Rattle.std.specs.Prelude.{is_some}
use Rattle.std.specs.List.{cons_option}
use Rattle.std.specs.Bool.{beq}
use Rattle.std.proofs.lemmas.Bool.{false≢true, eq-eqb, cases_Bool, and_parts, not-true}
use Rattle.std.proofs.lemmas.Bool.Decides.{nat_tests}
use Rattle.agree.specs.Types.{RpcMessage, Bootstrap, Return, Finish, Release, DecodedRecord, Host, Wire, TableKey}
use Rattle.decoded_records.specs.Past.{Past, Point, point, id, names, same_id, last_since, Each}
use Rattle.decoded_records.specs.Questions.{question_opened, question_returned, question_finished, question_released, opens, finishes, releases, opening, return_of, is_finished, is_released, is_late, is_unreturned, is_unfinished}
use Rattle.decoded_records.specs.Lives.{introductions_at, introduces, gives_back, introduced_count, released_count, held, GivesBackHeld}
use Rattle.decoded_records.specs.Uses.{UsesQuestions}
use Rattle.vat_view.proofs.Counting.{no_more_went}
use Rattle.vat_view.proofs.Describing.{given_none}
use Rattle.agree.specs.Streams.{passing, opening_number}
use Rattle.agree.specs.Told.{Telling, telling, tellings}
use Rattle.agree.specs.Alive.{Closer, by_return, by_finish, as_closer, introductions_in, alive_in, releases_in, releases_in_all, alive, let_go}
use Rattle.agree.proofs.Asking.{EndsOnce, ends_once, asks, answers, opens_is, returns_is}
use Rattle.agree.proofs.Once.{number_there}
use Rattle.agree.proofs.Openings.{passing_is}
use Rattle.agree.proofs.Points.{each_so}
use Rattle.agree.proofs.Cuts.{other_way}
use Rattle.agree.proofs.Telling.{none_or_some, told_of}
use Rattle.agree.proofs.Closing.{not_not, closed_finish, not_closed_return, fresh, introduces_is, introduces_some, introduces_none}
use Rattle.agree.proofs.Dying.{dies, split, dies_none, asked_some, return_gives, finish_gives}

-- ---- what a record gives back, by what passed

return_died : (k : ℕ) (o : Bool) (n q : ℕ) (past : Past) → is_unreturned (id k o q) past ≡ true →
    dies n (tellings k (not o) past) (option_map by_return (opening_number (id k o q) past)) (tellings k o past) ≡ count_by (same_id (id k o n)) (introductions_at (opening (id k o q) past))
return_died k o n q past due =
    let parts = and_parts _ _ due in
    let w = number_there (id k o q) past parts.0 in
    ap (λ x. dies n (tellings k (not o) past) (option_map by_return x) (tellings k o past)) w.1
    ∙ return_gives k o n q w.0 (tellings k (not o) past) past w.1 (not_closed_return k o q w.0 past w.1 (not-true _ parts.1))

-- a Finish that gives results back is a Finish
release_finishes : (q : TableKey) (e : DecodedRecord) → names q (question_finished e) ≡ false → names q (question_released e) ≡ false
release_finishes q (Wire s k c rs (Finish n true)) h = h
release_finishes q (Wire s k c rs (Finish n false)) h = refl
release_finishes q (Wire s k c rs m) h = refl
release_finishes q (Host r x) h = refl
release_finishes q _ h = refl

fewer_since : (s t u : Bool) (p : Point) (a b : Option Point) → (t ≡ false → u ≡ false) → (is_some a ≡ false → is_some b ≡ false) → is_some (if s then None else if t then Some p else a) ≡ false →
    is_some (if s then None else if u then Some p else b) ≡ false
fewer_since true t u p a b f g h = refl
fewer_since false true u p a b f g h = absurd (false≢true (sym h))
fewer_since false false u p a b f g h = ap (λ x. is_some (if x then Some p else b)) (f refl) ∙ g h

unfinished_unreleased : (q : TableKey) (past : Past) → is_finished q past ≡ false → is_released q past ≡ false
unfinished_unreleased q [] h = refl
unfinished_unreleased q (e ∷ before) h =
    fewer_since (opens q before e) (finishes q before e) (releases q before e) (point before e) (last_since (opens q) (finishes q) before) (last_since (opens q) (releases q) before)
    (release_finishes q e) (unfinished_unreleased q before) h

finish_died : (k : ℕ) (o : Bool) (n q : ℕ) (past : Past) → Each EndsOnce past → is_unfinished (id k (not o) q) past ≡ true →
    dies n (tellings k (not o) past) (option_map by_finish (opening_number (id k (not o) q) past)) (tellings k o past) ≡ count_by (same_id (id k o n)) (introductions_at (return_of (id k (not o) q) past))
finish_died k o n q past uses due =
    let parts = and_parts _ _ due in
    let w = number_there (id k (not o) q) past parts.0 in
    let none = unfinished_unreleased (id k (not o) q) past (not-true _ parts.1) in
    ap (λ x. dies n (tellings k (not o) past) (option_map by_finish x) (tellings k o past)) w.1
    ∙ finish_gives k o n q w.0 (tellings k (not o) past) past uses w.1 (closed_finish k (not o) q w.0 past w.1 ∙ none) none

only : (a b : ℕ) → a ≡ b → a ≡ 0 + b
only a b e = omega (arith, e)

self : (k n r : ℕ) (o : Bool) → same_id (id k o n) (id k (not (not o)) r) ≡ (n == r)
self k n r true = ap (λ b. b && true && (n == r)) (eq-eqb k k refl)
self k n r false = ap (λ b. b && true && (n == r)) (eq-eqb k k refl)

-- what a Return gives back dies, where it gives back
gives_if : (i : TableKey) (n : ℕ) (closers ts : List Telling) (b : Bool) (o : Option Point) (c : Option Closer) → dies n closers c ts ≡ count_by (same_id i) (introductions_at o) →
    count_by (same_id i) (introductions_at (if b then o else None)) ≡ dies n closers (if b then c else None) ts
gives_if i n closers ts true o c same = sym same
gives_if i n closers ts false o c same = sym (dies_none n closers ts)

gives_of : (k : ℕ) (o : Bool) (n : ℕ) (past : Past) (c : ℕ) (rs : List ℕ) (m : RpcMessage) → Each EndsOnce past → EndsOnce past (Wire (not o) k c rs m) →
    gives_back (id k o n) past (Wire (not o) k c rs m) ≡ releases_in n m + dies n (tellings k (not o) past) (as_closer (telling k (not o) past m)) (tellings k o past)
gives_of k o n past c rs (Release r count) each uses =
    let none = dies_none n (tellings k (not o) past) (tellings k o past) in
    let same : gives_back (id k o n) past (Wire (not o) k c rs (Release r count)) ≡ releases_in n (Release r count) = ap (λ b. if b then count else 0) (self k n r o) in
    omega (arith, none, same)
gives_of k o n past c rs (Return head outcome) each uses =
    let q = head.answer in
    let its : TableKey = id k (not (not o)) q in
    let died = subst (λ b. is_unreturned (id k b q) past ≡ true → dies n (tellings k (not o) past) (option_map by_return (opening_number (id k b q) past)) (tellings k o past)
    ≡ count_by (same_id (id k o n)) (introductions_at (opening (id k b q) past))) (sym (not_not o)) (return_died k o n q past) uses.0 in
    only _ _ (gives_if (id k o n) n (tellings k (not o) past) (tellings k o past) head.release_param_caps (opening its past) (option_map by_return (opening_number its past)) died)
gives_of k o n past c rs (Finish q true) each uses = only _ _ (sym (finish_died k o n q past each uses.1))
gives_of k o n past c rs (Finish q false) each uses = only _ _ (sym (dies_none n (tellings k (not o) past) (tellings k o past)))
gives_of k o n past c rs (Bootstrap q) each uses = only _ _ (sym (dies_none n (tellings k (not o) past) (tellings k o past)))
gives_of k o n past c rs m each uses = only _ _ (sym (dies_none n (tellings k (not o) past) (tellings k o past)))

gives_some : (k : ℕ) (o : Bool) (n : ℕ) (past : Past) (e : DecodedRecord) (m : RpcMessage) → passing k (not o) e ≡ Some m → Each EndsOnce past → EndsOnce past e →
    gives_back (id k o n) past e ≡ releases_in n m + dies n (tellings k (not o) past) (as_closer (telling k (not o) past m)) (tellings k o past)
gives_some k o n past e m h each uses =
    let s = passing_is k (not o) m e h in
    ap (λ x. gives_back (id k o n) past x) s.2 ∙ gives_of k o n past s.0 s.1 m each (subst (λ x. EndsOnce past x) s.2 uses)

-- ---- a record that didn't go that way gives nothing back

elsewhere : (k : ℕ) (o : Bool) (n j : ℕ) (s : Bool) (before : Past) (e : DecodedRecord) (m : RpcMessage) → ((k == j) && beq o s) ≡ false → passing j s e ≡ Some m → introduces (id k o n) before e ≡ 0
elsewhere k o n j s before e m h g =
    let p = passing_is j s m e g in
    ap (λ x. introduces (id k o n) before x) p.2 ∙ introduces_is k o n before s j p.0 p.1 m
    ∙ ap (λ b. if b then (if is_late before (Wire s j p.0 p.1 m) then 0 else introductions_in n m) else 0) h

other_opening : (k : ℕ) (o : Bool) (n j : ℕ) (s : Bool) (q : ℕ) (past : Past) → ((k == j) && beq o s) ≡ false → count_by (same_id (id k o n)) (introductions_at (opening (id j s q) past)) ≡ 0
other_opening k o n j s q [] h = refl
other_opening k o n j s q (e ∷ before) h = elim (cases_Bool (names (id j s q) (question_opened e))) [
  | inl here ↦
      let m = asked_some (asks q) (passing j s e) (sym (opens_is (id j s q) e) ∙ here) in
      ap (λ x. count_by (same_id (id k o n)) (introductions_at (if x then Some (point before e) else opening (id j s q) before))) here ∙ elsewhere k o n j s before e m.0 h m.1
  | inr there ↦ ap (λ x. count_by (same_id (id k o n)) (introductions_at (if x then Some (point before e) else opening (id j s q) before))) there ∙ other_opening k o n j s q before h
]

other_return : (k : ℕ) (o : Bool) (n j : ℕ) (s : Bool) (q : ℕ) (past : Past) → ((k == j) && beq o (not s)) ≡ false → count_by (same_id (id k o n)) (introductions_at (return_of (id j s q) past)) ≡ 0
other_return k o n j s q [] h = refl
other_return k o n j s q (e ∷ before) h = at (names (id j s q) (question_opened e)) (names (id j s q) (question_returned e)) refl (other_return k o n j s q before h)
  where
    at : (b c : Bool) → names (id j s q) (question_returned e) ≡ c → count_by (same_id (id k o n)) (introductions_at (return_of (id j s q) before)) ≡ 0 →
        count_by (same_id (id k o n)) (introductions_at (if b then None else if c then Some (point before e) else return_of (id j s q) before)) ≡ 0
    at true c g rest = refl
    at false true g rest = let m = asked_some (answers q) (passing j (not s) e) (sym (returns_is (id j s q) e) ∙ g) in elsewhere k o n j (not s) before e m.0 h m.1
    at false false g rest = rest

ways : (a o t : Bool) → (a && beq (not o) t) ≡ false → (a && beq o (not t)) ≡ false
ways a o t e = grind (arith, nat_tests)

not_that : (g b : Bool) (count : ℕ) → g ≡ false → (if g && b then count else 0) ≡ 0
not_that g b count e = ap (λ x. if x && b then count else 0) e

gives_no : (k : ℕ) (o : Bool) (n : ℕ) (past : Past) (t : Bool) (j c : ℕ) (rs : List ℕ) (m : RpcMessage) → ((k == j) && beq (not o) t) ≡ false → gives_back (id k o n) past (Wire t j c rs m) ≡ 0
gives_no k o n past t j c rs (Release r count) h = not_that ((k == j) && beq o (not t)) (n == r) count (ways (k == j) o t h)
gives_no k o n past t j c rs (Return head outcome) h =
    given_none (id k o n) (opening (id j (not t) head.answer) past) head.release_param_caps (other_opening k o n j (not t) head.answer past (ways (k == j) o t h))
gives_no k o n past t j c rs (Finish q true) h = other_return k o n j t q past (ways (k == j) o t h)
gives_no k o n past t j c rs (Finish q false) h = refl
gives_no k o n past t j c rs (Bootstrap q) h = refl
gives_no k o n past t j c rs m h = refl

not_passing : (g : Bool) (m : RpcMessage) → (if g then Some m else None) ≡ None → g ≡ false
not_passing true m h = absurd (let no : ⊥ = cc in no)
not_passing false m h = refl

pub gives_none : (k : ℕ) (o : Bool) (n : ℕ) (past : Past) (e : DecodedRecord) → passing k (not o) e ≡ None → gives_back (id k o n) past e ≡ 0
gives_none k o n past (Wire t j c rs m) h = gives_no k o n past t j c rs m (not_passing ((k == j) && beq (not o) t) m h)
gives_none k o n past (Host r x) h = refl
gives_none k o n past _ h = refl

-- ---- a log

alive_with : (k : ℕ) (o : Bool) (n : ℕ) (past : Past) (e : DecodedRecord) (a b : Option RpcMessage) → passing k o e ≡ a → passing k (not o) e ≡ b →
    (alive (id k o n) (e ∷ past) ≡ alive_in n (cons_option (option_map (telling k (not o) past) b) (tellings k (not o) past)) (cons_option (option_map (telling k o past) a) (tellings k o past)))
    × (let_go (id k o n) (e ∷ past) ≡ releases_in_all n (cons_option (option_map (telling k (not o) past) b) (tellings k (not o) past)))
alive_with k o n past e a b h g = (
  ap₂ (λ x y. alive_in n x y) (told_of k (not o) past e b g) (told_of k o past e a h),
  ap (λ x. releases_in_all n x) (told_of k (not o) past e b g),
)

-- what came and was released, is alive or went
pub all_alive_once : (k : ℕ) (o : Bool) (n : ℕ) (past : Past) → Each EndsOnce past → introduced_count (id k o n) past + let_go (id k o n) past ≡ alive (id k o n) past + released_count (id k o n) past
all_alive_once k o n [] uses = refl
all_alive_once k o n (e ∷ past) uses =
    let rest = all_alive_once k o n past uses.1 in
    elim (none_or_some (passing k o e)) [
      | inr m ↦
          let back = other_way k o m.0 e m.1 in
          let with = alive_with k o n past e (Some m.0) None m.1 back in
          let brought = introduces_some k o n past e m.0 m.1 in
          let here = ap (λ (b : Bool). if b then 0 else introductions_in n m.0) (fresh k o past e m.0 m.1 uses.0) in
          let none = gives_none k o n past e back in
          omega (arith, rest, with.0, with.1, brought, here, none)
      | inl none ↦ elim (none_or_some (passing k (not o) e)) [
        | inr m ↦
            let with = alive_with k o n past e None (Some m.0) none m.1 in
            let nothing = introduces_none k o n past e none in
            let gives = gives_some k o n past e m.0 m.1 uses.1 uses.0 in
            let parted = split n (tellings k (not o) past) (telling k (not o) past m.0) (tellings k o past) in
            omega (arith, rest, with.0, with.1, nothing, gives, parted)
        | inl neither ↦
            let with = alive_with k o n past e None None none neither in
            let nothing = introduces_none k o n past e none in
            let gives = gives_none k o n past e neither in
            omega (arith, rest, with.0, with.1, nothing, gives)
      ]
    ]

pub all_alive : (k : ℕ) (o : Bool) (n : ℕ) (past : Past) → Each UsesQuestions past → introduced_count (id k o n) past + let_go (id k o n) past ≡ alive (id k o n) past + released_count (id k o n) past
all_alive k o n past uses = all_alive_once k o n past (each_so UsesQuestions EndsOnce ends_once past uses)

-- what is held is what is alive, less what was released
pub held_is_alive : (k : ℕ) (o : Bool) (n : ℕ) (past : Past) → Each UsesQuestions past → held (id k o n) past ≡ alive (id k o n) past - let_go (id k o n) past
held_is_alive k o n past uses = let all = all_alive k o n past uses in omega (arith, all)

-- and not cut off at 0 where no record gives back more than is held
pub alive_is_held : (k : ℕ) (o : Bool) (n : ℕ) (past : Past) → Each UsesQuestions past → Each GivesBackHeld past → alive (id k o n) past ≡ held (id k o n) past + let_go (id k o n) past
alive_is_held k o n past uses counts = let all = all_alive k o n past uses in let le = no_more_went past counts (id k o n) in omega (arith, all, le)
