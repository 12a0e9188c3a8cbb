-- An opening has at most one Return and at most one Finish.
use Rattle.std.proofs.Common.{◌≡◌, refl, sym, ◌∙◌, ap, subst, ℕ, suc, ◌<◌, ◌≤◌, List, [], ◌∷◌, ◌++◌, length, Bool, true, false, Option, Some, None, if◌then◌else◌, arith, inl, inr}
use Rattle.std.specs.Prelude.{is_some, option_map}
use Rattle.std.proofs.lemmas.Bool.{false≢true, and_parts, cases_lt, cases_Bool}
use Rattle.std.proofs.lemmas.Bool.Decides.{nat_tests}
use Rattle.agree.specs.Types.{RpcMessage, Bootstrap, Finish, DecodedRecord, Wire, TableKey}
use Rattle.decoded_records.specs.Past.{Past, Point, id, names, Each}
use Rattle.decoded_records.specs.Questions.{question_opened, question_finished, opens, returns, finishes, is_opened, is_unfinished, opening}
use Rattle.decoded_records.specs.Uses.{UsesQuestions}
use Rattle.decoded_records.proofs.Naming.{same_id_is}
use Rattle.agree.specs.Points.{GoesOn}
use Rattle.agree.specs.Streams.{passing, stream, opening_number}
use Rattle.agree.proofs.Points.{before_it, no_longer, shorter, same_length, kept, each_at, each_so}
use Rattle.agree.proofs.Asking.{asks, last_number, number_more, number_stream, is_due, waits, opens_no_return, returns_waiting}

small : (b : Bool) (rest : Option ℕ) (k n : ℕ) → (rest ≡ Some n → n < k) → (if b then Some k else rest) ≡ Some n → n < suc k
small true rest k n h e = let same : k ≡ n = cc in omega arith
small false rest k n h e = let lt : n < k = h e in omega arith

-- the number of the last that passes is below how many there are
pub last_small : (u : RpcMessage → Bool) (ms : List RpcMessage) (n : ℕ) → last_number u ms ≡ Some n → n < length ms
last_small u [] n e = absurd (let no : ⊥ = cc in no)
last_small u (m ∷ ms) n e = small (u m) (last_number u ms) (length ms) n (last_small u ms n) e

-- an opening stands before
pub opening_below : (q : TableKey) (past : Past) (n : ℕ) → opening_number q past ≡ Some n → n < length (stream q.connection q.ours past)
opening_below q past n e = last_small (asks q.number) (stream q.connection q.ours past) n (sym (number_stream q past) ∙ e)

came_now : (o t f : Bool) → o ≡ false → t ≡ true → (if o then true else (if t then false else f)) ≡ false
came_now o t f e g = grind (arith, nat_tests)

due_before : (o t f : Bool) → o ≡ false → (if o then true else (if t then false else f)) ≡ true → f ≡ true
due_before o t f e g = grind (arith, nat_tests)

module _ (q : TableKey) where
  pub number_if : (e : DecodedRecord) (past : Past) (b : Bool) → names q (question_opened e) ≡ b → opening_number q (e ∷ past) ≡ (if b then Some (length (stream q.connection q.ours past)) else opening_number q past)
  number_if e past b h = number_more q e past ∙ ap (λ b. if b then Some (length (stream q.connection q.ours past)) else opening_number q past) h

  there_by : (o : Option Point) (f : Point → ℕ) → is_some o ≡ true → (n : ℕ) × (option_map f o ≡ Some n)
  there_by (Some p) f e = (f p, refl)
  there_by None f e = absurd (false≢true e)

  -- a question that was opened has an opening
  pub number_there : (past : Past) → is_opened q past ≡ true → (n : ℕ) × (opening_number q past ≡ Some n)
  number_there past e = there_by (opening q past) (λ p. length (stream q.connection q.ours p.before)) e

module _ (q : TableKey) (t : Past → DecodedRecord → Bool) (apart : (before : Past) (e : DecodedRecord) → t before e ≡ true → opens q before e ≡ false) where
  -- what isn't due and is due later was opened between
  opened_between : (l d : Past) → is_due q t d ≡ false → is_due q t (l ++ d) ≡ true → (n : ℕ) × (opening_number q (l ++ d) ≡ Some n) × (length (stream q.connection q.ours d) ≤ n)
  opened_between [] d not_due due = absurd (false≢true (sym not_due ∙ due))
  opened_between (y ∷ l) d not_due due = elim (cases_Bool (names q (question_opened y))) [
    | inl here ↦ (length (stream q.connection q.ours (l ++ d)), number_if q y (l ++ d) true here, no_longer _ _ (kept (passing q.connection q.ours) (l ++ d) d (l, refl)))
    | inr later ↦
        let r = opened_between l d not_due (due_before (names q (question_opened y)) (t (l ++ d) y) (is_due q t (l ++ d)) later (sym (waits q t y (l ++ d)) ∙ due)) in
        (r.0, number_if q y (l ++ d) false later ∙ r.1, r.2)
  ]

  module _ (past : Past) (each : Each (λ before e. t before e ≡ true → is_due q t before ≡ true) past) where
    not_later : (b c : Past) (x z : DecodedRecord) → GoesOn past (x ∷ b) → GoesOn past (z ∷ c) → t b x ≡ true → t c z ≡ true → opening_number q b ≡ opening_number q c → length b < length c → ⊥
    not_later b c x z p r e f same lt =
        let there = shorter past (x ∷ b) c p (before_it past z c r) lt in
        let due = each_at (λ before e. t before e ≡ true → is_due q t before ≡ true) past each b x p e in
        let again = subst (λ (l : Past). is_due q t l ≡ true) there.1 (each_at (λ before e. t before e ≡ true → is_due q t before ≡ true) past each c z r f) in
        let n = opened_between there.0 (x ∷ b) (waits q t x b ∙ came_now (opens q b x) (t b x) (is_due q t b) (apart b x e) e) again in
        let o = number_there q b (and_parts _ _ due).0 in
        let low = opening_below q b o.0 o.1 in
        let more = no_longer _ _ (kept (passing q.connection q.ours) (x ∷ b) b (x ∷ [], refl)) in
        let numbers : Some o.0 ≡ Some n.0 = sym o.1 ∙ same ∙ ap (λ l. opening_number q l) there.1 ∙ n.1 in
        let one : o.0 ≡ n.0 = cc in omega (arith, low, n.2, one, more)

    once_of : (b c : Past) (x z : DecodedRecord) → GoesOn past (x ∷ b) → GoesOn past (z ∷ c) → opening_number q b ≡ opening_number q c → t b x ≡ true → t c z ≡ true → b ≡ c
    once_of b c x z p r same e f = elim (cases_lt (length b) (length c)) [
      | inl less ↦ absurd (not_later b c x z p r e f same less)
      | inr more ↦ elim (cases_lt (length c) (length b)) [
        | inl less ↦ absurd (not_later c b z x r p f e (sym same) less)
        | inr back ↦ same_length past b c (before_it past x b p) (before_it past z c r) (omega (arith, more, back))
      ]
    ]

-- a Finish comes while it is due
pub finishes_due : (q : TableKey) (before : Past) (e : DecodedRecord) → UsesQuestions before e → finishes q before e ≡ true → is_due q (finishes q) before ≡ true
finishes_due q before (Wire s k c rs (Finish n release)) uses h =
    let all = and_parts (is_unfinished (id k s n) before) true uses.used in
    subst (λ x. is_unfinished x before ≡ true) (sym (same_id_is q (id k s n) h)) all.0
finishes_due q before (Wire s k c rs (Bootstrap n)) uses h = absurd (false≢true h)
finishes_due q before _ uses h = absurd (false≢true h)

false_if : (a b : Bool) → (a ≡ true → b ≡ false) → b ≡ true → a ≡ false
false_if a b f e = grind (arith, nat_tests)

opens_no_finish : (q : TableKey) (e : DecodedRecord) → names q (question_finished e) ≡ true → names q (question_opened e) ≡ false
opens_no_finish q (Wire s k c rs (Finish n release)) h = refl
opens_no_finish q (Wire s k c rs (Bootstrap n)) h = absurd (false≢true h)
opens_no_finish q _ h = absurd (false≢true h)

-- two Returns of one opening are one record, and so are two Finishes
module _ (q : TableKey) (past : Past) (good : Each UsesQuestions past) (b c : Past) (x z : DecodedRecord) (p : GoesOn past (x ∷ b)) (r : GoesOn past (z ∷ c)) (same : opening_number q b ≡ opening_number q c) where
  pub one_return : returns q b x ≡ true → returns q c z ≡ true → b ≡ c
  one_return e f = once_of q (returns q) (λ l e. false_if (opens q l e) (returns q l e) (opens_no_return q e)) past (each_so UsesQuestions _ (returns_waiting q) past good) b c x z p r same e f

  pub one_finish : finishes q b x ≡ true → finishes q c z ≡ true → b ≡ c
  one_finish e f = once_of q (finishes q) (λ l e. opens_no_finish q e) past (each_so UsesQuestions _ (finishes_due q) past good) b c x z p r same e f
