-- What was told, one record on; and which openings it speaks of.
use Rattle.std.proofs.Common.{◌≡◌, refl, sym, ◌∙◌, ap, subst, ℕ, suc, ◌≤◌, ◌==◌, List, [], ◌∷◌, length, Bool, true, false, not, Option, Some, None, if◌then◌else◌, arith, ◌⊎◌, inl, inr, eqb-true, option_map}
use Rattle.std.specs.List.{cons_option}
use Rattle.std.proofs.lemmas.Bool.{false≢true, eqb-false, eq-eqb, cases_Bool, or_from}
use Rattle.agree.specs.Types.{RpcMessage, Bootstrap, Call, Return, Finish, DecodedRecord, TableKey}
use Rattle.decoded_records.specs.Past.{Past, id, is}
use Rattle.agree.specs.Streams.{passing, stream, opening_number}
use Rattle.agree.specs.Told.{Telling, telling, tellings}
use Rattle.agree.specs.Alive.{Closer, by_return, by_finish, is_same_closer, as_closer, is_closed}
use Rattle.agree.proofs.Asking.{asks, last_number, number_stream}
use Rattle.agree.proofs.Once.{last_small, opening_below}

pub none_or_some : (o : Option RpcMessage) → (o ≡ None) ⊎ ((m : RpcMessage) × (o ≡ Some m))
none_or_some None = inl refl
none_or_some (Some m) = inr (m, refl)

-- one record on, where its message is known
pub told_of : (k : ℕ) (s : Bool) (before : Past) (e : DecodedRecord) (o : Option RpcMessage) → passing k s e ≡ o → tellings k s (e ∷ before) ≡ cons_option (option_map (telling k s before) o) (tellings k s before)
told_of k s before e o h = ap (λ y. cons_option (option_map (telling k s before) y) (tellings k s before)) h

pub stream_of : (k : ℕ) (s : Bool) (before : Past) (e : DecodedRecord) (o : Option RpcMessage) → passing k s e ≡ o → stream k s (e ∷ before) ≡ cons_option o (stream k s before)
stream_of k s before e o h = ap (λ y. cons_option y (stream k s before)) h

-- as many are told as passed
pub told_length : (k : ℕ) (s : Bool) (past : Past) → length (tellings k s past) ≡ length (stream k s past)
told_length k s [] = refl
told_length k s (e ∷ before) = step (passing k s e) (told_length k s before)
  where
    step : (o : Option RpcMessage) → length (tellings k s before) ≡ length (stream k s before) → length (cons_option (option_map (telling k s before) o) (tellings k s before)) ≡ length (cons_option o (stream k s before))
    step None h = h
    step (Some m) h = ap suc h

pub grows : (k : ℕ) (s : Bool) (e : DecodedRecord) (past : Past) → length (stream k s past) ≤ length (stream k s (e ∷ past))
grows k s e past = grown (passing k s e) (stream k s past)
  where
    grown : (o : Option RpcMessage) (str : List RpcMessage) → length str ≤ length (cons_option o str)
    grown None str = omega arith
    grown (Some m) str = omega arith

-- ---- one opening is of one question

one_asked : (q r : ℕ) (m : RpcMessage) → asks q m ≡ true → asks r m ≡ true → q ≡ r
one_asked q r (Bootstrap n) h g = eqb-true q n h ∙ sym (eqb-true r n g)
one_asked q r (Call head target b) h g = eqb-true q head.question h ∙ sym (eqb-true r head.question g)
one_asked q r _ h g = absurd (false≢true h)

same_some : {A : Type 0} {x y : A} → Some x ≡ Some y → x ≡ y
same_some e = cc

unique_at : (q r : ℕ) (m : RpcMessage) (ms : List RpcMessage) (n : ℕ) (b c : Bool) → asks q m ≡ b → asks r m ≡ c → (last_number (asks q) ms ≡ Some n → last_number (asks r) ms ≡ Some n → q ≡ r) →
    (if b then Some (length ms) else last_number (asks q) ms) ≡ Some n → (if c then Some (length ms) else last_number (asks r) ms) ≡ Some n → q ≡ r
unique_at q r m ms n true true h g rest e f = one_asked q r m h g
unique_at q r m ms n true false h g rest e f = let here : length ms ≡ n = same_some e in let lt = last_small (asks r) ms n f in absurd (omega (arith, here, lt))
unique_at q r m ms n false true h g rest e f = let here : length ms ≡ n = same_some f in let lt = last_small (asks q) ms n e in absurd (omega (arith, here, lt))
unique_at q r m ms n false false h g rest e f = rest e f

unique_in : (q r : ℕ) (ms : List RpcMessage) (n : ℕ) → last_number (asks q) ms ≡ Some n → last_number (asks r) ms ≡ Some n → q ≡ r
unique_in q r [] n e f = absurd (let no : ⊥ = cc in no)
unique_in q r (m ∷ ms) n e f = unique_at q r m ms n (asks q m) (asks r m) refl refl (unique_in q r ms n) e f

pub unique : (k : ℕ) (s : Bool) (q r : ℕ) (past : Past) (n : ℕ) → opening_number (id k s q) past ≡ Some n → opening_number (id k s r) past ≡ Some n → q ≡ r
unique k s q r past n e f = unique_in q r (stream k s past) n (sym (number_stream (id k s q) past) ∙ e) (sym (number_stream (id k s r) past) ∙ f)

-- ---- closers

pub no_closer : (o : Option Closer) → is_same_closer o None ≡ false
no_closer None = refl
no_closer (Some (by_return n)) = refl
no_closer (Some (by_finish n)) = refl

pub none_closed : (ts : List Telling) → is_closed ts None ≡ false
none_closed [] = refl
none_closed (t ∷ ts) = or_from _ _ (no_closer (as_closer t)) (none_closed ts)

pub finish_finish : (n : ℕ) (o : Option ℕ) → is_same_closer (option_map by_finish o) (Some (by_finish n)) ≡ is n o
finish_finish n None = refl
finish_finish n (Some m) = refl

pub return_return : (n : ℕ) (o : Option ℕ) → is_same_closer (option_map by_return o) (Some (by_return n)) ≡ is n o
return_return n None = refl
return_return n (Some m) = refl

pub finish_return : (n : ℕ) (o : Option ℕ) → is_same_closer (option_map by_finish o) (Some (by_return n)) ≡ false
finish_return n None = refl
finish_return n (Some m) = refl

pub return_finish : (n : ℕ) (o : Option ℕ) → is_same_closer (option_map by_return o) (Some (by_finish n)) ≡ false
return_finish n None = refl
return_finish n (Some m) = refl

is_some_of : (n : ℕ) (o : Option ℕ) → is n o ≡ true → o ≡ Some n
is_some_of n None e = absurd (false≢true e)
is_some_of n (Some m) e = ap (λ x. Some x) (eqb-true m n e)

-- an opening to come isn't spoken of yet
pub not_yet : (q : TableKey) (past : Past) (n : ℕ) → length (stream q.connection q.ours past) ≤ n → is n (opening_number q past) ≡ false
not_yet q past n le = elim (cases_Bool (is n (opening_number q past))) [
  | inl there ↦ let lt = opening_below q past n (is_some_of n (opening_number q past) there) in absurd (omega (arith, lt, le))
  | inr none ↦ none
]

-- another question's opening is another
pub opening_of : (k : ℕ) (s : Bool) (q r : ℕ) (past : Past) (n : ℕ) → opening_number (id k s q) past ≡ Some n → is n (opening_number (id k s r) past) ≡ (q == r)
opening_of k s q r past n e = elim (cases_Bool (q == r)) [
  | inl good ↦ let same : q ≡ r = eqb-true q r good in
      subst (λ x. is n (opening_number (id k s x) past) ≡ true) same (ap (λ o. is n o) e ∙ eq-eqb n n refl) ∙ sym good
  | inr bad ↦ apart (cases_Bool (is n (opening_number (id k s r) past))) bad ∙ sym bad
]
  where
    apart : (is n (opening_number (id k s r) past) ≡ true) ⊎ (is n (opening_number (id k s r) past) ≡ false) → (q == r) ≡ false → is n (opening_number (id k s r) past) ≡ false
    apart (inl there) bad = absurd (eqb-false q r bad (unique k s q r past n e (is_some_of n (opening_number (id k s r) past) there)))
    apart (inr none) bad = none

pub not_now : (f : RpcMessage → Telling) (c : Option Closer) (ts : List Telling) (o : Option RpcMessage) → ((m : RpcMessage) → is_same_closer (as_closer (f m)) c ≡ false) → is_closed ts c ≡ false →
    is_closed (cons_option (option_map f o) ts) c ≡ false
not_now f c ts None none rest = rest
not_now f c ts (Some m) none rest = or_from _ _ (none m) rest

-- what a Return doesn't close where it gives back it doesn't close
pub closer_if : (b : Bool) (o : Option ℕ) (c : Option Closer) → is_same_closer (option_map by_return o) c ≡ false → is_same_closer (if b then option_map by_return o else None) c ≡ false
closer_if true o c apart = apart
closer_if false o c apart = refl

-- what was told closes nothing of an opening to come
pub finish_of_none : (k : ℕ) (s : Bool) (before : Past) (n : ℕ) (m : RpcMessage) → length (stream k s before) ≤ n → is_same_closer (as_closer (telling k s before m)) (Some (by_finish n)) ≡ false
finish_of_none k s before n (Finish q true) le = finish_finish n _ ∙ not_yet (id k s q) before n le
finish_of_none k s before n (Return head outcome) le = let o = opening_number (id k (not s) head.answer) before in closer_if head.release_param_caps o (Some (by_finish n)) (return_finish n o)
finish_of_none k s before n (Finish q false) le = refl
finish_of_none k s before n _ le = refl

pub no_finish_yet : (k : ℕ) (s : Bool) (past : Past) (n : ℕ) → length (stream k s past) ≤ n → is_closed (tellings k s past) (Some (by_finish n)) ≡ false
no_finish_yet k s [] n le = refl
no_finish_yet k s (e ∷ before) n le =
    let low : length (stream k s before) ≤ n = let g = grows k s e before in omega (arith, g, le) in
    not_now (telling k s before) (Some (by_finish n)) (tellings k s before) (passing k s e) (λ m. finish_of_none k s before n m low) (no_finish_yet k s before n low)

pub return_of_none : (k : ℕ) (s : Bool) (before : Past) (n : ℕ) (m : RpcMessage) → length (stream k (not s) before) ≤ n → is_same_closer (as_closer (telling k s before m)) (Some (by_return n)) ≡ false
return_of_none k s before n (Finish q true) le = finish_return n _
return_of_none k s before n (Return head outcome) le =
    let o = opening_number (id k (not s) head.answer) before in closer_if head.release_param_caps o (Some (by_return n)) (return_return n o ∙ not_yet (id k (not s) head.answer) before n le)
return_of_none k s before n (Finish q false) le = refl
return_of_none k s before n _ le = refl

pub no_return_yet : (k : ℕ) (s : Bool) (past : Past) (n : ℕ) → length (stream k (not s) past) ≤ n → is_closed (tellings k s past) (Some (by_return n)) ≡ false
no_return_yet k s [] n le = refl
no_return_yet k s (e ∷ before) n le =
    let low : length (stream k (not s) before) ≤ n = let g = grows k (not s) e before in omega (arith, g, le) in
    not_now (telling k s before) (Some (by_return n)) (tellings k s before) (passing k s e) (λ m. return_of_none k s before n m low) (no_return_yet k s before n low)
