-- What one visit pays, and that nothing else is paid.
use Rattle.std.proofs.Common.{◌≡◌, ℕ, ◌+◌, ◌-◌, ◌≤◌, Option, Some, None, Result, Ok, Err, refl, sym, ap, arith, inl, inr, cond}
use Rattle.std.specs.Prelude.{nat_lt}
use Rattle.std.proofs.lemmas.Bool.{cases_lt, lt-ltb, le-ltb}
use Rattle.cap_reader.specs.declared.read_error.ReadError.{ReadError}
use Rattle.cap_reader.specs.declared.read_error.ReadError.TheVariants.{TooMuch, WrongKind, Reserved}
use Rattle.cap_reader.specs.Tree.{Tree, nothing, structure, bad_structure, composite, bad_composite, plain, bad_plain, capability, reserved, unfollowed}
use Rattle.cap_reader.specs.Reading.{run, pay_for, structure_in, elements_in, Sections, cost_of}

abbrev Answer : Type 0
Answer = Result (Option Sections) ReadError

answers : (a b : Answer) (words left : ℕ) → ◌≡◌ {A = Answer × ℕ} (a, words) (b, left) → a ≡ b
answers a b words left e = ap (λ (ran : Answer × ℕ). ran.0) e

leaves : (a b : Answer) (words left : ℕ) → ◌≡◌ {A = Answer × ℕ} (a, words) (b, left) → left ≡ words
leaves a b words left e = sym (ap (λ (ran : Answer × ℕ). ran.1) e)

no_fault : (e : ReadError) (found : Option Sections) (words left : ℕ) → ◌≡◌ {A = Answer × ℕ} (Err e, words) (Ok found, left) → ⊥
no_fault e found words left h = let k = answers (Err e) (Ok found) words left h in absurd cc

no_null : (sections : Sections) (words left : ℕ) → ◌≡◌ {A = Answer × ℕ} (Ok None, words) (Ok (Some sections), left) → ⊥
no_null sections words left h = let k = answers (Ok None) (Ok (Some sections)) words left h in absurd cc

abbrev words_in : Option Sections → ℕ
words_in None = 0
words_in (Some sections) = sections.data_words + sections.pointer_count

seen_is : (seen sections : Sections) → ◌≡◌ {A = Answer} (Ok (Some seen)) (Ok (Some sections)) → words_in (Some seen) ≡ words_in (Some sections)
seen_is seen sections h = let k : ◌≡◌ {A = Option Sections} (Some seen) (Some sections) = cc in ap words_in k

visited : (seen sections : Sections) (words left : ℕ) → ◌≡◌ {A = Answer × ℕ} (cond (nat_lt words (cost_of (words_in (Some seen)))) (Err TooMuch, words) (Ok (Some seen), words - cost_of (words_in (Some seen)))) (Ok (Some sections), left)
    → left + cost_of (sections.data_words + sections.pointer_count) ≡ words
visited seen sections words left h =
    elim (cases_lt words (cost_of (words_in (Some seen)))) [
      | inl few ↦ absurd (no_fault TooMuch (Some sections) words left (rw (lt-ltb words (cost_of (words_in (Some seen))) few) at h))
      | inr enough ↦ paid enough (rw (le-ltb words (cost_of (words_in (Some seen))) enough) at h)
    ]
  where
    paid : cost_of (words_in (Some seen)) ≤ words → ◌≡◌ {A = Answer × ℕ} (Ok (Some seen), words - cost_of (words_in (Some seen))) (Ok (Some sections), left) → left + cost_of (sections.data_words + sections.pointer_count) ≡ words
    paid enough e =
        let size = seen_is seen sections (answers (Ok (Some seen)) (Ok (Some sections)) (words - cost_of (words_in (Some seen))) left e) in
        let gone = leaves (Ok (Some seen)) (Ok (Some sections)) (words - cost_of (words_in (Some seen))) left e in
        omega (arith, size, gone, enough)

pub read_is_paid : (tree : Tree) (words left : ℕ) (sections : Sections) → run (structure_in tree) words ≡ (Ok (Some sections), left) → left + cost_of (sections.data_words + sections.pointer_count) ≡ words
unfolding pay_for
read_is_paid nothing words left sections h = absurd (no_null sections words left h)
read_is_paid (structure data_words word pointer_count child) words left sections h =
    visited (record { data_words = data_words; word = word; pointer_count = pointer_count; child = child }) sections words left h
read_is_paid (bad_structure e) words left sections h = absurd (no_fault e (Some sections) words left h)
read_is_paid (composite n g) words left sections h = absurd (no_fault WrongKind (Some sections) words left h)
read_is_paid (bad_composite e) words left sections h = absurd (no_fault WrongKind (Some sections) words left h)
read_is_paid (plain element_size count word) words left sections h = absurd (no_fault WrongKind (Some sections) words left h)
read_is_paid (bad_plain element_size e) words left sections h = absurd (no_fault WrongKind (Some sections) words left h)
read_is_paid (capability index) words left sections h = absurd (no_fault WrongKind (Some sections) words left h)
read_is_paid reserved words left sections h = absurd (no_fault Reserved (Some sections) words left h)
read_is_paid (unfollowed e) words left sections h = absurd (no_fault e (Some sections) words left h)

-- ---- what isn't read is free

no_visit : (seen : Sections) (answer : Answer) (words left cost : ℕ) → ((sections : Sections) → answer ≡ Ok (Some sections) → ⊥)
    → ◌≡◌ {A = Answer × ℕ} (cond (nat_lt words cost) (Err TooMuch, words) (Ok (Some seen), words - cost)) (answer, left) → left ≡ words
no_visit seen answer words left cost unread h =
    elim (cases_lt words cost) [
      | inl few ↦ leaves (Err TooMuch) answer words left (rw (lt-ltb words cost few) at h)
      | inr enough ↦ absurd (unread seen (sym (answers (Ok (Some seen)) answer (words - cost) left (rw (le-ltb words cost enough) at h))))
    ]

unread_is_free : (tree : Tree) (answer : Answer) (words left : ℕ) → ((sections : Sections) → answer ≡ Ok (Some sections) → ⊥) → run (structure_in tree) words ≡ (answer, left) → left ≡ words
unfolding pay_for
unread_is_free nothing answer words left unread h = leaves (Ok None) answer words left h
unread_is_free (structure data_words word pointer_count child) answer words left unread h =
    no_visit (record { data_words = data_words; word = word; pointer_count = pointer_count; child = child }) answer words left (cost_of (data_words + pointer_count)) unread h
unread_is_free (bad_structure e) answer words left unread h = leaves (Err e) answer words left h
unread_is_free (composite n g) answer words left unread h = leaves (Err WrongKind) answer words left h
unread_is_free (bad_composite e) answer words left unread h = leaves (Err WrongKind) answer words left h
unread_is_free (plain element_size count word) answer words left unread h = leaves (Err WrongKind) answer words left h
unread_is_free (bad_plain element_size e) answer words left unread h = leaves (Err WrongKind) answer words left h
unread_is_free (capability index) answer words left unread h = leaves (Err WrongKind) answer words left h
unread_is_free reserved answer words left unread h = leaves (Err Reserved) answer words left h
unread_is_free (unfollowed e) answer words left unread h = leaves (Err e) answer words left h

none_unread : (sections : Sections) → ◌≡◌ {A = Answer} (Ok None) (Ok (Some sections)) → ⊥
none_unread sections h = cc

err_unread : (e : ReadError) (sections : Sections) → ◌≡◌ {A = Answer} (Err e) (Ok (Some sections)) → ⊥
err_unread e sections h = cc

pub null_is_free : (tree : Tree) (words left : ℕ) → run (structure_in tree) words ≡ (Ok None, left) → left ≡ words
null_is_free tree words left h = unread_is_free tree (Ok None) words left none_unread h

pub refusal_is_free : (tree : Tree) (words left : ℕ) (e : ReadError) → run (structure_in tree) words ≡ (Err e, left) → left ≡ words
refusal_is_free tree words left e h = unread_is_free tree (Err e) words left (err_unread e) h

pub lists_are_free : (tree : Tree) (words : ℕ) → (run (elements_in tree) words).1 ≡ words
unfolding pay_for
lists_are_free nothing words = refl
lists_are_free (structure data_words word pointer_count child) words = refl
lists_are_free (bad_structure e) words = refl
lists_are_free (composite n g) words = refl
lists_are_free (bad_composite e) words = refl
lists_are_free (plain element_size count word) words = refl
lists_are_free (bad_plain element_size e) words = refl
lists_are_free (capability index) words = refl
lists_are_free reserved words = refl
lists_are_free (unfollowed e) words = refl
