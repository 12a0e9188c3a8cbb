-- Texts: what a list of bytes reads as, what it costs, and that other kinds are none.
use Rattle.std.proofs.Common.{◌≡◌, ◌≢◌, ℕ, zero, suc, ◌+◌, ◌-◌, ◌/◌, ◌<◌, ◌≤◌, ◌↔◌, List, [], ◌∷◌, ◌++◌, length, Option, Some, None, Result, Ok, Err, refl, sym, ap, subst, ◌∙◌, arith, inl, inr}
use Rattle.std.specs.Prelude.{slice_index}
use Rattle.std.proofs.lemmas.Bool.{cases_lt, cases_eq, lt-ltb, le-ltb, eq-eqb, ne_eqb}
use Rattle.std.proofs.lemmas.List.{same_from_push}
use Rattle.std.proofs.lemmas.List.FromFn.{length-map-range_with_len, map-range_with_len_more, get_or-map-range_with_len}
use Rattle.cap_reader.specs.declared.pointee.Pointee.TheVariants as leads
use Rattle.cap_reader.specs.declared.read_error.ReadError.{ReadError}
use Rattle.cap_reader.specs.declared.text.TextAt.{TextAt}
use Rattle.cap_reader.specs.declared.read_error.ReadError.TheVariants.{TooMuch, WrongKind, NoZero, OutOfSegment}
use Rattle.cap_reader.specs.Pointers.{words_of, words_at, extent}
use Rattle.cap_reader.specs.Tree.{Tree, nothing, structure, bad_structure, composite, bad_composite, plain, bad_plain, capability, reserved, unfollowed, tree_behind, structure_at, structure_there, list_there, plain_there, plain_words}
use Rattle.cap_reader.specs.Places.{text_at}
use Rattle.cap_reader.specs.Reading.{fault, run, pay_for, ending, cost_of, text_in, text_of, byte_in, bytes_in}
use Rattle.cap_reader.proofs.OtherKinds.{list_by}

-- ---- other kinds

at_depth : (depth : ℕ) (segments : List (List ℕ)) (segment data_words pointer_count : ℕ) (place : Option ℕ) → text_in (structure_there (λ at. structure_at depth segments segment at data_words pointer_count) place) ≡ fault WrongKind
unfolding structure_at
at_depth depth segments segment data_words pointer_count None = refl
at_depth zero segments segment data_words pointer_count (Some start) = refl
at_depth (suc depth) segments segment data_words pointer_count (Some start) = refl

pub structure_is_no_text : (depth : ℕ) (segments : List (List ℕ)) (segment : ℕ) (start : Option ℕ) (data_words pointer_count : ℕ) → text_in (tree_behind (structure_at depth segments) segments (Ok (leads.Struct segment start data_words pointer_count))) ≡ fault WrongKind
unfolding tree_behind
structure_is_no_text depth segments segment start data_words pointer_count =
    at_depth depth segments segment data_words pointer_count (extent segments segment start (data_words + pointer_count))

plain_is_no_text : (segments : List (List ℕ)) (segment element_size count : ℕ) → element_size ≢ 2 → (place : Option ℕ) → text_in (plain_there segments segment element_size count place) ≡ fault WrongKind
plain_is_no_text segments segment element_size count other None = rw (ne_eqb element_size 2 other) refl
plain_is_no_text segments segment element_size count other (Some start) = rw (ne_eqb element_size 2 other) refl

pub list_is_no_text : (made : ℕ → ℕ → ℕ → Tree) (segments : List (List ℕ)) (segment : ℕ) (start : Option ℕ) (element_size count : ℕ) → element_size ≢ 2 → text_in (list_there made segments segment start element_size count) ≡ fault WrongKind
list_is_no_text made segments segment start element_size count other =
    list_by text_in (fault WrongKind) (λ n g. refl) (λ e. refl) made segments segment start element_size count (plain_is_no_text segments segment element_size count other)

-- ---- bytes

-- a byte of a list is that of the words from its start on
byte_there : (segments : List (List ℕ)) (segment start count i : ℕ) → i < count → byte_in i (words_at segments segment start (plain_words 2 count)) ≡ byte_in i (λ k. slice_index (words_of segments segment) (start + k))
byte_there segments segment start count i lt = rw (lt-ltb (i / 8) (plain_words 2 count) (omega (arith, lt))) refl

bytes_len : (count : ℕ) (word : ℕ → ℕ) → length (bytes_in count word) ≡ count
bytes_len count word = length-map-range_with_len (λ i. byte_in i word) 0 count

pub text_len : (segments : List (List ℕ)) (text : TextAt) → text.len ≡ length (text_at segments text)
text_len segments text = sym (bytes_len text.len (words_at segments text.segment text.start (plain_words 2 (text.len + 1))))

pub byte_at : (segments : List (List ℕ)) (segment start len i : ℕ) → i < length (bytes_in len (words_at segments segment start (plain_words 2 (len + 1))))
    → byte_in i (λ k. slice_index (words_of segments segment) (start + k)) ≡ slice_index (bytes_in len (words_at segments segment start (plain_words 2 (len + 1)))) i
byte_at segments segment start len i lt =
    let word = words_at segments segment start (plain_words 2 (len + 1)) in
    let below : i < len = omega (arith, lt, bytes_len len word) in
    sym (byte_there segments segment start (len + 1) i (omega (arith, below))) ∙ sym (get_or-map-range_with_len (λ k. byte_in k word) 0 len i i 0 below (omega arith))

-- ---- what a list of bytes reads as

abbrev answered : List ℕ → ℕ → Result (Option (List ℕ)) ReadError × ℕ
answered text left = (Ok (Some text), left)

module _ (segments : List (List ℕ)) (segment words : ℕ) where
  pub no_extent : (count : ℕ) (place : Option ℕ) → place ≡ None → run (text_in (plain_there segments segment 2 count place)) words ≡ (Err OutOfSegment, words)
  unfolding pay_for
  no_extent count place e = rw e refl

  pub none_to_end : (count start : ℕ) (place : Option ℕ) → place ≡ Some start → count ≡ 0 → run (text_in (plain_there segments segment 2 count place)) words ≡ (Err NoZero, words)
  unfolding pay_for text_of
  none_to_end count start place e none = rw (e, none) refl

  pub no_zero : (count len start : ℕ) (place : Option ℕ) → place ≡ Some start → count ≡ len + 1 → byte_in len (λ k. slice_index (words_of segments segment) (start + k)) ≢ 0
      → run (text_in (plain_there segments segment 2 count place)) words ≡ (Err NoZero, words)
  unfolding pay_for text_of
  no_zero zero len start place e more other = absurd (omega (arith, more))
  no_zero (suc n) len start place e more other =
      let same : len ≡ n = omega (arith, more) in
      let there : byte_in n (words_at segments segment start (plain_words 2 (suc n))) ≢ 0 = rw (byte_there segments segment start (suc n) n (omega arith), ← same) other in
      rw (e, ne_eqb _ 0 there) refl

  pub text_refused : (count len start size : ℕ) (place : Option ℕ) → place ≡ Some start → count ≡ len + 1 → byte_in len (λ k. slice_index (words_of segments segment) (start + k)) ≡ 0 → size ≡ plain_words 2 count → words < size
      → run (text_in (plain_there segments segment 2 count place)) words ≡ (Err TooMuch, words)
  unfolding pay_for text_of
  text_refused zero len start size place e more ends is lt = absurd (omega (arith, more))
  text_refused (suc n) len start size place e more ends is lt =
      let same : len ≡ n = omega (arith, more) in
      let there : byte_in n (words_at segments segment start (plain_words 2 (suc n))) ≡ 0 = rw (byte_there segments segment start (suc n) n (omega arith), ← same) ends in
      let few : words < cost_of (plain_words 2 (n + 1)) = omega (arith, is, lt) in
      rw (e, eq-eqb _ 0 there, lt-ltb words _ few) refl

  pub text_paid : (count len start size : ℕ) (place : Option ℕ) → place ≡ Some start → count ≡ len + 1 → byte_in len (λ k. slice_index (words_of segments segment) (start + k)) ≡ 0 → size ≡ plain_words 2 count → size ≤ words
      → run (text_in (plain_there segments segment 2 count place)) words ≡ (Ok (Some (bytes_in len (words_at segments segment start (plain_words 2 (len + 1))))), words - size)
  unfolding pay_for text_of
  text_paid zero len start size place e more ends is le = absurd (omega (arith, more))
  text_paid (suc n) len start size place e more ends is le =
      let same : len ≡ n = omega (arith, more) in
      let there : byte_in n (words_at segments segment start (plain_words 2 (suc n))) ≡ 0 = rw (byte_there segments segment start (suc n) n (omega arith), ← same) ends in
      let price : cost_of (plain_words 2 (n + 1)) ≡ size = omega (arith, is) in
      let one : suc n ≡ n + 1 = omega arith in
      rw (e, same, eq-eqb _ 0 there, price, le-ltb words size le) (ap (λ (k : ℕ). answered (bytes_in n (words_at segments segment start (plain_words 2 k))) (words - size)) one)

-- ---- the zero at the end

ends_with : (len : ℕ) (word : ℕ → ℕ) → bytes_in (suc len) word ≡ bytes_in len word ++ byte_in len word ∷ []
ends_with len word =
    let one : suc len ≡ len + 1 = omega arith in
    ap (λ (n : ℕ). bytes_in n word) one ∙ map-range_with_len_more (λ i. byte_in i word) 0 len len (omega arith)

found_is : (bytes text : List ℕ) → ◌≡◌ {A = Result (Option (List ℕ)) ReadError} (Ok (Some bytes)) (Ok (Some text)) → bytes ≡ text
found_is bytes text e = cc

not_found : (e : ReadError) (text : List ℕ) → ◌≡◌ {A = Result (Option (List ℕ)) ReadError} (Err e) (Ok (Some text)) → ⊥
not_found e text h = cc

never_empty : (text : List ℕ) → [] ≡ text ++ 0 ∷ [] → ⊥
never_empty [] e = cc
never_empty (x ∷ text) e = cc

read_ends : (count : ℕ) (word : ℕ → ℕ) (text : List ℕ) → ending (text_of count word) ≡ Ok (Some text) → bytes_in count word ≡ text ++ 0 ∷ []
unfolding text_of ending
read_ends zero word text h = absurd (not_found NoZero text h)
read_ends (suc len) word text h =
    elim (cases_eq (byte_in len word) 0) [
      | inl ends ↦
          let same : bytes_in len word ≡ text = found_is (bytes_in len word) text (rw (eq-eqb _ 0 ends) at h) in
          ends_with len word ∙ ap (λ (b : ℕ). bytes_in len word ++ b ∷ []) ends ∙ ap (λ (bytes : List ℕ). bytes ++ 0 ∷ []) same
      | inr other ↦ absurd (not_found NoZero text (rw (ne_eqb _ 0 other) at h))
    ]

ends_read : (count : ℕ) (word : ℕ → ℕ) (text : List ℕ) → bytes_in count word ≡ text ++ 0 ∷ [] → ending (text_of count word) ≡ Ok (Some text)
unfolding text_of ending
ends_read zero word text h = absurd (never_empty text h)
ends_read (suc len) word text h =
    let both = same_from_push (bytes_in len word) text (byte_in len word) 0 (sym (ends_with len word) ∙ h) in
    rw (eq-eqb _ 0 both.1) (ap (λ (bytes : List ℕ). (answered bytes 0).0) both.0)

pub zero_ends : (count : ℕ) (word : ℕ → ℕ) (text : List ℕ) → (ending (text_of count word) ≡ Ok (Some text)) ↔ (bytes_in count word ≡ text ++ 0 ∷ [])
zero_ends count word text = (read_ends count word text, ends_read count word text)

-- ---- what is paid for it

abbrev Answer : Type 0
Answer = Result (Option (List ℕ)) ReadError

-- it pays the words of a text where it finds one, and nothing where it doesn't
abbrev IsPaid : Answer → ℕ → ℕ → Type 0
IsPaid (Ok (Some text)) left words = left + plain_words 2 (length text + 1) ≡ words
IsPaid (Ok None) left words = left ≡ words
IsPaid (Err e) left words = left ≡ words

of_paid : (len : ℕ) (word : ℕ → ℕ) (words : ℕ) → IsPaid (run (text_of (suc len) word) words).0 (run (text_of (suc len) word) words).1 words
unfolding text_of pay_for
of_paid len word words =
    elim (cases_eq (byte_in len word) 0) [
      | inl ends ↦ rw (eq-eqb _ 0 ends) (elim (cases_lt words (cost_of (plain_words 2 (len + 1)))) [
        | inl few ↦ rw (lt-ltb words _ few) refl
        | inr enough ↦ rw (le-ltb words _ enough) (rw (bytes_len len word) (omega (arith, enough)))
      ])
      | inr other ↦ rw (ne_eqb _ 0 other) refl
    ]

list_paid : (size count : ℕ) (word : ℕ → ℕ) (words : ℕ) → IsPaid (run (text_in (plain size count word)) words).0 (run (text_in (plain size count word)) words).1 words
unfolding text_of pay_for
list_paid size count word words =
    elim (cases_eq size 2) [
      | inl bytes ↦ rw (eq-eqb _ 2 bytes) (by count)
      | inr other ↦ rw (ne_eqb _ 2 other) refl
    ]
  where
    by : (n : ℕ) → IsPaid (run (text_of n word) words).0 (run (text_of n word) words).1 words
    by zero = refl
    by (suc len) = of_paid len word words

bad_paid : (size : ℕ) (e : ReadError) (words : ℕ) → IsPaid (run (text_in (bad_plain size e)) words).0 (run (text_in (bad_plain size e)) words).1 words
unfolding pay_for
bad_paid size e words =
    elim (cases_eq size 2) [
      | inl bytes ↦ rw (eq-eqb _ 2 bytes) refl
      | inr other ↦ rw (ne_eqb _ 2 other) refl
    ]

paid : (tree : Tree) (words : ℕ) → IsPaid (run (text_in tree) words).0 (run (text_in tree) words).1 words
unfolding pay_for
paid nothing words = refl
paid (structure data_words word pointer_count child) words = refl
paid (bad_structure e) words = refl
paid (composite count element) words = refl
paid (bad_composite e) words = refl
paid (plain element_size count word) words = list_paid element_size count word words
paid (bad_plain element_size e) words = bad_paid element_size e words
paid (capability index) words = refl
paid reserved words = refl
paid (unfollowed e) words = refl

so_paid : (tree : Tree) (words left : ℕ) (answer : Answer) → run (text_in tree) words ≡ (answer, left) → IsPaid answer left words
so_paid tree words left answer h =
    let P : Answer × ℕ → Type 0 = λ ran. IsPaid ran.0 ran.1 words in
    subst P h (paid tree words)

pub text_is_paid : (tree : Tree) (words left : ℕ) (text : List ℕ) → run (text_in tree) words ≡ (Ok (Some text), left) → left + plain_words 2 (length text + 1) ≡ words
text_is_paid tree words left text h = so_paid tree words left (Ok (Some text)) h

pub no_text_is_free : (tree : Tree) (words left : ℕ) → run (text_in tree) words ≡ (Ok None, left) → left ≡ words
no_text_is_free tree words left h = so_paid tree words left (Ok None) h

pub refused_text_is_free : (tree : Tree) (words left : ℕ) (e : ReadError) → run (text_in tree) words ≡ (Err e, left) → left ≡ words
refused_text_is_free tree words left e h = so_paid tree words left (Err e) h
