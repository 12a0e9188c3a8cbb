-- A reading of a tree: the costs of its visits in order, and how it ends.
use Rattle.std.specs.Prelude.{◌≡◌, ℕ, zero, suc, ◌+◌, ◌-◌, ◌*◌, ◌/◌, ◌%◌, ◌^◌, ◌==◌, List, [], ◌++◌, map, Option, Some, None, Result, Ok, Err, nat_lt, max, if◌then◌else◌}
use Rattle.std.specs.List.{range_with_len}
use Rattle.cap_reader.specs.declared.read_error.ReadError.{ReadError}
use Rattle.cap_reader.specs.declared.read_error.ReadError.TheVariants.{WrongKind, NoZero, Reserved, TooMuch, OutOfMemory}
use Rattle.cap_reader.specs.Tree.{Tree, nothing, structure, bad_structure, composite, bad_composite, plain, bad_plain, capability, reserved, unfollowed, plain_words}

-- the visits in order, and behind them a value, or the first fault
pub data Reading (E A : Type 0) : Type 0 where
  done : A → Reading E A
  fault : E → Reading E A
  visit : ℕ → Reading E A → Reading E A

-- one reading and then another, which goes by the value of the first
unfoldable pub and_then : {E A B : Type 0} → Reading E A → (A → Reading E B) → Reading E B
and_then (done value) next = next value
and_then (fault e) next = fault e
and_then (visit cost rest) next = visit cost (and_then rest next)

infixl 10 ◌>>=◌
abbrev pub ◌>>=◌ : {E A B : Type 0} → Reading E A → (A → Reading E B) → Reading E B
reading >>= next = and_then reading next

-- What a reading answers, given so many words, and how many it leaves. Each visit is paid for in its turn; the first
-- that costs more than there is left is too much, and isn't paid for.
unfoldable pub pay_for : {E A : Type 0} → E → Reading E A → ℕ → Result A E × ℕ
pay_for too_much (done value) left = (Ok value, left)
pay_for too_much (fault e) left = (Err e, left)
pay_for too_much (visit cost rest) left = if nat_lt left cost then (Err too_much, left) else pay_for too_much rest (left - cost)

abbrev pub run : {A : Type 0} → Reading ReadError A → ℕ → Result A ReadError × ℕ
run reading words = pay_for TooMuch reading words

-- what the visits of a reading cost together
unfoldable pub price : {E A : Type 0} → Reading E A → ℕ
price (done value) = 0
price (fault e) = 0
price (visit cost rest) = cost + price rest

-- how a reading ends, whatever its visits cost
unfoldable pub ending : {E A : Type 0} → Reading E A → Result A E
ending (done value) = Ok value
ending (fault e) = Err e
ending (visit cost rest) = ending rest

-- ---- what a call answers, seen in some way, and the words that it leaves are those of a reading

abbrev pub Runs : {X Y : Type 0} → (X → Y) → Result X ReadError → ℕ → Result Y ReadError × ℕ → Type 0
Runs seen (Ok x) left ran = ran ≡ (Ok (seen x), left)
Runs seen (Err e) left ran = ran ≡ (Err e, left)

-- the same, unless memory ran out
abbrev pub Refuses : {Y : Type 0} → ReadError → ℕ → Result Y ReadError × ℕ → Type 0
Refuses OutOfMemory left ran = Unit {0}
Refuses e left ran = ran ≡ (Err e, left)

abbrev pub RunsInMemory : {X Y : Type 0} → (X → Y) → Result X ReadError → ℕ → Result Y ReadError × ℕ → Type 0
RunsInMemory seen (Ok x) left ran = ran ≡ (Ok (seen x), left)
RunsInMemory seen (Err e) left ran = Refuses e left ran

-- too much, unless memory ran out
abbrev pub IsTooMuch : {X : Type 0} → Result X ReadError → Type 0
IsTooMuch (Ok x) = ⊥
IsTooMuch (Err TooMuch) = Unit {0}
IsTooMuch (Err OutOfMemory) = Unit {0}
IsTooMuch (Err e) = ⊥

-- ---- reading a tree as one kind

-- a struct's data section, how many words and each word, and its pointer section, how many pointers and the tree at
-- each
pub record Sections : Type 0 where
  pub data_words : ℕ
  pub word : ℕ → ℕ
  pub pointer_count : ℕ
  pub child : ℕ → Tree

-- a visit of a struct costs its words, and at least 1
abbrev pub cost_of : ℕ → ℕ
cost_of size = max size 1

-- the struct at a pointer, None where the pointer is null
abbrev pub structure_in : Tree → Reading ReadError (Option Sections)
structure_in nothing = done None
structure_in (structure data_words word pointer_count child) = visit (cost_of (data_words + pointer_count)) (done (Some (record { data_words = data_words; word = word; pointer_count = pointer_count; child = child })))
structure_in (bad_structure e) = fault e
structure_in (composite count element) = fault WrongKind
structure_in (bad_composite e) = fault WrongKind
structure_in (plain element_size count word) = fault WrongKind
structure_in (bad_plain element_size e) = fault WrongKind
structure_in (capability index) = fault WrongKind
structure_in reserved = fault Reserved
structure_in (unfollowed e) = fault e

-- a list of structs: how many elements, and the tree of each
pub record Elements : Type 0 where
  pub count : ℕ
  pub element : ℕ → Tree

-- the list of structs at a pointer, None where the pointer is null
abbrev pub elements_in : Tree → Reading ReadError (Option Elements)
elements_in nothing = done None
elements_in (structure data_words word pointer_count child) = fault WrongKind
elements_in (bad_structure e) = fault WrongKind
elements_in (composite count element) = done (Some (record { count = count; element = element }))
elements_in (bad_composite e) = fault e
elements_in (plain element_size count word) = fault WrongKind
elements_in (bad_plain element_size e) = fault WrongKind
elements_in (capability index) = fault WrongKind
elements_in reserved = fault Reserved
elements_in (unfollowed e) = fault e

-- the byte at a place of words, the lowest of each word first
abbrev pub byte_in : ℕ → (ℕ → ℕ) → ℕ
byte_in i word = (word (i / 8) / 2 ^ (8 * (i % 8))) % 2 ^ 8

-- so many bytes from the start of words on
abbrev pub bytes_in : ℕ → (ℕ → ℕ) → List ℕ
bytes_in count word = map (λ i. byte_in i word) (range_with_len 0 count)

-- "Text: Like Data, but the content must be valid UTF-8, and the last byte of the content must be zero." The zero "is
-- included in the size sent on the wire, but the runtime library should not count it in any size reported to the
-- application". Whether it is UTF-8 isn't judged. A visit costs the words of the list.
unfoldable pub text_of : ℕ → (ℕ → ℕ) → Reading ReadError (Option (List ℕ))
text_of zero word = fault NoZero
text_of (suc len) word =
    if byte_in len word == 0 then visit (cost_of (plain_words 2 (len + 1))) (done (Some (bytes_in len word))) else fault NoZero

-- the text at a pointer, None where the pointer is null: a list of element size 2, a byte
abbrev pub text_in : Tree → Reading ReadError (Option (List ℕ))
text_in nothing = done None
text_in (structure data_words word pointer_count child) = fault WrongKind
text_in (bad_structure e) = fault WrongKind
text_in (composite count element) = fault WrongKind
text_in (bad_composite e) = fault WrongKind
text_in (plain element_size count word) = if element_size == 2 then text_of count word else fault WrongKind
text_in (bad_plain element_size e) = if element_size == 2 then fault e else fault WrongKind
text_in (capability index) = fault WrongKind
text_in reserved = fault Reserved
text_in (unfollowed e) = fault e

-- a null root is the empty struct, in which every field has its default
abbrev pub or_default : Option Sections → Sections
or_default None = record { data_words = 0; word = λ i. 0; pointer_count = 0; child = λ n. nothing }
or_default (Some sections) = sections

abbrev pub root_in : Tree → Reading ReadError Sections
root_in tree = structure_in tree >>= λ found. done (or_default found)

-- the lists that the readings at n numbers from `from` on give, one after another
unfoldable pub each : {E A : Type 0} → (ℕ → Reading E (List A)) → ℕ → ℕ → Reading E (List A)
each reading from zero = done []
each reading from (suc n) = reading from >>= λ first. each reading (from + 1) n >>= λ others. done (first ++ others)
