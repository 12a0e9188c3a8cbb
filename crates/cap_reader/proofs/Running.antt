-- One reading after another is paid for as they are.
use Rattle.std.proofs.Common.{◌≡◌, ℕ, ◌-◌, Bool, true, false, cond, List, Option, None, Result, Ok, Err, refl, ap, ◌∙◌, arith}
use Rattle.std.specs.Prelude.{nat_lt}
use Rattle.std.proofs.Math.Path.{fun_ext}
use Rattle.std.proofs.lemmas.Bool.{le-ltb}
use Rattle.cap_reader.specs.declared.place.StructAt.{StructAt}
use Rattle.cap_reader.specs.declared.read_error.ReadError.{ReadError}
use Rattle.cap_reader.specs.declared.read_error.ReadError.TheVariants.{TooMuch}
use Rattle.cap_reader.specs.Tree.{Tree, nothing}
use Rattle.cap_reader.specs.Reading.{Reading, done, fault, visit, and_then, pay_for, run, structure_in, root_in, or_default, Sections}
use Rattle.cap_reader.specs.Places.{sections_at, data_at, child_at}

-- a reading that goes by the value of one that was paid for
abbrev pub going_on : {E A B : Type 0} → E → Result A E → ℕ → (A → Reading E B) → Result B E × ℕ
going_on too_much (Ok value) left next = pay_for too_much (next value) left
going_on too_much (Err e) left next = (Err e, left)

paid : {E A B : Type 0} (b : Bool) (e : E) (x : Result A E × ℕ) (left : ℕ) (next : A → Reading E B) (y : Result B E × ℕ) → y ≡ going_on e x.0 x.1 next
    → cond b (Err e, left) y ≡ going_on e (cond b (Err e, left) x).0 (cond b (Err e, left) x).1 next
paid true e x left next y p = refl
paid false e x left next y p = p

pub run_then : {E A B : Type 0} (too_much : E) (reading : Reading E A) (next : A → Reading E B) (words : ℕ) → pay_for too_much (and_then reading next) words ≡ going_on too_much (pay_for too_much reading words).0 (pay_for too_much reading words).1 next
unfolding pay_for and_then
run_then too_much (done value) next words = refl
run_then too_much (fault e) next words = refl
run_then too_much (visit cost rest) next words =
    paid (nat_lt words cost) too_much (pay_for too_much rest (words - cost)) words next (pay_for too_much (and_then rest next) (words - cost)) (run_then too_much rest next (words - cost))

-- ---- the root

pub root_found : (tree : Tree) (words left : ℕ) (found : Option Sections) → run (structure_in tree) words ≡ (Ok found, left) → run (root_in tree) words ≡ (Ok (or_default found), left)
unfolding pay_for
root_found tree words left found e =
    run_then TooMuch (structure_in tree) (λ (s : Option Sections). done (or_default s)) words
    ∙ ap (λ (ran : Result (Option Sections) ReadError × ℕ). going_on TooMuch ran.0 ran.1 (λ s. done (or_default s))) e

pub root_refused : (tree : Tree) (words left : ℕ) (e : ReadError) → run (structure_in tree) words ≡ (Err e, left) → run (root_in tree) words ≡ (Err e, left)
unfolding pay_for
root_refused tree words left e h =
    run_then TooMuch (structure_in tree) (λ (s : Option Sections). done (or_default s)) words
    ∙ ap (λ (ran : Result (Option Sections) ReadError × ℕ). going_on TooMuch ran.0 ran.1 (λ s. done (or_default s))) h

abbrev default_with : (ℕ → ℕ) → (ℕ → Tree) → Sections
default_with word child = record { data_words = 0; word = word; pointer_count = 0; child = child }

abbrev answer : Sections → ℕ → Result Sections ReadError × ℕ
answer s left = (Ok s, left)

-- the place of the empty struct
abbrev pub empty : StructAt
empty = record { segment = 0; start = 0; data_words = 0; pointer_count = 0; below = 0 }

no_word : (segments : List (List ℕ)) (i : ℕ) → 0 ≡ data_at segments empty i
no_word segments i = rw (le-ltb i 0 (omega arith)) refl

no_child : (segments : List (List ℕ)) (n : ℕ) → nothing ≡ child_at segments empty n
no_child segments n = rw (le-ltb n 0 (omega arith)) refl

-- an empty struct has the default in every field
pub empty_is_default : (segments : List (List ℕ)) → or_default None ≡ sections_at segments empty
empty_is_default segments =
    let words : ◌≡◌ {A = ℕ → ℕ} (λ i. 0) (data_at segments empty) = fun_ext (no_word segments) in
    let children : ◌≡◌ {A = ℕ → Tree} (λ n. nothing) (child_at segments empty) = fun_ext (no_child segments) in
    ap (λ (word : ℕ → ℕ). default_with word (λ n. nothing)) words ∙ ap (λ (child : ℕ → Tree). default_with (data_at segments empty) child) children

pub empty_root : (tree : Tree) (segments : List (List ℕ)) (words left : ℕ) → run (structure_in tree) words ≡ (Ok None, left) → run (root_in tree) words ≡ (Ok (sections_at segments empty), left)
empty_root tree segments words left e =
    root_found tree words left None e ∙ ap (λ (s : Sections). answer s left) (empty_is_default segments)
