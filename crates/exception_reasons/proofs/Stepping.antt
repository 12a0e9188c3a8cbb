-- What a reading of a reason gives, by what its first struct reads as.
use Rattle.std.proofs.Common.{◌≡◌, ◌≢◌, ◌==◌, ℕ, Bool, true, false, cond, List, Option, Some, None, Result, Ok, Err, refl, ap, ◌∙◌}
use Rattle.std.proofs.lemmas.Bool.{eq-eqb, ne_eqb}
use Rattle.cap_reader.specs.declared.read_error.ReadError.{ReadError}
use Rattle.cap_reader.specs.declared.read_error.ReadError.TheVariants.{TooMuch}
use Rattle.cap_reader.specs.Tree.{Tree, nothing}
use Rattle.cap_reader.specs.Reading.{Reading, done, and_then, pay_for, run, structure_in, root_in, text_in, or_default, Sections}
use Rattle.cap_reader.proofs.Running.{going_on, run_then, root_found, root_refused}
use Rattle.rpc_view.specs.Layouts.{message_tag, message_body, return_tag, resolve_tag}
use Rattle.exception_reasons.specs.Reasons.{exception_in, told_in, body_reason_in, reason_in}

module _ {A : Type 0} (next : Sections → Reading ReadError A) (tree : Tree) (words left : ℕ) where
  root_goes : (s : Sections) → run (root_in tree) words ≡ (Ok s, left) → run (and_then (root_in tree) next) words ≡ run (next s) left
  root_goes s h = run_then TooMuch (root_in tree) next words ∙ ap (λ (ran : Result Sections ReadError × ℕ). going_on TooMuch ran.0 ran.1 next) h

  root_stops : (e : ReadError) → run (root_in tree) words ≡ (Err e, left) → run (and_then (root_in tree) next) words ≡ (Err e, left)
  root_stops e h = run_then TooMuch (root_in tree) next words ∙ ap (λ (ran : Result Sections ReadError × ℕ). going_on TooMuch ran.0 ran.1 next) h

  goes : (found : Option Sections) → run (structure_in tree) words ≡ (Ok found, left) → run (and_then (root_in tree) next) words ≡ run (next (or_default found)) left
  goes found h = root_goes (or_default found) (root_found tree words left found h)

  stops : (e : ReadError) → run (structure_in tree) words ≡ (Err e, left) → run (and_then (root_in tree) next) words ≡ (Err e, left)
  stops e h = root_stops e (root_refused tree words left e h)

-- ---- an Exception

module _ (tree : Tree) (words left : ℕ) where
  pub exception_refused : (e : ReadError) → run (structure_in tree) words ≡ (Err e, left) → run (exception_in tree) words ≡ (Err e, left)
  unfolding exception_in
  exception_refused e h = stops (λ s. text_in (s.child 0)) tree words left e h

  pub exception_null : run (structure_in tree) words ≡ (Ok None, left) → run (exception_in tree) words ≡ (Ok None, left)
  unfolding exception_in pay_for
  exception_null h = goes (λ s. text_in (s.child 0)) tree words left None h

  pub exception_found : (s : Sections) → run (structure_in tree) words ≡ (Ok (Some s), left) → run (exception_in tree) words ≡ run (text_in (s.child 0)) left
  unfolding exception_in
  exception_found s h = goes (λ s. text_in (s.child 0)) tree words left (Some s) h

-- ---- a body that may have one

no_exception : (left : ℕ) → run (exception_in nothing) left ≡ (Ok None, left)
unfolding exception_in pay_for and_then
no_exception left = refl

either_way : (b : Bool) (left : ℕ) (x : Reading ReadError (Option (List ℕ))) → run x left ≡ (Ok None, left) → run (cond b x (done None)) left ≡ (Ok None, left)
unfolding pay_for
either_way true left x h = h
either_way false left x h = refl

module _ (tag : Sections → ℕ) (tree : Tree) (words left : ℕ) where
  abbrev told : Sections → Reading ReadError (Option (List ℕ))
  told s = cond (tag s == 1) (exception_in (s.child 0)) (done None)

  pub told_refused : (e : ReadError) → run (structure_in tree) words ≡ (Err e, left) → run (told_in tag tree) words ≡ (Err e, left)
  unfolding told_in
  told_refused e h = stops told tree words left e h

  pub told_null : run (structure_in tree) words ≡ (Ok None, left) → run (told_in tag tree) words ≡ (Ok None, left)
  unfolding told_in
  told_null h = goes told tree words left None h ∙ either_way (tag (or_default None) == 1) left (exception_in nothing) (no_exception left)

  pub told_found : (s : Sections) → run (structure_in tree) words ≡ (Ok (Some s), left) → tag s ≡ 1 → run (told_in tag tree) words ≡ run (exception_in (s.child 0)) left
  unfolding told_in
  told_found s h is = goes told tree words left (Some s) h ∙ rw (eq-eqb (tag s) 1 is) refl

  pub told_other : (s : Sections) → run (structure_in tree) words ≡ (Ok (Some s), left) → tag s ≢ 1 → run (told_in tag tree) words ≡ (Ok None, left)
  unfolding told_in pay_for
  told_other s h other = goes told tree words left (Some s) h ∙ rw (ne_eqb (tag s) 1 other) refl

  pub told_stops : (e : ReadError) → run (root_in tree) words ≡ (Err e, left) → run (told_in tag tree) words ≡ (Err e, left)
  unfolding told_in
  told_stops e h = root_stops told tree words left e h

  pub told_goes : (s : Sections) → run (root_in tree) words ≡ (Ok s, left) → run (told_in tag tree) words ≡ run (told s) left
  unfolding told_in
  told_goes s h = root_goes told tree words left s h

  pub told_none : (s : Sections) → run (root_in tree) words ≡ (Ok s, left) → tag s ≢ 1 → run (told_in tag tree) words ≡ (Ok None, left)
  unfolding pay_for
  told_none s h other = told_goes s h ∙ rw (ne_eqb (tag s) 1 other) refl

-- ---- a message

module _ (tree : Tree) (words left : ℕ) where
  pub reason_refused : (e : ReadError) → run (root_in tree) words ≡ (Err e, left) → run (reason_in tree) words ≡ (Err e, left)
  unfolding reason_in
  reason_refused e h = root_stops (λ s. body_reason_in (message_tag s) (message_body s)) tree words left e h

  pub reason_goes : (s : Sections) → run (root_in tree) words ≡ (Ok s, left) → run (reason_in tree) words ≡ run (body_reason_in (message_tag s) (message_body s)) left
  unfolding reason_in
  reason_goes s h = root_goes (λ s. body_reason_in (message_tag s) (message_body s)) tree words left s h

-- ---- a body by its tag

module _ (tag : ℕ) (body : Tree) (words : ℕ) where
  pub body_of_abort : tag ≡ 1 → run (body_reason_in tag body) words ≡ run (exception_in body) words
  unfolding body_reason_in
  body_of_abort is = ap (λ (t : ℕ). run (body_reason_in t body) words) is

  pub body_of_return : tag ≡ 3 → run (body_reason_in tag body) words ≡ run (told_in return_tag body) words
  unfolding body_reason_in
  body_of_return is = ap (λ (t : ℕ). run (body_reason_in t body) words) is

  pub body_of_resolve : tag ≡ 5 → run (body_reason_in tag body) words ≡ run (told_in resolve_tag body) words
  unfolding body_reason_in
  body_of_resolve is = ap (λ (t : ℕ). run (body_reason_in t body) words) is

  pub body_of_other : tag ≢ 1 → tag ≢ 3 → tag ≢ 5 → run (body_reason_in tag body) words ≡ (Ok None, words)
  unfolding body_reason_in pay_for
  body_of_other one three five = rw (ne_eqb tag 1 one, ne_eqb tag 3 three, ne_eqb tag 5 five) refl
