-- Only exceptions have reasons.
use Rattle.std.proofs.Common.{◌≡◌, ◌≢◌, ℕ, Bool, true, false, List, [], ◌∷◌, Option, Some, None, Result, Ok, Err, refl, sym, ap, subst, ◌∙◌, inl, inr, arith}
use Rattle.std.proofs.lemmas.Bool.{cases_eq, eq-eqb, ne_eqb}
use Rattle.cap_frame.specs.declared.frame_error.FrameError.{FrameError}
use Rattle.cap_reader.specs.declared.limits.Limits.{Limits}
use Rattle.cap_reader.specs.declared.read_error.ReadError.{ReadError}
use Rattle.cap_reader.specs.Tree.{Tree, root_tree}
use Rattle.cap_reader.specs.Reading.{Reading, and_then, pay_for, root_in, Sections}
use Rattle.cap_reader.specs.Reading as trees
use Rattle.rpc_view.specs.declared.edition.Edition.{Edition}
use Rattle.rpc_view.specs.declared.message.RpcMessage.{RpcMessage}
use Rattle.rpc_view.specs.declared.message.RpcMessage.TheVariants as messages
use Rattle.rpc_view.specs.declared.view_error.ViewError.{ViewError}
use Rattle.rpc_view.specs.Reading.{struct_in, run}
use Rattle.rpc_view.specs.Layouts.{message_tag, message_body, return_tag, resolve_tag}
use Rattle.rpc_view.specs.Message.{message_in, message_of, message_in_frame, body_in, unless_refused, return_refusals, return_in, returned_in, outcome_in, resolve_in}
use Rattle.rpc_view.proofs.Running.{and_run, run_then}
use Rattle.rpc_view.proofs.Parts.{part_answers}
use Rattle.exception_reasons.specs.Exceptions.{has_exception}
use Rattle.exception_reasons.specs.Reasons.{told_in, body_reason_in, reason_in, if_read, reason_in_frame}
use Rattle.exception_reasons.proofs.Stepping.{told_stops, told_none, reason_refused, reason_goes}

none_some : (reason : List ℕ) → ◌≡◌ {A = Option (List ℕ)} None (Some reason) → ⊥
none_some reason e = cc

excepting : (found message : RpcMessage) → has_exception found ≡ true → ◌≡◌ {A = Result RpcMessage ViewError} (Ok found) (Ok message) → has_exception message ≡ true
excepting found message h e =
    let same : found ≡ message = cc in
    subst (λ (m : RpcMessage). has_exception m ≡ true) same h

-- a message that goes on behind a struct
said_goes : (next : Sections → Reading ViewError RpcMessage) (tree : Tree) (words left : ℕ) (s : Sections) → trees.run (root_in tree) words ≡ (Ok s, left) → run (and_then (struct_in tree) next) words ≡ run (next s) left
said_goes next tree words left s h =
    run_then (struct_in tree) next words ∙ ap (λ (ran : Result Sections ViewError × ℕ). and_run ran next) (part_answers (root_in tree) words left s h)

-- what is read wasn't refused
not_refused : (refusals : List (Bool × ViewError)) (reading : Reading ViewError RpcMessage) (words : ℕ) (message : RpcMessage) → (run (unless_refused refusals reading) words).0 ≡ Ok message → (run reading words).0 ≡ Ok message
unfolding unless_refused pay_for
not_refused [] reading words message h = h
not_refused ((true, e) ∷ others) reading words message h =
    let other : ⊥ = cc in
    absurd other
not_refused ((false, e) ∷ others) reading words message h = not_refused others reading words message h

-- ---- a Return

returned_excepting : (s : Sections) (words : ℕ) (message : RpcMessage) → return_tag s ≡ 1 → (run (returned_in s) words).0 ≡ Ok message → has_exception message ≡ true
unfolding returned_in outcome_in and_then pay_for
returned_excepting s words message one h =
    let not_zero : return_tag s ≢ 0 = λ zero. absurd (omega (arith, one, zero)) in
    excepting _ message refl (rw (ne_eqb (return_tag s) 0 not_zero, eq-eqb (return_tag s) 1 one) at h)

return_excepting : (edition : Edition) (body : Tree) (words : ℕ) (message : RpcMessage) (reason : List ℕ) (ran : Result Sections ReadError × ℕ) → trees.run (root_in body) words ≡ ran
    → (run (return_in edition body) words).0 ≡ Ok message → if_read (trees.run (told_in return_tag body) words).0 ≡ Some reason → has_exception message ≡ true
unfolding return_in
return_excepting edition body words message reason (Err e, left) h said why =
    absurd (none_some reason (rw (told_stops return_tag body words left e h) at why))
return_excepting edition body words message reason (Ok s, left) h said why =
    let goes = said_goes (λ answer. unless_refused (return_refusals edition answer) (returned_in answer)) body words left s h in
    let read : (run (returned_in s) left).0 ≡ Ok message = not_refused (return_refusals edition s) (returned_in s) left message (ap (λ (ran : Result RpcMessage ViewError × ℕ). ran.0) (sym goes) ∙ said) in
    elim (cases_eq (return_tag s) 1) [
      | inl one ↦ returned_excepting s left message one read
      | inr other ↦ absurd (none_some reason (rw (told_none return_tag body words left s h other) at why))
    ]

-- ---- a Resolve

resolve_excepting : (body : Tree) (words : ℕ) (message : RpcMessage) (reason : List ℕ) (ran : Result Sections ReadError × ℕ) → trees.run (root_in body) words ≡ ran
    → (run (resolve_in body) words).0 ≡ Ok message → if_read (trees.run (told_in resolve_tag body) words).0 ≡ Some reason → has_exception message ≡ true
unfolding resolve_in pay_for
resolve_excepting body words message reason (Err e, left) h said why =
    absurd (none_some reason (rw (told_stops resolve_tag body words left e h) at why))
resolve_excepting body words message reason (Ok s, left) h said why =
    let goes = said_goes _ body words left s h in
    let read = ap (λ (ran : Result RpcMessage ViewError × ℕ). ran.0) (sym goes) ∙ said in
    elim (cases_eq (resolve_tag s) 1) [
      | inl one ↦
          let not_zero : resolve_tag s ≢ 0 = λ zero. absurd (omega (arith, one, zero)) in
          excepting _ message refl (rw (ne_eqb (resolve_tag s) 0 not_zero, eq-eqb (resolve_tag s) 1 one) at read)
      | inr other ↦ absurd (none_some reason (rw (told_none resolve_tag body words left s h other) at why))
    ]

-- ---- any message

no_body : (tag : ℕ) (body : Tree) (words : ℕ) → tag ≢ 1 → tag ≢ 3 → tag ≢ 5 → if_read (trees.run (body_reason_in tag body) words).0 ≡ None
unfolding body_reason_in pay_for
no_body tag body words one three five = rw (ne_eqb tag 1 one, ne_eqb tag 3 three, ne_eqb tag 5 five) refl

body_excepting : (edition : Edition) (tag : ℕ) (body : Tree) (words : ℕ) (message : RpcMessage) (reason : List ℕ) → (run (body_in edition tag body) words).0 ≡ Ok message → if_read (trees.run (body_reason_in tag body) words).0 ≡ Some reason → has_exception message ≡ true
unfolding body_in body_reason_in pay_for
body_excepting edition tag body words message reason said why =
    elim (cases_eq tag 1) [
      | inl one ↦ excepting messages.Abort message refl (rw one at said)
      | inr not_one ↦ elim (cases_eq tag 3) [
        | inl three ↦ return_excepting edition body words message reason (trees.run (root_in body) words) refl (rw three at said) (rw three at why)
        | inr not_three ↦ elim (cases_eq tag 5) [
          | inl five ↦ resolve_excepting body words message reason (trees.run (root_in body) words) refl (rw five at said) (rw five at why)
          | inr not_five ↦ absurd (none_some reason (sym (no_body tag body words not_one not_three not_five) ∙ why))
        ]
      ]
    ]

message_excepting : (edition : Edition) (tree : Tree) (words : ℕ) (message : RpcMessage) (reason : List ℕ) (ran : Result Sections ReadError × ℕ) → trees.run (root_in tree) words ≡ ran
    → (run (message_in edition tree) words).0 ≡ Ok message → if_read (trees.run (reason_in tree) words).0 ≡ Some reason → has_exception message ≡ true
unfolding message_in
message_excepting edition tree words message reason (Err e, left) h said why =
    absurd (none_some reason (rw (reason_refused tree words left e h) at why))
message_excepting edition tree words message reason (Ok s, left) h said why =
    let goes = said_goes (λ found. body_in edition (message_tag found) (message_body found)) tree words left s h in
    body_excepting edition (message_tag s) (message_body s) left message reason (ap (λ (ran : Result RpcMessage ViewError × ℕ). ran.0) (sym goes) ∙ said) (rw (reason_goes tree words left s h) at why)

pub frame_excepting : (frame : Result (List (List ℕ)) FrameError) (edition : Edition) (limits : Limits) (message : RpcMessage) (reason : List ℕ) → message_in_frame edition frame limits ≡ Ok message → reason_in_frame frame limits ≡ Some reason → has_exception message ≡ true
unfolding message_of
frame_excepting (Err e) edition limits message reason said why = absurd (none_some reason why)
frame_excepting (Ok segments) edition limits message reason said why =
    message_excepting edition (root_tree limits.depth segments) limits.words message reason (trees.run (root_in (root_tree limits.depth segments)) limits.words) refl said why
