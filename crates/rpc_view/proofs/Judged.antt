-- A body's data that isn't refused.
use Rattle.std.proofs.Common.{◌≡◌, ℕ, suc, ◌≤◌, Bool, false, Ok, refl, zero, arith}
use Rattle.cap_reader.specs.Tree.{Tree}
use Rattle.cap_reader.specs.Reading.{Sections}
use Rattle.rpc_view.specs.declared.edition.Edition.{Edition}
use Rattle.rpc_view.specs.Reading.{run, struct_in}
use Rattle.rpc_view.specs.Layouts.{call_send_results_to, call_only_promise_pipeline, message_tag, message_body}
use Rattle.rpc_view.specs.Message.{call_in, called_in, is_beyond, unless_refused, message_in, body_in}
use Rattle.rpc_view.proofs.Running.{run_then}

-- a call whose results go to the caller or stay with their answerer, in which nothing is beyond the edition
pub call_goes : (edition : Edition) (tree : Tree) (words left tag : ℕ) (field beyond : Bool) (call : Sections) → run (struct_in tree) words ≡ (Ok call, left) → tag ≡ call_send_results_to call → field ≡ call_only_promise_pipeline call → beyond ≡ is_beyond edition field → tag ≤ 2 → (tag ≡ 2 → ⊥) → beyond ≡ false
    → run (call_in edition tree) words ≡ run (called_in call) left
unfolding call_in unless_refused
call_goes edition tree words left zero field beyond call h tag_is field_is beyond_is le not_two is_false = rw (run_then, h, ← tag_is, ← field_is, ← beyond_is, is_false) refl
call_goes edition tree words left (suc zero) field beyond call h tag_is field_is beyond_is le not_two is_false = rw (run_then, h, ← tag_is, ← field_is, ← beyond_is, is_false) refl
call_goes edition tree words left (suc (suc n)) field beyond call h tag_is field_is beyond_is le not_two is_false =
    let two : suc (suc n) ≡ 2 = omega arith in
    absurd (not_two two)

-- a message whose root struct was read goes by its tag
pub message_goes : (edition : Edition) (tree : Tree) (words left : ℕ) (message : Sections) → run (struct_in tree) words ≡ (Ok message, left) → run (message_in edition tree) words ≡ run (body_in edition (message_tag message) (message_body message)) left
unfolding message_in
message_goes edition tree words left message h = rw (run_then, h) refl
