-- A log that is full before what comes next in it, and the message that this is.
use Rattle.std.proofs.Common.{◌≡◌, ℕ, List, inl, inr, subst, sym}
use Rattle.vat_log.specs.Log.{Log}
use Rattle.wire_cut.specs.declared.end.End.{End}
use Rattle.wire_cut.specs.declared.end.End.TheVariants.{A, B}
use Rattle.wire_steps.specs.Parts.{HasParts, IsFullBefore}
use Rattle.wire_steps.specs.declared.end_log.NextMessage.{NextMessage}
use Rattle.wire_steps.specs.declared.end_log.NextMessage.TheVariants.{Own, Peers}
use Rattle.wire_ends.specs.Glue.{IsMessageAt}
use Rattle.wire_ends.specs.Made.{IsFullAt, IsFullLog}

told_at : (end named : End) (log : Log) (message : ℕ) (at : End × ℕ) → IsFullLog end log named message → at ≡ (named, message) → IsFullLog end log at.0 at.1
told_at end named log message at is same =
    let P : End × ℕ → Type 0 = λ m. IsFullLog end log m.0 m.1 in subst P (sym same) is

-- what comes next behind a full log is that message of that end
pub full_before : (end : End) (next : NextMessage) (log : Log) (at : End × ℕ) → IsFullBefore next log → IsMessageAt end next at → IsFullLog end log at.0 at.1
full_before A (Own message) log at is told = told_at A A log message at (record { full = is.full; next = is.message }) told
full_before A (Peers message) log at is told = told_at A B log message at (record { full = is.full; next = is.message }) told
full_before B (Own message) log at is told = told_at B B log message at (record { full = is.full; next = is.message }) told
full_before B (Peers message) log at is told = told_at B A log message at (record { full = is.full; next = is.message }) told

-- the log of either end that is full is that of one of both
pub full_of_a : (a b : List (List ℕ)) (log : Log) (end : End) (message : ℕ) → log.vat ≡ 1 → HasParts a b log → IsFullLog A log end message → IsFullAt a b log end message
full_of_a a b log end message vat parts full = inl (record { vat_is = vat; parts = parts; full = full })

pub full_of_b : (a b : List (List ℕ)) (log : Log) (end : End) (message : ℕ) → log.vat ≡ 2 → HasParts b a log → IsFullLog B log end message → IsFullAt a b log end message
full_of_b a b log end message vat parts full = inr (record { vat_is = vat; parts = parts; full = full })
