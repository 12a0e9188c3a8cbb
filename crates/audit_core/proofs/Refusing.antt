-- Why a case isn't audited, case by case.
use Rattle.std.proofs.Common.{◌≡◌, ℕ, ◌<◌, ◌≤◌, false, Option, Some, None, refl, sym, ap, inl, inr, eq-eqb}
use Rattle.std.specs.Prelude.{◌==◌, nat_lt}
use Rattle.std.specs.Option.{option_map}
use Rattle.std.proofs.lemmas.Bool.{lt-ltb, eqb-true}
use Rattle.case_book.specs.Case.{Contents}
use Rattle.case_book.specs.Ties.{tie_fault_of}
use Rattle.case_book.specs.declared.ties.TieFault.{TieFault}
use Rattle.case_book.specs.declared.ties.TieFault.TheVariants as tie
use Rattle.case_book.proofs.Numbers.{bool_cases, not_below}
use Rattle.audit_core.specs.Refusals.{tie_refusal, refusal_of, IsRefusal}
use Rattle.audit_core.specs.declared.error.AuditError.{AuditError}
use Rattle.audit_core.specs.declared.error.AuditError.TheVariants.{NoWorkers, TooManyWorkers, MissingLog, SameEnds, OutOfMemory}

not_zero : (n : ℕ) → (n ≡ 0 → ⊥) → (n == 0) ≡ false
not_zero n some =
    elim (bool_cases (n == 0)) [
      | inl same ↦ absurd (some (eqb-true n 0 same))
      | inr other ↦ other
    ]

pub no_workers : (held : Contents) (workers : ℕ) → workers ≡ 0 → Some NoWorkers ≡ refusal_of held workers
unfolding refusal_of
no_workers held workers none = rw (eq-eqb workers 0 none) refl

pub too_many : (held : Contents) (workers : ℕ) → (workers ≡ 0 → ⊥) → 64 < workers → Some TooManyWorkers ≡ refusal_of held workers
unfolding refusal_of
too_many held workers some many = rw (not_zero workers some, lt-ltb 64 workers many) refl

pub by_ties : (held : Contents) (workers : ℕ) (fault : Option TieFault) → (workers ≡ 0 → ⊥) → workers ≤ 64 → fault ≡ tie_fault_of held → option_map tie_refusal fault ≡ refusal_of held workers
unfolding refusal_of
by_ties held workers fault some few same = rw (not_zero workers some, not_below 64 workers few) (ap (option_map tie_refusal) same)

-- ---- what is refused is refused for a reason

no_memory : (fault : Option TieFault) → option_map tie_refusal fault ≡ Some OutOfMemory → ⊥
no_memory None e = cc
no_memory (Some (tie.MissingLog connection)) e = cc
no_memory (Some (tie.SameEnds connection)) e = cc

not_memory : (held : Contents) (workers : ℕ) → refusal_of held workers ≡ Some OutOfMemory → ⊥
unfolding refusal_of
not_memory held workers e =
    elim (bool_cases (workers == 0)) [
      | inl none ↦ (let h = rw none at e in cc)
      | inr some ↦ elim (bool_cases (nat_lt 64 workers)) [
        | inl many ↦ (let h = rw (some, many) at e in cc)
        | inr few ↦ no_memory (tie_fault_of held) (rw (some, few) at e)
      ]
    ]

pub is_refusal : (held : Contents) (workers : ℕ) (error : AuditError) → Some error ≡ refusal_of held workers → IsRefusal held workers error
is_refusal held workers NoWorkers e = sym e
is_refusal held workers TooManyWorkers e = sym e
is_refusal held workers (MissingLog connection) e = sym e
is_refusal held workers (SameEnds connection) e = sym e
is_refusal held workers OutOfMemory e = absurd (not_memory held workers (sym e))

-- ---- what isn't refused ties up

no_fault : (fault : Option TieFault) → option_map tie_refusal fault ≡ None → fault ≡ None
no_fault None e = refl
no_fault (Some fault) e = absurd cc

pub ties_up : (held : Contents) (workers : ℕ) → refusal_of held workers ≡ None → tie_fault_of held ≡ None
unfolding refusal_of
ties_up held workers e =
    elim (bool_cases (workers == 0)) [
      | inl none ↦ absurd (let h = rw none at e in cc)
      | inr some ↦ elim (bool_cases (nat_lt 64 workers)) [
        | inl many ↦ absurd (let h = rw (some, many) at e in cc)
        | inr few ↦ no_fault (tie_fault_of held) (rw (some, few) at e)
      ]
    ]
