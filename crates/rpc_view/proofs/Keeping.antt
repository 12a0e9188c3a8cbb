-- Two readings of which the second goes on where the first has a fault, and else makes the same visits to a value that
-- goes with the first one's: what the first gives, the second gives too.
use Rattle.std.proofs.Common.{◌≡◌, ℕ, zero, suc, ◌+◌, ◌-◌, ◌≤◌, inl, inr, List, [], ◌++◌, Result, Ok, Err, refl, arith}
use Rattle.std.proofs.lemmas.Bool.{cases_lt, lt-ltb, le-ltb}
use Rattle.cap_reader.specs.declared.read_error.ReadError.{ReadError}
use Rattle.cap_reader.specs.declared.read_error.ReadError.TheVariants as reads
use Rattle.cap_reader.specs.Reading.{Reading, done, fault, visit, and_then, pay_for, each}
use Rattle.rpc_view.specs.declared.view_error.ViewError.{ViewError}
use Rattle.rpc_view.specs.declared.view_error.ViewError.TheVariants as errors
use Rattle.rpc_view.specs.Reading.{part, run}

unfoldable pub Keeps : {E A : Type 0} → (A → A → Type 0) → Reading E A → Reading E A → Type 0
Keeps R (fault e) other = Unit {0}
Keeps R (done value) (done same) = R value same
Keeps R (done value) (fault e) = ⊥
Keeps R (done value) (visit cost rest) = ⊥
Keeps R (visit cost rest) (done same) = ⊥
Keeps R (visit cost rest) (fault e) = ⊥
Keeps R (visit cost rest) (visit same others) = (cost ≡ same) × Keeps R rest others

abbrev pub Same : {A : Type 0} → A → A → Type 0
Same value other = value ≡ other

module _ {E A B : Type 0} (R : A → A → Type 0) (S : B → B → Type 0) (next others : A → Reading E B) (q : (value other : A) → R value other → Keeps S (next value) (others other)) where
  pub keeps_then : (reading other : Reading E A) → Keeps R reading other → Keeps S (and_then reading next) (and_then other others)
  unfolding Keeps and_then
  keeps_then (fault e) other p = tt
  keeps_then (done value) (done same) p = q value same p
  keeps_then (done value) (fault e) p = absurd p
  keeps_then (done value) (visit cost rest) p = absurd p
  keeps_then (visit cost rest) (done same) p = absurd p
  keeps_then (visit cost rest) (fault e) p = absurd p
  keeps_then (visit cost rest) (visit same more) p = (p.0, keeps_then rest more p.1)

pub same_then : {E A B : Type 0} (reading other : Reading E A) (next others : A → Reading E B) → Keeps Same reading other → ((value : A) → Keeps Same (next value) (others value)) → Keeps Same (and_then reading next) (and_then other others)
same_then reading other next others p q = keeps_then Same Same next others (λ value same e. rw (← e) (q value)) reading other p

pub kept : (E : Type 0) {A : Type 0} (value : A) → Keeps {E = E} Same (done value) (done value)
unfolding Keeps
kept E value = refl

pub each_keeps : {E A : Type 0} (f g : ℕ → Reading E (List A)) → ((i : ℕ) → Keeps Same (f i) (g i)) → (n from : ℕ) → Keeps Same (each f from n) (each g from n)
unfolding each
each_keeps f g p zero from = kept _ []
each_keeps f g p (suc n) from =
    same_then (f from) (g from) _ _ (p from) (λ first. same_then (each f (from + 1) n) (each g (from + 1) n) _ _ (each_keeps f g p n (from + 1)) (λ others. kept _ (first ++ others)))

pub part_keeps : {A : Type 0} (R : A → A → Type 0) (reading other : Reading ReadError A) → Keeps R reading other → Keeps R (part reading) (part other)
unfolding Keeps part
part_keeps R (fault e) other p = tt
part_keeps R (done value) (done same) p = p
part_keeps R (done value) (fault e) p = absurd p
part_keeps R (done value) (visit cost rest) p = absurd p
part_keeps R (visit cost rest) (done same) p = absurd p
part_keeps R (visit cost rest) (fault e) p = absurd p
part_keeps R (visit cost rest) (visit same more) p = (p.0, part_keeps R rest more p.1)

-- ---- what is answered

pub err_ok : {A : Type 0} (e : ViewError) (value : A) → ◌≡◌ {A = Result A ViewError} (Err e) (Ok value) → ⊥
err_ok e value h = cc

ok_is : {A : Type 0} (value other : A) → ◌≡◌ {A = Result A ViewError} (Ok value) (Ok other) → value ≡ other
ok_is value other h = cc

-- what the first gives within so many words, the second gives within as many or more
pub raised : {A : Type 0} (R : A → A → Type 0) (reading other : Reading ViewError A) (words more : ℕ) (value : A) → Keeps R reading other → words ≤ more → (run reading words).0 ≡ Ok value → (same : A) × ((run other more).0 ≡ Ok same) × R value same
unfolding Keeps pay_for
raised R (fault e) other words more value p le h = absurd (err_ok e value h)
raised R (done found) (done same) words more value p le h = (same, refl, rw (← ok_is found value h) p)
raised R (done found) (fault e) words more value p le h = absurd p
raised R (done found) (visit cost rest) words more value p le h = absurd p
raised R (visit cost rest) (done same) words more value p le h = absurd p
raised R (visit cost rest) (fault e) words more value p le h = absurd p
raised R (visit cost rest) (visit same others) words more value p le h =
    elim (cases_lt words cost) [
      | inl few ↦ absurd (err_ok (errors.Read reads.TooMuch) value (rw (lt-ltb words cost few) at h))
      | inr enough ↦
          let there : same ≤ more = omega (arith, p.0, enough, le) in
          rw (le-ltb more same there) (raised R rest others (words - cost) (more - same) value p.1 (omega (arith, p.0, enough, le)) (rw (le-ltb words cost enough) at h))
    ]
