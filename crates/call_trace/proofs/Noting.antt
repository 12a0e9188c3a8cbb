-- What tables of places say, one step further.
use Rattle.std.proofs.Common.{◌≡◌, ℕ, refl, ◌==◌, Bool, true, false, ◌&&◌, ◌||◌, if◌then◌else◌, arith, max, nat_lt}
use Rattle.std.specs.Ordering.{is_eq}
use Rattle.std.proofs.lemmas.Bool.Decides.{nat_tests}
use Rattle.call_trace.specs.Glue.Overtaking.{vat_number_cmp}

-- keys are one where both parts are
pub at_key : (vat number v n : ℕ) → is_eq (vat_number_cmp (vat, number) (v, n)) ≡ ((vat == v) && (number == n))
at_key vat number v n = grind (arith, nat_tests)

later_max : (k p old : ℕ) → nat_lt k (max p old) ≡ (nat_lt k p || nat_lt k old)
later_max k p old = grind (arith, nat_tests)

-- a number is below what a table says now
pub later_if : (b : Bool) (k p old : ℕ) → nat_lt k (if b then max p old else old) ≡ ((b && nat_lt k p) || nat_lt k old)
later_if true k p old = later_max k p old
later_if false k p old = refl
