-- Keys that are compared as equal are the same.
use Rattle.std.proofs.Common.{◌≡◌, ℕ, List, true, refl}
use Rattle.std.specs.declared.cmp.Ordering.{Ordering}
use Rattle.std.specs.declared.cmp.Ordering.TheVariants.{Less, Equal, Greater}
use Rattle.std.specs.Ordering.{is_eq, nat_cmp}
use Rattle.std.specs.Cmp.Lexicographic.{slice_cmp}
use Rattle.std.proofs.lemmas.Map.Lookups.{exact_pairs, exact_unsigned, exact_bytes}
use Rattle.log_ends.specs.Glue.{number_frame_cmp}

equal : (o : Ordering) → is_eq o ≡ true → o ≡ Equal
equal Less e = absurd cc
equal Equal e = refl
equal Greater e = absurd cc

pub same_key : (x y : ℕ × List ℕ) → is_eq (number_frame_cmp x y) ≡ true → x ≡ y
same_key x y e = exact_pairs nat_cmp (slice_cmp nat_cmp) exact_unsigned exact_bytes x y (equal (number_frame_cmp x y) e)

pub same_number : (x y : ℕ) → is_eq (nat_cmp x y) ≡ true → x ≡ y
same_number x y e = exact_unsigned x y (equal (nat_cmp x y) e)
