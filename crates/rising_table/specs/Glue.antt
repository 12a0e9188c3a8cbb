-- For the code's contracts, and no part of the meaning: a table's row, and what a search in it finds.
use Rattle.std.specs.Prelude.{ℕ, ◌≡◌, ◌<◌, ◌≤◌, List, length, slice_index_or}
use Rattle.std.specs.Ordering.{nat_cmp}
use Rattle.std.specs.Map.{keys_of}
use Rattle.std.specs.List.Sorted.{IsStrictlySortedBy}

-- the number of the entry at a place
abbrev pub key_at : {X : Type 0} → List (ℕ × X) → ℕ → ℕ
key_at es i = slice_index_or (keys_of es) i 0

-- the numbers rise, so none comes twice
abbrev pub AreRising : {X : Type 0} → List (ℕ × X) → Type 0
AreRising es = IsStrictlySortedBy nat_cmp (keys_of es)

-- the entry at a place has the number
pub record IsAt {X : Type 0} (es : List (ℕ × X)) (k i : ℕ) : Type 0 where
  pub in_range : i < length es
  pub has_key : key_at es i ≡ k

-- the number would go to a place: smaller ones before it, and greater ones from it on
pub record IsGapFor {X : Type 0} (es : List (ℕ × X)) (k i : ℕ) : Type 0 where
  pub in_range : i ≤ length es
  pub smaller_before : (j : ℕ) → j < i → key_at es j < k
  pub greater_after : (j : ℕ) → i ≤ j → j < length es → k < key_at es j
