-- Pointers that correspond have the same value, however their frames are cut.
use Rattle.std.proofs.Common.{◌≡◌, ℕ, zero, suc, ◌+◌, ◌*◌, ◌%◌, ◌<◌, Bool, true, false, cond, ◌&&◌, List, Option, Some, None, Result, Ok, Err, refl, ap, ◌∙◌, inl, inr}
use Rattle.std.specs.Prelude.{nat_lt, nat_le, ◌==◌, slice_index, if◌then◌else◌}
use Rattle.std.specs.Bool.{MatchBool}
use Rattle.std.proofs.Math.Path.{fun_ext}
use Rattle.std.proofs.lemmas.Bool.{cases_lt, lt-ltb, le-ltb}
use Rattle.cap_reader.specs.declared.pointee.Pointee.{Pointee}
use Rattle.cap_reader.specs.declared.pointee.Pointee.TheVariants as leads
use Rattle.cap_reader.specs.declared.read_error.ReadError.{ReadError}
use Rattle.cap_reader.specs.declared.read_error.ReadError.TheVariants.{OutOfSegment, WrongKind}
use Rattle.cap_reader.specs.Pointers.{offset_bits, data_bits, pointer_bits, words_of, words_at, has_words, extent, pointee_at}
use Rattle.cap_reader.specs.Tree.{Tree, nothing, structure, composite, bad_composite, plain, capability, unfollowed, structure_there, elements_behind, composite_there, plain_words, plain_there, list_there, tree_behind, structure_at, tree_at}
use Rattle.cap_reader.specs.Cuts.{Pairs, SameWords, SameContent, SameElements, SameExtents, SameLists, SamePointees, Correspond}

-- below a bound as there, and the same beyond it
guarded : {A : Type 0} (k n : ℕ) (x y z : A) → (k < n → x ≡ y) → cond (nat_lt k n) x z ≡ cond (nat_lt k n) y z
guarded k n x y z e =
    elim (cases_lt k n) [
      | inl lt ↦ rw (lt-ltb k n lt) (e lt)
      | inr ge ↦ rw (le-ltb k n ge) refl
    ]

same_words : (one other : List (List ℕ)) (s t x y size : ℕ) → SameWords one other s t x y size → ◌≡◌ {A = ℕ → ℕ} (words_at one s x size) (words_at other t y size)
same_words one other s t x y size h = fun_ext (λ i. guarded i size _ _ 0 (h i))

-- ---- what pointers lead to, where structs with the same content are the same

module _ (pairs : Pairs) (one other : List (List ℕ)) (first second : ℕ → ℕ → ℕ → ℕ → Tree)
    (same : (s t x y d p : ℕ) → SameContent pairs one other s t x y d p → first s x d p ≡ second t y d p) where
  structs : (s t d p : ℕ) (x y : Option ℕ) → SameExtents (λ here there. SameContent pairs one other s t here there d p) x y
      → structure_there (λ at. first s at d p) x ≡ structure_there (λ at. second t at d p) y
  structs s t d p None None h = refl
  structs s t d p None (Some y) h = absurd h
  structs s t d p (Some x) None h = absurd h
  structs s t d p (Some x) (Some y) h = same s t x y d p h

  abbrev element_of : (ℕ → ℕ → ℕ → ℕ → Tree) → ℕ → ℕ → ℕ → ℕ → Tree
  element_of made s at tag k =
      if nat_lt k (offset_bits tag) then made s (at + 1 + k * (data_bits tag + pointer_bits tag)) (data_bits tag) (pointer_bits tag) else nothing

  abbrev behind : ℕ → Bool → ℕ → (ℕ → Tree) → Tree
  behind size reaches tag made =
      if tag % 4 == 0
      then (if reaches && nat_le (offset_bits tag * (data_bits tag + pointer_bits tag)) size then composite (offset_bits tag) made else bad_composite OutOfSegment)
      else bad_composite WrongKind

  elements : (s t size i j : ℕ) → SameElements pairs one other s t size i j → elements_behind (first s) one s size i ≡ elements_behind (second t) other t size j
  unfolding elements_behind
  elements s t size i j h =
      let tag = slice_index (words_of one s) i in
      let made : element_of first s i tag ≡ element_of second t j tag = fun_ext (λ k. guarded k (offset_bits tag) _ _ nothing (λ lt. same s t _ _ _ _ (h.2 k lt))) in
      ap (behind size (has_words one s (i + 1 + size)) tag) made
      ∙ ap (λ (reaches : Bool). behind size reaches tag (element_of second t j tag)) h.1
      ∙ ap (λ (w : ℕ). behind size (has_words other t (j + 1 + size)) w (element_of second t j w)) h.0

  composites : (s t size : ℕ) (x y : Option ℕ) → SameExtents (SameElements pairs one other s t size) x y
      → composite_there (first s) one s size x ≡ composite_there (second t) other t size y
  composites s t size None None h = refl
  composites s t size None (Some j) h = absurd h
  composites s t size (Some i) None h = absurd h
  composites s t size (Some i) (Some j) h = elements s t size i j h

  plains : (s t size count : ℕ) (x y : Option ℕ) → SameExtents (λ here there. SameWords one other s t here there (plain_words size count)) x y
      → plain_there one s size count x ≡ plain_there other t size count y
  plains s t size count None None h = refl
  plains s t size count None (Some j) h = absurd h
  plains s t size count (Some i) None h = absurd h
  plains s t size count (Some i) (Some j) h = ap (plain size count) (same_words one other s t i j (plain_words size count) h)

  lists : (s t : ℕ) (x y : Option ℕ) (size count : ℕ) → SameLists pairs one other s t x y size count → list_there (first s) one s x size count ≡ list_there (second t) other t y size count
  unfolding list_there
  lists s t x y size count h =
      by (size == 7) h
    where
      by : (b : Bool) → MatchBool b (SameExtents (SameElements pairs one other s t count) (extent one s x 1) (extent other t y 1)) (SameExtents (λ here there. SameWords one other s t here there (plain_words size count)) (extent one s x (plain_words size count)) (extent other t y (plain_words size count)))
          → cond b (composite_there (first s) one s count (extent one s x 1)) (plain_there one s size count (extent one s x (plain_words size count)))
          ≡ cond b (composite_there (second t) other t count (extent other t y 1)) (plain_there other t size count (extent other t y (plain_words size count)))
      by true g = composites s t count (extent one s x 1) (extent other t y 1) g
      by false g = plains s t size count (extent one s x (plain_words size count)) (extent other t y (plain_words size count)) g

  leads_alike : (p q : Result Pointee ReadError) → SamePointees pairs one other p q → tree_behind first one p ≡ tree_behind second other q
  unfolding tree_behind
  leads_alike (Err e) (Err d) h = ap unfollowed h
  leads_alike (Ok leads.Null) (Ok leads.Null) h = refl
  leads_alike (Ok (leads.Struct s x d p)) (Ok (leads.Struct t y d' p')) h =
      rw (← h.0, ← h.1) (structs s t d p (extent one s x (d + p)) (extent other t y (d + p)) h.2)
  leads_alike (Ok (leads.List s x size count)) (Ok (leads.List t y size' count')) h =
      rw (← h.0, ← h.1) (lists s t x y size count h.2)
  leads_alike (Ok (leads.Capability i)) (Ok (leads.Capability j)) h = ap capability h
  leads_alike (Ok leads.Reserved) (Ok leads.Reserved) h = refl
  leads_alike p q h = absurd h

-- ---- trees

structure_is : (d p : ℕ) (w v : ℕ → ℕ) (c e : ℕ → Tree) → w ≡ v → c ≡ e → structure d w p c ≡ structure d v p e
structure_is d p w v c e words children = ap (λ (u : ℕ → ℕ). structure d u p c) words ∙ ap (structure d v p) children

module _ (pairs : Pairs) (one other : List (List ℕ)) (alike : Correspond pairs one other) where
  at_depth : (depth s t x y d p : ℕ) → SameContent pairs one other s t x y d p → structure_at depth one s x d p ≡ structure_at depth other t y d p
  unfolding structure_at
  at_depth zero s t x y d p h = refl
  at_depth (suc depth) s t x y d p h =
      let children : ◌≡◌ {A = ℕ → Tree} (λ n. if nat_lt n p then tree_behind (structure_at depth one) one (pointee_at one s (x + d + n)) else nothing) (λ n. if nat_lt n p then tree_behind (structure_at depth other) other (pointee_at other t (y + d + n)) else nothing) =
      fun_ext (λ n. guarded n p _ _ nothing (λ lt. leads_alike pairs one other (structure_at depth one) (structure_at depth other) (at_depth depth) _ _ (alike s (x + d + n) t (y + d + n) (h.1 n lt)))) in
      structure_is d p _ _ _ _ (same_words one other s t x y d h.0) children

  pub trees_alike : (depth s x t y : ℕ) → pairs s x t y ≡ true → tree_at depth one s x ≡ tree_at depth other t y
  trees_alike depth s x t y h =
      leads_alike pairs one other (structure_at depth one) (structure_at depth other) (at_depth depth) (pointee_at one s x) (pointee_at other t y) (alike s x t y h)
