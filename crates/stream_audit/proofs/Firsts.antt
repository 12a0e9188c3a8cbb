-- The first of a list that isn't good, while it is looked for.
use Rattle.std.proofs.Common.{◌≡◌, ℕ, ◌+◌, List, Option, Some, None, Result, Ok, Err, true, false, sym, subst}
use Rattle.std.specs.Prelude.{IfOk, IfSome, MatchOption, slice_get}
use Rattle.std.specs.Option.{is_some}
use Rattle.std.specs.Result.{MatchResult, result_err}
use Rattle.audit_core.specs.Glue.{HoldsBefore, IsFirstNot}
use Rattle.audit_core.specs.Report.{HoldsOfEach}
use Rattle.audit_core.proofs.Places.{holds_more}

module _ {X L : Type 0} (P : X → Type 0) (Q : L → X → Type 0) (xs : List X) (n : ℕ) where
  -- the first n are good, or this is the line of the first that isn't
  abbrev pub FirstSoFar : Option L → Type 0
  FirstSoFar line = MatchOption line (HoldsBefore P xs n) (λ l. IsFirstNot P (Q l) xs)

module _ {X L : Type 0} (P : X → Type 0) (Q : L → X → Type 0) (xs : List X) (n : ℕ) (x : X) (at : slice_get xs n ≡ Some x) where
  -- one more is told of
  pub told_more : (G : ℕ → Type 0) (line next : Option L) (told : Result ℕ L) → MatchResult told (λ d. P x × G d) (λ l. Q l x) → is_some line ≡ false → next ≡ result_err told → FirstSoFar P Q xs n line → FirstSoFar P Q xs (n + 1) next
  told_more G None next (Ok d) so none is before = subst (FirstSoFar P Q xs (n + 1)) (sym is) (holds_more P xs n x at so.0 before)
  told_more G None next (Err l) so none is before = subst (FirstSoFar P Q xs (n + 1)) (sym is) (record { place = n; one = x; there = at; before = before; so = so })
  told_more G (Some l) next told so none is before = absurd cc

  -- there is a line already
  pub told_before : (line next : Option L) → is_some line ≡ true → next ≡ line → FirstSoFar P Q xs n line → FirstSoFar P Q xs (n + 1) next
  told_before None next some is before = absurd cc
  told_before (Some l) next some is before = subst (FirstSoFar P Q xs (n + 1)) (sym is) before

  -- the line of the first
  pub first_told : (line : Option L) → is_some line ≡ true → MatchOption line (P x) (λ l. Q l x) → HoldsBefore P xs n → MatchOption line (HoldsOfEach P xs) (λ l. IsFirstNot P (Q l) xs)
  first_told None some so before = absurd cc
  first_told (Some l) some so before = record { place = n; one = x; there = at; before = before; so = so }

  -- one more is good
  pub good_more : (line : Option L) → is_some line ≡ false → MatchOption line (P x) (λ l. Q l x) → HoldsBefore P xs n → HoldsBefore P xs (n + 1)
  good_more None none so before = holds_more P xs n x at so before
  good_more (Some l) none so before = absurd cc

pub first_of_all : {X L : Type 0} (P : X → Type 0) (Q : L → X → Type 0) (xs : List X) (n : ℕ) (line : Option L) → (HoldsBefore P xs n → HoldsOfEach P xs) → FirstSoFar P Q xs n line → MatchOption line (HoldsOfEach P xs) (λ l. IsFirstNot P (Q l) xs)
first_of_all P Q xs n None all before = all before
first_of_all P Q xs n (Some l) all before = before

-- ---- what is answered

pub some_so : {A : Type 0} (P : A → Type 0) (o : Option A) (a : A) → o ≡ Some a → IfSome o P → P a
some_so {A} P o a is = subst (λ (x : Option A). IfSome x P) is

pub ok_more : {A E : Type 0} (P Q : A → Type 0) (r : Result A E) → ((a : A) → P a → Q a) → IfOk r P → IfOk r Q
ok_more P Q (Ok a) more so = more a so
ok_more P Q (Err e) more so = tt
