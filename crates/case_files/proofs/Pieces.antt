-- The bytes of a file in a list, piece by piece.
use Rattle.std.proofs.Common.{◌≡◌, ℕ, zero, suc, ◌+◌, ◌<◌, ◌≤◌, Bool, true, false, List, [], ◌∷◌, ◌++◌, length, take, drop, nat_eq, Option, None, Some, refl, sym, ap, ◌∙◌, arith}
use Rattle.std.specs.Prelude.{◌&&◌, is_some}
use Rattle.std.specs.List.{starts_with}
use Rattle.std.proofs.lemmas.Bool.{eqb-true}
use Rattle.std.proofs.lemmas.List.{drop_all, take-append-drop}
use Rattle.byte_pieces.specs.Coming.{Brings, ComesOn, MayBeAll}
use Rattle.byte_pieces.specs.declared.fault.PieceFault.{PieceFault}

both : (p q : Bool) → p && q ≡ true → (p ≡ true) × (q ≡ true)
both true q is = (refl, is)
both false q is = absurd (let no : ⊥ = cc in no)

-- what some bytes begin with
begun : (all came : List ℕ) → starts_with nat_eq all came ≡ true → all ≡ came ++ drop (length came) all
begun all [] is = refl
begun [] (b ∷ came) is = absurd (let no : ⊥ = cc in no)
begun (a ∷ all) (b ∷ came) is =
    ap (λ (x : ℕ). x ∷ all) (sym (eqb-true b a (both (nat_eq b a) (starts_with nat_eq all came) is).0))
    ∙ ap (λ (bs : List ℕ). b ∷ bs) (begun all came (both (nat_eq b a) (starts_with nat_eq all came) is).1)

pub may_be_front : (all came : List ℕ) (is_over : Bool) → starts_with nat_eq all came ≡ true → (is_over ≡ true → length all ≡ length came) → MayBeAll came is_over all
may_be_front all came is_over is ended = record {
  more = drop (length came) all;
  parts = begun all came is;
  over = λ over. none_left all (length came) (let e = ended over in omega (arith, e));
}
  where
    none_left : (xs : List ℕ) (n : ℕ) → length xs ≤ n → drop n xs ≡ []
    none_left [] zero h = refl
    none_left [] (suc n) h = refl
    none_left (x ∷ xs) zero h = absurd (omega (arith, h))
    none_left (x ∷ xs) (suc n) h = none_left xs n (omega (arith, h))

taken_none : (n : ℕ) → take {A = ℕ} n [] ≡ []
taken_none zero = refl
taken_none (suc n) = refl

dropped_none : (n : ℕ) → drop {A = ℕ} n [] ≡ []
dropped_none zero = refl
dropped_none (suc n) = refl

-- so many bytes, and so many behind them
take_both : (bytes : List ℕ) (n m : ℕ) → take (n + m) bytes ≡ take n bytes ++ take m (drop n bytes)
take_both [] n m = taken_none (n + m) ∙ sym (ap (λ (bs : List ℕ). bs ++ take m (drop {A = ℕ} n [])) (taken_none n) ∙ ap (take m) (dropped_none n) ∙ taken_none m)
take_both (b ∷ bytes) zero m = let e : 0 + m ≡ m = omega arith in rw e refl
take_both (b ∷ bytes) (suc n) m = let e : suc n + m ≡ suc (n + m) = omega arith in rw e (ap (λ (bs : List ℕ). b ∷ bs) (take_both bytes n m))

taken_length : (bytes : List ℕ) (n : ℕ) → n ≤ length bytes → length (take n bytes) ≡ n
taken_length bytes zero h = refl
taken_length [] (suc n) h = absurd (omega (arith, h))
taken_length (b ∷ bytes) (suc n) h = ap suc (taken_length bytes n (omega (arith, h)))

pub brings : (bytes rest window left : List ℕ) (given count : ℕ) → left ≡ drop given bytes → 0 < count → count ≤ length left → window ≡ rest ++ take count left
    → Brings rest (take given bytes) window (take (given + count) bytes)
brings bytes rest window left given count left_is some few is = record {
  piece = take count left;
  some = (let long = taken_length left count few in omega (arith, some, long));
  behind_rest = is;
  behind_all = take_both bytes given count ∙ ap (λ (l : List ℕ). take given bytes ++ take count l) (sym left_is);
}

pub not_over : {A : Type 0} (is_over : Bool) → mathlib.Core.Bool.not is_over ≡ true → is_over ≡ true → A
not_over true still over = absurd (let no : ⊥ = cc in no)
not_over false still over = absurd (let no : ⊥ = cc in no)

pub same_length : (n m : ℕ) → nat_eq n m ≡ true → n ≡ m
same_length n m is = eqb-true n m is

pub some_left : (n : ℕ) → nat_eq n 0 ≡ false → 0 < n
some_left zero is = absurd (let no : ⊥ = cc in no)
some_left (suc n) is = omega arith

-- what came is of the bytes, and all of them where it is over
pub part_of : (bytes : List ℕ) (n : ℕ) (is_over : Bool) → (is_over ≡ true → length bytes ≤ n) → MayBeAll (take n bytes) is_over bytes
part_of bytes n is_over all = record { more = drop n bytes; parts = sym (take-append-drop n bytes); over = λ over. drop_all n bytes (all over) }

-- more of them came, where more can be read
pub listed_on : (bytes : List ℕ) (given count : ℕ) (is_over : Bool) (fault : Option PieceFault) → fault ≡ None → (is_over ≡ true → length bytes ≤ given)
    → ComesOn (record { bytes = take given bytes; is_over = is_over; fault = fault; whole = Some bytes }) (record { bytes = take (given + count) bytes; is_over = is_over; fault = fault; whole = Some bytes })
listed_on bytes given count is_over fault none all = record {
  first = record {
    more = take count (drop given bytes);
    parts = take_both bytes given count;
    over = λ over. ap (take count) (drop_all given bytes (all over)) ∙ taken_none count;
  };
  over = λ over. over;
  whole = refl;
  fault = λ some. absurd (no_fault fault some none);
}
  where
    no_fault : (o : Option PieceFault) → is_some o ≡ true → o ≡ None → ⊥
    no_fault None some none = cc
    no_fault (Some f) some none = cc
