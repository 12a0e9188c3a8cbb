-- Paths are listed in rising order.
use Rattle.std.proofs.Common.{◌≡◌, ℕ, zero, suc, ◌+◌, ◌<◌, List, [], ◌∷◌, ◌++◌, Result, Ok, Err, refl, sym, ap, subst, ◌∙◌, append_assoc, arith, inl, inr}
use Rattle.std.specs.Prelude.{map, IfOk}
use Rattle.std.specs.List.{Contains, AllByRecursion}
use Rattle.std.specs.List.Sorted.{IsStrictlySortedBy}
use Rattle.std.specs.declared.cmp.Ordering.{Ordering}
use Rattle.std.specs.Ordering.{ordering_then, nat_cmp}
use Rattle.std.specs.declared.cmp.Ordering.TheVariants.{Less, Equal}
use Rattle.std.specs.Cmp.{nat_cmp_is}
use Rattle.std.specs.Cmp.Lexicographic.{slice_cmp}
use Rattle.std.proofs.lemmas.List.Elements.{Contains-append_cases, Contains-append_right}
use Rattle.cap_reader.specs.declared.read_error.ReadError.{ReadError}
use Rattle.cap_reader.specs.declared.read_error.ReadError.TheVariants as errors
use Rattle.cap_reader.specs.Tree.{Tree, nothing, structure, bad_structure, composite, bad_composite, plain, bad_plain, capability, reserved, unfollowed}
use Rattle.cap_reader.specs.Reading.{and_then, done, run, ending, each, RunsInMemory}
use Rattle.cap_reader.specs.Fields.{fields_in}
use Rattle.cap_reader.specs.Laws.{path_of, paths_of}
use Rattle.cap_reader.proofs.Prices.{ends_so}
use Rattle.cap_reader.proofs.Paths.{Entry, Listing, ok_is, no_ok, ending_then, each_sound, sound}

abbrev Rises : List Entry → Type 0
Rises found = IsStrictlySortedBy (slice_cmp nat_cmp) (paths_of found)

abbrev Above : List ℕ → List ℕ → Type 0
Above lower path = slice_cmp nat_cmp lower path ≡ Less

forks : (front p q : List ℕ) (m n : ℕ) → m < n → Above (front ++ m ∷ p) (front ++ n ∷ q)
forks [] p q m n lt = ap (λ (o : Ordering). ordering_then o (slice_cmp nat_cmp p q)) (sym (nat_cmp_is m n Less lt))
forks (k ∷ front) p q m n lt =
    ap (λ (o : Ordering). ordering_then o (slice_cmp nat_cmp (front ++ m ∷ p) (front ++ n ∷ q))) (sym (nat_cmp_is k k Equal refl)) ∙ forks front p q m n lt

-- ---- lists one behind another

all_paths : (lower : List ℕ) (found : List Entry) → ((y : Entry) → Contains found y → Above lower (path_of y)) → AllByRecursion (λ path. slice_cmp nat_cmp lower path ≡ Less) (map path_of found)
all_paths lower [] f = tt
all_paths lower (x ∷ found) f = (f x (0, omega arith, refl), all_paths lower found (λ y c. f y (Contains-append_right (x ∷ []) found y c)))

path_among : (P : List ℕ → Type 0) (found : List Entry) (y : Entry) → AllByRecursion P (map path_of found) → Contains found y → P (path_of y)
path_among P [] y a c = absurd (omega (arith, c.1))
path_among P (x ∷ found) y a (zero, lt, e) = subst (λ (z : Entry). P (path_of z)) e a.0
path_among P (x ∷ found) y a (suc k, lt, e) = path_among P found y a.1 (k, omega arith, e)

behind : (front found : List Entry) → Rises front → Rises found → ((x : Entry) → Contains front x → (y : Entry) → Contains found y → Above (path_of x) (path_of y)) → Rises (front ++ found)
unfolding IsStrictlySortedBy
behind [] found p q cross = q
behind (x ∷ front) found p q cross = (
  all_paths (path_of x) (front ++ found) (λ y c. elim (Contains-append_cases front found y c) [
    | inl h ↦ path_among (λ path. Above (path_of x) path) front y p.0 h
    | inr h ↦ cross x (0, omega arith, refl) y h
  ]),
  behind front found p.1 q (λ z c y h. cross z (Contains-append_right (x ∷ []) front z c) y h),
)

none_rises : (found : List Entry) → ◌≡◌ {A = Result (List Entry) ReadError} (Ok []) (Ok found) → Rises found
unfolding IsStrictlySortedBy
none_rises found e = let P : List Entry → Type 0 = λ l. Rises l in subst P (ok_is [] found e) tt

one_rises : (x : Entry) (found : List Entry) → ◌≡◌ {A = Result (List Entry) ReadError} (Ok (x ∷ [])) (Ok found) → Rises found
unfolding IsStrictlySortedBy
one_rises x found e = let P : List Entry → Type 0 = λ l. Rises l in subst P (ok_is (x ∷ []) found e) (tt, tt)

-- ---- the readings of one number after another

-- an entry stands below the number at the end of the front
abbrev From : List ℕ → ℕ → Entry → Type 0
From front n x = (path : List ℕ) × (path_of x ≡ front ++ n ∷ path)

crosses : (front : List ℕ) (x y : Entry) (m n : ℕ) → m < n → From front m x → From front n y → Above (path_of x) (path_of y)
crosses front x y m n lt p q =
    let P : List ℕ → Type 0 = λ path. Above path (path_of y) in
    let Q : List ℕ → Type 0 = λ path. Above (front ++ m ∷ p.0) path in
    subst P (sym p.1) (subst Q (sym q.1) (forks front p.0 q.0 m n lt))

module _ (front : List ℕ) (f : ℕ → Listing) (below : (n : ℕ) (found : List Entry) → ending (f n) ≡ Ok found → (x : Entry) → Contains found x → From front n x) (rises : (n : ℕ) (found : List Entry) → ending (f n) ≡ Ok found → Rises found) where
  each_rises : (n from : ℕ) (found : List Entry) → ending (each f from n) ≡ Ok found → Rises found
  unfolding each ending
  each_rises zero from found e = none_rises found e
  each_rises (suc n) from found e =
      let a = ending_then (f from) (λ first. and_then (each f (from + 1) n) (λ others. done (first ++ others))) found e in
      let b = ending_then (each f (from + 1) n) (λ others. done (a.0 ++ others)) found a.2 in
      let P : List Entry → Type 0 = λ l. Rises l in
      subst P (ok_is (a.0 ++ b.0) found b.2) (behind a.0 b.0 (rises from a.0 a.1) (each_rises n (from + 1) b.0 b.1)
      (λ x c y h. let r = each_sound f (From front) below n (from + 1) b.0 b.1 y h in crosses front x y from r.0 (omega (arith, r.1)) (below from a.0 a.1 x c) r.3))

-- ---- trees

tree_rises : (tree : Tree) (front : List ℕ) (found : List Entry) → ending (fields_in front tree) ≡ Ok found → Rises found
unfolding fields_in ending
tree_rises nothing front found e = none_rises found e
tree_rises (structure data_words word pointer_count child) front found e =
    each_rises front (λ n. fields_in (front ++ n ∷ []) (child n))
    (λ n l el x c. let r = sound (child n) (front ++ n ∷ []) l el x c in (r.0, r.1 ∙ append_assoc front (n ∷ []) r.0))
    (λ n. tree_rises (child n) (front ++ n ∷ [])) pointer_count 0 found e
tree_rises (bad_structure d) front found e = absurd (no_ok d found e)
tree_rises (composite n g) front found e = none_rises found e
tree_rises (bad_composite d) front found e = absurd (no_ok d found e)
tree_rises (plain element_size count word) front found e = none_rises found e
tree_rises (bad_plain element_size d) front found e = absurd (no_ok d found e)
tree_rises (capability index) front found e = one_rises (front, index) found e
tree_rises reserved front found e = absurd (no_ok _ found e)
tree_rises (unfollowed d) front found e = absurd (no_ok d found e)

pub listed_rise : (tree : Tree) (words left : ℕ) (found : List Entry) → run (fields_in [] tree) words ≡ (Ok found, left) → Rises found
listed_rise tree words left found e = tree_rises tree [] found (ends_so errors.TooMuch (fields_in [] tree) words left found e)

-- the same of what a call answers
pub rising_by : (tree : Tree) (result : Result (List Entry) ReadError) (left words : ℕ) → RunsInMemory (λ x. x) result left (run (fields_in [] tree) words) → IfOk result Rises
rising_by tree (Err e) left words h = tt
rising_by tree (Ok found) left words h = listed_rise tree words left found h
