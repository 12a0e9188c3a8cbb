-- Names of files, one after another.
use Rattle.std.proofs.Common.{◌≡◌, ◌⊎◌, ◌∙◌, ◌+◌, ◌<◌, ◌≤◌, ◌++◌, ℕ, zero, suc, List, [], ◌∷◌, length, map, drop, get_or, codes, Option, Some, None, option_map, option_and_then, String, Global, string_bytes, inl, inr, refl, sym, ap, subst, arith, append_assoc, append-nil}
use Rattle.std.specs.Prelude.{slice_get}
use Rattle.std.specs.Fmt.{decimal}
use Rattle.std.specs.Path.{path_file_name}
use Rattle.std.proofs.lemmas.Bool.{cases_lt}
use Rattle.std.proofs.lemmas.Option.{same_Some, slice_get_within}
use Rattle.case_files.specs.FileNames.{AreApart, AreFileNames, IsCounted, own_names}
use Rattle.case_files.specs.Glue.{NamesAreApartUpTo, IsFree, IsNotBefore, IsNameTaken}

three_ways : (a b : ℕ) → (a < b) ⊎ ((a ≡ b) ⊎ (b < a))
three_ways a b = elim (cases_lt a b) [
  | inl less ↦ inl less
  | inr more ↦ elim (cases_lt b a) [ inl less ↦ inr (inr less) | inr same ↦ inr (inl (omega (arith, more, same))) ]
]

-- ---- the names of paths

-- what is read of an item, before those behind it
pub text_at : {A : Type 0} (text : A → List ℕ) (xs : List A) (i : ℕ) (x : A) → i < length xs → x ≡ get_or xs i x
    → map text (drop i xs) ≡ text x ∷ map text (drop (i + 1) xs)
text_at text [] i x h is = absurd (omega arith)
text_at text (y ∷ xs) zero x h is = ap (λ z. text z ∷ map text xs) (sym is)
text_at text (y ∷ xs) (suc i) x h is = let e : suc i + 1 ≡ suc (i + 1) = omega arith in rw e (text_at text xs i x (omega arith) is)

-- these names, and then those of the rest
abbrev pub Goes : {A : Type 0} → (A → List ℕ) → List A → ℕ → List (List ℕ) → Type 0
Goes text paths i done = own_names (map text paths) ≡ option_map (λ rest. done ++ rest) (own_names (map text (drop i paths)))

same : (o : Option (List (List ℕ))) → o ≡ option_map (λ rest. [] ++ rest) o
same None = refl
same (Some xs) = refl

pub goes_begin : {A : Type 0} (text : A → List ℕ) (paths : List A) (done : List (List ℕ)) → done ≡ [] → Goes text paths 0 done
goes_begin text paths done e = same (own_names (map text paths)) ∙ ap (λ ds. option_map (λ rest. ds ++ rest) (own_names (map text paths))) (sym e)

joined : (done : List (List ℕ)) (y : List ℕ) (o : Option (List (List ℕ)))
    → option_map (λ rest. done ++ rest) (option_map (λ ys. y ∷ ys) o) ≡ option_map (λ rest. (done ++ y ∷ []) ++ rest) o
joined done y None = refl
joined done y (Some ys) = ap (λ zs. Some zs) (sym (append_assoc done (y ∷ []) ys))

pub goes_on : {A : Type 0} (text : A → List ℕ) (paths : List A) (i : ℕ) (done : List (List ℕ)) (path : A) (name : List ℕ) → i < length paths → path ≡ get_or paths i path
    → path_file_name (text path) ≡ Some name → Goes text paths i done → Goes text paths (i + 1) (done ++ name ∷ [])
goes_on text paths i done path name h is named goes =
    let rest = own_names (map text (drop (i + 1) paths)) in
    goes ∙ ap (λ ts. option_map (λ ds. done ++ ds) (own_names ts)) (text_at text paths i path h is)
    ∙ ap (λ o. option_map (λ ds. done ++ ds) (option_and_then (λ n. option_map (λ ns. n ∷ ns) rest) o)) named ∙ joined done name rest

pub goes_wrong : {A : Type 0} (text : A → List ℕ) (paths : List A) (i : ℕ) (done : List (List ℕ)) (path : A) → i < length paths → path ≡ get_or paths i path
    → path_file_name (text path) ≡ None → Goes text paths i done → own_names (map text paths) ≡ None
goes_wrong text paths i done path h is none goes =
    let rest = own_names (map text (drop (i + 1) paths)) in
    goes ∙ ap (λ ts. option_map (λ ds. done ++ ds) (own_names ts)) (text_at text paths i path h is)
    ∙ ap (λ o. option_map (λ ds. done ++ ds) (option_and_then (λ n. option_map (λ ns. n ∷ ns) rest) o)) none

drop_all : {A : Type 0} (xs : List A) (i : ℕ) → length xs ≤ i → drop i xs ≡ []
drop_all [] zero h = refl
drop_all [] (suc i) h = refl
drop_all (x ∷ xs) zero h = absurd (omega arith)
drop_all (x ∷ xs) (suc i) h = drop_all xs i (omega arith)

pub goes_end : {A : Type 0} (text : A → List ℕ) (paths : List A) (i : ℕ) (done : List (List ℕ)) → length paths ≤ i → Goes text paths i done → own_names (map text paths) ≡ Some done
goes_end text paths i done h goes =
    goes ∙ ap (λ xs. option_map (λ ds. done ++ ds) (own_names (map text xs))) (drop_all paths i h) ∙ ap (λ ds. Some ds) (append-nil done)

-- ---- names that are the same

-- the name at a place
pub name_there : (names : List (String Global)) (i : ℕ) (name : String Global) → i < length names → name ≡ get_or names i name → slice_get (map string_bytes names) i ≡ Some (string_bytes name)
name_there [] i name h is = absurd (omega arith)
name_there (x ∷ names) zero name h is = ap (λ n. Some (string_bytes n)) (sym is)
name_there (x ∷ names) (suc i) name h is = name_there names i name (omega arith) is

pub length_map : (names : List (String Global)) → length (map string_bytes names) ≡ length names
length_map [] = refl
length_map (x ∷ names) = ap suc (length_map names)

-- a place more that has another name
pub not_more : (names : List (List ℕ)) (name other : List ℕ) (begin place : ℕ) → slice_get names place ≡ Some other → (other ≡ name → ⊥) → IsNotBefore names name begin place
    → IsNotBefore names name begin (place + 1)
not_more names name other begin place at differs before k from lt there = go (three_ways k place)
  where
    go : (k < place) ⊎ ((k ≡ place) ⊎ (place < k)) → ⊥
    go (inl less) = before k from less there
    go (inr (inl is)) = differs (same_Some _ _ (sym at ∙ ap (slice_get names) (sym is) ∙ there))
    go (inr (inr more)) = absurd (omega (arith, more, lt))

pub none_before : (names : List (List ℕ)) (name : List ℕ) (begin : ℕ) → IsNotBefore names name begin begin
none_before names name begin k from lt there = omega (arith, from, lt)

-- one more name that is free behind itself
pub apart_more : (names : List (List ℕ)) (place : ℕ) (name : List ℕ) → slice_get names place ≡ Some name → NamesAreApartUpTo names place → IsFree names (place + 1) name
    → NamesAreApartUpTo names (place + 1)
apart_more names place name at before free k lt other there = go (three_ways k place)
  where
    go : (k < place) ⊎ ((k ≡ place) ⊎ (place < k)) → IsFree names (k + 1) other
    go (inl less) = before k less other there
    go (inr (inl is)) =
        let same_name : other ≡ name = same_Some _ _ (sym there ∙ ap (slice_get names) is ∙ at) in
        rw (same_name, is) free
    go (inr (inr more)) = absurd (omega (arith, more, lt))

pub none_apart : (names : List (List ℕ)) → NamesAreApartUpTo names 0
none_apart names k lt name there = absurd (omega (arith, lt))

pub all_apart : (names : List (List ℕ)) → NamesAreApartUpTo names (length names) → AreApart names
all_apart names upto = record {
  distinct = λ i j name at there. go i j name at there (three_ways i j);
  no_case = λ i name at. (upto i (slice_get_within names i name at) name at).0;
}
  where
    go : (i j : ℕ) (name : List ℕ) → slice_get names i ≡ Some name → slice_get names j ≡ Some name → (i < j) ⊎ ((i ≡ j) ⊎ (j < i)) → i ≡ j
    go i j name at there (inl less) = absurd ((upto i (slice_get_within names i name at) name at).1 j (omega (arith, less)) (slice_get_within names j name there) there)
    go i j name at there (inr (inl is)) = is
    go i j name at there (inr (inr more)) = absurd ((upto j (slice_get_within names j name there) name there).1 i (omega (arith, more)) (slice_get_within names i name at) at)

-- a name that is taken
pub not_apart : (names : List (List ℕ)) (place : ℕ) (name : List ℕ) → slice_get names place ≡ Some name → IsNameTaken names (place + 1) name → AreApart names → ⊥
not_apart names place name at (inl case) apart = apart.no_case place name at case
not_apart names place name at (inr (k, from, there)) apart =
    let is : place ≡ k = apart.distinct place k name at there in
    omega (arith, is, from)

-- ---- counted names

pub none_counted : (names : List (List ℕ)) → names ≡ [] → IsCounted 0 names
none_counted [] e = record { count = refl; each_name = λ i lt. absurd (omega (arith, lt)) }
none_counted (x ∷ names) e = absurd cc

behind : (names : List (List ℕ)) (name : List ℕ) → slice_get (names ++ name ∷ []) (length names) ≡ Some name
behind [] name = refl
behind (x ∷ names) name = behind names name

before : (names : List (List ℕ)) (name : List ℕ) (i : ℕ) → i < length names → slice_get (names ++ name ∷ []) i ≡ slice_get names i
before [] name i h = absurd (omega (arith, h))
before (x ∷ names) name zero h = refl
before (x ∷ names) name (suc i) h = before names name i (omega (arith, h))

length_more : (names : List (List ℕ)) (name : List ℕ) → length (names ++ name ∷ []) ≡ suc (length names)
length_more [] name = refl
length_more (x ∷ names) name = ap suc (length_more names name)

pub one_counted : (many : ℕ) (names : List (List ℕ)) (name : List ℕ) → IsCounted many names → name ≡ decimal (suc many) ++ codes ".log" → IsCounted (many + 1) (names ++ name ∷ [])
one_counted many names name are is = record {
  count = let n = are.count in omega (arith, n, length_more names name);
  each_name = λ i lt. go i lt (three_ways i many);
}
  where
    go : (i : ℕ) → i < many + 1 → (i < many) ⊎ ((i ≡ many) ⊎ (many < i)) → slice_get (names ++ name ∷ []) i ≡ Some (decimal (suc i) ++ codes ".log")
    go i lt (inl less) = let n = are.count in before names name i (omega (arith, less, n)) ∙ are.each_name i less
    go i lt (inr (inl e)) =
        let n = are.count in
        let last : i ≡ length names = omega (arith, e, n) in
        ap (slice_get (names ++ name ∷ [])) last ∙ behind names name ∙ ap (λ t. Some t) is ∙ ap (λ k. Some (decimal (suc k) ++ codes ".log")) (sym e)
    go i lt (inr (inr more)) = absurd (omega (arith, more, lt))

map_more : (names : List (String Global)) (name : String Global) → map string_bytes (names ++ name ∷ []) ≡ map string_bytes names ++ string_bytes name ∷ []
map_more [] name = refl
map_more (x ∷ names) name = ap (λ ns. string_bytes x ∷ ns) (map_more names name)

pub name_counted : (many : ℕ) (names : List (String Global)) (name : String Global) → IsCounted many (map string_bytes names) → string_bytes name ≡ decimal (many + 1) ++ codes ".log"
    → IsCounted (many + 1) (map string_bytes (names ++ name ∷ []))
name_counted many names name are is =
    let next : many + 1 ≡ suc many = omega arith in
    subst (λ ns. IsCounted (many + 1) ns) (sym (map_more names name)) (one_counted many (map string_bytes names) (string_bytes name) are (is ∙ ap (λ n. decimal n ++ codes ".log") next))

-- ---- both

pub are_own : (paths names : List (List ℕ)) → own_names paths ≡ Some names → AreApart names → AreFileNames paths names
are_own paths names is apart = record {
  own = λ found named others. same_Some _ _ (sym is ∙ named);
  counted = λ none. absurd (none names is apart);
}

pub are_counted : (paths names : List (List ℕ)) → ((found : List (List ℕ)) → own_names paths ≡ Some found → AreApart found → ⊥) → IsCounted (length paths) names → AreFileNames paths names
are_counted paths names none counted = record { own = λ found named apart. absurd (none found named apart); counted = λ same. counted }
