-- Logs whose connections are joined.
use Rattle.std.proofs.Common.{◌≡◌, ◌⊎◌, ◌∙◌, ◌+◌, ◌<◌, ◌≤◌, ◌++◌, ℕ, zero, suc, List, [], ◌∷◌, length, map, take, get_or, Some, String, Global, string_bytes, inl, inr, refl, sym, ap, arith}
use Rattle.std.specs.Prelude.{slice_get}
use Rattle.std.proofs.lemmas.Bool.{cases_lt}
use Rattle.std.proofs.lemmas.List.{take_more}
use Rattle.std.proofs.lemmas.Option.{same_Some, slice_get_within}
use Rattle.vat_log.specs.Log.{Log}
use Rattle.case_book.specs.declared.link.Link.{Link}
use Rattle.log_ends.specs.Joining.{IsJoined}
use Rattle.log_ends.specs.declared.log_end.EndPair.{EndPair}
use Rattle.log_ends.proofs.Fitting.{fits_end, same_symmetric}
use Rattle.log_ends.proofs.Places.{of_a_log}
use Rattle.command_run.specs.JoinAnswers.{AreLinks, IsLinkOf, in_folder}

-- ---- the ends of pairs are those of logs

pub first_within : (logs : List Log) (pairs : List EndPair) (number : ℕ) (pair : EndPair) → IsJoined logs pairs → slice_get pairs number ≡ Some pair → pair.first.log < length logs
first_within logs pairs number pair joined at = of_a_log logs pair.first (fits_end logs pair.first pair.second (joined.are.fit number pair at))

pub second_within : (logs : List Log) (pairs : List EndPair) (number : ℕ) (pair : EndPair) → IsJoined logs pairs → slice_get pairs number ≡ Some pair → pair.second.log < length logs
second_within logs pairs number pair joined at =
    of_a_log logs pair.second (fits_end logs pair.second pair.first (same_symmetric logs pair.first pair.second (joined.are.fit number pair at)))

-- ---- links

-- the links of the pairs before a number
pub record LinksUpTo (logs : List Log) (pairs : List EndPair) (limit : ℕ) (links : List Link) : Type 0 where
  pub count : length links ≡ limit
  pub each : (number : ℕ) (pair : EndPair) (link : Link) → slice_get pairs number ≡ Some pair → slice_get links number ≡ Some link → IsLinkOf logs pair number link

pub no_links : (logs : List Log) (pairs : List EndPair) (links : List Link) → links ≡ [] → LinksUpTo logs pairs 0 links
no_links logs pairs [] e = record { count = refl; each = λ number pair link at there. absurd cc }
no_links logs pairs (x ∷ links) e = absurd cc

before : {X : Type 0} (xs : List X) (x : X) (i : ℕ) → i < length xs → slice_get (xs ++ x ∷ []) i ≡ slice_get xs i
before [] x i h = absurd (omega (arith, h))
before (y ∷ xs) x zero h = refl
before (y ∷ xs) x (suc i) h = before xs x i (omega (arith, h))

behind : {X : Type 0} (xs : List X) (x : X) → slice_get (xs ++ x ∷ []) (length xs) ≡ Some x
behind [] x = refl
behind (y ∷ xs) x = behind xs x

pub length_more : {X : Type 0} (xs : List X) (x : X) → length (xs ++ x ∷ []) ≡ suc (length xs)
length_more [] x = refl
length_more (y ∷ xs) x = ap suc (length_more xs x)

pub one_link : (logs : List Log) (pairs : List EndPair) (number : ℕ) (links : List Link) (pair : EndPair) (link : Link) → LinksUpTo logs pairs number links
    → slice_get pairs number ≡ Some pair → IsLinkOf logs pair number link → LinksUpTo logs pairs (number + 1) (links ++ link ∷ [])
one_link logs pairs number links pair link upto at is = record {
  count = let n = upto.count in omega (arith, n, length_more links link);
  each = λ k other found there stands. go k other found there stands (cases_lt k (length links));
}
  where
    go : (k : ℕ) (other : EndPair) (found : Link) → slice_get pairs k ≡ Some other → slice_get (links ++ link ∷ []) k ≡ Some found → (k < length links) ⊎ (length links ≤ k) → IsLinkOf logs other k found
    go k other found there stands (inl less) = upto.each k other found there (sym (before links link k less) ∙ stands)
    go k other found there stands (inr more) =
        let n = upto.count in
        let last : k ≡ number = omega (arith, more, n, slice_get_within (links ++ link ∷ []) k found stands, length_more links link) in
        let long : k ≡ length links = omega (arith, last, n) in
        let same_pair : other ≡ pair = same_Some _ _ (sym there ∙ ap (slice_get pairs) last ∙ at) in
        let same_link : found ≡ link = same_Some _ _ (sym stands ∙ ap (slice_get (links ++ link ∷ [])) long ∙ behind links link) in
        rw (same_pair, same_link, last) is

pub all_links : (logs : List Log) (pairs : List EndPair) (number : ℕ) (links : List Link) → number ≡ length pairs → LinksUpTo logs pairs number links → AreLinks logs pairs links
all_links logs pairs number links whole upto = record { count = upto.count ∙ whole; each = upto.each }

-- ---- paths

-- the paths of the files before a place
abbrev pub PathsUpTo : List ℕ → List (String Global) → ℕ → List (String Global) → Type 0
PathsUpTo folder files i paths = map string_bytes paths ≡ map (in_folder folder) (map string_bytes (take i files))

map_more : {X Y : Type 0} (f : X → Y) (xs : List X) (x : X) → map f (xs ++ x ∷ []) ≡ map f xs ++ f x ∷ []
map_more f [] x = refl
map_more f (y ∷ xs) x = ap (λ zs. f y ∷ zs) (map_more f xs x)

pub one_path : (folder : List ℕ) (files paths : List (String Global)) (i : ℕ) (file path : String Global) → i < length files → file ≡ get_or files i file
    → string_bytes path ≡ in_folder folder (string_bytes file) → PathsUpTo folder files i paths → PathsUpTo folder files (i + 1) (paths ++ path ∷ [])
one_path folder files paths i file path h is named upto =
    let taken : take (i + 1) files ≡ take i files ++ file ∷ [] = take_more files i file h ∙ ap (λ f. take i files ++ f ∷ []) (sym is) in
    map_more string_bytes paths path ∙ ap (λ ps. ps ++ string_bytes path ∷ []) upto ∙ ap (λ p. map (in_folder folder) (map string_bytes (take i files)) ++ p ∷ []) named
    ∙ sym (map_more (in_folder folder) (map string_bytes (take i files)) (string_bytes file)) ∙ ap (map (in_folder folder)) (sym (map_more string_bytes (take i files) file))
    ∙ ap (λ fs. map (in_folder folder) (map string_bytes fs)) (sym taken)
