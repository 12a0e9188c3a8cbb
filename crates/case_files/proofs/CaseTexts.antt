-- Case files that are written, and read again.
use Rattle.std.proofs.Common.{◌≡◌, ◌∙◌, ◌+◌, ◌<◌, ◌≤◌, ◌++◌, ◌^◌, ℕ, zero, suc, true, List, [], ◌∷◌, length, map, take, get_or, codes, Option, Some, None, option_map, option_and_then, refl, sym, ap, subst, arith, Global, String, Vec, rules, string_bytes}
use Rattle.std.specs.Prelude.{IsUtf8, nat_lt}
use Rattle.serde_json.specs.Data.{Data, array, depth, item, items_depth, member, no_items, no_members, number, object, unsigned}
use Rattle.serde_json.specs.Find.{as_str}
use Rattle.serde_json.specs.Read.{max_depth, read}
use Rattle.serde_json.specs.View.{items_view, view}
use Rattle.serde_json.specs.declared.value.Value.{Value, Array, String as TextOf, the_lemmas}
use Rattle.serde_json.proofs.Views.{view-Array}
use Rattle.serde_json.proofs.OnLiterals.{serde_json_on_literals}
use Rattle.case_book.specs.declared.link.Link.{Link}
use Rattle.case_files.specs.CaseFile.{IsCaseFile, value_of_each, each_item, link_of, listed_in, listed_of, small}
use Rattle.case_files.specs.Glue.{IsShallow, SaysCase}
use Rattle.case_files.proofs.CaseFiles.{list_of-items_view}

-- ---- lists

-- these values say these, one after another, and none nests deeper than so
pub record Say {B : Type 0} (f : Data → Option B) (limit : ℕ) (vs : List Value) (ys : List B) : Type 0 where
  pub says : value_of_each f (map view vs) ≡ Some ys
  pub shallow : items_depth (items_view vs) ≤ limit

each_more : {B : Type 0} (f : Data → Option B) (vs : List Value) (v : Value) (ys : List B) (y : B) → value_of_each f (map view vs) ≡ Some ys → f (view v) ≡ Some y
    → value_of_each f (map view (vs ++ v ∷ [])) ≡ Some (ys ++ y ∷ [])
each_more f [] v ys y e g = let none : ys ≡ [] = cc in rw (g, none) refl
each_more {B} f (x ∷ xs) v ys y e g = go (f (view x)) (value_of_each f (map view xs)) refl refl e (λ zs rest. each_more f xs v zs y rest g)
  where
    go : (o : Option B) (r : Option (List B)) → f (view x) ≡ o → value_of_each f (map view xs) ≡ r → option_and_then (λ z. option_map (λ zs. z ∷ zs) r) o ≡ Some ys
        → ((zs : List B) → value_of_each f (map view xs) ≡ Some zs → value_of_each f (map view (xs ++ v ∷ [])) ≡ Some (zs ++ y ∷ []))
        → option_and_then (λ z. option_map (λ zs. z ∷ zs) (value_of_each f (map view (xs ++ v ∷ [])))) (f (view x)) ≡ Some (ys ++ y ∷ [])
    go None r is rest e more = absurd cc
    go (Some z) None is rest e more = absurd cc
    go (Some z) (Some zs) is rest e more =
        let all : ys ≡ z ∷ zs = cc in
        rw (is, more zs rest, all) refl

depth_more : (limit : ℕ) (vs : List Value) (v : Value) → items_depth (items_view vs) ≤ limit → depth (view v) ≤ limit → items_depth (items_view (vs ++ v ∷ [])) ≤ limit
depth_more limit [] v h k = grind arith
depth_more limit (x ∷ xs) v h k =
    let rest : items_depth (items_view (xs ++ v ∷ [])) ≤ limit = depth_more limit xs v (grind arith) k in
    grind arith

pub say_none : {B : Type 0} (f : Data → Option B) (limit : ℕ) (vs : List Value) (ys : List B) → vs ≡ [] → ys ≡ [] → Say f limit vs ys
say_none f limit [] [] e g = record { says = refl; shallow = omega arith }
say_none f limit (v ∷ vs) ys e g = absurd cc
say_none f limit [] (y ∷ ys) e g = absurd cc

pub say_more : {B : Type 0} (f : Data → Option B) (limit : ℕ) (vs : List Value) (ys : List B) (v : Value) (y : B) → Say f limit vs ys → f (view v) ≡ Some y → depth (view v) ≤ limit
    → Say f limit (vs ++ v ∷ []) (ys ++ y ∷ [])
say_more f limit vs ys v y say is low = record { says = each_more f vs v ys y say.says is; shallow = depth_more limit vs v say.shallow low }

-- a list of such values says them
pub list_says : {B : Type 0} (f : Data → Option B) (limit : ℕ) (vs : Vec Value Global) (ys : List B) → Say f limit vs.items ys → each_item f (view (Array vs)) ≡ Some ys
list_says f limit vs ys say = ap (each_item f) (view-Array vs) ∙ ap (value_of_each f) (list_of-items_view vs.items) ∙ say.says

pub list_shallow : {B : Type 0} (f : Data → Option B) (limit : ℕ) (vs : Vec Value Global) (ys : List B) → Say f limit vs.items ys → IsShallow (suc limit) (view (Array vs))
list_shallow f limit vs ys say =
    let low = say.shallow in
    let is : depth (view (Array vs)) ≡ suc (items_depth (items_view vs.items)) = ap depth (view-Array vs) in
    omega (arith, low, is)

-- a text says itself
pub text_says : (s : String Global) → as_str (view (TextOf s)) ≡ Some (string_bytes s)
text_says s = search (rules, the_lemmas)

pub text_shallow : (s : String Global) → depth (view (TextOf s)) ≤ 0
text_shallow s = search (rules, the_lemmas)

-- ---- links

small_is : (n : ℕ) → n < 2 ^ 32 → small n ≡ Some n
small_is n h = let yes : nat_lt n (2 ^ 32) ≡ true = grind (arith, h) in rw yes refl

-- the connection and both vats, as numbers
abbrev pub three : ℕ → ℕ → ℕ → Data
three c a b = array (item (number (unsigned c)) (item (number (unsigned a)) (item (number (unsigned b)) no_items)))

pub three_says : (c a b : ℕ) → c < 2 ^ 32 → a < 2 ^ 32 → b < 2 ^ 32 → link_of (three c a b) ≡ Some (record { connection = c; a = a; b = b })
three_says c a b hc ha hb = rw (small_is c hc, small_is a ha, small_is b hb) refl

pub three_shallow : (c a b : ℕ) → IsShallow 1 (three c a b)
three_shallow c a b = omega arith

-- ---- the file

-- its object
abbrev pub case_data : Data → Data → Data
case_data logs links = object (member (codes "links") links (member (codes "logs") logs no_members))

pub case_says : (logs links : Data) (names : List (List ℕ)) (ls : List Link) → each_item as_str logs ≡ Some names → each_item link_of links ≡ Some ls
    → listed_in (case_data logs links) ≡ Some (record { logs = names; links = ls; order = None })
unfolding serde_json_on_literals
case_says logs links names ls e g = rw (e, g) refl

pub case_shallow : (logs links : Data) → IsShallow 1 logs → IsShallow 2 links → IsShallow 3 (case_data logs links)
case_shallow logs links h k = grind arith

pub is_case : (d : Data) (names : List (List ℕ)) (links : List Link) (bytes text : List ℕ) → IsUtf8 text → bytes ≡ text → SaysCase d names links
    → (depth d ≤ max_depth → read text ≡ Some d) → IsCaseFile bytes (record { logs = names; links = links; order = None })
is_case d names links bytes text utf8 same is reads =
    let low = is.shallow in
    let fits : depth d ≤ max_depth = omega (arith, low) in
    let listed : listed_of text ≡ Some (record { logs = names; links = links; order = None }) = ap (option_and_then listed_in) (reads fits) ∙ is.says in
    subst (λ (b : List ℕ). IsCaseFile b (record { logs = names; links = links; order = None })) (sym same) (utf8, listed)

-- ---- what is read of the items of a list

pub texts_more : {A : Type 0} (text : A → List ℕ) (xs : List A) (i : ℕ) (x : A) → i < length xs → x ≡ get_or xs i x
    → map text (take (i + 1) xs) ≡ map text (take i xs) ++ text x ∷ []
texts_more text [] i x h is = absurd (omega arith)
texts_more text (y ∷ xs) zero x h is = ap (λ z. text z ∷ []) (sym is)
texts_more text (y ∷ xs) (suc i) x h is = let e : suc i + 1 ≡ suc (i + 1) = omega arith in rw e (ap (λ ts. text y ∷ ts) (texts_more text xs i x (omega arith) is))
