-- What each gives of the items of a list, one after another.
use Rattle.std.proofs.Common.{◌≡◌, ◌∙◌, ◌+◌, ◌<◌, ◌≤◌, ◌++◌, ◌≢◌, ℕ, zero, suc, true, false, ◌&&◌, List, [], ◌∷◌, map, length, drop, get_or, codes, Option, Some, None, option_map, option_and_then, string_bytes, String, Global, BTreeMap, refl, sym, ap, arith, append_assoc, append-nil}
use Rattle.std.specs.BTreeMap.{keys}
use Rattle.std.specs.List.{list_all}
use Rattle.serde_json.specs.Data.{Data, null, boolean, number, string, array, object, Members}
use Rattle.serde_json.specs.Find.{as_array, as_object, as_str, get}
use Rattle.serde_json.specs.View.{view, items_view, members_view}
use Rattle.serde_json.specs.declared.value.Value.{Value}
use Rattle.case_files.specs.CaseFile.{are_known, value_of_each, each_item, is_case_key, link_from, link_of, list_of, listed_in, order_of_data}
use Rattle.case_book.specs.declared.link.Link.{Link}

pub list_of-items_view : (vs : List Value) → list_of (items_view vs) ≡ map view vs
list_of-items_view [] = refl
list_of-items_view (v ∷ vs) = ap (λ ds. view v ∷ ds) (list_of-items_view vs)

-- what each item gives, where the value is a list
pub each_item-list : {B : Type 0} (f : Data → Option B) (d : Data) (vs : List Value) → Some (items_view vs) ≡ as_array d → each_item f d ≡ value_of_each f (map view vs)
each_item-list f d vs e = ap (option_and_then (λ ds. value_of_each f (list_of ds))) (sym e) ∙ ap (value_of_each f) (list_of-items_view vs)

-- the item at an index, before those after it
each_at : {B : Type 0} (f : Data → Option B) (vs : List Value) (i : ℕ) (v : Value) → i < length vs → v ≡ get_or vs i v
    → value_of_each f (map view (drop i vs)) ≡ option_and_then (λ y. option_map (λ ys. y ∷ ys) (value_of_each f (map view (drop (i + 1) vs)))) (f (view v))
each_at f [] i v h is = absurd (omega arith)
each_at f (x ∷ vs) zero v h is = ap (λ (w : Value). option_and_then (λ y. option_map (λ ys. y ∷ ys) (value_of_each f (map view vs))) (f (view w))) (sym is)
each_at f (x ∷ vs) (suc i) v h is = let e : suc i + 1 ≡ suc (i + 1) = omega arith in rw e (each_at f vs i v (omega arith) is)

-- these, and then the rest
abbrev pub Goes : {B : Type 0} → (Data → Option B) → List Value → ℕ → List B → Type 0
Goes f vs i done = value_of_each f (map view vs) ≡ option_map (λ rest. done ++ rest) (value_of_each f (map view (drop i vs)))

same : {B : Type 0} (o : Option (List B)) → o ≡ option_map (λ rest. [] ++ rest) o
same None = refl
same (Some xs) = refl

joined : {B : Type 0} (done : List B) (y : B) (o : Option (List B))
    → option_map (λ rest. done ++ rest) (option_map (λ ys. y ∷ ys) o) ≡ option_map (λ rest. (done ++ y ∷ []) ++ rest) o
joined done y None = refl
joined done y (Some ys) = ap (λ zs. Some zs) (sym (append_assoc done (y ∷ []) ys))

pub goes_on : {B : Type 0} (f : Data → Option B) (vs : List Value) (i : ℕ) (done : List B) (v : Value) (y : B) → i < length vs → v ≡ get_or vs i v
    → f (view v) ≡ Some y → Goes f vs i done → Goes f vs (i + 1) (done ++ y ∷ [])
goes_on f vs i done v y h is gives goes =
    let rest = value_of_each f (map view (drop (i + 1) vs)) in
    goes ∙ ap (option_map (λ ds. done ++ ds)) (each_at f vs i v h is ∙ ap (option_and_then (λ z. option_map (λ ys. z ∷ ys) rest)) gives) ∙ joined done y rest

pub goes_wrong : {B : Type 0} (f : Data → Option B) (vs : List Value) (i : ℕ) (done : List B) (v : Value) → i < length vs → v ≡ get_or vs i v
    → f (view v) ≡ None → Goes f vs i done → value_of_each f (map view vs) ≡ None
goes_wrong f vs i done v h is none goes =
    let rest = value_of_each f (map view (drop (i + 1) vs)) in
    goes ∙ ap (option_map (λ ds. done ++ ds)) (each_at f vs i v h is ∙ ap (option_and_then (λ z. option_map (λ ys. z ∷ ys) rest)) none)

drop_all : (vs : List Value) (i : ℕ) → length vs ≤ i → drop i vs ≡ []
drop_all [] zero h = refl
drop_all [] (suc i) h = refl
drop_all (v ∷ vs) zero h = absurd (omega arith)
drop_all (v ∷ vs) (suc i) h = drop_all vs i (omega arith)

pub goes_end : {B : Type 0} (f : Data → Option B) (vs : List Value) (i : ℕ) (done : List B) → length vs ≤ i → Goes f vs i done → value_of_each f (map view vs) ≡ Some done
goes_end f vs i done h goes = goes ∙ ap (λ (ws : List Value). option_map (λ ds. done ++ ds) (value_of_each f (map view ws))) (drop_all vs i h) ∙ ap (λ ds. Some ds) (append-nil done)

-- ---- links

pub not_three : (vs : List Value) → length vs ≢ 3 → link_from (map view vs) ≡ None
not_three [] h = refl
not_three (a ∷ []) h = refl
not_three (a ∷ b ∷ []) h = refl
not_three (a ∷ b ∷ c ∷ []) h = absurd (h refl)
not_three (a ∷ b ∷ c ∷ d ∷ vs) h = refl

pub link_of-list : (d : Data) (vs : List Value) → Some (items_view vs) ≡ as_array d → link_of d ≡ link_from (map view vs)
link_of-list d vs e = ap (option_and_then (λ ds. link_from (list_of ds))) (sym e) ∙ ap link_from (list_of-items_view vs)

-- ---- keys

known_entries : (es : List (String Global × Value)) → list_all (λ k. is_case_key (string_bytes k)) (map (λ e. e.0) es) ≡ are_known (members_view es)
known_entries [] = refl
known_entries (e ∷ es) = ap (λ b. is_case_key (string_bytes e.0) && b) (known_entries es)

pub known_keys : (m : BTreeMap (String Global) Value) → list_all (λ k. is_case_key (string_bytes k)) (keys m) ≡ are_known (members_view m.entries)
known_keys m = known_entries m.entries

-- ---- objects

no_some : {X : Type 0} {x : X} → None ≡ Some x → ⊥
no_some e = cc

pub unknown : (d : Data) (ms : Members) → as_object d ≡ Some ms → are_known ms ≡ false → listed_in d ≡ None
unknown null ms is other = absurd (no_some is)
unknown (boolean b) ms is other = absurd (no_some is)
unknown (number n) ms is other = absurd (no_some is)
unknown (string t) ms is other = absurd (no_some is)
unknown (array ds) ms is other = absurd (no_some is)
unknown (object ns) ms is other =
    let same : ns ≡ ms = cc in
    let differs : are_known ns ≡ false = ap are_known same ∙ other in
    rw differs refl

pub whole : (d : Data) (ms : Members) (a b : Data) (o : Option Data) (logs : List (List ℕ)) (links : List Link) (order : Option (List ℕ))
    → as_object d ≡ Some ms → are_known ms ≡ true → get (codes "logs") d ≡ Some a → get (codes "links") d ≡ Some b → get (codes "order") d ≡ o
    → each_item as_str a ≡ Some logs → each_item link_of b ≡ Some links → order_of_data o ≡ Some order
    → listed_in d ≡ Some (record { logs = logs; links = links; order = order })
whole null ms a b o logs links order is known la lb lo ta tb to = absurd (no_some is)
whole (boolean x) ms a b o logs links order is known la lb lo ta tb to = absurd (no_some is)
whole (number x) ms a b o logs links order is known la lb lo ta tb to = absurd (no_some is)
whole (string x) ms a b o logs links order is known la lb lo ta tb to = absurd (no_some is)
whole (array x) ms a b o logs links order is known la lb lo ta tb to = absurd (no_some is)
whole (object ns) ms a b o logs links order is known la lb lo ta tb to =
    let same : ns ≡ ms = cc in
    let knows : are_known ns ≡ true = ap are_known same ∙ known in
    rw (knows, la, ta, lb, tb, lo, to) refl
