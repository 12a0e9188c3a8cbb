-- What is listed is what stands at the end of the paths.
use Rattle.std.proofs.Common.{◌≡◌, ℕ, zero, suc, ◌+◌, ◌<◌, ◌≤◌, Bool, true, false, cond, ltb, List, [], ◌∷◌, ◌++◌, length, Option, Some, None, Result, Ok, Err, refl, sym, ap, subst, ◌∙◌, append_assoc, arith, inl, inr}
use Rattle.std.specs.Prelude.{IfOk, ◌↔◌}
use Rattle.std.specs.List.{Contains}
use Rattle.std.proofs.lemmas.Bool.{cases_lt, lt-ltb, ltb-true}
use Rattle.std.proofs.lemmas.List.{append-nil}
use Rattle.std.proofs.lemmas.List.Elements.{Contains-append_cases, Contains-append_left, Contains-append_right}
use Rattle.cap_reader.specs.declared.read_error.ReadError.{ReadError}
use Rattle.cap_reader.specs.declared.read_error.ReadError.TheVariants as errors
use Rattle.cap_reader.specs.Tree.{Tree, nothing, structure, bad_structure, composite, bad_composite, plain, bad_plain, capability, reserved, unfollowed}
use Rattle.cap_reader.specs.Reading.{Reading, done, fault, visit, and_then, run, ending, each, RunsInMemory}
use Rattle.cap_reader.specs.Fields.{fields_in, capability_at}
use Rattle.cap_reader.proofs.Prices.{ends_so}

abbrev pub Entry : Type 0
Entry = List ℕ × ℕ

abbrev pub Listing : Type 0
Listing = Reading ReadError (List Entry)

pub ok_is : (x y : List Entry) → ◌≡◌ {A = Result (List Entry) ReadError} (Ok x) (Ok y) → x ≡ y
ok_is x y e = cc

pub no_ok : (e : ReadError) (y : List Entry) → ◌≡◌ {A = Result (List Entry) ReadError} (Err e) (Ok y) → ⊥
no_ok e y h = cc

pub ending_then : {A B : Type 0} (reading : Reading ReadError A) (next : A → Reading ReadError B) (y : B) → ending (and_then reading next) ≡ Ok y → (x : A) × (ending reading ≡ Ok x) × (ending (next x) ≡ Ok y)
unfolding ending and_then
ending_then (done value) next y e = (value, refl, e)
ending_then (fault d) next y e = absurd cc
ending_then (visit cost rest) next y e = ending_then rest next y e

no_entry : (found : List Entry) (x : Entry) → ◌≡◌ {A = Result (List Entry) ReadError} (Ok []) (Ok found) → Contains found x → ⊥
no_entry found x e c = let h : length found ≡ 0 = ap length (sym (ok_is [] found e)) in omega (arith, c.1, h)

one_entry : (y x : Entry) → Contains (y ∷ []) x → y ≡ x
one_entry y x (zero, lt, e) = e
one_entry y x (suc k, lt, e) = absurd (omega arith)

-- ---- the readings of one number after another

module _ (f : ℕ → Listing) (P : ℕ → Entry → Type 0) where
  pub each_sound : ((n : ℕ) (found : List Entry) → ending (f n) ≡ Ok found → (x : Entry) → Contains found x → P n x) → (n from : ℕ) (found : List Entry) → ending (each f from n) ≡ Ok found → (x : Entry) → Contains found x → (k : ℕ) × (from ≤ k) × (k < from + n) × P k x
  unfolding each ending
  each_sound s zero from found e x c = absurd (no_entry found x e c)
  each_sound s (suc n) from found e x c =
      let a = ending_then (f from) (λ first. and_then (each f (from + 1) n) (λ others. done (first ++ others))) found e in
      let b = ending_then (each f (from + 1) n) (λ others. done (a.0 ++ others)) found a.2 in
      let there : Contains (a.0 ++ b.0) x = (let Q : List Entry → Type 0 = λ l. Contains l x in subst Q (sym (ok_is (a.0 ++ b.0) found b.2)) c) in
      elim (Contains-append_cases a.0 b.0 x there) [
        | inl h ↦ (from, omega arith, omega arith, s from a.0 a.1 x h)
        | inr h ↦ (let r = each_sound s n (from + 1) b.0 b.1 x h in (r.0, omega (arith, r.1), omega (arith, r.2), r.3))
      ]

  each_complete : ((n : ℕ) (found : List Entry) → ending (f n) ≡ Ok found → (x : Entry) → P n x → Contains found x) → (n from : ℕ) (found : List Entry) → ending (each f from n) ≡ Ok found → (x : Entry) (k : ℕ) → from ≤ k → k < from + n → P k x → Contains found x
  unfolding each ending
  each_complete s zero from found e x k le lt p = absurd (omega arith)
  each_complete s (suc n) from found e x k le lt p =
      let a = ending_then (f from) (λ first. and_then (each f (from + 1) n) (λ others. done (first ++ others))) found e in
      let b = ending_then (each f (from + 1) n) (λ others. done (a.0 ++ others)) found a.2 in
      let Q : List Entry → Type 0 = λ l. Contains l x in
      subst Q (ok_is (a.0 ++ b.0) found b.2) (elim (cases_lt from k) [
        | inl more ↦ Contains-append_right a.0 b.0 x (each_complete s n (from + 1) b.0 b.1 x k (omega arith) (omega arith) p)
        | inr here ↦ Contains-append_left a.0 b.0 x (let R : ℕ → Type 0 = λ m. P m x in s from a.0 a.1 x (subst R (let same : k ≡ from = omega arith in same) p))
      ])

-- ---- trees

-- an entry stands below a tree, to which a path leads
abbrev IsBelow : List ℕ → Tree → Entry → Type 0
IsBelow front tree x = (path : List ℕ) × (x.0 ≡ front ++ path) × (capability_at tree path ≡ Some x.1)

pub sound : (tree : Tree) (front : List ℕ) (found : List Entry) → ending (fields_in front tree) ≡ Ok found → (x : Entry) → Contains found x → IsBelow front tree x
unfolding fields_in capability_at ending
sound nothing front found e x c = absurd (no_entry found x e c)
sound (structure data_words word pointer_count child) front found e x c =
    let r = each_sound (λ n. fields_in (front ++ n ∷ []) (child n)) (λ n y. IsBelow (front ++ n ∷ []) (child n) y) (λ n. sound (child n) (front ++ n ∷ [])) pointer_count 0 found e x c in
    let lt : r.0 < pointer_count = omega (arith, r.2) in
    (r.0 ∷ r.3.0, r.3.1 ∙ append_assoc front (r.0 ∷ []) r.3.0, rw (lt-ltb r.0 pointer_count lt) r.3.2)
sound (bad_structure d) front found e x c = absurd (no_ok d found e)
sound (composite n g) front found e x c = absurd (no_entry found x e c)
sound (bad_composite d) front found e x c = absurd (no_ok d found e)
sound (plain element_size count word) front found e x c = absurd (no_entry found x e c)
sound (bad_plain element_size d) front found e x c = absurd (no_ok d found e)
sound (capability index) front found e x c =
    let Q : List Entry → Type 0 = λ l. Contains l x in
    let same : ◌≡◌ {A = Entry} (front, index) x = one_entry (front, index) x (subst Q (sym (ok_is ((front, index) ∷ []) found e)) c) in
    ([], sym (ap (λ (y : Entry). y.0) same) ∙ sym (append-nil front), ap (λ (y : Entry). Some y.1) same)
sound reserved front found e x c = absurd (no_ok _ found e)
sound (unfollowed d) front found e x c = absurd (no_ok d found e)

pub guard_some : {A : Type 0} (b : Bool) (o : Option A) (x : A) → cond b o None ≡ Some x → (b ≡ true) × (o ≡ Some x)
guard_some true o x e = (refl, e)
guard_some false o x e = absurd cc

pub not_some : {A : Type 0} (x : A) → None ≡ Some x → ⊥
not_some x e = cc

some_is : (m n : ℕ) → ◌≡◌ {A = Option ℕ} (Some m) (Some n) → m ≡ n
some_is m n e = cc

pub complete : (tree : Tree) (front : List ℕ) (found : List Entry) → ending (fields_in front tree) ≡ Ok found → (path : List ℕ) (j : ℕ) → capability_at tree path ≡ Some j → Contains found (front ++ path, j)
unfolding fields_in capability_at ending
complete nothing front found e path j h = absurd (not_some j h)
complete (structure data_words word pointer_count child) front found e [] j h = absurd (not_some j h)
complete (structure data_words word pointer_count child) front found e (n ∷ path) j h =
    let g = guard_some (ltb n pointer_count) (capability_at (child n) path) j h in
    each_complete (λ m. fields_in (front ++ m ∷ []) (child m)) (λ m y. IsBelow (front ++ m ∷ []) (child m) y)
    (λ m l el x p. let Q : List ℕ → Type 0 = λ q. Contains l (q, x.1) in subst Q (sym p.1) (complete (child m) (front ++ m ∷ []) l el p.0 x.1 p.2))
    pointer_count 0 found e (front ++ n ∷ path, j) n (omega arith) (omega (arith, ltb-true n pointer_count g.0)) (path, sym (append_assoc front (n ∷ []) path), g.1)
complete (bad_structure d) front found e path j h = absurd (not_some j h)
complete (composite n g) front found e path j h = absurd (not_some j h)
complete (bad_composite d) front found e path j h = absurd (not_some j h)
complete (plain element_size count word) front found e path j h = absurd (not_some j h)
complete (bad_plain element_size d) front found e path j h = absurd (not_some j h)
complete (capability index) front found e [] j h =
    let Q : List Entry → Type 0 = λ l. Contains l (front ++ [], j) in
    let same : ◌≡◌ {A = Entry} (front, index) (front ++ [], j) = rw (append-nil front, some_is index j h) refl in
    subst Q (ok_is ((front, index) ∷ []) found e) (0, omega arith, same)
complete (capability index) front found e (n ∷ path) j h = absurd (not_some j h)
complete reserved front found e path j h = absurd (not_some j h)
complete (unfollowed d) front found e path j h = absurd (not_some j h)

-- what a call that lists the entries below a tree says of each
pub listed_by : (tree : Tree) (result : Result (List Entry) ReadError) (left words : ℕ) → RunsInMemory (λ x. x) result left (run (fields_in [] tree) words)
    → IfOk result (λ found. (path : List ℕ) (index : ℕ) → Contains found (path, index) ↔ (capability_at tree path ≡ Some index))
listed_by tree (Err e) left words h = tt
listed_by tree (Ok found) left words h =
    λ path index. let e = ends_so errors.TooMuch (fields_in [] tree) words left found h in (
      λ c. let b = sound tree [] found e (path, index) c in (let Q : List ℕ → Type 0 = λ q. capability_at tree q ≡ Some index in subst Q (sym b.1) b.2),
      complete tree [] found e path index,
    )
