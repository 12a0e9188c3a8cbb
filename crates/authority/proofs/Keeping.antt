-- Keys of vats and capabilities, and what is kept under them.
use Rattle.std.proofs.Common.{◌≡◌, ◌∙◌, ℕ, inl, inr, refl, sym, ap, ap₂, List, [], ◌∷◌, ◌++◌, true, false, cond, map, Option, Some, None, is_some, ◌&&◌}
use Rattle.std.specs.Map.{lookup}
use lib.Dec.{eqb}
use lib.Pointwise.{pointwise}
use Rattle.std.proofs.lemmas.Bool.{false≢true, true≢false, cases_Bool, and_parts, eqb-true, and_from, eq-eqb}
use Rattle.std.proofs.lemmas.List.{map-append}
use Rattle.std.proofs.lemmas.Slice.Eq.{bytes_eq-Decides}
use Rattle.run_model.specs.Steps.{OneOf, call}
use Rattle.run_model.specs.declared.cap.Cap.{Cap}
use Rattle.run_model.specs.declared.cap.Cap.TheVariants as cap
use Rattle.run_model.specs.declared.name.Name.{Name}
use Rattle.authority.specs.declared.key.Key.{Key}
use Rattle.authority.specs.declared.key.Key.TheVariants.{Object, Promise, Field, Nothing}
use Rattle.authority.specs.Glue.Keys.{IsKeyOf, entry_edge, key_cap, key_eq, key_vat}
use Rattle.authority.specs.Glue.EdgeTables.{AddsFirst, IsAlike, edge_at}

object_same : {o n p m : ℕ} → cap.Object o n ≡ cap.Object p m → (o ≡ p) × (n ≡ m)
object_same e = (cc, cc)

promise_same : {o n p m : ℕ} → cap.Promise o n ≡ cap.Promise p m → (o ≡ p) × (n ≡ m)
promise_same e = (cc, cc)

field_same : {c d : Name} {path other : List ℕ} → cap.Field c path ≡ cap.Field d other → (c ≡ d) × (path ≡ other)
field_same e = (cc, cc)

three : (v w o p n m : ℕ) → (eqb v w && (eqb o p && eqb n m)) ≡ true → (v ≡ w) × (o ≡ p) × (n ≡ m)
three v w o p n m e =
    let one = and_parts (eqb v w) (eqb o p && eqb n m) e in
    let two = and_parts (eqb o p) (eqb n m) one.1 in
    (eqb-true v w one.0, eqb-true o p two.0, eqb-true n m two.1)

pub eq_is : (k l : Key) → key_eq k l ≡ true → (key_vat k ≡ key_vat l) × (key_cap k ≡ key_cap l)
eq_is (Object v o n) (Object w p m) e = let h = three v w o p n m e in (h.0, ap₂ cap.Object h.1 h.2)
eq_is (Promise v o n) (Promise w p m) e = let h = three v w o p n m e in (h.0, ap₂ cap.Promise h.1 h.2)
eq_is (Field v o n path) (Field w p m other) e =
    let one = and_parts (eqb v w) (eqb o p && (eqb n m && pointwise eqb path.items other.items)) e in
    let two = and_parts (eqb o p) (eqb n m && pointwise eqb path.items other.items) one.1 in
    let last = and_parts (eqb n m) (pointwise eqb path.items other.items) two.1 in
    (eqb-true v w one.0, ap₂ cap.Field (ap₂ call (eqb-true o p two.0) (eqb-true n m last.0)) ((bytes_eq-Decides path.items other.items).0 last.1))
eq_is (Nothing v) (Nothing w) e = (eqb-true v w e, refl)
eq_is (Object v o n) (Promise w p m) e = absurd (false≢true e)
eq_is (Object v o n) (Field w p m other) e = absurd (false≢true e)
eq_is (Object v o n) (Nothing w) e = absurd (false≢true e)
eq_is (Promise v o n) (Object w p m) e = absurd (false≢true e)
eq_is (Promise v o n) (Field w p m other) e = absurd (false≢true e)
eq_is (Promise v o n) (Nothing w) e = absurd (false≢true e)
eq_is (Field v o n path) (Object w p m) e = absurd (false≢true e)
eq_is (Field v o n path) (Promise w p m) e = absurd (false≢true e)
eq_is (Field v o n path) (Nothing w) e = absurd (false≢true e)
eq_is (Nothing v) (Object w p m) e = absurd (false≢true e)
eq_is (Nothing v) (Promise w p m) e = absurd (false≢true e)
eq_is (Nothing v) (Field w p m other) e = absurd (false≢true e)

pub is_eq : (k l : Key) → key_vat k ≡ key_vat l → key_cap k ≡ key_cap l → key_eq k l ≡ true
is_eq (Object v o n) (Object w p m) e f = let q = object_same f in and_from _ _ (eq-eqb v w e) (and_from _ _ (eq-eqb o p q.0) (eq-eqb n m q.1))
is_eq (Promise v o n) (Promise w p m) e f = let q = promise_same f in and_from _ _ (eq-eqb v w e) (and_from _ _ (eq-eqb o p q.0) (eq-eqb n m q.1))
is_eq (Field v o n path) (Field w p m other) e f =
    let q = field_same f in
    and_from _ _ (eq-eqb v w e) (and_from _ _ (eq-eqb o p (ap (λ (c : Name). c.maker) q.0)) (and_from _ _ (eq-eqb n m (ap (λ (c : Name). c.number) q.0)) ((bytes_eq-Decides path.items other.items).1 q.1)))
is_eq (Nothing v) (Nothing w) e f = eq-eqb v w e
is_eq (Object v o n) (Promise w p m) e f = cc
is_eq (Object v o n) (Field w p m other) e f = cc
is_eq (Object v o n) (Nothing w) e f = cc
is_eq (Promise v o n) (Object w p m) e f = cc
is_eq (Promise v o n) (Field w p m other) e f = cc
is_eq (Promise v o n) (Nothing w) e f = cc
is_eq (Field v o n path) (Object w p m) e f = cc
is_eq (Field v o n path) (Promise w p m) e f = cc
is_eq (Field v o n path) (Nothing w) e f = cc
is_eq (Nothing v) (Object w p m) e f = cc
is_eq (Nothing v) (Promise w p m) e f = cc
is_eq (Nothing v) (Field w p m other) e f = cc

pub looked : (v : ℕ) (a : Cap) (i p : ℕ) (k : Key) (es : List (Key × (ℕ × ℕ))) → IsKeyOf v a k → is_some (lookup (key_eq k) es) ≡ true → OneOf (IsAlike (edge_at v a i p)) (map entry_edge es)
looked v a i p k [] is e = absurd (false≢true e)
looked v a i p k (x ∷ es) is e = elim (cases_Bool (key_eq k x.0)) [
  | inl same ↦ let r = eq_is k x.0 same in inl (sym r.0 ∙ is.0, sym r.1 ∙ is.1)
  | inr other ↦ inr (looked v a i p k es is (sym (ap (λ b. is_some (cond b (Some x.1) (lookup (key_eq k) es))) other) ∙ e))
]

pub not_looked : (v : ℕ) (a : Cap) (i p : ℕ) (k : Key) (es : List (Key × (ℕ × ℕ))) → IsKeyOf v a k → is_some (lookup (key_eq k) es) ≡ false → OneOf (IsAlike (edge_at v a i p)) (map entry_edge es) → ⊥
not_looked v a i p k [] is e h = absurd h
not_looked v a i p k (x ∷ es) is e (inl h) =
    true≢false (sym (ap (λ b. is_some (cond b (Some x.1) (lookup (key_eq k) es))) (is_eq k x.0 (is.0 ∙ sym h.0) (is.1 ∙ sym h.1))) ∙ e)
not_looked v a i p k (x ∷ es) is e (inr h) = elim (cases_Bool (key_eq k x.0)) [
  | inl same ↦ true≢false (sym (ap (λ b. is_some (cond b (Some x.1) (lookup (key_eq k) es))) same) ∙ e)
  | inr other ↦ not_looked v a i p k es is (sym (ap (λ b. is_some (cond b (Some x.1) (lookup (key_eq k) es))) other) ∙ e) h
]

pub none_from : {A : Type 0} (o : Option A) → is_some o ≡ false → o ≡ None
none_from None e = refl
none_from (Some x) e = absurd (true≢false e)

pub added : (v : ℕ) (a : Cap) (i p : ℕ) (k : Key) (es more : List (Key × (ℕ × ℕ))) → IsKeyOf v a k → is_some (lookup (key_eq k) es) ≡ false → more ≡ es ++ (k, (i, p)) ∷ []
    → AddsFirst (edge_at v a i p) (map entry_edge es) (map entry_edge more)
added v a i p k es more is e more_is =
    let edge : entry_edge (k, (i, p)) ≡ edge_at v a i p = ap₂ (λ w b. edge_at w b i p) is.0 is.1 in
    inr (not_looked v a i p k es is e, ap (map entry_edge) more_is ∙ map-append entry_edge es ((k, (i, p)) ∷ []) ∙ ap (λ x. map entry_edge es ++ x ∷ []) edge)
