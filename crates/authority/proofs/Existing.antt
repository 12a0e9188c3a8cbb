-- Each run has a list of edges.
use Rattle.std.proofs.Common.{◌≡◌, ◌⊎◌, ℕ, zero, suc, ◌≤◌, inl, inr, refl, ap, ap₂, subst, ◌==◌, List, [], ◌∷◌, ◌++◌, length, get_or, add-one, arith}
use Rattle.std.specs.Str.{bytes_eq}
use Rattle.std.proofs.lemmas.Bool.{cases_Bool, cases_eq, both_ways}
use Rattle.std.proofs.lemmas.Option.{slice_get-get_or}
use Rattle.std.proofs.lemmas.Slice.Eq.{bytes_eq-Decides}
use Rattle.run_model.specs.Edges.{Edge}
use Rattle.run_model.specs.Steps.{OneOf, PastSteps, call, count_steps, vat_of}
use Rattle.run_model.specs.declared.cap.Cap.{Cap}
use Rattle.run_model.specs.declared.cap.Cap.TheVariants as cap
use Rattle.run_model.specs.declared.name.Name.{Name}
use Rattle.run_model.specs.declared.step.Step.TheVariants.{Host, Receive}
use Rattle.authority.specs.Glue.EdgeTables.{AddsFirst, IsAlike, IsBoundIn, IsFound, edge_at, foreign}
use Rattle.authority.proofs.First.{found_same}
use Rattle.authority.proofs.Stepping.{IsPartly, back, partly_more, partly_own, partly_start, within}

two : {A B C : Type 0} (f : A → B → C) (a c : A) (b d : B) → (a ≡ c) ⊎ (a ≡ c → ⊥) → (b ≡ d) ⊎ (b ≡ d → ⊥) → (f a b ≡ f c d → (a ≡ c) × (b ≡ d)) → (f a b ≡ f c d) ⊎ (f a b ≡ f c d → ⊥)
two f a c b d (inl x) (inl y) back = inl (ap₂ f x y)
two f a c b d (inl x) (inr y) back = inr (λ e. y (back e).1)
two f a c b d (inr x) other back = inr (λ e. x (back e).0)

object_same : {o n p m : ℕ} → cap.Object o n ≡ cap.Object p m → (o ≡ p) × (n ≡ m)
object_same e = (cc, cc)

promise_same : {o n p m : ℕ} → cap.Promise o n ≡ cap.Promise p m → (o ≡ p) × (n ≡ m)
promise_same e = (cc, cc)

field_same : {c d : Name} {path other : List ℕ} → cap.Field c path ≡ cap.Field d other → (c ≡ d) × (path ≡ other)
field_same e = (cc, cc)

name_decides : (c d : Name) → (c ≡ d) ⊎ (c ≡ d → ⊥)
name_decides c d = two call c.maker d.maker c.number d.number (cases_eq c.maker d.maker) (cases_eq c.number d.number) (λ e. (ap (λ (x : Name). x.maker) e, ap (λ (x : Name). x.number) e))

path_decides : (xs ys : List ℕ) → (xs ≡ ys) ⊎ (xs ≡ ys → ⊥)
path_decides xs ys = elim (cases_Bool (bytes_eq xs ys)) [
  | inl same ↦ inl ((bytes_eq-Decides xs ys).0 same)
  | inr other ↦ inr (λ e. both_ways (bytes_eq xs ys) other ((bytes_eq-Decides xs ys).1 e))
]

cap_decides : (a b : Cap) → (a ≡ b) ⊎ (a ≡ b → ⊥)
cap_decides (cap.Object v o) (cap.Object w p) = two cap.Object v w o p (cases_eq v w) (cases_eq o p) object_same
cap_decides (cap.Promise v o) (cap.Promise w p) = two cap.Promise v w o p (cases_eq v w) (cases_eq o p) promise_same
cap_decides (cap.Field c path) (cap.Field d other) = two cap.Field c d path other (name_decides c d) (path_decides path other) field_same
cap_decides cap.Nothing cap.Nothing = inl refl
cap_decides (cap.Object v o) b = inr (λ e. cc)
cap_decides (cap.Promise v o) b = inr (λ e. cc)
cap_decides (cap.Field c path) b = inr (λ e. cc)
cap_decides cap.Nothing b = inr (λ e. cc)

alike_decides : (b : Edge) (edges : List Edge) → OneOf (IsAlike b) edges ⊎ (OneOf (IsAlike b) edges → ⊥)
alike_decides b [] = inr (λ h. h)
alike_decides b (e ∷ edges) = elim (cases_eq e.vat b.vat) [
  | inl vat ↦ elim (cap_decides e.cap b.cap) [
    | inl same ↦ inl (inl (vat, same))
    | inr other ↦ elim (alike_decides b edges) [ inl there ↦ inl (inr there) | inr none ↦ inr (λ h. elim h [ inl here ↦ other here.1 | inr there ↦ none there ]) ]
  ]
  | inr apart ↦ elim (alike_decides b edges) [ inl there ↦ inl (inr there) | inr none ↦ inr (λ h. elim h [ inl here ↦ apart here.0 | inr there ↦ none there ]) ]
]

adds : (b : Edge) (edges : List Edge) → (more : List Edge) × AddsFirst b edges more
adds b edges = elim (alike_decides b edges) [ inl there ↦ (edges, inl (there, refl)) | inr none ↦ (edges ++ b ∷ [], inr (none, refl)) ]

part_found : (past : PastSteps) (v i : ℕ) (caps : List Cap) → i ≡ count_steps (λ t. vat_of t == v) past → (start : List Edge) → IsFound (IsBoundIn past) start → (p : ℕ) → p ≤ length caps
    → (edges : List Edge) × IsFound (IsPartly past v i caps p) edges
part_found past v i caps number start found zero le = (start, partly_start past v i caps start found)
part_found past v i caps number start found (suc p) le =
    let before = part_found past v i caps number start found p (omega (arith, le)) in
    let a = get_or caps p cap.Nothing in
    let at = slice_get-get_or caps p cap.Nothing (omega (arith, le)) in
    elim (cases_Bool (foreign v a)) [
      | inl other ↦
          let more = adds (edge_at v a i p) before.0 in
          (more.0, subst (λ q. IsFound (IsPartly past v i caps q) more.0) (add-one p) (partly_more past v i caps p a at before.0 more.0 number other more.1 before.1))
      | inr own ↦ (before.0, subst (λ q. IsFound (IsPartly past v i caps q) before.0) (add-one p) (partly_own past v i caps p a at before.0 own before.1))
    ]

pub some_found : (past : PastSteps) → (edges : List Edge) × IsFound (IsBoundIn past) edges
some_found [] = ([], record { sound = λ e h. absurd h; covers = λ f foreign h. absurd h })
some_found (Receive v k m caps ∷ past) =
    let rest = some_found past in
    let all = part_found past v (count_steps (λ t. vat_of t == v) past) caps refl rest.0 rest.1 (length caps) (omega arith) in (
      all.0,
      found_same (IsPartly past v (count_steps (λ t. vat_of t == v) past) caps (length caps)) (IsBoundIn (Receive v k m caps ∷ past)) all.0 all.1
          (λ f h. elim h [ inl here ↦ inl (here.0, here.1, within caps f.bound_index f.cap here.2, here.2) | inr was ↦ inr was ])
          (λ f h. elim h [ inl here ↦ inl (here.0, here.1, here.3) | inr was ↦ inr was ]),
    )
some_found (Host v o ∷ past) = some_found past
some_found (_ ∷ past) = some_found past
