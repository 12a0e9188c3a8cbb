-- What was found, in order, is the edges of the run.
use Rattle.std.proofs.Common.{◌≡◌, ◌∙◌, ◌⊎◌, ℕ, zero, suc, ◌<◌, inl, inr, refl, sym, ap, subst, List, [], ◌∷◌, map, reverse, Some, arith}
use Rattle.std.specs.Prelude.{Contains, slice_get}
use Rattle.std.specs.List.{AllPairs, AllByRecursion}
use Rattle.std.specs.List.Sorted.{IsStrictlySortedBy}
use Rattle.std.specs.Map.{keys_of}
use Rattle.std.specs.Ordering.{nat_cmp, ordering_then}
use Rattle.std.specs.declared.cmp.Ordering.{Ordering}
use Rattle.std.specs.declared.cmp.Ordering.TheVariants.{Less, Equal, Greater}
use Rattle.std.specs.BTreeMap.{BTreeMap}
use Rattle.std.proofs.lemmas.Cmp.{ranked}
use Rattle.std.proofs.lemmas.List.Elements.{All-from_recursion}
use Rattle.std.proofs.lemmas.List.Kept.{AllPairs-cons}
use Rattle.run_model.specs.Edges.{AreEdges, Edge, IsBefore, IsBound}
use Rattle.run_model.specs.Steps.{OneOf, PastSteps}
use Rattle.run_model.specs.declared.cap.Cap.{Cap}
use Rattle.run_model.specs.declared.message.Message.{Message}
use Rattle.run_model.specs.declared.step.Step.{Step}
use Rattle.run_model.specs.declared.step.Step.TheVariants.{Receive}
use Rattle.authority.specs.Glue.EdgePlaces.{IsByPlace, IsSingle, place_cmp, place_edge}
use Rattle.authority.specs.Glue.EdgeTables.{IsBoundIn, IsFound}
use Rattle.authority.proofs.Placing.{both_equal}
use Rattle.authority.proofs.Bound.{bound_by, found_witness, witness_found}

-- ---- one cap at each place

same_bound : {v k w l : ℕ} {m n : Message} {caps others : List Cap} → Some (Receive v k m caps) ≡ Some (Receive w l n others) → caps ≡ others
same_bound e = cc

same_some : {A : Type 0} {x y : A} → Some x ≡ Some y → x ≡ y
same_some e = cc

one_cap : (run : List Step) (v : ℕ) (a b : Cap) (i p : ℕ) → IsBound run v a i p → IsBound run v b i p → a ≡ b
one_cap run v a b i p x y = same_some (sym x.cap_bound ∙ ap (λ l. slice_get l p) (same_bound (sym x.step ∙ y.step)) ∙ y.cap_bound)

pub single : (past : PastSteps) (edges : List Edge) → IsFound (IsBoundIn past) edges → IsSingle edges
single past edges found e f here there vat at place =
    let one = bound_by past e (found.sound e here).1 in
    let two = bound_by past f (found.sound f there).1 in
    one_cap (reverse past) f.vat e.cap f.cap f.at_record f.bound_index
    (subst (λ p. IsBound (reverse past) f.vat e.cap f.at_record p) place
    (subst (λ i. IsBound (reverse past) f.vat e.cap i e.bound_index) at (subst (λ v. IsBound (reverse past) v e.cap e.at_record e.bound_index) vat one)))
    two

-- ---- one of a list, told in two ways

contained : {A : Type 0} (x : A) (xs : List A) → OneOf (λ y. y ≡ x) xs → Contains xs x
contained x [] h = absurd h
contained x (y ∷ xs) (inl is) = (0, omega arith, is)
contained x (y ∷ xs) (inr there) = let r = contained x xs there in (suc r.0, omega (arith, r.1), r.2)

nothing_in : {A : Type 0} (x : A) → Contains [] x → ⊥
nothing_in x there = let less = there.1 in omega (arith, less)

one_of : {A : Type 0} (x : A) (xs : List A) → Contains xs x → OneOf (λ y. y ≡ x) xs
one_of x [] there = absurd (nothing_in x there)
one_of x (y ∷ xs) (zero, less, same) = inl same
one_of x (y ∷ xs) (suc i, less, same) = inr (one_of x xs (i, omega (arith, less), same))

-- ---- in order

first_less : (a b : Ordering) → ordering_then a b ≡ Less → (a ≡ Less) ⊎ ((a ≡ Equal) × (b ≡ Less))
first_less Less b e = inl refl
first_less Equal b e = inr (refl, e)
first_less Greater b e = absurd (greater_less e)
  where
    greater_less : Greater ≡ Less → ⊥
    greater_less e = cc

below : (m n : ℕ) → nat_cmp m n ≡ Less → m < n
below m n e = ranked m n Less (sym e)

equal : (m n : ℕ) → nat_cmp m n ≡ Equal → m ≡ n
equal m n e = ranked m n Equal (sym e)

earlier : (x y : (ℕ × ℕ × ℕ) × Cap) → place_cmp x.0 y.0 ≡ Less → IsBefore (place_edge x) (place_edge y)
earlier ((v, i, p), a) ((w, j, q), b) e = elim (first_less (ordering_then (nat_cmp v w) (nat_cmp i j)) (nat_cmp p q) e) [
  | inl less ↦ elim (first_less (nat_cmp v w) (nat_cmp i j) less) [
    | inl vat ↦ inl (below v w vat)
    | inr both ↦ inr (equal v w both.0, inl (below i j both.1))
  ]
  | inr same ↦
      let both = both_equal (nat_cmp v w) (nat_cmp i j) same.0 in
      inr (equal v w both.0, inr (equal i j both.1, below p q same.1))
]

all_before : (x : (ℕ × ℕ × ℕ) × Cap) (es : List ((ℕ × ℕ × ℕ) × Cap)) → AllByRecursion (λ k. place_cmp x.0 k ≡ Less) (keys_of es) → AllByRecursion (IsBefore (place_edge x)) (map place_edge es)
all_before x [] h = h
all_before x (e ∷ es) h = (earlier x e h.0, all_before x es h.1)

in_order : (es : List ((ℕ × ℕ × ℕ) × Cap)) → IsStrictlySortedBy place_cmp (keys_of es) → AllPairs IsBefore (map place_edge es)
unfolding IsStrictlySortedBy
in_order [] h = λ i j d less within. absurd (let l = within in omega (arith, l))
in_order (x ∷ es) h = AllPairs-cons IsBefore (place_edge x) (map place_edge es) (All-from_recursion (IsBefore (place_edge x)) (map place_edge es) (all_before x es h.0)) (in_order es h.1)

-- ---- the edges

pub are_edges : (run : List Step) (found : List Edge) (table : BTreeMap (ℕ × ℕ × ℕ) Cap) → IsFound (IsBoundIn (reverse run)) found → IsByPlace found table
    → AreEdges run (map place_edge table.entries)
are_edges run found table is placed = record {
  exact = λ e. (
    λ there. found_witness run found is e ((placed.1 e).0 (one_of e (map place_edge table.entries) there)),
    λ w. contained e (map place_edge table.entries) ((placed.1 e).1 (witness_found run found is e w)),
  );
  ordered = in_order table.entries placed.0;
}
