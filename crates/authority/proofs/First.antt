-- The edges found, with one more cap that was bound.
use Rattle.std.proofs.Common.{◌≡◌, ◌∙◌, ◌⊎◌, inl, inr, refl, sym, ap, subst, List, [], ◌∷◌, ◌++◌, arith}
use Rattle.run_model.specs.Edges.{Edge, IsForeign}
use Rattle.run_model.specs.Steps.{OneOf}
use Rattle.authority.specs.Glue.EdgeTables.{AddsFirst, EdgeComesBefore, IsAlike, IsFound}

-- ---- one of a list

pub one_front : {A : Type 0} (P : A → Type 0) (xs ys : List A) → OneOf P xs → OneOf P (xs ++ ys)
one_front P [] ys h = absurd h
one_front P (x ∷ xs) ys (inl h) = inl h
one_front P (x ∷ xs) ys (inr h) = inr (one_front P xs ys h)

pub one_back : {A : Type 0} (P : A → Type 0) (xs ys : List A) → OneOf P ys → OneOf P (xs ++ ys)
one_back P [] ys h = h
one_back P (x ∷ xs) ys h = inr (one_back P xs ys h)

pub one_either : {A : Type 0} (P : A → Type 0) (xs ys : List A) → OneOf P (xs ++ ys) → OneOf P xs ⊎ OneOf P ys
one_either P [] ys h = inr h
one_either P (x ∷ xs) ys (inl h) = inl (inl h)
one_either P (x ∷ xs) ys (inr h) = elim (one_either P xs ys h) [ inl front ↦ inl (inr front) | inr back ↦ inr back ]

-- which one it is
pub one_found : {A : Type 0} (P : A → Type 0) (xs : List A) → OneOf P xs → (x : A) × OneOf (λ y. y ≡ x) xs × P x
one_found P [] h = absurd h
one_found P (x ∷ xs) (inl h) = (x, inl refl, h)
one_found P (x ∷ xs) (inr h) = let r = one_found P xs h in (r.0, inr r.1, r.2)

pub one_from : {A : Type 0} (P : A → Type 0) (x : A) (xs : List A) → OneOf (λ y. y ≡ x) xs → P x → OneOf P xs
one_from P x [] h p = absurd h
one_from P x (y ∷ ys) (inl h) p = inl (subst P (sym h) p)
one_from P x (y ∷ ys) (inr h) p = inr (one_from P x ys h p)

-- ---- before

never_both : (e f : Edge) → EdgeComesBefore e f → EdgeComesBefore f e → ⊥
never_both e f (inl l) (inl m) = omega (arith, l, m)
never_both e f (inl l) (inr m) = omega (arith, l, m.0)
never_both e f (inr l) (inl m) = omega (arith, l.0, m)
never_both e f (inr l) (inr m) = omega (arith, l.1, m.1)

pub never_itself : (e : Edge) → EdgeComesBefore e e → ⊥
never_itself e l = never_both e e l l

-- ---- one more

foreign_too : (e f : Edge) → IsAlike e f → IsForeign e.vat e.cap → IsForeign f.vat f.cap
foreign_too e f like h = subst (λ v. IsForeign v f.cap) (sym like.0) (subst (λ a. IsForeign e.vat a) (sym like.1) h)

-- what is the first stays so, where only a later one comes
stays_first : (old new : Edge → Type 0) (b : Edge) (edges : List Edge) → IsFound old edges → ((f : Edge) → new f → old f ⊎ (f ≡ b)) → ((f : Edge) → old f → f.vat ≡ b.vat → EdgeComesBefore f b)
    → (e : Edge) → OneOf (λ x. x ≡ e) edges → (f : Edge) → new f → IsAlike e f → EdgeComesBefore f e → ⊥
stays_first old new b edges found only later e there f is like before = elim (only f is) [
  | inl was ↦ (found.sound e there).2 f was like before
  | inr now ↦ never_both f e before (subst (λ x. EdgeComesBefore e x) (sym now) (later e (found.sound e there).1 (sym like.0 ∙ ap (λ (x : Edge). x.vat) now)))
]

pub found_more : (old new : Edge → Type 0) (b : Edge) (edges more : List Edge) → IsFound old edges → ((f : Edge) → new f → old f ⊎ (f ≡ b)) → ((f : Edge) → old f → new f) → new b
    → ((f : Edge) → old f → f.vat ≡ b.vat → EdgeComesBefore f b) → IsForeign b.vat b.cap → AddsFirst b edges more → IsFound new more
found_more old new b edges more found only kept here later foreign (inl same) =
    let one = one_found (IsAlike b) edges same.0 in
    subst (IsFound new) (sym same.1) (record {
      sound = λ e there. ((found.sound e there).0, kept e (found.sound e there).1, stays_first old new b edges found only later e there);
      covers = λ f is_foreign is. elim (only f is) [
        | inl was ↦ found.covers f is_foreign was
        | inr now ↦
            subst (λ x. (e : Edge) × OneOf (λ y. y ≡ e) edges × IsAlike x e × (EdgeComesBefore e x ⊎ (e ≡ x))) (sym now)
            (one.0, one.1, one.2, inl (later one.0 (found.sound one.0 one.1).1 one.2.0))
      ];
    })
found_more old new b edges more found only kept here later foreign (inr other) =
    subst (IsFound new) (sym other.1) (record {
      sound = λ e there. elim (one_either (λ x. x ≡ e) edges (b ∷ []) there) [
        | inl front ↦ ((found.sound e front).0, kept e (found.sound e front).1, stays_first old new b edges found only later e front)
        | inr back ↦ elim back [
          | inl is ↦
              subst (λ x. IsForeign x.vat x.cap × new x × ((f : Edge) → new f → IsAlike x f → EdgeComesBefore f x → ⊥)) is (
                foreign,
                here,
                λ f now like before. elim (only f now) [
                  | inl was ↦
                      let r = found.covers f (foreign_too b f like foreign) was in
                      other.0 (one_from (IsAlike b) r.0 edges r.1 (r.2.0 ∙ like.0, r.2.1 ∙ like.1))
                  | inr same ↦ never_itself b (subst (λ x. EdgeComesBefore x b) same before)
                ],
              )
          | inr none ↦ absurd none
        ]
      ];
      covers = λ f is_foreign is. elim (only f is) [
        | inl was ↦ let r = found.covers f is_foreign was in (r.0, one_front (λ x. x ≡ r.0) edges (b ∷ []) r.1, r.2, r.3)
        | inr now ↦ subst (λ x. (e : Edge) × OneOf (λ y. y ≡ e) (edges ++ b ∷ []) × IsAlike x e × (EdgeComesBefore e x ⊎ (e ≡ x))) (sym now) (b, one_back (λ y. y ≡ b) edges (b ∷ []) (inl refl), (refl, refl), inr refl)
      ];
    })

-- a cap of the vat's own
pub found_own : (old new : Edge → Type 0) (b : Edge) (edges : List Edge) → IsFound old edges → ((f : Edge) → new f → old f ⊎ (f ≡ b)) → ((f : Edge) → old f → new f)
    → (IsForeign b.vat b.cap → ⊥) → IsFound new edges
found_own old new b edges found only kept own = record {
  sound = λ e there. (
    (found.sound e there).0,
    kept e (found.sound e there).1,
    λ f now like before. elim (only f now) [
      | inl was ↦ (found.sound e there).2 f was like before
      | inr same ↦ own (subst (λ x. IsForeign x.vat x.cap) same (foreign_too e f like (found.sound e there).0))
    ],
  );
  covers = λ f is_foreign is. elim (only f is) [
    | inl was ↦ found.covers f is_foreign was
    | inr same ↦ absurd (own (subst (λ x. IsForeign x.vat x.cap) same is_foreign))
  ];
}

-- the same caps
pub found_same : (old new : Edge → Type 0) (edges : List Edge) → IsFound old edges → ((f : Edge) → new f → old f) → ((f : Edge) → old f → new f) → IsFound new edges
found_same old new edges found back kept = record {
  sound = λ e there. ((found.sound e there).0, kept e (found.sound e there).1, λ f now like before. (found.sound e there).2 f (back f now) like before);
  covers = λ f is_foreign is. found.covers f is_foreign (back f is);
}
