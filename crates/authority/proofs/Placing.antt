-- Edges under their vat, record and place.
use Rattle.std.proofs.Common.{◌≡◌, ◌∙◌, ◌⊎◌, ℕ, inl, inr, refl, sym, ap, ap₂, subst, List, [], ◌∷◌, ◌++◌, map, Option, Some}
use Rattle.std.specs.Ordering.{nat_cmp, ordering_then, match_ordering}
use Rattle.std.specs.declared.cmp.Ordering.{Ordering}
use Rattle.std.specs.declared.cmp.Ordering.TheVariants.{Less, Equal, Greater}
use Rattle.std.specs.BTreeMap.{BTreeMap, IsOrdered, insert_entry}
use Rattle.std.specs.Map.Iter.{TakesFirst}
use Rattle.std.proofs.lemmas.Map.Iter.{rest_more}
use Rattle.std.proofs.lemmas.Map.Lookups.{exact_unsigned}
use Rattle.std.proofs.lemmas.List.{append_assoc, append-nil, map-append}
use Rattle.run_model.specs.Edges.{Edge}
use Rattle.run_model.specs.Steps.{OneOf}
use Rattle.run_model.specs.declared.cap.Cap.{Cap}
use Rattle.authority.specs.Glue.Keys.{IsKeyOf, entry_edge}
use Rattle.authority.specs.Glue.EdgePlaces.{IsByPlace, IsSingle, place_cmp, place_edge}
use Rattle.authority.specs.Glue.EdgeTables.{edge_at}
use Rattle.authority.specs.declared.key.Key.{Key}
use Rattle.authority.proofs.First.{one_front, one_back, one_either}

-- ---- keys that are ordered as one are one

pub both_equal : (a b : Ordering) → ordering_then a b ≡ Equal → (a ≡ Equal) × (b ≡ Equal)
both_equal Less b e = absurd (less_equal e)
  where
    less_equal : Less ≡ Equal → ⊥
    less_equal e = cc
both_equal Equal b e = (refl, e)
both_equal Greater b e = absurd (greater_equal e)
  where
    greater_equal : Greater ≡ Equal → ⊥
    greater_equal e = cc

abbrev three : ℕ → ℕ → ℕ → ℕ × ℕ × ℕ
three v i p = (v, i, p)

triple : (v w i j p q : ℕ) → v ≡ w → i ≡ j → p ≡ q → three v i p ≡ three w j q
triple v w i j p q a b c = ap (λ n. three n i p) a ∙ ap (λ n. three w n p) b ∙ ap (λ n. three w j n) c

same_place : (x y : ℕ × ℕ × ℕ) → place_cmp x y ≡ Equal → x ≡ y
same_place (v, i, p) (w, j, q) e =
    let one = both_equal (ordering_then (nat_cmp v w) (nat_cmp i j)) (nat_cmp p q) e in
    let two = both_equal (nat_cmp v w) (nat_cmp i j) one.0 in
    triple v w i j p q (exact_unsigned v w two.0) (exact_unsigned i j two.1) (exact_unsigned p q one.1)

-- ---- one entry more

abbrev Entry : Type 0
Entry = (ℕ × ℕ × ℕ) × Cap

abbrev Among : Edge → List Entry → Type 0
Among f es = OneOf (λ x. x ≡ f) (map place_edge es)

module _ (k : ℕ × ℕ × ℕ) (a : Cap) where
  -- the entry is put before another, in its place, or behind
  abbrev put : Ordering → Entry → List Entry → List Entry
  put o e es = match_ordering o ((k, a) ∷ e ∷ es) ((e.0, a) ∷ es) (e ∷ insert_entry place_cmp es k a)

  edge_same : (e : Entry) → place_cmp k e.0 ≡ Equal → place_edge (k, a) ≡ place_edge (e.0, a)
  edge_same e same = ap (λ (q : ℕ × ℕ × ℕ). place_edge (q, a)) (same_place k e.0 same)

  out_at : (f : Edge) (o : Ordering) (e : Entry) (es : List Entry) → place_cmp k e.0 ≡ o → (Among f (insert_entry place_cmp es k a) → (place_edge (k, a) ≡ f) ⊎ Among f es)
      → Among f (put o e es) → (place_edge (k, a) ≡ f) ⊎ Among f (e ∷ es)
  out_at f Less e es at rest (inl is) = inl is
  out_at f Less e es at rest (inr there) = inr there
  out_at f Equal e es at rest (inl is) = inl (edge_same e at ∙ is)
  out_at f Equal e es at rest (inr there) = inr (inr there)
  out_at f Greater e es at rest (inl is) = inr (inl is)
  out_at f Greater e es at rest (inr there) = elim (rest there) [ inl new ↦ inl new | inr was ↦ inr (inr was) ]

  out : (f : Edge) (es : List Entry) → Among f (insert_entry place_cmp es k a) → (place_edge (k, a) ≡ f) ⊎ Among f es
  out f [] (inl is) = inl is
  out f [] (inr none) = absurd none
  out f (e ∷ es) h = out_at f (place_cmp k e.0) e es refl (out f es) h

  new_at : (o : Ordering) (e : Entry) (es : List Entry) → place_cmp k e.0 ≡ o → Among (place_edge (k, a)) (insert_entry place_cmp es k a) → Among (place_edge (k, a)) (put o e es)
  new_at Less e es at rest = inl refl
  new_at Equal e es at rest = inl (sym (edge_same e at))
  new_at Greater e es at rest = inr rest

  new : (es : List Entry) → Among (place_edge (k, a)) (insert_entry place_cmp es k a)
  new [] = inl refl
  new (e ∷ es) = new_at (place_cmp k e.0) e es refl (new es)

  -- at the place of the new entry this one has the same cap
  abbrev Agrees : Edge → Type 0
  Agrees f = f.vat ≡ k.0 → f.at_record ≡ k.1 → f.bound_index ≡ k.2 → f.cap ≡ a

  same_edge : (f : Edge) (e : Entry) → Agrees f → place_edge e ≡ f → place_cmp k e.0 ≡ Equal → place_edge (e.0, a) ≡ f
  same_edge f e agrees is same =
      let one = same_place k e.0 same in
      let cap : f.cap ≡ a = agrees
      (sym (ap (λ (x : Edge). x.vat) is) ∙ sym (ap (λ (q : ℕ × ℕ × ℕ). q.0) one))
      (sym (ap (λ (x : Edge). x.at_record) is) ∙ sym (ap (λ (q : ℕ × ℕ × ℕ). q.1) one))
      (sym (ap (λ (x : Edge). x.bound_index) is) ∙ sym (ap (λ (q : ℕ × ℕ × ℕ). q.2) one)) in
      ap (λ (c : Cap). place_edge (e.0, c)) (sym cap ∙ sym (ap (λ (x : Edge). x.cap) is)) ∙ is

  old_at : (f : Edge) → Agrees f → (o : Ordering) (e : Entry) (es : List Entry) → place_cmp k e.0 ≡ o → (Among f es → Among f (insert_entry place_cmp es k a)) → Among f (e ∷ es) → Among f (put o e es)
  old_at f agrees Less e es at rest h = inr h
  old_at f agrees Equal e es at rest (inl is) = inl (same_edge f e agrees is at)
  old_at f agrees Equal e es at rest (inr there) = inr there
  old_at f agrees Greater e es at rest (inl is) = inl is
  old_at f agrees Greater e es at rest (inr there) = inr (rest there)

  old : (f : Edge) → Agrees f → (es : List Entry) → Among f es → Among f (insert_entry place_cmp es k a)
  old f agrees [] h = absurd h
  old f agrees (e ∷ es) h = old_at f agrees (place_cmp k e.0) e es refl (old f agrees es) h

-- ---- so many entries are in the table

abbrev pub Found : Type 0
Found = Key × (ℕ × ℕ)

abbrev pub IsPlaced : List Found → List Found → BTreeMap (ℕ × ℕ × ℕ) Cap → Type 0
IsPlaced all rest table = (done : List Found) × (done ++ rest ≡ all) × IsByPlace (map entry_edge done) table

pub placed_none : (all : List Found) (table : BTreeMap (ℕ × ℕ × ℕ) Cap) → IsOrdered place_cmp table → table.entries ≡ [] → IsPlaced all all table
placed_none all table ordered empty = ([], refl, (ordered, λ e. (λ h. subst (λ l. Among e l) empty h, λ h. absurd h)))

key_edge : (key : Key) (i p v : ℕ) (a : Cap) → IsKeyOf v a key → place_edge ((v, i, p), a) ≡ entry_edge (key, (i, p))
key_edge key i p v a is = sym (ap₂ (λ w b. edge_at w b i p) is.0 is.1)

pub placed_more : (all rest : List Found) (x : Found) (v : ℕ) (a : Cap) (table more : BTreeMap (ℕ × ℕ × ℕ) Cap) → IsSingle (map entry_edge all) → IsKeyOf v a x.0 → IsPlaced all (x ∷ rest) table
    → IsOrdered place_cmp more → more.entries ≡ insert_entry place_cmp table.entries (v, (x.1).0, (x.1).1) a → IsPlaced all rest more
placed_more all rest x v a table more single is placed ordered entries =
    let done = placed.0 in
    let i = (x.1).0 in
    let p = (x.1).1 in
    let k : ℕ × ℕ × ℕ = (v, i, p) in
    let edge : place_edge (k, a) ≡ entry_edge x = key_edge x.0 i p v a is in
    let whole : map entry_edge done ++ map entry_edge (x ∷ rest) ≡ map entry_edge all = sym (map-append entry_edge done (x ∷ rest)) ∙ ap (map entry_edge) placed.1 in
    let here : OneOf (λ y. y ≡ entry_edge x) (map entry_edge all) = subst (OneOf (λ y. y ≡ entry_edge x)) whole (one_back (λ y. y ≡ entry_edge x) (map entry_edge done) (map entry_edge (x ∷ rest)) (inl refl)) in
    let pushed : map entry_edge (done ++ x ∷ []) ≡ map entry_edge done ++ entry_edge x ∷ [] = map-append entry_edge done (x ∷ []) in (
      done ++ x ∷ [],
      append_assoc done (x ∷ []) rest ∙ placed.1,
      (
        ordered,
        λ f. (
          λ h. subst (OneOf (λ y. y ≡ f)) (sym pushed) (elim (out k a f table.entries (subst (Among f) entries h)) [
            | inl new_one ↦ one_back (λ y. y ≡ f) (map entry_edge done) (entry_edge x ∷ []) (inl (sym edge ∙ new_one))
            | inr was ↦ one_front (λ y. y ≡ f) (map entry_edge done) (entry_edge x ∷ []) ((placed.2.1 f).0 was)
          ]),
          λ h. subst (Among f) (sym entries) (elim (one_either (λ y. y ≡ f) (map entry_edge done) (entry_edge x ∷ []) (subst (OneOf (λ y. y ≡ f)) pushed h)) [
            | inl front ↦
                let there : OneOf (λ y. y ≡ f) (map entry_edge all) = subst (OneOf (λ y. y ≡ f)) whole (one_front (λ y. y ≡ f) (map entry_edge done) (map entry_edge (x ∷ rest)) front) in
                old k a f (λ vat at place. single f (entry_edge x) there here (vat ∙ sym is.0) at place ∙ is.1) table.entries ((placed.2.1 f).1 front)
            | inr back ↦ elim back [
              | inl same ↦ subst (λ g. Among g (insert_entry place_cmp table.entries k a)) (edge ∙ same) (new k a table.entries)
              | inr none ↦ absurd none
            ]
          ]),
        ),
      ),
    )

pub placed_all : (all : List Found) (table : BTreeMap (ℕ × ℕ × ℕ) Cap) → IsPlaced all [] table → IsByPlace (map entry_edge all) table
placed_all all table placed = subst (λ l. IsByPlace (map entry_edge l) table) (sym (append-nil placed.0) ∙ placed.1) placed.2

-- a turn of the loop
pub placed_turn : (own : List Edge) (entries all left rest : List Found) (r : Option Found) (x : Found) (v : ℕ) (a : Cap) (table more : BTreeMap (ℕ × ℕ × ℕ) Cap)
    → IsSingle own → map entry_edge entries ≡ own → all ≡ entries → r ≡ Some x → TakesFirst (λ (y : Found). y) left r rest → IsKeyOf v a x.0 → IsPlaced all left table
    → IsOrdered place_cmp more → more.entries ≡ insert_entry place_cmp table.entries (v, (x.1).0, (x.1).1) a → IsPlaced all rest more
placed_turn own entries all left rest r x v a table more single view gives is step key placed ordered put_there =
    placed_more all rest x v a table more (subst IsSingle (sym view ∙ ap (map entry_edge) (sym gives)) single) key
    (subst (λ (l : List Found). IsPlaced all l table) (rest_more (λ (y : Found). y) left rest r x is step) placed) ordered put_there
