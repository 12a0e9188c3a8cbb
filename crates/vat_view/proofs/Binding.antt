-- References that are bound in turn.
use Rattle.std.proofs.Common.{◌≡◌, inl, inr, refl, ◌∙◌, ap, ℕ, ◌==◌, List, [], ◌∷◌, ◌++◌, map, Bool, true, false, ◌||◌, Option, Some, None, if◌then◌else◌}
use Rattle.std.specs.Prelude.{Result, Ok, Err, OnErr}
use Rattle.std.proofs.lemmas.Bool.{or_parts}
use Rattle.vat_view.specs.Types.{View}
use Rattle.decoded_records.specs.Bindings.{contains}
use Rattle.vat_view.specs.Glue.Tables.{bound_by}
use Rattle.vat_view.specs.Glue.TurnTables.{IsOwnOrOld}
use Rattle.vat_view.specs.declared.tables.references.BoundReferences.{BoundReferences}

pub bound_more : (q : ℕ) (xs : List (ℕ × View)) (x : ℕ × View) (v : Option View) → bound_by q (xs ++ x ∷ []) v ≡ (if x.0 == q then Some x.1 else bound_by q xs v)
bound_more q [] x v = refl
bound_more q (y ∷ xs) x v = bound_more q xs x (if y.0 == q then Some y.1 else v)

-- a reference that isn't among them keeps its view
pub bound_apart : (q : ℕ) (xs rest : List (ℕ × View)) (v : Option View) → contains q (map (λ x. x.0) (xs ++ rest)) ≡ false → bound_by q xs v ≡ v
bound_apart q [] rest v h = refl
bound_apart q (y ∷ xs) rest v h =
    let parts = or_parts (y.0 == q) (contains q (map (λ x. x.0) (xs ++ rest))) h in
    ap (λ b. bound_by q xs (if b then Some y.1 else v)) parts.0 ∙ bound_apart q xs rest v parts.1

taken : (a b : Bool) (v : Option View) → (if b then None else (if a then None else v)) ≡ (if a || (b || false) then None else v)
taken true true v = refl
taken true false v = refl
taken false true v = refl
taken false false v = refl

pub unbound_more : (a b : Bool) (v w : Option View) → w ≡ (if a then None else v) → (if b then None else w) ≡ (if a || (b || false) then None else v)
unbound_more a b v w e = ap (λ x. if b then None else x) e ∙ taken a b v

pub any_err : {T E P : Type 0} (r : Result T E) → P → OnErr r P
any_err (Ok x) p = tt
any_err (Err e) p = p

-- ---- references ahead, where bindings change in turn

pub none_ahead : (table : BoundReferences) → IsOwnOrOld table table
none_ahead table r q e = inl e

pub then_ahead : (a b c : BoundReferences) → IsOwnOrOld a b → IsOwnOrOld b c → IsOwnOrOld a c
then_ahead a b c first second r q e = elim (second r q e) [
  | inl old ↦ first r q old
  | inr own ↦ inr own
]
