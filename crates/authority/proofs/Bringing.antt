-- What a message brought is a field of its call, or has an edge.
use Rattle.std.proofs.Common.{◌≡◌, ◌∙◌, ◌⊎◌, ℕ, suc, ◌<◌, inl, inr, refl, sym, ap, subst, ◌==◌, List, [], ◌∷◌, ◌++◌, reverse, Bool, true, false, if◌then◌else◌, Some, arith}
use Rattle.std.specs.Prelude.{slice_get}
use Rattle.std.specs.List.{AllByRecursion}
use Rattle.std.proofs.lemmas.Bool.{true≢false}
use Rattle.std.proofs.lemmas.List.{append_assoc}
use Rattle.run_model.specs.Edges.{AreEdges, Edge, IsForeign, IsWitness}
use Rattle.run_model.specs.Has.{Brings, Has}
use Rattle.run_model.specs.Legal.{IsLegal, IsLegalRun, is_present, present, used_caps}
use Rattle.run_model.specs.Steps.{EachStep, OneOf, PastSteps, count_steps, vat_of}
use Rattle.run_model.proofs.Once.{foreign_was_brought}
use Rattle.run_model.specs.declared.cap.Cap.{Cap}
use Rattle.run_model.specs.declared.cap.Cap.TheVariants as cap
use Rattle.run_model.specs.declared.step.Step.{Step}
use Rattle.run_model.specs.declared.step.Step.TheVariants.{Host, Receive}
use Rattle.authority.specs.Explained.{BringsField, IsExplained}
use Rattle.authority.specs.Glue.EdgeTables.{IsAlike, IsBoundIn, edge_at}
use Rattle.authority.proofs.Bound.{bound_more, came_before, found_witness}
use Rattle.authority.proofs.Existing.{some_found}

place_of : (a : Cap) (bound : List Cap) → OneOf (λ b. b ≡ a) bound → (p : ℕ) × (slice_get bound p ≡ Some a)
place_of a [] h = absurd h
place_of a (b ∷ bound) (inl same) = (0, ap Some same)
place_of a (b ∷ bound) (inr there) = let r = place_of a bound there in (suc r.0, r.1)

pub brought_how : (v : ℕ) (a : Cap) (before : PastSteps) → OneOf (Brings v a) before → OneOf (BringsField v a) before ⊎ ((i p : ℕ) × IsBoundIn before (edge_at v a i p))
brought_how v a [] h = absurd h
brought_how v a (Receive w k m bound ∷ before) (inl (same, inl there)) =
    let r = place_of a bound there in inr (count_steps (λ t. vat_of t == w) before, r.0, inl (sym same, refl, r.1))
brought_how v a (Receive w k m bound ∷ before) (inl (same, inr field)) = inl (inl (same, field))
brought_how v a (Host w o ∷ before) (inl h) = absurd h
brought_how v a (s ∷ before) (inl h) = absurd h
brought_how v a (s ∷ before) (inr h) = elim (brought_how v a before h) [
  | inl field ↦ inl (inr field)
  | inr was ↦ inr (was.0, was.1, bound_more s before (edge_at v a was.0 was.1) was.2)
]

bound_on : (later before : PastSteps) (e : Edge) → IsBoundIn before e → IsBoundIn (later ++ before) e
bound_on [] before e h = h
bound_on (s ∷ later) before e h = bound_more s (later ++ before) e (bound_on later before e h)

-- what was bound before has its first witness before
pub witnessed : (run : List Step) (later before : PastSteps) → reverse run ≡ later ++ before → (f : Edge) → IsForeign f.vat f.cap → IsBoundIn before f
    → (e : Edge) × IsWitness run e.vat e.cap e.at_record e.bound_index × IsAlike f e × (e.at_record < count_steps (λ t. vat_of t == f.vat) before)
witnessed run later before parts f foreign here =
    let all = some_found (reverse run) in
    let r = all.1.covers f foreign (subst (λ l. IsBoundIn l f) (sym parts) (bound_on later before f here)) in
    let came = came_before before f here in (
      r.0,
      found_witness run all.0 all.1 r.0 r.1,
      r.2,
      elim r.3 [
        | inl before_it ↦ elim before_it [ inl less ↦ omega (arith, less, came) | inr same ↦ omega (arith, same.0, came) ]
        | inr same ↦ subst (λ (x : Edge). x.at_record < count_steps (λ t. vat_of t == f.vat) before) (sym same) came
      ],
    )

-- ---- what a step uses

is_there : (v : ℕ) (a : Cap) → IsForeign v a → is_present a ≡ true
is_there v (cap.Object w o) h = refl
is_there v (cap.Promise w p) h = refl
is_there v (cap.Field c path) h = refl
is_there v cap.Nothing h = absurd h

module _ (P : Cap → Type 0) (a : Cap) (is : is_present a ≡ true) where
  used_first : (x : Cap) (b : Bool) (rest : List Cap) → is_present x ≡ b → x ≡ a → AllByRecursion P (if b then x ∷ rest else rest) → P a
  used_first x true rest e same all = subst P same all.0
  used_first x false rest e same all = absurd (true≢false (sym is ∙ ap is_present (sym same) ∙ e))

  used_rest : (x : Cap) (b : Bool) (rest : List Cap) → AllByRecursion P (if b then x ∷ rest else rest) → AllByRecursion P rest
  used_rest x true rest all = all.1
  used_rest x false rest all = all

  used : (caps : List Cap) → AllByRecursion P (present caps) → OneOf (λ b. b ≡ a) caps → P a
  used [] all h = absurd h
  used (x ∷ caps) all (inl same) = used_first x (is_present x) (present caps) refl same all
  used (x ∷ caps) all (inr there) = used caps (used_rest x (is_present x) (present caps) all) there

each_at : (P : PastSteps → Step → Type 0) (later before : PastSteps) (s : Step) → EachStep P (later ++ s ∷ before) → P before s × EachStep P before
each_at P [] before s each = each
each_at P (t ∷ later) before s each = each_at P later before s each.1

pub explained : (run : List Step) (edges : List Edge) → IsLegalRun run → AreEdges run edges → (later before : PastSteps) (s : Step) → reverse run ≡ later ++ s ∷ before
    → (a : Cap) → OneOf (λ b. b ≡ a) (used_caps s) → IsForeign (vat_of s) a → IsExplained edges before (vat_of s) a
explained run edges legal are later before s parts a use_of foreign =
    let v = vat_of s in
    let at = each_at IsLegal later before s (subst (EachStep IsLegal) parts legal) in
    let has = used (Has before v) a (is_there v a foreign) (used_caps s) (at.0).0 use_of in
    elim (brought_how v a before (foreign_was_brought before at.1 v a foreign has)) [
      | inl field ↦ inl field
      | inr was ↦
          let found = witnessed run (later ++ s ∷ []) before (parts ∙ sym (append_assoc later (s ∷ []) before)) (edge_at v a was.0 was.1) foreign was.2 in
          inr (found.0, (are.exact found.0).1 found.1, found.2.0, found.2.1, found.3)
    ]
