-- The connections that the records use, with one record more.
use Rattle.std.proofs.Common.{◌≡◌, ℕ, true, false, cond, List, [], ◌∷◌, ◌++◌, Option, Some, None, ap, subst, sym, inl, inr, ◌∙◌, arith}
use Rattle.std.specs.Prelude.{◌⊎◌, Contains, IfSome, IsSomeAnd, nat_eq, not}
use Rattle.std.specs.Option.{option_eq}
use Rattle.std.specs.BTreeMap.{is_at}
use Rattle.std.specs.BTreeSet.{BTreeSet, contains}
use Rattle.std.specs.List.{filter_map, cons_option}
use Rattle.std.specs.Ordering.{nat_cmp}
use Rattle.std.proofs.lemmas.Bool.Decides.{nat_tests}
use Rattle.std.proofs.lemmas.Cmp.{nat_cmp_total}
use Rattle.std.proofs.lemmas.List.{append-nil}
use Rattle.std.proofs.lemmas.List.Elements.{filter_map-append, Contains-append_left, Contains-push, Contains-push_cases}
use Rattle.std.proofs.lemmas.Map.Lookups.{exact_unsigned}
use Rattle.std.proofs.lemmas.Map.Views.{btree_set_contains_iff}
use Rattle.vat_log.specs.declared.body.Body.{Body}
use Rattle.vat_log.specs.Passages.{used_by}
use Rattle.case_book.proofs.Numbers.{bool_cases}
use Rattle.log_lane.specs.UsedOnce.{HaveSame, AreUsed}
use Rattle.log_lane.specs.Used.{UsesAnother}

-- a list has the numbers of another, and this one
pub record HasBeside (k : ℕ) (ks ns : List ℕ) : Type 0 where
  pub itself : Contains ns k
  pub kept : (n : ℕ) → Contains ks n → Contains ns n
  pub others : (n : ℕ) → Contains ns n → (k ≡ n) ⊎ Contains ks n

used_more : (records : List Body) (body : Body) (o : Option ℕ) → used_by body ≡ o → filter_map used_by (records ++ body ∷ []) ≡ filter_map used_by records ++ cons_option o []
used_more records body o is = filter_map-append used_by records (body ∷ []) ∙ ap (λ (p : Option ℕ). filter_map used_by records ++ cons_option p []) is

-- a record that uses none adds none
pub none_more : (records : List Body) (body : Body) (ks : List ℕ) → used_by body ≡ None → AreUsed records ks → AreUsed (records ++ body ∷ []) ks
none_more records body ks none used = subst (λ (ns : List ℕ). HaveSame ns ks) (sym (used_more records body None none ∙ append-nil (filter_map used_by records))) used

-- a record that uses one adds that one
pub one_more : (records : List Body) (body : Body) (k : ℕ) (ks ns : List ℕ) → used_by body ≡ Some k → HasBeside k ks ns → AreUsed records ks → AreUsed (records ++ body ∷ []) ns
one_more records body k ks ns some beside used =
    let all : List ℕ = filter_map used_by records in
    subst (λ (ms : List ℕ). HaveSame ms ns) (sym (used_more records body (Some k) some)) (record {
      there = λ n h. elim (Contains-push_cases all k n h) [
        | inl there ↦ beside.kept n (used.there n there)
        | inr is ↦ subst (Contains ns) is beside.itself
      ];
      back = λ n h. elim (beside.others n h) [
        | inl is ↦ subst (Contains (all ++ k ∷ [])) is (Contains-push all k)
        | inr there ↦ Contains-append_left all (k ∷ []) n (used.back n there)
      ];
    })

-- one that was there already
pub has_itself : (k : ℕ) (ks : List ℕ) → Contains ks k → HasBeside k ks ks
has_itself k ks there = record { itself = there; kept = λ n h. h; others = λ n h. inr h }

-- one that is put into a set
abbrev Puts : BTreeSet ℕ → BTreeSet ℕ → ℕ → Type 0
Puts s t k = (q : ℕ) → contains nat_cmp t q ≡ cond (is_at (nat_cmp k) q) true (contains nat_cmp s q)

has : (s : BTreeSet ℕ) (q : ℕ) → contains nat_cmp s q ≡ true → Contains s.keys q
has s q = (btree_set_contains_iff nat_cmp_total exact_unsigned s q).0

found : (s : BTreeSet ℕ) (q : ℕ) → Contains s.keys q → contains nat_cmp s q ≡ true
found s q = (btree_set_contains_iff nat_cmp_total exact_unsigned s q).1

pub has_put : (s t : BTreeSet ℕ) (k : ℕ) → Puts s t k → HasBeside k s.keys t.keys
has_put s t k puts =
    record {
      itself = has t k (let e = puts k in grind (arith, nat_tests));
      kept = λ n h. has t n (let e = puts n in let f = found s n h in elim (bool_cases (is_at (nat_cmp k) n)) [
        | inl at ↦ cc
        | inr off ↦ cc
      ]);
      others = λ n h. let e = puts n in let f = found t n h in elim (bool_cases (is_at (nat_cmp k) n)) [
        | inl at ↦ inl (exact_unsigned k n (grind (arith, nat_tests)))
        | inr off ↦ inr (has s n (let g = rw off at e in cc))
      ];
    }

-- one that is known to be there
pub is_known : (known : Option ℕ) (k : ℕ) (ks : List ℕ) → IfSome known (Contains ks) → not (option_eq nat_eq known (Some k)) ≡ false → Contains ks k
is_known None k ks all e = absurd (cc)
is_known (Some n) k ks all e = subst (Contains ks) (let same : n ≡ k = grind (arith, nat_tests) in same) all

-- one that isn't in the set is used for the first time
pub first_use : (records : List Body) (body : Body) (k : ℕ) (s : BTreeSet ℕ) → used_by body ≡ Some k → contains nat_cmp s k ≡ false → AreUsed records s.keys → UsesAnother records body
first_use records body k s some absent used =
    subst (λ (o : Option ℕ). IsSomeAnd o (λ connection. ¬ Contains (filter_map used_by records) connection)) (sym some) (λ h. let there = found s k (used.there k h) in cc)
