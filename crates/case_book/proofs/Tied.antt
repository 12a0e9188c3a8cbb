-- In a case that ties up, a link's two ends are two vats with logs.
use Rattle.std.proofs.Common.{◌≡◌, ◌≢◌, ℕ, zero, suc, Bool, true, false, List, [], ◌∷◌, ◌++◌, Option, Some, None, refl, subst, inl, inr, eq-eqb}
use Rattle.std.specs.Prelude.{◌==◌, ◌&&◌, not, filter, slice_get}
use Rattle.std.specs.List.{flat_map}
use Rattle.std.specs.Option.{option_map}
use Rattle.case_book.specs.Case.{Contents, or_else, connections_of}
use Rattle.case_book.specs.Least.{least, IsLeast}
use Rattle.case_book.specs.Ties.{tie_fault_of, missing_logs, unlinked_in, links_without_log, lacks_log, has_log, links_of_one_vat}
use Rattle.case_book.specs.declared.link.Link.{Link}
use Rattle.case_book.specs.declared.ties.TieFault.{TieFault}
use Rattle.case_book.specs.declared.ties.TieFault.TheVariants.{MissingLog, SameEnds}
use Rattle.case_book.proofs.Lowest.{least_of}
use Rattle.case_book.proofs.Numbers.{bool_cases}

none_under : (o : Option ℕ) (f : ℕ → TieFault) → option_map f o ≡ None → o ≡ None
none_under None f e = refl
none_under (Some n) f e = absurd (cc)

neither : (o : Option ℕ) (f : ℕ → TieFault) (other : Option TieFault) → or_else (option_map f o) other ≡ None → (o ≡ None) × (other ≡ None)
neither None f other e = (refl, e)
neither (Some n) f other e = absurd (cc)

no_least : (ns : List ℕ) → least ns ≡ None → ns ≡ []
no_least ns e = subst (IsLeast ns) e (least_of ns)

none_behind : (xs ys : List ℕ) → xs ++ ys ≡ [] → ys ≡ []
none_behind [] ys e = e
none_behind (x ∷ xs) ys e = absurd (cc)

all_fail : (p : Link → Bool) (links : List Link) → connections_of (filter p links) ≡ [] → (k : ℕ) (link : Link) → slice_get links k ≡ Some link → p link ≡ false
all_fail p [] e k link at = absurd (cc)
all_fail p (first ∷ links) e zero link at =
    let same : first ≡ link = cc in
    elim (bool_cases (p first)) [
      | inl passes ↦ absurd (let h = rw passes at e in cc)
      | inr fails ↦ subst (λ (l : Link). p l ≡ false) same fails
    ]
all_fail p (first ∷ links) e (suc k) link at =
    elim (bool_cases (p first)) [
      | inl passes ↦ absurd (let h = rw passes at e in cc)
      | inr fails ↦ all_fail p links (rw fails at e) k link at
    ]

both_true : (a b : Bool) → not (a && b) ≡ false → (a ≡ true) × (b ≡ true)
both_true true true e = (refl, refl)
both_true true false e = absurd (cc)
both_true false b e = absurd (cc)

-- the ends of a link are two vats with logs
pub record HasEnds (held : Contents) (link : Link) : Type 0 where
  pub first : has_log held.logs link.a ≡ true
  pub second : has_log held.logs link.b ≡ true
  pub apart : link.a ≢ link.b

pub has_ends : (held : Contents) → tie_fault_of held ≡ None → (k : ℕ) (link : Link) → slice_get held.links k ≡ Some link → HasEnds held link
unfolding tie_fault_of
has_ends held tied k link at =
    let two = neither (least (missing_logs held)) MissingLog (option_map SameEnds (least (links_of_one_vat held.links))) tied in
    let no_missing = none_behind (flat_map (unlinked_in held.links) held.logs) (links_without_log held.logs held.links) (no_least (missing_logs held) two.0) in
    let no_same = no_least (links_of_one_vat held.links) (none_under (least (links_of_one_vat held.links)) SameEnds two.1) in
    let logged = both_true (has_log held.logs link.a) (has_log held.logs link.b) (all_fail (lacks_log held.logs) held.links no_missing k link at) in
    let other = all_fail (λ (l : Link). l.a == l.b) held.links no_same k link at in
    record {
      first = logged.0;
      second = logged.1;
      apart = λ same. let is = eq-eqb link.a link.b same in cc;
    }
