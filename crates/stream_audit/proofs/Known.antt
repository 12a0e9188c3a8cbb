-- What is found of each link of a case.
use Rattle.std.proofs.Common.{◌≡◌, ℕ, suc, zero, Bool, true, false, List, [], ◌∷◌, length, Option, Some, None, refl, sym, ap, subst, arith, inl, inr}
use Rattle.std.specs.Prelude.{◌==◌, ◌||◌, Contains, IsSomeAnd, slice_get}
use Rattle.std.proofs.lemmas.Bool.{cases_lt, eqb-true}
use Rattle.vat_log.specs.Log.{Log}
use Rattle.link_check.specs.Prefix.{Ends}
use Rattle.case_book.specs.Case.{Contents, IsCase}
use Rattle.case_book.specs.Pieces.{IsComparisonOf}
use Rattle.case_book.specs.Ties.{tie_fault_of, has_log}
use Rattle.case_book.specs.declared.link.Link.{Link}
use Rattle.case_book.proofs.Tied.{has_ends}
use Rattle.stream_audit.proofs.FoundLines.{AreLinksFound}

-- ---- the ends of links

log_with : (logs : List Log) (v : ℕ) → has_log logs v ≡ true → (log : Log) × Contains logs log × (log.vat ≡ v)
log_with [] v has = absurd (let no : ⊥ = cc in no)
log_with (log ∷ logs) v has = at (log.vat == v) refl has (log_with logs v)
  where
    at : (b : Bool) → (log.vat == v) ≡ b → (b || has_log logs v) ≡ true → (has_log logs v ≡ true → (other : Log) × Contains logs other × (other.vat ≡ v)) → (other : Log) × Contains (log ∷ logs) other × (other.vat ≡ v)
    at true same has rest = (log, (0, omega arith, refl), eqb-true log.vat v same)
    at false other has rest = let found = rest has in let place = found.1 in let lt = place.1 in (found.0, (suc place.0, omega (arith, lt), place.2), found.2)

pub ends_of : (held : Contents) → tie_fault_of held ≡ None → (k : ℕ) (link : Link) → slice_get held.links k ≡ Some link → (ends : Ends) × IsComparisonOf held.logs link ends
ends_of held tied k link at =
    let has = has_ends held tied k link at in
    let one = log_with held.logs link.a has.first in
    let other = log_with held.logs link.b has.second in
    elim (cases_lt link.a link.b) [
      | inl lt ↦ (
        record { connection = link.connection; first = one.0; second = other.0 },
        record {
          connection = refl;
          smaller = (let v = one.2 in omega (arith, v, lt));
          greater = (let v = other.2 in omega (arith, v, lt));
          first_held = one.1;
          second_held = other.1;
        },
      )
      | inr ge ↦ (
        record { connection = link.connection; first = other.0; second = one.0 },
        record {
          connection = refl;
          smaller = (let v = other.2 in omega (arith, v, ge));
          greater = (let v = one.2 in omega (arith, v, ge));
          first_held = other.1;
          second_held = one.1;
        },
      )
    ]

-- the ends of each of some links
all_ends : (logs : List Log) (links : List Link) → ((k : ℕ) (link : Link) → slice_get links k ≡ Some link → (ends : Ends) × IsComparisonOf logs link ends)
    → (all : List Ends) × (length all ≡ length links) × ((k : ℕ) (ends : Ends) → slice_get all k ≡ Some ends → (link : Link) × (slice_get links k ≡ Some link) × IsComparisonOf logs link ends)
all_ends logs [] each = ([], refl, λ k ends at. absurd (let no : ⊥ = cc in no))
all_ends logs (link ∷ links) each =
    let first = each 0 link refl in
    let rest = all_ends logs links (λ k. each (suc k)) in (
      first.0 ∷ rest.0,
      ap suc rest.1,
      at first.0 first.1 rest.0 rest.2,
    )
  where
    at : (one : Ends) → IsComparisonOf logs link one → (others : List Ends) → ((k : ℕ) (ends : Ends) → slice_get others k ≡ Some ends → (other : Link) × (slice_get links k ≡ Some other) × IsComparisonOf logs other ends)
        → (k : ℕ) (ends : Ends) → slice_get (one ∷ others) k ≡ Some ends → (other : Link) × (slice_get (link ∷ links) k ≡ Some other) × IsComparisonOf logs other ends
    at one own others rest zero ends is = (link, refl, subst (IsComparisonOf logs link) (same one ends is) own)
      where
        same : (a b : Ends) → ◌≡◌ {A = Option Ends} (Some a) (Some b) → a ≡ b
        same a b e = cc
    at one own others rest (suc k) ends is = rest k ends is

pub record EndsFound (held : Contents) : Type 0 where
  pub all : List Ends
  pub found : AreLinksFound held all
  pub each : (k : ℕ) (ends : Ends) → slice_get all k ≡ Some ends → (link : Link) × (slice_get held.links k ≡ Some link) × IsComparisonOf held.logs link ends
  pub many : length all ≡ length held.links

pub ends_found : (held : Contents) → IsCase held → tie_fault_of held ≡ None → EndsFound held
ends_found held case tied =
    let all = all_ends held.logs held.links (ends_of held tied) in
    record {
      all = all.0;
      found = record {
        rising = case.rising_links;
        few = case.few_links;
        each = all.1;
        own = λ k one at. (
            let link = all.2 k one at in
            subst (λ (o : Option Link). IsSomeAnd o (λ l. IsComparisonOf held.logs l one)) (sym link.1) link.2
            );
      };
      each = all.2;
      many = all.1;
    }
