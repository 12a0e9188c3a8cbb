-- The places of pieces: those of logs first, then those of links.
use Rattle.std.proofs.Common.{◌≡◌, ℕ, zero, suc, ◌+◌, ◌<◌, List, [], ◌∷◌, ◌++◌, length, map, Option, Some, None, refl, sym, ap, ◌∙◌, subst, inl, inr, arith}
use Rattle.std.specs.Prelude.{IsSomeAnd, MatchOption, slice_get}
use Rattle.std.specs.Option.{option_map}
use Rattle.std.specs.List.Sorted.{IsStrictlyIncreasing}
use Rattle.std.proofs.lemmas.Bool.{cases_lt, cases_eq}
use Rattle.std.proofs.lemmas.List.{length-append, length-map}
use Rattle.std.proofs.lemmas.List.Kept.{AllPairs-from_increasing}
use Rattle.std.proofs.lemmas.Option.{slice_get-map, slice_get_within, get_or_from_slice_get}
use Rattle.vat_log.specs.Log.{Log}
use Rattle.vat_rules.specs.Audit.{Found}
use Rattle.link_check.specs.Prefix.{Ends}
use Rattle.case_book.specs.Case.{Contents, IsCase, vats_of, connections_of}
use Rattle.case_book.specs.Pieces.{Audit, Compare, pieces_of, IsAuditOf, IsComparisonOf, IsFoundBy, IsForPiece}
use Rattle.case_book.specs.declared.link.Link.{Link}
use Rattle.case_book.specs.declared.piece_finding.Finding.{Finding}
use Rattle.case_book.specs.declared.piece_finding.Finding.TheVariants as finding

pub pieces_len : (held : Contents) → length (pieces_of held) ≡ length held.logs + length held.links
pieces_len held =
    let both = length-append (map Audit held.logs) (map Compare held.links) in
    let logs = length-map held.logs Audit in
    let links = length-map held.links Compare in
    omega (arith, both, logs, links)

-- what stands at a place, where a fact holds of it
pub taken : {X : Type 0} (o : Option X) (P : X → Type 0) → IsSomeAnd o P → (x : X) × (o ≡ Some x) × P x
taken None P h = absurd h
taken (Some x) P h = (x, refl, h)

pub given : {X : Type 0} (o : Option X) (P : X → Type 0) (x : X) → o ≡ Some x → P x → IsSomeAnd o P
given {X = X} o P x e h = subst (λ (p : Option X). IsSomeAnd p P) (sym e) h

module _ (held : Contents) (audited : Found) where
  no_audit : (links : List Link) (k : ℕ) → ¬ IsSomeAnd (slice_get (map Compare links) k) (IsFoundBy held (finding.Vat audited))
  no_audit [] k h = h
  no_audit (link ∷ links) zero h = h
  no_audit (link ∷ links) (suc k) h = no_audit links k h

  pub audits : (logs : List Log) (links : List Link) (k : ℕ) → IsSomeAnd (slice_get (map Audit logs ++ map Compare links) k) (IsFoundBy held (finding.Vat audited))
      → IsSomeAnd (slice_get logs k) (λ log. IsAuditOf log audited)
  audits [] links k h = no_audit links k h
  audits (log ∷ logs) links zero h = h
  audits (log ∷ logs) links (suc k) h = audits logs links k h

  pub is_audit : (logs : List Log) (links : List Link) (k : ℕ) → IsSomeAnd (slice_get logs k) (λ log. IsAuditOf log audited)
      → IsSomeAnd (slice_get (map Audit logs ++ map Compare links) k) (IsFoundBy held (finding.Vat audited))
  is_audit [] links k h = absurd h
  is_audit (log ∷ logs) links zero h = h
  is_audit (log ∷ logs) links (suc k) h = is_audit logs links k h

module _ (held : Contents) (compared : Ends) where
  of_links : (links : List Link) (k : ℕ) → IsSomeAnd (slice_get (map Compare links) k) (IsFoundBy held (finding.Link compared))
      → IsSomeAnd (slice_get links k) (λ link. IsComparisonOf held.logs link compared)
  of_links [] k h = h
  of_links (link ∷ links) zero h = h
  of_links (link ∷ links) (suc k) h = of_links links k h

  to_links : (links : List Link) (k : ℕ) → IsSomeAnd (slice_get links k) (λ link. IsComparisonOf held.logs link compared)
      → IsSomeAnd (slice_get (map Compare links) k) (IsFoundBy held (finding.Link compared))
  to_links [] k h = h
  to_links (link ∷ links) zero h = h
  to_links (link ∷ links) (suc k) h = to_links links k h

  pub compares : (logs : List Log) (links : List Link) (k : ℕ) → IsSomeAnd (slice_get (map Audit logs ++ map Compare links) k) (IsFoundBy held (finding.Link compared))
      → (j : ℕ) × (k ≡ length logs + j) × IsSomeAnd (slice_get links j) (λ link. IsComparisonOf held.logs link compared)
  compares [] links k h = (k, omega arith, of_links links k h)
  compares (log ∷ logs) links zero h = absurd h
  compares (log ∷ logs) links (suc k) h =
      let rest = compares logs links k h in
      let e = rest.1 in (rest.0, omega arith, rest.2)

  pub is_comparison : (logs : List Log) (links : List Link) (k j : ℕ) → k ≡ length logs + j → IsSomeAnd (slice_get links j) (λ link. IsComparisonOf held.logs link compared)
      → IsSomeAnd (slice_get (map Audit logs ++ map Compare links) k) (IsFoundBy held (finding.Link compared))
  is_comparison [] links k j e h =
      let same : j ≡ k = omega arith in
      subst (λ (n : ℕ). IsSomeAnd (slice_get (map Compare links) n) (IsFoundBy held (finding.Link compared))) same (to_links links j h)
  is_comparison (log ∷ logs) links zero j e h = absurd (omega arith)
  is_comparison (log ∷ logs) links (suc k) j e h = is_comparison logs links k j (omega arith) h

-- a number stands once among rising ones
pub stands_once : (ns : List ℕ) → IsStrictlyIncreasing ns → (i j n : ℕ) → slice_get ns i ≡ Some n → slice_get ns j ≡ Some n → i ≡ j
stands_once ns rising i j n here there =
    let low = get_or_from_slice_get ns i n 0 here in
    let high = get_or_from_slice_get ns j n 0 there in
    let within_i = slice_get_within ns i n here in
    let within_j = slice_get_within ns j n there in
    elim (cases_lt i j) [
      | inl lt ↦ absurd (omega (arith, low, high, AllPairs-from_increasing ns rising i j 0 lt within_j))
      | inr ge ↦ elim (cases_eq i j) [
        | inl same ↦ same
        | inr other ↦ absurd (let lt : j < i = omega arith in omega (arith, low, high, AllPairs-from_increasing ns rising j i 0 lt within_i))
      ]
    ]

-- where it stands under a map
pub under : {X : Type 0} (f : X → ℕ) (xs : List X) (k : ℕ) (x : X) (n : ℕ) → slice_get xs k ≡ Some x → f x ≡ n → slice_get (map f xs) k ≡ Some n
under f xs k x n at same = slice_get-map f xs k ∙ ap (option_map f) at ∙ ap Some same

-- a finding is for one piece at most
pub for_one : (held : Contents) → IsCase held → (found : Finding) (i j : ℕ) → IsForPiece held found i → IsForPiece held found j → i ≡ j
for_one held case (finding.Vat audited) i j here there =
    let one = taken (slice_get held.logs i) (λ log. IsAuditOf log audited) (audits held audited held.logs held.links i here) in
    let other = taken (slice_get held.logs j) (λ log. IsAuditOf log audited) (audits held audited held.logs held.links j there) in
    stands_once (vats_of held.logs) case.rising_vats i j audited.log.vat
    (under (λ (log : Log). log.vat) held.logs i one.0 audited.log.vat one.1 (sym (ap (λ (log : Log). log.vat) one.2.same_log)))
    (under (λ (log : Log). log.vat) held.logs j other.0 audited.log.vat other.1 (sym (ap (λ (log : Log). log.vat) other.2.same_log)))
for_one held case (finding.Link compared) i j here there =
    let one = compares held compared held.logs held.links i here in
    let other = compares held compared held.logs held.links j there in
    let at_one = taken (slice_get held.links one.0) (λ link. IsComparisonOf held.logs link compared) one.2 in
    let at_other = taken (slice_get held.links other.0) (λ link. IsComparisonOf held.logs link compared) other.2 in
    let same : one.0 ≡ other.0 = stands_once (connections_of held.links) case.rising_links one.0 other.0 compared.connection
    (under (λ (link : Link). link.connection) held.links one.0 at_one.0 compared.connection at_one.1 (sym at_one.2.connection))
    (under (λ (link : Link). link.connection) held.links other.0 at_other.0 compared.connection at_other.1 (sym at_other.2.connection)) in
    let e = one.1 in
    let f = other.1 in
    omega arith

-- which piece a finding is for, by the place of its log or its link among these
pub vat_answer : (held : Contents) (audited : Found) (found : Finding) (logs : List Log) (answer : Option ℕ) → found ≡ finding.Vat audited → logs ≡ held.logs
    → MatchOption answer ((k : ℕ) → ¬ IsSomeAnd (slice_get logs k) (λ log. IsAuditOf log audited)) (λ k. IsSomeAnd (slice_get logs k) (λ log. IsAuditOf log audited))
    → MatchOption answer ((number : ℕ) → ¬ IsForPiece held found number) (IsForPiece held found)
vat_answer held audited found logs None is same none = λ number own.
    none number (subst (λ (l : List Log). IsSomeAnd (slice_get l number) (λ log. IsAuditOf log audited)) (sym same)
    (audits held audited held.logs held.links number (subst (λ (f : Finding). IsForPiece held f number) is own)))
vat_answer held audited found logs (Some k) is same at =
    subst (λ (f : Finding). IsForPiece held f k) (sym is)
    (is_audit held audited held.logs held.links k (subst (λ (l : List Log). IsSomeAnd (slice_get l k) (λ log. IsAuditOf log audited)) same at))

module _ (held : Contents) (compared : Ends) (found : Finding) (logs : List Log) (links : List Link) (is : found ≡ finding.Link compared) (same_logs : logs ≡ held.logs) (same_links : links ≡ held.links) where
  pub link_none : ((k : ℕ) → ¬ IsSomeAnd (slice_get links k) (λ link. IsComparisonOf logs link compared)) → (number : ℕ) → ¬ IsForPiece held found number
  link_none none number own =
      let place = compares held compared held.logs held.links number (subst (λ (f : Finding). IsForPiece held f number) is own) in
      none place.0 (subst (λ (l : List Log). IsSomeAnd (slice_get links place.0) (λ link. IsComparisonOf l link compared)) (sym same_logs)
      (subst (λ (ls : List Link). IsSomeAnd (slice_get ls place.0) (λ link. IsComparisonOf held.logs link compared)) (sym same_links) place.2))

  pub link_some : (n k : ℕ) → n ≡ length held.logs → IsSomeAnd (slice_get links k) (λ link. IsComparisonOf logs link compared) → IsForPiece held found (n + k)
  link_some n k len at =
      subst (λ (f : Finding). IsForPiece held f (n + k)) (sym is)
      (is_comparison held compared held.logs held.links (n + k) k (ap (λ (m : ℕ). m + k) len)
      (subst (λ (ls : List Link). IsSomeAnd (slice_get ls k) (λ link. IsComparisonOf held.logs link compared)) same_links
      (subst (λ (l : List Log). IsSomeAnd (slice_get links k) (λ link. IsComparisonOf l link compared)) same_logs at)))

pub vat_found : (held : Contents) (audited : Found) (number : ℕ) (log : Log) → slice_get held.logs number ≡ Some log → IsAuditOf log audited → IsForPiece held (finding.Vat audited) number
vat_found held audited number log at own =
    is_audit held audited held.logs held.links number (given (slice_get held.logs number) (λ (l : Log). IsAuditOf l audited) log at own)

pub link_found : (held : Contents) (compared : Ends) (number k : ℕ) (link : Link) → number ≡ length held.logs + k → slice_get held.links k ≡ Some link
    → IsComparisonOf held.logs link compared → IsForPiece held (finding.Link compared) number
link_found held compared number k link e at own =
    is_comparison held compared held.logs held.links number k e (given (slice_get held.links k) (λ (l : Link). IsComparisonOf held.logs l compared) link at own)
